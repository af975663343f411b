-- The key of a job and its form (specs/Form): the form has the job's key, and jobs of one key have one form. Assumes nothing.
--   key-sym, key-on     SameRules goes both ways, and on
--   form_in, form-from  the rules of a form are those of the job, each written so
--   form-rises          and rise
--   form_key            a job and its form say the same
--   key-form, form_same   jobs say the same exactly where they have one form
use mathlib.Core.Path.{◌≡◌, refl, sym, ◌∙◌, ap, subst}
use mathlib.Core.List.Memᴰ
use mathlib.Core.List.{List, map}
use Rattle.job.specs.Job.{Rule, Job}
use Rattle.job.specs.Encoding.{◌∈◌}
use Rattle.forms.specs.Sorting.{sort, Rises, Same}
use Rattle.forms.specs.Form.{literal_order, rule_order, form_rule, form, Covers, SameRules}
use Rattle.forms.proofs.Sorting.{same-sym, same-on, sort_same, sort-rises, sort_one}
use Rattle.forms.proofs.Orders.{literal_strict, rule_strict, one-rule}

covers-on : {rs ts us : List Rule} → Covers rs ts → Covers ts us → Covers rs us
covers-on h g r m =
    let x = h r m in
    let y = g x.0 x.1 in
    (y.0, y.1, x.2 ∙ y.2, x.3 ∙ y.3, same-on x.4 y.4)

pub key-sym : {j k : Job} → SameRules j k → SameRules k j
key-sym h = record { claims = sym h.claims; workers = sym h.workers; questions = sym h.questions; there = h.back; back = h.there }

pub key-on : {j k l : Job} → SameRules j k → SameRules k l → SameRules j l
key-on {j} {k} {l} h g =
    record {
      claims = h.claims ∙ g.claims;
      workers = h.workers ∙ g.workers;
      questions = h.questions ∙ g.questions;
      there = covers-on {rs = j.rules} {ts = k.rules} {us = l.rules} h.there g.there;
      back = covers-on {rs = l.rules} {ts = k.rules} {us = j.rules} g.back h.back;
    }

module _ (j : Job) where
  pub form_in : (r : Rule) → r ∈ j.rules → form_rule r ∈ (form j).rules
  unfolding form
  form_in r m = (sort_same rule_order rule_strict (map form_rule j.rules)).there (form_rule r) (Memᴰ.map form_rule m)

  pub form-from : (t : Rule) → t ∈ (form j).rules → (r : Rule) × r ∈ j.rules × (form_rule r ≡ t)
  unfolding form
  form-from t m = Memᴰ.of_map form_rule j.rules ((sort_same rule_order rule_strict (map form_rule j.rules)).back t m)

  pub form-rises : Rises rule_order (form j).rules
  unfolding form
  form-rises = sort-rises rule_order rule_strict (map form_rule j.rules)

  form_has : Covers j.rules (form j).rules
  form_has r m = (form_rule r, form_in r m, refl, refl, sort_same literal_order literal_strict r.body)

  has-form : Covers (form j).rules j.rules
  has-form t m =
      let x = form-from t m in
      let r = x.0 in (
        r,
        x.1,
        sym (ap (λ (u : Rule). u.head) x.2),
        sym (ap (λ (u : Rule). u.missing) x.2),
        same-sym (subst (λ (u : Rule). Same r.body u.body) x.2 (sort_same literal_order literal_strict r.body)),
      )

  pub form_key : SameRules j (form j)
  unfolding form
  form_key = record { claims = refl; workers = refl; questions = refl; there = form_has; back = has-form }

-- rules that say the same are written the same
formed : (rs ts : List Rule) → Covers rs ts → (x : Rule) → x ∈ map form_rule rs → x ∈ map form_rule ts
formed rs ts h x m =
    let y = Memᴰ.of_map form_rule rs m in
    let z = h y.0 y.1 in
    let e : form_rule y.0 ≡ form_rule z.0 =
    one-rule (form_rule y.0) (form_rule z.0) z.2 z.3 (sort_one literal_order literal_strict y.0.body z.0.body z.4) in
    Memᴰ.cast (sym y.2 ∙ e) (Memᴰ.map form_rule z.1)

pub key-form : (j k : Job) → SameRules j k → form j ≡ form k
unfolding form
key-form j k h =
    let e : sort rule_order (map form_rule j.rules) ≡ sort rule_order (map form_rule k.rules) =
    sort_one rule_order rule_strict (map form_rule j.rules) (map form_rule k.rules)
    (record { there = formed j.rules k.rules h.there; back = formed k.rules j.rules h.back })
    in
    λ i. record { claims = h.claims i; workers = h.workers i; rules = e i; questions = h.questions i }

pub form_same : (j k : Job) → form j ≡ form k → SameRules j k
form_same j k e = key-on (subst (SameRules j) e (form_key j)) (key-sym (form_key k))

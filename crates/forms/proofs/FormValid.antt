-- The form of a valid job is valid, and no longer. Assumes nothing.
--   no_fall, heads-rise   heads never fall where rules rise
--   missing-empty         a missing record has no literals in the form either
--   form-valid            the form is valid
--   form-length           and no longer
use Prim.Native.Nat.{ℕ, ◌≤◌}
use mathlib.Core.Path.{◌≡◌, refl, sym, ◌∙◌, ap}
use mathlib.Core.Bool.{true}
use mathlib.Core.List.Memᴰ
use mathlib.Core.List.{List, [], ◌∷◌}
use mathlib.Core.Logic.{⊎_elim}
use native.Mathlib.Omega.{arith}
use lib.Dec.{T}
use lib.ListN.{length}
use Rattle.job.specs.Job.{Rule, Job}
use Rattle.job.specs.Encoding.{◌∈◌, encode, Rising, Valid}
use Rattle.job.proofs.Fields.{encode-length}
use Rattle.forms.specs.Sorting.{sort, Rises}
use Rattle.forms.specs.Form.{literal_order, rule_order, form}
use Rattle.forms.proofs.Orders.{rule-cases}
use Rattle.forms.proofs.Keys.{form-from, form-rises, form_key}
use Rattle.forms.proofs.Shorter.{fewer-rules, fewer-literals}

no_fall : (r t : Rule) → T (rule_order r t) → r.head ≤ t.head
no_fall r t h = ⊎_elim (λ l. omega arith) (λ e. omega (arith, e.0)) (rule-cases r t h)

heads-rise : (b : ℕ) (s : List Rule) → ((r : Rule) → r ∈ s → b ≤ r.head) → Rises rule_order s → Rising b s
heads-rise b [] h p = tt
heads-rise b (r ∷ s) h p = (h r (Memᴰ.head refl), heads-rise r.head s (λ t m. no_fall r t (p.0 t m)) p.1)

missing-empty : (j : Job) → Valid j → (t : Rule) → t ∈ (form j).rules → t.missing ≡ true → t.body ≡ []
unfolding sort
missing-empty j v t m e =
    let x = form-from j t m in
    let n : x.0.body ≡ [] = v.missing x.0 x.1 (ap (λ (u : Rule). u.missing) x.2 ∙ e) in
    sym (ap (λ (u : Rule). u.body) x.2) ∙ ap (sort literal_order) n

pub form-valid : (j : Job) → Valid j → Valid (form j)
unfolding form
form-valid j v =
    record {
      claims_most = v.claims_most;
      rules_most = omega (arith, v.rules_most, fewer-rules j.rules);
      literals_most = omega (arith, v.literals_most, fewer-literals j.rules);
      workers_least = v.workers_least;
      workers_most = v.workers_most;
      questions_most = v.questions_most;
      heads_rise = heads-rise 0 (form j).rules (λ r m. omega arith) (form-rises j);
      heads = λ r m. (let z = (form_key j).back r m in omega (arith, z.2, v.heads z.0 z.1));
      missing = missing-empty j v;
      literals = λ r m l k. (let z = (form_key j).back r m in v.literals z.0 z.1 l (z.4.there l k));
      askers = v.askers;
      asked = v.asked;
    }

pub form-length : (j : Job) → Valid j → length (encode (form j)) ≤ length (encode j)
unfolding form
form-length j v =
    omega (arith, encode-length j v, encode-length (form j) (form-valid j v), fewer-rules j.rules, fewer-literals j.rules)

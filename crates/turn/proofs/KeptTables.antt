-- The kept set beside another table: what a turn may change without changing it, and how it is after a claim has passed a literal. Assumes nothing.
--   Grows j c t t'      claims may have passed more literals in t' than in t; the marks are alike: no claim has become complete
--   leads_grow          what is led to is still led to
--   still-keeps         then the set is right still: `same-found` where numbers are the same too, and else the next claim is forgotten
--   lacking-keeps       where claim c leads to b besides
use Prim.Native.Nat.{ℕ, ◌≤◌, ◌<◌}
use mathlib.Core.Path.{◌≡◌, refl, sym, ◌∙◌, subst, subst⁻¹}
use mathlib.Core.List.{List}
use mathlib.Core.Logic.{◌⊎◌, inl, inr, ⊎_elim}
use native.Mathlib.Omega.{arith}
use lib.Dec.{T}
use Rattle.base.specs.Lists.{is_in}
use Rattle.base.specs.Sets.{set_of}
use Rattle.base.proofs.Bools.{same}
use Rattle.job.specs.Job.{Job}
use Rattle.table.specs.Layout.{mark, cursor, number, true_mark}
use Rattle.turn.specs.Turn.{reached}
use Rattle.turn.specs.KeptSet.{Member, Left, Found, Keeps, Lacking}
use Rattle.turn.specs.declared.Kept.{Kept}
use Rattle.std.proofs.Common.{None, Some}
use Rattle.turn.proofs.Behind.{Alike, same as same-mark, below, alike-back, behind-alike}
use Rattle.turn.proofs.Gathering.{seen_low}
use Rattle.turn.proofs.Jobs.{JobOk}
use Rattle.turn.proofs.KeptLaws.{member-low, none_found, some-kept, inside-closed, reached-on}
use Rattle.turn.proofs.Leading.{leads-passed, passed-leads, leads-low, in-low}
use Rattle.turn.proofs.Reached.{Leads, reached-start}

pub record Grows (j : Job) (t t' : List ℕ) : Type 0 where
  pub marks : (x : ℕ) → x < j.claims → Alike (mark t x) (mark t' x)
  pub cursors : (x : ℕ) → x < j.claims → cursor t x ≤ cursor t' x

-- a mark that isn't a complete claim's
alike_open : {m m' : ℕ} → Alike m m' → m < true_mark → m' < true_mark
alike_open (same-mark e) l = omega arith
alike_open (below a b) l = b

module _ (j : Job) (J : JobOk j) (t t' : List ℕ) (g : Grows j t t') where
  pub leads_grow : (x d : ℕ) → x < j.claims → Leads j t x d → Leads j t' x d
  leads_grow x d h l =
      let p = leads-passed j J t l in
      let a = p.0 in
      passed-leads j J t' a.at (omega (arith, a.before, g.cursors x h)) a.real a.is
      (λ b. a.clear (behind-alike J (λ y k. alike-back (g.marks y k)) (omega (arith, a.real)) b)) (alike_open (g.marks d (leads-low j J t x d l)) p.1)

  -- what was led to before is in every set that is closed now
  pub reached_grow : (c : ℕ) → c < j.claims → (d : ℕ) → T (is_in d (reached j t c)) → T (is_in d (reached j t' c))
  reached_grow c h d r =
      inside-closed j J t (λ x. T (is_in x (reached j t' c)))
      (λ x y l i. reached-on j J t' c h x y i (leads_grow x y (in-low j J t' x h i) l).leads_in) c h (reached-start j t' c h) d r

  module _ (k : Kept) (place members : List ℕ) (p : Keeps j t k place members) where
    in-claims : (d : ℕ) → T (set_of place d) → d < j.claims
    in-claims d h = omega (arith, seen_low place d h, p.gathered.long)

    member-claim : (d : ℕ) → Member members k.count d → d < j.claims
    member-claim d m = subst (λ (x : ℕ). x < j.claims) m.is (member-low p.gathered m.at m.before)

    pub start-there : (x : ℕ) → k.from ≡ Some x → T (set_of place x)
    start-there x e = subst⁻¹ T (p.reaches x e x) (reached-start j t x (p.low x e))

    -- which claim is to move on: candidates are no more than they were, and no newer
    module _ (owners : (x : ℕ) → x < j.claims → mark t' x ≡ mark t x) (numbers : (x : ℕ) → x < j.claims → number t' x ≡ number t x) where
      pub same-found : Found j t' k members
      same-found =
          record {
            inside = p.found.inside;
            newest = λ x e d m l.
                let low = member-claim d m in
                let was : Left j t x.worker d = record { own = sym (owners d low) ∙ l.own; some = omega (arith, l.some, g.cursors d low) } in
                let o = p.found.newest x e d m was in
                let a = numbers d low in
                let b = numbers x.claim (member-claim x.claim (p.found.inside x e)) in
                record { most = omega (arith, o.most); tie = λ z. o.tie (omega arith) };
          }

    -- nothing more is led to
    module _ (less : (x d : ℕ) → x < j.claims → Leads j t' x d → Leads j t x d) where
      shut : (x y : ℕ) → Leads j t' x y → T (set_of place x) → (z : ℕ) → k.from ≡ Some z → T (set_of place y)
      shut x y l h z e =
          subst⁻¹ T (p.reaches z e y)
          (reached-on j J t z (p.low z e) x y (subst T (p.reaches z e x) h) (less x y (in-claims x h) l).leads_in)

      still-reaches : (z : ℕ) → k.from ≡ Some z → (d : ℕ) → set_of place d ≡ is_in d (reached j t' z)
      still-reaches z e d =
          same (set_of place d) (is_in d (reached j t' z)) (λ h. reached_grow z (p.low z e) d (subst T (p.reaches z e d) h))
          (λ h. inside-closed j J t' (λ x. T (set_of place x)) (λ x y l m. shut x y l m z e) z (p.low z e) (start-there z e) d h)

      pub still-keeps : Found j t' k members → Keeps j t' k place members
      still-keeps f = record { gathered = p.gathered; nothing = p.nothing; low = p.low; reaches = still-reaches; found = f }

      -- the same set, the next claim forgotten
      pub forgets-keeps : Keeps j t' (record { from = k.from; count = k.count; chosen = None }) place members
      forgets-keeps = record { gathered = p.gathered; nothing = p.nothing; low = p.low; reaches = still-reaches; found = none_found refl }

    -- claim c leads to b besides
    module _ (c b : ℕ) (there : Leads j t' c b) (less : (x d : ℕ) → x < j.claims → Leads j t' x d → Leads j t x d ⊎ ((x ≡ c) × (d ≡ b))) (f : Found j t' k members) where
      pub lacking-keeps : Lacking j t' c b k place members
      lacking-keeps =
          record {
            gathered = p.gathered;
            nothing = p.nothing;
            low = p.low;
            start = start-there;
            sound = λ z e d i. reached_grow z (p.low z e) d (subst T (p.reaches z e d) i);
            onward = λ x d h l. ⊎_elim (λ z. inl (on x d h z)) (λ z. inr z) (less x d (in-claims x h) (record { leads_in = l }));
            passed = there.leads_in;
            found = f;
          }
        where
          on : (x d : ℕ) → T (set_of place x) → Leads j t x d → T (set_of place d)
          on x d h z =
              let q = some-kept k place members p.gathered p.nothing x h in
              subst⁻¹ T (p.reaches q.0 q.1 d) (reached-on j J t q.0 (p.low q.0 q.1) x d (subst T (p.reaches q.0 q.1 x) h) z.leads_in)

-- The words of one claim, by what was read of them. Assumes nothing.
--   counted    the literals that the index gives a claim are as many as it has
--   fitting    where all tests of `claim_fits` pass, the claim's words are in range
use Prim.Native.Nat.{ℕ, ◌+◌, ◌-◌, ◌<◌, ◌≤◌}
use mathlib.Core.Path.{◌≡◌, refl, sym, ◌∙◌, ap}
use mathlib.Core.Bool.{Bool, true, false, not, ◌&&◌, ◌||◌, beq, false≢true}
use mathlib.Core.List.{List}
use mathlib.Core.Logic.{◌⊎◌, inl, inr, ⊎_elim}
use native.Mathlib.Omega.{arith}
use borrow.Author.Tests.{leb-true, eqb-true, eqb-false, eq-eqb, ne_eqb}
use lib.Dec.{leb, eqb}
use lib.ListN.{length, get_or}
use Rattle.base.proofs.Bools.{and_both}
use Rattle.job.specs.Accepted.{WellFormed}
use Rattle.job.specs.Claims.{Index}
use Rattle.job.specs.Format.{claims, job_of}
use Rattle.job.specs.Job.{Job, literals_of}
use Rattle.job.specs.declared.Cursor.{Cursor}
use Rattle.job.proofs.Contiguous.{claim-literals}
use Rattle.table.specs.Layout.{mark, cursor, number, true_mark, undefined_mark}
use Rattle.table.specs.Ranges.{ClaimInRange}

pub counted : (s index : List ℕ) (c : ℕ) {r : Cursor} → WellFormed s → Index s index → c < claims s → r ≡ record { at = get_or index c 0 + 0; end = get_or index (c + 1) 0 } → (r.at ≤ r.end) × (r.end - r.at ≡ length (literals_of c (job_of s).rules))
counted s index c f i l e =
    let at = i.starts in
    let p = claim-literals s f c in
    let x = ap (λ (y : Cursor). y.at) e in
    let z = ap (λ (y : Cursor). y.end) e in
    omega (arith, at c (omega arith), at (c + 1) (omega arith))

either : (a b : Bool) → (a || b) ≡ true → (a ≡ true) ⊎ (b ≡ true)
either true b e = inl refl
either false b e = inr e

alike : (a b : Bool) → beq a b ≡ true → a ≡ b
alike true true e = refl
alike true false e = absurd (false≢true e)
alike false true e = absurd (false≢true e)
alike false false e = refl

unless : (x : ℕ) (b : Bool) → (not (eqb x 0) || b) ≡ true → x ≡ 0 → b ≡ true
unless x b e z = sym (rw (eq-eqb x 0 z)) ∙ e

module _ (j : Job) (t : List ℕ) (c : ℕ) {m x n w l a : ℕ} where
  pub fitting : m ≡ mark t c → x ≡ cursor t c → n ≡ number t c → w ≡ j.workers → l ≡ length (literals_of c j.rules) → a ≡ j.claims → (((leb m w || (leb true_mark m && leb m undefined_mark)) && (leb x l && (not (eqb m 0) || eqb x 0))) && (leb n a && beq (eqb m 0) (eqb n 0))) ≡ true → ClaimInRange j t c
  fitting e₁ e₂ e₃ e₄ e₅ e₆ h =
      let value = leb true_mark m && leb m undefined_mark in
      let empty = not (eqb m 0) || eqb x 0 in
      let both = beq (eqb m 0) (eqb n 0) in
      let p = and_both ((leb m w || value) && (leb x l && empty)) (leb n a && both) h in
      let q = and_both (leb m w || value) (leb x l && empty) p.0 in
      let k = and_both (leb x l) empty q.1 in
      let u = and_both (leb n a) both p.1 in
      let s = alike (eqb m 0) (eqb n 0) u.1 in
      record {
        mark_in =
            ⊎_elim (λ v. inl (omega (arith, leb-true m w v)))
            (λ v.
            let b = and_both (leb true_mark m) (leb m undefined_mark) v in
            inr (omega (arith, leb-true true_mark m b.0), omega (arith, leb-true m undefined_mark b.1)))
            (either (leb m w) value q.0);
        unread = λ z. omega (arith, eqb-true x 0 (unless m (eqb x 0) k.1 (omega arith)));
        read = omega (arith, leb-true x l k.0);
        unnumbered = λ z. omega (arith, eqb-true n 0 (sym s ∙ eq-eqb m 0 (omega arith)));
        numbered = λ z. let o = eqb-false n 0 (sym s ∙ ne_eqb m 0 (λ y. z (omega arith))) in omega (arith, o);
        number_most = omega (arith, leb-true n a u.0);
      }

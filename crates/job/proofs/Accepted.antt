-- A job is accepted exactly where it is well formed. Assumes nothing.
use Prim.Native.Nat.{ℕ, zero, suc, ◌<◌, ◌≤◌}
use mathlib.Core.Path.{◌≡◌, refl, sym, ◌∙◌}
use mathlib.Core.Bool.{false}
use mathlib.Core.List.{List}
use mathlib.Core.Logic.{◌↔◌}
use native.Mathlib.Omega.{arith}
use lib.ListN.{length}
use Rattle.base.specs.Compare.{under, not_below}
use Rattle.base.proofs.Bools.{neither, or_no}
use Rattle.base.proofs.Compare.{under-no, under_le, over_no, over_le, not_below-no, not_below_lt, differs-no, differs_eq}
use Rattle.job.specs.Format.{rules, literals, body_start}
use Rattle.job.specs.Checks.{long_body, check_length, check_total, check_counts, check_offsets, check_heads, check_bodies, check_literals, check_questions, check_header, check_parts, check_job}
use Rattle.job.specs.Accepted.{Sized, WellFormed}
use Rattle.job.specs.Check.{Accepted}
use Rattle.job.proofs.Rows.{both, join, pass, row-no, scan_all, scan_none}
use Rattle.job.proofs.Parts.{body-within}

-- the header
pub length-least : (s : List ℕ) → Accepted ≡ check_length s → 36 ≤ length s
unfolding check_length
length-least s e = under_le _ _ (row-no _ _ _ (both _ _ e).0)

pub header-sized : (s : List ℕ) → Accepted ≡ check_header s → Sized s
unfolding check_header check_total check_counts check_offsets
header-sized s e =
    let h₂ = both _ _ (both _ _ e).1 in
    let h₃ = both _ _ h₂.1 in
    let n₁ = both _ _ h₃.0 in
    let n₂ = both _ _ n₁.1 in
    let n₃ = both _ _ n₂.1 in
    let n₄ = both _ _ n₃.1 in
    let n₅ = both _ _ n₄.1 in
    let n₆ = both _ _ n₅.1 in
    let o₁ = both _ _ h₃.1 in
    let o₂ = both _ _ o₁.1 in
    let o₃ = both _ _ o₂.1 in
    let o₄ = both _ _ o₃.1 in
    let t = differs_eq _ _ (row-no _ _ _ (both _ _ h₂.0).0) in
    record {
      claims_most = over_le _ _ (row-no _ _ _ n₁.0);
      rules_most = over_le _ _ (row-no _ _ _ n₂.0);
      literals_most = over_le _ _ (row-no _ _ _ n₃.0);
      workers_least = under_le _ _ (row-no _ _ _ n₄.0);
      workers_most = over_le _ _ (row-no _ _ _ n₅.0);
      questions_most = over_le _ _ (row-no _ _ _ n₆.0);
      total_is = t;
      rules_from = differs_eq _ _ (row-no _ _ _ o₁.0);
      literals_from = differs_eq _ _ (row-no _ _ _ o₂.0);
      questions_from = differs_eq _ _ (row-no _ _ _ o₃.0);
      size = sym t ∙ differs_eq _ _ (row-no _ _ _ o₄.0);
    }

sized-header : (s : List ℕ) → Sized s → Accepted ≡ check_header s
unfolding check_header check_length check_total check_counts check_offsets
sized-header s z =
    join _ _ (pass _ _ _ _ (under-no _ _ (omega arith)) (pass _ _ _ _ (over_no _ _ (omega arith)) refl))
    (join _ _ (pass _ _ _ _ (differs-no _ _ z.total_is) refl)
    (join _ _
    (pass _ _ _ _ (over_no _ _ z.claims_most)
    (pass _ _ _ _ (over_no _ _ z.rules_most)
    (pass _ _ _ _ (over_no _ _ z.literals_most)
    (pass _ _ _ _ (under-no _ _ z.workers_least) (pass _ _ _ _ (over_no _ _ z.workers_most) (pass _ _ _ _ (over_no _ _ z.questions_most) refl))))))
    (pass _ _ _ _ (differs-no _ _ z.rules_from)
    (pass _ _ _ _ (differs-no _ _ z.literals_from)
    (pass _ _ _ _ (differs-no _ _ z.questions_from) (pass _ _ _ _ (differs-no _ _ (z.total_is ∙ z.size)) refl))))))

-- no bodies that pass the literals, and none short of them: they end at their count
bodies_end : (s : List ℕ) (m : ℕ) → ((k : ℕ) → k < m → long_body s k ≡ false) → body_start s m ≤ literals s
unfolding body_start
bodies_end s zero h = omega arith
bodies_end s (suc m) h = over_le _ _ (h m (omega arith))

pub bodies-sum : (s : List ℕ) → Accepted ≡ check_bodies s → body_start s (rules s) ≡ literals s
unfolding check_bodies
bodies-sum s e =
    let most : body_start s (rules s) ≤ literals s = bodies_end s (rules s) (scan_all _ _ _ _ (both _ _ e).0) in
    let least : literals s ≤ body_start s (rules s) = under_le _ _ (row-no _ _ _ (both _ _ (both _ _ e).1).0) in
    omega arith

pub well_formed : (s : List ℕ) → Accepted ≡ check_job s → WellFormed s
unfolding check_job check_parts check_heads check_literals check_questions
well_formed s e =
    let j = both _ _ e in
    let p₁ = both _ _ j.1 in
    let p₂ = both _ _ p₁.1 in
    let p₃ = both _ _ p₂.1 in
    record {
      sized = header-sized s j.0;
      head = λ i l. not_below_lt _ _ (neither (not_below _ _) (under _ _) (scan_all _ _ _ _ p₁.0 i l)).0;
      rise = λ i l. under_le _ _ (neither (not_below _ _) (under _ _) (scan_all _ _ _ _ p₁.0 i l)).1;
      bodies = bodies-sum s p₂.0;
      literal = λ k l. not_below_lt _ _ (scan_all _ _ _ _ p₃.0 k l);
      asker = λ q l. not_below_lt _ _ (neither (not_below _ _) (not_below _ _) (scan_all _ _ _ _ p₃.1 q l)).0;
      asked = λ q l. not_below_lt _ _ (neither (not_below _ _) (not_below _ _) (scan_all _ _ _ _ p₃.1 q l)).1;
    }

pub accepted : (s : List ℕ) → WellFormed s → Accepted ≡ check_job s
unfolding check_job check_parts check_heads check_bodies check_literals check_questions
accepted s w =
    join _ _ (sized-header s w.sized)
    (join _ _ (scan_none _ _ _ _ (λ i l. or_no (not_below _ _) (under _ _) (not_below-no _ _ (w.head i l)) (under-no _ _ (w.rise i l))))
    (join _ _
    (join _ _ (scan_none _ _ _ _ (λ i l. over_no _ _ (omega (arith, body-within s i (rules s) l, w.bodies))))
    (pass _ _ _ _ (under-no _ _ (omega (arith, w.bodies))) refl))
    (join _ _ (scan_none _ _ _ _ (λ k l. not_below-no _ _ (w.literal k l)))
    (scan_none _ _ _ _ (λ q l. or_no (not_below _ _) (not_below _ _) (not_below-no _ _ (w.asker q l)) (not_below-no _ _ (w.asked q l)))))))

pub accepted-exactly : (s : List ℕ) → (Accepted ≡ check_job s) ↔ WellFormed s
accepted-exactly s = (well_formed s, accepted s)

-- the bytes of its header are there
pub header-room : (s : List ℕ) → WellFormed s → 36 ≤ length s
header-room s good = omega (arith, good.sized.size)

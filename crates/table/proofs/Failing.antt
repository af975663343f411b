-- Literals that are complete and false. Assumes nothing.
--   failed_done            their claims are complete
--   failed_is, failed-low  by the tests that the code makes
use Prim.Native.Nat.{ℕ, ◌≤◌, ◌<◌}
use mathlib.Core.Path.{◌≡◌, ◌∙◌, ap, ap₂}
use mathlib.Core.Bool.{false}
use mathlib.Core.List.{List}
use native.Mathlib.Omega.{arith}
use lib.Dec.{T, eqb, eqb→eq}
use Rattle.base.proofs.Bools.{same}
use Rattle.job.specs.Job.{claim_of}
use Rattle.job.specs.declared.Literal.{Literal}
use Rattle.job.specs.declared.Literal.TheVariants.{Plain, Negated}
use Rattle.table.specs.Layout.{mark, true_mark}
use Rattle.table.specs.Literals.{failing_mark, failed}

false-least : (l : Literal) → true_mark ≤ failing_mark l
false-least (Plain c) = omega arith
false-least (Negated c) = omega arith

-- what is complete and false
pub failed_done : (t : List ℕ) (l : Literal) → T (failed t l) → true_mark ≤ mark t (claim_of l)
unfolding failed
failed_done t l h = omega (arith, eqb→eq (mark t (claim_of l)) (failing_mark l) h, false-least l)

pub failed_is : (t : List ℕ) (l : Literal) {b m f : ℕ} → b ≡ claim_of l → m ≡ mark t b → f ≡ failing_mark l → eqb m f ≡ failed t l
unfolding failed
failed_is t l e q r = ap₂ eqb (q ∙ ap (mark t) e) r

-- a claim that isn't complete makes no literal false
pub failed-low : (t : List ℕ) (l : Literal) {b m : ℕ} → b ≡ claim_of l → m ≡ mark t b → m < true_mark → false ≡ failed t l
failed-low t l e q h = same false (failed t l) (λ z. absurd z) (λ z. absurd (omega (arith, failed_done t l z, ap (mark t) e)))

use mathlib.Core.Path.{sym, ◌∙◌}
use native.Mathlib.Omega.{arith}
use Rattle.base.proofs.Choose.{pick_true, pick-false}
use Rattle.base.proofs.Compare.{under-yes, under-no, over_yes, over_no}
use Rattle.listing.specs.Listing.{job_end}
use Rattle.job.specs.Bytes.{word}
use Prim.Native.Nat.{ℕ, ◌≤◌, min}
use mathlib.Core.Path.{◌≡◌}
use mathlib.Core.List.{List}
use mathlib.Core.Logic.{by_cases}
use native.Mathlib.Decide.{dec_lt}
use lib.ListN.{length}
use Rattle.listing.proofs.input.job_end.Goals as goal

end_is : (i : List ℕ) (w r : ℕ) → 4 ≤ length i → w ≡ word i 0 → r ≡ min w (length i) → r ≡ job_end i
unfolding job_end
end_is i w r h e q =
    by_cases (dec_lt (length i) (word i 0)) (λ l. omega arith ∙ sym (pick-false _ _ _ (under-no _ _ h) ∙ pick_true _ _ _ (over_yes _ _ l)))
    (λ n. omega arith ∙ sym (pick-false _ _ _ (under-no _ _ h) ∙ pick-false _ _ _ (over_no _ _ (omega arith))))

pub returns-then-n-lt4 : goal.returns-then-n-lt4
unfolding job_end
returns-then-n-lt4 c = (sym (pick_true _ _ _ (under-yes _ _ (omega arith))), omega arith)

pub returns : goal.returns
returns c = (end_is _ _ _ (omega arith) c.word.ensures.value c.min.ensures, omega (arith, c.min.ensures))

-- Literals beside a table.
--   failing_mark l   the mark of its claim that makes literal l false; failed t l   literal l is complete and false
use Rattle.std.specs.Prelude.{ℕ, Bool, List, eqb}
use Rattle.job.specs.Job.{claim_of}
use Rattle.job.specs.declared.Literal.{Literal}
use Rattle.job.specs.declared.Literal.TheVariants.{Plain, Negated}
use Rattle.table.specs.Layout.{mark, false_mark, true_mark}

-- a plain literal is false where its claim is false, a negated one where it is true
abbrev pub failing_mark : Literal → ℕ
failing_mark (Plain c) = false_mark
failing_mark (Negated c) = true_mark

unfoldable pub failed : List ℕ → Literal → Bool
failed t l = eqb (mark t (claim_of l)) (failing_mark l)

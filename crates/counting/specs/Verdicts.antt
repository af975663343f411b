-- The verdicts of the code.
--   meant v   the verdict that v stands for
use Rattle.semantics.specs.Model as Model
use Rattle.counting.specs.declared.needed.Verdict.{Verdict}
use Rattle.counting.specs.declared.needed.Verdict.TheVariants.{True, False, Undefined}

abbrev pub meant : Verdict → Model.Verdict
meant True = Model.True
meant False = Model.False
meant Undefined = Model.Undefined

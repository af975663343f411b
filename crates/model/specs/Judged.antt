-- The verdicts that the code writes (src/verdicts), as verdicts of the model.
--   judged v   the verdict of the model that v stands for
use Rattle.semantics.specs.Model as Model
use Rattle.model.specs.declared.verdicts.Verdict.{Verdict}
use Rattle.model.specs.declared.verdicts.Verdict.TheVariants.{True, False, Undefined}

abbrev pub judged : Verdict → Model.Verdict
judged True = Model.True
judged False = Model.False
judged Undefined = Model.Undefined

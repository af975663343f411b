use mathlib.Core.Path.{sym, ◌∙◌, ap}
use Rattle.job.specs.Format.{claims}
use Rattle.zestchintz.specs.Code.{code_of}
use Rattle.zestchintz.proofs.Answers.{coded, told-code}
use Rattle.zestchintz.proofs.code_of.Goals as goal

pub claim_count-requires : goal.claim_count-requires
claim_count-requires c = c.requires.header c.in-Ok.is

pub returns-in-Ok : goal.returns-in-Ok
unfolding code_of
returns-in-Ok c = coded c.requires (c.claim_count.ensures.value ∙ sym (ap (code_of _) c.in-Ok.is))

pub returns-in-Err : goal.returns-in-Err
unfolding code_of
returns-in-Err c = coded c.requires (c.in_halves.ensures ∙ (told-code _ (c.requires.told _ _ c.in-Err.is) ∙ sym (ap (code_of (claims c.args.job.now)) c.in-Err.is)))

use mathlib.Core.Path.{sym, ap, ◌∙◌}
use native.Mathlib.Omega.{arith}
use lib.ListN.{length}
use Rattle.counting.proofs.Written.{chosen_none, chosen-some}
use Rattle.counting.proofs.write.choice_length.Goals as goal

pub returns-then-v-eq0 : goal.returns-then-v-eq0
returns-then-v-eq0 c = record { value = sym (ap length (chosen_none c.args.size _ c.if-v-eq0.true)); small = omega arith }

pub returns : goal.returns
returns c = record { value = c.body_length.ensures.value ∙ sym (ap length (chosen-some _ _ c.if-v-eq0.false c.requires.1)); small = c.body_length.ensures.small }

-- The loop's invariant: the end sought from here on is the one sought.
use mathlib.Core.Path.{◌≡◌}
use Rattle.job.specs.Claims.{end_in}
use Rattle.job.proofs.IndexEnds.{seek}
use Rattle.job.proofs.claims.rule_end.Given as goal

abbrev pub invariant-loop-end : goal.invariant-loop-end
invariant-loop-end l = seek l.index l.end ≡ end_in l.index l.at

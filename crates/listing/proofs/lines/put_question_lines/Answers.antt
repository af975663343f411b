use native.Mathlib.Omega.{arith}
use Rattle.listing.proofs.Runs.{least, first_none, first_more, first-whole}
use Rattle.listing.proofs.lines.put_question_lines.Goals as goal

pub loop-k-init : goal.loop-k-init
loop-k-init c = first_none c.args.job.now c.args.table.now _

pub put_question-requires-clause-fits : goal.put_question-requires-clause-fits
put_question-requires-clause-fits c = omega (arith, least c.loop-k.invariant.writes)

pub loop-k-preserved : goal.loop-k-preserved
loop-k-preserved c = first_more c.args.job.now c.args.table.now c.question_count-k-end.ensures.accepted c.loop-k.k (omega arith) (omega arith) c.loop-k.invariant c.put_question.ensures

pub returns : goal.returns
returns c = (first-whole c.args.job.now c.args.table.now (omega arith) c.loop-k.invariant.writes, omega arith)

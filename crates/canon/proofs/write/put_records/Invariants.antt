-- Each turn writes one rule.
use Rattle.job.specs.Format.{rules}
use Rattle.job.specs.Encoding.{rule_bytes}
use Rattle.base.specs.Lists.{Within}
use Rattle.canon.specs.Kept.{line_at}
use Rattle.canon.specs.Sizes.{Sizes}
use Rattle.writing.proofs.Writing.{Along}
use Rattle.canon.proofs.write.put_records.Given as goal

abbrev pub invariant-loop-i : goal.invariant-loop-i
invariant-loop-i l = (Sizes l.job l.sizes × Within l.order (rules l.job)) × Along (λ i. rule_bytes (line_at l.job i)) l.initial.out l.order l.out l.i-index

-- Each turn writes one rule.
use Rattle.writing.proofs.Writing.{Along}
use Rattle.lines.specs.Placing.{record_at}
use Rattle.lines.proofs.write.put_records.Given as goal

abbrev pub invariant-loop-p : goal.invariant-loop-p
invariant-loop-p l = Along (record_at l.notes) l.initial.out l.order l.out l.p-index

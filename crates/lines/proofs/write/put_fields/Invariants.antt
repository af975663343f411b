-- Each turn writes one note's field.
use Rattle.writing.proofs.Writing.{Along}
use Rattle.job.specs.Encoding.{half_bytes}
use Rattle.lines.proofs.write.put_fields.Given as goal

abbrev pub invariant-loop-note : goal.invariant-loop-note
invariant-loop-note l = Along (λ x. half_bytes x) l.initial.out l.notes l.out l.note-index

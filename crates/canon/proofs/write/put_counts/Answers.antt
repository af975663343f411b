-- The counts are the form's.
use mathlib.Core.Path.{refl}
use native.Mathlib.Omega.{arith}
use Rattle.writing.proofs.Writing.{writes_as}
use Rattle.job.proofs.Accepted.{accepted}
use Rattle.forms.specs.Form.{form_bytes}
use Rattle.forms.proofs.Laws.{one_form}
use Rattle.canon.proofs.Handed.{sizes-within}
use Rattle.canon.proofs.Heading.{form_size, header-form}
use Rattle.canon.proofs.write.put_counts.Goals as goal

pub count_literals-requires : goal.count_literals-requires
unfolding form_bytes
count_literals-requires c = let p = c.requires.sizes in
    let a = c.claim_count.ensures.accepted in
    (sizes-within p.0 p.1.within, omega (arith, form_size p.0 p.1, (one_form _ (accepted _ a)).shorter, a.sized))

pub put_header-requires : goal.put_header-requires
unfolding form_bytes
put_header-requires c = let p = c.requires.sizes in
    let a = c.claim_count.ensures.accepted in
    let e = form_size p.0 p.1 in
    record {
      size = omega (arith, e, (one_form _ (accepted _ a)).shorter, a.sized, c.count_literals.ensures, c.question_count.ensures.value);
      room = omega (arith, e, c.requires.room);
    }

pub returns : goal.returns
returns c = let p = c.requires.sizes in
    writes_as c.put_header.ensures (header-form p.0 p.1 _ _ _ _ _ c.claim_count.ensures.value refl c.count_literals.ensures c.worker_count.ensures.value c.question_count.ensures.value)

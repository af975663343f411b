-- : the notes of the text are the rules' and then the questions'.
use Rattle.writing.proofs.Wrote.{put_as}
use Rattle.lines.proofs.Joined.{order-taken, order-counted, put-within}
use Rattle.lines.proofs.Whole.{readable-few, readable_parted, readable-bytes}
use Rattle.lines.proofs.write.put_job.Goals as goal

pub note_numbers-n-requires : goal.note_numbers-n-requires
note_numbers-n-requires c = readable-few _ _ _ c.requires

pub slice_bounds-notes-end : goal.slice_bounds-notes-end
slice_bounds-notes-end c = put-within _ _ _ _ (readable-few _ _ _ c.requires) c.note_numbers-n.ensures

pub slice_bounds-put_parts-end : goal.slice_bounds-put_parts-end
slice_bounds-put_parts-end c = order-counted _ _ _ _ c.note_numbers-n.ensures

pub put_parts-requires : goal.put_parts-requires
put_parts-requires c = rw (order-taken _ _ _ _ c.note_numbers-n.ensures) (readable_parted _ _ _ c.requires)

pub returns : goal.returns
returns c = λ l e. put_as (rw (order-taken _ _ _ _ c.note_numbers-n.ensures) at c.put_parts.ensures) (readable-bytes _ _ _ c.requires l e)

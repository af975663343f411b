-- Head and body length, one after the other.
use mathlib.Core.Path.{refl, ◌∙◌}
use native.Mathlib.Omega.{arith}
use Rattle.writing.proofs.Writing.{writes-room}
use Rattle.lines.proofs.Bodies.{record_put}
use Rattle.lines.proofs.write.put_record.Goals as goal

pub put_half-requires-2 : goal.put_half-requires-2
put_half-requires-2 c = writes-room _ _ _ (omega arith) c.put_half.ensures 2 (omega arith)

pub returns : goal.returns
returns c = record {
  same_buffer = c.put_half-2.ensures.same_buffer ∙ c.put_half.ensures.same_buffer;
  put = record_put _ _ _ _ _ _ _ _ _ _ (omega arith) refl c.body_length.ensures c.put_half.ensures.put c.put_half-2.ensures.put;
}

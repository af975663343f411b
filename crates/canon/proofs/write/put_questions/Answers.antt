-- The job's last bytes.
use Rattle.writing.proofs.Writing.{writes_as}
use Rattle.canon.proofs.write.put_questions.Goals as goal

pub put_bytes-requires : goal.put_bytes-requires
put_bytes-requires c = rw c.question_bytes.ensures c.requires

pub returns : goal.returns
returns c = writes_as c.put_bytes.ensures c.question_bytes.ensures

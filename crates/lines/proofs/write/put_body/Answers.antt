-- The notes up to the next head, as fields.
use Rattle.lines.proofs.Bodies.{body-fits, body_put}
use Rattle.lines.proofs.write.put_body.Goals as goal

pub put_fields-requires : goal.put_fields-requires
put_fields-requires c = body-fits _ _ _ _ _ c.body_length.ensures c.requires.1

pub returns : goal.returns
returns c = record { same_buffer = c.put_fields.ensures.same_buffer; put = body_put _ _ _ c.body_length.ensures c.put_fields.ensures.put }

use Rattle.listing.proofs.Finishing.{most-small, most_is}
use Rattle.listing.proofs.finish.most_turns.Goals as goal

pub returns : goal.returns
returns c = record { value = most_is _ c.worker_count.ensures.accepted c.literal_count.ensures.value c.claim_count.ensures.value c.question_count.ensures.value c.worker_count.ensures.value; small = most-small _ c.worker_count.ensures.accepted c.literal_count.ensures.value c.claim_count.ensures.value c.question_count.ensures.value c.worker_count.ensures.value }

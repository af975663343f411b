use mathlib.Core.Path.{refl, sym}
use native.Mathlib.Omega.{arith}
use lib.Seq.{length-take-le}
use Rattle.listing.proofs.Accepting.{used_most, used_zeros}
use Rattle.listing.proofs.list.list_accepted.Goals as goal

pub slice_bounds-table-end : goal.slice_bounds-table-end
slice_bounds-table-end c = omega (arith, used_most _ c.claim_count.ensures.accepted, c.used_words-used.ensures.value)

pub slice_bounds-list_on-end : goal.slice_bounds-list_on-end
slice_bounds-list_on-end c = sym (length-take-le _ _ (omega (arith, used_most _ c.claim_count.ensures.accepted, c.used_words-used.ensures.value)))

pub list_on-requires-clause-zeros : goal.list_on-requires-clause-zeros
list_on-requires-clause-zeros c = used_zeros _ c.claim_count.ensures.accepted refl c.used_words-used.ensures.value

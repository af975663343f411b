-- One worker plays all turns on a table of zeros.
use Prim.Native.Nat.{ℕ}
use mathlib.Core.Path.{ap, ◌∙◌}
use native.Mathlib.Omega.{arith}
use lib.ListN.{replicate}
use Rattle.listing.proofs.Accepting.{some_zeros}
use Rattle.counting.proofs.Summing.{changing-low, needed-by}
use Rattle.counting.proofs.needed.turns_needed.Goals as goal

pub all_changing-requires : goal.all_changing-requires
all_changing-requires c = changing-low c.args.job.now c.claim_count.ensures.accepted _ c.play-tally.ensures.value

pub returns : goal.returns
returns c = needed-by c.args.job.now c.claim_count.ensures.accepted _ c.play-tally.ensures.value
    (some_zeros _ 23 (omega (arith, c.requires, c.used_words-used.ensures.value)) ∙ ap (λ (n : ℕ). replicate {A = ℕ} n 0) c.used_words-used.ensures.value) c.all_changing.ensures

use Prim.Native.Nat.{ℕ, ◌+◌, ◌-◌, ◌≤◌, ◌<◌}
use mathlib.Core.Path.{◌≡◌}
use lib.ListN.{length, get_or}
use Rattle.job.specs.Claims.{claim_start, bounds_from, index_entries, Bounds}
use Rattle.job.specs.Format.{claims, rules, literals, head_at, body_start}
use Rattle.job.proofs.claims.fill_index.Given as goal

abbrev pub invariant-loop-claim : goal.invariant-loop-claim
invariant-loop-claim l = (length l.index ≡ index_entries) × (l.i ≤ rules l.job) × (l.claim ≤ claims l.job + 1) × (l.passed ≡ body_start l.job l.i) × (l.passed ≤ literals l.job) × ((j : ℕ) → j < l.i → head_at l.job j < l.claim) × ((d : ℕ) → d < l.claim → get_or l.index d 0 ≡ claim_start l.job d) × Bounds l.job l.index l.i × (claims l.job < l.claim → l.i ≡ rules l.job) × ((d : ℕ) → l.claim ≤ d → d < bounds_from → get_or l.index d 0 ≡ 0)

abbrev pub decreases-loop-claim : goal.decreases-loop-claim
decreases-loop-claim l = (rules l.job - l.i) + (claims l.job + 1 - l.claim)

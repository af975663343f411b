-- The rules of a claim, from its last one down, until one counts nothing (specs/Counters: Idle). Rules rise by head, so they stand
-- together. Assumes nothing.
--   Busy          no rule of claim c from r on counts nothing, and the heads below r are no later than c
--   busy-start    one more than the last rule of c
--   busy-other    the rule before r is of another claim: c has no rule that counts nothing
use Prim.Native.Nat.{ℕ, ◌-◌, ◌<◌, ◌≤◌}
use mathlib.Core.Path.{◌≡◌}
use mathlib.Core.List.{List}
use mathlib.Core.Logic.{by_cases}
use native.Mathlib.Omega.{arith}
use native.Mathlib.Decide.{dec_lt}
use lib.ListN.{get_or}
use Rattle.job.specs.Accepted.{WellFormed}
use Rattle.job.specs.Format.{rules, head_at}
use Rattle.job.proofs.Parts.{rises}
use Rattle.counters.specs.Positions.{Latest}
use Rattle.counters.specs.Counters.{Idle}

pub record Busy (s cnt : List ℕ) (c r : ℕ) : Type 0 where
  pub within : r ≤ rules s
  pub busy : (p : ℕ) → r ≤ p → p < rules s → head_at s p ≡ c → get_or cnt p 0 ≡ 0 → ⊥
  pub low : (p : ℕ) → p < r → head_at s p ≤ c

module _ {s : List ℕ} (good : WellFormed s) {c : ℕ} where
  pub busy-start : (cnt : List ℕ) {end : ℕ} → Latest (head_at s) (rules s) c end → Busy s cnt c end
  busy-start cnt {end} last =
      record {
        within = last.within;
        busy = λ p l m e z. last.past p l m e;
        low = λ p l.
            omega (
              arith,
              last.within,
              rises s (rules s) good.rise p (end - 1) (omega arith) (omega (arith, last.within)),
              last.here (end - 1) (omega arith),
            );
      }

  -- the rule before r
  module _ {cnt : List ℕ} {r : ℕ} (now : Busy s cnt c r) (l : 0 < r) where
    pub busy-other : (head_at s (r - 1) ≡ c → ⊥) → Idle s cnt c → ⊥
    busy-other n idle =
        by_cases (dec_lt idle.by r)
        (λ m.
        let up : head_at s idle.by ≤ head_at s (r - 1) =
        rises s (rules s) good.rise idle.by (r - 1) (omega arith) (omega (arith, now.within)) in
        n (omega (arith, idle.head, now.low (r - 1) (omega arith))))
        (λ m. now.busy idle.by (omega arith) idle.below idle.head idle.none)

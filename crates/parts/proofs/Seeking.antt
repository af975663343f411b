-- The first rule whose head is not below a claim, by halving. Assumes nothing.
--   Seeking s c low high   it is one of those from low to high
--   seeking-start, _byte, -up, _down, _end   any; the bytes of the middle one are there; a later one; none later; found
use Prim.Native.Nat.{ℕ, ◌+◌, ◌/◌, ◌<◌, ◌≤◌}
use mathlib.Core.Path.{◌≡◌}
use mathlib.Core.List.{List}
use native.Mathlib.Omega.{arith}
use lib.ListN.{length}
use Rattle.job.specs.Format.{rules, head_at, rule_byte}
use Rattle.job.specs.Accepted.{WellFormed}
use Rattle.job.proofs.Parts.{rises}
use Rattle.parts.specs.Written.{First}

pub record Seeking (s : List ℕ) (c low high : ℕ) : Type 0 where
  pub below : low ≤ high
  pub most : high ≤ rules s
  pub before : (j : ℕ) → j < low → head_at s j < c
  pub from : (j : ℕ) → high ≤ j → j < rules s → c ≤ head_at s j

pub seeking-start : (s : List ℕ) (c : ℕ) {m : ℕ} → m ≡ rules s → Seeking s c 0 m
seeking-start s c e =
    record { below = omega arith; most = omega arith; before = λ j l. absurd (omega arith); from = λ j h l. absurd (omega arith) }

module _ {s : List ℕ} {c low high : ℕ} (good : WellFormed s) (a : Seeking s c low high) where
  pub seeking_byte : low < high → rule_byte ((low + high) / 2) + 4 ≤ length s
  seeking_byte h = omega (arith, a.most, good.sized.size)

  module _ (h : low < high) {x : ℕ} (read : x ≡ head_at s ((low + high) / 2)) where
    pub seeking-up : x < c → Seeking s c ((low + high) / 2 + 1) high
    seeking-up l =
        record {
          below = omega arith;
          most = a.most;
          before = λ j k. omega (arith, rises s (rules s) good.rise j ((low + high) / 2) (omega arith) (omega (arith, a.most)));
          from = a.from;
        }

    pub seeking_down : c ≤ x → Seeking s c low ((low + high) / 2)
    seeking_down l =
        record {
          below = omega arith;
          most = omega (arith, a.most);
          before = a.before;
          from = λ j k m. omega (arith, rises s (rules s) good.rise ((low + high) / 2) j k m);
        }

pub seeking_end : {s : List ℕ} {c low high : ℕ} → Seeking s c low high → high ≤ low → First s c low
seeking_end a h = record { most = omega (arith, a.below, a.most); before = a.before; from = λ j k. a.from j (omega arith) }

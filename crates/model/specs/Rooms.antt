-- The sizes of jobs that room is kept for.
--   Within s a m l   the job of bytes s has at most a claims, m rules and l literals
use Rattle.std.specs.Prelude.{ℕ, ◌≤◌, List}
use Rattle.job.specs.Format.{claims, rules, literals}

pub record Within (s : List ℕ) (a m l : ℕ) : Type 0 where
  pub claims_few : claims s ≤ a
  pub rules_few : rules s ≤ m
  pub literals_few : literals s ≤ l

-- What an accepted job has: the facts that a layer above goes by (proofs/Accepted: accepted exactly where these hold).
--   Sized s        what the rows of the header leave
--   WellFormed s   what all rows leave
--   Parted s m l   s is accepted, with m rules and l literals: what the type `Job` keeps
use Rattle.std.specs.Prelude.{ℕ, ◌<◌, ◌≤◌, List, ◌≡◌, length}
use Rattle.job.specs.Bytes.{Bytes}
use Rattle.job.specs.Job.{claim_of, most_claims, most_rules, most_literals, most_workers, most_questions}
use Rattle.job.specs.Format.{total, claims, rules, literals, workers, questions, rules_offset, literals_offset, questions_offset, rule_byte, literal_byte, question_byte, head_at, head_before, body_start, literal_at, question_at}

pub record Sized (s : List ℕ) : Type 0 where
  pub claims_most : claims s ≤ most_claims
  pub rules_most : rules s ≤ most_rules
  pub literals_most : literals s ≤ most_literals
  pub workers_least : 1 ≤ workers s
  pub workers_most : workers s ≤ most_workers
  pub questions_most : questions s ≤ most_questions
  pub total_is : total s ≡ length s
  pub rules_from : rules_offset s ≡ rule_byte 0
  pub literals_from : literals_offset s ≡ literal_byte (rules s) 0
  pub questions_from : questions_offset s ≡ question_byte (rules s) (literals s) 0
  pub size : length s ≡ question_byte (rules s) (literals s) (questions s)

pub record WellFormed (s : List ℕ) : Type 0 where
  pub sized : Sized s
  pub head : (i : ℕ) → i < rules s → head_at s i < claims s
  pub rise : (i : ℕ) → i < rules s → head_before s i ≤ head_at s i
  pub bodies : body_start s (rules s) ≡ literals s
  pub literal : (k : ℕ) → k < literals s → claim_of (literal_at s (rules s) k) < claims s
  pub asker : (q : ℕ) → q < questions s → (question_at s (rules s) (literals s) q).worker < workers s
  pub asked : (q : ℕ) → q < questions s → (question_at s (rules s) (literals s) q).claim < claims s

pub record Parted (s : List ℕ) (m l : ℕ) : Type 0 where
  pub accepted : WellFormed s
  pub all_bytes : Bytes s
  pub rules_is : m ≡ rules s
  pub literals_is : l ≡ literals s

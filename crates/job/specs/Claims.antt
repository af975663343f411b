-- One claim's literals. Heads never fall from rule to rule, so they stand together: a contiguous part of the job's literals.
--   literals_below s c m   the literals of those of m rules whose head is below c
--   claim_start s c        where c's literals start among the job's, and those of c - 1 end
--   Starts s index         entry c of an index is where c's literals start; the one past the last claim is where they end
--   bounds_from            the entries from here on have a bit a literal, 16 to an entry; index_entries   how many there are in all
--   bound_at index i       the bit of the job's literal i says that a rule ends before it
--   Bounds s index m       it does where one of the first m rules ends, and nowhere else, up to the last bit of the last entry
--   Index s index          the index: both, of all rules, and 0 for the claims that the job hasn't. So each entry is said
--   end_in index i         the first place past literal i that a rule ends before, by the index: where the literal's rule ends
--   ClaimLiterals s c      the literals of c, over its rules in file order, are the part from claim_start s c to claim_start s (c + 1)
--   moved c                the cursor past the current literal; past_rule index c   the one past that literal's rule
use Rattle.std.specs.Prelude.{ℕ, zero, suc, ◌+◌, ◌-◌, ◌/◌, ◌%◌, ◌^◌, ◌≤◌, ◌<◌, List, ◌≡◌, Bool, true, false, not, cond, eqb, length, get_or}
use Rattle.base.specs.Choose.{pick}
use Rattle.base.specs.Compare.{under}
use Rattle.base.specs.Span.{span}
use Rattle.job.specs.Job.{literals_of, most_claims, most_literals}
use Rattle.job.specs.Format.{claims, rules, literals, head_at, body_length_at, body_start, literal_at, job_of}
use Rattle.job.specs.declared.Cursor.{Cursor}

unfoldable pub literals_below : List ℕ → ℕ → ℕ → ℕ
literals_below s c zero = 0
literals_below s c (suc i) = literals_below s c i + cond (under (head_at s i) c) (body_length_at s i) 0

abbrev pub claim_start : List ℕ → ℕ → ℕ
claim_start s c = literals_below s c (rules s)

abbrev pub Starts : List ℕ → List ℕ → Type 0
Starts s index = (c : ℕ) → c ≤ claims s → get_or index c 0 ≡ claim_start s c

abbrev pub bounds_from : ℕ
bounds_from = most_claims + 1

abbrev pub index_entries : ℕ
index_entries = bounds_from + (most_literals / 16 + 1)

abbrev pub bound_at : List ℕ → ℕ → Bool
bound_at index i = not (eqb (get_or index (bounds_from + i / 16) 0 / 2 ^ (i % 16) % 2) 0)

pub record Bounds (s index : List ℕ) (m : ℕ) : Type 0 where
  pub ends : (r : ℕ) → r < m → bound_at index (body_start s (r + 1)) ≡ true
  pub only : (i : ℕ) → bounds_from + i / 16 < index_entries → ((r : ℕ) → r < m → body_start s (r + 1) ≡ i → ⊥) → bound_at index i ≡ false

-- what the places mean
pub record ClaimLiterals (s : List ℕ) (c : ℕ) : Type 0 where
  pub part : literals_of c (job_of s).rules ≡ span (literal_at s (rules s)) (claim_start s c) (claim_start s (c + 1) - claim_start s c)
  pub count : length (literals_of c (job_of s).rules) ≡ claim_start s (c + 1) - claim_start s c
  pub ordered : claim_start s c ≤ claim_start s (c + 1)
  pub within : claim_start s (c + 1) ≤ literals s

pub record Index (s index : List ℕ) : Type 0 where
  pub starts : Starts s index
  pub none : (c : ℕ) → claims s < c → c < bounds_from → get_or index c 0 ≡ 0
  pub bounds : Bounds s index (rules s)
  pub literals : (c : ℕ) → ClaimLiterals s c

unfoldable pub end_from : ℕ → List ℕ → ℕ → ℕ
unfolding pick
end_from zero index i = i
end_from (suc n) index i = pick (bound_at index i) i (end_from n index (i + 1))

abbrev pub end_in : List ℕ → ℕ → ℕ
end_in index i = end_from (most_literals - i) index (i + 1)

abbrev pub moved : Cursor → Cursor
moved c = record { at = c.at + 1; end = c.end }

abbrev pub past_rule : List ℕ → Cursor → Cursor
past_rule index c = record { at = end_in index c.at; end = c.end }

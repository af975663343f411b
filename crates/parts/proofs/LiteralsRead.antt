-- The literals of a body, read one after the other. Assumes nothing.
--   literals_none, literals_more    none is left; the first of those that are
--   literal-byte                    the bytes of a literal are there
--   literal_is                      it is the job's
--   literal-place, literal-mark     its claim has a place, and a mark
use Prim.Native.Nat.{ℕ, ◌+◌, ◌-◌, ◌<◌, ◌≤◌}
use mathlib.Core.Path.{◌≡◌, ◌∙◌, ap}
use mathlib.Core.List.{List, [], ◌∷◌}
use native.Mathlib.Omega.{arith}
use lib.ListN.{length}
use Rattle.base.specs.Span.{span}
use Rattle.base.proofs.Span.{span_none, span_one}
use Rattle.job.specs.Job.{claim_of}
use Rattle.job.specs.Format.{claims, rules, literals, literal_byte, literal_at, job_of}
use Rattle.job.specs.Accepted.{WellFormed}
use Rattle.job.specs.declared.Literal.{Literal}
use Rattle.table.specs.Layout.{used, mark_word}
use Rattle.parts.specs.Written.{literals_in}

pub literals_none : (s : List ℕ) (k end : ℕ) → end ≤ k → literals_in s k end ≡ []
literals_none s k end h = span_none (literal_at s (rules s)) k (end - k) (omega arith)

pub literals_more : (s : List ℕ) (k end : ℕ) → k < end → literals_in s k end ≡ literal_at s (rules s) k ∷ literals_in s (k + 1) end
literals_more s k end h =
    let e : end - k - 1 ≡ end - (k + 1) = omega arith in
    span_one (literal_at s (rules s)) k (end - k) (omega arith)
    ∙ ap (λ (n : ℕ). literal_at s (rules s) k ∷ span (literal_at s (rules s)) (k + 1) n) e

-- literal k of those up to `end`, read by the header's count of rules
module _ {s : List ℕ} {m k end : ℕ} (good : WellFormed s) (count : m ≡ rules s) (most : end ≤ literals s) (l : k < end) where
  pub literal-byte : literal_byte m k + 2 ≤ length s
  literal-byte = omega (arith, good.sized.size)

  module _ {x : Literal} (read : x ≡ literal_at s m k) where
    pub literal_is : x ≡ literal_at s (rules s) k
    literal_is = read ∙ ap (λ (n : ℕ). literal_at s n k) count

    literal-claim : claim_of x < claims s
    literal-claim = omega (arith, ap claim_of literal_is, good.literal k (omega arith))

    pub literal-place : (place : List ℕ) → length place ≡ claims s → claim_of x < length place
    literal-place place e = omega (arith, literal-claim, e)

    pub literal-mark : (t : List ℕ) → used (job_of s) ≤ length t → mark_word (claim_of x) < length t
    unfolding job_of
    literal-mark t h = omega (arith, literal-claim, h)

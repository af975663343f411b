-- Laws of body lengths as 16-bit fields: what a length field says of a rule's literals, and of missing records. Assumes nothing.
--   none-missing, all-written    how many literals a rule has, by its length field
--   missing_none, some-own       a missing record has none; a rule that has some is no missing record
--   Whole r                      what a valid job's rule has, for its length field to be read back
--   missing-read, length-read    what is read of the length field of such a rule
--   length-small                 that field has 16 bits
--   length-written               what is written for a rule that was read
use Prim.Native.Nat.{ℕ, ◌<◌}
use mathlib.Core.Path.{◌≡◌, refl, sym, ◌∙◌}
use mathlib.Core.Bool.{Bool, true, false, cond}
use mathlib.Core.List.{List}
use mathlib.Core.Logic.{by_cases}
use native.Mathlib.Decide.{ℕ_discrete}
use native.Mathlib.Omega.{arith}
use borrow.Author.Tests.{eq-eqb, ne_eqb, eqb-true}
use lib.Dec.{eqb}
use lib.ListN.{length}
use Rattle.job.specs.Job.{Rule, missing_length}
use Rattle.job.specs.Format.{length_at, missing_at, body_length_at}
use Rattle.job.specs.Encoding.{length_of}
use Rattle.job.specs.declared.Literal.{Literal}

module _ (s : List ℕ) (i : ℕ) where
  pub none-missing : length_at s i ≡ missing_length → body_length_at s i ≡ 0
  unfolding missing_at body_length_at
  none-missing e = rw (eq-eqb (length_at s i) missing_length e)

  pub all-written : (length_at s i ≡ missing_length → ⊥) → body_length_at s i ≡ length_at s i
  unfolding missing_at body_length_at
  all-written n = rw (ne_eqb (length_at s i) missing_length n)

  pub missing_none : missing_at s i ≡ true → body_length_at s i ≡ 0
  unfolding missing_at
  missing_none e = none-missing (eqb-true (length_at s i) missing_length e)

  pub some-own : 0 < body_length_at s i → missing_at s i ≡ false
  some-own h = go (missing_at s i) refl
    where
      go : (t : Bool) → missing_at s i ≡ t → t ≡ false
      go true e = absurd (omega (arith, h, missing_none e))
      go false e = refl

pub record Whole (r : Rule) : Type 0 where
  pub short : length r.body < missing_length
  pub none : r.missing ≡ true → length r.body ≡ 0

pub length-small : (r : Rule) → Whole r → length_of r < 65536
unfolding length_of
length-small r w = go r.missing
  where
    go : (t : Bool) → cond t missing_length (length r.body) < 65536
    go true = omega arith
    go false = omega (arith, w.short)

-- rule i has the length field of r
module _ (s : List ℕ) (i : ℕ) (r : Rule) (w : Whole r) (e : length_at s i ≡ length_of r) where
  written : r.missing ≡ false → length_at s i ≡ length r.body
  unfolding length_of
  written q = e ∙ rw q refl

  marked : r.missing ≡ true → length_at s i ≡ missing_length
  unfolding length_of
  marked q = e ∙ rw q refl

  unmarked : r.missing ≡ false → length_at s i ≡ missing_length → ⊥
  unmarked q z = omega (arith, w.short, written q)

  pub missing-read : missing_at s i ≡ r.missing
  unfolding missing_at
  missing-read = go r.missing refl
    where
      go : (t : Bool) → r.missing ≡ t → eqb (length_at s i) missing_length ≡ r.missing
      go true q = eq-eqb (length_at s i) missing_length (marked q) ∙ sym q
      go false q = ne_eqb (length_at s i) missing_length (unmarked q) ∙ sym q

  pub length-read : body_length_at s i ≡ length r.body
  length-read = go r.missing refl
    where
      go : (t : Bool) → r.missing ≡ t → body_length_at s i ≡ length r.body
      go true q = none-missing s i (marked q) ∙ sym (w.none q)
      go false q = all-written s i (unmarked q) ∙ written q

pub length-written : (s : List ℕ) (i h : ℕ) (b : List Literal) → length b ≡ body_length_at s i → length_at s i ≡ length_of (record { head = h; body = b; missing = missing_at s i })
unfolding missing_at length_of
length-written s i h b e =
    by_cases (ℕ_discrete (length_at s i) missing_length) (λ q. rw (eq-eqb (length_at s i) missing_length q) q)
    (λ n. rw (ne_eqb (length_at s i) missing_length n) (sym (e ∙ all-written s i n)))

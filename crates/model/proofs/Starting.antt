-- The start of the alternation (specs/Rounds): U = D of nothing, and K about to become D(U). Assumes nothing.
--   first-growing, first-upper   U grows from the plain positions
--   start-queue, start_plain     K's queue, before any key is taken
--   start_poised                 the negations of what is outside U are on the queue
use Prim.Native.Nat.{ℕ, ◌+◌, ◌*◌, ◌<◌, ◌≤◌}
use mathlib.Core.Path.{◌≡◌, refl, sym, ◌∙◌, ap, ap₂, subst, subst⁻¹}
use mathlib.Core.Bool.{Bool, true, false, not, ◌&&◌, ◌||◌}
use mathlib.Core.List.{List}
use mathlib.Core.Logic.{by_cases}
use native.Mathlib.Omega.{arith}
use native.Mathlib.Decide.{dec_lt}
use borrow.Author.Tests.{lt-ltb, le-ltb}
use lib.Dec.{T, T_not, not_T, ltb}
use lib.ListN.{length, get_or}
use Rattle.base.specs.Sets.{Claims, ◌⊆◌, nothing, set_of}
use Rattle.base.proofs.Bools.{is, is-not, is_true, is_false}
use Rattle.base.proofs.ByteSets.{set_below, set-empty}
use Rattle.job.specs.Job.{claim_of}
use Rattle.job.specs.Accepted.{WellFormed}
use Rattle.job.specs.Format.{claims, rules, literals, literal_at, job_of}
use Rattle.job.specs.declared.Literal.{Literal}
use Rattle.job.specs.declared.Literal.TheVariants.{Plain, Negated}
use Rattle.semantics.specs.Model.{program_of, holds, D}
use Rattle.counters.specs.Positions.{keys, owners, Counts, need_base, fail_base, plain_literal, plain_position, every_position}
use Rattle.counters.specs.Queues.{seen, Queue, Grown}
use Rattle.counters.specs.Counters.{lacking, Aim, Closed, Growing, Raised, Idle, Begun}
use Rattle.counters.specs.Doubts.{Doubted, Lost}
use Rattle.model.specs.Rounds.{Upper, Poised}
use Rattle.counters.proofs.Counting.{counts_same}
use Rattle.counters.proofs.Queues.{seen_none, seen-small}
use Rattle.counters.proofs.Owning.{owners-owned}
use Rattle.counters.proofs.Joining.{joins-grown}
use Rattle.model.proofs.Roles.{closed_need, closed_fail}
use Rattle.model.proofs.Grown.{growing-counts, growing-from, growing-joins, growing-lost, grown-U, idle-in}
use Rattle.model.proofs.Rounds.{rising-start}

module _ (s : List ℕ) (good : WellFormed s) where
  -- U, from nothing
  module _ (fail u q : List ℕ) (counts : Counts s (owners s) fail fail_base (plain_position s)) (empty : (c : ℕ) → get_or u c 0 ≡ 0) (size : length u ≡ claims s) (long : keys s ≤ length q) where
    aim_u : Aim
    aim_u = record { against = nothing; base = fail_base; most = D (program_of (job_of s)) nothing }

    lacks : (p : ℕ) → p < literals s → plain_position s p ≡ lacking s nothing (set_of u) p
    unfolding lacking plain_position
    lacks p l = go (literal_at s (rules s) p)
      where
        go : (x : Literal) → plain_literal x ≡ not (holds nothing (set_of u) x)
        go (Plain c) = ap not (sym (set-empty u empty c))
        go (Negated c) = refl

    first : Growing s aim_u (owners s) fail u q 0 (literals s) 0
    unfolding aim_u
    first =
        growing-from s aim_u (owners s) fail u q (counts_same (plain_position s) (lacking s nothing (set_of u)) lacks counts) size long
        (λ c t. absurd (is-not (set_of u c) (set-empty u empty c) t)) (closed_fail s good nothing (λ c t. absurd t))

    module _ (u₁ q₁ : List ℕ) (t₁ : ℕ) (begun : Begun s fail u q u₁ q₁ t₁) where
      on : Growing s aim_u (owners s) fail u₁ q₁ 0 (literals s) t₁
      unfolding aim_u
      on = growing-joins (Idle s fail) good (owners-owned s good) (idle-in s aim_u fail u q good first) first begun.joins

      pub first-growing : (a : Aim) × Growing s a (owners s) fail u₁ q₁ 0 (literals s) t₁
      first-growing = (aim_u, on)

      pub first-upper :
          (fail₂ u₂ q₂ : List ℕ) (t₂ : ℕ) → Raised s (owners s) fail u₁ q₁ 0 t₁ fail₂ u₂ q₂ t₂ (literals s) t₂ → Upper s nothing fail₂ u₂
      unfolding aim_u
      first-upper fail₂ u₂ q₂ t₂ raised =
          let done = raised.carried.each aim_u on in
          record {
            is = grown-U s good nothing fail₂ u₂ raised.ready done.inside (growing-counts done);
            size = done.fits.size;
            counts = growing-counts done;
            ready = raised.ready;
          }

  -- K, where U is made
  module _ (need k u q : List ℕ) (counts : Counts s (owners s) need (need_base s) every_position) (empty : (c : ℕ) → get_or k c 0 ≡ 0) (size : length k ≡ claims s) (size_u : length u ≡ claims s) (long : keys s ≤ length q) where
    all : Claims
    all c = ltb c (claims s)

    aim : Aim
    aim = record { against = all; base = need_base s; most = D (program_of (job_of s)) (set_of u) }

    within : set_of u ⊆ all
    unfolding all
    within c t = is (ltb c (claims s)) (lt-ltb c (claims s) (omega (arith, set_below u c t, size_u)))

    closed : Closed s all (need_base s) (D (program_of (job_of s)) (set_of u))
    closed =
        record { closed = λ r l z f. (closed_need s good (set_of u)).closed r l z (λ p w. fewer (literal_at s (rules s) p) (f p w)) }
      where
        fewer : (x : Literal) → T (holds all (D (program_of (job_of s)) (set_of u)) x) → T (holds (set_of u) (D (program_of (job_of s)) (set_of u)) x)
        fewer (Plain c) t = t
        fewer (Negated c) t = not_T (set_of u c) (λ v. T_not (all c) t (within c v))

    lacks-K : (p : ℕ) → p < literals s → every_position p ≡ lacking s all (set_of k) p
    unfolding lacking every_position all
    lacks-K p l = go (literal_at s (rules s) p) (good.literal p l)
      where
        go : (x : Literal) → claim_of x < claims s → true ≡ not (holds all (set_of k) x)
        go (Plain c) m = ap not (sym (set-empty k empty c))
        go (Negated c) m = ap (λ (b : Bool). not (not b)) (sym (lt-ltb c (claims s) m))

    first-K : Growing s aim (owners s) need k q 0 (literals s) 0
    unfolding aim
    first-K =
        growing-from s aim (owners s) need k q (counts_same every_position (lacking s all (set_of k)) lacks-K counts) size long
        (λ c t. absurd (is-not (set_of k c) (set-empty k empty c) t)) closed

    reason-K : (c : ℕ) → Idle s need c → (c < claims s) × T (aim.most c)
    reason-K = idle-in s aim need k q good first-K

    module _ (k₁ q₁ : List ℕ) (t₁ : ℕ) (begun : Begun s need k q k₁ q₁ t₁) where
      on-K : Growing s aim (owners s) need k₁ q₁ 0 (literals s) t₁
      unfolding aim
      on-K = growing-joins (Idle s need) good (owners-owned s good) reason-K first-K begun.joins

      grown : Grown k q 0 k₁ q₁ t₁
      grown = joins-grown (Idle s need) (λ c x. (reason-K c x).0) first-K.fits begun.joins

      pub start-queue : Queue (2 * length u) q₁ t₁
      start-queue = subst⁻¹ (λ (n : ℕ). Queue (2 * n) q₁ t₁) size_u on-K.fits.queue

      pub start_plain : (c : ℕ) → seen q₁ t₁ (2 * c + 1) ≡ false
      start_plain c = grown.others c ∙ seen_none q (2 * c + 1)

      -- the negations of all claims outside u are on the queue
      module _ (l q₂ : List ℕ) (t₂ : ℕ) (listed : Doubted (length u) l 0 (length u)) (whole : (c : ℕ) → c < length u → T (seen l (length u) (2 * c))) (lost : Lost u l (length u) q₁ t₁ q₂ t₂) where
        everyone : (c : ℕ) → seen l (length u) (2 * c) ≡ all c
        unfolding all
        everyone c =
            by_cases (dec_lt c (claims s)) (λ m. is_true (seen l (length u) (2 * c)) (whole c (omega arith)) ∙ sym (lt-ltb c (claims s) m))
            (λ n. is_false (seen l (length u) (2 * c)) (λ v. absurd (n (omega (arith, seen-small l (length u) (2 * length u) listed.queue.small (2 * c) v)))) ∙ sym (le-ltb c (claims s) (omega arith)))

        pub start_poised : (fail : List ℕ) → Upper s nothing fail u → Poised s nothing need fail k₁ u q₂ t₂
        unfolding aim
        start_poised fail upper =
            record {
              rising = rising-start (program_of (job_of s)) nothing (λ c t. t);
              upper = upper;
              growing =
                  growing-lost s aim (owners s) need k₁ q₁ t₁ q₂ t₂ (set_of u) good on-K (subst (λ (n : ℕ). Queue (2 * n) q₂ t₂) size_u lost.queue) lost.plain
                  start_plain (λ c. lost.negated c ∙ ap (λ (b : Bool). b && not (set_of u c)) (everyone c)) (λ c m v. within c v) (D (program_of (job_of s)) (set_of u))
                  on-K.inside (closed_need s good (set_of u));
              ready = begun.ready;
              joined = λ c.
                  lost.plain c ∙ grown.joined c ∙ ap₂ (λ (a b : Bool). a || (set_of k₁ c && not b)) (seen_none q (2 * c)) (set-empty k empty c);
              kept = λ c t. absurd t;
            }

-- W_P rises from the empty interpretation, and adds nothing after one step more than there are claims (specs/Textbook: LeastFixpoint).
-- Assumes nothing.
--   operator          what W_P adds
--   W_more            W_P rises with I
--   after-rises       each step of the iteration holds the one before
--   after-least       an interpretation to which W_P adds nothing holds every step
--   least_fixpoint    the theorem
use Prim.Native.Nat.{ℕ, zero, suc, ◌+◌, ◌≤◌, ◌<◌}
use mathlib.Core.Path.{fun_ext}
use mathlib.Core.Bool.{Bool, true, false, not}
use mathlib.Core.Logic.{◌⊎◌, inl, inr, ⊎_elim, by_cases}
use native.Mathlib.Omega.{arith}
use native.Mathlib.Decide.{dec_lt}
use lib.Dec.{T, T_not, not_T, ltb, ltb→lt, lt→ltb}
use Rattle.base.specs.Sets.{Claims, one, count}
use Rattle.base.proofs.Bools.{same}
use Rattle.base.proofs.Sets.{count-full, count_mono}
use Rattle.job.specs.declared.Literal.TheVariants.{Plain, Negated}
use Rattle.semantics.specs.Model.{Program}
use Rattle.semantics.specs.Unfounded.{Interpretation, W, after, well_founded, ◌⊑◌}
use Rattle.semantics.specs.Textbook.{Operator, LeastFixpoint}
use Rattle.semantics.proofs.Heads.{heads_of, heads-by, heads-inside, heads_more}
use Rattle.semantics.proofs.Greatest.{greatest_unfounded, unfounded_more}
use Rattle.semantics.proofs.Alternating.{alternating, alternating_apart, alternating-closed}

-- of two sets that do not meet each number is counted once
one_apart : (a b : Bool) → (T a → T b → ⊥) → one a + one b ≤ 1
unfolding one
one_apart true true n = absurd (n tt tt)
one_apart true false n = omega arith
one_apart false true n = omega arith
one_apart false false n = omega arith

count_apart : (S Z : Claims) → ((c : ℕ) → T (S c) → T (Z c) → ⊥) → (n : ℕ) → count S n + count Z n ≤ n
unfolding count
count_apart S Z h zero = omega arith
count_apart S Z h (suc n) = omega (arith, count_apart S Z h n, one_apart (S n) (Z n) (h n))

pub operator : (P : Program) (I : Interpretation) → Operator P I
operator P I =
    record {
      true_in = λ c. (heads-by I P c, λ r. heads_of I P c r.0 r.1 r.2);
      false_in = (greatest_unfounded P I).union;
    }

module _ (P : Program) where
  W_more : (I J : Interpretation) → I ⊑ J → W P I ⊑ W P J
  W_more I J below (Plain c) t = heads_more P I J below c t
  W_more I J below (Negated c) t = unfounded_more P I J below c t

  after-rises : (n : ℕ) → after P n ⊑ after P (suc n)
  unfolding after
  after-rises zero l t = absurd t
  after-rises (suc n) l t = W_more (after P n) (after P (suc n)) (after-rises n) l t

  after-least : (I : Interpretation) → W P I ⊑ I → (n : ℕ) → after P n ⊑ I
  unfolding after
  after-least I h zero l t = absurd t
  after-least I h (suc n) l t = h l (W_more (after P n) I (after-least I h n) l t)

  trues : ℕ → Claims
  trues n c = after P n (Plain c)

  falses : ℕ → Claims
  falses n c = after P n (Negated c)

  -- how many claims have a verdict after n steps
  many : ℕ → ℕ
  many n = count (trues n) P.claims + count (falses n) P.claims

  below : (n : ℕ) → after P n ⊑ alternating P
  below = after-least (alternating P) (alternating-closed P)

  many_most : (n : ℕ) → many n ≤ P.claims
  unfolding many trues falses
  many_most n = count_apart (trues n) (falses n) (λ c t f. alternating_apart P c (below n (Plain c) t) (below n (Negated c) f)) P.claims

  Still : ℕ → Type 0
  Still n = after P (suc n) ⊑ after P n

  -- a number that is no claim has no rule: it is false from the first step on
  not-claim : (n c : ℕ) → (c < P.claims → ⊥) → T (falses (suc n) c)
  unfolding falses after
  not-claim n c h =
      (greatest_unfounded P (after P n)).greatest (λ d. not (ltb d P.claims))
      (λ d b t r. absurd (T_not (ltb d P.claims) t (lt→ltb d P.claims r.0))) c
      (not_T (ltb c P.claims) (λ t. h (ltb→lt c P.claims t)))

  true-claim : (n c : ℕ) → T (trues (suc n) c) → c < P.claims
  unfolding trues after
  true-claim n c t = heads-inside (after P n) P c t

  true-rise : (n c : ℕ) → T (trues n c) → T (trues (suc n) c)
  unfolding trues
  true-rise n c = after-rises n (Plain c)

  false-rise : (n c : ℕ) → T (falses n c) → T (falses (suc n) c)
  unfolding falses
  false-rise n c = after-rises n (Negated c)

  full :
      (n : ℕ) → count (trues (suc (suc n))) P.claims ≤ count (trues (suc n)) P.claims
      → count (falses (suc (suc n))) P.claims ≤ count (falses (suc n)) P.claims → Still (suc n)
  unfolding Still trues falses
  full n t f (Plain c) u = count-full (trues (suc n)) (trues (suc (suc n))) (true-rise (suc n)) P.claims t c (true-claim (suc n) c u) u
  full n t f (Negated c) u =
      by_cases (dec_lt c P.claims)
      (λ l. count-full (falses (suc n)) (falses (suc (suc n))) (false-rise (suc n)) P.claims f c l u) (not-claim n c)

  -- a step that adds something settles a claim
  still_or : (n : ℕ) → Still (suc n) ⊎ (many (suc n) < many (suc (suc n)))
  unfolding many
  still_or n =
      let t = count_mono (trues (suc n)) (trues (suc (suc n))) (true-rise (suc n)) P.claims in
      let f = count_mono (falses (suc n)) (falses (suc (suc n))) (false-rise (suc n)) P.claims in
      by_cases (dec_lt (many (suc n)) (many (suc (suc n)))) inr (λ k. inl (full n (omega arith) (omega arith)))

  -- once nothing is added nothing is added again
  still-on : (n : ℕ) → Still n → Still (suc n)
  unfolding Still after
  still-on n h = W_more (after P (suc n)) (after P n) h

  still-late : (n : ℕ) → Still (suc n) ⊎ (n < many (suc (suc n)))
  still-late zero = ⊎_elim inl (λ h. inr (omega arith)) (still_or zero)
  still-late (suc n) =
      ⊎_elim (λ h. inl (still-on (suc n) h)) (λ h. ⊎_elim inl (λ g. inr (omega arith)) (still_or (suc n))) (still-late n)

  pub reached : W P (well_founded P) ⊑ well_founded P
  unfolding well_founded after Still
  reached = ⊎_elim (λ h. h) (λ h. absurd (omega (arith, many_most (suc (suc P.claims))))) (still-late P.claims)

  rose : well_founded P ⊑ W P (well_founded P)
  unfolding well_founded after
  rose = after-rises (suc P.claims)

  pub reached-least : (I : Interpretation) → W P I ⊑ I → well_founded P ⊑ I
  unfolding well_founded
  reached-least I h = after-least I h (suc P.claims)

  pub least_fixpoint : LeastFixpoint P
  least_fixpoint =
      record {
        monotonic = W_more;
        fixpoint = fun_ext (λ l. same (W P (well_founded P) l) (well_founded P l) (reached l) (rose l));
        least = reached-least;
        consistent = λ c t f. let at = reached-least (alternating P) (alternating-closed P) in alternating_apart P c (at (Plain c) t) (at (Negated c) f);
      }

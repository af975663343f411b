-- A rule's counter and the positions of its body (specs/Positions, specs/Counters). Assumes nothing.
--   within_one      a position is in one body
--   within_most     and below the count of literals
--   nothing_lacks   a rule whose literals all hold counts nothing
--   all_hold        and back
use Prim.Native.Nat.{ℕ, ◌+◌, ◌<◌}
use mathlib.Core.Path.{◌≡◌, sym, ◌∙◌, ap, subst}
use mathlib.Core.Bool.{not}
use mathlib.Core.List.{List}
use mathlib.Core.Logic.{by_cases}
use native.Mathlib.Omega.{arith}
use native.Mathlib.Decide.{dec_lt}
use borrow.Author.Tests.{not-false}
use lib.Dec.{T}
use lib.ListN.{get_or}
use Rattle.base.specs.Sets.{Claims}
use Rattle.base.proofs.Bools.{is, is_true}
use Rattle.job.specs.Format.{rules, literals, literal_at}
use Rattle.job.specs.Accepted.{WellFormed}
use Rattle.job.proofs.Parts.{body-within}
use Rattle.semantics.specs.Model.{holds}
use Rattle.counters.specs.Positions.{Within, waiting, Counts}
use Rattle.counters.specs.Counters.{lacking}
use Rattle.counters.proofs.Owning.{Owned}
use Rattle.counters.proofs.Waiting.{waiting_done, waiting_none}

-- bodies follow each other
within-order : (s : List ℕ) (p r r' : ℕ) → Within s p r → Within s p r' → r < r' → ⊥
within-order s p r r' w w' l = omega (arith, body-within s r r' l, w.to, w'.from)

pub within_one : {s : List ℕ} {p r r' : ℕ} → Within s p r → Within s p r' → r ≡ r'
within_one {s} {p} {r} {r'} w w' =
    by_cases (dec_lt r r') (λ l. absurd (within-order s p r r' w w' l))
    (λ n. by_cases (dec_lt r' r) (λ l. absurd (within-order s p r' r w' w l)) (λ m. omega arith))

module _ (s : List ℕ) (good : WellFormed s) where
  pub within_most : {p r : ℕ} → Within s p r → p < literals s
  within_most {p} {r} w = omega (arith, body-within s r (rules s) w.below, good.bodies, w.to)

  module _ (S W : Claims) {own cnt : List ℕ} {base : ℕ → ℕ} (owned : Owned s own) (counts : Counts s own cnt base (lacking s S W)) (r : ℕ) (l : r < rules s) where
    pub nothing_lacks : base r ≡ 0 → ((p : ℕ) → Within s p r → T (holds S W (literal_at s (rules s) p))) → get_or cnt r 0 ≡ 0
    unfolding lacking
    nothing_lacks z f =
        omega (
          arith,
          counts.counted r l,
          waiting_none own (lacking s S W) (literals s) r
              (λ p m o. ap not (is_true (holds S W (literal_at s (rules s) p)) (f p (subst (Within s p) o (owned.owner p m))))),
        )

    pub all_hold : get_or cnt r 0 ≡ 0 → (base r ≡ 0) × ((p : ℕ) → Within s p r → T (holds S W (literal_at s (rules s) p)))
    unfolding lacking
    all_hold z =
        let e : base r + waiting own (lacking s S W) (literals s) r ≡ 0 = sym (counts.counted r l) ∙ z in (
          omega arith,
          λ p w.
              let m = within_most w in
              is (holds S W (literal_at s (rules s) p))
              (not-false (holds S W (literal_at s (rules s) p))
              (waiting_done own (lacking s S W) (literals s) r p (omega arith) m (within_one (owned.owner p m) w))),
        )

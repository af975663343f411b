-- The start of a D (specs/Counters: Begun): the heads of rules that count nothing join. Assumes nothing.
--   fits-empty                             an empty queue fits any set
--   Facting, facting-start, -more   the heads of the rules below n that count nothing are in w
use Prim.Native.Nat.{ℕ, ◌+◌, ◌*◌, ◌<◌, ◌≤◌}
use mathlib.Core.Path.{◌≡◌, refl, sym, ◌∙◌, ap, subst}
use mathlib.Core.Bool.{Bool, true, false, true≢false}
use mathlib.Core.List.{List}
use mathlib.Core.Logic.{by_cases}
use native.Mathlib.Omega.{arith}
use native.Mathlib.Decide.{ℕ_discrete}
use borrow.Author.Tests.{eq-eqb, eqb-true}
use lib.Dec.{T, eqb}
use lib.ListN.{length, get_or}
use Rattle.base.specs.Sets.{set_of}
use Rattle.base.proofs.Bools.{is-not}
use Rattle.job.specs.Accepted.{WellFormed}
use Rattle.job.specs.Format.{claims, rules, head_at}
use Rattle.counters.specs.Queues.{seen, Joined, JoinedIf, Joins, none, more, Fits}
use Rattle.counters.specs.Counters.{Ready, Idle}
use Rattle.counters.proofs.Queues.{seen_none}
use Rattle.counters.proofs.Joining.{fits-joined, joined-grown, joined-there}

pub fits-empty : (A : ℕ) (w q : List ℕ) → length w ≡ A → 2 * A ≤ length q → Fits A w q 0
fits-empty A w q size long =
    record {
      queue = record { long = long; fresh = λ j l. absurd (omega arith); small = λ j l. absurd (omega arith) };
      size = size;
      plain = λ c u. absurd (is-not (seen q 0 (2 * c)) (seen_none q (2 * c)) u);
    }

pub record Facting (s cnt w₀ q₀ w q : List ℕ) (t n : ℕ) : Type 0 where
  pub fits : Fits (claims s) w q t
  pub joins : Joins (Idle s cnt) w₀ q₀ 0 w q t
  pub ready : Ready s cnt w n

module _ (s cnt w₀ q₀ : List ℕ) where
  pub facting-start : length w₀ ≡ claims s → 2 * claims s ≤ length q₀ → Facting s cnt w₀ q₀ w₀ q₀ 0 0
  facting-start size long = record { fits = fits-empty (claims s) w₀ q₀ size long; joins = none; ready = record { ready = λ r l. absurd (omega arith) } }

  module _ (w q : List ℕ) (t r : ℕ) (now : Facting s cnt w₀ q₀ w q t r) where
    facting-no : (get_or cnt r 0 ≡ 0 → ⊥) → Facting s cnt w₀ q₀ w q t (r + 1)
    facting-no n =
        record {
          fits = now.fits;
          joins = now.joins;
          ready =
              record {
                ready = λ x l z.
                    by_cases (ℕ_discrete x r) (λ i. absurd (n (sym (ap (λ (y : ℕ). get_or cnt y 0) i) ∙ z))) (λ d. now.ready.ready x (omega arith) z);
              };
        }

    facting-yes :
        WellFormed s → r < rules s → get_or cnt r 0 ≡ 0 → (h : ℕ) → h ≡ head_at s r → (w' q' : List ℕ) (t' : ℕ) → Joined h w q t w' q' t'
        → Facting s cnt w₀ q₀ w' q' t' (r + 1)
    facting-yes good l z h e w' q' t' j =
        let m : h < claims s = omega (arith, good.head r l) in
        record {
          fits = fits-joined now.fits h m j;
          joins = more h now.joins (record { by = r; below = l; none = z; head = sym e }) j;
          ready =
              record {
                ready = λ x k y.
                    by_cases (ℕ_discrete x r) (λ i. subst (λ (d : ℕ). T (set_of w' d)) (e ∙ sym (ap (head_at s) i)) (joined-there now.fits h m j))
                    (λ d. (joined-grown now.fits h m j).keeps (head_at s x) (now.ready.ready x (omega arith) y));
              };
        }

-- a head joins if its rule counts nothing
pub facting-more :
    (s cnt w₀ q₀ w q : List ℕ) (t r : ℕ) → Facting s cnt w₀ q₀ w q t r → WellFormed s → r < rules s → (w' q' : List ℕ) (t' : ℕ)
    → JoinedIf (eqb (get_or cnt r 0) 0) (head_at s r) w q t w' q' t' → Facting s cnt w₀ q₀ w' q' t' (r + 1)
facting-more s cnt w₀ q₀ w q t r now good l w' q' t' j = go (eqb (get_or cnt r 0) 0) refl
  where
    go : (x : Bool) → eqb (get_or cnt r 0) 0 ≡ x → Facting s cnt w₀ q₀ w' q' t' (r + 1)
    go true e = facting-yes s cnt w₀ q₀ w q t r now good l (eqb-true (get_or cnt r 0) 0 e) (head_at s r) refl w' q' t' (j.is e)
    go false e =
        let m = j.not e in
        rw (m.0, m.1, m.2) (facting-no s cnt w₀ q₀ w q t r now (λ z. true≢false (sym (eq-eqb (get_or cnt r 0) 0 z) ∙ e)))

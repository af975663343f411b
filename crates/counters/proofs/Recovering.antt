-- Doubted claims that a rule holds up come back, one after the other (specs/Doubts: Recovered). Assumes nothing.
--   Recovering         u and its queue, where the list was gone through up to place i
--   recovering-start   nothing was
--   recovering-join    the claim at place i joins; recovering-room   there is room for it
--   recovering_skip    it has no rule that counts nothing
--   recovering-is      the same of u and a queue by other names
--   recovering_done    the whole list was gone through
use Prim.Native.Nat.{ℕ, ◌+◌, ◌*◌, ◌<◌, ◌≤◌}
use mathlib.Core.Path.{◌≡◌, refl, ◌∙◌, subst, subst⁻¹}
use mathlib.Core.Bool.{false}
use mathlib.Core.List.{List}
use mathlib.Core.Logic.{by_cases}
use native.Mathlib.Omega.{arith}
use native.Mathlib.Decide.{ℕ_discrete}
use lib.Dec.{T}
use lib.ListN.{length, get_or}
use Rattle.base.specs.Sets.{set_of}
use Rattle.base.proofs.Bools.{is-not}
use Rattle.job.specs.Format.{claims}
use Rattle.counters.specs.Positions.{keys}
use Rattle.counters.specs.Queues.{seen, Joined, Joins, none, more, Fits}
use Rattle.counters.specs.Counters.{Idle}
use Rattle.counters.specs.Doubts.{Doubted, Recovered}
use Rattle.counters.proofs.Queues.{seen_none}
use Rattle.counters.proofs.Joining.{fits-room, fits-joined, joined-grown, joined-there, joined-long}
use Rattle.counters.proofs.Doubting.{doubted-place}

pub record Recovering (s fail l : List ℕ) (from i : ℕ) (u₀ q₀ u q : List ℕ) (t : ℕ) : Type 0 where
  pub joins : Joins (Idle s fail) u₀ q₀ 0 u q t
  pub fits : Fits (claims s) u q t
  pub size : length q ≡ length q₀
  pub found : (j : ℕ) → from ≤ j → j < i → (c : ℕ) → get_or l j 0 ≡ 2 * c → Idle s fail c → T (set_of u c)

pub recovering-start :
    (s fail l : List ℕ) (from i : ℕ) (u q : List ℕ) → i ≡ from → length u ≡ claims s → keys s ≤ length q → Recovering s fail l from i u q u q 0
recovering-start s fail l from i u q f e h =
    record {
      joins = none;
      fits = record {
        queue = record { long = h; fresh = λ j m. absurd (omega arith); small = λ j m. absurd (omega arith) };
        size = e;
        plain = λ c x. absurd (is-not (seen q 0 (2 * c)) (seen_none q (2 * c)) x);
      };
      size = refl;
      found = λ j a b. absurd (omega arith);
    }

pub recovering-is :
    {s fail l u₀ q₀ u q u' q' : List ℕ} {from i i' t t' : ℕ} → i' ≡ i → u' ≡ u → q' ≡ q → t' ≡ t → Recovering s fail l from i u₀ q₀ u q t
    → Recovering s fail l from i' u₀ q₀ u' q' t'
recovering-is d e f g now = rw (d, e, f, g) now

module _ {s fail l : List ℕ} {from i : ℕ} {u₀ q₀ u q : List ℕ} {t : ℕ} (now : Recovering s fail l from i u₀ q₀ u q t) where
  pub recovering-room : (c : ℕ) → c < claims s → set_of u c ≡ false → t < length q
  recovering-room c m new = fits-room now.fits c m new

  pub recovering_done : {A end : ℕ} → Doubted A l from end → end ≤ i → Recovered s fail l end u₀ q₀ u q t
  recovering_done {A} {end} doubted m =
      record {
        joins = now.joins;
        found = λ c x idle.
            let p = doubted-place doubted c x in
            now.found p.0 p.1 (omega arith) c p.3 idle;
      }

  -- the claim at place i
  module _ (c : ℕ) (here : get_or l i 0 ≡ 2 * c) where
    pub recovering_skip : (Idle s fail c → ⊥) → Recovering s fail l from (i + 1) u₀ q₀ u q t
    recovering_skip n =
        record {
          joins = now.joins;
          fits = now.fits;
          size = now.size;
          found = λ j a b d e idle.
              by_cases (ℕ_discrete j i)
              (λ k.
              let same : d ≡ c = omega (arith, here, subst (λ (x : ℕ). get_or l x 0 ≡ 2 * d) k e) in
              absurd (n (subst (Idle s fail) same idle)))
              (λ k. now.found j a (omega arith) d e idle);
        }

    pub recovering-join :
        c < claims s → Idle s fail c → {u' q' : List ℕ} {t' : ℕ} → Joined c u q t u' q' t' → Recovering s fail l from (i + 1) u₀ q₀ u' q' t'
    recovering-join m idle {u'} j' =
        record {
          joins = more c now.joins idle j';
          fits = fits-joined now.fits c m j';
          size = joined-long now.fits c m j' ∙ now.size;
          found = λ j a b d e x.
              by_cases (ℕ_discrete j i)
              (λ k.
              let same : d ≡ c = omega (arith, here, subst (λ (y : ℕ). get_or l y 0 ≡ 2 * d) k e) in
              subst⁻¹ (λ (y : ℕ). T (set_of u' y)) same (joined-there now.fits c m j'))
              (λ k. (joined-grown now.fits c m j').keeps d (now.found j a (omega arith) d e x));
        }

-- Claims that join a set and its queue (specs/Queues: Joined, Joins, Fits, Grown). Assumes nothing.
--   fits_unseen, -room, _join, -joined, -joins   a set and a queue that fit, where a claim joins
--   joined-there, -grown, _old, -long, -up, joins-grown   what a claim that joins leaves, and several
--   grown-refl, grown_trans                      nothing joined, and one after the other
use Prim.Native.Nat.{ℕ, ◌+◌, ◌*◌, ◌<◌, ◌≤◌}
use mathlib.Core.Path.{◌≡◌, refl, ◌∙◌, ap, subst, subst⁻¹}
use mathlib.Core.Bool.{Bool, true, false, not, cond, ◌&&◌, ◌||◌}
use mathlib.Core.List.{List}
use mathlib.Core.Logic.{by_cases}
use native.Mathlib.Omega.{arith}
use native.Mathlib.Decide.{ℕ_discrete}
use lib.Dec.{T}
use lib.ListN.{length, get_or, set, length-set}
use lib.Seq.{get_or-set_other}
use Rattle.base.specs.Sets.{set_of}
use Rattle.base.proofs.Bools.{is, is-not, is_true, is_false}
use Rattle.base.proofs.ByteSets.{set_there, set_same, set_keeps}
use Rattle.counters.specs.Queues.{seen, Joined, Joins, none, more, Fits, Grown}
use Rattle.counters.proofs.Queues.{seen_other, seen-this, queue-room, queue_push}

-- claim c is not in the set
module _ {A : ℕ} {w q : List ℕ} {t : ℕ} (now : Fits A w q t) (c : ℕ) (l : c < A) (new : set_of w c ≡ false) where
  pub fits_unseen : seen q t (2 * c) ≡ false
  fits_unseen = is_false (seen q t (2 * c)) (λ v. is-not (set_of w c) new (now.plain c v))

  pub fits-room : t < length q
  fits-room = omega (arith, queue-room now.queue (2 * c) (omega arith) fits_unseen, now.queue.long)

  pub fits_join : Fits A (set w c 1) (set q t (2 * c)) (t + 1)
  fits_join =
      let room : c < length w = omega (arith, now.size) in
      record {
        queue = queue_push now.queue (2 * c) (omega arith) fits_unseen;
        size = simp length-set now.size;
        plain = λ d u.
            by_cases (ℕ_discrete d c) (λ e. subst⁻¹ (λ (y : ℕ). T (set_of (set w c 1) y)) e (set_there w c room))
            (λ n. set_keeps w c room d (now.plain d (subst T (seen_other q t (2 * c) fits-room (2 * d) (λ e. n (omega arith))) u)));
      }

  grown_join : Grown w q t (set w c 1) (set q t (2 * c)) (t + 1)
  grown_join =
      let room : c < length w = omega (arith, now.size) in
      record {
        keeps = set_keeps w c room;
        joined = λ d.
            by_cases (ℕ_discrete d c)
            (λ e.
            subst⁻¹ (λ (y : ℕ). seen (set q t (2 * c)) (t + 1) (2 * y) ≡ (seen q t (2 * y) || (set_of (set w c 1) y && not (set_of w y)))) e
            (rw (is_true (set_of (set w c 1) c) (set_there w c room), new, is_true (seen (set q t (2 * c)) (t + 1) (2 * c)) (seen-this q t (2 * c) fits-room)) (or-on (seen q t (2 * c)))))
            (λ n.
            seen_other q t (2 * c) fits-room (2 * d) (λ e. n (omega arith))
            ∙ rw (set_same w c 1 d n) (or_off (seen q t (2 * d)) (set_of w d)));
        others = λ d. seen_other q t (2 * c) fits-room (2 * d + 1) (λ e. omega arith);
      }
    where
      or-on : (b : Bool) → true ≡ (b || true)
      or-on true = refl
      or-on false = refl

      or_off : (b y : Bool) → b ≡ (b || (y && not y))
      or_off true y = refl
      or_off false true = refl
      or_off false false = refl

pub grown-refl : (w q : List ℕ) (t : ℕ) → Grown w q t w q t
grown-refl w q t = record { keeps = λ c u. u; joined = λ c. go (seen q t (2 * c)) (set_of w c); others = λ c. refl }
  where
    go : (b y : Bool) → b ≡ (b || (y && not y))
    go true y = refl
    go false true = refl
    go false false = refl

pub grown_trans : {w₀ q₀ w₁ q₁ w₂ q₂ : List ℕ} {t₀ t₁ t₂ : ℕ} → Grown w₀ q₀ t₀ w₁ q₁ t₁ → Grown w₁ q₁ t₁ w₂ q₂ t₂ → Grown w₀ q₀ t₀ w₂ q₂ t₂
grown_trans {w₀} {q₀} {w₁} {q₁} {w₂} {q₂} {t₀} {t₁} {t₂} a b =
    record {
      keeps = λ c u. b.keeps c (a.keeps c u);
      joined = λ c.
          b.joined c ∙ ap (λ (x : Bool). x || (set_of w₂ c && not (set_of w₁ c))) (a.joined c)
          ∙ go (seen q₀ t₀ (2 * c)) (set_of w₀ c) (set_of w₁ c) (set_of w₂ c) (a.keeps c) (b.keeps c);
      others = λ c. b.others c ∙ a.others c;
    }
  where
    go : (e x y z : Bool) → (T x → T y) → (T y → T z) → ((e || (y && not x)) || (z && not y)) ≡ (e || (z && not x))
    go true x y z f g = refl
    go false true false z f g = absurd (f tt)
    go false x true false f g = absurd (g tt)
    go false true true true f g = refl
    go false false true true f g = refl
    go false false false true f g = refl
    go false false false false f g = refl

-- a claim joins, unless it is in the set
module _ {A : ℕ} {w q : List ℕ} {t : ℕ} (now : Fits A w q t) (c : ℕ) (l : c < A) {w' q' : List ℕ} {t' : ℕ} (j : Joined c w q t w' q' t') where
  -- what holds of both ways holds of what is left
  by-joined : (P : List ℕ → List ℕ → ℕ → Type 0) → (set_of w c ≡ true → P w q t) → (set_of w c ≡ false → P (set w c 1) (set q t (2 * c)) (t + 1)) → P w' q' t'
  by-joined P f g =
      subst⁻¹ (λ (y : List ℕ). P y q' t') j.claims_are
      (subst⁻¹ (λ (y : List ℕ). P (cond (set_of w c) w (set w c 1)) y t') j.queue_is
      (subst⁻¹ (λ (y : ℕ). P (cond (set_of w c) w (set w c 1)) (cond (set_of w c) q (set q t (2 * c))) y) j.top_is (go (set_of w c) f g)))
    where
      go : (b : Bool) → (b ≡ true → P w q t) → (b ≡ false → P (set w c 1) (set q t (2 * c)) (t + 1)) → P (cond b w (set w c 1)) (cond b q (set q t (2 * c))) (cond b t (t + 1))
      go true x y = x refl
      go false x y = y refl

  pub fits-joined : Fits A w' q' t'
  fits-joined = by-joined (λ x y z. Fits A x y z) (λ e. now) (fits_join now c l)

  pub joined-grown : Grown w q t w' q' t'
  joined-grown = by-joined (λ x y z. Grown w q t x y z) (λ e. grown-refl w q t) (grown_join now c l)

  pub joined-there : T (set_of w' c)
  joined-there =
      by-joined (λ x y z. T (set_of x c)) (is (set_of w c)) (λ e. set_there w c (omega (arith, now.size)))

  pub joined_old : (i : ℕ) → i < t → get_or q' i 0 ≡ get_or q i 0
  joined_old i m = by-joined (λ x y z. get_or y i 0 ≡ get_or q i 0) (λ e. refl) (λ e. get_or-set_other q t i (2 * c) 0 (λ x. omega arith))

  pub joined-long : length q' ≡ length q
  joined-long = by-joined (λ x y z. length y ≡ length q) (λ e. refl) (λ e. simp length-set)

  pub joined-up : t ≤ t'
  joined-up = by-joined (λ x y z. t ≤ z) (λ e. omega arith) (λ e. omega arith)

pub fits-joins :
    {A : ℕ} {w q : List ℕ} {t : ℕ} (ok : ℕ → Type 0) → ((c : ℕ) → ok c → c < A) → Fits A w q t → {w' q' : List ℕ} {t' : ℕ}
    → Joins ok w q t w' q' t' → Fits A w' q' t'
fits-joins ok f now none = now
fits-joins ok f now (more c js k j) = fits-joined (fits-joins ok f now js) c (f c k) j

pub joins-grown :
    {A : ℕ} {w q : List ℕ} {t : ℕ} (ok : ℕ → Type 0) → ((c : ℕ) → ok c → c < A) → Fits A w q t → {w' q' : List ℕ} {t' : ℕ}
    → Joins ok w q t w' q' t' → Grown w q t w' q' t'
joins-grown {A} {w} {q} {t} ok f now none = grown-refl w q t
joins-grown ok f now (more c js k j) = grown_trans (joins-grown ok f now js) (joined-grown (fits-joins ok f now js) c (f c k) j)

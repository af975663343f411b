-- Claims that leave a set for a list (specs/Doubts: stays, Left, Owed, Fallen). Assumes nothing.
--   stays-no, stays_in    a claim that doesn't stay, and one that does
--   by_left                       what holds of both ways holds of what is left
--   left-fewer, _out, _old, _up, -fallen   what a claim that leaves leaves
--   fallen-refl, _trans           nothing left, and one after the other
--   fallen-front, -fewer          the first keys stay; the set has no more claims
use Prim.Native.Nat.{ℕ, ◌+◌, ◌*◌, ◌<◌, ◌≤◌}
use mathlib.Core.Path.{◌≡◌, refl, sym, ◌∙◌, ap, ap₂, subst, subst⁻¹}
use mathlib.Core.Bool.{Bool, true, false, not, cond, ◌||◌, or-true}
use mathlib.Core.List.{List}
use mathlib.Core.Logic.{⊎_elim, by_cases}
use native.Mathlib.Omega.{arith}
use native.Mathlib.Decide.{ℕ_discrete, dec_lt}
use borrow.Author.Tests.{not-false}
use lib.Dec.{T}
use lib.ListN.{length, get_or, set}
use lib.Seq.{get_or-set_same, get_or-set_other}
use Rattle.base.specs.Sets.{◌⊆◌, set_of}
use Rattle.base.proofs.Bools.{is, is_true, neither, or_left, or_cases}
use Rattle.base.proofs.ByteSets.{set_gone, set_same}
use Rattle.counters.specs.Queues.{seen}
use Rattle.counters.specs.Doubts.{stays, Left, Fallen}
use Rattle.counters.proofs.Queues.{seen-later, seen_other, seen-this, seen_same}

module _ (k u : List ℕ) (c : ℕ) where
  pub stays-no : stays k u c ≡ false → (set_of u c ≡ true) × (set_of k c ≡ false)
  unfolding stays
  stays-no e = let n = neither (not (set_of u c)) (set_of k c) e in (not-false (set_of u c) n.0, n.1)

  -- a claim that stays and is in the set is in k
  pub stays_in : stays k u c ≡ true → T (set_of u c) → T (set_of k c)
  unfolding stays
  stays_in e t = go (set_of u c) (set_of k c) e t
    where
      go : (a b : Bool) → (not a || b) ≡ true → T a → T b
      go true b x y = is b x
      go false b x y = absurd y

pub fallen-refl : (u q : List ℕ) (t : ℕ) → Fallen u q t u q t
fallen-refl u q t =
    record { up = omega arith; left = λ c. refl; others = λ c. refl; front = λ j l. refl; evens = λ j l m. absurd (omega arith) }

module _ {u₀ q₀ u₁ q₁ : List ℕ} {t₀ t₁ : ℕ} (a : Fallen u₀ q₀ t₀ u₁ q₁ t₁) where
  pub fallen_trans : {u₂ q₂ : List ℕ} {t₂ : ℕ} → Fallen u₁ q₁ t₁ u₂ q₂ t₂ → Fallen u₀ q₀ t₀ u₂ q₂ t₂
  fallen_trans b =
      record {
        up = omega (arith, a.up, b.up);
        left = λ c. a.left c ∙ b.left c;
        others = λ c. b.others c ∙ a.others c;
        front = λ j l. b.front j (omega (arith, a.up)) ∙ a.front j l;
        evens = λ j l m.
            by_cases (dec_lt j t₁) (λ n. let e = a.evens j l n in (e.0, b.front j n ∙ e.1)) (λ n. b.evens j (omega arith) m);
      }

  pub fallen-front : (k : ℕ) → seen q₁ t₀ k ≡ seen q₀ t₀ k
  fallen-front k = seen_same q₁ q₀ t₀ k a.front

  pub fallen-fewer : ((c : ℕ) → T (seen q₁ t₁ (2 * c)) → T (set_of u₁ c) → ⊥) → set_of u₁ ⊆ set_of u₀
  fallen-fewer plain c v =
      ⊎_elim (λ x. x) (λ x. absurd (plain c (seen-later q₁ t₀ t₁ (2 * c) a.up (subst⁻¹ T (fallen-front (2 * c)) x)) v))
      (or_cases (set_of u₀ c) (seen q₀ t₀ (2 * c)) (subst⁻¹ T (a.left c) (or_left (set_of u₁ c) (seen q₁ t₁ (2 * c)) v)))

-- claim c leaves, unless it stays
module _ {k u q : List ℕ} {t c : ℕ} {u' q' : List ℕ} {t' : ℕ} (j : Left k c u q t u' q' t') where
  pub by_left :
      (P : List ℕ → List ℕ → ℕ → Type 0) → (stays k u c ≡ true → P u q t) → (stays k u c ≡ false → P (set u c 0) (set q t (2 * c)) (t + 1)) → P u' q' t'
  by_left P f g =
      subst⁻¹ (λ (y : List ℕ). P y q' t') j.claims_are
      (subst⁻¹ (λ (y : List ℕ). P (cond (stays k u c) u (set u c 0)) y t') j.queue_is
      (subst⁻¹ (λ (y : ℕ). P (cond (stays k u c) u (set u c 0)) (cond (stays k u c) q (set q t (2 * c))) y) j.top_is (go (stays k u c) f g)))
    where
      go : (b : Bool) → (b ≡ true → P u q t) → (b ≡ false → P (set u c 0) (set q t (2 * c)) (t + 1)) → P (cond b u (set u c 0)) (cond b q (set q t (2 * c))) (cond b t (t + 1))
      go true x y = x refl
      go false x y = y refl

  pub left_old : (i : ℕ) → i < t → get_or q' i 0 ≡ get_or q i 0
  left_old i m = by_left (λ x y z. get_or y i 0 ≡ get_or q i 0) (λ e. refl) (λ e. get_or-set_other q t i (2 * c) 0 (λ x. omega arith))

  pub left_up : t ≤ t'
  left_up = by_left (λ x y z. t ≤ z) (λ e. omega arith) (λ e. omega arith)

  module _ (l : c < length u) where
    pub left-fewer : set_of u' ⊆ set_of u
    left-fewer =
        by_left (λ x y z. set_of x ⊆ set_of u) (λ e d v. v)
        (λ e d v.
        by_cases (ℕ_discrete d c) (λ i. absurd (set_gone u c l (subst (λ (y : ℕ). T (set_of (set u c 0) y)) i v)))
        (λ n. subst T (set_same u c 0 d n) v))

    pub left_out : T (set_of u' c) → (T (set_of k c) → ⊥) → ⊥
    left_out =
        by_left (λ x y z. T (set_of x c) → (T (set_of k c) → ⊥) → ⊥) (λ e v n. n (stays_in k u c e v)) (λ e v n. set_gone u c l v)

    module _ (room : stays k u c ≡ false → t < length q) where
      gone : stays k u c ≡ false → Fallen u q t (set u c 0) (set q t (2 * c)) (t + 1)
      gone e =
          let on : seen (set q t (2 * c)) (t + 1) (2 * c) ≡ true = is_true (seen (set q t (2 * c)) (t + 1) (2 * c)) (seen-this q t (2 * c) (room e)) in
          record {
            up = omega arith;
            left = λ d.
                by_cases (ℕ_discrete d c)
                (λ i.
                subst⁻¹ (λ (y : ℕ). (set_of u y || seen q t (2 * y)) ≡ (set_of (set u c 0) y || seen (set q t (2 * c)) (t + 1) (2 * y))) i
                (rw ((stays-no k u c e).0, on) (sym (or-true (set_of (set u c 0) c)))))
                (λ n.
                ap₂ (λ (x y : Bool). x || y) (sym (set_same u c 0 d n)) (sym (seen_other q t (2 * c) (room e) (2 * d) (λ x. n (omega arith)))));
            others = λ d. seen_other q t (2 * c) (room e) (2 * d + 1) (λ x. omega arith);
            front = λ i m. get_or-set_other q t i (2 * c) 0 (λ x. omega arith);
            evens = λ i m n. let x : i ≡ t = omega arith in (c, ap (λ (y : ℕ). get_or (set q t (2 * c)) y 0) x ∙ get_or-set_same q t (2 * c) 0 (room e));
          }

      pub left-fallen : Fallen u q t u' q' t'
      left-fallen = by_left (λ x y z. Fallen u q t x y z) (λ e. fallen-refl u q t) gone

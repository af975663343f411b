-- Sets of claims as bytes, changed and read byte by byte. Assumes nothing.
--   cleared_more, _all, _none   a set whose bytes are cleared
--   set_there, _gone, _same     one of which a byte is set
--   set_keeps, set-within       one that a claim joins
--   set-yes, set-no             one of which a byte was read; set_below, set-empty   where its claims are
use Prim.Native.Nat.{ℕ, ◌+◌, ◌≤◌, ◌<◌}
use mathlib.Core.Path.{◌≡◌, ◌∙◌, ap, subst, subst⁻¹}
use mathlib.Core.Bool.{true, false, not}
use mathlib.Core.List.{List}
use mathlib.Core.Logic.{by_cases}
use native.Mathlib.Omega.{arith}
use native.Mathlib.Decide.{ℕ_discrete, dec_lt}
use borrow.Author.Tests.{ne_eqb, eq-eqb}
use lib.ListN.{length, set, get_or, get_or-eq_default}
use lib.Dec.{T, eqb}
use lib.Seq.{get_or-set_same, get_or-set_other}
use Rattle.base.specs.Sets.{Claims, ◌⊆◌, set_of}

pub cleared_more : (w : List ℕ) (i : ℕ) → i < length w → ((k : ℕ) → k < i → get_or w k 0 ≡ 0) → (k : ℕ) → k < i + 1 → get_or (set w i 0) k 0 ≡ 0
cleared_more w i h f k lt =
    by_cases (ℕ_discrete k i) (λ e. rw (e, get_or-set_same w i 0 0 h))
    (λ n. get_or-set_other w i k 0 0 n ∙ f k (omega arith))

pub cleared_all : (w : List ℕ) (i : ℕ) → length w ≤ i → ((k : ℕ) → k < i → get_or w k 0 ≡ 0) → (k : ℕ) → get_or w k 0 ≡ 0
cleared_all w i h f k = by_cases (dec_lt k i) (f k) (λ n. get_or-eq_default w 0 (omega arith))

pub cleared_none : (w : List ℕ) → ((c : ℕ) → get_or w c 0 ≡ 0) → (c : ℕ) → T (set_of w c) → ⊥
unfolding set_of
cleared_none w f c t = subst (λ (x : ℕ). T (not (eqb x 0))) (f c) t

-- the byte of claim h is set
module _ (w : List ℕ) (h : ℕ) where
  pub set_there : h < length w → T (set_of (set w h 1) h)
  unfolding set_of
  set_there l = rw (get_or-set_same w h 1 0 l) tt

  pub set_gone : h < length w → T (set_of (set w h 0) h) → ⊥
  unfolding set_of
  set_gone l t = subst (λ (x : ℕ). T (not (eqb x 0))) (get_or-set_same w h 0 0 l) t

  pub set_same : (v c : ℕ) → (c ≡ h → ⊥) → set_of (set w h v) c ≡ set_of w c
  unfolding set_of
  set_same v c n = ap (λ (x : ℕ). not (eqb x 0)) (get_or-set_other w h c v 0 n)

  pub set_keeps : h < length w → set_of w ⊆ set_of (set w h 1)
  set_keeps l c t =
      by_cases (ℕ_discrete c h) (λ e. subst⁻¹ (λ (d : ℕ). T (set_of (set w h 1) d)) e (set_there l)) (λ n. subst⁻¹ T (set_same 1 c n) t)

  pub set-within : (W : Claims) → set_of w ⊆ W → T (W h) → set_of (set w h 1) ⊆ W
  set-within W sub t c u =
      by_cases (ℕ_discrete c h) (λ e. subst⁻¹ (λ (d : ℕ). T (W d)) e t) (λ n. sub c (subst T (set_same 1 c n) u))

-- a byte that was read
pub set-yes : (w : List ℕ) (c : ℕ) → (get_or w c 0 ≡ 0 → ⊥) → set_of w c ≡ true
unfolding set_of
set-yes w c n = ap not (ne_eqb (get_or w c 0) 0 n)

pub set-no : (w : List ℕ) (c : ℕ) → get_or w c 0 ≡ 0 → set_of w c ≡ false
unfolding set_of
set-no w c e = ap not (eq-eqb (get_or w c 0) 0 e)

pub set_below : (w : List ℕ) (c : ℕ) → T (set_of w c) → c < length w
unfolding set_of
set_below w c t =
    by_cases (dec_lt c (length w)) (λ l. l)
    (λ n. absurd (subst (λ (x : ℕ). T (not (eqb x 0))) (get_or-eq_default w 0 (omega arith)) t))

pub set-empty : (w : List ℕ) → ((c : ℕ) → get_or w c 0 ≡ 0) → (c : ℕ) → set_of w c ≡ false
set-empty w f c = set-no w c (f c)

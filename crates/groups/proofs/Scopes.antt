-- Laws of scopes and of meeting a claim (specs/Scopes). Assumes nothing.
--   settled-own, -public, -cases   which scopes are settled
--   narrow_first, -later, -settled, -small   what an unsettled scope becomes; narrow_keeps   it stays settled for whom it was
--   narrowed-..                    what any scope becomes; narrowed-two   one that is settled for another group
--   visit-elim                     a proof for each way that a claim is met; visit-..   what it leaves
--   pushed-..                      a claim that is not settled joins the queue
use Prim.Native.Nat.{ℕ, ◌+◌, ◌≤◌, ◌<◌}
use mathlib.Core.Path.{◌≡◌, refl, sym, ◌∙◌, ap, subst, subst⁻¹}
use mathlib.Core.Bool.{Bool, true, false}
use mathlib.Core.Logic.{◌⊎◌, inl, inr, ⊎_elim, by_cases}
use native.Mathlib.Decide.{ℕ_discrete}
use native.Mathlib.Omega.{arith}
use borrow.Author.Tests.{eq-eqb, ne_eqb}
use lib.Dec.{T, T_not, eqb, eqb→eq, eqb_refl}
use lib.ListN.{length, get_or, set, length-set}
use lib.Seq.{get_or-set_same, get_or-set_other}
use Rattle.base.specs.Sets.{count}
use Rattle.base.proofs.Bools.{is, is-not, is_true, or_left, or_right, or_cases}
use Rattle.base.proofs.Choose.{t?, pick_elim, pick_yes, pick_no, pick_true, pick-false}
use Rattle.base.proofs.Sets.{count_le, count_less}
use Rattle.job.specs.Job.{most_claims}
use Rattle.groups.specs.Scopes.{scope, settled, narrow, narrowed, Work, pushed, visit, Fits}

module _ (g : ℕ) where
  pub settled-own : T (settled g (g + 1))
  unfolding settled
  settled-own = or_left (eqb (g + 1) (g + 1)) (eqb (g + 1) 1) (eqb_refl (g + 1))

  pub settled-public : T (settled g 1)
  unfolding settled
  settled-public = or_right (eqb 1 (g + 1)) (eqb 1 1) tt

  pub settled-cases : (x : ℕ) → T (settled g x) → (x ≡ g + 1) ⊎ (x ≡ 1)
  unfolding settled
  settled-cases x t = ⊎_elim (λ h. inl (eqb→eq x (g + 1) h)) (λ h. inr (eqb→eq x 1 h)) (or_cases (eqb x (g + 1)) (eqb x 1) t)

  -- by the tests that the code makes
  pub settled-yes : (x : ℕ) → x ≡ g + 1 → settled g x ≡ true
  settled-yes x e = is_true (settled g x) (subst⁻¹ (λ (y : ℕ). T (settled g y)) e settled-own)

  pub settled_else : (x : ℕ) → (x ≡ g + 1 → ⊥) → eqb x 1 ≡ settled g x
  unfolding settled
  settled_else x n = rw (ne_eqb x (g + 1) n)

  pub settled-some : (x : ℕ) → T (settled g x) → x ≡ 0 → ⊥
  settled-some x t e = ⊎_elim (λ h. omega arith) (λ h. omega arith) (settled-cases x t)

  pub narrow_first : (x : ℕ) → x ≡ 0 → narrow g x ≡ g + 1
  unfolding narrow
  narrow_first x e = pick_true (eqb x 0) (g + 1) 1 (eq-eqb x 0 e)

  pub narrow-later : (x : ℕ) → (x ≡ 0 → ⊥) → narrow g x ≡ 1
  unfolding narrow
  narrow-later x n = pick-false (eqb x 0) (g + 1) 1 (ne_eqb x 0 n)

  pub narrow-settled : (x : ℕ) → T (settled g (narrow g x))
  narrow-settled x =
      by_cases (ℕ_discrete x 0) (λ e. subst⁻¹ (λ (y : ℕ). T (settled g y)) (narrow_first x e) settled-own)
      (λ n. subst⁻¹ (λ (y : ℕ). T (settled g y)) (narrow-later x n) settled-public)

  pub narrow-small : (x : ℕ) → narrow g x ≤ g + 1
  narrow-small x = by_cases (ℕ_discrete x 0) (λ e. omega (arith, narrow_first x e)) (λ n. omega (arith, narrow-later x n))

  pub narrowed-settled : (x : ℕ) → T (settled g x) → narrowed g x ≡ x
  unfolding narrowed
  narrowed-settled x t = pick_yes (settled g x) x (narrow g x) t

  pub narrowed_open : (x : ℕ) → (T (settled g x) → ⊥) → narrowed g x ≡ narrow g x
  unfolding narrowed
  narrowed_open x n = pick_no (settled g x) x (narrow g x) n

  pub narrowed-cases : (x : ℕ) → (narrowed g x ≡ g + 1) ⊎ (narrowed g x ≡ 1)
  narrowed-cases x =
      by_cases (t? (settled g x)) (λ t. subst⁻¹ (λ (y : ℕ). (y ≡ g + 1) ⊎ (y ≡ 1)) (narrowed-settled x t) (settled-cases x t))
      (λ n. subst⁻¹ (λ (y : ℕ). (y ≡ g + 1) ⊎ (y ≡ 1)) (narrowed_open x n) (settled-cases (narrow g x) (narrow-settled x)))

-- what was settled for a group stays so
narrow_keeps : (g h x : ℕ) → T (settled h x) → T (settled h (narrow g x))
narrow_keeps g h x t = subst⁻¹ (λ (y : ℕ). T (settled h y)) (narrow-later g x (settled-some h x t)) (settled-public h)

-- one that is settled for another group becomes public, if it isn't
pub narrowed-two : (g h x : ℕ) → (g ≡ h → ⊥) → T (settled h x) → narrowed g x ≡ 1
narrowed-two g h x n t =
    by_cases (t? (settled g x)) (λ u. narrowed-settled g x u ∙ both (settled-cases g x u) (settled-cases h x t))
    (λ u. narrowed_open g x u ∙ narrow-later g x (settled-some h x t))
  where
    both : (x ≡ g + 1) ⊎ (x ≡ 1) → (x ≡ h + 1) ⊎ (x ≡ 1) → x ≡ 1
    both (inl a) (inl b) = absurd (n (omega arith))
    both (inl a) (inr b) = b
    both (inr a) b = a

module _ (g b : ℕ) (k : Work) where
  -- the two ways
  visit-settled : T (settled g (scope k.scopes b)) → visit g b k ≡ k
  unfolding visit
  visit-settled t = pick_yes (settled g (scope k.scopes b)) k (pushed g b k) t

  visit-pushed : (T (settled g (scope k.scopes b)) → ⊥) → visit g b k ≡ pushed g b k
  unfolding visit
  visit-pushed n = pick_no (settled g (scope k.scopes b)) k (pushed g b k) n

  pub visit-elim :
      (P : Work → Type 0) → (T (settled g (scope k.scopes b)) → P k) → ((T (settled g (scope k.scopes b)) → ⊥) → P (pushed g b k))
      → P (visit g b k)
  unfolding visit
  visit-elim P f n = pick_elim P (settled g (scope k.scopes b)) f (λ t. n (T_not (settled g (scope k.scopes b)) t))

  module _ (fits : Fits g k) (low : b < most_claims) where
    inside : b < length k.scopes
    inside = omega (arith, fits.scopes_long)

    pub scope-there : scope (pushed g b k).scopes b ≡ narrow g (scope k.scopes b)
    scope-there = get_or-set_same k.scopes b (narrow g (scope k.scopes b)) 0 inside

    pub scope-other : (d : ℕ) → (d ≡ b → ⊥) → scope (pushed g b k).scopes d ≡ scope k.scopes d
    scope-other d n = get_or-set_other k.scopes b d (narrow g (scope k.scopes b)) 0 n

    pub pushed-there : T (settled g (scope (pushed g b k).scopes b))
    pushed-there = subst⁻¹ (λ (y : ℕ). T (settled g y)) scope-there (narrow-settled g (scope k.scopes b))

    pub pushed-keeps : (h d : ℕ) → T (settled h (scope k.scopes d)) → T (settled h (scope (pushed g b k).scopes d))
    pushed-keeps h d t =
        by_cases (ℕ_discrete d b)
        (λ e.
        subst⁻¹ (λ (y : ℕ). T (settled h (scope (pushed g b k).scopes y))) e
        (subst⁻¹ (λ (y : ℕ). T (settled h y)) scope-there (narrow_keeps g h (scope k.scopes b) (subst (λ (y : ℕ). T (settled h (scope k.scopes y))) e t))))
        (λ n. subst⁻¹ (λ (y : ℕ). T (settled h y)) (scope-other d n) t)

    module _ (out : T (settled g (scope k.scopes b)) → ⊥) where
      more : count (λ d. settled g (scope k.scopes d)) most_claims < count (λ d. settled g (scope (pushed g b k).scopes d)) most_claims
      more =
          count_less (λ d. settled g (scope k.scopes d)) (λ d. settled g (scope (pushed g b k).scopes d)) (pushed-keeps g) most_claims b low pushed-there out

      pub push-room : k.top < most_claims
      push-room = omega (arith, fits.most, more, count_le (λ d. settled g (scope (pushed g b k).scopes d)) most_claims)

      pub pushed-fits : Fits g (pushed g b k)
      pushed-fits =
          record {
            scopes_long = length-set k.scopes b (narrow g (scope k.scopes b)) ∙ fits.scopes_long;
            queue_long = length-set k.queue k.top b ∙ fits.queue_long;
            most = omega (arith, fits.most, more);
          }

      pub queue-there : get_or (pushed g b k).queue k.top 0 ≡ b
      queue-there = get_or-set_same k.queue k.top b 0 (omega (arith, push-room, fits.queue_long))

      pub queue-other : (n : ℕ) → n < k.top → get_or (pushed g b k).queue n 0 ≡ get_or k.queue n 0
      queue-other n l = get_or-set_other k.queue k.top n b 0 (λ e. omega arith)

      pub narrowed-kept : (e : ℕ) → narrowed g (scope (pushed g b k).scopes e) ≡ narrowed g (scope k.scopes e)
      narrowed-kept e =
          by_cases (ℕ_discrete e b)
          (λ q.
          ap (λ (y : ℕ). narrowed g (scope (pushed g b k).scopes y)) q
          ∙ (narrowed-settled g (scope (pushed g b k).scopes b) pushed-there
          ∙ (scope-there ∙ (sym (narrowed_open g (scope k.scopes b) out) ∙ ap (λ (y : ℕ). narrowed g (scope k.scopes y)) (sym q)))))
          (λ n. ap (narrowed g) (scope-other e n))

    pub visit-fits : Fits g (visit g b k)
    visit-fits = visit-elim (Fits g) (λ t. fits) pushed-fits

    pub visit-queued : (n : ℕ) → n < k.top → (n < (visit g b k).top) × (get_or (visit g b k).queue n 0 ≡ get_or k.queue n 0)
    visit-queued n l =
        visit-elim (λ y. (n < y.top) × (get_or y.queue n 0 ≡ get_or k.queue n 0)) (λ t. (l, refl)) (λ out. (omega arith, queue-other out n l))

    pub visit-there : T (settled g (scope (visit g b k).scopes b))
    visit-there = visit-elim (λ y. T (settled g (scope y.scopes b))) (λ t. t) (λ out. pushed-there)

    pub visit-keeps : (d : ℕ) → T (settled g (scope k.scopes d)) → T (settled g (scope (visit g b k).scopes d))
    visit-keeps d t = visit-elim (λ y. T (settled g (scope y.scopes d))) (λ s. t) (λ out. pushed-keeps g d t)

-- one claim met, by what the code reads and tests: its scope x, whether that is settled
module _ (g b : ℕ) (k : Work) (x : ℕ) (read : x ≡ scope k.scopes b) (r : Bool) (test : r ≡ settled g x) where
  tested : r ≡ settled g (scope k.scopes b)
  tested = test ∙ ap (settled g) read

  pub met-settled : r ≡ true → visit g b k ≡ k
  met-settled e = visit-settled g b k (is (settled g (scope k.scopes b)) (sym tested ∙ e))

  pub met_out : r ≡ false → T (settled g (scope k.scopes b)) → ⊥
  met_out e = is-not (settled g (scope k.scopes b)) (sym tested ∙ e)

  pub met-pushed : r ≡ false → (n : ℕ) → n ≡ narrow g x → visit g b k ≡ record { scopes = set k.scopes b n; queue = set k.queue k.top b; top = k.top + 1 }
  met-pushed e n q =
      visit-pushed g b k (met_out e)
      ∙ ap (λ (y : ℕ). record { scopes = set k.scopes b y; queue = set k.queue k.top b; top = k.top + 1 }) (ap (narrow g) (sym read) ∙ sym q)

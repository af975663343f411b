-- A U that shrinks (specs/Doubts: Kept, Sunk). Assumes nothing.
--   sunk-start, -trans          nothing done, and one after the other
--   sunk-skip, -step, -next     a key's positions: past those of others, one that fails, and on to the next key
--   sunk_most, -room, -top      what a step asks for
--   sunk-fewer                  the set has no more claims than before
--   Failing, Fails, failing-..  the places of one key, as `fall` walks them
use Prim.Native.Nat.{ℕ, ◌+◌, ◌<◌, ◌≤◌}
use mathlib.Core.Path.{◌≡◌, refl, ◌∙◌, subst, subst⁻¹}
use mathlib.Core.Bool.{false}
use mathlib.Core.List.{List}
use mathlib.Core.Logic.{by_cases}
use native.Mathlib.Omega.{arith}
use native.Mathlib.Decide.{ℕ_discrete}
use lib.Dec.{T}
use lib.ListN.{length, get_or, set}
use lib.Seq.{get_or-set_other}
use Rattle.base.specs.Sets.{Claims, ◌⊆◌, set_of}
use Rattle.job.specs.Accepted.{WellFormed}
use Rattle.job.specs.Format.{claims, rules, literals, head_at}
use Rattle.counters.specs.Positions.{key_at, keys, start_of, owners, Placed}
use Rattle.counters.specs.Doubts.{stays, Left, Owed, Falling, Kept, Sunk}
use Rattle.counters.proofs.Queues.{queue-top, pending-skip, pending_next}
use Rattle.counters.proofs.Owning.{Owned, owners-owned}
use Rattle.counters.proofs.Walking.{Walk, walk_start, walk_end, walk-next, walk-on}
use Rattle.counters.proofs.Leaving.{stays-no, left_old, left_up, left-fewer, left_out, left-fallen, fallen-refl, fallen_trans, fallen-fewer}
use Rattle.counters.proofs.Falling.{falling-room, falling_most, falling-left, falling_owe, falling-due}

kept_trans : {s : List ℕ} {K : Claims} {cnt₀ cnt₁ cnt₂ u₁ u₂ : List ℕ} → set_of u₂ ⊆ set_of u₁ → Kept s K cnt₀ cnt₁ u₁ → Kept s K cnt₁ cnt₂ u₂ → Kept s K cnt₀ cnt₂ u₂
kept_trans {s} fewer a b = record { kept = λ r l z v n. b.kept r l (a.kept r l z (fewer (head_at s r) v) n) v n }

module _ (s k own cnt₀ u₀ q₀ : List ℕ) (t₀ : ℕ) where
  pub sunk-start :
      {i x : ℕ} → Falling s (set_of k) own cnt₀ u₀ q₀ i x t₀ → Sunk s k own cnt₀ u₀ q₀ t₀ cnt₀ u₀ q₀ i x t₀
  sunk-start now = record { falling = now; fallen = fallen-refl u₀ q₀ t₀; kept = record { kept = λ r l z v n. z } }

  module _ (cnt u q : List ℕ) (i x t : ℕ) where
    pub sunk-fewer : Sunk s k own cnt₀ u₀ q₀ t₀ cnt u q i x t → set_of u ⊆ set_of u₀
    sunk-fewer now = fallen-fewer now.fallen now.falling.plain

    pub sunk-top : Sunk s k own cnt₀ u₀ q₀ t₀ cnt u q i x t → t ≤ keys s
    sunk-top now = queue-top now.falling.queue

  module _ (cnt u q : List ℕ) (i t : ℕ) where
    -- other positions that are pending, but for none of the job's
    due-on :
        (x j y : ℕ) → (Falling s (set_of k) own cnt u q i x t → Falling s (set_of k) own cnt u q j y t)
        → Sunk s k own cnt₀ u₀ q₀ t₀ cnt u q i x t → Sunk s k own cnt₀ u₀ q₀ t₀ cnt u q j y t
    due-on x j y f now = record { falling = f now.falling; fallen = now.fallen; kept = now.kept }

    -- positions from y to x that don't have the key make no difference
    pub sunk-skip :
        (x y : ℕ) → y ≤ x → ((p : ℕ) → y ≤ p → p < x → key_at s p ≡ get_or q i 0 → ⊥) → Sunk s k own cnt₀ u₀ q₀ t₀ cnt u q i x t
        → Sunk s k own cnt₀ u₀ q₀ t₀ cnt u q i y t
    sunk-skip x y l f = due-on x i y (falling-due s (set_of k) own cnt u q i x t i y (λ p m. pending-skip s q t i y x l p (f p)))

    pub sunk-next : (x : ℕ) → x ≤ 0 → Sunk s k own cnt₀ u₀ q₀ t₀ cnt u q i x t → Sunk s k own cnt₀ u₀ q₀ t₀ cnt u q (i + 1) (literals s) t
    sunk-next x l now =
        let e : x ≡ 0 = omega arith in
        due-on 0 (i + 1) (literals s)
        (falling-due s (set_of k) own cnt u q i 0 t (i + 1) (literals s) (λ p m. pending_next s q t i (literals s) p m))
        (subst (λ (y : ℕ). Sunk s k own cnt₀ u₀ q₀ t₀ cnt u q i y t) e now)

    module _ (p : ℕ) (good : WellFormed s) (owned : Owned s own) (now : Sunk s k own cnt₀ u₀ q₀ t₀ cnt u q i (p + 1) t) (inside : i < t) (l : p < literals s) (here : key_at s p ≡ get_or q i 0) where
      r : ℕ
      r = get_or own p 0

      below : r < rules s
      unfolding r
      below = (owned.owner p l).below

      head_in : head_at s r < claims s
      head_in = good.head r below

      head_has : head_at s r < length u
      head_has = omega (arith, head_in, now.falling.size)

      room : stays k u (head_at s r) ≡ false → t < length q
      room e = falling-room now.falling (head_at s r) head_in (stays-no k u (head_at s r) e).0

      pub sunk_most : get_or cnt (get_or own p 0) 0 < 65535
      unfolding r
      sunk_most = falling_most now.falling good r below

      pub sunk-room : stays k u (head_at s (get_or own p 0)) ≡ false → t < length q
      unfolding r
      sunk-room = room

      cnt₁ : List ℕ
      cnt₁ = set cnt (get_or own p 0) (get_or cnt (get_or own p 0) 0 + 1)

      owed : Falling s (set_of k) own cnt₁ u q i p t
      unfolding cnt₁
      owed = falling_owe s (set_of k) own cnt u q i p t owned now.falling inside l here

      -- the rule that counts one more, and the others
      kept_but :
          (u' : List ℕ) → set_of u' ⊆ set_of u → (get_or cnt r 0 ≡ 0 → T (set_of u' (head_at s r)) → (T (set_of k (head_at s r)) → ⊥) → ⊥)
          → Kept s (set_of k) cnt₀ cnt₁ u'
      unfolding cnt₁ r
      kept_but u' fewer this =
          record {
            kept = λ x m z v n.
                let old : get_or cnt x 0 ≡ 0 = now.kept.kept x m z (fewer (head_at s x) v) n in
                by_cases (ℕ_discrete x (get_or own p 0))
                (λ e.
                absurd
                (this (subst (λ (y : ℕ). get_or cnt y 0 ≡ 0) e old) (subst (λ (y : ℕ). T (set_of u' (head_at s y))) e v)
                (λ w. n (subst⁻¹ (λ (y : ℕ). T (set_of k (head_at s y))) e w))))
                (λ d. get_or-set_other cnt (get_or own p 0) x (get_or cnt (get_or own p 0) 0 + 1) 0 d ∙ old);
          }

      stands : (get_or cnt r 0 ≡ 0 → ⊥) → Sunk s k own cnt₀ u₀ q₀ t₀ cnt₁ u q i p t
      stands d =
          record {
            falling = owed;
            fallen = now.fallen;
            kept = kept_but u (λ c v. v) (λ z v n. d z);
          }

      leaves : (u' q' : List ℕ) (t' : ℕ) → get_or cnt r 0 ≡ 0 → Left k (head_at s r) u q t u' q' t' → Sunk s k own cnt₀ u₀ q₀ t₀ cnt₁ u' q' i p t'
      leaves u' q' t' z j =
          record {
            falling = falling-left owed (head_at s r) head_in inside j;
            fallen = fallen_trans now.fallen (left-fallen j head_has room);
            kept = kept_but u' (left-fewer j head_has) (λ y v n. left_out j head_has v n);
          }

      pub sunk-step :
          (cnt' u' q' : List ℕ) (t' : ℕ) → Owed s k cnt u q (get_or own p 0) t cnt' u' q' t'
          → Sunk s k own cnt₀ u₀ q₀ t₀ cnt' u' q' i p t' × (i < t') × (get_or q' i 0 ≡ get_or q i 0)
      unfolding cnt₁ r
      sunk-step cnt' u' q' t' done =
          subst⁻¹ (λ (x : List ℕ). Sunk s k own cnt₀ u₀ q₀ t₀ x u' q' i p t' × (i < t') × (get_or q' i 0 ≡ get_or q i 0)) done.raised
          (by_cases (ℕ_discrete (get_or cnt (get_or own p 0) 0) 0)
          (λ e. (leaves u' q' t' e (done.leaves e), omega (arith, left_up (done.leaves e)), left_old (done.leaves e) i inside))
          (λ d. let m = done.stands d in rw (m.0, m.1, m.2) (stands d, inside, refl)))

pub sunk-trans :
    (s k own cnt₀ u₀ q₀ : List ℕ) (t₀ : ℕ) (cnt₁ u₁ q₁ : List ℕ) (i₁ x₁ t₁ : ℕ) (cnt u q : List ℕ) (i x t : ℕ)
    → Sunk s k own cnt₀ u₀ q₀ t₀ cnt₁ u₁ q₁ i₁ x₁ t₁ → Sunk s k own cnt₁ u₁ q₁ t₁ cnt u q i x t → Sunk s k own cnt₀ u₀ q₀ t₀ cnt u q i x t
sunk-trans s k own cnt₀ u₀ q₀ t₀ cnt₁ u₁ q₁ i₁ x₁ t₁ cnt u q i x t a b =
    record {
      falling = b.falling;
      fallen = fallen_trans a.fallen b.fallen;
      kept = kept_trans (sunk-fewer s k own cnt₁ u₁ q₁ t₁ cnt u q i x t b) a.kept b.kept;
    }

-- the places of the key at i of the list, walked
abbrev pub Failing : (s k cnt₀ u₀ q₀ : List ℕ) (i t₀ : ℕ) (cnt u q : List ℕ) (t key j : ℕ) → Type 0
Failing s k cnt₀ u₀ q₀ i t₀ cnt u q t key j = Walk (λ x. Sunk s k (owners s) cnt₀ u₀ q₀ t₀ cnt u q i x t) s q i t key j

-- rule r has the position at place j: what its step asks for, and the step
pub record Fails (s k cnt₀ u₀ q₀ : List ℕ) (i t₀ : ℕ) (cnt u q : List ℕ) (t key j r : ℕ) : Type 0 where
  pub below : r < rules s
  pub few : get_or cnt r 0 < 65535
  pub room : stays k u (head_at s r) ≡ false → t < length q
  pub step :
      (cnt' u' q' : List ℕ) (t' : ℕ) → Owed s k cnt u q r t cnt' u' q' t' → (n : ℕ) → n ≡ j + 1
      → Failing s k cnt₀ u₀ q₀ i t₀ cnt' u' q' t' key n

module _ (s k start occ cnt₀ u₀ q₀ : List ℕ) (i t₀ : ℕ) (good : WellFormed s) (placed : Placed s start occ) where
  pub failing-start :
      i < t₀ → Falling s (set_of k) (owners s) cnt₀ u₀ q₀ i (literals s) t₀ → (key j : ℕ) → key ≡ get_or q₀ i 0 → j ≡ start_of s key
      → Failing s k cnt₀ u₀ q₀ i t₀ cnt₀ u₀ q₀ t₀ key j
  failing-start l now key j e f = walk_start (sunk-start s k (owners s) cnt₀ u₀ q₀ t₀ now) l e f

  module _ (cnt u q : List ℕ) (t key j : ℕ) (now : Failing s k cnt₀ u₀ q₀ i t₀ cnt u q t key j) where
    pub failing_end : start_of s (key + 1) ≤ j → Sunk s k (owners s) cnt₀ u₀ q₀ t₀ cnt u q (i + 1) (literals s) t
    failing_end l =
        sunk-next s k (owners s) cnt₀ u₀ q₀ t₀ cnt u q i t 0 (omega arith)
        (walk_end now (sunk-skip s k (owners s) cnt₀ u₀ q₀ t₀ cnt u q i t) l)

    pub failing-next : j < start_of s (key + 1) → (r : ℕ) → r ≡ get_or occ j 0 → Fails s k cnt₀ u₀ q₀ i t₀ cnt u q t key j r
    failing-next more r read =
        let n = walk-next now good placed (sunk-skip s k (owners s) cnt₀ u₀ q₀ t₀ cnt u q i t) more r read in
        let own = owners-owned s good in
        record {
          below = n.small;
          few =
              subst⁻¹ (λ (y : ℕ). get_or cnt y 0 < 65535) n.rule
              (sunk_most s k (owners s) cnt₀ u₀ q₀ t₀ cnt u q i t n.p good own n.state now.inside n.inside n.here);
          room =
              subst⁻¹ (λ (y : ℕ). stays k u (head_at s y) ≡ false → t < length q) n.rule
              (sunk-room s k (owners s) cnt₀ u₀ q₀ t₀ cnt u q i t n.p good own n.state now.inside n.inside n.here);
          step = λ cnt' u' q' t' owed h e.
              let m =
              sunk-step s k (owners s) cnt₀ u₀ q₀ t₀ cnt u q i t n.p good own n.state now.inside n.inside n.here cnt' u' q' t'
              (subst (λ (y : ℕ). Owed s k cnt u q y t cnt' u' q' t') n.rule owed)
              in
              walk-on now n m.0 m.1 m.2 h e;
        }

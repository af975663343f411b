-- A D that grows, for every aim at once (specs/Counters: Raised). Assumes nothing.
--   carried_on                    every aim goes on
--   raised-start, -trans          nothing done, and one after the other
--   raised-skip, -step, -next     a key's positions: past those of others, one done, and on to the next key
--   raised-some, -room            what a step asks for
--   Taking, Takes, taking-..      the places of one key, as `hold` walks them
use Prim.Native.Nat.{ℕ, ◌+◌, ◌-◌, ◌<◌, ◌≤◌}
use mathlib.Core.Path.{◌≡◌, refl, sym, ◌∙◌, ap, subst, subst⁻¹}
use mathlib.Core.Bool.{false}
use mathlib.Core.List.{List}
use mathlib.Core.Logic.{by_cases}
use native.Mathlib.Omega.{arith}
use native.Mathlib.Decide.{ℕ_discrete}
use lib.Dec.{T}
use lib.ListN.{length, get_or, set}
use lib.Seq.{get_or-set_same, get_or-set_other}
use Rattle.base.specs.Sets.{◌⊆◌, set_of}
use Rattle.job.specs.Accepted.{WellFormed}
use Rattle.job.specs.Format.{claims, rules, literals, head_at}
use Rattle.counters.specs.Positions.{key_at, start_of, owners, Placed}
use Rattle.counters.specs.Queues.{Joined, Fits}
use Rattle.counters.specs.Counters.{Aim, Ready, Growing, Paid, Carried, Raised}
use Rattle.counters.proofs.Owning.{Owned, owners-owned}
use Rattle.counters.proofs.Walking.{Walk, walk_start, walk_end, walk-next, walk-on}
use Rattle.counters.proofs.Queues.{pending-skip, pending_next}
use Rattle.counters.proofs.Joining.{fits-room, joined-grown, joined-there, joined_old, joined-up, grown-refl, grown_trans}
use Rattle.counters.proofs.Growing.{growing_fires, growing-joined, growing-some, growing_pay, growing-due}

carried_on : {X Y Z : Aim → Type 0} → Carried X Y → ((a : Aim) → Y a → Z a) → Carried X Z
carried_on now f = record { some = (now.some.0, f now.some.0 now.some.1); each = λ a x. f a (now.each a x) }

module _ (s own cnt₀ w₀ q₀ : List ℕ) (i₀ t₀ : ℕ) where
  pub raised-start :
      ((a : Aim) × Growing s a own cnt₀ w₀ q₀ i₀ (literals s) t₀) → Ready s cnt₀ w₀ (rules s)
      → Raised s own cnt₀ w₀ q₀ i₀ t₀ cnt₀ w₀ q₀ i₀ (literals s) t₀
  raised-start some ready = record { carried = record { some = some; each = λ a x. x }; ready = ready; grown = grown-refl w₀ q₀ t₀ }

  pub raised-trans :
      (cnt₁ w₁ q₁ : List ℕ) (i₁ t₁ : ℕ) (cnt w q : List ℕ) (i x t : ℕ) → Raised s own cnt₀ w₀ q₀ i₀ t₀ cnt₁ w₁ q₁ i₁ (literals s) t₁
      → Raised s own cnt₁ w₁ q₁ i₁ t₁ cnt w q i x t → Raised s own cnt₀ w₀ q₀ i₀ t₀ cnt w q i x t
  raised-trans cnt₁ w₁ q₁ i₁ t₁ cnt w q i x t a b =
      record {
        carried = record { some = b.carried.some; each = λ m n. b.carried.each m (a.carried.each m n) };
        ready = b.ready;
        grown = grown_trans a.grown b.grown;
      }

  module _ (cnt w q : List ℕ) (i t : ℕ) where
    -- other positions that are pending, but for none of the job's
    due-on :
        (x j y : ℕ) → ((a : Aim) → Growing s a own cnt w q i x t → Growing s a own cnt w q j y t)
        → Raised s own cnt₀ w₀ q₀ i₀ t₀ cnt w q i x t → Raised s own cnt₀ w₀ q₀ i₀ t₀ cnt w q j y t
    due-on x j y f now = record { carried = carried_on now.carried f; ready = now.ready; grown = now.grown }

    -- positions from y to x that don't have the key make no difference
    pub raised-skip :
        (x y : ℕ) → y ≤ x → ((p : ℕ) → y ≤ p → p < x → key_at s p ≡ get_or q i 0 → ⊥) → Raised s own cnt₀ w₀ q₀ i₀ t₀ cnt w q i x t
        → Raised s own cnt₀ w₀ q₀ i₀ t₀ cnt w q i y t
    raised-skip x y l f = due-on x i y (λ a. growing-due s a own cnt w q i x t i y (λ p m. pending-skip s q t i y x l p (f p)))

    pub raised-next : (x : ℕ) → x ≤ 0 → Raised s own cnt₀ w₀ q₀ i₀ t₀ cnt w q i x t → Raised s own cnt₀ w₀ q₀ i₀ t₀ cnt w q (i + 1) (literals s) t
    raised-next x l now =
        let e : x ≡ 0 = omega arith in
        due-on 0 (i + 1) (literals s)
        (λ a. growing-due s a own cnt w q i 0 t (i + 1) (literals s) (λ p m. pending_next s q t i (literals s) p m))
        (subst (λ (y : ℕ). Raised s own cnt₀ w₀ q₀ i₀ t₀ cnt w q i y t) e now)

    module _ (p : ℕ) (good : WellFormed s) (owned : Owned s own) (now : Raised s own cnt₀ w₀ q₀ i₀ t₀ cnt w q i (p + 1) t) (inside : i < t) (l : p < literals s) (here : key_at s p ≡ get_or q i 0) where
      r : ℕ
      r = get_or own p 0

      below : r < rules s
      unfolding r
      below = (owned.owner p l).below

      head_in : head_at s r < claims s
      head_in = good.head r below

      fits : Fits (claims s) w q t
      fits = now.carried.some.1.fits

      pub raised-some : 1 ≤ get_or cnt (get_or own p 0) 0
      raised-some = growing-some s now.carried.some.0 own cnt w q i p t good owned now.carried.some.1 inside l here

      pub raised-room : set_of w (head_at s (get_or own p 0)) ≡ false → t < length q
      unfolding r
      raised-room e = fits-room fits (head_at s r) head_in e

      cnt₁ : List ℕ
      cnt₁ = set cnt (get_or own p 0) (get_or cnt (get_or own p 0) 0 - 1)

      lower : get_or cnt₁ r 0 ≡ get_or cnt r 0 - 1
      unfolding cnt₁ r
      lower = get_or-set_same cnt (get_or own p 0) (get_or cnt (get_or own p 0) 0 - 1) 0 (omega (arith, now.carried.some.1.counts.long, (owned.owner p l).below))

      paid : (a : Aim) → Growing s a own cnt w q i (p + 1) t → Growing s a own cnt₁ w q i p t
      unfolding cnt₁
      paid a g = growing_pay s a own cnt w q i p t good owned g inside l here

      ready_but : (w' : List ℕ) → set_of w ⊆ set_of w' → (get_or cnt₁ r 0 ≡ 0 → T (set_of w' (head_at s r))) → Ready s cnt₁ w' (rules s)
      unfolding cnt₁ r
      ready_but w' more this =
          record {
            ready = λ x m z.
                by_cases (ℕ_discrete x (get_or own p 0))
                (λ e.
                subst⁻¹ (λ (y : ℕ). T (set_of w' (head_at s y))) e
                (this (sym (ap (λ (y : ℕ). get_or (set cnt (get_or own p 0) (get_or cnt (get_or own p 0) 0 - 1)) y 0) e) ∙ z)))
                (λ d. more (head_at s x) (now.ready.ready x m (sym (get_or-set_other cnt (get_or own p 0) x (get_or cnt (get_or own p 0) 0 - 1) 0 d) ∙ z)));
          }

      waits : (get_or cnt r 0 ≡ 1 → ⊥) → Raised s own cnt₀ w₀ q₀ i₀ t₀ cnt₁ w q i p t
      unfolding r
      waits d =
          record {
            carried = carried_on now.carried paid;
            ready = ready_but w (λ c u. u) (λ z. absurd (d (omega (arith, lower, raised-some))));
            grown = now.grown;
          }

      joins : (w' q' : List ℕ) (t' : ℕ) → get_or cnt r 0 ≡ 1 → Joined (head_at s r) w q t w' q' t' → Raised s own cnt₀ w₀ q₀ i₀ t₀ cnt₁ w' q' i p t'
      joins w' q' t' one_left j =
          let z : get_or cnt₁ r 0 ≡ 0 = omega (arith, lower) in
          let g = joined-grown fits (head_at s r) head_in j in
          record {
            carried =
                carried_on now.carried
                (λ a g.
                let after = paid a g in
                growing-joined s a own cnt₁ w q i p t good owned after (head_at s r) head_in
                (growing_fires s a own cnt₁ w q i p t good owned after r below z) (omega arith) (λ e. absurd (omega arith)) w' q' t' j);
            ready = ready_but w' g.keeps (λ e. joined-there fits (head_at s r) head_in j);
            grown = grown_trans now.grown g;
          }

      pub raised-step :
          (cnt' w' q' : List ℕ) (t' : ℕ) → Paid s cnt w q (get_or own p 0) t cnt' w' q' t'
          → Raised s own cnt₀ w₀ q₀ i₀ t₀ cnt' w' q' i p t' × (i < t') × (get_or q' i 0 ≡ get_or q i 0)
      unfolding cnt₁ r
      raised-step cnt' w' q' t' done =
          subst⁻¹ (λ (x : List ℕ). Raised s own cnt₀ w₀ q₀ i₀ t₀ x w' q' i p t' × (i < t') × (get_or q' i 0 ≡ get_or q i 0)) done.lowered
          (by_cases (ℕ_discrete (get_or cnt (get_or own p 0) 0) 1)
          (λ e. (
            joins w' q' t' e (done.joins e),
            omega (arith, joined-up fits (head_at s r) head_in (done.joins e)),
            joined_old fits (head_at s r) head_in (done.joins e) i inside,
          ))
          (λ d. let m = done.waits d in rw (m.0, m.1, m.2) (waits d, inside, refl)))

-- the places of the key at i of the queue, walked
abbrev pub Taking : (s cnt₀ w₀ q₀ : List ℕ) (i t₀ : ℕ) (cnt w q : List ℕ) (t key j : ℕ) → Type 0
Taking s cnt₀ w₀ q₀ i t₀ cnt w q t key j = Walk (λ x. Raised s (owners s) cnt₀ w₀ q₀ i t₀ cnt w q i x t) s q i t key j

-- rule r has the position at place j: what its step asks for, and the step
pub record Takes (s cnt₀ w₀ q₀ : List ℕ) (i t₀ : ℕ) (cnt w q : List ℕ) (t key j r : ℕ) : Type 0 where
  pub below : r < rules s
  pub some : 1 ≤ get_or cnt r 0
  pub room : set_of w (head_at s r) ≡ false → t < length q
  pub step :
      (cnt' w' q' : List ℕ) (t' : ℕ) → Paid s cnt w q r t cnt' w' q' t' → (k : ℕ) → k ≡ j + 1
      → Taking s cnt₀ w₀ q₀ i t₀ cnt' w' q' t' key k

module _ (s start occ cnt₀ w₀ q₀ : List ℕ) (i t₀ : ℕ) (good : WellFormed s) (placed : Placed s start occ) where
  pub taking-start :
      i < t₀ → ((a : Aim) × Growing s a (owners s) cnt₀ w₀ q₀ i (literals s) t₀) → Ready s cnt₀ w₀ (rules s) → (key j : ℕ) → key ≡ get_or q₀ i 0
      → j ≡ start_of s key → Taking s cnt₀ w₀ q₀ i t₀ cnt₀ w₀ q₀ t₀ key j
  taking-start l some ready key j e f = walk_start (raised-start s (owners s) cnt₀ w₀ q₀ i t₀ some ready) l e f

  module _ (cnt w q : List ℕ) (t key j : ℕ) (now : Taking s cnt₀ w₀ q₀ i t₀ cnt w q t key j) where
    pub taking_end : start_of s (key + 1) ≤ j → Raised s (owners s) cnt₀ w₀ q₀ i t₀ cnt w q (i + 1) (literals s) t
    taking_end l =
        raised-next s (owners s) cnt₀ w₀ q₀ i t₀ cnt w q i t 0 (omega arith)
        (walk_end now (raised-skip s (owners s) cnt₀ w₀ q₀ i t₀ cnt w q i t) l)

    pub taking-next : j < start_of s (key + 1) → (r : ℕ) → r ≡ get_or occ j 0 → Takes s cnt₀ w₀ q₀ i t₀ cnt w q t key j r
    taking-next more r read =
        let n = walk-next now good placed (raised-skip s (owners s) cnt₀ w₀ q₀ i t₀ cnt w q i t) more r read in
        let own = owners-owned s good in
        record {
          below = n.small;
          some =
              subst⁻¹ (λ (y : ℕ). 1 ≤ get_or cnt y 0) n.rule
              (raised-some s (owners s) cnt₀ w₀ q₀ i t₀ cnt w q i t n.p good own n.state now.inside n.inside n.here);
          room =
              subst⁻¹ (λ (y : ℕ). set_of w (head_at s y) ≡ false → t < length q) n.rule
              (raised-room s (owners s) cnt₀ w₀ q₀ i t₀ cnt w q i t n.p good own n.state now.inside n.inside n.here);
          step = λ cnt' w' q' t' paid k e.
              let m =
              raised-step s (owners s) cnt₀ w₀ q₀ i t₀ cnt w q i t n.p good own n.state now.inside n.inside n.here cnt' w' q' t'
              (subst (λ (y : ℕ). Paid s cnt w q y t cnt' w' q' t') n.rule paid)
              in
              walk-on now n m.0 m.1 m.2 k e;
        }

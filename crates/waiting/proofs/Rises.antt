-- The potential rises with every turn that is not idle. Assumes nothing.
use mathlib.Core.Path.{◌≡◌, ◌∙◌}
use Prim.Native.Nat.{ℕ, suc, ◌+◌, ◌≤◌, ◌<◌}
use native.Mathlib.Omega.{arith}
use Rattle.base.specs.Graph.{here}
use Rattle.waiting.specs.State.{State, Own, Done, Engaged, awaiting, owning, Inv}
use Rattle.waiting.specs.Bound.{Phase, over, busy, due, ahead, Late, late, early, Worth, Value, whole, part, Total}
use Rattle.waiting.specs.Steps.{But, Claims, Stays, Awaits, Workers, AtQuestion, AtLiteral, Woke, Answered, OpenedAsked, WaitsAsked, WaitsOn, Completed, Step, woke, answered, opened-asked, waits_asked, completes, passed, skipped, opened, waits, took}
use Rattle.waiting.proofs.Basics.{has-question}
use Rattle.waiting.proofs.Marks.{claims_done, claims-own, claims-owned, opens_done, opens-own, completed_done}
use Rattle.waiting.proofs.Links.{Links, links_stay, links_pass}
use Rattle.waiting.proofs.Gains as G
use Rattle.waiting.proofs.Waits as W
use Rattle.waiting.proofs.Completed as C
use Rattle.waiting.proofs.Still.{passed_gains, skipped_gains, woke_gains, answered_gains}
use Rattle.waiting.proofs.Opened.{asked_gains, opened_gains}
use Rattle.waiting.proofs.Took.{took_gains, own-taken}
use Rattle.waiting.proofs.Worth.{phase_most, phase-busy, phase-asked, late_free, late_asked, worth_mono, value_more, value_mono, not_yet, stays-busy, by-worker, by-literal, by-claim}

-- nobody else's worth falls
module _ {s s' : State} {T w b u : ℕ} (I : Inv s T) (m : u ≡ w → ⊥)
    (asks : s'.asks u ≡ s.asks u) (awaits : s'.awaited u ≡ s.awaited u) (answers : s'.answered u ≡ s.answered u) where
  gains_mono : {R : ℕ → Type 0} {n n' : ℕ} → G.Gains s s' T w b R → Worth s u n → Worth s' u n' → n ≤ n'
  gains_mono g = worth_mono asks awaits answers (λ h. G.asked-on I g h) (λ h. G.engaged I g m h) (λ q d. g.grows.done d)

  waits_mono : {n n' : ℕ} → s.awaited w ≡ 0 → Claims s s' → Awaits s s' w b → Links s s' w b → Worth s u n → Worth s' u n' → n ≤ n'
  waits_mono f k a l =
      worth_mono asks awaits answers (λ h. W.asked-on f k a I l h) (λ h. W.engaged f k a m h) (λ q d. claims_done k d)

module _ {s s' : State} {A T w n n' : ℕ} (I : Inv s T) (I' : Inv s' T) (small : w < T) (few : T ≤ 32) (below : (c : ℕ) → 0 < s.mark c → c < A)
    (p : Total s A T n) (p' : Total s' A T n') where
  -- no cursor changes
  same-values : ((c : ℕ) → Done s c → Done s' c) → Stays s s' → (c : ℕ) → p.values c ≤ p'.values c
  same-values d l c = value_mono (d c) (l.cursors c) (p.value c) (p'.value c)

  woke-worth : Woke s s' w → {m m' : ℕ} → Worth s w m → Worth s' w m' → m + 1 ≤ m'
  woke-worth k {m} {m'} a b = go a.its-late
    where
      on : Engaged s w
      on = awaiting k.awaited

      one : a.phase ≡ 1
      one = phase-busy (has-question (I.asked on)).1 on a.its-phase

      some : 1 ≤ b.phase
      some = phase-asked (G.asked-on I (woke_gains I k) on) b.its-phase

      none : b.late ≡ 0
      none = late_free k.free b.its-late

      -- w awaited its own question's claim, so it owns nothing
      two : s.asks w ≡ suc k.claim → Phase s' w b.phase → b.phase ≡ 2
      two f (over c e) = omega (arith, some)
      two f (busy c (awaiting g) e) = omega (arith, k.free)
      two f (busy c (owning o) e) = absurd (I.alone k.awaited f (claims-owned k.claims o))
      two f (due c g d e) = e
      two f (ahead c g d e) = omega (arith, some)

      go : Late s w a.late → m + 1 ≤ m'
      go (late c d e) = omega (arith, one, some, none, a.worth, b.worth, k.answers w)
      go (early f e) = omega (arith, one, none, a.worth, b.worth, k.answers w, two (f k.claim k.awaited) b.its-phase)

  woke-rises : Woke s s' w → n < n'
  woke-rises k =
      by-worker p p' w small (same-values (λ c d. claims_done k.claims d) k.literals)
      (λ u m. gains_mono I m (k.asks u) (k.awaits u m) (k.answers u) (woke_gains I k) (p.worth u) (p'.worth u))
      (woke-worth k (p.worth w) (p'.worth w))

  answered-rises : {q : ℕ} → Answered s s' w q → n < n'
  answered-rises k =
      by-worker p p' w small (same-values (λ c d. claims_done k.claims d) k.literals)
      (λ u m. gains_mono I m (k.asks u m) (k.awaits u) (k.answers u m) (answered_gains I k) (p.worth u) (p'.worth u))
      (omega (
        arith,
        (p.worth w).worth,
        (p'.worth w).worth,
        phase_most (p.worth w).its-phase,
        k.answer,
        late_free (omega (arith, k.awaits w, k.at.free)) (p'.worth w).its-late,
      ))

  -- a question that was ahead, and now w owns or awaits its claim
  asked-worth : {q : ℕ} → AtQuestion s w q → s.mark q < 256 → s'.asks w ≡ s.asks w → s'.answered w ≡ s.answered w → Engaged s' w
      → {m m' : ℕ} → ((l : ℕ) → Late s' w l → l ≡ 0) → Worth s w m → Worth s' w m' → m + 1 ≤ m'
  asked-worth k l e f g h a b =
      let c : s'.asks w ≡ suc _ = e ∙ k.asks in
      omega (arith, a.worth, b.worth, not_yet k l a.its-phase, phase-busy c g b.its-phase, late_free k.free a.its-late, h _ b.its-late)

  opened-asked-rises : {q : ℕ} → OpenedAsked s s' w q → n < n'
  opened-asked-rises {q} k =
      let o : Own s' w q = omega (arith, k.opens.mark) in
      by-worker p p' w small (same-values (λ c d. opens_done k.opens d) k.literals)
      (λ u m. gains_mono I m (k.workers.asks u) (k.workers.awaits u) (k.workers.answers u) (asked_gains I small few k) (p.worth u) (p'.worth u))
      (asked-worth k.at (omega (arith, k.opens.fresh)) (k.workers.asks w) (k.workers.answers w) (owning o)
      (λ l h. late_free (k.workers.awaits w ∙ k.at.free) h) (p.worth w) (p'.worth w))

  waits-asked-rises : {q : ℕ} → WaitsAsked s s' w q → n < n'
  waits-asked-rises {q} k =
      by-worker p p' w small (same-values (λ c d. claims_done k.claims d) k.literals)
      (λ u m. waits_mono I m (k.awaits.asks u) (k.awaits.awaits u m) (k.awaits.answers u)
      k.at.free k.claims k.awaits (links_stay I q k.literals) (p.worth u) (p'.worth u))
      (asked-worth k.at k.held.still (k.awaits.asks w) (k.awaits.answers w) (awaiting k.awaits.await)
      (λ l h. late_asked k.awaits.await (k.awaits.asks w ∙ k.at.asks) h) (p.worth w) (p'.worth w))

  -- c's cursor moves on, and w stays busy
  module _ {c b : ℕ} (k : AtLiteral s w c b) (m : s.cursor c < s'.cursor c) (l : But c s.cursor s'.cursor) (o : Own s' w c) where
    literal-rises : ((x : ℕ) → Done s x → Done s' x) → ((u : ℕ) → (u ≡ w → ⊥) → p.worths u ≤ p'.worths u) → s'.answered w ≡ s.answered w → n < n'
    literal-rises d h e =
        by-literal p p' c w (below c (omega (arith, k.its)))
        (λ x m. value_mono (d x) (l x m) (p.value x) (p'.value x))
        (value_more (d c) 1 (omega arith) (p.value c) (p'.value c))
        h
        (stays-busy I I' k.at.free (owning k.its) (owning o) e (p.worth w) (p'.worth w))

    gains-rise : {e : ℕ} {R : ℕ → Type 0} → G.Gains s s' T w e R → Workers s s' → n < n'
    gains-rise g v =
        literal-rises (λ x d. g.grows.done d)
        (λ u m. gains_mono I m (v.asks u) (v.awaits u) (v.answers u) g (p.worth u) (p'.worth u)) (v.answers w)

  waits-rises : {c b : ℕ} → WaitsOn s s' T w c b → n < n'
  waits-rises k =
      literal-rises k.at (omega (arith, k.literals.cursor)) k.literals.cursors (claims-own k.claims k.at.its) (λ x d. claims_done k.claims d)
      (λ u m. waits_mono I m (k.awaits.asks u) (k.awaits.awaits u m) (k.awaits.answers u)
      k.at.at.free k.claims k.awaits (links_pass I k.at k.literals) (p.worth u) (p'.worth u))
      (k.awaits.answers w)

  completed-rises : {c : ℕ} → Completed s s' w c → n < n'
  completed-rises {c} k =
      by-claim p p' c (below c (omega (arith, k.at.newest.its)))
      (λ x m. value_mono (λ d. completed_done k d) (k.literals.cursors x) (p.value x) (p'.value x))
      (newly (p.value c) (p'.value c))
      (λ u. worth_mono (k.workers.asks u) (k.workers.awaits u) (k.workers.answers u)
      (λ g. C.asked I k (I.asked g)) (λ g. C.engaged I k g) (λ q d. completed_done k d) (p.worth u) (p'.worth u))
    where
      newly : {m m' : ℕ} → Value s c m → Value s' c m' → m + 1 ≤ m'
      newly (whole d e) q = absurd (omega (arith, k.at.newest.its))
      newly (part d e) (whole f g) = omega (arith, k.literals.cursors c)
      newly (part d e) (part f g) = absurd (omega (arith, C.over I k {x = c} here))

  pub rises : Step T w s s' → n < n'
  rises (woke k) = woke-rises k
  rises (answered k) = answered-rises k
  rises (opened-asked k) = opened-asked-rises k
  rises (waits_asked k) = waits-asked-rises k
  rises (completes k) = completed-rises k
  rises (passed k) =
      gains-rise k.at (omega (arith, k.literals.cursor)) k.literals.cursors (claims-own k.claims k.at.its) (passed_gains I k) k.workers
  rises (skipped k) = gains-rise k.at k.literals.cursor k.literals.cursors (claims-own k.claims k.at.its) (skipped_gains I k) k.workers
  rises (opened k) =
      gains-rise k.at (omega (arith, k.literals.cursor)) k.literals.cursors (opens-own k.opens k.at.its) (opened_gains I small few k) k.workers
  rises (waits k) = waits-rises k
  rises (took k) =
      gains-rise k.at (omega (arith, k.literals.cursor)) k.literals.cursors (own-taken I k here) (took_gains I k) k.workers

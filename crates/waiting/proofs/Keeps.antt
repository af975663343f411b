-- What holds at the start holds after every turn. Assumes nothing.
use mathlib.Core.Path.{◌≡◌}
use Prim.Native.Nat.{ℕ, suc, ◌≤◌, ◌<◌}
use native.Mathlib.Omega.{arith}
use Rattle.waiting.specs.State.{State, Own, ground, Engaged, awaiting, owning, Inv}
use Rattle.waiting.specs.Steps.{Start, Step, woke, answered, opened-asked, waits_asked, completes, passed, skipped, opened, waits, took}
use Rattle.waiting.proofs.Gains.{gains_keep}
use Rattle.waiting.proofs.Still.{passed_gains, skipped_gains, woke_gains, answered_gains}
use Rattle.waiting.proofs.Opened.{asked_gains, opened_gains}
use Rattle.waiting.proofs.Took.{took_gains}
use Rattle.waiting.proofs.Waits.{waits-asked-keeps, waits-keeps}
use Rattle.waiting.proofs.Completed.{completed-keeps}

pub keeps : {T w : ℕ} {s s' : State} → w < T → T ≤ 32 → Inv s T → Step T w s s' → Inv s' T
keeps small few I (woke k) = gains_keep I (woke_gains I k)
keeps small few I (answered k) = gains_keep I (answered_gains I k)
keeps small few I (opened-asked k) = gains_keep I (asked_gains I small few k)
keeps small few I (waits_asked k) = waits-asked-keeps I k
keeps small few I (completes k) = completed-keeps I k
keeps small few I (passed k) = gains_keep I (passed_gains I k)
keeps small few I (skipped k) = gains_keep I (skipped_gains I k)
keeps small few I (opened k) = gains_keep I (opened_gains I small few k)
keeps small few I (waits k) = waits-keeps I k
keeps small few I (took k) = gains_keep I (took_gains I k)

module _ {s : State} (T : ℕ) (k : Start s) where
  no_own : {w x : ℕ} → Own s w x → ⊥
  no_own {w} {x} o = omega (arith, k.marks x)

  no-waits : {w d : ℕ} → s.awaited w ≡ suc d → ⊥
  no-waits {w} e = omega (arith, k.awaits w)

  idle : {w : ℕ} → Engaged s w → ⊥
  idle (awaiting e) = no-waits e
  idle (owning o) = no_own o

  pub start-holds : Inv s T
  start-holds = record {
    begun = λ p. absurd (k.none p);
    named = λ p. absurd (k.none p);
    closed = λ p. absurd (k.none p);
    full = λ {x = x} d. absurd (omega (arith, k.marks x));
    counted = λ x. omega (arith, k.numbers x);
    workers = λ o. absurd (no_own o);
    order = λ o. absurd (no_own o);
    owned = λ q. absurd (no-waits q.awaits);
    reaches = λ q. absurd (no-waits q.awaits);
    goes = λ o. absurd (no_own o);
    grounded = λ w. ground (λ u n. absurd (no-waits n.waits.awaits));
    asked = λ g. absurd (idle g);
    alone = λ e f o. no_own o;
    back = λ p. absurd (k.none (s.sooner p));
  }

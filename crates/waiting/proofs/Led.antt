-- What isn't fresh is led to. Assumes nothing.
use mathlib.Core.Path.{◌≡◌}
use Prim.Native.Nat.{ℕ, suc, ◌<◌}
use native.Mathlib.Omega.{arith}
use native.Mathlib.Decide.{ℕ_discrete}
use Rattle.base.specs.Graph.{here}
use Rattle.waiting.specs.State.{State, Own}
use Rattle.waiting.specs.Steps.{Claims, Opens, Step, woke, answered, opened-asked, waits_asked, completes, passed, skipped, opened, waits, took, Start}
use Rattle.waiting.specs.Led.{Job, Led, led, Shows, Known}
use Rattle.base.proofs.Paths.{trans, one}
use Rattle.waiting.proofs.Marks.{claims_old, took_old, completed_old}

module _ {j : Job} {s s' : State} (K : Known j s) where
  claims_keep : Claims s s' → Known j s'
  claims_keep k = record { named = λ l. K.named (claims_old k l) }

  opens_keep : {w b : ℕ} → Opens s s' w b → Led j b → Known j s'
  opens_keep {w} {b} k d = record { named = λ {c = c} l. go c l (ℕ_discrete c b) }
    where
      go : (c : ℕ) → 0 < s'.mark c → Dec (c ≡ b) → Led j c
      go c l (yes e) = rw e d
      go c l (no n) = K.named (omega (arith, k.marks c n))

module _ {j : Job} {s : State} {w : ℕ} (H : Shows j s) (K : Known j s) where
  asked-led : {q : ℕ} → s.asks w ≡ suc q → Led j q
  asked-led e = let a = H.asks e in led a.0 a.1 (rw a.2 here)

  next-led : {c b : ℕ} → Own s w c → s.next c ≡ suc b → Led j b
  next-led {c} {b} o e = go (K.named (omega arith))
    where
      go : Led j c → Led j b
      go (led l m p) = led l m (trans p (one (H.next e)))

module _ {j : Job} {s s' : State} {T w : ℕ} (H : Shows j s) (K : Known j s) where
  pub known-keeps : Step T w s s' → Known j s'
  known-keeps (woke k) = claims_keep K k.claims
  known-keeps (answered k) = claims_keep K k.claims
  known-keeps (opened-asked k) = opens_keep K k.opens (asked-led {w = w} H K k.at.asks)
  known-keeps (waits_asked k) = claims_keep K k.claims
  known-keeps (completes k) = record { named = λ l. K.named (completed_old k l) }
  known-keeps (passed k) = claims_keep K k.claims
  known-keeps (skipped k) = claims_keep K k.claims
  known-keeps (opened k) = opens_keep K k.opens (next-led H K k.at.its k.at.next)
  known-keeps (waits k) = claims_keep K k.claims
  known-keeps (took k) = record { named = λ l. K.named (took_old k l) }

pub known_start : {j : Job} {s : State} → Start s → Known j s
known_start k = record { named = λ {c = c} l. absurd (omega (arith, k.marks c)) }

-- What becomes of the claims' marks in each kind of turn: none gets fresh again, none that is complete opens again. Assumes nothing.
use mathlib.Core.Path.{◌≡◌}
use Prim.Native.Nat.{ℕ, ◌<◌}
use native.Mathlib.Omega.{arith}
use Rattle.waiting.specs.State.{State, Own, Done}
use Rattle.waiting.specs.Steps.{Claims, Opens, TakenMark, taken, kept, Took, CompletedMark, Completed}

-- no claim is opened, taken or completed
module _ {s s' : State} (k : Claims s s') where
  pub claims_aged : {x : ℕ} → 0 < s.mark x → 0 < s'.mark x
  claims_aged {x} l = omega (arith, k.marks x)

  pub claims_old : {x : ℕ} → 0 < s'.mark x → 0 < s.mark x
  claims_old {x} l = omega (arith, k.marks x)

  pub claims_done : {x : ℕ} → Done s x → Done s' x
  claims_done {x} d = omega (arith, k.marks x)

  pub claims-own : {u x : ℕ} → Own s u x → Own s' u x
  claims-own {u} {x} o = omega (arith, k.marks x)

  pub claims-owned : {u x : ℕ} → Own s' u x → Own s u x
  claims-owned {u} {x} o = omega (arith, k.marks x)

-- b becomes open to w
module _ {s s' : State} {w b : ℕ} (k : Opens s s' w b) where
  pub not_b : {x : ℕ} → 0 < s.mark x → x ≡ b → ⊥
  not_b {x} l e = let f : s.mark x ≡ 0 = rw e k.fresh in omega arith

  opens_same : {x : ℕ} → 0 < s.mark x → s'.mark x ≡ s.mark x
  opens_same {x} l = k.marks x (not_b l)

  pub opens_aged : {x : ℕ} → 0 < s.mark x → 0 < s'.mark x
  opens_aged l = omega (arith, opens_same l)

  pub opens_done : {x : ℕ} → Done s x → Done s' x
  opens_done {x} d = omega (arith, opens_same {x = x} (omega arith))

  pub opens-own : {u x : ℕ} → Own s u x → Own s' u x
  opens-own {u} {x} o = omega (arith, opens_same {x = x} (omega arith))

-- w takes over what c reaches
module _ {s s' : State} {T w c b : ℕ} (k : Took s s' T w c b) where
  pub took_aged : {x : ℕ} → 0 < s.mark x → 0 < s'.mark x
  took_aged {x} l = go (k.marks x)
    where
      go : TakenMark s s' w c b x → 0 < s'.mark x
      go (taken r p q e) = omega arith
      go (kept n e) = omega arith

  pub took_old : {x : ℕ} → 0 < s'.mark x → 0 < s.mark x
  took_old {x} l = go (k.marks x)
    where
      go : TakenMark s s' w c b x → 0 < s.mark x
      go (taken r p q e) = p
      go (kept n e) = omega arith

  pub took_done : {x : ℕ} → Done s x → Done s' x
  took_done {x} d = go (k.marks x)
    where
      go : TakenMark s s' w c b x → Done s' x
      go (taken r p q e) = omega arith
      go (kept n e) = omega arith

-- w completes what n reaches
module _ {s s' : State} {w n : ℕ} (k : Completed s s' w n) where
  pub completed_aged : {x : ℕ} → 0 < s.mark x → 0 < s'.mark x
  completed_aged {x} l = go (k.marks x)
    where
      go : CompletedMark s s' n x → 0 < s'.mark x
      go (CompletedMark.completed r h) = omega arith
      go (CompletedMark.kept m e) = omega arith

  pub completed_old : {x : ℕ} → 0 < s'.mark x → 0 < s.mark x
  completed_old {x} l = go (k.marks x)
    where
      go : CompletedMark s s' n x → 0 < s.mark x
      go (CompletedMark.completed r h) = omega (arith, k.all r)
      go (CompletedMark.kept m e) = omega arith

  pub completed_done : {x : ℕ} → Done s x → Done s' x
  completed_done {x} d = go (k.marks x)
    where
      go : CompletedMark s s' n x → Done s' x
      go (CompletedMark.completed r h) = omega arith
      go (CompletedMark.kept m e) = omega arith

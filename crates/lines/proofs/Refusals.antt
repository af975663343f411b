-- Of two refusals that are one. Assumes nothing.
use Prim.Native.Nat.{ℕ}
use mathlib.Core.Path.{◌≡◌, ap}
use Rattle.job.specs.Check.{Refused}
use Rattle.job.specs.declared.Refusal.{Refusal}

module _ {n p m q : ℕ} (e : Refused n p ≡ Refused m q) where
  same : ◌≡◌ {A = Refusal} (record { number = n; place = p }) (record { number = m; place = q })
  same = cc

  pub same-number : n ≡ m
  same-number = ap (λ (x : Refusal). x.number) same

  pub same-place : p ≡ q
  same-place = ap (λ (x : Refusal). x.place) same

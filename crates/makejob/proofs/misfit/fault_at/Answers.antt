use Prim.Native.Nat.{ℕ}
use mathlib.Core.Path.{◌≡◌, refl}
use native.Mathlib.Omega.{arith}
use Rattle.makejob.specs.Faults.{fault_at}
use Rattle.makejob.specs.declared.sort.Sort.{Sort}
use Rattle.makejob.specs.declared.sort.Sort.TheVariants.{Empty, Blank, Unended, Return, LateRule, LeadingZero, Other}
use Rattle.makejob.proofs.misfit.fault_at.Goals as goal

kept : (s : Sort) (at : ℕ) → (s ≡ LateRule → ⊥) → at ≡ fault_at s at
unfolding fault_at
kept Empty at n = refl
kept Blank at n = refl
kept Unended at n = refl
kept Return at n = refl
kept LateRule at n = absurd (n refl)
kept LeadingZero at n = refl
kept Other at n = refl

pub returns-in-LateRule : goal.returns-in-LateRule
unfolding fault_at
returns-in-LateRule c = (rw c.in-LateRule.is, omega arith)

pub returns-in_default : goal.returns-in_default
returns-in_default c = (kept c.args.sort c.args.at c.in_default.not-LateRule, omega arith)

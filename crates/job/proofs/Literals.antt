-- Laws of literals as 16-bit fields. Assumes nothing.
use Prim.Native.Nat.{ℕ, ◌-◌, ◌%◌, ◌<◌, ◌≤◌}
use mathlib.Core.Path.{◌≡◌, sym, ◌∙◌, ap}
use mathlib.Core.Logic.{by_cases}
use native.Mathlib.Omega.{arith}
use native.Mathlib.Decide.{dec_lt}
use borrow.Author.Tests.{lt-ltb, le-ltb}
use Rattle.job.specs.Job.{claim_of}
use Rattle.job.specs.Format.{literal_of}
use Rattle.job.specs.declared.Literal.TheVariants.{Plain, Negated}

-- the literal of a field that was read as x
pub literal-plain : {x y : ℕ} → x ≡ y → x < 32768 → Plain x ≡ literal_of y
unfolding literal_of
literal-plain {x} {y} e h = rw (← e, lt-ltb x 32768 h)

pub literal-negated : {x y : ℕ} → x ≡ y → 32768 ≤ x → Negated (x - 32768) ≡ literal_of y
unfolding literal_of
literal-negated {x} {y} e h = rw (← e, le-ltb x 32768 h)

-- and its claim, which is what the field leaves
pub literal-claim : {x y : ℕ} → x ≡ y → x < 65536 → claim_of (literal_of y) ≡ x % 32768
literal-claim {x} {y} e l =
    by_cases (dec_lt x 32768) (λ h. sym (ap claim_of (literal-plain e h)) ∙ omega arith) (λ h.
    sym (ap claim_of (literal-negated e (omega arith))) ∙ omega arith)

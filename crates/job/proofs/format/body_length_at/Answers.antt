use mathlib.Core.Path.{sym, ◌∙◌}
use native.Mathlib.Omega.{arith}
use Rattle.job.proofs.Lengths.{none-missing, all-written}
use Rattle.job.proofs.format.body_length_at.Goals as goal

pub returns-then-length-eq-MISSING : goal.returns-then-length-eq-MISSING
returns-then-length-eq-MISSING c = let e = c.half-length.ensures.value in
    record { value = sym (none-missing _ _ (sym e ∙ c.if-length-eq-MISSING.true)); small = omega arith }

pub returns : goal.returns
returns c = let e = c.half-length.ensures.value in
    record { value = e ∙ sym (all-written _ _ (λ z. c.if-length-eq-MISSING.false (e ∙ z))); small = omega arith }

use borrow.Author.Tests.{eq-eqb, ne_eqb}
use native.Mathlib.Omega.{arith}
use Rattle.codes.specs.Numbers.{in_halves}
use Rattle.codes.proofs.in_halves.Goals as goal

pub returns-then-refusal-eq1 : goal.returns-then-refusal-eq1
unfolding in_halves
returns-then-refusal-eq1 c = rw (eq-eqb c.args.refusal.number 1 c.if-refusal-eq1.true)

pub returns : goal.returns
unfolding in_halves
returns c = rw (ne_eqb c.args.refusal.number 1 c.if-refusal-eq1.false) (omega (arith, c.from.ensures))

use mathlib.Core.Path.{refl, sym, ◌∙◌}
use native.Mathlib.Omega.{arith}
use Rattle.parts.proofs.LiteralsRead.{literal_is}
use Rattle.parts.proofs.Counting.{counting-few, counting_in, counting_out, counting_end}
use Rattle.parts.proofs.bodies.count_within.Goals as goal
use Rattle.parts.proofs.bodies.count_within.Goals.{then-inside, else-inside}

pub overflow_add-n : goal.overflow_add-n
overflow_add-n c = omega (arith, counting-few c.loop-k.invariant c.requires, c.args.part.now.accepted.sized.literals_most)

pub loop-k-preserved : goal.loop-k-preserved
loop-k-preserved c =
    let is = literal_is c.args.part.now.accepted refl c.requires c.loop-k-test.true c.literal_at.ensures.value in
    elim c.if-inside.branch [
      | then-inside w ↦ rw w.n-is (counting_in c.loop-k.invariant c.loop-k-test.true is (sym c.inside.ensures ∙ w.if-inside.true))
      | else-inside w ↦ rw w.n-is (counting_out c.loop-k.invariant c.loop-k-test.true is (sym c.inside.ensures ∙ w.if-inside.false))
    ]

pub returns : goal.returns
returns c = let a = c.loop-k.invariant in
    (counting_end a c.loop-k-test.false, counting-few a c.requires)

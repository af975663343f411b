use Prim.Native.Nat.{◌<◌}
use mathlib.Core.Path.{◌∙◌, sym, ap}
use native.Mathlib.Omega.{arith}
use lib.ListN.{length}
use Rattle.rulesets.specs.Sets.{Choice}
use Rattle.rulesets.specs.Jobs.{chosen_rule, chosen_literals}
use Rattle.rulesets.proofs.Listed.{choice-in}
use Rattle.rulesets.proofs.SetJobs.{bodies-next, bodies_none, chosen_most, chosen_count}
use Rattle.counting.proofs.Written.{counting-start, counting_more, counting_done, choice_in, choice-named, bodies-before}
use Rattle.counting.proofs.write.literal_count.Goals as goal

pub loop-c-init : goal.loop-c-init
loop-c-init c = counting-start _ _ _ (bodies_none _)

pub overflow_add-n : goal.overflow_add-n
overflow_add-n c = let l = c.loop-c in omega (arith, l.invariant.low, l.invariant.within, c.requires.0, c.choice_length-n.ensures.small)

pub loop-c-preserved : goal.loop-c-preserved
loop-c-preserved c = let l = c.loop-c in
    let h : l.c < c.args.size = omega arith in
    let x = choice_in c.args.size c.args.k l.c in
    counting_more _ _ _ l.invariant h
    (c.choice_length-n.ensures.value ∙ ap (λ (y : Choice). length (chosen_literals y)) (choice-named c.args.size c.args.k l.c c.requires.1 h c.choice_of.ensures.value) ∙ sym (chosen_count l.c x))
    (bodies-next (λ i. chosen_rule i (choice_in c.args.size c.args.k i)) l.c)
    (omega (arith, chosen_count l.c x, chosen_most c.args.size x (choice-in c.args.size c.args.k c.requires.1 l.c h), c.requires.0))

pub returns : goal.returns
returns c = let l = c.loop-c in
    record { value = counting_done _ _ _ l.invariant (omega arith) ∙ sym (bodies-before c.args.size c.args.k c.requires.1); small = omega (arith, l.invariant.low, l.invariant.within, c.requires.0) }

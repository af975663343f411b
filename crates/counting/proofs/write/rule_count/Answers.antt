use mathlib.Core.Path.{◌∙◌, sym}
use native.Mathlib.Omega.{arith}
use Rattle.rulesets.specs.Jobs.{chosen_rule}
use Rattle.rulesets.proofs.SetJobs.{length-next, length_none, rule_one}
use Rattle.counting.proofs.Written.{counting-start, counting_more, counting_done, choice_in, rule-length, rules-before}
use Rattle.counting.proofs.write.rule_count.Goals as goal

pub loop-c-init : goal.loop-c-init
loop-c-init c = counting-start _ _ _ (length_none _)

pub overflow_add-n : goal.overflow_add-n
overflow_add-n c = let l = c.loop-c in
    let x = choice_in c.args.size c.args.k l.c in
    omega (arith, l.invariant.low, l.invariant.within, c.requires.0, rule_one l.c x, rule-length l.c x c.choice_of.ensures.value c.from-n.ensures)

pub loop-c-preserved : goal.loop-c-preserved
loop-c-preserved c = let l = c.loop-c in
    let x = choice_in c.args.size c.args.k l.c in
    counting_more _ _ _ l.invariant (omega arith) (rule-length l.c x c.choice_of.ensures.value c.from-n.ensures) (length-next (λ i. chosen_rule i (choice_in c.args.size c.args.k i)) l.c) (rule_one l.c x)

pub returns : goal.returns
returns c = let l = c.loop-c in
    record { value = counting_done _ _ _ l.invariant (omega arith) ∙ sym (rules-before c.args.size c.args.k c.requires.1); small = omega (arith, l.invariant.low, l.invariant.within, c.requires.0) }

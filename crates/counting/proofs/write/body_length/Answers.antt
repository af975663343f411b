use mathlib.Core.Path.{◌∙◌, sym}
use native.Mathlib.Omega.{arith}
use Rattle.rulesets.specs.Jobs.{signed}
use Rattle.rulesets.proofs.SetJobs.{length-next, length_none, literal_one}
use Rattle.counting.proofs.Written.{counting-start, counting_more, counting_done, sign_at, sign-length, literals-before}
use Rattle.counting.proofs.write.body_length.Goals as goal

pub loop-c-init : goal.loop-c-init
loop-c-init c = counting-start _ _ _ (length_none _)

pub overflow_add-n : goal.overflow_add-n
overflow_add-n c = let l = c.loop-c in
    omega (arith, l.invariant.low, l.invariant.within, c.requires.0, literal_one l.c (sign_at c.args.size c.args.x l.c), sign-length l.c (sign_at c.args.size c.args.x l.c) c.sign_of.ensures.value c.from-n.ensures)

pub loop-c-preserved : goal.loop-c-preserved
loop-c-preserved c = let l = c.loop-c in
    let x = sign_at c.args.size c.args.x l.c in
    counting_more _ _ _ l.invariant (omega arith) (sign-length l.c x c.sign_of.ensures.value c.from-n.ensures) (length-next (λ i. signed i (sign_at c.args.size c.args.x i)) l.c) (literal_one l.c x)

pub returns : goal.returns
returns c = let l = c.loop-c in
    record { value = counting_done _ _ _ l.invariant (omega arith) ∙ sym (literals-before c.args.size c.args.x c.requires.1); small = omega (arith, l.invariant.low, l.invariant.within, c.requires.0) }

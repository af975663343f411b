use mathlib.Core.Path.{refl, ◌∙◌}
use native.Mathlib.Omega.{arith}
use Rattle.makejob.specs.Pieces.{first_past}
use Rattle.makejob.proofs.Numbers.{past_here, past_more, past_none, less_behind}
use Rattle.makejob.proofs.digits.first_past.Goals as goal

pub loop-rest-init : goal.loop-rest-init
unfolding first_past
loop-rest-init c = refl

pub returns-then-is_past : goal.returns-then-is_past
returns-then-is_past c = let l = c.loop-rest in
    past_here l.rest.now c.args.bound c.next.ensures.digits c.is_past.ensures c.if-is_past.true (grind arith) ∙ l.invariant

pub loop-rest-smaller : goal.loop-rest-smaller
loop-rest-smaller c = less_behind c.loop-rest.rest.now _ (grind arith) c.next.ensures.behind

pub loop-rest-preserved : goal.loop-rest-preserved
loop-rest-preserved c = let l = c.loop-rest in
    past_more l.rest.now c.args.bound c.next.ensures.digits c.is_past.ensures c.if-is_past.false (grind arith) c.next.ensures.behind ∙ l.invariant

pub returns : goal.returns
returns c = past_none c.loop-rest.rest.now c.args.bound (grind arith) ∙ c.loop-rest.invariant

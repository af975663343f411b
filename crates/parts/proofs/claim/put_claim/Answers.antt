use native.Mathlib.Omega.{arith}
use Rattle.parts.proofs.RuleText.{end_fits}
use Rattle.parts.proofs.Walking.{first-place, walking_start, walking-room, walking-more, walking_done, walking_end}
use Rattle.parts.proofs.claim.put_claim.Goals as goal

pub loop-r-init : goal.loop-r-init
loop-r-init c = let p = c.args.part.now in
    walking_start _ _ _ _ _ _ _ c.requires.room (first-place p.accepted p.indexed c.requires.counts.0 c.first_rule-r.ensures c.cursor-from.ensures.value) c.first_rule-r.ensures

pub returns-then-head_at-claim : goal.returns-then-head_at-claim
returns-then-head_at-claim c =
    walking_done _ _ _ _ _ _ c.loop-r.invariant (omega (arith, c.rule_count-rules.ensures.value, c.loop-r-test.true)) c.head_at.ensures.value c.args.part.now.accepted c.if-head_at-claim.true

pub put_rule-requires-clause-room : goal.put_rule-requires-clause-room
put_rule-requires-clause-room c =
    walking-room _ _ _ _ _ _ c.loop-r.invariant (omega (arith, c.rule_count-rules.ensures.value, c.loop-r-test.true)) c.head_at.ensures.value c.if-head_at-claim.false

pub overflow_add-from : goal.overflow_add-from
overflow_add-from c =
    omega (arith, end_fits c.args.part.now.accepted (omega (arith, c.rule_count-rules.ensures.value, c.loop-r-test.true)) c.loop-r.invariant.starts c.body_length_at-from.ensures.value, c.args.part.now.accepted.sized.literals_most)

pub loop-r-preserved : goal.loop-r-preserved
loop-r-preserved c =
    walking-more _ _ _ _ _ _ c.loop-r.invariant (omega (arith, c.rule_count-rules.ensures.value, c.loop-r-test.true)) c.head_at.ensures.value c.if-head_at-claim.false c.put_rule.ensures c.body_length_at-from.ensures.value

pub returns : goal.returns
returns c =
    walking_end _ _ _ _ _ _ c.loop-r.invariant (omega (arith, c.rule_count-rules.ensures.value, c.loop-r-test.false))

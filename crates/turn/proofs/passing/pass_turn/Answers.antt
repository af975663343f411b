-- : the rest of a rule that has failed is skipped (proofs/Skipping), any other literal passed.
use native.Mathlib.Omega.{arith}
use Rattle.turn.proofs.Cursors.{next-there}
use Rattle.turn.proofs.Following.{room}
use Rattle.turn.proofs.KeptPassing.{skipped-keeps}
use Rattle.turn.proofs.Skipping.{skip-low, skip_stored, skip-behind, pass-skipped, pass-clear}
use Rattle.turn.proofs.passing.pass_turn.Goals as goal

pub cursor_at-passed-requires : goal.cursor_at-passed-requires
cursor_at-passed-requires c = let p = c.requires in omega (arith, room _ _ p.ready.table, p.c_bound.0)

pub over-cursor-requires : goal.over-cursor-requires
over-cursor-requires c = let p = c.requires in omega (arith, p.c_bound.0, p.ready.job.sized.claims_most, c.cursor_at-passed.ensures.small)

pub past_rule-requires : goal.past_rule-requires
past_rule-requires c = let a = c.args in
    let p = c.requires in
    omega (arith, next-there a.job.now a.index.now p.ready.job p.ready.indexed a.c p.c_bound.0 _ p.c_value.1 c.cursor_at-passed.ensures.value c.over-cursor.ensures, p.ready.job.sized.literals_most)

pub move_to-requires : goal.move_to-requires
move_to-requires c = let a = c.args in
    let p = c.requires in record { c_lt_most_claims = (omega (arith, p.c_bound.0, p.ready.job.sized.claims_most), omega (arith, room _ _ p.ready.table, p.c_bound.0)); c_bound = skip-low a.job.now a.index.now a.table.now p.ready a.w a.c p.c_bound.0 p.c_value.1 c.cursor_at-passed.ensures.value c.rule_failed.ensures c.over-cursor.ensures c.past_rule.ensures }

pub returns-then-rule_failed-clause-done : goal.returns-then-rule_failed-clause-done
returns-then-rule_failed-clause-done c = let a = c.args in
    let p = c.requires in
    let s = a.job.now in
    let i = a.index.now in
    let t = a.table.now in
    let e = c.cursor_at-passed.ensures.value in
    let f = c.rule_failed.ensures in
    let l = p.c_value.1 in
    record {
      made = pass-skipped s i t p.ready a.w a.c p.c_bound.0 l e f c.over-cursor.ensures c.past_rule.ensures c.if-rule_failed.true c.move_to.ensures;
      keeps = skipped-keeps p.ready a.c p.c_bound.0 l (skip-behind s i t p.ready a.w a.c p.c_bound.0 l e f c.if-rule_failed.true) (skip_stored s i t p.ready a.w a.c p.c_bound.0 l e f c.over-cursor.ensures c.past_rule.ensures c.move_to.ensures) _ _ _ p.keeps;
    }

pub pass_clear-requires : goal.pass_clear-requires
pass_clear-requires c = let a = c.args in
    let p = c.requires in
    let f = pass-clear a.job.now a.index.now a.table.now p.ready a.w a.c p.c_bound.0 p.c_value.1 c.cursor_at-passed.ensures.value c.rule_failed.ensures c.if-rule_failed.false in record { ready = p.ready; c_bound = p.c_bound; c_value = p.c_value; c_value_2 = f; keeps = p.keeps }

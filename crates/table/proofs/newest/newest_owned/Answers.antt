use Prim.Native.Nat.{◌-◌}
use Rattle.table.proofs.Searching.{owned-yes, owned-no, swept_none, swept_more, swept_same}
use Rattle.table.proofs.newest.newest_owned.Goals as goal

pub loop-c-init : goal.loop-c-init
loop-c-init c = swept_none _ _ _

pub loop-c-preserved-then-mark_at-w : goal.loop-c-preserved-then-mark_at-w
loop-c-preserved-then-mark_at-w c = let t = c.args.table.now in
    let w = c.args.w in
    let l = c.loop-c in
    swept_more l.invariant c.loop-c-test.true (owned-yes t w (l.c - 1) c.mark_at.ensures.value c.if-mark_at-w.true) c.newer-best.ensures

pub loop-c-preserved : goal.loop-c-preserved
loop-c-preserved c = let t = c.args.table.now in
    let w = c.args.w in
    let l = c.loop-c in
    swept_same l.invariant c.loop-c-test.true (owned-no t w (l.c - 1) c.mark_at.ensures.value c.if-mark_at-w.false)

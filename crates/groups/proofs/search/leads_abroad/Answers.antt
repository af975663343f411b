use Prim.Native.Nat.{◌<◌}
use mathlib.Core.Bool.{true≢false}
use mathlib.Core.Path.{subst}
use native.Mathlib.Omega.{arith}
use lib.ListN.{length}
use Rattle.job.specs.Format.{claims}
use Rattle.job.specs.Job.{most_claims}
use Rattle.job.specs.declared.Question.{Question}
use Rattle.groups.proofs.Partners.{asked-bad}
use Rattle.groups.proofs.Seeking.{Seeking, seeking-start, seeking-top, seeking-low, seeking-foreign, seeking-cursor, seeking-more, seeking_done}
use Rattle.groups.proofs.search.leads_abroad.Goals as goal
use Rattle.groups.proofs.search.leads_abroad.Goals.{After-from-c, In-loop-i}

-- the queue is no longer than there are claims
within : (c : In-loop-i) → (c.loop-i.i < most_claims) × (c.loop-i.i < length c.loop-i.queue)
within c = let q = c.question_at-question.ensures in
    let x = c.loop-i.invariant in
    let t = seeking-top _ _ q.accepted _ _ (q.accepted.asked c.args.q c.requires.fits.0) _ _ x in
    (omega (arith, t, c.loop-i-test.true), omega (arith, t, c.loop-i-test.true, x.fits.queue_long))

-- the claim at place i of the queue
low : (c : After-from-c) → c.from-c.result < claims c.args.job.now
low c = let q = c.question_at-question.ensures in
    seeking-low _ _ q.accepted _ _ (q.accepted.asked c.args.q c.requires.fits.0) _ _ c.loop-i.invariant c.loop-i-test.true _ c.from-c.ensures

pub loop-i-init : goal.loop-i-init
loop-i-init c = let q = c.question_at-question.ensures in
    let p = c.requires in
    subst (λ (x : Question). Seeking c.args.job.now c.args.groups.now c.from-group.result x.claim 0 (record { scopes = c.meet-top.new.scopes; queue = c.meet-top.new.queue; top = c.meet-top.result })) q.value
    (seeking-start _ _ q.accepted _ _ q.asked _ _ p.fits.1 p.fits.2 p.known _ c.meet-top.ensures)

pub offset_bounds-queue-i : goal.offset_bounds-queue-i
offset_bounds-queue-i c = omega (arith, within (goal.at.offset_bounds-queue-i c).In-loop-i)

pub bounds-queue-i : goal.bounds-queue-i
bounds-queue-i c = (within (goal.at.bounds-queue-i c).In-loop-i).1

pub is_foreign-requires : goal.is_foreign-requires
is_foreign-requires c = omega (arith, low (goal.at.is_foreign-requires c).After-from-c, c.requires.lengths.0)

pub returns-then-is_foreign : goal.returns-then-is_foreign
returns-then-is_foreign c = let q = c.question_at-question.ensures in
    record {
      value = asked-bad _ _ _ _ _ _ _ q.value c.from-group.ensures
          (seeking-foreign _ _ q.accepted _ _ (q.accepted.asked c.args.q c.requires.fits.0) _ _ c.loop-i.invariant c.loop-i-test.true _ c.from-c.ensures _ c.is_foreign.ensures c.if-is_foreign.true);
      kept = λ e. absurd (true≢false e);
    }

pub cursor-from-requires : goal.cursor-from-requires
cursor-from-requires c = record { claim = low (goal.at.cursor-from-requires c).After-from-c; passed = omega arith }

pub expand-top-requires : goal.expand-top-requires
expand-top-requires c = let q = c.question_at-question.ensures in
    let l = c.loop-i in
    let r = seeking-cursor _ _ q.accepted _ _ (q.accepted.asked c.args.q c.requires.fits.0) _ _ l.invariant c.loop-i-test.true _ c.from-c.ensures _ c.requires.indexed _ c.cursor-from.ensures.value in
    record { within = (r.0, r.1, omega arith); fits = l.invariant.fits }

pub loop-i-smaller : goal.loop-i-smaller
loop-i-smaller c = omega (arith, within (goal.at.loop-i-smaller c).In-loop-i)

pub loop-i-preserved : goal.loop-i-preserved
loop-i-preserved c = let q = c.question_at-question.ensures in
    seeking-more _ _ q.accepted _ _ (q.accepted.asked c.args.q c.requires.fits.0) _ _ c.loop-i.invariant c.loop-i-test.true _ c.from-c.ensures _ c.requires.indexed _ c.cursor-from.ensures.value _ c.is_foreign.ensures c.if-is_foreign.false _ c.expand-top.ensures

pub returns : goal.returns
returns c = let q = c.question_at-question.ensures in
    let d = seeking_done _ _ q.accepted _ _ (q.accepted.asked c.args.q c.requires.fits.0) _ _ c.loop-i.invariant c.loop-i-test.false in
    record { value = asked-bad _ _ _ _ _ _ _ q.value c.from-group.ensures d.0; kept = λ e. d.1 }

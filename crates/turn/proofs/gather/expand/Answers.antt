use Prim.Native.Nat.{◌<◌}
use mathlib.Core.Path.{◌≡◌, sym, ◌∙◌, ap}
use native.Mathlib.Omega.{arith}
use borrow.Author.Tests.{leb-false, leb-true}
use Rattle.job.specs.declared.Cursor.{Cursor}
use Rattle.job.specs.declared.Literal.{Literal}
use Rattle.job.specs.Format.{rules, literal_at}
use Rattle.job.specs.Job.{claim_of}
use Rattle.turn.specs.Gather.{onward}
use Rattle.turn.proofs.Worklist.{expanding-start, expanding-below, expanding-fits, expanding_less, expanding_more, expanding_done}
use Rattle.turn.proofs.gather.expand.Goals as goal
use Rattle.turn.proofs.gather.expand.Goals.{After-claim_of, After-moved_on-cursor, In-loop-cursor}

-- a literal is left
left : (c : In-loop-cursor) → c.loop-cursor.cursor.at < c.loop-cursor.cursor.end
left c = leb-false _ _ (sym c.at_end.ensures ∙ c.loop-cursor-test.true)

-- the claim met is the current literal's
meets : (c : After-claim_of) → c.claim_of.result ≡ claim_of (literal_at c.args.job.now (rules c.args.job.now) c.loop-cursor.cursor.at)
meets c = c.claim_of.ensures ∙ ap claim_of c.current-literal.ensures.value

pub loop-cursor-init : goal.loop-cursor-init
loop-cursor-init c = (expanding-start c.requires.room, c.requires.literals)

pub current-literal-requires : goal.current-literal-requires
current-literal-requires c = omega (arith, left (goal.at.current-literal-requires c).In-loop-cursor, c.loop-cursor.invariant.1)

pub visit-top-requires : goal.visit-top-requires
visit-top-requires c = let x = c.loop-cursor.invariant.0 in
    let e = meets (goal.at.visit-top-requires c).After-claim_of in
    (omega (arith, e, expanding-below _ _ _ _ _ _ _ _ x (left (goal.at.visit-top-requires c).In-loop-cursor)), omega (arith, x.room.words, x.room.fits.long), expanding-fits _ _ _ _ _ _ _ _ x)

pub moved_on-cursor-requires : goal.moved_on-cursor-requires
moved_on-cursor-requires c = let l = c.loop-cursor in
    let h = left (goal.at.moved_on-cursor-requires c).In-loop-cursor in
    (omega (arith, l.invariant.0.room.words, expanding-below _ _ _ _ _ _ _ _ l.invariant.0 h, l.invariant.0.room.fits.long, ap claim_of c.current-literal.ensures.value), h, l.invariant.0.room.most)

-- the cursor past the literal, or past its rule
moves : (c : After-moved_on-cursor) → c.moved_on-cursor.result ≡ onward c.args.index.now c.args.table.now (literal_at c.args.job.now (rules c.args.job.now) c.loop-cursor.cursor.at) c.loop-cursor.cursor
moves c =
    let l = c.loop-cursor in
    c.moved_on-cursor.ensures ∙ ap (λ (y : Literal). onward c.args.index.now c.args.table.now y l.cursor) c.current-literal.ensures.value

pub loop-cursor-smaller : goal.loop-cursor-smaller
loop-cursor-smaller c = let l = c.loop-cursor in
    let h = left (goal.at.loop-cursor-smaller c).In-loop-cursor in
    let e = ap (λ (x : Cursor). x.at) (moves (goal.at.loop-cursor-smaller c).After-moved_on-cursor) in
    let z = ap (λ (x : Cursor). x.end) (moves (goal.at.loop-cursor-smaller c).After-moved_on-cursor) in
    omega (arith, h, expanding_less _ _ _ _ _ _ _ _ l.invariant.0 h)

pub loop-cursor-preserved : goal.loop-cursor-preserved
loop-cursor-preserved c = let l = c.loop-cursor in
    let h = left (goal.at.loop-cursor-preserved c).In-loop-cursor in
    let m = moves (goal.at.loop-cursor-preserved c).After-moved_on-cursor in (
      expanding_more _ _ _ _ _ _ _ _ l.invariant.0 _ _ _ h (meets (goal.at.loop-cursor-preserved c).After-claim_of) c.visit-top.ensures m,
      omega (arith, ap (λ (x : Cursor). x.end) m, (expanding_less _ _ _ _ _ _ _ _ l.invariant.0 h).1, l.invariant.1),
    )

pub shape_of-place : goal.shape_of-place
shape_of-place c = c.loop-cursor.invariant.0.room.fits.long

pub shape_of-members : goal.shape_of-members
shape_of-members c = c.loop-cursor.invariant.0.wide

pub returns : goal.returns
returns c = expanding_done _ _ _ _ _ _ _ _ c.loop-cursor.invariant.0 (leb-true _ _ (sym c.at_end.ensures ∙ c.loop-cursor-test.false))

use mathlib.Core.Path.{refl}
use native.Mathlib.Omega.{arith}
use Rattle.job.specs.Encoding.{half_bytes}
use Rattle.writing.proofs.Writing.{writes-room, writes-writes}
use Rattle.counting.proofs.Written.{ask_bytes, questions_flat, all_start, all_room, all_more, all_done}
use Rattle.counting.proofs.write.put_questions.Goals as goal

pub loop-c-init : goal.loop-c-init
loop-c-init c = all_start ask_bytes c.args.size (questions_flat _) c.requires.room

pub put_half-requires : goal.put_half-requires
put_half-requires c = let l = c.loop-c in omega (arith, all_room _ _ l.invariant c.loop-c-test.true (refl {a = ask_bytes l.c}))

pub put_half-requires-in-loop-c : goal.put_half-requires-in-loop-c
put_half-requires-in-loop-c c = let l = c.loop-c in
    let r = all_room _ _ l.invariant c.loop-c-test.true (refl {a = ask_bytes l.c}) in
    writes-room _ _ (half_bytes 0) (omega (arith, r)) c.put_half.ensures 2 (omega (arith, r))

pub loop-c-preserved : goal.loop-c-preserved
loop-c-preserved c = let l = c.loop-c in
    let r = all_room _ _ l.invariant c.loop-c-test.true (refl {a = ask_bytes l.c}) in
    all_more _ _ l.invariant c.loop-c-test.true (refl {a = ask_bytes l.c}) (writes-writes _ _ (half_bytes 0) (omega (arith, r)) c.put_half.ensures _ (half_bytes l.c) c.put_half-in-loop-c.ensures)

pub returns : goal.returns
returns c = all_done _ _ c.loop-c.invariant c.loop-c-test.false (questions_flat c.args.size)

use mathlib.Core.Path.{sym, ap, ◌∙◌}
use mathlib.Core.List.{◌++◌}
use Prim.Native.Nat.{ℕ}
use native.Mathlib.Omega.{arith}
use lib.ListN.{length}
use Rattle.job.specs.Encoding.{half_bytes}
use Rattle.writing.proofs.Writing.{writes_none, writes_as, writes-room, writes-writes}
use Rattle.counting.proofs.Written.{record_none, record-some}
use Rattle.counting.proofs.write.put_record.Goals as goal

pub returns-then-v-eq0 : goal.returns-then-v-eq0
returns-then-v-eq0 c = writes_as (writes_none _) (sym (record_none c.args.size _ c.args.c c.if-v-eq0.true))

pub put_half-requires : goal.put_half-requires
put_half-requires c = omega (arith, c.requires.room, ap length (record-some c.args.size c.args.v c.if-v-eq0.false c.requires.choice.1 c.args.c))

pub put_half-requires-2 : goal.put_half-requires-2
put_half-requires-2 c = let e = ap length (record-some c.args.size c.args.v c.if-v-eq0.false c.requires.choice.1 c.args.c) in
    writes-room _ _ (half_bytes c.args.c) (omega (arith, c.requires.room, e)) c.put_half.ensures 2 (omega (arith, c.requires.room, e))

pub returns : goal.returns
returns c = let e = record-some c.args.size c.args.v c.if-v-eq0.false c.requires.choice.1 c.args.c in
    writes_as (writes-writes _ _ (half_bytes c.args.c) (omega (arith, c.requires.room, ap length e)) c.put_half.ensures _ _ c.put_half-2.ensures)
    (ap (λ (x : ℕ). half_bytes c.args.c ++ half_bytes x) c.body_length.ensures.value ∙ sym e)

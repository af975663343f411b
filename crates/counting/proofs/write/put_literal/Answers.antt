use mathlib.Core.Path.{sym, ap}
use native.Mathlib.Omega.{arith}
use lib.ListN.{length}
use Rattle.writing.proofs.Writing.{writes_none, writes_as}
use Rattle.counting.proofs.Written.{literal_none, literal-some}
use Rattle.counting.proofs.write.put_literal.Goals as goal

pub returns-then-p-eq0 : goal.returns-then-p-eq0
returns-then-p-eq0 c = writes_as (writes_none _) (sym (literal_none _ _ c.if-p-eq0.true))

pub put_half-requires : goal.put_half-requires
put_half-requires c = omega (arith, c.requires.room, ap length (literal-some c.args.c c.args.p c.if-p-eq0.false c.requires.sign.0))

pub returns : goal.returns
returns c = writes_as c.put_half.ensures (sym (literal-some c.args.c c.args.p c.if-p-eq0.false c.requires.sign.0))

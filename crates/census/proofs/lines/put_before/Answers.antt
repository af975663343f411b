use native.Mathlib.Omega.{arith}
use Rattle.writing.proofs.Decimal.{length-room}
use Rattle.writing.proofs.Writing.{writes-room}
use Rattle.census.proofs.Put.{put-before_is}
use Rattle.census.proofs.lines.put_before.Goals as goal

pub put_number-requires : goal.put_number-requires
put_number-requires c = omega (arith, length-room c.args.n c.ranges.n.fits, c.requires)

pub put_byte-requires : goal.put_byte-requires
put_byte-requires c = let l = length-room c.args.n c.ranges.n.fits in
    writes-room _ _ _ (omega (arith, l, c.requires)) c.put_number.ensures 1 (omega (arith, l, c.requires))

pub returns : goal.returns
returns c = put-before_is c.args.b c.args.n c.requires c.ranges.n.fits c.put_number.ensures c.put_byte.ensures

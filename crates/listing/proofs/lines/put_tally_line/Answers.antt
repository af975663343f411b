use native.Mathlib.Omega.{arith}
use Rattle.listing.proofs.Runs.{least, counts_none, counts-more, counts_whole}
use Rattle.listing.proofs.lines.put_tally_line.Goals as goal

pub loop-n-init : goal.loop-n-init
loop-n-init c = counts_none c.args.counts.now _

pub put_count-requires : goal.put_count-requires
put_count-requires c = omega (arith, least c.put_bytes.ensures, least c.loop-n.invariant.writes)

pub loop-n-preserved : goal.loop-n-preserved
loop-n-preserved c = counts-more c.args.counts.now c.loop-n.n-index (omega arith) (omega (arith, least c.put_bytes.ensures)) c.loop-n.invariant c.put_count.ensures

pub put_byte-requires : goal.put_byte-requires
put_byte-requires c = omega (arith, least c.put_bytes.ensures, least c.loop-n.invariant.writes)

pub returns : goal.returns
returns c = counts_whole c.args.counts.now (omega arith) (omega arith) c.requires c.put_bytes.ensures c.loop-n.invariant c.put_byte.ensures

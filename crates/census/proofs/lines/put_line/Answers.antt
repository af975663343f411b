use Rattle.census.proofs.Put.{line-room₂, line-room₃, line-room₄, line-room₅, put-line-is}
use Rattle.census.proofs.lines.put_line.Goals as goal

pub put_before-requires-2 : goal.put_before-requires-2
put_before-requires-2 c = line-room₂ c.args.counts c.requires c.put_before.ensures

pub put_before-requires-3 : goal.put_before-requires-3
put_before-requires-3 c = line-room₃ c.args.counts c.requires c.put_before.ensures c.put_before-2.ensures

pub put_before-requires-4 : goal.put_before-requires-4
put_before-requires-4 c = line-room₄ c.args.counts c.requires c.put_before.ensures c.put_before-2.ensures c.put_before-3.ensures

pub put_before-requires-5 : goal.put_before-requires-5
put_before-requires-5 c = line-room₅ c.args.counts c.requires c.put_before.ensures c.put_before-2.ensures c.put_before-3.ensures c.put_before-4.ensures

pub returns : goal.returns
returns c = put-line-is c.args.counts c.requires c.put_before.ensures c.put_before-2.ensures c.put_before-3.ensures c.put_before-4.ensures c.put_before-5.ensures

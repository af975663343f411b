use native.Mathlib.Omega.{arith}
use Rattle.table.proofs.Sizes.{sizes}
use Rattle.table.proofs.words.used_words.Goals as goal

pub returns : goal.returns
returns c = let z = sizes c.args.job.now in omega arith

use native.Mathlib.Omega.{arith}
use Rattle.listing.proofs.Finishing.{next_first, next_more}
use Rattle.listing.proofs.finish.next_worker.Goals as goal

pub returns-then-w-workers : goal.returns-then-w-workers
returns-then-w-workers c = (next_first _ c.args.w (omega arith), omega arith)

pub returns : goal.returns
returns c = (next_more _ c.args.w (λ e. omega arith), omega arith)

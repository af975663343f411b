use native.Mathlib.Omega.{arith}
use Rattle.makejob.proofs.Faulted.{in_end, in-first, in_on}
use Rattle.makejob.proofs.sort.sort_in.Goals as goal

pub returns-then-line-at : goal.returns-then-line-at
returns-then-line-at c = in_end _ _ _ (omega arith) c.sort_at_end.ensures

pub returns-then-at-eq0 : goal.returns-then-at-eq0
returns-then-at-eq0 c = in-first _ _ _ (omega arith) (omega arith) c.sort_of_byte.ensures

pub returns : goal.returns
returns c = in_on _ _ _ (omega arith) (omega arith) c.sort_of_byte-2.ensures

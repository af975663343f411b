-- The first `k` bytes of `s` are written.
use mathlib.Core.Path.{◌≡◌}
use lib.ListN.{take}
use Rattle.writing.specs.Written.{wrote}
use Rattle.writing.proofs.put.put_bytes.Given as goal

abbrev pub invariant-loop-k : goal.invariant-loop-k
invariant-loop-k l = l.buf ≡ wrote l.initial.buf l.at (take l.k l.s)

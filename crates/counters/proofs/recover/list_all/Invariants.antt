-- The loop's invariant: the places below c have their claims' keys, and the list is where it was.
use Prim.Native.Nat.{ℕ, ◌*◌, ◌<◌}
use mathlib.Core.Path.{◌≡◌}
use lib.ListN.{get_or}
use Rattle.counters.specs.Queues.{SameRoom}
use Rattle.counters.proofs.recover.list_all.Given as goal

abbrev pub invariant-loop-c : goal.invariant-loop-c
invariant-loop-c l = (l.list.len ≡ l.c) × SameRoom l.initial.list l.list × ((j : ℕ) → j < l.c → get_or l.list.keys.now j 0 ≡ 2 * j)

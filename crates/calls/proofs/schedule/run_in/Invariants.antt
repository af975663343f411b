-- The loop's invariant: part of the turns are made, in the same room.
use lib.ListN.{drop, replicate}
use Rattle.turn.specs.KeptSet.{SameRoom}
use Rattle.calls.proofs.Running.{Partly}
use Rattle.calls.proofs.schedule.run_in.Given as goal

abbrev pub invariant-loop-worker : goal.invariant-loop-worker
invariant-loop-worker l = Partly l.job l.initial.table (replicate 8 0) l.schedule l.initial.set.members.now l.worker-index (drop l.worker-index l.schedule) l.table l.counts l.set.kept l.set.place.now l.set.members.now × SameRoom l.initial.set l.set

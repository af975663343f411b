-- The loop's invariant: part of the turns are made and noted, in the same room.
use lib.ListN.{drop, replicate}
use Rattle.job.specs.Format.{job_of}
use Rattle.turn.specs.KeptSet.{SameRoom}
use Rattle.calls.proofs.Running.{Partly}
use Rattle.recording.proofs.Noted.{Noted}
use Rattle.recording.proofs.noting.record_in.Given as goal

abbrev pub invariant-loop-worker : goal.invariant-loop-worker
invariant-loop-worker l = Partly l.job l.initial.table (replicate 8 0) l.schedule l.initial.set.members.now l.worker-index (drop l.worker-index l.schedule) l.table l.counts l.set.kept l.set.place.now l.set.members.now
    × Noted (job_of l.job) l.initial.table l.schedule l.initial.record l.worker-index l.table l.record
    × SameRoom l.initial.set l.set

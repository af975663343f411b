-- The loop's invariant: the pairs so far hold, and the room is the same.
use Rattle.turn.specs.KeptSet.{SameRoom}
use Rattle.recording.proofs.FollowLoop.{Following}
use Rattle.recording.proofs.replaying.follow_in.Given as goal

abbrev pub invariant-loop-i : goal.invariant-loop-i
invariant-loop-i l = Following l.job l.initial.table l.log l.initial.set.members.now l.i l.table l.counts l.set.kept l.set.place.now l.set.members.now × SameRoom l.initial.set l.set

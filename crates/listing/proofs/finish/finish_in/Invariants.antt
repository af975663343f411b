-- The loop's invariant: part of the finishing turns are made, in the same room.
use Prim.Native.Nat.{◌-◌}
use Rattle.turn.specs.KeptSet.{SameRoom}
use Rattle.listing.proofs.Finishing.{Going}
use Rattle.listing.proofs.finish.finish_in.Given as goal

abbrev pub invariant-loop : goal.invariant-loop
invariant-loop l = Going l.job l.initial.table l.initial.so_far l.initial.set.members.now (l.end - l.counter) l.w l.table l.so_far l.set.kept l.set.place.now l.set.members.now × SameRoom l.initial.set l.set

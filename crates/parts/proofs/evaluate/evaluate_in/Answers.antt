-- : the front of the room is the part.
use Prim.Native.Nat.{ℕ}
use mathlib.Core.Path.{subst}
use mathlib.Core.List.{List}
use native.Mathlib.Omega.{arith}
use Rattle.job.specs.Format.{job_of}
use Rattle.semantics.specs.Model.{program_of}
use Rattle.model.specs.Output.{OutputBytes}
use Rattle.parts.specs.Written.{Lent}
use Rattle.parts.proofs.PartValued.{part-fits, front_fits, front_length, front-good, front-claims, front-values}
use Rattle.parts.proofs.evaluate.evaluate_in.Goals as goal
use Rattle.parts.proofs.evaluate.evaluate_in.Goals.{Start}

-- what is lent, of an accepted job
lent : (c : Start) → let p = c.args.part.now in Lent p.job.now p.index.now p.table.now p.place.now p.members.now
lent c = let p = c.args.part.now in record { job = p.accepted; indexed = p.indexed; table = c.requires.alone.0; long = p.placed; numbered = p.numbered }

pub put_part-n-requires : goal.put_part-n-requires
put_part-n-requires c = let p = c.requires in omega (arith, part-fits (lent (goal.at.put_part-n-requires c).Start), p.room.1)

pub slice_bounds-of_accepted-end : goal.slice_bounds-of_accepted-end
slice_bounds-of_accepted-end c = let p = c.requires in front_fits (lent (goal.at.slice_bounds-of_accepted-end c).Start) c.put_part-n.ensures p.room.1

pub slice_bounds-of_accepted-end-2 : goal.slice_bounds-of_accepted-end-2
slice_bounds-of_accepted-end-2 c = let p = c.requires in front_length (lent (goal.at.slice_bounds-of_accepted-end-2 c).Start) c.put_part-n.ensures p.room.1

pub evaluate_accepted-requires : goal.evaluate_accepted-requires
evaluate_accepted-requires c = let p = c.requires in
    let w = c.put_part-n.ensures in
    rw c.of_accepted-written.ensures (omega (arith, front-claims (lent (goal.at.evaluate_accepted-requires c).Start) w, p.room.0))

pub of_accepted-written-requires : goal.of_accepted-written-requires
of_accepted-written-requires c = front-good (lent (goal.at.of_accepted-written-requires c).Start) c.put_part-n.ensures

pub returns : goal.returns
returns c = let p = c.requires in front-values (lent (goal.at.returns c).Start) c.put_part-n.ensures p.alone.1
    (subst (λ (s : List ℕ). OutputBytes s (program_of (job_of s)) c.args.values.now c.evaluate_accepted.new.out) c.of_accepted-written.ensures c.evaluate_accepted.ensures.output_bytes)

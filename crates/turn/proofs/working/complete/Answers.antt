-- The members fit the array.
use Prim.Native.Nat.{ℕ, ◌≤◌}
use mathlib.Core.List.{List}
use mathlib.Core.Path.{sym, ◌∙◌, ap}
use native.Mathlib.Omega.{arith}
use lib.ListN.{length, set, take}
use lib.Seq.{length-take-le}
use Rattle.job.specs.Job.{most_claims}
use Rattle.parts.specs.Written.{Lent}
use Rattle.table.specs.Layout.{newest_at}
use Rattle.table.specs.Newest.{sought}
use Rattle.table.proofs.Sizes.{sizes}
use Rattle.turn.proofs.Following.{room}
use Rattle.turn.proofs.PartMarks.{part-few}
use Rattle.turn.proofs.working.complete.Goals as goal

few : {s index t place : List ℕ} (members : List ℕ) {n : ℕ} → Lent s index t place (take n members) → n ≤ length members → n ≤ most_claims
few members p h = omega (arith, part-few p, length-take-le _ _ h)

pub slice_bounds-values-end : goal.slice_bounds-values-end
slice_bounds-values-end c = few _ c.requires.lent.0 c.requires.fits

pub slice_bounds-complete_in-end-3 : goal.slice_bounds-complete_in-end-3
slice_bounds-complete_in-end-3 c = sym (length-take-le _ _ (few _ c.requires.lent.0 c.requires.fits))

pub complete_in-requires-clause-values_len : goal.complete_in-requires-clause-values_len
complete_in-requires-clause-values_len c = length-take-le _ _ (few _ c.requires.lent.0 c.requires.fits) ∙ sym (length-take-le _ _ c.requires.fits)

pub seek_newest-requires : goal.seek_newest-requires
seek_newest-requires c = let p = c.requires in
    omega (arith, c.claim_count.ensures.value, p.w_bound, p.lent.0.job.sized.claims_most, p.lent.0.job.sized.workers_most, room _ _ p.lent.0.table, c.complete_in.ensures.long)

pub returns : goal.returns
returns c = let m = c.complete_in in
    let n = c.claim_count.ensures.value ∙ sym (sizes c.args.job.now).claims_are in
    record {
      marks = m.new.table;
      marked = m.ensures;
      renewed = record { is = c.seek_newest.ensures ∙ ap (λ (a : ℕ). set m.new.table (newest_at a c.args.w) (sought a m.new.table c.args.w)) n };
    }

-- What one more set adds (02, order 12); the crate `rulesets` has the numbers of all sets.
--   tallied so v    the five numbers `so` with a set in which claim 0's verdict has the byte v
--   met so k v n    the five numbers `so` with the set at place k, in which claim 0's verdict has the byte v and which needs n turns
use Rattle.std.specs.Prelude.{ℕ, ◌+◌, eqb}
use Rattle.base.specs.Choose.{pick}
use Rattle.rulesets.specs.Census.{better}
use Rattle.rulesets.specs.declared.Counts.{Counts}

unfoldable pub tallied : Counts → ℕ → Counts
tallied so v =
    record {
      trues = so.trues + pick (eqb v 1) 1 0;
      falses = so.falses + pick (eqb v 2) 1 0;
      undefineds = so.undefineds + pick (eqb v 3) 1 0;
      place = so.place;
      turns = so.turns;
    }

unfoldable pub met : Counts → ℕ → ℕ → ℕ → Counts
met so k v n =
    let m = better (record { place = so.place; turns = so.turns }) k n in
    record {
      trues = so.trues + pick (eqb v 1) 1 0;
      falses = so.falses + pick (eqb v 2) 1 0;
      undefineds = so.undefineds + pick (eqb v 3) 1 0;
      place = m.place;
      turns = m.turns;
    }

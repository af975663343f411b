-- The front of the order is the places of the rules, and a new writer has the buffer.
use mathlib.Core.Path.{subst⁻¹}
use mathlib.Core.List.{List}
use Rattle.std.proofs.Common.{ℕ}
use lib.ListN.{length}
use Rattle.lines.specs.Placing.{Placeable}
use Rattle.lines.proofs.Joined.{order-taken}
use Rattle.lines.proofs.write.put_noted.Goals as goal

pub put_placed-requires : goal.put_placed-requires
put_placed-requires c =
    let n = c.new-job.ensures in
    record {
      placeable = (subst⁻¹ (λ (b : List ℕ). Placeable c.args.t c.args.rules.now c.args.questions.now (length b)) n.bytes c.requires, n.at);
      order = order-taken _ _ _ _ c.place_rules-m.ensures;
    }

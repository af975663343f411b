-- Its two ways out.
use Prim.Native.Nat.{◌≤◌}
use native.Mathlib.Omega.{arith}
use Rattle.std.proofs.lemmas.Grind.{common_steps}
use Rattle.rulesets.proofs.Answering.{answer_out, answer-counted}
use Rattle.rulesets.proofs.Lawful.{laws}
use Rattle.counting.proofs.census.Goals as goal

pub returns-then-not-contains : goal.returns-then-not-contains
returns-then-not-contains c = let e = answer_out c.args.size (λ l h. grind (arith, common_steps)) in record { value = e; laws = laws _ e }

pub returns : goal.returns
returns c = let l : 1 ≤ c.args.size = grind (arith, common_steps) in
    let h : c.args.size ≤ 3 = grind (arith, common_steps) in
    let e = answer-counted _ l h c.count_sets.ensures in record { value = e; laws = laws _ e }

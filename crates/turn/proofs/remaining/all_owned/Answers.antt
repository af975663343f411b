use mathlib.Core.Path.{◌≡◌, ◌∙◌}
use Prim.Native.Nat.{◌+◌}
use borrow.Author.Tests.{tests}
use lib.ListN.{get_or}
use Rattle.std.proofs.Common.{rules}
use Rattle.std.proofs.lemmas.Grind.{get_or_default_zero}
use Rattle.std.proofs.lemmas.Iterator.{YieldsList-from_slice, cases_from_all}
use Rattle.std.proofs.lemmas.Iterator.Adapters.{serves_from_places}
use Rattle.table.specs.Layout.{mark}
use Rattle.turn.proofs.Sweeps.{owns-all}
use Rattle.turn.proofs.remaining.all_owned.Goals as goal

pub all-requires-clause-callable : goal.all-requires-clause-callable
all-requires-clause-callable c = serves_from_places (YieldsList-from_slice c.args.members.now cc) (λ x q k. search rules)
    (λ x k l e.
    let q : x.now ≡ get_or c.args.members.now k 0 = e ∙ get_or_default_zero c.args.members.now k x.now l in
    let p = c.requires.0.words k l in
    search rules)

pub returns : goal.returns
returns c = owns-all _ _ _
    (cases_from_all _ _ _ (λ d. mark c.args.table.now d ≡ c.args.w + 1) (λ d. mark c.args.table.now d ≡ c.args.w + 1 → ⊥) c.all.ensures.ran (YieldsList-from_slice c.args.members.now cc) (λ x q k. search (rules, tests)) (λ x q k. search (rules, tests)))

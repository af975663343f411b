use mathlib.Core.Path.{◌∙◌, ap}
use mathlib.Core.List.{List}
use Prim.Native.Nat.{ℕ}
use native.Mathlib.Omega.{arith}
use lib.ListN.{length, get_or, length-set}
use Rattle.turn.proofs.KeptLaws.{top-low, dropping_more, dropping_done}
use Rattle.turn.proofs.HeldSet.clear.Goals as goal

pub offset_bounds-self-i : goal.offset_bounds-self-i
offset_bounds-self-i c = omega (arith, top-low c.requires, c.requires.few)

pub bounds-self-i : goal.bounds-self-i
bounds-self-i c = omega (arith, top-low c.requires, c.requires.wide, ap length c.loop-i.invariant.0)

pub loop-i-preserved : goal.loop-i-preserved
loop-i-preserved c = let l = c.loop-i in
    let r = l.invariant.3 in (
      l.invariant.0,
      l.invariant.1,
      dropping_more c.requires l.invariant.2 (omega arith) _ (c.from-member.ensures ∙ ap (λ (xs : List ℕ). get_or xs l.i 0) l.invariant.0),
      record { same_place = r.same_place; same_members = r.same_members; place_long = length-set _ _ _ ∙ r.place_long; members_long = r.members_long },
    )

pub returns-clause-same_room : goal.returns-clause-same_room
returns-clause-same_room c = let r = c.loop-i.invariant.3 in record { same_place = r.same_place; same_members = r.same_members; place_long = r.place_long; members_long = r.members_long }

pub returns-clause-zeros : goal.returns-clause-zeros
returns-clause-zeros c = dropping_done c.requires c.loop-i.invariant.2 (omega arith)

use mathlib.Core.Path.{refl}
use native.Mathlib.Omega.{arith}
use Rattle.table.proofs.NewestOf.{newest_like}
use Rattle.turn.proofs.Members.{member-low, part_member, member-part, front-places}
use Rattle.turn.proofs.Sweeps.{found-still}
use Rattle.turn.proofs.remaining.chosen.Goals as goal

pub left_to_pass-requires : goal.left_to_pass-requires
left_to_pass-requires c = let p = c.requires in
    let l = member-low p.0 (p.2.inside _ c.in-Some.is) in
    omega (arith, l.few, l.words, p.1)

pub returns-then-left_to_pass : goal.returns-then-left_to_pass
returns-then-left_to_pass c = found-still c.requires.2 c.in-Some.is c.if-last-w.true c.left_to_pass.ensures c.if-left_to_pass.true

pub newest_left-requires : goal.newest_left-requires
newest_left-requires c = (front-places c.requires.0.many c.requires.0, c.requires.1)

pub returns : goal.returns
returns c = let l = c.requires.0.many in
    newest_like (λ d m. (part_member l m.0, m.1)) (λ d m. (member-part l m.0, m.1)) (λ d m. refl) c.newest_left.ensures

use mathlib.Core.Path.{◌∙◌}
use Rattle.std.proofs.Common.{length-append}
use Rattle.std.proofs.lemmas.Slice.Zip.{zip_turn}
use Rattle.turn.proofs.Marking.{giving_more}
use Rattle.turn.proofs.marks.complete_members.Goals as goal

pub loop-member-preserved : goal.loop-member-preserved
loop-member-preserved c = let z = zip_turn c.args.members.now c.args.values.now c.loop-member.yielded c.into_iter-member-iterator.result c.loop-member.member-iterator c.next.new.self c.next.result (cc) (cc) c.loop-member.yielded_by _ c.in-Some.is c.next.ensures.steps in
    simp length-append (giving_more c.loop-member.invariant c.requires.0 z.0 (c.from-in-loop-member.ensures ∙ z.2 0) (c.from.ensures ∙ z.3 0) c.mark_of_value-mark.ensures c.set_mark.ensures)

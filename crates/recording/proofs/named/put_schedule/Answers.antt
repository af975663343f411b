use Rattle.std.proofs.Common.{rules, ℕ}
use Rattle.std.specs.declared.slice.ChunksExact.{ChunksExact}
use mathlib.Core.Path.{sym, ◌∙◌, ap}
use Rattle.recording.proofs.Naming.{naming_none, naming-room, naming_more, naming_all, naming_few}
use Rattle.recording.proofs.named.put_schedule.Goals as goal

pub loop-pair-init : goal.loop-pair-init
loop-pair-init c = let e = c.into_iter-pair-iterator.ensures.into_iter_gives in
    let p = c.chunks_exact-pair-items.ensures in
    naming_none _ _ (ap (λ (s : ChunksExact ℕ). s.rest.now) e ∙ p.rest) (ap (λ (s : ChunksExact ℕ). s.size) e ∙ p.size)

pub put_byte-requires : goal.put_byte-requires
put_byte-requires c = let n = c.new-schedule.ensures in
    let s = c.in-Some.ensures.steps.1 in
    naming-room _ _ c.requires n.bytes n.at c.loop-pair.invariant _ _ s.0 s.1

pub loop-pair-preserved : goal.loop-pair-preserved
loop-pair-preserved c = let n = c.new-schedule.ensures in
    let s = c.in-Some.ensures.steps in
    naming_more _ _ c.requires n.bytes n.at c.loop-pair.invariant _ _ s.1.0 s.1.1 s.0 c.put_byte.ensures

pub returns-clause-put : goal.returns-clause-put
returns-clause-put c = let n = c.new-schedule.ensures in
    let same = sym (c.loop-pair.invariant.same_buffer ∙ n.same_buffer) in
    let all = naming_all _ _ c.requires n.bytes n.at c.loop-pair.invariant c.in-None.ensures.steps.1.0 in
    search rules

pub returns-clause-upper_bound : goal.returns-clause-upper_bound
returns-clause-upper_bound c = let n = c.new-schedule.ensures in
    let same = sym (c.loop-pair.invariant.same_buffer ∙ n.same_buffer) in
    let few = naming_few _ _ c.requires n.bytes n.at c.loop-pair.invariant in
    search rules

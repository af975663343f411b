-- : a lemma for each way.
use Prim.Native.Nat.{ℕ, ◌+◌}
use mathlib.Core.Path.{◌≡◌, sym, ◌∙◌, ap}
use mathlib.Core.List.{◌++◌, flat_map}
use mir.Val.{bool_byte}
use native.Mathlib.Omega.{arith}
use lib.ListN.{length}
use Rattle.std.specs.Prelude.{Option}
use Rattle.job.specs.Encoding.{half_bytes}
use Rattle.writing.proofs.Writing.{writes_none, writes_as}
use Rattle.parts.proofs.RuleText.{record-text, body-text, missing-record, missing-nothing, made, rule_text, made-text}
use Rattle.parts.specs.Written.{literals_in, texts_of}
use Rattle.parts.proofs.claim.put_rule.Goals as goal
use Rattle.parts.proofs.claim.put_rule.Goals.{After-from, Joined-status_of, in-Undecided, in-Decided}

pub put_record-requires : goal.put_record-requires
put_record-requires c = let e = missing-record c.args.part.now.job.now c.args.part.now.table.now c.args.part.now.place.now c.args.i c.args.r (sym c.missing_at.ensures ∙ c.if-missing_at.true) c.in-Records.is in
    omega (arith, c.requires.room, ap length e)

pub returns-in-Records : goal.returns-in-Records
returns-in-Records c = writes_as c.put_record.ensures (missing-record _ _ _ _ _ (sym c.missing_at.ensures ∙ c.if-missing_at.true) c.in-Records.is)

pub returns-in-Literals : goal.returns-in-Literals
returns-in-Literals c = writes_as (writes_none _) (missing-nothing _ _ _ _ _ (sym c.missing_at.ensures ∙ c.if-missing_at.true) c.in-Literals.is)

pub returns-in-Failed : goal.returns-in-Failed
unfolding flat_map
returns-in-Failed c = let a = c.args in
    writes_as (writes_none _) (made-text a.part.now.job.now a.part.now.table.now a.part.now.place.now a.i a.r (sym c.missing_at.ensures ∙ c.if-missing_at.false) c.requires.counts.1 c.body_length_at.ensures.value a.section (sym c.in-Failed.is ∙ c.status_of.ensures))

-- what stands is written with its own negation where a literal is undecided
stands : (c : Joined-status_of) → let a = c.args in texts_of a.section (made a.part.now.table.now a.part.now.place.now a.i (literals_in a.part.now.job.now a.from (a.from + c.body_length_at.result)) c.match-status_of.own) ≡ rule_text a.part.now.job.now a.part.now.table.now a.part.now.place.now a.i a.r a.section
stands c =
    let a = c.args in
    let b = literals_in a.part.now.job.now a.from (a.from + c.body_length_at.result) in
    let own = sym c.missing_at.ensures ∙ c.if-missing_at.false in
    let at = c.requires.counts.1 in
    let size = c.body_length_at.ensures.value in
    let by = λ (o : Option ℕ). texts_of a.section (made a.part.now.table.now a.part.now.place.now a.i b o) in
    elim c.match-status_of.branch [
      | in-Undecided w ↦ ap by w.own-is ∙ made-text a.part.now.job.now a.part.now.table.now a.part.now.place.now a.i a.r own at size a.section (sym w.in-Undecided.is ∙ c.status_of.ensures)
      | in-Decided w ↦ ap by w.own-is ∙ made-text a.part.now.job.now a.part.now.table.now a.part.now.place.now a.i a.r own at size a.section (sym w.in-Decided.is ∙ c.status_of.ensures)
    ]

-- its record says so
record_is : (c : After-from) → let a = c.args in half_bytes a.i ++ half_bytes (c.count_within-n.result + c.from.result) ≡ rule_text a.part.now.job.now a.part.now.table.now a.part.now.place.now a.i a.r a.section
record_is c = record-text c.args.i c.match-status_of.own _ c.in-Records-section.is c.count_within-n.ensures.0 (c.from.ensures ∙ ap bool_byte c.is_some.ensures) ∙ stands (goal.at.After-from c).Joined-status_of

pub put_record-requires-in-Records-section : goal.put_record-requires-in-Records-section
put_record-requires-in-Records-section c = omega (arith, c.requires.room, ap length (record_is (goal.at.put_record-requires-in-Records-section c).After-from))

pub returns-in-Records-section : goal.returns-in-Records-section
returns-in-Records-section c = writes_as c.put_record-in-Records-section.ensures (record_is (goal.at.returns-in-Records-section c).After-from)

pub put_body-requires-clause-room : goal.put_body-requires-clause-room
put_body-requires-clause-room c = omega (arith, c.requires.room, ap length (body-text c.args.i c.match-status_of.own _ c.in-Literals-section.is ∙ stands (goal.at.put_body-requires-clause-room c).Joined-status_of))

pub returns-in-Literals-section : goal.returns-in-Literals-section
returns-in-Literals-section c = writes_as c.put_body.ensures (body-text c.args.i c.match-status_of.own _ c.in-Literals-section.is ∙ stands (goal.at.returns-in-Literals-section c).Joined-status_of)

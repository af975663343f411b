use mathlib.Core.Path.{◌≡◌, refl, ◌∙◌}
use native.Mathlib.Omega.{arith}
use lib.ListN.{get_or}
use Rattle.base.specs.Compare.{differs}
use Rattle.job.proofs.Rows.{pass, stop, placed}
use Rattle.job.specs.Format.{job_of}
use Rattle.job.specs.Rows.{◌⨾◌, row}
use Rattle.job.specs.Check.{Check}
use Rattle.job.specs.Check.{Accepted}
use Rattle.table.proofs.Sizes.{sizes, word_bad, word_good, word-other, word_same}
use Rattle.table.specs.Layout.{newest_at, kept, newest_word}
use Rattle.table.specs.Newest.{sought}
use Rattle.table.specs.Ranges.{check_worker}
use Rattle.table.proofs.checks.check_worker.Goals as goal
use Rattle.table.proofs.checks.check_worker.Goals.{Else-asked-answered_at}

pub awaited_at-requires : goal.awaited_at-requires
unfolding job_of
awaited_at-requires c = omega arith

pub returns-then-claims-awaited_at : goal.returns-then-claims-awaited_at
unfolding check_worker job_of
returns-then-claims-awaited_at c = let t = c.args.table.now in
    placed c.bad_word.ensures (omega arith)
    ∙ stop _ _ _ _ (word_bad t (omega arith) c.awaited_at.ensures.value c.claim_count-claims.ensures.value c.if-claims-awaited_at.true)

pub answered_at-requires : goal.answered_at-requires
unfolding job_of
answered_at-requires c = omega arith

pub returns-then-asked-answered_at : goal.returns-then-asked-answered_at
unfolding check_worker job_of
returns-then-asked-answered_at c = let t = c.args.table.now in
    placed c.bad_word-then-asked-answered_at.ensures (omega arith)
    ∙ pass _ _ _ _ (word_good t (omega arith) c.awaited_at.ensures.value c.claim_count-claims.ensures.value c.if-claims-awaited_at.false)
    (stop _ _ _ _ (word_bad t (omega arith) c.answered_at.ensures.value (c.requires.counted.counts c.args.w (omega arith)) c.if-asked-answered_at.true))

-- the first two words are accepted
past : (c : Else-asked-answered_at) {r : Check} → let s = c.args in let j = job_of s.job.now in r ≡ (row (differs (kept j s.table.now s.w) (sought j.claims s.table.now s.w)) 10 (newest_word j s.w) ⨾ Accepted) → r ≡ check_worker j s.table.now s.w
unfolding check_worker job_of
past c e =
    let t = c.args.table.now in
    pass _ _ _ _ (word_good t (omega arith) c.awaited_at.ensures.value c.claim_count-claims.ensures.value c.if-claims-awaited_at.false)
    (pass _ _ _ _ (word_good t (omega arith) c.answered_at.ensures.value (c.requires.counted.counts c.args.w (omega arith)) c.if-asked-answered_at.false) e)

-- what the search found
due : (c : Else-asked-answered_at) → let s = c.args in get_or s.newests.now s.w 0 ≡ sought (job_of s.job.now).claims s.table.now s.w
due c = c.requires.searched.all c.args.w (omega arith)

pub newest_at-requires : goal.newest_at-requires
unfolding job_of
newest_at-requires c = omega arith

pub returns-then-newest_at-found : goal.returns-then-newest_at-found
returns-then-newest_at-found c = let a = c.args in
    let z = sizes a.job.now in
    let e = (goal.at.returns-then-newest_at-found c).Else-asked-answered_at in
    let p : newest_at c.claim_count-claims.result a.w ≡ newest_word (job_of a.job.now) a.w = omega arith in
    placed c.bad_word-then-newest_at-found.ensures (c.newest_word.ensures ∙ p)
    ∙ past e (stop _ _ _ _ (word-other a.table.now p c.newest_at.ensures.value (due e) c.if-newest_at-found.true))

pub returns : goal.returns
returns c = let a = c.args in
    let z = sizes a.job.now in
    let e = (goal.at.returns c).Else-asked-answered_at in
    past e (pass _ _ _ _ (word_same a.table.now (omega arith) c.newest_at.ensures.value (due e) (omega (arith, c.if-newest_at-found.false))) refl)

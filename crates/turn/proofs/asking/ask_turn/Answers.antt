use Prim.Native.Nat.{ℕ, ◌<◌}
use mathlib.Core.Path.{◌≡◌, ◌∙◌}
use mathlib.Core.List.{List}
use native.Mathlib.Omega.{arith}
use lib.ListN.{length}
use Rattle.job.specs.Job.{Job}
use Rattle.job.specs.Format.{workers, job_of}
use Rattle.table.specs.Questions.{asked_by, count_in, Listed}
use Rattle.table.proofs.Sizes.{sizes}
use Rattle.table.proofs.QuestionPlaces.{listed-room}
use Rattle.turn.proofs.PutQuestion.{puts_none}
use Rattle.turn.proofs.Following.{room, answered-read}
use Rattle.turn.proofs.asking.ask_turn.Goals as goal

-- the worker is one of the job's
its : (s : List ℕ) (w : ℕ) → w < workers s → w < (job_of s).workers
its s w h = omega (arith, (sizes s).workers_are)

-- a question is left, by the index
more : {j : Job} {index : List ℕ} → Listed j index → (w : ℕ) → w < j.workers → {r n : ℕ} → r ≡ count_in index w → n < r → n < length (asked_by j w)
more k w l e h = omega (arith, k.counts w l)

pub answered_at-n-requires : goal.answered_at-n-requires
answered_at-n-requires c = omega (arith, room c.args.job.now c.args.table.now c.requires.in_range.0, c.requires.in_range.1)

pub asked_count-requires : goal.asked_count-requires
asked_count-requires c = let p = c.requires in
    let l = its c.args.job.now c.args.w p.in_range.1 in record { w_lt_most_workers = omega (arith, l, p.listed.few); w_bound = p.listed.rise c.args.w l }

pub returns-then-asked_count-n-clause-done : goal.returns-then-asked_count-n-clause-done
returns-then-asked_count-n-clause-done c = let a = c.args in
    let p = c.requires in
    let s = a.job.now in
    record {
      made = puts_none (job_of s) a.table.now a.w _ p.in_range.2 (answered-read s a.table.now a.w c.claim_count-claims.ensures.value c.answered_at-n.ensures.value)
          (omega (arith, c.if-asked_count-n.true, c.asked_count.ensures, p.listed.counts a.w (its s a.w p.in_range.1)));
      keeps = p.keeps;
    }

pub asked_at-requires : goal.asked_at-requires
asked_at-requires c = let a = c.args in
    let p = c.requires in
    let l = its a.job.now a.w p.in_range.1 in record { w_lt_most_workers = omega (arith, l, p.listed.few); n_bound = listed-room p.listed a.w _ l (more p.listed a.w l c.asked_count.ensures c.if-asked_count-n.false) }

pub ask-requires : goal.ask-requires
ask-requires c = let a = c.args in
    let p = c.requires in
    let s = a.job.now in
    let l = its s a.w p.in_range.1 in
    let m = more p.listed a.w l c.asked_count.ensures c.if-asked_count-n.false in record { in_range = p.in_range; keeps = p.keeps; n_value = (answered-read s a.table.now a.w c.claim_count-claims.ensures.value c.answered_at-n.ensures.value, m, c.asked_at.ensures ∙ p.listed.places a.w _ l m) }

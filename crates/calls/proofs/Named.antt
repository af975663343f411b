-- The claims that questions name or lead to, by rules (Asked) and by places (Led). Assumes nothing.
--   led-asked   from places to rules;    on-claims   the clause `claims` of Promise
use mathlib.Core.Path.{◌≡◌, sym, ◌∙◌, ap, subst}
use mathlib.Core.List.Memᴰ
use mathlib.Core.List.{List}
use Prim.Native.Nat.{ℕ, ◌<◌}
use native.Mathlib.Omega.{arith}
use Rattle.base.specs.Graph.{Reach, here, step}
use Rattle.job.specs.Job.{Job, claim_of, literals_of}
use Rattle.job.specs.Format.{job_of}
use Rattle.job.specs.Encoding.{Valid}
use Rattle.job.specs.Checks.{check_job}
use Rattle.job.specs.Check.{Accepted}
use Rattle.semantics.specs.Leads.{LeadsTo}
use Rattle.semantics.proofs.Leads.{used}
use Rattle.table.specs.Layout as W
use Rattle.table.specs.Start.{start_words}
use Rattle.waiting.specs.Led as L
use Rattle.turn.specs.Turn.{lits, run_table}
use Rattle.calls.specs.Lists.{Call, turns_of, Complete}
use Rattle.calls.specs.Promise.{Fresh, from, Asked}
use Rattle.turn.proofs.AtPlaces.{member}
use Rattle.turn.proofs.Places.{question_put}
use Rattle.steps.proofs.OnTurns.{LitAt, led-job, only-led}
use Rattle.calls.proofs.Histories.{turns-low, after-turns}
use Rattle.calls.proofs.Answers.{complete-mark}
use Rattle.calls.proofs.OnLists.{valid, ok, started, made_after}

module _ (j : Job) (v : Valid j) where
  by-rules : {x y : ℕ} → Reach (LitAt j) x y → LeadsTo j x y
  unfolding lits
  by-rules here = here
  by-rules {x} (step l p) =
      let q = Memᴰ.of_map claim_of (literals_of x j.rules) (member (lits j x) 0 l.at l.real) in
      step (q.0, used j v x q.0 q.1, q.2 ∙ l.is) (by-rules p)

  pub led-asked : (c : ℕ) → L.Led (led-job j) c → Asked j c
  led-asked c (L.led {w = w} {i = i} h l p) =
      let f = question_put j w i l in
      record { question = f.question; is = f.is; leads = subst (λ (x : ℕ). LeadsTo j x c) (sym f.claim) (by-rules p) }

module _ (s : List ℕ) (e : Accepted ≡ check_job s) (t : List ℕ) (room : Fresh s t) (xs : List Call) where
  abbrev start : List ℕ
  start = start_words (job_of s) t

  abbrev ws : List ℕ
  ws = turns_of s (start_words (job_of s) t) xs

  after_is : (c : ℕ) → W.mark (from s t xs) c ≡ W.mark (run_table (job_of s) start ws) c
  after_is c = ap (λ (u : List ℕ). W.mark u c) (after-turns s xs start)

  pub on-claims : (c : ℕ) → c < (job_of s).claims → Complete (from s t xs) c → Asked (job_of s) c
  on-claims c h d =
      led-asked (job_of s) (valid s e) c
      (only-led (job_of s) (ok s e) start (started s e t room xs) ws (turns-low s xs start) c h
      (omega (arith, complete-mark (ok s e) (made_after s e t room xs) c h d, after_is c)))

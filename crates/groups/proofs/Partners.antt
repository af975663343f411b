-- Row 21, question by question. Assumes nothing.
--   known_start   nothing is known yet
--   asked-bad     what the search of a question says, in the terms of the row
use Prim.Native.Nat.{ℕ}
use mathlib.Core.Path.{◌≡◌, ◌∙◌, ap}
use mathlib.Core.Bool.{Bool}
use mathlib.Core.List.{List}
use lib.ListN.{replicate}
use Rattle.base.proofs.Zeros.{zeros_at}
use Rattle.job.specs.Format.{job_of}
use Rattle.job.specs.Job.{Job, most_claims}
use Rattle.job.specs.declared.Question.{Question}
use Rattle.groups.specs.Groups.{group_of, asked, abroad, bad_question}
use Rattle.groups.specs.Scopes.{Known}
use Rattle.groups.proofs.Scopes.{settled-some}

pub known_start : (j : Job) (gs xs : List ℕ) → xs ≡ replicate most_claims 0 → Known j gs xs
known_start j gs xs e h d t = absurd (settled-some h _ t (zeros_at most_claims e d))

pub asked-bad :
    (s gs ws : List ℕ) (q g : ℕ) (x : Question) (r : Bool) → x ≡ asked s q → g ≡ group_of ws x.worker → r ≡ abroad (job_of s) gs g (asked s q).claim
    → r ≡ bad_question s gs ws q
asked-bad s gs ws q g x r a e h = h ∙ ap (λ (u : ℕ). abroad (job_of s) gs u (asked s q).claim) (e ∙ ap (λ (y : Question). group_of ws y.worker) a)

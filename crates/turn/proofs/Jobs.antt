-- What the turns need of a job, which every valid job has: claims of literals and questions are below the count. Assumes nothing.
use mathlib.Core.Path.{◌≡◌, refl, subst}
use mathlib.Core.List.Memᴰ
use mathlib.Core.List.{List, [], ◌∷◌, map}
use Prim.Native.Nat.{ℕ, zero, suc, ◌≤◌, ◌<◌}
use native.Mathlib.Omega.{arith}
use lib.ListN.{length, get_or, length-map}
use Rattle.job.specs.Job.{Job, claim_of, literals_of, most_workers}
use Rattle.job.specs.Format.{job_of}
use Rattle.job.specs.Accepted.{WellFormed}
use Rattle.job.specs.Encoding.{◌∈◌, Valid}
use Rattle.job.specs.declared.Literal.{Literal}
use Rattle.job.proofs.Valid.{well_formed-valid}
use Rattle.semantics.proofs.Leads.{used, leads-low}
use Rattle.table.specs.Questions.{asked_by, question_claim}
use Rattle.turn.specs.Turn.{lits}
use Rattle.turn.proofs.Places.{question_put}

pub record JobOk (j : Job) : Type 0 where
  pub few : j.workers ≤ most_workers
  pub literal : (c i : ℕ) → i < length (lits j c) → get_or (lits j c) i 0 < j.claims
  pub question : (w n : ℕ) → n < length (asked_by j w) → question_claim j w n < j.claims

claim-low : (A : ℕ) (ls : List Literal) → ((l : Literal) → l ∈ ls → claim_of l < A) → (i : ℕ) → i < length (map claim_of ls) → get_or (map claim_of ls) i 0 < A
claim-low A [] f i l = absurd (omega arith)
claim-low A (x ∷ ls) f zero l = f x (Memᴰ.head refl)
claim-low A (x ∷ ls) f (suc i) l = claim-low A ls (λ k m. f k (Memᴰ.tail m)) i (omega arith)

pub lits-length : (j : Job) (c : ℕ) → length (lits j c) ≡ length (literals_of c j.rules)
unfolding lits
lits-length j c = length-map (literals_of c j.rules) claim_of

pub valid_ok : (j : Job) → Valid j → JobOk j
unfolding lits
valid_ok j v =
    record {
      few = v.workers_most;
      literal = λ c. claim-low j.claims (literals_of c j.rules) (λ l m. leads-low j v c (claim_of l) (l, used j v c l m, refl));
      question = λ w n l. let p = question_put j w n l in subst (λ (c : ℕ). c < j.claims) p.claim (v.asked p.question p.is);
    }

pub job_ok : (s : List ℕ) → WellFormed s → JobOk (job_of s)
job_ok s f = valid_ok (job_of s) (well_formed-valid s f)

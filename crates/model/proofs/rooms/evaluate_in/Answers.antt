use Prim.Native.Nat.{ℕ}
use mathlib.Core.Path.{◌≡◌, ◌∙◌, ap}
use mathlib.Core.List.{List}
use Rattle.job.specs.Format.{job_of}
use Rattle.semantics.specs.Model.{program_of, K, U}
use Rattle.model.proofs.Written.{written-verdicts}
use Rattle.model.proofs.rooms.evaluate_in.Goals as goal
use Rattle.model.proofs.rooms.evaluate_in.Goals.{After-of_accepted-own}

-- the value of its own has the job's bytes
own : (c : After-of_accepted-own) → c.of_accepted-own.result ≡ c.args.job.now
own c = c.of_accepted-own.ensures ∙ c.bytes.ensures.value

pub returns : goal.returns
returns c = let a = c.alternate in
    let e = own (goal.at.returns c).After-of_accepted-own in
    written-verdicts c.args.job.now _ _ c.args.out.now (a.auto.k ∙ c.requires.unused.size_k)
    (a.ensures.k_after ∙ ap (λ (s : List ℕ). K (program_of (job_of s))) e)
    (a.ensures.u_after ∙ ap (λ (s : List ℕ). U (program_of (job_of s))) e)
    c.write.ensures

pub invariant_of-tables : goal.invariant_of-tables
invariant_of-tables c = record { accepted = rw (own (goal.at.invariant_of-tables c).After-of_accepted-own) c.claim_count-claims.ensures.accepted; placed = c.prepare.ensures.placed }

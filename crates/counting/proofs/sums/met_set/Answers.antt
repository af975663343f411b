-- : what is counted of the job written is counted of the set.
use Prim.Native.Nat.{ℕ}
use mathlib.Core.Path.{refl, ◌∙◌, ap}
use mathlib.Core.List.{List}
use native.Mathlib.Omega.{arith}
use Rattle.counting.proofs.Counted.{job-fits, job-length, formed, verdict-ready, turns-ready, met-is, few_sets}
use Rattle.job.specs.Format.{job_of}
use Rattle.semantics.specs.Model.{byte_of, program_of, verdict}
use Rattle.rulesets.specs.Census.{needed_by}
use Rattle.counting.proofs.sums.met_set.Goals as goal

pub slice_bounds-bytes-end : goal.slice_bounds-bytes-end
slice_bounds-bytes-end c = let p = c.requires in job-fits _ _ p.1 p.2 refl c.put_set-n.ensures

pub slice_bounds-of_accepted-end : goal.slice_bounds-of_accepted-end
slice_bounds-of_accepted-end c = let p = c.requires in job-length _ _ p.1 p.2 refl c.put_set-n.ensures

pub of_accepted-job-requires : goal.of_accepted-job-requires
of_accepted-job-requires c = let p = c.requires in formed _ _ p.1 p.2 refl c.put_set-n.ensures

pub first_verdict-verdict-requires : goal.first_verdict-verdict-requires
first_verdict-verdict-requires c = let p = c.requires in rw c.of_accepted-job.ensures (verdict-ready _ _ p.1 p.2 refl c.put_set-n.ensures p.0)

pub turns_needed-turns-requires : goal.turns_needed-turns-requires
turns_needed-turns-requires c = let p = c.requires in rw c.of_accepted-job.ensures (turns-ready _ _ p.1 p.2 refl c.put_set-n.ensures)

pub met-requires : goal.met-requires
met-requires c = let p = c.requires in (p.3, p.4, p.5, omega (arith, p.2, few_sets _ p.1))

pub returns : goal.returns
returns c = let p = c.requires in
    let e = c.of_accepted-job.ensures in
    met-is _ _ p.1 p.2 refl c.put_set-n.ensures c.args.counts
    (ap byte_of c.first_verdict-verdict.ensures ∙ ap (λ (s : List ℕ). byte_of (verdict (program_of (job_of s)) 0)) e)
    (c.turns_needed-turns.ensures ∙ ap (λ (s : List ℕ). needed_by (job_of s)) e) c.met.ensures

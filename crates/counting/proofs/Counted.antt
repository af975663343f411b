-- What is counted of set k is counted of the job that was written. Assumes nothing.
--   job-fits, job-length    the written job is the front of the buffer
--   formed                  it is accepted
--   verdict-ready, turns-ready   what the counting of it wants
--   met-is                  what was counted
--   few_sets, blank-room    how many sets there are at most; room for a set's job
use Prim.Native.Nat.{ℕ, zero, suc, ◌≤◌, ◌<◌}
use mathlib.Core.Path.{◌≡◌, refl, sym, ◌∙◌, ap, ap₂, subst⁻¹}
use mathlib.Core.List.{List}
use native.Mathlib.Omega.{arith}
use lib.ListN.{length, take, replicate}
use lib.Seq.{length-take-le}
use Rattle.base.proofs.Zeros.{zeros-long}
use Rattle.job.specs.Job.{Job}
use Rattle.job.specs.Encoding.{encode}
use Rattle.job.specs.Format.{claims, job_of}
use Rattle.job.specs.Accepted.{WellFormed}
use Rattle.semantics.specs.Model.{program_of, verdict, byte_of}
use Rattle.table.specs.Layout.{used}
use Rattle.writing.specs.Written.{Put}
use Rattle.writing.proofs.Wrote.{put_front, put_size}
use Rattle.rulesets.specs.Sets.{Choice, set_no, set_count, IsSet}
use Rattle.rulesets.specs.Jobs.{job_of_set}
use Rattle.rulesets.specs.Census.{needed_by, first_verdict, turns_for}
use Rattle.rulesets.specs.declared.Counts.{Counts}
use Rattle.counting.specs.Meeting.{met}
use Rattle.rulesets.proofs.Listed.{is_set, set_in, set_size}
use Rattle.rulesets.proofs.SetJobs.{set_formed, set_holds, asked_count}
use Rattle.counting.proofs.Written.{set_long}

claims_of : (s : List ℕ) → claims s ≡ (job_of s).claims
unfolding job_of
claims_of s = refl

claims_size : (r : List Choice) → (job_of_set r).claims ≡ length r
unfolding job_of_set
claims_size r = refl

module _ (n k : ℕ) (few : n ≤ 3) (low : k < set_count n) where
  abbrev r : List Choice
  r = set_no n k

  is : IsSet n (set_no n k)
  is = is_set n (set_no n k) (set_in n k low)

  used_low : used (job_of_set (set_no n k)) ≤ 23
  unfolding job_of_set
  used_low = omega (arith, asked_count n few r is, set_size n k low)

  module _ {o job : List ℕ} {e : ℕ} (blank : o ≡ replicate 78 0) (p : Put o 0 (encode (job_of_set (set_no n k))) job e) where
    long : length o ≡ 78
    long = zeros-long 78 blank

    pub job-fits : e ≤ length job
    job-fits = omega (arith, p.next, put_size o 0 _ job e (omega (arith, long, set_long n k few low)) p, long, set_long n k few low)

    pub job-length : e ≡ length (take e job)
    job-length = sym (length-take-le e job job-fits)

    front : take e job ≡ encode (job_of_set (set_no n k))
    front = put_front p

    holds : job_of (take e job) ≡ job_of_set (set_no n k)
    holds = ap job_of front ∙ set_holds n few r is

    claims_are : claims (take e job) ≡ n
    claims_are = claims_of (take e job) ∙ ap (λ (j : Job). j.claims) holds ∙ claims_size r ∙ set_size n k low

    pub formed : WellFormed (take e job)
    formed = subst⁻¹ WellFormed front (set_formed n few r is)

    pub verdict-ready : 1 ≤ n → (1 ≤ claims (take e job)) × (claims (take e job) ≤ 3)
    verdict-ready some = (omega (arith, claims_are), omega (arith, claims_are))

    pub turns-ready : used (job_of (take e job)) ≤ 23
    turns-ready = omega (arith, ap used holds, used_low)

    pub met-is :
        (so : Counts) {v t : ℕ} {m : Counts} → v ≡ byte_of (verdict (program_of (job_of (take e job))) 0) → t ≡ needed_by (job_of (take e job)) → m ≡ met so k v t
        → m ≡ met so k (byte_of (first_verdict (set_no n k))) (turns_for (set_no n k))
    met-is so a b q = q ∙ ap₂ (λ (x y : ℕ). met so k x y) (a ∙ ap (λ (j : Job). byte_of (verdict (program_of j) 0)) holds) (b ∙ ap needed_by holds)

-- there are at most 21,952 sets
pub few_sets : (n : ℕ) → n ≤ 3 → set_count n ≤ 21952
few_sets zero h = omega arith
few_sets (suc zero) h = omega arith
few_sets (suc (suc zero)) h = omega arith
few_sets (suc (suc (suc zero))) h = omega arith
few_sets (suc (suc (suc (suc n)))) h = absurd (omega arith)

pub blank-room : {o : List ℕ} → o ≡ replicate 78 0 → 78 ≤ length o
blank-room e = omega (arith, zeros-long 78 e)

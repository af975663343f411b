-- The loop of `leads_abroad`: the search from claim c of job s for group g, up to place i of the queue. Assumes nothing.
--   Seeking          its invariant
--   seeking-start    c is met
--   seeking-top, -low, -cursor   the queue has room; the claim at place i is one of the job, and its literals stand there
--   seeking-foreign  it is foreign: c leads abroad
--   seeking-more     it isn't, and the claims of its literals are met
--   seeking_done     nothing left: c doesn't lead abroad, and all scopes are right
use Prim.Native.Nat.{ℕ, ◌+◌, ◌≤◌, ◌<◌}
use mathlib.Core.Path.{◌≡◌, sym, ◌∙◌, ap, subst, subst⁻¹}
use mathlib.Core.Bool.{Bool, true, false}
use mathlib.Core.List.{List}
use native.Mathlib.Omega.{arith}
use lib.Dec.{T}
use lib.ListN.{length, get_or}
use Rattle.base.specs.Graph.{here}
use Rattle.base.proofs.Bools.{is, is-not}
use Rattle.base.proofs.Paths.{trans, one}
use Rattle.base.proofs.Sets.{count_le}
use Rattle.job.specs.Accepted.{WellFormed}
use Rattle.job.specs.Claims.{claim_start, Index}
use Rattle.job.specs.Encoding.{Valid}
use Rattle.job.specs.Format.{claims, rules, literals, literal_at, job_of}
use Rattle.job.specs.Job.{claim_of, most_claims}
use Rattle.job.specs.declared.Cursor.{Cursor}
use Rattle.job.proofs.Valid.{well_formed-valid}
use Rattle.semantics.specs.Leads.{LeadsTo}
use Rattle.semantics.proofs.Leads.{reach-low}
use Rattle.groups.specs.Groups.{foreign, abroad}
use Rattle.groups.specs.Scopes.{scope, settled, Work, visit, Fits, Known, Searching, Expanded}
use Rattle.groups.proofs.Leading.{leads_at, at-leads}
use Rattle.groups.proofs.Scopes.{visit-fits, visit-there}
use Rattle.groups.proofs.Searching.{searching-start, searching-visit, searching-next, searching-known, home-settled, foreign-found}

pub record Seeking (s gs : List ℕ) (g c i : ℕ) (k : Work) : Type 0 where
  pub fits : Fits g k
  pub start : T (settled g (scope k.scopes c))
  pub search : Searching (job_of s) gs g c i k

pub fits-start : (g : ℕ) (xs queue : List ℕ) → length xs ≡ most_claims → length queue ≡ most_claims → Fits g (record { scopes = xs; queue = queue; top = 0 })
fits-start g xs queue a b = record { scopes_long = a; queue_long = b; most = omega arith }

module _ (s gs : List ℕ) (good : WellFormed s) (g c : ℕ) (low : c < claims s) where
  valid : Valid (job_of s)
  valid = well_formed-valid s good

  low-job : c < (job_of s).claims
  unfolding job_of
  low-job = low

  few : c < most_claims
  few = omega (arith, good.sized.claims_most)

  module _ (xs queue : List ℕ) (a : length xs ≡ most_claims) (b : length queue ≡ most_claims) where
    fit : Fits g (record { scopes = xs; queue = queue; top = 0 })
    fit = fits-start g xs queue a b

    pub seeking-start : Known (job_of s) gs xs → (k : Work) → visit g c (record { scopes = xs; queue = queue; top = 0 }) ≡ k → Seeking s gs g c 0 k
    seeking-start known k v =
        subst (Seeking s gs g c 0) v
        (record {
          fits = visit-fits g c (record { scopes = xs; queue = queue; top = 0 }) fit few;
          start = visit-there g c (record { scopes = xs; queue = queue; top = 0 }) fit few;
          search = searching-visit (job_of s) gs g c 0 c (record { scopes = xs; queue = queue; top = 0 }) fit few here (searching-start (job_of s) gs g c xs queue known);
        })

  module _ (i : ℕ) (k : Work) (x : Seeking s gs g c i k) where
    pub seeking-top : k.top ≤ most_claims
    seeking-top = omega (arith, x.fits.most, count_le (λ d. settled g (scope k.scopes d)) most_claims)

    module _ (some : i < k.top) (d : ℕ) (is-d : d ≡ get_or k.queue i 0) where
      way : LeadsTo (job_of s) c d
      way = subst⁻¹ (LeadsTo (job_of s) c) is-d (x.search.reached i some)

      pub seeking-low : d < claims s
      unfolding job_of
      seeking-low = reach-low (job_of s) valid way low

      pub seeking-foreign : (r : Bool) → r ≡ foreign gs g d → r ≡ true → true ≡ abroad (job_of s) gs g c
      seeking-foreign r e t = sym (foreign-found (job_of s) gs g c i k x.search some d is-d valid low-job (is (foreign gs g d) (sym e ∙ t)))

      module _ (index : List ℕ) (ix : Index s index) (cur : Cursor) (over : cur ≡ record { at = get_or index d 0 + 0; end = get_or index (d + 1) 0 }) where
        from : cur.at ≡ claim_start s d
        from = omega (arith, ap (λ (y : Cursor). y.at) over, ix.starts d (omega (arith, seeking-low)))

        end : cur.end ≡ claim_start s (d + 1)
        end = ap (λ (y : Cursor). y.end) over ∙ ix.starts (d + 1) (omega (arith, seeking-low))

        pub seeking-cursor : (cur.at ≤ cur.end) × (cur.end ≤ literals s)
        seeking-cursor = let p = ix.literals d in (omega (arith, from, end, p.ordered), omega (arith, end, p.within))

        pub seeking-more :
            (r : Bool) → r ≡ foreign gs g d → r ≡ false → (k' : Work)
            → Expanded (job_of s) g (λ y. claim_of (literal_at s (rules s) y)) cur.at cur.end k k' → Seeking s gs g c (i + 1) k'
        seeking-more r e t k' z =
            let q = z.queued i some in
            record {
              fits = z.fits;
              start = z.keeps c x.start;
              search = searching-next (job_of s) gs g c i k'
                  (z.carries gs c i (λ y l h. trans way (one (at-leads s good d y (omega (arith, from)) (omega (arith, end))))) x.search)
                  q.0 d (is-d ∙ sym q.1) (is-not (foreign gs g d) (sym e ∙ t))
                  (λ b l.
                  let p = leads_at s good d b l in
                  subst (λ (y : ℕ). T (settled g (scope k'.scopes y))) p.is (z.met p.at (omega (arith, p.from, from)) (omega (arith, p.to, end))));
            }

    pub seeking_done : k.top ≤ i → (false ≡ abroad (job_of s) gs g c) × Known (job_of s) gs k.scopes
    seeking_done none =
        let known = searching-known (job_of s) gs g c i k x.search none in
        (sym (home-settled (job_of s) gs g c k.scopes known valid x.start), known)

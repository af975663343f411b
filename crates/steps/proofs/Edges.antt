-- What a claim leads to is what the state's edges say; so what is reached is. Assumes nothing.
use Prim.Native.Nat.{ℕ, ◌<◌}
use mathlib.Core.List.{List}
use native.Mathlib.Omega.{arith}
use Rattle.base.specs.Graph.{Reach, here, step}
use Rattle.base.proofs.Lists.{In}
use Rattle.base.proofs.Paths.{map as map-path}
use Rattle.job.specs.Job.{Job}
use Rattle.table.specs.Layout as W
use Rattle.waiting.specs.State.{Edge}
use Rattle.turn.specs.Turn.{reached}
use Rattle.turn.proofs.Jobs.{JobOk}
use Rattle.turn.proofs.Reached.{Leads, reached_in, in-reached}
use Rattle.turn.proofs.Leading.{leads-passed, passed-leads, leads-low}
use Rattle.steps.proofs.View.{low_in, view}

module _ (j : Job) (J : JobOk j) (t : List ℕ) where
  leads_edge : {c d : ℕ} → c < j.claims → Leads j t c d → Edge (view j t) c d
  leads_edge {c} {d} h l =
      let p = leads-passed j J t l in
      let a = p.0 in
      record {
        passed = record { at = a.at; before = a.before; real = a.real; is = a.is; claim = h; clear = a.clear };
        ahead = omega (arith, p.1, low_in (W.mark t d) (leads-low j J t c d l));
      }

  edge-low : {c d : ℕ} → Edge (view j t) c d → d < j.claims
  edge-low {c} e = let p = e.passed in let h = J.literal c p.at p.real in rw p.is at h

  edge_leads : {c d : ℕ} → Edge (view j t) c d → Leads j t c d
  edge_leads {c} {d} e =
      let p = e.passed in
      passed-leads j J t p.at p.before p.real p.is p.clear (omega (arith, e.ahead, low_in (W.mark t d) (edge-low e)))

  in_path : {c d : ℕ} → Reach (Leads j t) c d → c < j.claims → Reach (Edge (view j t)) c d
  in_path here h = here
  in_path (step l p) h = step (leads_edge h l) (in_path p (leads-low j J t _ _ l))

  module _ {c d : ℕ} (h : c < j.claims) where
    pub reach_in : Reach (Edge (view j t)) c d → In d (reached j t c)
    reach_in p = reached_in j t (leads-low j J t) c h d (map-path (λ x y e. edge_leads e) p)

    pub in_reach : In d (reached j t c) → Reach (Edge (view j t)) c d
    in_reach i = in_path (in-reached j t (leads-low j J t) c h d i) h

-- The search from one claim (specs/Scopes: Searching). Assumes nothing.
--   searching-start   nothing met yet
--   searching-visit   a claim met to which the first one leads
--   searching-next    the claim at place i of the queue was looked at: it is open to the group, and those that it leads to are met
--   searching-known   nothing left in the queue: all scopes are right
--   home-settled      a claim that is settled then doesn't lead abroad
--   foreign-found     where a claim of the queue is foreign, the first one leads abroad
use Prim.Native.Nat.{ℕ, ◌+◌, ◌-◌, ◌≤◌, ◌<◌}
use mathlib.Core.Path.{◌≡◌, sym, ◌∙◌, ap, subst, subst⁻¹}
use mathlib.Core.Bool.{true, false}
use mathlib.Core.List.{List}
use mathlib.Core.Logic.{⊎_elim, by_cases}
use native.Mathlib.Decide.{ℕ_discrete}
use native.Mathlib.Omega.{arith}
use lib.Dec.{T}
use lib.ListN.{get_or}
use Rattle.base.specs.Graph.{here, step}
use Rattle.base.proofs.Bools.{is_true}
use Rattle.job.specs.Job.{Job, most_claims}
use Rattle.job.specs.Encoding.{Valid}
use Rattle.semantics.specs.Missing.{as_written}
use Rattle.semantics.specs.Leads.{Leads, LeadsTo}
use Rattle.groups.specs.Groups.{Open, public, own, foreign, abroad}
use Rattle.groups.specs.Scopes.{scope, settled, narrow, narrowed, Work, pushed, visit, Fits, Right, Known, Looked, right, waits, Searching}
use Rattle.groups.proofs.Foreign.{foreign_open}
use Rattle.groups.proofs.Abroad.{to-abroad, not-abroad}
use Rattle.groups.proofs.Scopes.{settled-own, settled-public, settled-cases, narrow_first, narrowed-settled, narrowed-cases, narrowed-two, visit-elim, scope-there, scope-other, pushed-there, pushed-keeps, queue-there, queue-other, narrowed-kept}

-- what is open to two groups is public
open-two : (gs : List ℕ) (g h d : ℕ) → (g ≡ h → ⊥) → Open gs g d → Open gs h d → (f : ℕ) → Open gs f d
open-two gs g h d n (public e) o f = public e
open-two gs g h d n (own e) (public e') f = public e'
open-two gs g h d n (own e) (own e') f = absurd (n (sym e ∙ e'))

open_none : (gs : List ℕ) (d : ℕ) → Open gs 0 d → (f : ℕ) → Open gs f d
open_none gs d (public e) f = public e
open_none gs d (own e) f = public e

-- what is open to g is open to each group for which g's scope is settled
open_own : (gs : List ℕ) (g d h : ℕ) → T (settled h (g + 1)) → Open gs g d → Open gs h d
open_own gs g d h t o =
    ⊎_elim (λ e. let z : g ≡ h = omega arith in subst (λ (y : ℕ). Open gs y d) z o)
    (λ e. let z : g ≡ 0 = omega arith in open_none gs d (subst (λ (y : ℕ). Open gs y d) z o) h) (settled-cases h (g + 1) t)

module _ (j : Job) (gs : List ℕ) (g c : ℕ) where
  pub searching-start : (xs queue : List ℕ) → Known j gs xs → Searching j gs g c 0 (record { scopes = xs; queue = queue; top = 0 })
  searching-start xs queue k =
      record { within = omega arith; reached = λ n l. absurd (omega arith); met = λ n l. absurd (omega arith); looked = λ h d t. right (k h d t) }

  -- a claim joins the queue
  module _ (i b : ℕ) (k : Work) (fits : Fits g k) (low : b < most_claims) (out : T (settled g (scope k.scopes b)) → ⊥) (search : Searching j gs g c i k) (way : LeadsTo j c b) where
    abbrev x : ℕ
    x = scope k.scopes b

    -- of its scope before: it waits in no place
    was : (h : ℕ) → T (settled h x) → Right j gs k.scopes h b
    was h t = go (search.looked h b t)
      where
        go : Looked j gs g i k h b → Right j gs k.scopes h b
        go (right r) = r
        go (waits n a l q f o) = absurd (out (subst (λ (y : ℕ). T (settled g (scope k.scopes y))) q (search.met n l)))

    -- that of another group
    module _ (some : x ≡ 0 → ⊥) where
      before : Right j gs k.scopes (x - 1) b
      before = let z : x ≡ x - 1 + 1 = omega arith in was (x - 1) (subst⁻¹ (λ (y : ℕ). T (settled (x - 1) y)) z (settled-own (x - 1)))

      other : g ≡ x - 1 → ⊥
      other e = let z : x ≡ g + 1 = omega arith in out (subst⁻¹ (λ (y : ℕ). T (settled g y)) z (settled-own g))

    module _ (h : ℕ) (t : T (settled h (narrow g x))) where
      new_open : Open gs g b → Open gs h b
      new_open o =
          by_cases (ℕ_discrete x 0) (λ z. open_own gs g b h (subst (λ (y : ℕ). T (settled h y)) (narrow_first g x z) t) o)
          (λ n. open-two gs g (x - 1) b (other n) o (before n).within h)

      new-onward : (e : ℕ) → Leads (as_written j) b e → T (settled h (narrowed g (scope k.scopes e)))
      new-onward e l =
          by_cases (ℕ_discrete x 0)
          (λ z.
          ⊎_elim (λ y. subst⁻¹ (λ (u : ℕ). T (settled h u)) y (subst (λ (u : ℕ). T (settled h u)) (narrow_first g x z) t))
          (λ y. subst⁻¹ (λ (u : ℕ). T (settled h u)) y (settled-public h)) (narrowed-cases g (scope k.scopes e)))
          (λ n. subst⁻¹ (λ (u : ℕ). T (settled h u)) (narrowed-two g (x - 1) (scope k.scopes e) (other n) ((before n).onward e l)) (settled-public h))

    due : (h e : ℕ) → T (settled h (narrowed g (scope k.scopes e))) → T (settled h (narrowed g (scope (pushed g b k).scopes e)))
    due h e = subst⁻¹ (λ (y : ℕ). T (settled h y)) (narrowed-kept g b k fits low out e)

    -- the others are what they were; those that they lead to may narrow
    still : (h d : ℕ) → Looked j gs g i k h d → Looked j gs g i (pushed g b k) h d
    still h d (right r) = right (record { within = r.within; onward = λ e l. pushed-keeps g b k fits low h e (r.onward e l) })
    still h d (waits n a l q f o) = waits n a (omega arith) (queue-other g b k fits low out n l ∙ q) f (λ e u. due h e (o e u))

    new : (h : ℕ) → T (settled h (scope (pushed g b k).scopes b)) → Looked j gs g i (pushed g b k) h b
    new h t =
        let u : T (settled h (narrow g x)) = subst (λ (y : ℕ). T (settled h y)) (scope-there g b k fits low) t in
        waits k.top search.within (omega arith) (queue-there g b k fits low out) (new_open h u) (λ e l. due h e (new-onward h u e l))

    searching-pushed : Searching j gs g c i (pushed g b k)
    searching-pushed =
        record {
          within = omega (arith, search.within);
          reached = λ n l.
              by_cases (ℕ_discrete n k.top)
              (λ e. subst⁻¹ (LeadsTo j c) (ap (λ (m : ℕ). get_or (pushed g b k).queue m 0) e ∙ queue-there g b k fits low out) way)
              (λ m. let h : n < k.top = omega arith in subst⁻¹ (LeadsTo j c) (queue-other g b k fits low out n h) (search.reached n h));
          met = λ n l.
              by_cases (ℕ_discrete n k.top)
              (λ e.
              subst⁻¹ (λ (y : ℕ). T (settled g (scope (pushed g b k).scopes y))) (ap (λ (m : ℕ). get_or (pushed g b k).queue m 0) e ∙ queue-there g b k fits low out)
              (pushed-there g b k fits low))
              (λ m.
              let h : n < k.top = omega arith in
              subst⁻¹ (λ (y : ℕ). T (settled g (scope (pushed g b k).scopes y))) (queue-other g b k fits low out n h) (pushed-keeps g b k fits low g (get_or k.queue n 0) (search.met n h)));
          looked = λ h d t.
              by_cases (ℕ_discrete d b)
              (λ e. subst⁻¹ (Looked j gs g i (pushed g b k) h) e (new h (subst (λ (y : ℕ). T (settled h (scope (pushed g b k).scopes y))) e t)))
              (λ m. still h d (search.looked h d (subst (λ (y : ℕ). T (settled h y)) (scope-other g b k fits low d m) t)));
        }

  pub searching-visit :
      (i b : ℕ) (k : Work) → Fits g k → b < most_claims → LeadsTo j c b → Searching j gs g c i k → Searching j gs g c i (visit g b k)
  searching-visit i b k fits low way search =
      visit-elim g b k (Searching j gs g c i) (λ t. search) (λ out. searching-pushed i b k fits low out search way)

  -- one claim of the queue was looked at
  module _ (i : ℕ) (k : Work) (search : Searching j gs g c i k) where
    module _ (some : i < k.top) (d : ℕ) (is : d ≡ get_or k.queue i 0) where
      pub foreign-found : Valid j → c < j.claims → T (foreign gs g d) → abroad j gs g c ≡ true
      foreign-found v l t = is_true _ (to-abroad j v gs g (subst⁻¹ (LeadsTo j c) is (search.reached i some)) t l)

      pub searching-next :
          (T (foreign gs g d) → ⊥) → ((e : ℕ) → Leads (as_written j) d e → T (settled g (scope k.scopes e))) → Searching j gs g c (i + 1) k
      searching-next home met =
          record { within = omega arith; reached = search.reached; met = search.met; looked = λ h x t. go h x (search.looked h x t) }
        where
          at : (h x : ℕ) → x ≡ d → (Open gs g x → Open gs h x) → ((e : ℕ) → Leads (as_written j) x e → T (settled h (narrowed g (scope k.scopes e)))) → Right j gs k.scopes h x
          at h x q f o =
              record {
                within = f (subst⁻¹ (Open gs g) q (foreign_open gs g d home));
                onward = λ e l.
                    subst (λ (y : ℕ). T (settled h y)) (narrowed-settled g (scope k.scopes e) (met e (subst (λ (y : ℕ). Leads (as_written j) y e) q l))) (o e l);
              }

          go : (h x : ℕ) → Looked j gs g i k h x → Looked j gs g (i + 1) k h x
          go h x (right r) = right r
          go h x (waits n a l q f o) =
              by_cases (ℕ_discrete n i) (λ z. right (at h x (sym q ∙ (ap (λ (y : ℕ). get_or k.queue y 0) z ∙ sym is)) f o))
              (λ m. waits n (omega arith) l q f o)

    pub searching-known : k.top ≤ i → Known j gs k.scopes
    searching-known none h d t = go (search.looked h d t)
      where
        go : Looked j gs g i k h d → Right j gs k.scopes h d
        go (right r) = r
        go (waits n a l q f o) = absurd (omega arith)

  module _ (xs : List ℕ) (known : Known j gs xs) where
    all_open : {d e : ℕ} → LeadsTo j d e → T (settled g (scope xs d)) → Open gs g e
    all_open {d} here t = (known g d t).within
    all_open {d} (step l p) t = all_open p ((known g d t).onward _ l)

    pub home-settled : Valid j → T (settled g (scope xs c)) → abroad j gs g c ≡ false
    home-settled v t = not-abroad j v gs g c (λ d p. all_open p t)

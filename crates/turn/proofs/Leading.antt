-- What a claim leads to, computed, is the claims of the literals that it has passed and that stand behind no false one; what is reached stands
-- below the count of claims. Assumes nothing.
use mathlib.Core.Path.{◌≡◌, sym, subst}
use mathlib.Core.Bool.{not}
use mathlib.Core.List.{List, [], ◌∷◌, map}
use Prim.Native.Nat.{ℕ, ◌<◌}
use native.Mathlib.Omega.{arith}
use lib.ListN.{length, get_or}
use lib.Dec.{ltb, ltb→lt, lt→ltb, nleb→lt, not_T, leb→le}
use Rattle.base.specs.Lists.{upto, keep}
use Rattle.base.proofs.Bools.{and_in, and_left, and_right}
use Rattle.base.specs.Graph.{Reach, here, step}
use Rattle.base.proofs.Lists.{In, in_head, in_tail, InCons, first, later, in-cases, in-nil, in-upto, upto_in, in-keep, keep_in}
use Rattle.job.specs.Job.{Job}
use Rattle.table.specs.Layout as W
use Rattle.turn.specs.Turn.{lits, clear, leading, leads, reached}
use Rattle.turn.proofs.Jobs.{JobOk}
use Rattle.turn.proofs.Reached.{Leads, in-reached}
use Rattle.turn.proofs.Behind.{Behind, clear-not, clear_of}

module _ (f : ℕ → ℕ) where
  map_in : (s : List ℕ) (y : ℕ) → In y (map f s) → (k : ℕ) × In k s × (f k ≡ y)
  map_in [] y i = absurd (in-nil y i)
  map_in (x ∷ s) y i = go (map_in s y) (in-cases y (f x) (map f s) i)
    where
      go : (In y (map f s) → (k : ℕ) × In k s × (f k ≡ y)) → InCons y (f x) (map f s) → (k : ℕ) × In k (x ∷ s) × (f k ≡ y)
      go ih (first e) = (x, in_head x s, sym e)
      go ih (later k) = let a = ih k in (a.0, in_tail a.0 x s a.1, a.2)

  in_map : (s : List ℕ) (k : ℕ) → In k s → In (f k) (map f s)
  in_map [] k i = absurd (in-nil k i)
  in_map (x ∷ s) k i = go (in_map s k) (in-cases k x s i)
    where
      go : (In k s → In (f k) (map f s)) → InCons k x s → In (f k) (f x ∷ map f s)
      go ih (first e) = rw e (in_head (f x) (map f s))
      go ih (later m) = in_tail (f k) (f x) (map f s) (ih m)

-- the place of a literal of d that c has passed, and that leads
pub record At (j : Job) (t : List ℕ) (c d : ℕ) : Type 0 where
  pub at : ℕ
  pub before : at < W.cursor t c
  pub real : at < length (lits j c)
  pub is : get_or (lits j c) at 0 ≡ d
  pub clear : Behind j t c at → ⊥

module _ (j : Job) (J : JobOk j) (t : List ℕ) where
  abbrev places : ℕ → List ℕ
  places c = keep (leading j t c) (upto (length (lits j c)))

  abbrev lit : ℕ → ℕ → ℕ
  lit c k = get_or (lits j c) k 0

  pub leads-passed : {c d : ℕ} → Leads j t c d → At j t c d × (W.mark t d < W.true_mark)
  unfolding leads
  leads-passed {c} {d} l =
      let k = keep_in (λ d. not (W.complete t d)) d (map (lit c) (places c)) l.leads_in in
      let m = map_in (lit c) (places c) d k.0 in
      let p = keep_in (leading j t c) m.0 (upto (length (lits j c))) m.1 in (
        record {
          at = m.0;
          before = ltb→lt m.0 (W.cursor t c) (and_left (ltb m.0 (W.cursor t c)) (clear j t c m.0) p.1);
          real = upto_in m.0 (length (lits j c)) p.0;
          is = m.2;
          clear = clear-not j t c m.0 (and_right (ltb m.0 (W.cursor t c)) (clear j t c m.0) p.1);
        },
        nleb→lt W.true_mark (W.mark t d) k.1,
      )

  pub leads-low : (c d : ℕ) → Leads j t c d → d < j.claims
  leads-low c d l = let a = (leads-passed l).0 in let h = J.literal c a.at a.real in rw a.is at h

  pub passed-leads : {c d : ℕ} (k : ℕ) → k < W.cursor t c → k < length (lits j c) → get_or (lits j c) k 0 ≡ d → (Behind j t c k → ⊥) → W.mark t d < W.true_mark → Leads j t c d
  unfolding leads
  passed-leads {c} {d} k before real is free m =
      let p : In k (places c) =
      in-keep (leading j t c) k (upto (length (lits j c))) (in-upto k (length (lits j c)) real)
      (and_in (ltb k (W.cursor t c)) (clear j t c k) (lt→ltb k (W.cursor t c) before) (clear_of j t c k free)) in
      let i : In d (map (lit c) (places c)) = subst (λ (y : ℕ). In y (map (lit c) (places c))) is (in_map (lit c) (places c) k p) in
      record {
        leads_in =
            in-keep (λ d. not (W.complete t d)) d (map (lit c) (places c)) i
            (not_T (W.complete t d) (λ b. absurd (omega (arith, leb→le W.true_mark (W.mark t d) b))));
      }

  path-low : {c d : ℕ} → Reach (Leads j t) c d → c < j.claims → d < j.claims
  path-low here h = h
  path-low (step l p) h = path-low p (leads-low _ _ l)

  path_open : {c d : ℕ} → Reach (Leads j t) c d → W.mark t c < W.true_mark → W.mark t d < W.true_mark
  path_open here m = m
  path_open (step l p) m = path_open p (leads-passed l).1

  -- what is reached stands below the count, and isn't complete unless the start is
  module _ {c : ℕ} (d : ℕ) (h : c < j.claims) (i : In d (reached j t c)) where
    pub in-low : d < j.claims
    in-low = path-low (in-reached j t leads-low c h d i) h

    pub in-open : W.mark t c < W.true_mark → W.mark t d < W.true_mark
    in-open m = path_open (in-reached j t leads-low c h d i) m

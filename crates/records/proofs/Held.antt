-- How many pairs of some bytes hold. Assumes nothing.
--   gives-low, gives-kind   a pair that holds: its worker is below T, and its kind is the turn's
--   held_most     no more pairs hold than there are
--   held-front    the pairs that hold are the record of the turns that they name
--   held-false    the pair after them is false
--   held_at       bytes that are the record of some turns, and then a false pair: so many hold
--   record-held   of a record all pairs hold
--   front-pairs, front-workers, front-held   the bytes of the pairs that hold, by themselves
use Prim.Native.Nat.{ℕ, zero, suc, ◌+◌, ◌*◌, ◌≤◌, ◌<◌}
use mathlib.Core.Path.{◌≡◌, refl, sym, ◌∙◌, ap, ap₂}
use mathlib.Core.Bool.{Bool, true, false, not}
use mathlib.Core.List.{List, [], ◌∷◌}
use native.Mathlib.Omega.{arith}
use lib.ListN.{length, get_or, take, drop}
use lib.Seq.{length-take-le}
use Rattle.base.specs.Compare.{not_below, differs}
use Rattle.base.proofs.Bools.{neither}
use Rattle.base.proofs.Compare.{not_below_lt, differs_eq}
use Rattle.job.specs.Job.{Job}
use Rattle.turn.specs.Turn.{kind_number, turn, run_table}
use Rattle.records.specs.Record.{record_of, pairs, workers_in, gives, held}
use Rattle.records.proofs.Pairs.{gives-yes, held_more, held_none}

denied : (b : Bool) → not b ≡ true → b ≡ false
denied true e = let z : ◌≡◌ {A = ℕ} 0 1 = cc in absurd (omega arith)
denied false e = refl

by_test : {P : Type 0} (b : Bool) → (b ≡ true → P) → (b ≡ false → P) → P
by_test true f g = f refl
by_test false f g = g refl

module _ (j : Job) where
  module _ (t : List ℕ) (w k : ℕ) (e : gives j t w k ≡ true) where
    neither_is : (not_below w j.workers ≡ false) × (differs k (kind_number (turn j t w).kind) ≡ false)
    unfolding gives
    neither_is = neither _ _ (denied _ e)

    pub gives-low : w < j.workers
    gives-low = not_below_lt _ _ neither_is.0

    pub gives-kind : k ≡ kind_number (turn j t w).kind
    gives-kind = differs_eq _ _ neither_is.1

  pub held_most : (r t : List ℕ) → held j t r ≤ pairs r
  unfolding held
  held_most [] t = omega arith
  held_most (w ∷ []) t = omega arith
  held_most (w ∷ k ∷ r) t =
      by_test (gives j t w k) (λ e. omega (arith, held_more j t w k r e, held_most r (turn j t w).table)) (λ e. omega (arith, held_none j t w k r e))

  -- the turns that the first h pairs name
  pub record Front (t r : List ℕ) (h : ℕ) : Type 0 where
    pub low : (i : ℕ) → i < h → get_or (workers_in r) i 0 < j.workers
    pub is : take (2 * h) r ≡ record_of j t (take h (workers_in r))

  two_more : (h : ℕ) → 2 * suc h ≡ suc (suc (2 * h))
  two_more h = omega arith

  front_more : (t : List ℕ) (w k : ℕ) (r : List ℕ) (h : ℕ) → gives j t w k ≡ true → Front (turn j t w).table r h → Front t (w ∷ k ∷ r) (suc h)
  unfolding workers_in record_of
  front_more t w k r h e f =
      record {
        low = low;
        is = ap (λ (n : ℕ). take n (w ∷ k ∷ r)) (two_more h) ∙ ap₂ (λ (x : ℕ) (y : List ℕ). w ∷ x ∷ y) (gives-kind t w k e) f.is;
      }
    where
      low : (i : ℕ) → i < suc h → get_or (w ∷ workers_in r) i 0 < j.workers
      low zero l = gives-low t w k e
      low (suc i) l = f.low i (omega arith)

  pub held-front : (r t : List ℕ) (h : ℕ) → h ≤ held j t r → Front t r h
  unfolding held workers_in record_of
  held-front r t zero l = record { low = λ i q. absurd (omega arith); is = refl }
  held-front [] t (suc h) l = absurd (omega arith)
  held-front (w ∷ []) t (suc h) l = absurd (omega arith)
  held-front (w ∷ k ∷ r) t (suc h) l =
      by_test (gives j t w k)
      (λ e. front_more t w k r h e (held-front r (turn j t w).table h (omega (arith, held_more j t w k r e))))
      (λ e. absurd (omega (arith, held_none j t w k r e)))

  -- the pair number h, on the table after the turns before it
  abbrev pub gives_at : List ℕ → List ℕ → ℕ → Bool
  gives_at t r h = gives j (run_table j t (take h (workers_in r))) (get_or r (2 * h) 0) (get_or r (2 * h + 1) 0)

  at_more : (t : List ℕ) (w k : ℕ) (r : List ℕ) (h : ℕ) → gives_at t (w ∷ k ∷ r) (suc h) ≡ gives_at (turn j t w).table r h
  unfolding workers_in run_table
  at_more t w k r h =
      let p : 2 * suc h + 1 ≡ suc (suc (2 * h + 1)) = omega arith in
      ap₂ (λ (x y : ℕ). gives j (run_table j (turn j t w).table (take h (workers_in r))) (get_or (w ∷ k ∷ r) x 0) (get_or (w ∷ k ∷ r) y 0)) (two_more h) p

  pub held-false : (r t : List ℕ) (h : ℕ) → h ≡ held j t r → h < pairs r → gives_at t r h ≡ false
  unfolding held workers_in run_table
  held-false [] t h e l = absurd (omega arith)
  held-false (w ∷ []) t h e l = absurd (omega arith)
  held-false (w ∷ k ∷ r) t zero e l = by_test (gives j t w k) (λ q. absurd (omega (arith, held_more j t w k r q))) (λ q. q)
  held-false (w ∷ k ∷ r) t (suc h) e l =
      by_test (gives j t w k)
      (λ q. at_more t w k r h ∙ held-false r (turn j t w).table h (omega (arith, held_more j t w k r q)) (omega arith))
      (λ q. absurd (omega (arith, held_none j t w k r q)))

  -- the first pair of a front holds, and what follows is a front
  front_first : (t : List ℕ) (w k : ℕ) (r : List ℕ) (h : ℕ) → Front t (w ∷ k ∷ r) (suc h) → (gives j t w k ≡ true) × Front (turn j t w).table r h
  unfolding workers_in record_of
  front_first t w k r h f =
      let e : w ∷ k ∷ take (2 * h) r ≡ w ∷ kind_number (turn j t w).kind ∷ record_of j (turn j t w).table (take h (workers_in r)) =
      ap (λ (n : ℕ). take n (w ∷ k ∷ r)) (sym (two_more h)) ∙ f.is in
      (gives-yes j t w k (f.low 0 (omega arith)) (ap (λ (x : List ℕ). get_or x 1 0) e), record { low = λ i l. f.low (suc i) (omega arith); is = ap (drop 2) e })

  pub held_at : (r t : List ℕ) (h : ℕ) → h < pairs r → Front t r h → gives_at t r h ≡ false → held j t r ≡ h
  unfolding held workers_in run_table
  held_at [] t h l f e = absurd (omega arith)
  held_at (w ∷ []) t h l f e = absurd (omega arith)
  held_at (w ∷ k ∷ r) t zero l f e = held_none j t w k r e
  held_at (w ∷ k ∷ r) t (suc h) l f e =
      let q = front_first t w k r h f in
      omega (arith, held_more j t w k r q.0, held_at r (turn j t w).table h (omega arith) q.1 (sym (at_more t w k r h) ∙ e))

  pub record-held : (ws t : List ℕ) → ((i : ℕ) → i < length ws → get_or ws i 0 < j.workers) → held j t (record_of j t ws) ≡ length ws
  unfolding held record_of
  record-held [] t low = refl
  record-held (w ∷ ws) t low =
      omega
      (arith, held_more j t w (kind_number (turn j t w).kind) (record_of j (turn j t w).table ws) (gives-yes j t w (kind_number (turn j t w).kind) (low 0 (omega arith)) refl), record-held ws (turn j t w).table (λ i l. low (suc i) (omega arith)))

  -- the bytes of the first h pairs, by themselves
  pub front-pairs : (r : List ℕ) (h : ℕ) → h ≤ pairs r → pairs (take (2 * h) r) ≡ h
  front-pairs r h l = omega (arith, length-take-le (2 * h) r (omega arith))

  pub front-workers : (r : List ℕ) (h : ℕ) → workers_in (take (2 * h) r) ≡ take h (workers_in r)
  unfolding workers_in
  front-workers r zero = refl
  front-workers [] (suc h) = ap workers_in (ap (λ (n : ℕ). take n []) (two_more h))
  front-workers (w ∷ []) (suc h) = ap (λ (n : ℕ). workers_in (take n (w ∷ []))) (two_more h)
  front-workers (w ∷ k ∷ r) (suc h) =
      ap (λ (n : ℕ). workers_in (take n (w ∷ k ∷ r))) (two_more h) ∙ ap (λ (x : List ℕ). w ∷ x) (front-workers r h)

  pub front-held : (r t : List ℕ) (h : ℕ) → h ≤ held j t r → held j t (take (2 * h) r) ≡ h
  unfolding held
  front-held r t zero l = refl
  front-held [] t (suc h) l = absurd (omega arith)
  front-held (w ∷ []) t (suc h) l = absurd (omega arith)
  front-held (w ∷ k ∷ r) t (suc h) l =
      by_test (gives j t w k)
      (λ e. ap (λ (n : ℕ). held j t (take n (w ∷ k ∷ r))) (two_more h) ∙ (held_more j t w k (take (2 * h) r) e ∙ ap suc (front-held r (turn j t w).table h (omega (arith, held_more j t w k r e)))))
      (λ e. absurd (omega (arith, held_none j t w k r e)))

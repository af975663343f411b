-- The sets met one by one: what is counted so far, and what the sets still to come add. Assumes nothing.
--   Going n k so        after the sets before place k
--   going_start, going_more, going_done   none yet; one more; all
use Prim.Native.Nat.{ℕ, ◌+◌, ◌≤◌, ◌<◌}
use mathlib.Core.Path.{◌≡◌, sym, ◌∙◌, ap}
use mathlib.Core.Bool.{Bool, true, false}
use mathlib.Core.List.{[], ◌∷◌}
use native.Mathlib.Numerals.{add-one}
use native.Mathlib.Omega.{arith}
use lib.Dec.{eqb}
use lib.ListN.{drop, drop_of_length-le}
use lib.Seq.{drop-cons}
use Rattle.base.specs.Choose.{pick}
use Rattle.base.proofs.Choose.{pick_true, pick-false}
use Rattle.base.proofs.Compare.{under-yes, under-no}
use Rattle.semantics.specs.Model.{Verdict, True, False, Undefined, byte_of}
use Rattle.rulesets.specs.Sets.{all_sets, set_no, set_count}
use Rattle.rulesets.specs.Census.{first_verdict, making, turns_for, Most, better, most_from, most_of, census_of}
use Rattle.rulesets.specs.declared.Counts.{Counts}
use Rattle.counting.specs.Meeting.{met}
use Rattle.rulesets.proofs.Listed.{sets_count}

pub record Going (n k : ℕ) (so : Counts) : Type 0 where
  pub within : k ≤ set_count n
  pub trues : so.trues + making True (drop k (all_sets n)) ≡ making True (all_sets n)
  pub falses : so.falses + making False (drop k (all_sets n)) ≡ making False (all_sets n)
  pub undefineds : so.undefineds + making Undefined (drop k (all_sets n)) ≡ making Undefined (all_sets n)
  pub best : most_from (record { place = so.place; turns = so.turns }) k (drop k (all_sets n)) ≡ most_of n
  pub trues_low : so.trues ≤ k
  pub falses_low : so.falses ≤ k
  pub undefineds_low : so.undefineds ≤ k

abbrev pub counts : ℕ → ℕ → ℕ → ℕ → ℕ → Counts
counts t f u p q = record { trues = t; falses = f; undefineds = u; place = p; turns = q }

pick_one : (b : Bool) → pick b 1 0 ≤ 1
unfolding pick
pick_one true = omega arith
pick_one false = omega arith

module _ (n : ℕ) where
  pub going_start : {so : Counts} → (so.trues ≡ 0) × (so.falses ≡ 0) × (so.undefineds ≡ 0) × (so.place ≡ 0) × (so.turns ≡ 0) → Going n 0 so
  going_start {so} z =
      record {
        within = omega arith;
        trues = omega (arith, z.0);
        falses = omega (arith, z.1);
        undefineds = omega (arith, z.2);
        best = let p = z.3 in let q = z.4 in ap (λ (m : Most). most_from m 0 (all_sets n)) cc;
        trues_low = omega (arith, z.0);
        falses_low = omega (arith, z.1);
        undefineds_low = omega (arith, z.2);
      }

  next : (k : ℕ) → k < set_count n → drop k (all_sets n) ≡ set_no n k ∷ drop (k + 1) (all_sets n)
  next k h = drop-cons (all_sets n) k [] (omega (arith, sets_count n)) ∙ ap (λ (i : ℕ). set_no n k ∷ drop i (all_sets n)) (sym (add-one k))

  among_next : (v : Verdict) (k : ℕ) → k < set_count n → making v (drop k (all_sets n)) ≡ pick (eqb (byte_of (first_verdict (set_no n k))) (byte_of v)) 1 0 + making v (drop (k + 1) (all_sets n))
  unfolding making
  among_next v k h = ap (making v) (next k h)

  pub going_more : (k : ℕ) (so : Counts) → Going n k so → k < set_count n → Going n (k + 1) (met so k (byte_of (first_verdict (set_no n k))) (turns_for (set_no n k)))
  unfolding met most_from
  going_more k so g h =
      let b = byte_of (first_verdict (set_no n k)) in
      record {
        within = omega arith;
        trues = omega (arith, g.trues, among_next True k h);
        falses = omega (arith, g.falses, among_next False k h);
        undefineds = omega (arith, g.undefineds, among_next Undefined k h);
        best = sym (ap (most_from (record { place = so.place; turns = so.turns }) k) (next k h)) ∙ g.best;
        trues_low = omega (arith, g.trues_low, pick_one (eqb b 1));
        falses_low = omega (arith, g.falses_low, pick_one (eqb b 2));
        undefineds_low = omega (arith, g.undefineds_low, pick_one (eqb b 3));
      }

  pub going_done : (k : ℕ) (so : Counts) → Going n k so → set_count n ≤ k → so ≡ census_of n
  unfolding census_of making most_from
  going_done k so g h =
      let z : drop k (all_sets n) ≡ [] = drop_of_length-le (all_sets n) {i = k} (omega (arith, sets_count n)) in
      let t : so.trues ≡ making True (all_sets n) = omega (arith, g.trues, ap (making True) z) in
      let f : so.falses ≡ making False (all_sets n) = omega (arith, g.falses, ap (making False) z) in
      let u : so.undefineds ≡ making Undefined (all_sets n) = omega (arith, g.undefineds, ap (making Undefined) z) in
      let m : ◌≡◌ {A = Most} (record { place = so.place; turns = so.turns }) (most_of n) = sym (ap (most_from (record { place = so.place; turns = so.turns }) k) z) ∙ g.best in
      let p : so.place ≡ (most_of n).place = ap (λ (x : Most). x.place) m in
      let q : so.turns ≡ (most_of n).turns = ap (λ (x : Most). x.turns) m in
      ap (λ (x : ℕ). counts x so.falses so.undefineds so.place so.turns) t
      ∙ ap (λ (x : ℕ). counts (making True (all_sets n)) x so.undefineds so.place so.turns) f
      ∙ ap (λ (x : ℕ). counts (making True (all_sets n)) (making False (all_sets n)) x so.place so.turns) u
      ∙ ap (λ (x : ℕ). counts (making True (all_sets n)) (making False (all_sets n)) (making Undefined (all_sets n)) x so.turns) p
      ∙ ap (λ (x : ℕ). counts (making True (all_sets n)) (making False (all_sets n)) (making Undefined (all_sets n)) (most_of n).place x) q

-- one set more, as the code has it
module _ (so : Counts) (k v n : ℕ) {a b c : ℕ} (is_a : a ≡ pick (eqb v 1) 1 0) (is_b : b ≡ pick (eqb v 2) 1 0) (is_c : c ≡ pick (eqb v 3) 1 0) where
  met_by : {m : Most} → better (record { place = so.place; turns = so.turns }) k n ≡ m → counts (so.trues + a) (so.falses + b) (so.undefineds + c) m.place m.turns ≡ met so k v n
  unfolding met
  met_by {m} e =
      ap (λ (x : ℕ). counts (so.trues + x) (so.falses + b) (so.undefineds + c) m.place m.turns) is_a
      ∙ ap (λ (x : ℕ). counts (so.trues + pick (eqb v 1) 1 0) (so.falses + x) (so.undefineds + c) m.place m.turns) is_b
      ∙ ap (λ (x : ℕ). counts (so.trues + pick (eqb v 1) 1 0) (so.falses + pick (eqb v 2) 1 0) (so.undefineds + x) m.place m.turns) is_c
      ∙ ap (λ (x : Most). counts (so.trues + pick (eqb v 1) 1 0) (so.falses + pick (eqb v 2) 1 0) (so.undefineds + pick (eqb v 3) 1 0) x.place x.turns) (sym e)

  pub met_first : so.turns < n → counts (so.trues + a) (so.falses + b) (so.undefineds + c) k n ≡ met so k v n
  unfolding better
  met_first h = met_by (pick_true _ _ _ (under-yes _ _ h))

  pub met-kept : n ≤ so.turns → counts (so.trues + a) (so.falses + b) (so.undefineds + c) so.place so.turns ≡ met so k v n
  unfolding better
  met-kept h = met_by (pick-false _ _ _ (under-no _ _ h))

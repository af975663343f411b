-- Row 15 along the bytes of a text, and what a tally without a fault has. Assumes nothing.
use Prim.Native.Nat.{ℕ, suc, ◌+◌, ◌<◌, ◌≤◌}
use mathlib.Core.List.{List, [], ◌∷◌, ◌++◌}
use mathlib.Core.Path.{◌≡◌, refl, sym, ◌∙◌}
use mathlib.Core.Bool.{true, false}
use Rattle.base.specs.Choose.{pick}
use Rattle.base.specs.Compare.{under, over, not_below}
use native.Mathlib.Numerals.{add-one}
use native.Mathlib.Omega.{arith}
use lib.ListN.{length, get_or, drop, drop_of_length-le}
use lib.Seq.{drop-cons}
use Rattle.base.proofs.Bools.{neither}
use Rattle.base.proofs.Choose.{pick_true, pick-false, pick_both}
use Rattle.base.proofs.Compare.{over_le}
use Rattle.std.specs.Prelude.{Result, Ok, Err, Some, None}
use Rattle.job.specs.declared.Refusal.{Refusal}
use Rattle.lines.specs.Grammar.{step, line_start}
use Rattle.lines.specs.Numbering.{Scan, cap, digit_by, advance, event_at, Item, item_of, items, items_of, counted_with, counted_number, faulty_with, faulty_number, judged, counted_all, no_tally, Small, Event}
use Rattle.lines.specs.declared.State.{State}
use Rattle.lines.proofs.Leads.{at as scanned}
use Rattle.lines.specs.declared.Slot.{Slot}
use Rattle.lines.specs.declared.Slot.TheVariants.{ClaimCount, WorkerCount, Head, Body, NotBody, Asker, Asked}
use Rattle.lines.specs.declared.Tally.{Tally}

-- the numbers of the bytes left, judged
abbrev pub counted_from : Scan → Tally → ℕ → List ℕ → Result Tally Refusal
counted_from sc t line bs = judged t (items cap sc line bs)

-- one byte more, which ends the event e
judged_event : (t : Tally) (line : ℕ) (e : Event) (xs : List Item) → judged t (item_of line e ++ xs) ≡ pick (faulty_with (counted_with t e) e) (Err (record { number = 15; place = line })) (judged (counted_with t e) xs)
unfolding judged
judged_event t line None xs = sym (pick-false false (Err (record { number = 15; place = line })) (judged t xs) refl)
judged_event t line (Some (slot, n)) xs = refl

from_step : (sc : Scan) (t : Tally) (line b : ℕ) (bs : List ℕ) → counted_from sc t line (b ∷ bs) ≡ pick (faulty_with (counted_with t (event_at sc b)) (event_at sc b)) (Err (record { number = 15; place = line + line_start sc.state })) (counted_from (advance cap sc b) (counted_with t (event_at sc b)) (line + line_start sc.state) bs)
unfolding items
from_step sc t line b bs = judged_event t (line + line_start sc.state) (event_at sc b) (items cap (advance cap sc b) (line + line_start sc.state) bs)

module _ (sc : Scan) (t : Tally) (line i : ℕ) (s : List ℕ) (e : Event) (u : Tally) where
  pub counted_more : (v : Scan) (k : ℕ) → i < length s → e ≡ event_at sc (get_or s i 0) → u ≡ counted_with t e → faulty_with u e ≡ false → v ≡ advance cap sc (get_or s i 0) → k ≡ line_start sc.state → counted_from v u (line + k) (drop (i + 1) s) ≡ counted_from sc t line (drop i s)
  counted_more v k h p q f a l =
      let g : faulty_with (counted_with t (event_at sc (get_or s i 0))) (event_at sc (get_or s i 0)) ≡ false = rw (q, p) at f in
      rw (a, q, p, l, add-one i, drop-cons s i 0 h) (sym (from_step sc t line (get_or s i 0) (drop (suc i) s) ∙ pick-false _ _ _ g))

  pub counted_stop : (k : ℕ) → i < length s → e ≡ event_at sc (get_or s i 0) → u ≡ counted_with t e → faulty_with u e ≡ true → k ≡ line_start sc.state → Err (record { number = 15; place = line + k }) ≡ counted_from sc t line (drop i s)
  counted_stop k h p q f l =
      let g : faulty_with (counted_with t (event_at sc (get_or s i 0))) (event_at sc (get_or s i 0)) ≡ true = rw (q, p) at f in
      rw (l, drop-cons s i 0 h) (sym (from_step sc t line (get_or s i 0) (drop (suc i) s) ∙ pick_true _ _ _ g))

pub counted_end : (sc : Scan) (t : Tally) (line i : ℕ) (s : List ℕ) → length s ≤ i → Ok t ≡ counted_from sc t line (drop i s)
unfolding items judged
counted_end sc t line i s h = rw (drop_of_length-le s h)

small-number : (t : Tally) (slot : Slot) (n : ℕ) → Small t → faulty_number (counted_number t slot n) slot n ≡ false → Small (counted_number t slot n)
small-number t ClaimCount n h f = let l : n ≤ 4096 = over_le _ _ f in omega arith
small-number t WorkerCount n h f = let l : n ≤ 32 = over_le _ _ (neither (under n 1) (over n 32) f).1 in omega arith
small-number t Head n h f = let l : t.rules + 1 ≤ 6144 = over_le _ _ (neither (over (t.rules + 1) 6144) (not_below n t.claims) f).0 in omega arith
small-number t Body n h f = let l : t.literals + 1 ≤ 16384 = over_le _ _ (neither (over (t.literals + 1) 16384) (not_below n t.claims) f).0 in omega arith
small-number t NotBody n h f = let l : t.literals + 1 ≤ 16384 = over_le _ _ (neither (over (t.literals + 1) 16384) (not_below n t.claims) f).0 in omega arith
small-number t Asker n h f = h
small-number t Asked n h f = let l : t.questions + 1 ≤ 1024 = over_le _ _ (neither (over (t.questions + 1) 1024) (not_below n t.claims) f).0 in omega arith

pub small-next : (t : Tally) (e : Event) (u : Tally) → u ≡ counted_with t e → Small t → faulty_with u e ≡ false → Small u
small-next t None u q h f = rw q h
small-next t (Some (slot, n)) u q h f = rw q (small-number t slot n h (rw q at f))

all-zero : {a w m n q : ℕ} → a ≡ 0 → w ≡ 0 → m ≡ 0 → n ≡ 0 → q ≡ 0 → ◌≡◌ {A = Tally} (record { claims = a; workers = w; rules = m; literals = n; questions = q }) no_tally
all-zero a b c d e = cc

pub none-counted : (t : Tally) → (t.claims ≡ 0) × ((t.workers ≡ 0) × ((t.rules ≡ 0) × ((t.literals ≡ 0) × (t.questions ≡ 0)))) → t ≡ no_tally
none-counted t d = all-zero d.0 d.1.0 d.1.1.0 d.1.1.1.0 d.1.1.1.1

-- what is counted of a text without a fault is small
judged-small : (xs : List Item) (t u : Tally) → Small t → judged t xs ≡ Ok u → Small u
unfolding judged
judged-small [] t u h e = let z : t ≡ u = cc in rw (← z) h
judged-small (x ∷ xs) t u h e =
    pick_both (λ (y : Result Tally Refusal). y ≡ Ok u → Small u) (faulty_number (counted_number t x.slot x.value) x.slot x.value) _ _
    (λ f q. let z : ◌≡◌ {A = ℕ} 0 1 = cc in absurd (omega arith))
    (λ f q. judged-small xs (counted_number t x.slot x.value) u (small-number t x.slot x.value h f) q) e

pub all_small : (s : List ℕ) (u : Tally) → counted_all s ≡ Ok u → Small u
unfolding counted_all
all_small s u e = judged-small (items_of cap s) no_tally u (omega arith) e

-- the state and the number behind one byte more
pub scanned-next : (st st' : State) (n n' b : ℕ) → st' ≡ step st b → n' ≡ digit_by cap n b → scanned st' n' ≡ advance cap (scanned st n) b
scanned-next st st' n n' b e f = cc

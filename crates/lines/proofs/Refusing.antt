-- Which row a refusal is of. Assumes nothing.
--   Not k c        check c is not refused by row k; not_refused, then-not
--   counts-not     rows 15 and 16 along a text are not row 14
--   first-14, stop-14   of two checks the second of which isn't row 14: it is the first's
--   short_at       row 16 comes where row 15 accepts, and gives the bytes needed
use Prim.Native.Nat.{ℕ, ◌<◌}
use mathlib.Core.Path.{◌≡◌, refl, sym}
use mathlib.Core.Bool.{Bool, true, false}
use mathlib.Core.List.{List, [], ◌∷◌}
use native.Mathlib.Omega.{arith}
use Rattle.base.specs.Compare.{under}
use Rattle.base.proofs.Choose.{pick_both}
use Rattle.base.proofs.Compare.{under_lt}
use Rattle.job.specs.Rows.{◌⨾◌, row}
use Rattle.std.specs.Prelude.{Result, Ok, Err}
use Rattle.job.specs.Check.{Check, Accepted, Refused}
use Rattle.job.specs.declared.Refusal.{Refusal}
use Rattle.lines.specs.Answer.{go_on, check_of}
use Rattle.lines.proofs.Refusals.{same-number, same-place}
use Rattle.lines.specs.Lines.{Lines, text_of, job_size}
use Rattle.lines.specs.Numbering.{cap, Item, items_of, counted_number, faulty_number, judged, no_tally, counted_all}
use Rattle.lines.specs.Checks.{check_numbers, check_room, check_lines}
use Rattle.lines.specs.Room.{room_row, check_counts}
use Rattle.lines.specs.declared.Tally.{Tally}
use Rattle.lines.proofs.Numbered.{numbers-check}

abbrev pub Not : ℕ → Check → Type 0
Not k Accepted = Unit {0}
Not k (Err refusal) = refusal.number ≡ k → ⊥

pub not_refused : (k p : ℕ) (c : Check) → Not k c → c ≡ Refused k p → ⊥
not_refused k p Accepted n e = let z : ◌≡◌ {A = ℕ} 0 1 = cc in omega arith
not_refused k p (Err refusal) f e = f (same-number e)

then-not : (k : ℕ) (x y : Check) → Not k x → Not k y → Not k (x ⨾ y)
unfolding ◌⨾◌
then-not k Accepted y a b = b
then-not k (Err refusal) y a b = a

judged-not : (k : ℕ) → (15 ≡ k → ⊥) → (xs : List Item) (t : Tally) → Not k (check_of (judged t xs))
unfolding judged
judged-not k h [] t = tt
judged-not k h (x ∷ xs) t =
    pick_both (λ (y : Result Tally Refusal). Not k (check_of y)) (faulty_number (counted_number t x.slot x.value) x.slot x.value) _ _ (λ e. h)
    (λ e. judged-not k h xs (counted_number t x.slot x.value))

counted-not : (k : ℕ) → (15 ≡ k → ⊥) → (s : List ℕ) → Not k (check_of (counted_all s))
unfolding counted_all
counted-not k h s = judged-not k h (items_of cap s) no_tally

on-not : (k : ℕ) (r : Result Tally Refusal) (f : Tally → Check) → Not k (check_of r) → ((t : Tally) → Not k (f t)) → Not k (go_on r f)
on-not k (Ok t) f a b = b t
on-not k (Err refusal) f a b = a

row-not : (k : ℕ) → (16 ≡ k → ⊥) → (b : Bool) (p : ℕ) → Not k (row b 16 p)
unfolding row
row-not k h true p = h
row-not k h false p = tt

pub counts-not : (s : List ℕ) (room : ℕ) → Not 14 (check_counts s room)
unfolding check_counts room_row
counts-not s room =
    on-not 14 (counted_all s) (room_row room) (counted-not 14 (λ e. omega arith) s) (λ t. then-not 14 _ Accepted (row-not 14 (λ e. omega arith) _ _) tt)

pub first-14 : (x y : Check) (k : ℕ) → Not 14 y → x ⨾ y ≡ Refused 14 k → x ≡ Refused 14 k
unfolding ◌⨾◌
first-14 Accepted y k b e = absurd (not_refused 14 k y b e)
first-14 (Err refusal) y k b e = e

pub stop-14 : (x y : Check) (k : ℕ) → x ≡ Refused 14 k → x ⨾ y ≡ Refused 14 k
unfolding ◌⨾◌
stop-14 x y k e = rw e

-- row 16
room-case : (b : Bool) (room size place : ℕ) → under room size ≡ b → row b 16 size ⨾ Accepted ≡ Refused 16 place → (room < size) × (place ≡ size)
unfolding row ◌⨾◌
room-case true room size place u e = (under_lt room size u, sym (same-place e))
room-case false room size place u e = absurd (not_refused 16 place Accepted tt e)

numbers-case : (l : Lines) (room place : ℕ) (c : Check) → Not 16 c → c ⨾ check_room l room ≡ Refused 16 place → (Accepted ≡ c) × (room < job_size l) × (place ≡ job_size l)
unfolding ◌⨾◌ check_room
numbers-case l room place Accepted n e =
    let q = room-case (under room (job_size l)) room (job_size l) place refl e in
    (refl, q.0, q.1)
numbers-case l room place (Err refusal) n e = absurd (not_refused 16 place (Err refusal) n e)

pub short_at : (l : Lines) (room place : ℕ) → check_lines l room ≡ Refused 16 place → (Accepted ≡ check_numbers l) × (room < job_size l) × (place ≡ job_size l)
unfolding check_lines
short_at l room place e =
    numbers-case l room place (check_numbers l) (rw (numbers-check l) at (counted-not 16 (λ h. omega arith) (text_of l))) e

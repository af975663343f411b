-- The notes of a text along its bytes. Assumes nothing.
--   notes_from sc bs   the notes of the bytes left; notes-from   those of the numbers in them
--   Noting ..          the notes of the first i bytes are written
--   noting-start, -kept, -room, _more, _size, _end   none yet; the next number is kept; it has room; it is noted; the length; all
use Prim.Native.Nat.{ℕ, ◌+◌, ◌<◌, ◌≤◌}
use Rattle.std.specs.Prelude.{Some, None}
use mathlib.Core.Path.{◌≡◌, refl, ◌∙◌, ap}
use mathlib.Core.List.{List, [], ◌∷◌, ◌++◌, flat_map}
use native.Mathlib.Numerals.{add-one}
use native.Mathlib.Omega.{arith}
use lib.ListN.{length, get_or, drop, drop_of_length-le, length-append}
use lib.Seq.{drop-cons}
use Rattle.base.proofs.Choose.{pick_both}
use Rattle.writing.specs.Written.{Put}
use Rattle.writing.proofs.Onward.{Onward, onward-start, onward_size, onward-room, onward_more, onward_end}
use Rattle.lines.proofs.Capped.{digit-kept}
use Rattle.lines.specs.Grammar.{line_start, is_digit}
use Rattle.lines.specs.Numbering.{Scan, cap, begin, advance, unless_digit, event_in, event_at, Item, item_of, items, Event}
use Rattle.lines.specs.Noting.{note_in, notes, notes_of, Kept}
use Rattle.lines.specs.declared.Slot.{Slot}
use Rattle.lines.specs.declared.State.{State}
use Rattle.lines.specs.declared.State.TheVariants.{Bad, FirstLine, AnyLine, AskLine, Letter, First, Zero, More, BodyNext}

unfoldable pub notes_from : Scan → List ℕ → List ℕ
notes_from sc [] = []
notes_from sc (b ∷ bs) = note_in (event_at sc b) ++ notes_from (advance cap sc b) bs

notes_event : (line : ℕ) (e : Event) (xs : List Item) → notes (item_of line e ++ xs) ≡ note_in e ++ notes xs
unfolding flat_map
notes_event line None xs = refl
notes_event line (Some (s, n)) xs = refl

notes-from : (bs : List ℕ) (sc : Scan) (line : ℕ) → notes (items cap sc line bs) ≡ notes_from sc bs
unfolding items notes_from flat_map
notes-from [] sc line = refl
notes-from (b ∷ bs) sc line =
    notes_event (line + line_start sc.state) (event_at sc b) (items cap (advance cap sc b) (line + line_start sc.state) bs)
    ∙ ap (λ (x : List ℕ). note_in (event_at sc b) ++ x) (notes-from bs (advance cap sc b) (line + line_start sc.state))

-- an event has a number that is kept
unless-kept : (s : Slot) (n b : ℕ) → n ≤ 65536 → Kept (unless_digit s n b)
unfolding unless_digit
unless-kept s n b h = pick_both Kept (is_digit b) None (Some (s, n)) (λ e. tt) (λ e. h)

event-kept : (st : State) (n b : ℕ) → n ≤ 65536 → Kept (event_in st n b)
event-kept Bad n b h = tt
event-kept FirstLine n b h = tt
event-kept AnyLine n b h = tt
event-kept AskLine n b h = tt
event-kept (Letter w k) n b h = tt
event-kept (First s) n b h = tt
event-kept (Zero s) n b h = unless-kept s n b h
event-kept (More s) n b h = unless-kept s n b h
event-kept BodyNext n b h = tt

pub record Noting (text notes₀ ns : List ℕ) (at : ℕ) (scan : Scan) (i : ℕ) : Type 0 where
  pub most : i ≤ length text
  pub kept : scan.number ≤ 65536
  pub fits : 0 + length (notes_of text) ≤ length notes₀
  pub onward : Onward notes₀ 0 (notes_of text) ns at (notes_from scan (drop i text))

pub noting-start : (text ns : List ℕ) (scan : Scan) → scan ≡ begin → length (notes_of text) ≤ length ns → Noting text ns ns 0 scan 0
noting-start text ns scan e h =
    rw e (record { most = omega arith; kept = omega arith; fits = omega arith; onward = rw (← notes-from text begin 0) (onward-start ns 0 (notes_of text)) })

module _ (text notes₀ ns : List ℕ) (at : ℕ) (scan : Scan) (i : ℕ) (o : Noting text notes₀ ns at scan i) where
  next : i < length text → notes_from scan (drop i text) ≡ note_in (event_at scan (get_or text i 0)) ++ notes_from (advance cap scan (get_or text i 0)) (drop (i + 1) text)
  unfolding notes_from
  next h = rw (add-one i, drop-cons text i 0 h)

  pub noting-kept : (e : Event) → e ≡ event_at scan (get_or text i 0) → Kept e
  noting-kept e q = rw q (event-kept scan.state scan.number (get_or text i 0) o.kept)

  pub noting-room : (e : Event) → e ≡ event_at scan (get_or text i 0) → i < length text → at + length (note_in e) ≤ length ns
  noting-room e q h =
      omega (arith, onward-room o.fits o.onward, ap length (next h), length-append (note_in (event_at scan (get_or text i 0))) (notes_from (advance cap scan (get_or text i 0)) (drop (i + 1) text)), ap (λ (x : Event). length (note_in x)) q)

  pub noting_more : (e : Event) (ns' : List ℕ) (at' : ℕ) (scan' : Scan) → e ≡ event_at scan (get_or text i 0) → i < length text → Put ns at (note_in e) ns' at' → scan' ≡ advance cap scan (get_or text i 0) → Noting text notes₀ ns' at' scan' (i + 1)
  noting_more e ns' at' scan' q h p s =
      rw s
      (record {
        most = omega arith;
        kept = digit-kept scan.number (get_or text i 0);
        fits = o.fits;
        onward = onward_more o.fits o.onward (note_in (event_at scan (get_or text i 0))) _ ns' at' (next h) (rw q at p);
      })

  pub noting_size : length ns ≡ length notes₀
  noting_size = onward_size o.fits o.onward

  pub noting_end : length text ≤ i → Put notes₀ 0 (notes_of text) ns at
  unfolding notes_from
  noting_end h = onward_end o.onward (ap (notes_from scan) (drop_of_length-le text h))

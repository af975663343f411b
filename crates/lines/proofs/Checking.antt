-- Rows 14, 15 and 16 of a text are those of the lines that it says. Assumes nothing.
use Prim.Native.Nat.{ℕ}
use mathlib.Core.Path.{◌≡◌, refl, ◌∙◌, ap}
use Rattle.job.specs.Rows.{◌⨾◌}
use Rattle.job.proofs.Rows.{both}
use Rattle.std.specs.Prelude.{Result, Ok, Err}
use Rattle.job.specs.Check.{Check, Accepted}
use Rattle.job.specs.declared.Refusal.{Refusal}
use Rattle.lines.specs.Answer.{go_on, check_of}
use Rattle.lines.specs.Fitting.{check_fit}
use Rattle.lines.specs.Numbering.{counted_all}
use Rattle.lines.specs.Room.{room_row, check_counts, check_text}
use Rattle.lines.specs.Lines.{Lines, text_of}
use Rattle.lines.specs.Checks.{check_numbers, check_room, check_lines}
use Rattle.lines.specs.declared.Tally.{Tally}
use Rattle.lines.proofs.Saying.{complete}
use Rattle.lines.proofs.Numbered.{sizes, numbers-check, numbers-tally}

then_if : (r : Result Tally Refusal) (c : Check) (u : Tally) (room : ℕ) → check_of r ≡ c → (Accepted ≡ c → r ≡ Ok u) → go_on r (room_row room) ≡ c ⨾ room_row room u
unfolding ◌⨾◌
then_if (Ok t) c u room e h = let f = h e in let z : t ≡ u = cc in rw (← e) (ap (room_row room) z)
then_if (Err refusal) c u room e h = rw (← e)

fit_then : (c x : Check) → Accepted ≡ c → c ⨾ x ≡ x
unfolding ◌⨾◌
fit_then c x e = rw (← e)

room_same : (l : Lines) (room : ℕ) → room_row room (sizes l) ≡ check_room l room
unfolding room_row check_room
room_same l room = refl

pub text-check : (l : Lines) (room : ℕ) → check_text (text_of l) room ≡ check_lines l room
unfolding check_text check_counts check_lines
text-check l room =
    fit_then (check_fit (text_of l)) _ (complete l)
    ∙ then_if (counted_all (text_of l)) (check_numbers l) (sizes l) room (numbers-check l) (numbers-tally l)
    ∙ ap (λ (c : Check). check_numbers l ⨾ c) (room_same l room)

-- where it accepts, the tally is the job's
pub text-tally : (l : Lines) (room : ℕ) → Accepted ≡ check_lines l room → counted_all (text_of l) ≡ Ok (sizes l)
unfolding check_lines
text-tally l room e = numbers-tally l (both (check_numbers l) (check_room l room) e).0

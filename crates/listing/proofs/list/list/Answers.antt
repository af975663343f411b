use mathlib.Core.Path.{◌∙◌}
use native.Mathlib.Omega.{arith}
use Rattle.listing.proofs.Accepting.{room_by, no_room, in-room, check-short, check-room}
use Rattle.listing.proofs.ToldOf.{told}
use Rattle.listing.proofs.list.list.Goals as goal

pub returns-then-out-lt-MOST_TEXT : goal.returns-then-out-lt-MOST_TEXT
returns-then-out-lt-MOST_TEXT c = let i = c.args.input.now in
    let z = no_room i c.args.out.now (omega arith) in record { check_value = c.and.ensures ∙ check-short i c.check_input-check.ensures (omega arith); length_value = z.0; out_after = z.1; length_in_bounds = omega arith; told = told i }

pub returns : goal.returns
returns c = let i = c.args.input.now in
    let e = c.check_input-check.ensures in
    let z = in-room i c.args.out.now (omega arith) (room_by i e c.write_text.ensures) in record { check_value = check-room i e (omega arith); length_value = z.0; out_after = z.1; length_in_bounds = z.2; told = told i }

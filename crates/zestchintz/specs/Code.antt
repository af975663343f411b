-- The code that the calls from C answer: one 64-bit number for every answer (01, "returning number or refusal code for the C merge").
--   refusal_code number place   2^63 + place for number 1, whose place is a length; else number · 2^32 + place
--   code_of a check             accepted: the number of claims a; refused: the refusal's code
--   read_code code              what a reader makes of a code
--   Told number place           the refusals that a code can carry
--   Answered s check            the answers on a job s that a code can carry
--   Coded s check r             r is the code of an answer on job s, and the answer is read back from it
use Rattle.std.specs.Prelude.{ℕ, ◌+◌, ◌*◌, ◌/◌, ◌%◌, ◌-◌, ◌<◌, ◌≤◌, ◌≡◌, cond, List, eqb, ltb, length, Err}
use Rattle.job.specs.Format.{claims}
use Rattle.job.specs.Check.{Check, Accepted, Refused}

unfoldable pub refusal_code : ℕ → ℕ → ℕ
refusal_code number place = cond (eqb number 1) (9223372036854775808 + place) (number * 4294967296 + place)

unfoldable pub code_of : ℕ → Check → ℕ
code_of a Accepted = a
code_of a (Err refusal) = refusal_code refusal.number refusal.place

-- under 2^32: accepted; from 2^63 on: number 1, and the rest is the place; between: number and place, 32 bits each
unfoldable pub read_code : ℕ → Check
read_code code =
    cond (ltb code 4294967296) Accepted
    (cond (ltb code 9223372036854775808) (Refused (code / 4294967296) (code % 4294967296)) (Refused 1 (code - 9223372036854775808)))

pub record Told (number place : ℕ) : Type 0 where
  pub length-fits : number ≡ 1 → place < 9223372036854775808
  pub number-least : 1 ≤ number
  pub number-most : number ≤ 13
  pub place-fits : (number ≡ 1 → ⊥) → place < 4294967296

pub record Answered (s : List ℕ) (check : Check) : Type 0 where
  pub header : check ≡ Accepted → 36 ≤ length s
  pub few : check ≡ Accepted → claims s < 4294967296
  pub told : (number place : ℕ) → check ≡ Refused number place → Told number place

pub record Coded (s : List ℕ) (check : Check) (r : ℕ) : Type 0 where
  pub code : r ≡ code_of (claims s) check
  pub back : read_code r ≡ check

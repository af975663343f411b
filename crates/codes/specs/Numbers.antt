-- The answers of calls as numbers.
--   of_refusal r     a refusal: 2^63 + number · 2^56 + place
--   of_answer a      the answer of a call that writes bytes: how many it wrote, or its refusal
--   of_written c n   the same of its check c and the bytes n that it writes where accepted
--   in_halves r      a refusal in two halves of 32 bits: 2^63 + place for number 1, else number · 2^32 + place
use Rattle.std.specs.Prelude.{ℕ, ◌+◌, ◌*◌, ◌%◌, cond, eqb, Result, Ok, Err}
use Rattle.job.specs.Check.{Check}
use Rattle.job.specs.Check.{Accepted}
use Rattle.job.specs.declared.Refusal.{Refusal}

abbrev pub of_refusal : Refusal → ℕ
of_refusal r = 9223372036854775808 + r.number % 128 * 72057594037927936 + r.place % 72057594037927936

abbrev pub of_answer : Result ℕ Refusal → ℕ
of_answer (Ok n) = n
of_answer (Err r) = of_refusal r

abbrev pub of_written : Check → ℕ → ℕ
of_written Accepted n = n
of_written (Err r) n = of_refusal r

unfoldable pub in_halves : Refusal → ℕ
in_halves r = cond (eqb r.number 1) (9223372036854775808 + r.place % 9223372036854775808) (r.number % 16 * 4294967296 + r.place % 4294967296)

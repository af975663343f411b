-- The header of a job, from its counts (01, 'Job bytes').
--   header_of a m l t q   the nine words of a job with a claims, m rules, l literals, t workers and q questions
use Rattle.std.specs.Prelude.{ℕ, List, ◌++◌}
use Rattle.job.specs.Encoding.{word_bytes}
use Rattle.job.specs.Format.{rule_byte, literal_byte, question_byte}

unfoldable pub header_of : ℕ → ℕ → ℕ → ℕ → ℕ → List ℕ
header_of a m l t q =
    word_bytes (question_byte m l q)
    ++ word_bytes a
    ++ word_bytes m
    ++ word_bytes l
    ++ word_bytes t
    ++ word_bytes q
    ++ word_bytes (rule_byte 0)
    ++ word_bytes (literal_byte m 0)
    ++ word_bytes (question_byte m l 0)

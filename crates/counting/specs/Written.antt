-- Literals as they are written.
--   literal_half l   the bytes of a literal: its field, a half-word
use Rattle.std.specs.Prelude.{ℕ, List}
use Rattle.job.specs.Encoding.{half_bytes, field_of}
use Rattle.job.specs.declared.Literal.{Literal}

abbrev pub literal_half : Literal → List ℕ
literal_half l = half_bytes (field_of l)

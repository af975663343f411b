-- Little-endian numbers in a list of bytes. A byte past the end reads as 0.
--   half s at          the 16 bits at a byte
--   word s at          the 32 bits at a byte
--   Bytes s            every element of s is a byte
use Rattle.std.specs.Prelude.{ℕ, ◌+◌, ◌*◌, ◌<◌, List, get_or}

unfoldable pub half : List ℕ → ℕ → ℕ
half s at = get_or s at 0 + 256 * get_or s (at + 1) 0

unfoldable pub word : List ℕ → ℕ → ℕ
word s at = half s at + 65536 * half s (at + 2)

abbrev pub Bytes : List ℕ → Type 0
Bytes s = (k : ℕ) → get_or s k 0 < 256

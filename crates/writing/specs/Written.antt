-- A text written into a buffer.
--   wrote buf at text       the bytes of buf once text is written at `at`
--   Put buf at text out r   what a function that writes text ensures: the bytes it leaves, and the place after the text
--   Wrote buf at text       what stands where, once text is written at `at` and fits; proofs/Wrote proves it for every such text
use Rattle.std.specs.Prelude.{ℕ, ◌+◌, ◌<◌, ◌≡◌, List, ◌++◌, length, take, drop, get_or}

unfoldable pub wrote : List ℕ → ℕ → List ℕ → List ℕ
wrote buf at text = take at buf ++ text ++ drop (at + length text) buf

pub record Put (buf : List ℕ) (at : ℕ) (text out : List ℕ) (r : ℕ) : Type 0 where
  pub bytes : out ≡ wrote buf at text
  pub next : r ≡ at + length text

pub record Wrote (buf : List ℕ) (at : ℕ) (text : List ℕ) : Type 0 where
  pub size : length (wrote buf at text) ≡ length buf
  pub before : take at (wrote buf at text) ≡ take at buf
  pub here : (i : ℕ) → i < length text → get_or (wrote buf at text) (at + i) 0 ≡ get_or text i 0
  pub after : drop (at + length text) (wrote buf at text) ≡ drop (at + length text) buf
  pub more : (t : List ℕ) → wrote (wrote buf at text) (at + length text) t ≡ wrote buf at (text ++ t)

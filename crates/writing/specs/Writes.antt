-- What a writer writes: a buffer that is lent, and the place behind what is written there.
--   HasRoom w n           n bytes more fit
--   Writes old new text   the writer wrote text behind what it had written, and nothing else; its buffer is the same one
use Rattle.std.specs.Prelude.{ℕ, ◌+◌, ◌≤◌, ◌≡◌, List, length}
use Rattle.writing.specs.Written.{Put}
use Rattle.writing.specs.declared.writer.Writer.{Writer}

abbrev pub HasRoom : Writer → ℕ → Type 0
HasRoom w n = w.at + n ≤ length w.buf.now

pub record Writes (old new : Writer) (text : List ℕ) : Type 0 where
  pub same_buffer : new.buf.ghost_name ≡ old.buf.ghost_name
  pub put : Put old.buf.now old.at text new.buf.now new.at

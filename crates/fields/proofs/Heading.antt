-- The header from counts. Assumes nothing.
--   header-said     nine words that are these
--   header-length   they have 36 bytes
--   header-job      of a job's counts it is the job's header
use Prim.Native.Nat.{ℕ}
use mathlib.Core.Path.{◌≡◌, refl}
use mathlib.Core.List.{◌++◌}
use lib.ListN.{length}
use Rattle.job.specs.Job.{Job, literal_count}
use Rattle.job.specs.Format.{literal_byte, question_byte}
use Rattle.job.specs.Encoding.{word_bytes, header_bytes}
use Rattle.fields.specs.Header.{header_of}

pub header-said :
    (a m l t q n f g : ℕ) → n ≡ question_byte m l q → f ≡ literal_byte m 0 → g ≡ question_byte m l 0
    → (word_bytes n ++ word_bytes a ++ word_bytes m) ++ (word_bytes l ++ word_bytes t ++ word_bytes q) ++ (word_bytes 36 ++ word_bytes f ++ word_bytes g) ≡ header_of a m l t q
unfolding header_of
header-said a m l t q n f g u v w = rw (u, v, w)

pub header-length : (a m l t q : ℕ) → length (header_of a m l t q) ≡ 36
unfolding header_of
header-length a m l t q = refl

pub header-job : (j : Job) → header_of j.claims (length j.rules) (literal_count j) j.workers (length j.questions) ≡ header_bytes j
unfolding header_of header_bytes
header-job j = refl

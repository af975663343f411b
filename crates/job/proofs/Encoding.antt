-- Bytes are accepted exactly where they encode a valid job, and an encoding means the job that it encodes. Assumes nothing.
use Prim.Native.Nat.{ℕ}
use mathlib.Core.Path.{◌≡◌, sym, ◌∙◌, ap, subst}
use mathlib.Core.List.{List}
use native.Mathlib.Omega.{arith}
use lib.ListN.{length}
use Rattle.job.specs.Bytes.{Bytes}
use Rattle.job.specs.Job.{Job, literal_count}
use Rattle.job.specs.Format.{question_byte, rules, literals, body_start, job_of}
use Rattle.job.specs.Accepted.{Sized, WellFormed}
use Rattle.job.specs.Encoding.{encode, Valid}
use Rattle.job.specs.Reading.{Reading}
use Rattle.job.proofs.Accepted.{well_formed, accepted}
use Rattle.job.proofs.Encoded.{words_of}
use Rattle.job.proofs.Fields.{words_small, rules-whole, literals-small, encode-holds, encode-length, holds-encode}
use Rattle.job.proofs.Decoded.{Words, words_at, job_read}
use Rattle.job.proofs.Written.{rules_count, questions_count, literals_count, job_write}
use Rattle.job.proofs.Answers.{answers_right}
use Rattle.job.proofs.Valid.{well_formed-valid, valid_well_formed}

pub decoded : (j : Job) → Valid j → job_of (encode j) ≡ j
decoded j v = job_read (encode j) j (words_small j v) (literals-small j v) (rules-whole j v) (encode-holds j v)

-- what the header of an encoding says
sized : (s : List ℕ) (j : Job) → Valid j → Words s 0 (words_of j) → length s ≡ question_byte (length j.rules) (literal_count j) (length j.questions) → Sized s
sized s j v w l = omega arith

pub encoded_well_formed : (j : Job) → Valid j → WellFormed (encode j)
encoded_well_formed j v =
    let w : Words (encode j) 0 (words_of j) = words_at (encode j) 0 (words_of j) (words_small j v) (encode-holds j v).header in
    let b : body_start (encode j) (rules (encode j)) ≡ literals (encode j) =
    sym (literals_count (encode j)) ∙ (ap literal_count (decoded j v) ∙ sym w.1.1.1.0) in
    valid_well_formed (encode j) (sized (encode j) j v w (encode-length j v)) b (subst Valid (sym (decoded j v)) v)

pub well_formed_encoded : (s : List ℕ) → Bytes s → WellFormed s → s ≡ encode (job_of s)
well_formed_encoded s b w =
    holds-encode s (job_of s) b (omega (arith, w.sized.size, rules_count s, questions_count s, literals_count s, w.bodies))
    (job_write s w (words_small (job_of s) (well_formed-valid s w)))

pub reading : Reading
reading =
    record {
      exact = λ s b.
          (λ e. (job_of s, well_formed-valid s (well_formed s e), well_formed_encoded s b (well_formed s e)), λ t. rw t.2 (accepted (encode t.0) (encoded_well_formed t.0 t.1)));
      meaning = decoded;
      worked = answers_right;
    }

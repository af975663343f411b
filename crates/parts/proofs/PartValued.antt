-- The part as it was written, and its values. Assumes nothing.
--   part-fits                  it has no more bytes than the job
--   front_fits, front_length   it is a front of the room that it was written into
--   front-good, front-claims   an accepted job, whose claims are the members
--   values_of                  the members' values, in the model of the job exchanged, in that of the job and in that of the job extended
--   front-values               the part's verdicts are the members' values
use Prim.Native.Nat.{ℕ, ◌<◌, ◌≤◌}
use mathlib.Core.Path.{◌≡◌, refl, sym, ◌∙◌, ap, subst}
use mathlib.Core.List.{List}
use native.Mathlib.Omega.{arith}
use lib.ListN.{length, take, get_or}
use lib.Seq.{length-take-le}
use Rattle.base.proofs.Span.{length-span}
use Rattle.job.specs.Job.{Job}
use Rattle.job.specs.Format.{claims, job_of}
use Rattle.job.specs.Accepted.{WellFormed}
use Rattle.job.specs.Encoding.{encode, Valid}
use Rattle.job.proofs.Encoding.{decoded, encoded_well_formed}
use Rattle.job.proofs.Fields.{encode-length}
use Rattle.job.proofs.Valid.{well_formed-valid}
use Rattle.job.proofs.Written.{rules_count, questions_count, literals_count}
use Rattle.model.specs.Output.{OutputBytes}
use Rattle.semantics.specs.Model.{program_of, verdict, byte_of, exchange, known_of}
use Rattle.semantics.proofs.Exchange.{exchange-verdict}
use Rattle.semantics.proofs.Known.{known_past}
use Rattle.semantics.proofs.Missing.{missing_of}
use Rattle.semantics.proofs.Theorems.{same_model, known_bytes}
use Rattle.semantics.proofs.RelevanceCovered.{relevance}
use Rattle.table.specs.Layout.{mark, value_of, values}
use Rattle.writing.specs.Written.{Put}
use Rattle.writing.proofs.Wrote.{put_size, put_front}
use Rattle.parts.specs.Part.{part, Alone, PartValues}
use Rattle.parts.specs.Written.{part_of, Lent}
use Rattle.parts.proofs.Limits.{part-valid, part-shorter}
use Rattle.parts.proofs.Claiming.{member_below}
use Rattle.parts.proofs.Verdicts.{part-verdict}

-- an accepted job has as many bytes as its encoding
encoded-length : (s : List ℕ) → WellFormed s → length (encode (job_of s)) ≡ length s
encoded-length s w =
    omega (arith, encode-length (job_of s) (well_formed-valid s w), rules_count s, questions_count s, literals_count s, w.bodies, w.sized.size)

values_of :
    {s t ms vs : List ℕ} → WellFormed s → ((i : ℕ) → i < length ms → get_or ms i 0 < claims s)
    → ((i : ℕ) → i < length ms → get_or vs i 0 ≡ byte_of (verdict (exchange (known_of (values (job_of s) t)) (program_of (job_of s))) (get_or ms i 0)))
    → PartValues (job_of s) t ms vs
unfolding job_of values
values_of {s} {t} {ms} w inside at =
    let P = program_of (job_of s) in
    let g = values (job_of s) t in
    record {
      at = at;
      right = λ known i h. at i h ∙ ap byte_of (exchange-verdict P (known_of g) (known_bytes.right P g known) (get_or ms i 0));
      same_model = same_model P;
      known_bytes = known_bytes;
      as_extended = λ i h.
          at i h
          ∙ ap byte_of
          ((missing_of s w).extension.exchanged (known_of g)
          (λ d k. known_past g d (omega (arith, k, length-span (λ c. value_of (mark t c)) 0 (claims s)))) (get_or ms i 0) (inside i h));
      relevance = relevance P;
    }

module _ {s index t place ms : List ℕ} (lent : Lent s index t place ms) where
  abbrev p : Job
  p = part_of s t place ms

  valid : Valid (job_of s)
  valid = well_formed-valid s lent.job

  long : length place ≡ (job_of s).claims
  unfolding job_of
  long = lent.long

  good : Valid p
  good = part-valid (job_of s) valid t place ms long lent.numbered

  pub part-fits : length (encode p) ≤ length s
  part-fits = omega (arith, part-shorter (job_of s) valid t place ms long lent.numbered, encoded-length s lent.job)

  module _ {room out : List ℕ} {n : ℕ} (w : Put room 0 (encode p) out n) where
    pub front_fits : length s ≤ length room → n ≤ length out
    front_fits h = omega (arith, part-fits, w.next, put_size room 0 (encode p) out n (omega (arith, part-fits)) w)

    pub front_length : length s ≤ length room → n ≡ length (take n out)
    front_length h = sym (length-take-le n out (front_fits h))

    front : take n out ≡ encode p
    front = put_front w

    pub front-good : WellFormed (take n out)
    front-good = subst WellFormed (sym front) (encoded_well_formed p good)

    means : job_of (take n out) ≡ p
    means = ap job_of front ∙ decoded p good

    pub front-claims : claims (take n out) ≡ length ms
    unfolding job_of part
    front-claims = ap (λ (j : Job). j.claims) means

    pub front-values :
        {before o : List ℕ} → Alone (job_of s) t place → OutputBytes (take n out) (program_of (job_of (take n out))) before o → PartValues (job_of s) t ms o
    front-values alone b =
        values_of lent.job (λ i h. member_below s _ ms lent.long lent.numbered i h refl)
        (λ i h.
        b.verdict_at i (omega (arith, front-claims))
        ∙ ap (λ (j : Job). byte_of (verdict (program_of j) i)) means
        ∙ ap byte_of (part-verdict (job_of s) valid t place ms lent.table long lent.numbered alone i h))

-- The parts of the form, as each function writes its own. Assumes nothing.
--   records_fit, bodies_fit, asks_fit   each part has room behind those before it
--   formed                              together they are the bytes of the form
use Prim.Native.Nat.{ℕ, ◌*◌}
use mathlib.Core.Path.{◌≡◌, ◌∙◌, ap}
use mathlib.Core.List.{List, flat_map}
use native.Mathlib.Omega.{arith}
use lib.ListN.{length}
use Rattle.job.specs.Job.{Job}
use Rattle.job.specs.Format.{job_of}
use Rattle.job.specs.Encoding.{header_bytes, rule_bytes, body_bytes, question_bytes, encode}
use Rattle.writing.specs.Writes.{Writes, HasRoom}
use Rattle.writing.specs.declared.writer.Writer.{Writer}
use Rattle.writing.proofs.Writing.{writes_as}
use Rattle.forms.specs.Form.{form}
use Rattle.canon.specs.Kept.{line_at, Bodies, InOrder}
use Rattle.canon.specs.Sizes.{kept_bytes}
use Rattle.canon.proofs.Handed.{kept-bytes, lines_flat}
use Rattle.canon.proofs.Parts.{records-room, bodies-room, asks-room, joined}
use Rattle.canon.proofs.Heading.{asks-form, rules-form}

module _ {job s starts sizes order : List ℕ} (b : Bodies job s starts sizes) (o : InOrder job order) where
  abbrev formed-job : Job
  formed-job = form (job_of job)

  abbrev records : List ℕ
  records = flat_map (λ i. rule_bytes (line_at job i)) order

  abbrev bodies : List ℕ
  bodies = flat_map (kept_bytes s starts sizes) order

  abbrev asks : List ℕ
  asks = flat_map question_bytes (job_of job).questions

  bodies_are : bodies ≡ flat_map body_bytes formed-job.rules
  bodies_are = kept-bytes b order o.within ∙ lines_flat o body_bytes

  asks_are : flat_map question_bytes formed-job.questions ≡ asks
  asks_are = ap (flat_map question_bytes) (asks-form job)

  module _ {w : Writer} (room : HasRoom w (length (encode formed-job))) {w₁ : Writer} (p₁ : Writes w w₁ (header_bytes formed-job)) where
    pub records_fit : HasRoom w₁ (4 * length order)
    records_fit = omega (arith, records-room formed-job w room w₁ p₁, rules-form o)

    module _ {w₂ : Writer} (p₂ : Writes w₁ w₂ records) where
      records-written : Writes w₁ w₂ (flat_map rule_bytes formed-job.rules)
      records-written = writes_as p₂ (lines_flat o rule_bytes)

      pub bodies_fit : HasRoom w₂ (length bodies)
      bodies_fit = omega (arith, bodies-room formed-job w room w₁ p₁ w₂ records-written, ap length bodies_are)

      module _ {w₃ : Writer} (p₃ : Writes w₂ w₃ bodies) where
        bodies-written : Writes w₂ w₃ (flat_map body_bytes formed-job.rules)
        bodies-written = writes_as p₃ bodies_are

        pub asks_fit : HasRoom w₃ (length asks)
        asks_fit = omega (arith, asks-room formed-job w room w₁ p₁ w₂ records-written w₃ bodies-written, ap length asks_are)

        pub formed : {w₄ : Writer} → Writes w₃ w₄ asks → Writes w w₄ (encode formed-job)
        formed {w₄} p₄ = joined formed-job w room w₁ p₁ w₂ records-written w₃ bodies-written w₄ (rw asks_are p₄)

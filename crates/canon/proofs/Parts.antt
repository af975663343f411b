-- The four parts of an encoding, written one after the other. Assumes nothing.
--   records-room, bodies-room, asks-room   each part has room behind those before it
--   joined        all parts written one after the other
use Prim.Native.Nat.{ℕ, ◌+◌, ◌*◌}
use mathlib.Core.Path.{◌≡◌, refl, ◌∙◌}
use mathlib.Core.List.{List, ◌++◌, flat_map}
use native.Mathlib.Omega.{arith}
use lib.ListN.{length, length-append}
use Rattle.job.specs.Job.{Job}
use Rattle.job.specs.Encoding.{header_bytes, rule_bytes, body_bytes, question_bytes, encode}
use Rattle.writing.specs.Writes.{Writes, HasRoom}
use Rattle.writing.specs.declared.writer.Writer.{Writer}
use Rattle.writing.proofs.Parted.{flat-length}
use Rattle.writing.proofs.Writing.{writes-room, writes-writes}

-- header, records, bodies and questions of job j
module _ (j : Job) (w : Writer) (room : HasRoom w (length (encode j))) where
  abbrev records : List ℕ
  records = flat_map rule_bytes j.rules

  abbrev bodies : List ℕ
  bodies = flat_map body_bytes j.rules

  abbrev asks : List ℕ
  asks = flat_map question_bytes j.questions

  sizes : length (encode j) ≡ length (header_bytes j) + length records + length bodies + length asks
  unfolding encode
  sizes =
      length-append (header_bytes j ++ records ++ bodies) asks
      ∙ omega (arith, length-append (header_bytes j ++ records) bodies, length-append (header_bytes j) records)

  module _ (w₁ : Writer) (p₁ : Writes w w₁ (header_bytes j)) where
    pub records-room : HasRoom w₁ (4 * length j.rules)
    records-room = writes-room w w₁ (header_bytes j) (omega (arith, sizes)) p₁ _ (omega (arith, sizes, flat-length rule_bytes 4 j.rules (λ r. refl)))

    module _ (w₂ : Writer) (p₂ : Writes w₁ w₂ records) where
      two : Writes w w₂ (header_bytes j ++ records)
      two = writes-writes w w₁ (header_bytes j) (omega (arith, sizes)) p₁ w₂ records p₂

      two-fits : HasRoom w (length (header_bytes j ++ records))
      two-fits = omega (arith, sizes, length-append (header_bytes j) records)

      pub bodies-room : HasRoom w₂ (length bodies)
      bodies-room = writes-room w w₂ _ two-fits two _ (omega (arith, sizes, length-append (header_bytes j) records))

      module _ (w₃ : Writer) (p₃ : Writes w₂ w₃ bodies) where
        three : Writes w w₃ (header_bytes j ++ records ++ bodies)
        three = writes-writes w w₂ _ two-fits two w₃ bodies p₃

        three-size : length (header_bytes j ++ records ++ bodies) ≡ length (header_bytes j) + length records + length bodies
        three-size = omega (arith, length-append (header_bytes j ++ records) bodies, length-append (header_bytes j) records)

        pub asks-room : HasRoom w₃ (length asks)
        asks-room = writes-room w w₃ _ (omega (arith, sizes, three-size)) three _ (omega (arith, sizes, three-size))

        pub joined : (w₄ : Writer) → Writes w₃ w₄ asks → Writes w w₄ (encode j)
        unfolding encode
        joined w₄ p₄ = writes-writes w w₃ _ (omega (arith, sizes, three-size)) three w₄ asks p₄

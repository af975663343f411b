-- The parts of a job written one after the other. Assumes nothing.
--   order-taken     the order's front is the places of the rules
--   header-room, records-room, bodies-room, asks-room   each part has room behind those before it
--   joined          header, records, literals and questions together are the job's bytes
use Prim.Native.Nat.{ℕ, ◌+◌, ◌*◌, ◌≤◌}
use mathlib.Core.Path.{◌≡◌, refl, sym, ◌∙◌, ap}
use mathlib.Core.List.{List, ◌++◌, flat_map}
use native.Mathlib.Omega.{arith}
use lib.ListN.{length, take, drop, length-append}
use lib.Seq.{take_at, length-take-le}
use Rattle.job.specs.Encoding.{half_bytes}
use Rattle.writing.specs.Written.{wrote, Put}
use Rattle.writing.specs.Writes.{Writes, HasRoom}
use Rattle.writing.specs.declared.writer.Writer.{Writer}
use Rattle.writing.proofs.Wrote.{put_size}
use Rattle.writing.proofs.Writing.{writes_as, writes-room, writes-writes}
use Rattle.fields.proofs.Heading.{header-length}
use Rattle.base.specs.Lists.{Within}
use Rattle.lines.specs.Placing.{placed, record_at, body_at, header_by, job_bytes, Placeable}
use Rattle.lines.specs.declared.Tally.{Tally}
use Rattle.writing.proofs.Parted.{flat-length}
use Rattle.lines.proofs.Placed.{placed-within}

-- what is written from byte 0 on, and what is past it
pub put_front : (out s out' : List ℕ) (r : ℕ) → Put out 0 s out' r → out' ≡ s ++ drop (length s) out
unfolding wrote
put_front out s out' r p =
    let v : 0 + length s ≡ length s = omega arith in
    p.bytes ∙ ap (λ (k : ℕ). s ++ drop k out) v

pub order-taken : (order s order' : List ℕ) (m : ℕ) → Put order 0 s order' m → take m order' ≡ s
order-taken order s order' m p = ap (take m) (put_front order s order' m p) ∙ take_at s (drop (length s) order) m (omega (arith, p.next))

pub order-counted : (order s order' : List ℕ) (m : ℕ) → Put order 0 s order' m → m ≡ length (take m order')
order-counted order s order' m p = omega (arith, p.next, ap length (order-taken order s order' m p))

header_size : (t : Tally) → length (header_by t) ≡ 36
header_size t = header-length t.claims t.rules t.literals t.workers t.questions

pub order-within : (a : ℕ) (ys order : List ℕ) → order ≡ placed a ys → Within order (length ys)
order-within a ys order e = rw e (placed-within a ys)

module _ (t : Tally) (ys zs order : List ℕ) (e : order ≡ placed t.claims ys) where
  abbrev records : List ℕ
  records = flat_map (record_at ys) order

  abbrev bodies : List ℕ
  bodies = flat_map (body_at ys) order

  abbrev asks : List ℕ
  asks = flat_map (λ x. half_bytes x) zs

  whole : header_by t ++ records ++ bodies ++ asks ≡ job_bytes t ys zs
  unfolding job_bytes
  whole = ap (λ (o : List ℕ). header_by t ++ flat_map (record_at ys) o ++ flat_map (body_at ys) o ++ asks) e

  record_lengths : length records ≡ 4 * length order
  record_lengths = flat-length (record_at ys) 4 order (λ x. refl)

  front : length (header_by t ++ records) ≡ 36 + 4 * length order
  front = omega (arith, length-append (header_by t) records, header_size t, record_lengths)

  middle : length (header_by t ++ records ++ bodies) ≡ 36 + 4 * length order + length bodies
  middle = omega (arith, length-append (header_by t ++ records) bodies, front)

  all_of_it : length (job_bytes t ys zs) ≡ 36 + 4 * length order + length bodies + 2 * length zs
  all_of_it = sym (ap length whole) ∙ omega (arith, length-append (header_by t ++ records ++ bodies) asks, middle, flat-length (λ x. half_bytes x) 2 zs (λ x. refl))

  module _ (w : Writer) (p : Placeable t ys zs (length w.buf.now)) (z : w.at ≡ 0) where
    fits : HasRoom w (36 + 4 * length order + length bodies + 2 * length zs)
    fits = omega (arith, p.fits, all_of_it, z)

    pub header-room : HasRoom w 36
    header-room = omega (arith, fits)

    module _ (w₁ : Writer) (q₁ : Writes w w₁ (header_by t)) where
      header-fits : HasRoom w (length (header_by t))
      header-fits = omega (arith, header_size t, fits)

      pub records-room : HasRoom w₁ (4 * length order)
      records-room = writes-room w w₁ _ header-fits q₁ _ (omega (arith, header_size t, fits))

      module _ (w₂ : Writer) (q₂ : Writes w₁ w₂ records) where
        two : Writes w w₂ (header_by t ++ records)
        two = writes-writes w w₁ _ header-fits q₁ w₂ records q₂

        two-fits : HasRoom w (length (header_by t ++ records))
        two-fits = omega (arith, front, fits)

        pub bodies-room : HasRoom w₂ (length bodies)
        bodies-room = writes-room w w₂ _ two-fits two _ (omega (arith, front, fits))

        module _ (w₃ : Writer) (q₃ : Writes w₂ w₃ bodies) where
          three : Writes w w₃ (header_by t ++ records ++ bodies)
          three = writes-writes w w₂ _ two-fits two w₃ bodies q₃

          three-fits : HasRoom w (length (header_by t ++ records ++ bodies))
          three-fits = omega (arith, middle, fits)

          pub asks-room : HasRoom w₃ (2 * length zs)
          asks-room = writes-room w w₃ _ three-fits three _ (omega (arith, middle, fits))

          pub joined : (w₄ : Writer) → Writes w₃ w₄ asks → Writes w w₄ (job_bytes t ys zs)
          joined w₄ q₄ = writes_as (writes-writes w w₃ _ three-fits three w₄ asks q₄) whole

pub front_length : (ns : List ℕ) (k : ℕ) → k ≤ length ns → k ≡ length (take k ns)
front_length ns k h = sym (length-take-le k ns h)

pub put-within : (buf s out : List ℕ) (r : ℕ) → length s ≤ length buf → Put buf 0 s out r → r ≤ length out
put-within buf s out r h p = omega (arith, p.next, put_size buf 0 s out r (omega arith) p)

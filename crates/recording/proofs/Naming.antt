-- The workers of a record, written one by one. Assumes nothing.
--   Naming                those of the pairs before `rest` stand in the writer's buffer
--   naming_none, -room, _more, _all, _few   none yet; room for one; one more; all; how many they are
use Prim.Native.Nat.{ℕ, ◌≤◌, ◌<◌}
use mathlib.Core.Path.{◌≡◌, refl, sym, ◌∙◌, ap, subst}
use mathlib.Core.List.{List, [], ◌∷◌, ◌++◌}
use native.Mathlib.Omega.{arith}
use lib.ListN.{length, get_or}
use Rattle.writing.specs.Written.{Put}
use Rattle.writing.specs.Writes.{Writes, HasRoom}
use Rattle.writing.specs.declared.writer.Writer.{Writer}
use Rattle.writing.proofs.Onward.{Onward, onward-start, onward-room, onward_more, onward_end}
use Rattle.records.specs.Record.{pairs, workers_in}
use Rattle.records.proofs.Pairs.{workers-length}

workers_more : (pair rest : List ℕ) → length pair ≡ 2 → workers_in (pair ++ rest) ≡ get_or pair 0 0 ∷ workers_in rest
unfolding workers_in
workers_more [] rest e = absurd (omega (arith, e))
workers_more (w ∷ []) rest e = absurd (omega (arith, e))
workers_more (w ∷ k ∷ []) rest e = refl
workers_more (w ∷ k ∷ x ∷ pair) rest e = absurd (omega (arith, e))

workers_none : (rest : List ℕ) → length rest < 2 → workers_in rest ≡ []
unfolding workers_in
workers_none [] h = refl
workers_none (w ∷ []) h = refl
workers_none (w ∷ k ∷ rest) h = absurd (omega (arith, h))

-- a: the writer before any worker; b: before the pairs of `rest`, that are taken by `size` bytes
pub record Naming (r : List ℕ) (a : Writer) (rest : List ℕ) (size : ℕ) (b : Writer) : Type 0 where
  pub two : size ≡ 2
  pub same_buffer : b.buf.ghost_name ≡ a.buf.ghost_name
  pub onward : Onward a.buf.now a.at (workers_in r) b.buf.now b.at (workers_in rest)

module _ (r : List ℕ) (a : Writer) where
  pub naming_none : {rest : List ℕ} {size : ℕ} → rest ≡ r → size ≡ 2 → Naming r a rest size a
  naming_none e two =
      record {
        two = two;
        same_buffer = refl;
        onward = subst (λ (x : List ℕ). Onward a.buf.now a.at (workers_in r) a.buf.now a.at (workers_in x)) (sym e) (onward-start a.buf.now a.at (workers_in r));
      }

  -- buf: what the new writer's buffer holds
  module _ {buf : List ℕ} (room : pairs r ≤ length buf) (same : a.buf.now ≡ buf) (zero : a.at ≡ 0) {rest : List ℕ} {size : ℕ} {b : Writer} (n : Naming r a rest size b) where
    fits : HasRoom a (length (workers_in r))
    fits = omega (arith, room, zero, ap length same, workers-length r)

    module _ (pair rest' : List ℕ) (split : rest ≡ pair ++ rest') (sized : length pair ≡ size) where
      next : workers_in rest ≡ get_or pair 0 0 ∷ workers_in rest'
      next = ap workers_in split ∙ workers_more pair rest' (sized ∙ n.two)

      pub naming-room : HasRoom b 1
      naming-room = omega (arith, onward-room fits n.onward, ap length next)

      pub naming_more : {size' : ℕ} → size' ≡ size → {c : Writer} → Writes b c (get_or pair 0 0 ∷ []) → Naming r a rest' size' c
      naming_more e {c} p =
          record {
            two = e ∙ n.two;
            same_buffer = p.same_buffer ∙ n.same_buffer;
            onward = onward_more fits n.onward (get_or pair 0 0 ∷ []) (workers_in rest') c.buf.now c.at next p.put;
          }

    pub naming_all : length rest < size → Put buf 0 (workers_in r) b.buf.now b.at
    naming_all h = rw (same, zero) at (onward_end n.onward (workers_none rest (omega (arith, h, n.two))))

    pub naming_few : b.at ≤ length b.buf.now
    naming_few = omega (arith, onward-room fits n.onward)

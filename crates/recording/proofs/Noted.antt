-- The record of a run, turn by turn: what is written, and what is still to come. Assumes nothing.
--   Noted           after i turns, with the table t: what stands in the writer's buffer, and where the next pair goes
--   noted_none, -room, _more, _all   nothing yet; room for a pair; one turn more; all
use Prim.Native.Nat.{ℕ, ◌+◌, ◌*◌, ◌≤◌, ◌<◌}
use mathlib.Core.Path.{◌≡◌, refl, sym, ◌∙◌, ap, ap₂}
use mathlib.Core.List.{List, [], ◌∷◌, ◌++◌}
use native.Mathlib.Omega.{arith}
use lib.ListN.{length, get_or, drop, length-drop, drop_of_length-le}
use Rattle.job.specs.Job.{Job}
use Rattle.turn.specs.Turn.{kind_number, turn}
use Rattle.turn.specs.Ready.{Made}
use Rattle.turn.specs.declared.Kind.{Kind}
use Rattle.writing.specs.Written.{wrote}
use Rattle.writing.specs.Writes.{Writes, HasRoom}
use Rattle.writing.specs.declared.writer.Writer.{Writer}
use Rattle.writing.proofs.Onward.{Onward, onward-start, onward-room, onward_more, onward_end}
use Rattle.calls.proofs.Running.{named-next}
use Rattle.records.specs.Record.{record_of}
use Rattle.records.proofs.Recorded.{record-length}

-- a: the writer before any turn; b: after i turns, with the table t
pub record Noted (j : Job) (t₀ ws : List ℕ) (a : Writer) (i : ℕ) (t : List ℕ) (b : Writer) : Type 0 where
  pub same_buffer : b.buf.ghost_name ≡ a.buf.ghost_name
  pub onward : Onward a.buf.now a.at (record_of j t₀ ws) b.buf.now b.at (record_of j t (drop i ws))

module _ (j : Job) (t₀ ws : List ℕ) (a : Writer) where
  pub noted_none : Noted j t₀ ws a 0 t₀ a
  noted_none = record { same_buffer = refl; onward = onward-start a.buf.now a.at (record_of j t₀ ws) }

  -- buf: what the new writer's buffer holds
  module _ {buf : List ℕ} (room : 2 * length ws ≤ length buf) (same : a.buf.now ≡ buf) (zero : a.at ≡ 0) {i : ℕ} {t : List ℕ} {b : Writer} (o : Noted j t₀ ws a i t b) where
    fits : HasRoom a (length (record_of j t₀ ws))
    fits = omega (arith, room, zero, ap length same, record-length j ws t₀)

    pub noted-room : i < length ws → HasRoom b 2
    noted-room some = omega (arith, onward-room fits o.onward, record-length j (drop i ws) t, length-drop i ws)

    pub noted_more :
        i < length ws → {w : ℕ} → w ≡ get_or ws i 0 → {kind : Kind} {u : List ℕ} → Made (turn j t w) kind u
        → {c : Writer} → Writes b c (get_or ws i 0 ∷ kind_number kind ∷ []) → Noted j t₀ ws a (i + 1) u c
    unfolding record_of
    noted_more some {w} named {kind} {u} made {c} p =
        let rest : record_of j t (drop i ws) ≡ (get_or ws i 0 ∷ kind_number kind ∷ []) ++ record_of j u (drop (i + 1) ws) =
        ap (record_of j t) (named-next ws some named)
        ∙ (ap₂ (λ (k : Kind) (x : List ℕ). w ∷ kind_number k ∷ record_of j x (drop (i + 1) ws)) (sym made.kind_is) (sym made.table_is)
        ∙ ap (λ (x : ℕ). x ∷ kind_number kind ∷ record_of j u (drop (i + 1) ws)) named) in
        record { same_buffer = p.same_buffer ∙ o.same_buffer; onward = onward_more fits o.onward (get_or ws i 0 ∷ kind_number kind ∷ []) (record_of j u (drop (i + 1) ws)) c.buf.now c.at rest p.put }

    pub noted_all : length ws ≤ i → b.buf.now ≡ record_of j t₀ ws ++ drop (2 * length ws) buf
    unfolding record_of wrote
    noted_all e =
        let none : record_of j t (drop i ws) ≡ [] = ap (record_of j t) (drop_of_length-le ws e) in
        let n : 0 + length (record_of j t₀ ws) ≡ 2 * length ws = omega (arith, record-length j ws t₀) in
        (onward_end o.onward none).bytes
        ∙ ap₂ (λ (l : List ℕ) (k : ℕ). wrote l k (record_of j t₀ ws)) same zero
        ∙ ap (λ (x : ℕ). record_of j t₀ ws ++ drop x buf) n

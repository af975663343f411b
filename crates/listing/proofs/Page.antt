-- The headings, and the whole text of a listing. Assumes nothing.
--   heading_written   a heading, by its parts
--   whole_written     the text, by its headings and lines
--   listed_by         the text of a job, by the table and the tally that its turns left
use Prim.Native.Nat.{ℕ, ◌+◌, ◌*◌, ◌≤◌, ◌<◌}
use mathlib.Core.Path.{◌≡◌, sym, ◌∙◌, ap, ap₂}
use mathlib.Core.List.{List, [], ◌∷◌, ◌++◌, flat_map}
use native.Mathlib.Omega.{arith}
use lib.ListN.{length, replicate}
use Rattle.base.specs.Lists.{upto}
use Rattle.writing.specs.Decimal.{decimal}
use Rattle.writing.specs.Writes.{Writes, HasRoom}
use Rattle.writing.specs.declared.writer.Writer.{Writer}
use Rattle.writing.proofs.Decimal.{length-room}
use Rattle.job.specs.Job.{Job}
use Rattle.job.specs.Accepted.{WellFormed}
use Rattle.job.specs.Format.{claims, questions, job_of}
use Rattle.job.proofs.Written.{questions_count}
use Rattle.table.specs.Layout.{used}
use Rattle.table.specs.Start.{start_words}
use Rattle.turn.specs.Turn.{run_table, run_kinds}
use Rattle.calls.specs.Calls.{tally}
use Rattle.listing.specs.Text.{line_end, claims_word, questions_word}
use Rattle.listing.specs.Listing.{claim_line, question_lines, tally_line, heading, text_of, played, last_table, listed}
use Rattle.listing.proofs.Runs.{Run, run-start, run_more}

module _ {a b₁ b₂ b₃ : Writer} where
  pub heading_written :
      {word : List ℕ} {n : ℕ} → length word ≤ 10 → HasRoom a 31 → n < 18446744073709551616 → Writes a b₁ word
      → Writes b₁ b₂ (decimal n) → Writes b₂ b₃ (line_end ∷ []) → Writes a b₃ (heading word n) × (b₃.at ≤ a.at + 31)
  heading_written {word = word} {n = n} w h l p₁ p₂ p₃ =
      let q₁ : Run a 10 word b₁ = run-start 10 w p₁ in
      let q₂ : Run a 30 (word ++ decimal n) b₂ = run_more 20 (omega arith) (length-room n l) q₁ p₂ in
      let q₃ : Run a 31 (heading word n) b₃ = run_more 1 (omega arith) (omega arith) q₂ p₃ in
      (q₃.writes, omega arith)

module _ (s t ns : List ℕ) (good : WellFormed s) {o b₁ b₂ b₃ b₄ b₅ : Writer} {a q : ℕ} where
  pub whole_written :
      a ≡ claims s → q ≡ questions s → HasRoom o 196608
      → Writes o b₁ (heading claims_word a) × (b₁.at ≤ o.at + 31)
      → Writes b₁ b₂ (flat_map (claim_line t) (upto a)) × (b₂.at ≤ b₁.at + 31 * a)
      → Writes b₂ b₃ (heading questions_word q) × (b₃.at ≤ b₂.at + 31)
      → Writes b₃ b₄ (question_lines (job_of s) t 0 (job_of s).questions) × (b₄.at ≤ b₃.at + 52 * questions s)
      → Writes b₄ b₅ (tally_line ns)
      → Writes o b₅ (text_of (job_of s) t ns)
  unfolding text_of job_of
  whole_written is_a is_q room p₁ p₂ p₃ p₄ p₅ =
      let x₁ : List ℕ = heading claims_word a in
      let x₂ : List ℕ = flat_map (claim_line t) (upto a) in
      let x₃ : List ℕ = heading questions_word q in
      let x₄ : List ℕ = question_lines (job_of s) t 0 (job_of s).questions in
      let q₁ : Run o 31 x₁ b₁ = run-start 31 (omega arith) p₁.0 in
      let q₂ : Run o (31 + 31 * a) (x₁ ++ x₂) b₂ = run_more (31 * a) (omega arith) (omega arith) q₁ p₂.0 in
      let q₃ : Run o (31 + 31 * a + 31) (x₁ ++ x₂ ++ x₃) b₃ = run_more 31 (omega arith) (omega arith) q₂ p₃.0 in
      let q₄ : Run o (31 + 31 * a + 31 + 52 * questions s) (x₁ ++ x₂ ++ x₃ ++ x₄) b₄ =
      run_more (52 * questions s) (omega arith) (omega arith) q₃ p₄.0 in
      let q₅ : Run o (31 + 31 * a + 31 + 52 * questions s + length (tally_line ns)) (x₁ ++ x₂ ++ x₃ ++ x₄ ++ tally_line ns) b₅ =
      run_more (length (tally_line ns)) (omega arith) (omega arith) q₄ p₅ in
      let e : q ≡ length (job_of s).questions = is_q ∙ sym (questions_count s) in
      rw (is_a, e) at q₅.writes

pub listed_by :
    (j : Job) (ws : List ℕ) {t₀ t ns : List ℕ} {a b : Writer} → t₀ ≡ replicate (used j) 0
    → ns ≡ tally (run_kinds j (start_words j t₀) (played j (start_words j t₀) ws)) → t ≡ run_table j (start_words j t₀) (played j (start_words j t₀) ws)
    → Writes a b (text_of j t ns) → Writes a b (listed j ws)
unfolding listed last_table
listed_by j ws {t₀ = t₀} {t = t} {ns = ns} z n m p =
    let e : text_of j t ns ≡ listed j ws =
    ap₂ (text_of j) m n
    ∙ ap (λ (u : List ℕ). text_of j (run_table j (start_words j u) (played j (start_words j u) ws)) (tally (run_kinds j (start_words j u) (played j (start_words j u) ws)))) z in
    rw e at p

-- Demand 2 on the turns: marks of complete claims and answers of questions are the verdicts of the job's model. Assumes nothing.
--   Verdicts j t      every complete claim's mark is its verdict's; an answered question's claim is complete and its word the verdict's
--                     byte, and any other question's word is 0
--   completed-right   on such a table a completed claim gets its verdict's mark, by Exchange (semantics/specs/Theorems)
use mathlib.Core.Path.{◌≡◌, sym, ◌∙◌, ap, ap₂}
use mathlib.Core.Logic.{by_cases}
use mathlib.Core.List.{List}
use mathlib.Core.Option.{none, some}
use Prim.Native.Nat.{ℕ, ◌≤◌, ◌<◌}
use native.Mathlib.Omega.{arith}
use native.Mathlib.Nat.{zero-add}
use native.Mathlib.Decide.{dec_lt, dec_le}
use lib.ListN.{length, get_or, get_or-eq_default}
use Rattle.base.specs.Sets.{Claims}
use Rattle.base.specs.Span.{span}
use Rattle.base.proofs.Span.{length-span, get_d-span}
use Rattle.job.specs.Job.{Job}
use Rattle.semantics.specs.Model.{program_of, Verdict, judge, verdict, byte_of, verdict_of, known_of}
use Rattle.semantics.specs.Theorems.{Right}
use Rattle.semantics.proofs.Theorems as M
use Rattle.table.specs.Questions.{asked_by, question_claim}
use Rattle.table.specs.Layout as W
use Rattle.turn.specs.Turn.{completed_mark}

-- the word of w's question i
abbrev pub answer_to : Job → List ℕ → ℕ → ℕ → ℕ
answer_to j t w i = get_or t (W.answer_word j (get_or (asked_by j w) i 0)) 0

abbrev pub verdict_in : Job → ℕ → Verdict
verdict_in j c = verdict (program_of j) c

pub record Verdicts (j : Job) (t : List ℕ) : Type 0 where
  pub marks : (c : ℕ) → c < j.claims → W.true_mark ≤ W.mark t c → W.mark t c ≡ W.mark_of (verdict_in j c)
  pub met : (w i : ℕ) → w < j.workers → i < W.answered j t w → W.true_mark ≤ W.mark t (question_claim j w i)
  pub words : (w i : ℕ) → w < j.workers → i < W.answered j t w → answer_to j t w i ≡ byte_of (verdict_in j (question_claim j w i))
  pub blank : (w i : ℕ) → w < j.workers → W.answered j t w ≤ i → i < length (asked_by j w) → answer_to j t w i ≡ 0

-- the verdicts that a table's marks show are the model's, so completing gives the model's
module _ {j : Job} {t : List ℕ} (G : Verdicts j t) where
  shown : (c : ℕ) → c < j.claims → known_of (W.values j t) c ≡ verdict_of (W.value_of (W.mark t c))
  unfolding known_of W.values
  shown c h =
      ap verdict_of (get_d-span (λ c. W.value_of (W.mark t c)) 0 j.claims c 0 h ∙ ap (λ (k : ℕ). W.value_of (W.mark t k)) (zero-add c))

  hidden : (c : ℕ) → (c < j.claims → ⊥) → known_of (W.values j t) c ≡ none
  unfolding known_of W.values
  hidden c n =
      ap verdict_of (get_or-eq_default (span (λ c. W.value_of (W.mark t c)) 0 j.claims) 0 (omega (arith, length-span (λ c. W.value_of (W.mark t c)) 0 j.claims)))
      ∙ (M.known_bytes).unknown

  right : Right (known_of (W.values j t)) (program_of j)
  unfolding Right
  right c v e =
      by_cases (dec_lt c j.claims)
      (λ h.
      by_cases (dec_le W.true_mark (W.mark t c))
      (λ d.
      let q : W.value_of (W.mark t c) ≡ byte_of (verdict_in j c) = omega (arith, G.marks c h d) in
      same (sym e ∙ shown c h ∙ ap verdict_of q ∙ (M.known_bytes).back (verdict_in j c)))
      (λ d.
      let q : W.value_of (W.mark t c) ≡ 0 = omega arith in
      absurd (nothing (sym e ∙ shown c h ∙ ap verdict_of q ∙ (M.known_bytes).unknown))))
      (λ h. absurd (nothing (sym e ∙ hidden c h)))
    where
      same : {v u : Verdict} → some v ≡ some u → v ≡ u
      same e = cc

      nothing : {v : Verdict} → some v ≡ none → ⊥
      nothing e = let z : ◌≡◌ {A = ℕ} 0 1 = cc in absurd (omega arith)

  pub completed-right : (c : ℕ) → completed_mark j t c ≡ W.mark_of (verdict_in j c)
  unfolding completed_mark verdict
  completed-right c =
      let E = M.same_model (program_of j) in
      let known = known_of (W.values j t) in
      ap W.mark_of (ap₂ judge (ap (λ (S : Claims). S c) (E.same_k known right)) (ap (λ (S : Claims). S c) (E.same_u known right)))

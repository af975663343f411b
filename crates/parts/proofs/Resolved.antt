-- Literals of complete claims, in the model of a job in which each complete claim has its rules exchanged by its value. Assumes nothing.
--   value-at                    a claim's value by its mark
--   none-known                  a claim that is not complete has no known verdict
--   false-literal, open-literal a literal that is false, or undefined, by its claim's mark
--   settled-literal             one that is not false is true, or undefined
use Prim.Native.Nat.{ℕ, ◌+◌, ◌<◌, ◌≤◌}
use mathlib.Core.Path.{◌≡◌, ◌∙◌, ap}
use mathlib.Core.Bool.{not}
use mathlib.Core.List.{List}
use mathlib.Core.Logic.{◌⊎◌, inl, inr, by_cases}
use mathlib.Core.Option.{Option, none, some}
use native.Mathlib.Omega.{arith}
use native.Mathlib.Decide.{ℕ_discrete, dec_lt}
use lib.Dec.{T, T_not, eqb, leb→le, le→leb, eqb→eq}
use borrow.Author.Tests.{eq-eqb}
use lib.ListN.{length, get_or}
use Rattle.base.proofs.Bools.{is}
use Rattle.base.proofs.Span.{length-span, get_d-span}
use Rattle.job.specs.Job.{Job, claim_of}
use Rattle.job.specs.declared.Literal.{Literal}
use Rattle.job.specs.declared.Literal.TheVariants.{Plain, Negated}
use Rattle.semantics.specs.Model.{Program, program, program_of, Verdict, True, False, Undefined, verdict, opposite, literal_verdict, exchange, known_of}
use Rattle.semantics.proofs.Known.{verdict_none, verdict-true, verdict-false, verdict-undefined, known_past}
use Rattle.semantics.proofs.RelevanceCovered.{exchanged-verdict}
use Rattle.table.specs.Layout.{mark, complete, value_of, values, true_mark, false_mark, undefined_mark}
use Rattle.table.specs.Literals.{failed}

module _ (j : Job) (t : List ℕ) where
  abbrev known : ℕ → Option Verdict
  known = known_of (values j t)

  value-at : (c : ℕ) → c < j.claims → get_or (values j t) c 0 ≡ value_of (mark t c)
  unfolding values
  value-at c h =
      let e : 0 + c ≡ c = omega arith in
      get_d-span (λ d. value_of (mark t d)) 0 j.claims c 0 h ∙ ap (λ (d : ℕ). value_of (mark t d)) e

  values_length : length (values j t) ≡ j.claims
  unfolding values
  values_length = length-span (λ d. value_of (mark t d)) 0 j.claims

  pub none-known : (c : ℕ) → T (not (complete t c)) → known c ≡ none
  unfolding known_of
  none-known c n =
      let low : true_mark ≤ mark t c → ⊥ = λ g. T_not (complete t c) n (le→leb true_mark (mark t c) g) in
      by_cases (dec_lt c j.claims)
      (λ h. verdict_none (get_or (values j t) c 0) (omega (arith, value-at c h)))
      (λ h. known_past (values j t) c (omega (arith, values_length)))

  module _ (c : ℕ) (h : c < j.claims) where
    abbrev P : Program
    P = exchange known (program_of j)

    has : (v : Verdict) → known c ≡ some v → verdict P c ≡ v
    unfolding program
    has v e = exchanged-verdict (program_of j) known c h v e

    true-claim : mark t c ≡ true_mark → verdict P c ≡ True
    unfolding known_of
    true-claim e = has True (verdict-true (get_or (values j t) c 0) (omega (arith, value-at c h)))

    false-claim : mark t c ≡ false_mark → verdict P c ≡ False
    unfolding known_of
    false-claim e = has False (verdict-false (get_or (values j t) c 0) (omega (arith, value-at c h)))

    open-claim : mark t c ≡ undefined_mark → verdict P c ≡ Undefined
    unfolding known_of
    open-claim e =
        has Undefined
        (verdict-undefined (get_or (values j t) c 0) (λ q. omega (arith, value-at c h)) (λ q. omega (arith, value-at c h)) (λ q. omega (arith, value-at c h)))

  pub false-literal : (l : Literal) → claim_of l < j.claims → T (failed t l) → literal_verdict (exchange known (program_of j)) l ≡ False
  unfolding failed
  false-literal (Plain c) h f = false-claim c h (eqb→eq (mark t c) false_mark f)
  false-literal (Negated c) h f = ap opposite (true-claim c h (eqb→eq (mark t c) true_mark f))

  pub open-literal : (l : Literal) → claim_of l < j.claims → mark t (claim_of l) ≡ undefined_mark → literal_verdict (exchange known (program_of j)) l ≡ Undefined
  open-literal (Plain c) h e = open-claim c h e
  open-literal (Negated c) h e = ap opposite (open-claim c h e)

  -- a literal of a complete claim that is not false
  pub settled-literal :
      (l : Literal) → claim_of l < j.claims → T (complete t (claim_of l)) → mark t (claim_of l) ≤ undefined_mark → (T (failed t l) → ⊥)
      → (literal_verdict (exchange known (program_of j)) l ≡ True) ⊎ (mark t (claim_of l) ≡ undefined_mark)
  unfolding failed
  settled-literal (Plain c) h d u n =
      by_cases (ℕ_discrete (mark t c) undefined_mark) (λ e. inr e)
      (λ k.
      let low : true_mark ≤ mark t c = leb→le true_mark (mark t c) d in
      let not-false : mark t c ≡ false_mark → ⊥ = λ e. n (is (eqb (mark t c) false_mark) (eq-eqb (mark t c) false_mark e)) in
      inl (true-claim c h (omega arith)))
  settled-literal (Negated c) h d u n =
      by_cases (ℕ_discrete (mark t c) undefined_mark) (λ e. inr e)
      (λ k.
      let low : true_mark ≤ mark t c = leb→le true_mark (mark t c) d in
      let not-true : mark t c ≡ true_mark → ⊥ = λ e. n (is (eqb (mark t c) true_mark) (eq-eqb (mark t c) true_mark e)) in
      inl (ap opposite (false-claim c h (omega arith))))

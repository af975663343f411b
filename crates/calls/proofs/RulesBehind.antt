-- Of the literals of complete claims' rules, those whose claims aren't complete stand behind a complete false one: by places (Behind) and by rules
-- (OthersBehind). Assumes nothing.
--   failed-false, false-failed   what fails in a table that turns made is complete and false in the model
--   stands-behind                from places to rules;    on-literals   the clause `literals` of Promise
use mathlib.Core.Path.{◌≡◌, refl, sym, ◌∙◌, ap, subst}
use mathlib.Core.Logic.{by_cases}
use mathlib.Core.List.{List, ◌∷◌, ◌++◌}
use Prim.Native.Nat.{ℕ, suc, ◌+◌, ◌-◌, ◌≤◌, ◌<◌}
use native.Mathlib.Omega.{arith}
use native.Mathlib.Decide.{dec_lt}
use lib.Dec.{T, eqb→eq}
use lib.ListN.{length, get_or, length-append, get_or-append}
use lib.Seq.{get_or-append_seam}
use Rattle.job.specs.Job.{Job, Rule, claim_of, literals_of}
use Rattle.job.specs.Format.{job_of}
use Rattle.job.specs.Encoding.{Valid}
use Rattle.job.specs.Checks.{check_job}
use Rattle.job.specs.Check.{Accepted}
use Rattle.job.specs.declared.Literal.{Literal}
use Rattle.job.specs.declared.Literal.TheVariants.{Plain, Negated}
use Rattle.job.proofs.RuleEnds.{RuleAt, rule-at}
use Rattle.semantics.specs.Model.{Verdict, True, False, Undefined, opposite, program_of, literal_verdict, byte_of}
use Rattle.table.specs.Layout as W
use Rattle.turn.specs.Turn.{lits, lit_at}
use Rattle.table.specs.Literals.{failed}
use Rattle.calls.specs.Lists.{Call, Complete}
use Rattle.calls.specs.Promise.{Fresh, from, FalseAmong, OthersBehind}
use Rattle.table.proofs.Failing.{failed_done}
use Rattle.turn.proofs.AtPlaces.{member}
use Rattle.turn.proofs.Tests.{is_eq}
use Rattle.turn.proofs.Jobs.{JobOk, lits-length, valid_ok}
use Rattle.turn.proofs.Behind.{Behind, claim_lit}
use Rattle.steps.proofs.Verdicts.{verdict_in}
use Rattle.steps.proofs.Runs.{Made}
use Rattle.steps.proofs.OnTurns.{else-behind}
use Rattle.calls.proofs.Answers.{complete-mark, mark-complete}
use Rattle.calls.proofs.OnLists.{valid, made_after}

true-false : True ≡ False → ⊥
true-false e = let z : ◌≡◌ {A = ℕ} 0 1 = cc in absurd (omega arith)

undefined-false : Undefined ≡ False → ⊥
undefined-false e = let z : ◌≡◌ {A = ℕ} 0 1 = cc in absurd (omega arith)

-- in any table that turns made
module _ (j : Job) (v : Valid j) (t : List ℕ) (M : Made j t) where
  abbrev J : JobOk j
  J = valid_ok j v

  by_byte : (u : Verdict) → byte_of u ≡ 2 → u ≡ False
  by_byte True e = absurd (omega arith)
  by_byte False e = refl
  by_byte Undefined e = absurd (omega arith)

  by_one : (u : Verdict) → byte_of u ≡ 1 → opposite u ≡ False
  by_one True e = refl
  by_one False e = absurd (omega arith)
  by_one Undefined e = absurd (omega arith)

  -- a literal that fails is false in the model
  failed-false : (l : Literal) → claim_of l < j.claims → T (failed t l) → literal_verdict (program_of j) l ≡ False
  unfolding failed
  failed-false (Plain c) h f =
      let e = eqb→eq (W.mark t c) W.false_mark f in
      by_byte (verdict_in j c) (omega (arith, M.verdicts.marks c h (omega arith)))
  failed-false (Negated c) h f =
      let e = eqb→eq (W.mark t c) W.true_mark f in
      by_one (verdict_in j c) (omega (arith, M.verdicts.marks c h (omega arith)))

  -- and a complete literal that is false in the model fails
  by-opposite : (u : Verdict) → opposite u ≡ False → byte_of u ≡ 1
  by-opposite True e = refl
  by-opposite False e = absurd (true-false e)
  by-opposite Undefined e = absurd (undefined-false e)

  pub false-failed : (l : Literal) → claim_of l < j.claims → Complete t (claim_of l) → literal_verdict (program_of j) l ≡ False → T (failed t l)
  unfolding failed
  false-failed (Plain c) h d e =
      is_eq (W.mark t c) W.false_mark (omega (arith, ap byte_of e, M.verdicts.marks c h (complete-mark J M c h d)))
  false-failed (Negated c) h d e =
      is_eq (W.mark t c) W.true_mark (omega (arith, by-opposite (verdict_in j c) e, M.verdicts.marks c h (complete-mark J M c h d)))

  -- literal k of rule r, which stands at p among its head's, and one of the rule before it that fails
  module _ (r : Rule) (p : RuleAt r.head j.rules r) (before : List Literal) (l : Literal) (rest : List Literal) (e : r.body ≡ before ++ (l ∷ rest)) where
    sized : length r.body ≡ length before + suc (length rest)
    sized = ap length e ∙ length-append before (l ∷ rest)

    its : lit_at j r.head (p.from + length before) ≡ l
    unfolding lit_at
    its =
        p.literal (length before) (omega (arith, sized))
        ∙ (ap (λ (ls : List Literal). get_or ls (length before) (Plain 0)) e ∙ get_or-append_seam before l rest (Plain 0))

    module _ (b : Behind j t r.head (p.from + length before)) where
      not-before : p.from ≤ b.at
      not-before = by_cases (dec_lt b.at p.from) (λ h. absurd (omega (arith, p.before b.at h, b.within))) (λ h. omega arith)

      in-rule : lit_at j r.head b.at ≡ get_or before (b.at - p.from) (Plain 0)
      unfolding lit_at
      in-rule =
          let z : p.from + (b.at - p.from) ≡ b.at = omega (arith, not-before) in
          ap (λ (i : ℕ). get_or (literals_of r.head j.rules) i (Plain 0)) (sym z)
          ∙ (p.literal (b.at - p.from) (omega (arith, b.before, sized, not-before))
          ∙ (ap (λ (ls : List Literal). get_or ls (b.at - p.from) (Plain 0)) e
          ∙ get_or-append before (l ∷ rest) (Plain 0) (b.at - p.from) (omega (arith, b.before, not-before))))

      among : FalseAmong j t before
      among =
          let x = get_or before (b.at - p.from) (Plain 0) in
          let f : T (failed t (get_or before (b.at - p.from) (Plain 0))) = subst (λ (y : Literal). T (failed t y)) in-rule b.fails in
          let low : claim_of (get_or before (b.at - p.from) (Plain 0)) < j.claims =
          subst (λ (y : ℕ). y < j.claims) (claim_lit j r.head b.at ∙ ap claim_of in-rule)
          (J.literal r.head b.at (omega (arith, b.before, p.most, sized, lits-length j r.head))) in
          record {
            literal = x;
            is = member before (Plain 0) (b.at - p.from) (omega (arith, b.before, not-before));
            complete = mark-complete J M (claim_of x) low (failed_done t x f);
            false = failed-false x low f;
          }

  pub stands-behind : OthersBehind j t
  stands-behind r i d before l rest e n =
      let c = r.head in
      let p = rule-at r.head j.rules r i refl in
      let k = p.from + length before in
      let low : p.from + length before < length (lits j r.head) = omega (arith, p.most, sized r p before l rest e, lits-length j r.head) in
      let is : get_or (lits j r.head) (p.from + length before) 0 ≡ claim_of l = claim_lit j r.head (p.from + length before) ∙ ap claim_of (its r p before l rest e) in
      among r p before l rest e
      (else-behind j J t M c (v.heads r i) (complete-mark J M c (v.heads r i) d) k low
      (λ m. n (subst (Complete t) is (mark-complete J M (get_or (lits j c) k 0) (J.literal c k low) m))))

pub on-literals : (s : List ℕ) (e : Accepted ≡ check_job s) (t : List ℕ) → Fresh s t → (xs : List Call) → OthersBehind (job_of s) (from s t xs)
on-literals s e t room xs = stands-behind (job_of s) (valid s e) (from s t xs) (made_after s e t room xs)

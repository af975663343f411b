-- What a turn opens a claim for: the worker's next question, or a literal of its own that stands behind no complete false one (02, order 5). Assumes nothing.
--   Place, place_of   members of a list by their places;    Split, split   a list by one of its members
--   literal-opened    what C opens a claim for
--   turn-opened       what any turn does;    on-opened   the clause `opened` of Promise
use mathlib.Core.Path.{◌≡◌, refl, sym, ◌∙◌, ap, subst}
use mathlib.Core.Logic.{by_cases, ⊎_elim}
use mathlib.Core.List.Memᴰ
use mathlib.Core.List.{List, [], ◌∷◌, ◌++◌}
use Prim.Native.Nat.{ℕ, zero, suc, ◌+◌, ◌-◌, ◌<◌}
use native.Mathlib.Omega.{arith}
use native.Mathlib.Decide.{ℕ_discrete}
use lib.Dec.{T}
use lib.ListN.{length, get_or, length-append, get_or-append}
use lib.Seq.{get_or-append_seam}
use Rattle.job.specs.Job.{Job, claim_of, literals_of}
use Rattle.job.specs.Format.{job_of}
use Rattle.job.specs.Encoding.{◌∈◌, Valid}
use Rattle.job.specs.Checks.{check_job}
use Rattle.job.specs.Check.{Accepted}
use Rattle.job.specs.declared.Literal.{Literal}
use Rattle.job.specs.declared.Literal.TheVariants.{Plain}
use Rattle.job.proofs.RuleEnds.{Holding, rule_holding}
use Rattle.table.specs.Layout as W
use Rattle.table.proofs.Keeping.{with-mark}
use Rattle.turn.specs.Turn.{Turned, lit_at, skip_end, reached, completed_mark, base_turn, turn}
use Rattle.table.specs.Literals.{failed}
use Rattle.calls.specs.Lists.{Call}
use Rattle.calls.specs.Promise.{Fresh, from, FalseAmong, OpenedFor, question, literal}
use Rattle.turn.proofs.Jobs.{JobOk, lits-length, valid_ok}
use Rattle.turn.proofs.Behind.{Behind, claim_lit}
use Rattle.turn.proofs.Leading.{in-low}
use Rattle.turn.proofs.Cases as K
use Rattle.turn.proofs.Cases.{AtQuestion, AtLeft, moved, taken, asked, Clear, Case, wakes, sleeps, rests, answers, opens-asked, waits_asked, completes, sticks, passes, skips, opens, takes, waits, turn-case}
use Rattle.turn.proofs.Words as X
use Rattle.turn.proofs.Range.{c-room}
use Rattle.steps.proofs.Takeover.{taken_in}
use Rattle.steps.proofs.Runs.{Made}
use Rattle.calls.proofs.RulesBehind.{false-failed}
use Rattle.calls.proofs.OnLists.{valid, made_after}

record Place {A : Type 0} (l : List A) (d y : A) : Type 0 where
  at : ℕ
  real : at < length l
  is : get_or l at d ≡ y

place_of : {A : Type 0} (l : List A) (d y : A) → y ∈ l → Place l d y
place_of [] d y i = absurd (Memᴰ.not-nil i)
place_of (x ∷ l) d y i =
    ⊎_elim (λ e. record { at = 0; real = omega arith; is = sym e })
    (λ m. let k = place_of l d y m in record { at = suc k.at; real = omega (arith, k.real); is = k.is }) (Memᴰ.cases_cons i)

record Split {A : Type 0} (l : List A) (i : ℕ) : Type 0 where
  before : List A
  one : A
  rest : List A
  is : l ≡ before ++ (one ∷ rest)
  long : length before ≡ i

split : {A : Type 0} (l : List A) (i : ℕ) → i < length l → Split l i
split [] i h = absurd (omega arith)
split (x ∷ l) zero h = record { before = []; one = x; rest = l; is = refl; long = refl }
split (x ∷ l) (suc i) h =
    let p = split l i (omega arith) in
    record { before = x ∷ p.before; one = p.one; rest = p.rest; is = ap (λ y. x ∷ y) p.is; long = omega (arith, p.long) }

module _ (j : Job) (v : Valid j) (t : List ℕ) (M : Made j t) where
  abbrev J : JobOk j
  J = valid_ok j v

  -- c's literal k, which stands behind none
  module _ (c k : ℕ) (l : k < length (literals_of c j.rules)) (clear : Behind j t c k → ⊥) where
    rule : Holding c j.rules k
    rule = rule_holding c j.rules k l

    i : ℕ
    i = k - rule.at.from

    here : rule.at.from + i ≡ k
    unfolding i
    here = omega (arith, rule.from)

    parts : Split rule.rule.body i
    unfolding i
    parts = split rule.rule.body (k - rule.at.from) (omega (arith, rule.from, rule.to))

    -- the rule's literal at a place is c's
    its : (n : ℕ) → n < length rule.rule.body → lit_at j c (rule.at.from + n) ≡ get_or (parts.before ++ (parts.one ∷ parts.rest)) n (Plain 0)
    unfolding lit_at
    its n h = rule.at.literal n h ∙ ap (λ (ls : List Literal). get_or ls n (Plain 0)) parts.is

    size : length rule.rule.body ≡ i + suc (length parts.rest)
    size = ap length parts.is ∙ (length-append parts.before (parts.one ∷ parts.rest) ∙ ap (λ (n : ℕ). n + suc (length parts.rest)) parts.long)

    none-false : FalseAmong j t parts.before → ⊥
    none-false f =
        let p = place_of parts.before (Plain 0) f.literal f.is in
        let q : lit_at j c (rule.at.from + p.at) ≡ f.literal =
        its p.at (omega (arith, p.real, parts.long, size))
        ∙ (get_or-append parts.before (parts.one ∷ parts.rest) (Plain 0) p.at p.real ∙ p.is) in
        let low : claim_of f.literal < j.claims =
        subst (λ (x : ℕ). x < j.claims) (claim_lit j c (rule.at.from + p.at) ∙ ap claim_of q)
        (J.literal c (rule.at.from + p.at) (omega (arith, p.real, parts.long, here, l, lits-length j c))) in
        clear
        (record {
          at = rule.at.from + p.at;
          before = omega (arith, p.real, parts.long, here);
          fails = subst (λ (x : Literal). T (failed t x)) (sym q) (false-failed j v t M f.literal low f.complete f.false);
          within = omega (arith, rule.at.end p.at (omega (arith, p.real, parts.long, size)), rule.to);
        })

    pub opened-literal : (w : ℕ) → W.mark t c ≡ w + 1 → OpenedFor j t w (claim_of (lit_at j c k))
    opened-literal w own =
        let e : lit_at j c k ≡ parts.one =
        ap (lit_at j c) (sym here)
        ∙ (its i (omega (arith, size))
        ∙ (ap (λ (n : ℕ). get_or (parts.before ++ (parts.one ∷ parts.rest)) n (Plain 0)) (sym parts.long) ∙ get_or-append_seam parts.before parts.one parts.rest (Plain 0))) in
        literal rule.rule rule.is (ap (W.mark t) rule.headed ∙ own) parts.before parts.one parts.rest parts.is (ap claim_of (sym e)) none-false

  module _ (w : ℕ) (small : w < j.workers) where
    literal-opened : {n c : ℕ} → AtLeft j t w n c → Clear j t c → OpenedFor j t w (K.literal j t c)
    literal-opened {n} {c} a f =
        subst (OpenedFor j t w) (sym (claim_lit j c (W.cursor t c)))
        (opened-literal c (W.cursor t c) (omega (arith, c-room J M.range small a, lits-length j c)) f w a.its)

    question-opened : AtQuestion j t w → OpenedFor j t w (asked j t w)
    question-opened a = question a.more refl

    -- b was fresh and is not
    module _ (b : ℕ) (h : b < j.claims) (z : W.mark t b ≡ 0) where
      same : {m : ℕ} → m ≡ W.mark t b → (m ≡ 0 → ⊥) → OpenedFor j t w b
      same e n = absurd (n (e ∙ z))

      case-opened : (r : Turned) → Case j t w r → (W.mark r.table b ≡ 0 → ⊥) → OpenedFor j t w b
      case-opened r (wakes x y) = same (X.await-mark j t w 0 b h)
      case-opened r (sleeps x y) = same refl
      case-opened r (rests x y c) = same refl
      case-opened r (answers x y) = same (X.stored-word j t w small (W.mark_word b) (omega arith) (λ e. omega arith))
      case-opened r (opens-asked x y) =
          by_cases (ℕ_discrete b (asked j t w)) (λ e n. subst (OpenedFor j t w) (sym e) (question-opened x)) (λ e. same (X.open-marks t w (asked j t w) b e))
      case-opened r (waits_asked x y c) = same (X.await-mark j t w (asked j t w + 1) b h)
      case-opened r (completes {n = n} x y) =
          same (X.marks_out j (completed_mark j t) (reached j t n) t (λ c i. in-low j J t c x.low i) b (λ i. omega (arith, (y b i).0)))
      case-opened r (sticks x y c) = same refl
      case-opened r (passes {c = c} x y f) = same (X.cursor-mark j t c (W.cursor t c + 1) b)
      case-opened r (skips {c = c} x y) = same (X.cursor-mark j t c (skip_end j t c) b)
      case-opened r (opens {c = c} x y f) =
          by_cases (ℕ_discrete b (K.literal j t c)) (λ e n. subst (OpenedFor j t w) (sym e) (literal-opened x f))
          (λ e. same (X.open-marks (moved t c) w (K.literal j t c) b e ∙ X.cursor-mark j t c (W.cursor t c + 1) b))
      case-opened r (takes {c = c} x y m f) =
          same
          (X.marks_out j (λ d. w + 1) (taken j t c) (moved t c) (λ d i. (taken_in j J t M.range w small x d i).low) b (λ i. (taken_in j J t M.range w small x b i).begun z)
          ∙ X.cursor-mark j t c (W.cursor t c + 1) b)
      case-opened r (waits {c = c} x y m f) = same (X.await-mark j (moved t c) w (K.literal j t c + 1) b h ∙ X.cursor-mark j t c (W.cursor t c + 1) b)

      pub turn-opened : (W.mark (turn j t w).table b ≡ 0 → ⊥) → OpenedFor j t w b
      unfolding turn
      turn-opened n =
          case-opened (base_turn j t w) (turn-case j t w) (λ e. n (with-mark j.claims (base_turn j t w).table j.workers b h ∙ e))

pub on-opened : (s : List ℕ) (e : Accepted ≡ check_job s) (t : List ℕ) (room : Fresh s t) (xs : List Call) (w b : ℕ) → w < (job_of s).workers → b < (job_of s).claims → W.mark (from s t xs) b ≡ 0 → (W.mark (turn (job_of s) (from s t xs) w).table b ≡ 0 → ⊥) → OpenedFor (job_of s) (from s t xs) w b
on-opened s e t room xs w b small h z = turn-opened (job_of s) (valid s e) (from s t xs) (made_after s e t room xs) w small b h z

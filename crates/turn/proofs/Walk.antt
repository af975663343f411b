-- A walk over the literals that a claim has passed, past the end of each rule that has failed (02, order 5). Assumes nothing.
--   onward_more, _end   each step moves on, and keeps the end
--   met_first, met_none   the claims met, one by one
--   lit_is, end_is   the job's literal a + i is c's literal i, and the index has its rule's end
--   met_in, in-met   whose claims are met: of literals that stand behind none
--   onward-yes, onward-no   by the tests that the code makes
use Prim.Native.Nat.{ℕ, zero, suc, ◌+◌, ◌-◌, ◌≤◌, ◌<◌}
use mathlib.Core.Path.{◌≡◌, refl, sym, ◌∙◌, ap, subst}
use mathlib.Core.Logic.{by_cases}
use mathlib.Core.List.{List, [], ◌∷◌}
use mathlib.Core.Bool.{Bool, true, false}
use native.Mathlib.Omega.{arith}
use native.Mathlib.Decide.{ℕ_discrete, dec_lt}
use lib.Dec.{T, leb, leb→le, le→leb}
use lib.ListN.{length, get_or}
use Rattle.base.proofs.Bools.{is, is-not}
use Rattle.base.proofs.Choose.{t?, pick_elim, pick_yes, pick_no}
use Rattle.base.proofs.Lists.{In, in_head, in_tail, InCons, first, later, in-cases, in-nil}
use Rattle.base.proofs.Span.{get_d-span}
use Rattle.job.specs.Job.{Job, claim_of, rule_end}
use Rattle.job.specs.Format.{rules, literal_at, job_of}
use Rattle.job.specs.Accepted.{WellFormed}
use Rattle.job.specs.Claims.{claim_start, Index, end_in, moved, past_rule}
use Rattle.job.specs.declared.Literal.{Literal}
use Rattle.job.specs.declared.Literal.TheVariants.{Plain}
use Rattle.job.specs.declared.Cursor.{Cursor}
use Rattle.job.proofs.Contiguous.{claim-literals}
use Rattle.job.proofs.RuleEnds.{end_same, end_more}
use Rattle.job.proofs.IndexEnds.{end-in}
use Rattle.turn.specs.Turn.{lits, lit_at}
use Rattle.table.specs.Literals.{failed}
use Rattle.turn.specs.Gather.{onward, met_from, met}
use Rattle.turn.proofs.Jobs.{lits-length}
use Rattle.turn.proofs.Behind.{claim_lit, Behind}

-- one step
module _ (index t : List ℕ) (l : Literal) (c : Cursor) where
  onward-failed : T (failed t l) → onward index t l c ≡ past_rule index c
  unfolding onward
  onward-failed h = pick_yes (failed t l) (past_rule index c) (moved c) h

  onward-holds : (T (failed t l) → ⊥) → onward index t l c ≡ moved c
  unfolding onward
  onward-holds h = pick_no (failed t l) (past_rule index c) (moved c) h

  pub onward_end : (onward index t l c).end ≡ c.end
  unfolding onward
  onward_end = pick_elim (λ (x : Cursor). x.end ≡ c.end) (failed t l) (λ h. refl) (λ h. refl)

  pub onward_more : c.at < end_in index c.at → c.at < (onward index t l c).at
  unfolding onward
  onward_more m = pick_elim (λ (x : Cursor). c.at < x.at) (failed t l) (λ h. m) (λ h. omega arith)

-- the claims met: none, or the first and the rest
module _ (s : List ℕ) (m : ℕ) (index t : List ℕ) where
  abbrev next : Cursor → Cursor
  next c = onward index t (literal_at s m c.at) c

  from_none : (n : ℕ) (c : Cursor) → c.end ≤ c.at → met_from s m index t n c ≡ []
  unfolding met_from
  from_none zero c l = refl
  from_none (suc n) c l = pick_yes (leb c.end c.at) [] (claim_of (literal_at s m c.at) ∷ met_from s m index t n (next c)) (le→leb c.end c.at l)

  from_first : (n : ℕ) (c : Cursor) → c.at < c.end → met_from s m index t (suc n) c ≡ claim_of (literal_at s m c.at) ∷ met_from s m index t n (next c)
  unfolding met_from
  from_first n c l = pick_no (leb c.end c.at) [] (claim_of (literal_at s m c.at) ∷ met_from s m index t n (next c)) (λ h. omega (arith, leb→le c.end c.at h))

  abbrev Ends : Cursor → Type 0
  Ends c = (i : ℕ) → c.at ≤ i → i < c.end → i < end_in index i

  next-ends : (c : Cursor) → c.at < c.end → Ends c → Ends (next c)
  next-ends c l e i g h =
      let a = onward_more index t (literal_at s m c.at) c (e c.at (omega arith) l) in
      e i (omega arith) (omega (arith, onward_end index t (literal_at s m c.at) c))

  -- more steps than literals meet no more
  enough : (n k : ℕ) (c : Cursor) → Ends c → c.end - c.at ≤ n → c.end - c.at ≤ k → met_from s m index t n c ≡ met_from s m index t k c
  enough zero k c e g h = from_none 0 c (omega arith) ∙ sym (from_none k c (omega arith))
  enough (suc n) zero c e g h = from_none (suc n) c (omega arith) ∙ sym (from_none 0 c (omega arith))
  enough (suc n) (suc k) c e g h =
      by_cases (dec_lt c.at c.end)
      (λ l.
      let a = onward_more index t (literal_at s m c.at) c (e c.at (omega arith) l) in
      let b = onward_end index t (literal_at s m c.at) c in
      from_first n c l
      ∙ (ap (λ (x : List ℕ). claim_of (literal_at s m c.at) ∷ x) (enough n k (next c) (next-ends c l e) (omega arith) (omega arith))
      ∙ sym (from_first k c l)))
      (λ l. from_none (suc n) c (omega arith) ∙ sym (from_none (suc k) c (omega arith)))

  pub met_none : (c : Cursor) → c.end ≤ c.at → met s m index t c ≡ []
  met_none c l = from_none (c.end - c.at) c l

  pub met_first : (c : Cursor) → Ends c → c.at < c.end → met s m index t c ≡ claim_of (literal_at s m c.at) ∷ met s m index t (next c)
  met_first c e l =
      let d : c.end - c.at ≡ suc (c.end - (c.at + 1)) = omega arith in
      let a = onward_more index t (literal_at s m c.at) c (e c.at (omega arith) l) in
      let b = onward_end index t (literal_at s m c.at) c in
      ap (λ (n : ℕ). met_from s m index t n c) d
      ∙ (from_first (c.end - (c.at + 1)) c l
      ∙ ap (λ (x : List ℕ). claim_of (literal_at s m c.at) ∷ x) (enough (c.end - (c.at + 1)) ((next c).end - (next c).at) (next c) (next-ends c l e) (omega arith) (omega arith)))

module _ (s index t : List ℕ) (w : WellFormed s) (x : Index s index) (c : ℕ) where
  abbrev j : Job
  j = job_of s

  abbrev a : ℕ
  a = claim_start s c

  abbrev size : ℕ
  size = length (lits (job_of s) c)

  abbrev end : ℕ → ℕ
  end k = rule_end c (job_of s).rules k

  pub lit_is : (i : ℕ) → i < size → literal_at s (rules s) (a + i) ≡ lit_at j c i
  unfolding lit_at
  lit_is i h =
      let p = claim-literals s w c in
      sym (ap (λ (ls : List Literal). get_or ls i (Plain 0)) p.part ∙ get_d-span (literal_at s (rules s)) (claim_start s c) _ i (Plain 0) (omega (arith, p.count, lits-length (job_of s) c)))

  pub end_is : (i : ℕ) → i < size → end_in index (a + i) ≡ a + end i
  end_is i h = end-in s index w x c i (omega (arith, lits-length (job_of s) c))

  pub end-past : (i : ℕ) → i < size → i < end i
  end-past i h = end_more c (job_of s).rules i (omega (arith, lits-length (job_of s) c))

  -- the cursor at c's literal i, of the first p
  abbrev cur : ℕ → ℕ → Cursor
  cur i p = record { at = a + i; end = a + p }

  abbrev step : ℕ → ℕ → Cursor
  step i p = onward index t (literal_at s (rules s) (a + i)) (cur i p)

  module _ (i p : ℕ) (l : i < size) where
    over-rule : T (failed t (lit_at j c i)) → step i p ≡ cur (end i) p
    over-rule h =
        onward-failed index t (literal_at s (rules s) (a + i)) (cur i p) (subst (λ (y : Literal). T (failed t y)) (sym (lit_is i l)) h)
        ∙ ap (λ (y : ℕ). record { at = y; end = a + p }) (end_is i l)

    over_one : (T (failed t (lit_at j c i)) → ⊥) → step i p ≡ cur (i + 1) p
    over_one h =
        let z : a + i + 1 ≡ a + (i + 1) = omega arith in
        onward-holds index t (literal_at s (rules s) (a + i)) (cur i p) (λ y. h (subst (λ (y : Literal). T (failed t y)) (lit_is i l) y))
        ∙ ap (λ (y : ℕ). record { at = y; end = a + p }) z

  -- a literal that stands behind none is followed by one, and so is a failed rule
  module _ (i : ℕ) (l : i < size) (f : Behind j t c i → ⊥) where
    clear_one : (T (failed t (lit_at j c i)) → ⊥) → Behind j t c (i + 1) → ⊥
    clear_one h b =
        by_cases (ℕ_discrete b.at i) (λ e. h (subst (λ (y : ℕ). T (failed t (lit_at j c y))) e b.fails))
        (λ n. f (record { at = b.at; before = omega (arith, b.before); fails = b.fails; within = omega (arith, b.within) }))

    clear-rule : Behind j t c (end i) → ⊥
    clear-rule b =
        by_cases (dec_lt b.at i)
        (λ h. f (record { at = b.at; before = h; fails = b.fails; within = omega (arith, b.within, end-past i l) }))
        (λ h. omega (arith, b.within, end_same c (job_of s).rules i b.at (omega arith) b.before))

  pub record Clear (i p y : ℕ) : Type 0 where
    pub at : ℕ
    pub from : i ≤ at
    pub to : at < p
    pub is : get_or (lits j c) at 0 ≡ y
    pub clear : Behind j t c at → ⊥

  claim_is : (i : ℕ) → i < size → claim_of (literal_at s (rules s) (a + i)) ≡ get_or (lits j c) i 0
  claim_is i h = ap claim_of (lit_is i h) ∙ sym (claim_lit j c i)

  wider : {i k p y : ℕ} → i ≤ k → Clear k p y → Clear i p y
  wider h q = record { at = q.at; from = omega (arith, q.from); to = q.to; is = q.is; clear = q.clear }

  abbrev walk : ℕ → Cursor → List ℕ
  walk n k = met_from s (rules s) index t n k

  -- from a literal that stands behind none
  pub met_in : (n i p : ℕ) → p ≤ size → (Behind j t c i → ⊥) → (y : ℕ) → In y (walk n (cur i p)) → Clear i p y
  unfolding met_from
  met_in zero i p l f y h = absurd (in-nil y h)
  met_in (suc n) i p l f y h =
      by_cases (dec_lt i p)
      (λ k.
      go k (λ k' g m. met_in n k' p l g y m)
      (in-cases y (claim_of (literal_at s (rules s) (a + i))) (walk n (step i p)) (subst (In y) (from_first s (rules s) index t n (cur i p) (omega arith)) h)))
      (λ k. absurd (in-nil y (subst (In y) (from_none s (rules s) index t (suc n) (cur i p) (omega arith)) h)))
    where
      go : i < p → ((k : ℕ) → (Behind j t c k → ⊥) → In y (walk n (cur k p)) → Clear k p y) → InCons y (claim_of (literal_at s (rules s) (a + i))) (walk n (step i p)) → Clear i p y
      go k ih (first e) = record { at = i; from = omega arith; to = k; is = sym (e ∙ claim_is i (omega arith)); clear = f }
      go k ih (later m) =
          let low : i < size = omega arith in
          by_cases (t? (failed t (lit_at j c i)))
          (λ d. wider (omega (arith, end-past i low)) (ih (end i) (clear-rule i low f) (subst (λ (q : Cursor). In y (walk n q)) (over-rule i p low d) m)))
          (λ d. wider (omega arith) (ih (i + 1) (clear_one i low f d) (subst (λ (q : Cursor). In y (walk n q)) (over_one i p low d) m)))

  pub in-met : (n i p : ℕ) → p ≤ size → p ≤ i + n → (y : ℕ) → Clear i p y → In y (walk n (cur i p))
  in-met zero i p l g y q = absurd (omega (arith, q.from, q.to))
  in-met (suc n) i p l g y q =
      let low : i < size = omega (arith, q.from, q.to) in
      let here : i < p = omega (arith, q.from, q.to) in
      let b = claim_of (literal_at s (rules s) (a + i)) in
      let on : (k : ℕ) → i < k → k ≤ q.at → step i p ≡ cur k p → In y (walk n (step i p)) =
      λ k m h e. subst (λ (z : Cursor). In y (walk n z)) (sym e) (in-met n k p l (omega arith) y (record { at = q.at; from = h; to = q.to; is = q.is; clear = q.clear })) in
      subst (In y) (sym (from_first s (rules s) index t n (cur i p) (omega arith)))
      (by_cases (ℕ_discrete q.at i)
      (λ e.
      let z : y ≡ b = sym q.is ∙ (ap (λ (v : ℕ). get_or (lits j c) v 0) e ∙ sym (claim_is i low)) in
      subst (λ (v : ℕ). In v (b ∷ walk n (step i p))) (sym z) (in_head b (walk n (step i p))))
      (λ m.
      in_tail y b (walk n (step i p))
      (by_cases (t? (failed t (lit_at j c i)))
      (λ d.
      on (end i) (end-past i low)
      (by_cases (dec_lt q.at (end i))
      (λ h. absurd (q.clear (record { at = i; before = omega (arith, q.from, m); fails = d; within = h })))
      (λ h. omega arith))
      (over-rule i p low d))
      (λ d. on (i + 1) (omega arith) (omega (arith, q.from, m)) (over_one i p low d)))))

-- by the tests that the code makes
module _ (index t : List ℕ) (l : Literal) (c : Cursor) {r : Bool} (e : r ≡ failed t l) {d : Cursor} where
  pub onward-yes : r ≡ true → d ≡ past_rule index c → d ≡ onward index t l c
  onward-yes h q = q ∙ sym (onward-failed index t l c (is _ (sym e ∙ h)))

  pub onward-no : r ≡ false → d ≡ moved c → d ≡ onward index t l c
  onward-no h q = q ∙ sym (onward-holds index t l c (is-not _ (sym e ∙ h)))

-- A claim passes a literal: which it is, the table with the cursor moved on, and the turn by what was read. Assumes nothing.
--   passed_same       whether a claim has passed all its literals, by the index
--   next-..           the literal that a claim passes next, by the cursor; moved-low, moved-by_one   the cursor past it
--   meets_same        owners are followed alike in tables with the same marks and the same claims awaited
--   opened-few        where a claim is fresh, not all are opened
--   Passing           what was read of claim c and its next literal's claim b, and the table u with c's cursor moved on
--   moved-..          that table is in range with right third words, and what the rest of the turn needs of it
--   pass-..           the turn, by the mark of b
use Prim.Native.Nat.{ℕ, zero, suc, ◌+◌, ◌-◌, ◌≤◌, ◌<◌}
use mathlib.Core.Path.{◌≡◌, refl, sym, ◌∙◌, ap, ap₂, subst, subst⁻¹}
use mathlib.Core.Bool.{Bool, true, false, not}
use mathlib.Core.List.{List}
use mathlib.Core.Logic.{◌⊎◌, by_cases}
use native.Mathlib.Omega.{arith}
use native.Mathlib.Decide.{ℕ_discrete}
use borrow.Author.Tests.{eq-eqb, ne_eqb, le-leb, lt-leb}
use lib.Dec.{T, leb, eqb}
use lib.ListN.{length, get_or, set, length-set}
use lib.Seq.{get_or-set_same, get_or-set_other}
use Rattle.base.specs.Choose.{pick}
use Rattle.base.specs.Lists.{keep}
use Rattle.base.proofs.Choose.{pick_true, pick-false}
use Rattle.base.proofs.Lists.{keep_same}
use Rattle.base.proofs.Sets.{count_le, count_mono, count_less}
use Rattle.base.proofs.Span.{get_d-span}
use Rattle.job.specs.Job.{Job, claim_of, literals_of, most_claims}
use Rattle.job.specs.Format.{claims, rules, literals, workers, literal_at, job_of}
use Rattle.job.specs.Accepted.{WellFormed}
use Rattle.job.specs.Claims.{claim_start, Index, moved}
use Rattle.job.specs.declared.Cursor.{Cursor}
use Rattle.job.proofs.Contiguous.{claim-literals}
use Rattle.table.specs.Layout.{owned, opened, mark_word, cursor_word, number_word, mark, cursor, number, awaited_word, awaited, newest_word, kept, answer_word, fresh, answered_at, awaited_at, newest_at, opened_word, true_mark, undefined_mark, workers_from}
use Rattle.table.specs.Newest.{newer, with_newest, NewestKept}
use Rattle.table.specs.Ranges.{marked, ClaimInRange, InRange}
use Rattle.table.proofs.Sizes.{sizes}
use Rattle.turn.specs.Turn.{Turned, lits, all_passed, clear, reached, open_claim, mark_all, meets, pass_turn, keeping}
use Rattle.turn.specs.Ready.{Ready, Made, passed_in}
use Rattle.turn.specs.declared.Kind.TheVariants.{Opened, Waits, Took, Passed}
use Rattle.turn.proofs.Making.{made_as, made-from, made_kept, made_with, made-renewed}
use Rattle.turn.proofs.Following.{room, open-owner}
use Rattle.turn.proofs.Jobs.{lits-length}
use Rattle.turn.proofs.ThirdWords.{await-kept, cursor-kept, open_kept}
use Rattle.turn.proofs.Gathering.{lits-span}

module _ (s index : List ℕ) (f : WellFormed s) (x : Index s index) (c : ℕ) (l : c < claims s) where
  -- whether a claim has passed all its literals, by the index
  pub passed_same : (t : List ℕ) → cursor t c ≤ length (lits (job_of s) c) → passed_in index t c ≡ all_passed (job_of s) t c
  unfolding all_passed
  passed_same t h =
      let p = claim-literals s f c in
      let e : get_or index (c + 1) 0 ≡ get_or index c 0 + length (lits (job_of s) c) =
      omega (arith, x.starts c (omega arith), x.starts (c + 1) (omega arith), p.count, p.ordered, lits-length (job_of s) c) in
      by_cases (ℕ_discrete (cursor t c) (length (lits (job_of s) c)))
      (λ q. le-leb (get_or index (c + 1) 0) (get_or index c 0 + cursor t c) (omega arith) ∙ sym (eq-eqb _ _ q))
      (λ q. lt-leb (get_or index (c + 1) 0) (get_or index c 0 + cursor t c) (omega arith) ∙ sym (ne_eqb _ _ q))

  -- with n literals passed and one left, the cursor k over them
  module _ (n : ℕ) (some : n < length (lits (job_of s) c)) where
    within : n < claim_start s (c + 1) - claim_start s c
    within = omega (arith, (claim-literals s f c).count, lits-length (job_of s) c)

    next_low : claim_start s c + n < literals s
    next_low = omega (arith, within, (claim-literals s f c).within)

    module _ {p : ℕ} (q : p ≡ n) {k : Cursor} (e : k ≡ record { at = get_or index c 0 + p; end = get_or index (c + 1) 0 }) where
      at_is : k.at ≡ claim_start s c + n
      at_is = ap (λ (y : Cursor). y.at) e ∙ ap₂ (λ (y z : ℕ). y + z) (x.starts c (omega arith)) q

      pub next-there : k.at < literals s
      next-there = omega (arith, at_is, next_low)

      pub next_left : k.at < k.end
      next_left = omega (arith, at_is, within, ap (λ (y : Cursor). y.end) e, x.starts (c + 1) (omega arith))

      pub next_is : {b : ℕ} → b ≡ claim_of (literal_at s (rules s) k.at) → b ≡ get_or (lits (job_of s) c) p 0
      next_is {b} h =
          h
          ∙ (ap (λ (v : ℕ). claim_of (literal_at s (rules s) v)) at_is
          ∙ (sym (ap (λ (ys : List ℕ). get_or ys n 0) (lits-span s f c) ∙ get_d-span (λ i. claim_of (literal_at s (rules s) i)) (claim_start s c) _ n 0 within)
          ∙ ap (λ (v : ℕ). get_or (lits (job_of s) c) v 0) (sym q)))

      -- moved on by one
      module _ {u : Cursor} (m : u ≡ moved k) where
        pub moved-low : (get_or index c 0 ≤ u.at) × (u.at < 4294967296)
        moved-low =
            let z = ap (λ (y : Cursor). y.at) m in
            (omega (arith, at_is, x.starts c (omega arith)), omega (arith, at_is, next_low, f.sized.literals_most))

        pub moved-by_one : u.at - get_or index c 0 ≡ p + 1
        moved-by_one = let z = ap (λ (y : Cursor). y.at) m in omega (arith, at_is, x.starts c (omega arith))

-- two tables with the same marks and the same claims awaited
module _ (j : Job) (t u : List ℕ) (marks : (d : ℕ) → mark u d ≡ mark t d) (awaits : (v : ℕ) → awaited j u v ≡ awaited j t v) where
  pub meets_same : (n w v : ℕ) → meets n j u w v ≡ meets n j t w v
  unfolding meets
  meets_same zero w v = refl
  meets_same (suc n) w v =
      ap (λ (a : ℕ). pick (eqb v w) true (pick (eqb a 0) false (pick (eqb (mark u (a - 1)) 0) false (pick (leb true_mark (mark u (a - 1))) false (meets n j u w (mark u (a - 1) - 1)))))) (awaits v)
      ∙ (ap (λ (m : ℕ). pick (eqb v w) true (pick (eqb (awaited j t v) 0) false (pick (eqb m 0) false (pick (leb true_mark m) false (meets n j u w (m - 1)))))) (marks (awaited j t v - 1))
      ∙ ap (λ (b : Bool). pick (eqb v w) true (pick (eqb (awaited j t v) 0) false (pick (eqb (mark t (awaited j t v - 1)) 0) false (pick (leb true_mark (mark t (awaited j t v - 1))) false b)))) (meets_same n w (mark t (awaited j t v - 1) - 1)))

  fresh_same : (d : ℕ) → not (fresh u d) ≡ not (fresh t d)
  fresh_same d = ap (λ (m : ℕ). not (eqb m 0)) (marks d)

  marked_same : marked j u ≡ marked j t
  unfolding marked
  marked_same =
      omega (arith, count_mono (λ d. not (fresh u d)) (λ d. not (fresh t d)) (λ d h. subst T (fresh_same d) h) j.claims, count_mono (λ d. not (fresh t d)) (λ d. not (fresh u d)) (λ d h. subst⁻¹ T (fresh_same d) h) j.claims)

-- a fresh claim is not counted among the opened
pub opened-few : (j : Job) (t : List ℕ) → InRange j t → (b : ℕ) → b < j.claims → mark t b ≡ 0 → opened t < j.claims
unfolding marked
opened-few j t r b l e =
    omega (arith, r.opened_is, count_less (λ d. not (fresh t d)) (λ d. true) (λ d h. tt) j.claims b l tt (λ h. subst (λ (m : ℕ). T (not (eqb m 0))) e h), count_le (λ d. true) j.claims)

-- what was read: p literals passed, the next of claim b, whose mark is m; u is the table with the cursor moved on
pub record Passing (s t : List ℕ) (w c p b m : ℕ) (u : List ℕ) : Type 0 where
  pub claim : c < claims s
  pub worker : w < workers s
  pub own : mark t c ≡ w + 1
  pub left : cursor t c < length (lits (job_of s) c)
  pub passed : p ≡ cursor t c
  pub next : b ≡ get_or (lits (job_of s) c) p 0
  pub low : b < claims s
  pub read : m ≡ mark t b
  pub stored : u ≡ set t (cursor_word c) (p + 1)
  pub free : clear (job_of s) t c (cursor t c) ≡ true

module _ {s t : List ℕ} {w c p b m : ℕ} {u : List ℕ} (g : Passing s t w c p b m u) where
  other : (i : ℕ) → (i ≡ cursor_word c → ⊥) → get_or u i 0 ≡ get_or t i 0
  other i n = ap (λ (x : List ℕ). get_or x i 0) g.stored ∙ get_or-set_other t (cursor_word c) i (p + 1) 0 n

  marks : (d : ℕ) → mark u d ≡ mark t d
  marks d = other (mark_word d) (λ q. omega arith)

  numbers : (d : ℕ) → number u d ≡ number t d
  numbers d = other (number_word d) (λ q. omega arith)

  past : (i : ℕ) → workers_from (claims s) ≤ i → get_or u i 0 ≡ get_or t i 0
  past i h = other i (λ q. omega (arith, g.claim))

  awaits : (v : ℕ) → awaited (job_of s) u v ≡ awaited (job_of s) t v
  awaits v = past (awaited_word (job_of s) v) (omega (arith, (sizes s).claims_are))

  pub moved_length : length u ≡ length t
  moved_length = ap length g.stored ∙ length-set t (cursor_word c) (p + 1)

  module _ (f : WellFormed s) (r : InRange (job_of s) t) where
    there : cursor_word c < length t
    there = omega (arith, room s t r, g.claim)

    cursor-there : cursor u c ≡ p + 1
    cursor-there = ap (λ (x : List ℕ). get_or x (cursor_word c) 0) g.stored ∙ get_or-set_same t (cursor_word c) (p + 1) 0 there

    moved-claim : (d : ℕ) → ClaimInRange (job_of s) t d → ClaimInRange (job_of s) u d
    moved-claim d q =
        let k = marks d in
        let n = numbers d in
        record {
          mark_in = subst⁻¹ (λ (x : ℕ). (x ≤ (job_of s).workers) ⊎ ((true_mark ≤ x) × (x ≤ undefined_mark))) k q.mark_in;
          unread = λ e.
              by_cases (ℕ_discrete d c) (λ z. let o : mark t d ≡ mark t c = ap (mark t) z in absurd (omega (arith, g.own)))
              (λ z. other (cursor_word d) (λ y. z (omega arith)) ∙ q.unread (sym k ∙ e));
          read =
              by_cases (ℕ_discrete d c)
              (λ z. subst⁻¹ (λ (x : ℕ). cursor u x ≤ length (literals_of x (job_of s).rules)) z (omega (arith, cursor-there, g.passed, g.left, lits-length (job_of s) c)))
              (λ z. omega (arith, other (cursor_word d) (λ y. z (omega arith)), q.read));
          unnumbered = λ e. n ∙ q.unnumbered (sym k ∙ e);
          numbered = λ e. omega (arith, n, q.numbered (λ y. e (k ∙ y)));
          number_most = omega (arith, n, q.number_most);
        }

    pub moved_range : InRange (job_of s) u
    moved_range =
        let z = sizes s in
        record {
          room = omega (arith, r.room, moved_length);
          header_is = λ i h. other i (λ q. omega arith) ∙ r.header_is i h;
          opened_is = other opened_word (λ q. omega arith) ∙ (r.opened_is ∙ sym (marked_same (job_of s) t u marks awaits));
          claim = λ d h. moved-claim d (r.claim d h);
          awaits = λ v h. omega (arith, awaits v, r.awaits v h);
          answers = λ v h. omega (arith, past (answered_at (job_of s).claims v) (omega (arith, z.claims_are)), r.answers v h);
          values = λ k h. omega (arith, past (answer_word (job_of s) k) (omega (arith, z.claims_are)), r.values k h);
        }

    -- a claim that is fresh can be opened
    pub moved-opened : m ≡ 0 → opened u < most_claims
    moved-opened e =
        omega (arith, opened-few (job_of s) u moved_range b (omega (arith, (sizes s).claims_are, g.low)) (marks b ∙ (sym g.read ∙ e)), (sizes s).claims_are, f.sized.claims_most)

    -- the owner of an open one is a worker
    pub moved-owner : (m ≡ 0 → ⊥) → m < true_mark → m - 1 < workers s
    moved-owner n h = let k = g.read in omega (arith, open-owner s t r b g.low (omega arith))

  pub moved-own : owned u w c ≡ true
  moved-own = eq-eqb (mark u c) (w + 1) (marks c ∙ g.own)

  pub moved-kept : NewestKept (job_of s) t → NewestKept (job_of s) u
  moved-kept k = subst⁻¹ (NewestKept (job_of s)) g.stored (cursor-kept k c (p + 1) (omega (arith, (sizes s).claims_are, g.claim)))

  pub moved_ready : {index : List ℕ} → Ready s index t → Ready s index u
  moved_ready r = record { job = r.job; indexed = r.indexed; table = moved_range r.job r.table; newests = moved-kept r.newests }

-- the turn, by what was read
abbrev by_parts : Job → ℕ → ℕ → ℕ → List ℕ → Bool → List ℕ → Turned
by_parts j w b m u e taken =
    pick (leb true_mark m) (record { kind = Passed; table = u })
    (pick (eqb m (w + 1)) (record { kind = Passed; table = u })
    (pick (eqb m 0) (record { kind = Opened; table = open_claim u w b })
    (pick e (record { kind = Took; table = mark_all (λ d. w + 1) taken u })
    (record { kind = Waits; table = set u (awaited_word j w) (b + 1) }))))

abbrev taken : Job → List ℕ → List ℕ → ℕ → List ℕ
taken j t u c = keep (λ d. not (fresh t d)) (reached j u c)

module _ {s t : List ℕ} {w c p b m : ℕ} {u : List ℕ} (g : Passing s t w c p b m u) where
  abbrev j : Job
  j = job_of s

  parts : pass_turn j t w c ≡ by_parts j w b m u (meets j.workers j u w (m - 1)) (taken j u u c)
  unfolding pass_turn
  parts =
      let e : u ≡ set t (cursor_word c) (cursor t c + 1) = g.stored ∙ ap (λ (x : ℕ). set t (cursor_word c) (x + 1)) g.passed in
      let h : b ≡ get_or (lits j c) (cursor t c) 0 = g.next ∙ ap (λ (x : ℕ). get_or (lits j c) x 0) g.passed in
      pick_true _ _ _ g.free
      ∙ (ap₂ (λ (x : ℕ) (y : List ℕ). by_parts j w x (mark t x) y (meets j.workers j t w (mark t x - 1)) (taken j t y c)) (sym h) (sym e)
      ∙ (ap (λ (x : ℕ). by_parts j w b x u (meets j.workers j t w (x - 1)) (taken j t u c)) (sym g.read)
      ∙ ap₂ (by_parts j w b m u) (sym (meets_same j t u (marks g) (awaits g) j.workers w (m - 1)))
      (keep_same (λ d. not (fresh t d)) (λ d. not (fresh u d)) (reached j u c) (λ d i. sym (fresh_same j t u (marks g) (awaits g) d)))))

  module _ (k : NewestKept j t) where
    pub pass-complete : true_mark ≤ m → Made (keeping j (pass_turn j t w c)) Passed u
    pass-complete h = made_kept j (moved-kept g k) (made_as _ _ (parts ∙ pick_true _ _ _ (le-leb true_mark m h)))

    module _ (l : m < true_mark) where
      pub pass-own : m ≡ w + 1 → Made (keeping j (pass_turn j t w c)) Passed u
      pass-own e = made_kept j (moved-kept g k) (made_as _ _ (parts ∙ (pick-false _ _ _ (lt-leb true_mark m l) ∙ pick_true _ _ _ (eq-eqb m (w + 1) e))))

      module _ (n : m ≡ w + 1 → ⊥) {a : ℕ} (a-is : a ≡ claims s) where
        same_count : a ≡ j.claims
        same_count = a-is ∙ sym (sizes s).claims_are

        -- the third word that is stored, in a table for a claims
        pub pass-fresh : m ≡ 0 → WellFormed s → InRange j t → {y : List ℕ} → y ≡ set (open_claim u w b) (newest_at a w) (newer (open_claim u w b) b (get_or u (newest_at a w) 0)) → Made (keeping j (pass_turn j t w c)) Opened y
        pass-fresh e f r {y} q =
            let v = newer (open_claim u w b) b (kept j u w) in
            let small : w < j.workers = omega (arith, (sizes s).workers_are, g.worker) in
            let q' : y ≡ set (open_claim u w b) (newest_word j w) v =
            q ∙ ap (λ (x : ℕ). set (open_claim u w b) (newest_at x w) (newer (open_claim u w b) b (get_or u (newest_at x w) 0))) same_count in
            made-renewed j w v small
            (subst⁻¹ (NewestKept j) q' (open_kept (moved-kept g k) small (omega (arith, (sizes s).claims_are, g.low)) (marks g b ∙ (sym g.read ∙ e)) (moved_range g f r).room)) q'
            (made_as _ _ (parts ∙ (pick-false _ _ _ (lt-leb true_mark m l) ∙ (pick-false _ _ _ (ne_eqb m (w + 1) n) ∙ pick_true _ _ _ (eq-eqb m 0 e)))))

        module _ (o : m ≡ 0 → ⊥) {z : Bool} (q : z ≡ meets (workers s) j u w (m - 1)) where
          to-other : pass_turn j t w c ≡ pick z (record { kind = Took; table = mark_all (λ d. w + 1) (taken j u u c) u }) (record { kind = Waits; table = set u (awaited_word j w) (b + 1) })
          to-other =
              parts ∙ (pick-false _ _ _ (lt-leb true_mark m l) ∙ (pick-false _ _ _ (ne_eqb m (w + 1) n) ∙ (pick-false _ _ _ (ne_eqb m 0 o)
              ∙ ap (λ (x : Bool). pick x (record { kind = Took; table = mark_all (λ d. w + 1) (taken j u u c) u }) (record { kind = Waits; table = set u (awaited_word j w) (b + 1) }))
              (ap (λ (k : ℕ). meets k j u w (m - 1)) (sizes s).workers_are ∙ sym q))))

          pub pass-took : z ≡ true → {y : List ℕ} → y ≡ with_newest (claims s) (workers s) (mark_all (λ d. w + 1) (taken j u u c) u) → Made (keeping j (pass_turn j t w c)) Took y
          pass-took e h =
              made_with j (h ∙ ap₂ (λ (x v : ℕ). with_newest x v (mark_all (λ d. w + 1) (taken j u u c) u)) (sym (sizes s).claims_are) (sym (sizes s).workers_are))
              (made_as _ _ (to-other ∙ pick_true _ _ _ e))

          pub pass-waits : z ≡ false → {y : List ℕ} → y ≡ set u (awaited_at a w) (b + 1) → Made (keeping j (pass_turn j t w c)) Waits y
          pass-waits e {y} h =
              let h' : y ≡ set u (awaited_word j w) (b + 1) = h ∙ ap (λ (x : ℕ). set u (awaited_at x w) (b + 1)) same_count in
              made_kept j (subst⁻¹ (NewestKept j) h' (await-kept (moved-kept g k) w (b + 1))) (made-from h' (made_as _ _ (to-other ∙ pick-false _ _ _ e)))

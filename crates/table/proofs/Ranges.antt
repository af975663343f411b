-- A table is accepted exactly where it is in range and its third words are kept. Assumes nothing.
use Prim.Native.Nat.{ℕ, ◌≤◌}
use mathlib.Core.Path.{◌≡◌, refl, sym, ◌∙◌}
use mathlib.Core.Bool.{false, ◌&&◌, ◌||◌}
use mathlib.Core.List.{List}
use mathlib.Core.Logic.{◌⊎◌, inl, inr, ⊎_elim, by_cases, ◌↔◌}
use native.Mathlib.Omega.{arith}
use native.Mathlib.Decide.{dec_lt, ℕ_discrete}
use borrow.Author.Tests.{eq-eqb, ne_eqb}
use lib.Dec.{eqb}
use lib.ListN.{length}
use Rattle.base.specs.Choose.{pick}
use Rattle.base.specs.Compare.{under, over, differs}
use Rattle.base.proofs.Bools.{neither, or_no, and_rest, and_no}
use Rattle.base.proofs.Choose.{pick_true, pick-false}
use Rattle.base.proofs.Compare.{under-no, under_le, over_yes, over_no, over_le, differs-no, differs_eq}
use Rattle.job.specs.Job.{Job, literals_of}
use Rattle.job.specs.Check.{Accepted}
use Rattle.job.proofs.Rows.{both, join, pass, row-no, scan_all, scan_none}
use Rattle.table.specs.Layout.{used, mark, cursor, number, true_mark, undefined_mark}
use Rattle.table.specs.Newest.{NewestKept}
use Rattle.table.specs.Ranges.{check_room, check_claim, check_worker, check_words, check_table, ClaimInRange, InRange}
use Rattle.table.proofs.Each.{each_none, each_all, row_pass}

pub enough-room : (j : Job) (t : List ℕ) → Accepted ≡ check_room j t → used j ≤ length t
unfolding check_room
enough-room j t e = under_le _ _ (row-no _ _ _ (both _ _ e).0)

-- a mark m of a table for w workers
mark-in : (m w : ℕ) → (over m w && (under m true_mark || over m undefined_mark)) ≡ false → (m ≤ w) ⊎ ((true_mark ≤ m) × (m ≤ undefined_mark))
mark-in m w e =
    by_cases (dec_lt w m)
    (λ h. let p = neither (under m true_mark) (over m undefined_mark) (and_rest (over m w) _ e (over_yes m w h)) in inr (under_le _ _ p.0, over_le _ _ p.1))
    (λ h. inl (omega arith))

in-mark : (m w : ℕ) → (m ≤ w) ⊎ ((true_mark ≤ m) × (m ≤ undefined_mark)) → (over m w && (under m true_mark || over m undefined_mark)) ≡ false
in-mark m w s =
    ⊎_elim (λ h. rw (over_no m w h))
    (λ h. and_no (over m w) _ (or_no (under m true_mark) (over m undefined_mark) (under-no _ _ h.0) (over_no _ _ h.1))) s

-- a word x that is at most l, and 0 where the mark m is
module _ (m x l : ℕ) where
  pick_most : over x (pick (eqb m 0) 0 l) ≡ false → (m ≡ 0 → x ≡ 0) × (x ≤ l)
  pick_most e =
      by_cases (ℕ_discrete m 0)
      (λ z. let p = over_le _ _ e in let q : pick (eqb m 0) 0 l ≡ 0 = pick_true _ _ _ (eq-eqb m 0 z) in ((λ y. omega arith), omega arith))
      (λ n. let p = over_le _ _ e in let q : pick (eqb m 0) 0 l ≡ l = pick-false _ _ _ (ne_eqb m 0 n) in ((λ z. absurd (n z)), omega arith))

  most-pick : (m ≡ 0 → x ≡ 0) → x ≤ l → over x (pick (eqb m 0) 0 l) ≡ false
  most-pick h k =
      by_cases (ℕ_discrete m 0)
      (λ z. let q : pick (eqb m 0) 0 l ≡ 0 = pick_true _ _ _ (eq-eqb m 0 z) in over_no _ _ (omega (arith, h z)))
      (λ n. let q : pick (eqb m 0) 0 l ≡ l = pick-false _ _ _ (ne_eqb m 0 n) in over_no _ _ (omega arith))

  pick-number : pick (eqb m 0) (differs x 0) (under x 1 || over x l) ≡ false → (m ≡ 0 → x ≡ 0) × ((m ≡ 0 → ⊥) → 1 ≤ x) × (x ≤ l)
  pick-number e =
      by_cases (ℕ_discrete m 0)
      (λ z. let p = differs_eq _ _ (sym (pick_true _ _ _ (eq-eqb m 0 z)) ∙ e) in ((λ y. p), (λ n. absurd (n z)), omega arith))
      (λ n. let p = neither (under x 1) (over x l) (sym (pick-false _ _ _ (ne_eqb m 0 n)) ∙ e) in ((λ z. absurd (n z)), (λ y. under_le _ _ p.0), over_le _ _ p.1))

  number-pick : (m ≡ 0 → x ≡ 0) → ((m ≡ 0 → ⊥) → 1 ≤ x) → x ≤ l → pick (eqb m 0) (differs x 0) (under x 1 || over x l) ≡ false
  number-pick f g k =
      by_cases (ℕ_discrete m 0) (λ z. pick_true _ _ _ (eq-eqb m 0 z) ∙ differs-no _ _ (f z))
      (λ n. pick-false _ _ _ (ne_eqb m 0 n) ∙ or_no (under x 1) (over x l) (under-no _ _ (g n)) (over_no _ _ k))

module _ (j : Job) (t : List ℕ) where
  claim_in : (c : ℕ) → Accepted ≡ check_claim j t c → ClaimInRange j t c
  unfolding check_claim
  claim_in c e =
      let a = both _ _ e in
      let b = both _ _ a.1 in
      let k = pick_most (mark t c) (cursor t c) (length (literals_of c j.rules)) (row-no _ _ _ b.0) in
      let n = pick-number (mark t c) (number t c) j.claims (row-no _ _ _ (both _ _ b.1).0) in
      record {
        mark_in = mark-in (mark t c) j.workers (row-no _ _ _ a.0);
        unread = k.0;
        read = k.1;
        unnumbered = n.0;
        numbered = n.1;
        number_most = n.2;
      }

  pub in-claim : (c : ℕ) → ClaimInRange j t c → Accepted ≡ check_claim j t c
  unfolding check_claim
  in-claim c r =
      pass _ _ _ _ (in-mark (mark t c) j.workers r.mark_in)
      (pass _ _ _ _ (most-pick (mark t c) (cursor t c) (length (literals_of c j.rules)) r.unread r.read)
      (pass _ _ _ _ (number-pick (mark t c) (number t c) j.claims r.unnumbered r.numbered r.number_most) refl))

  pub ranges : Accepted ≡ check_table j t → InRange j t × NewestKept j t
  unfolding check_table check_words check_worker
  ranges e =
      let a = both _ _ e in
      let h = both _ _ a.1 in
      let o = both _ _ h.1 in
      let c = both _ _ o.1 in
      let w = both _ _ c.1 in (
        record {
          room = enough-room j t a.0;
          header_is = λ i l. differs_eq _ _ (scan_all _ _ _ _ h.0 i l);
          opened_is = differs_eq _ _ (row-no _ _ _ o.0);
          claim = λ d l. claim_in d (each_all _ _ c.0 d l);
          awaits = λ v l. over_le _ _ (row-no _ _ _ (both _ _ (each_all _ _ w.0 v l)).0);
          answers = λ v l. over_le _ _ (row-no _ _ _ (both _ _ (both _ _ (each_all _ _ w.0 v l)).1).0);
          values = λ k l. over_le _ _ (scan_all _ _ _ _ w.1 k l);
        },
        record { is = λ v l. differs_eq _ _ (row-no _ _ _ (both _ _ (both _ _ (both _ _ (each_all _ _ w.0 v l)).1).1).0) },
      )

  pub accepts : InRange j t × NewestKept j t → Accepted ≡ check_table j t
  unfolding check_table check_room check_words check_worker
  accepts (r, n) =
      join _ _ (pass _ _ _ _ (under-no _ _ r.room) refl)
      (join _ _ (scan_none _ _ _ _ (λ i l. differs-no _ _ (r.header_is i l)))
      (join _ _ (row_pass _ _ _ (differs-no _ _ r.opened_is))
      (join _ _ (each_none _ _ (λ c l. in-claim c (r.claim c l)))
      (join _ _ (each_none _ _ (λ w l. pass _ _ _ _ (over_no _ _ (r.awaits w l)) (pass _ _ _ _ (over_no _ _ (r.answers w l)) (pass _ _ _ _ (differs-no _ _ (n.is w l)) refl))))
      (scan_none _ _ _ _ (λ k l. over_no _ _ (r.values k l)))))))

pub in-range : (j : Job) (t : List ℕ) → (Accepted ≡ check_table j t) ↔ (InRange j t × NewestKept j t)
in-range j t = (ranges j t, accepts j t)

-- The tests of a claim's words, as the code finds them. Assumes nothing.
--   mark-worker, _between, -past   the cases of a mark
--   marked-yes, -no                a mark other than 0, and a fresh claim
--   mark_test, cursor_bad, cursor-good, number_test   the tests of claim c from what was read
use Prim.Native.Nat.{ℕ, ◌<◌, ◌≤◌}
use mathlib.Core.Path.{◌≡◌, sym, ◌∙◌, ap, ap₂}
use mathlib.Core.Bool.{Bool, true, false, not, ◌&&◌, ◌||◌}
use mathlib.Core.List.{List}
use native.Mathlib.Omega.{arith}
use borrow.Author.Tests.{eq-eqb, ne_eqb}
use lib.Dec.{ltb, eqb}
use lib.ListN.{length}
use Rattle.base.specs.Choose.{pick}
use Rattle.base.specs.Compare.{under, over, differs}
use Rattle.base.proofs.Compare.{under-yes, under-no, over_yes, over_no}
use Rattle.job.specs.Job.{Job, literals_of}
use Rattle.table.specs.Layout.{mark, cursor, number, true_mark, undefined_mark, fresh}
use Rattle.table.specs.Ranges.{bad_mark, bad_cursor, bad_number}

module _ (m w : ℕ) where
  pub mark-worker : m ≤ w → false ≡ (over m w && (under m true_mark || over m undefined_mark))
  mark-worker h = rw (over_no m w h)

  pub mark_between : w < m → m < true_mark → true ≡ (over m w && (under m true_mark || over m undefined_mark))
  mark_between h l = rw (over_yes m w h, under-yes m true_mark l)

  pub mark-past : w < m → true_mark ≤ m → ltb undefined_mark m ≡ (over m w && (under m true_mark || over m undefined_mark))
  unfolding over
  mark-past h l = rw (over_yes m w h, under-no m true_mark l)

module _ (t : List ℕ) (c : ℕ) {m : ℕ} (e : m ≡ mark t c) where
  pub marked-yes : (m ≡ 0 → ⊥) → not (fresh t c) ≡ true
  marked-yes h = rw (ne_eqb (mark t c) 0 (λ z. h (e ∙ z)))

  pub marked-no : m ≡ 0 → not (fresh t c) ≡ false
  marked-no h = rw (eq-eqb (mark t c) 0 (sym e ∙ h))

module _ (j : Job) (t : List ℕ) (c : ℕ) {m : ℕ} (e : m ≡ mark t c) where
  pub mark_test : {b r : Bool} → b ≡ bad_mark j m → b ≡ r → bad_mark j (mark t c) ≡ r
  mark_test q h = sym (ap (bad_mark j) e) ∙ (sym q ∙ h)

  limit : {p : ℕ} → p ≡ pick (eqb m 0) 0 (length (literals_of c j.rules)) → p ≡ pick (fresh t c) 0 (length (literals_of c j.rules))
  limit q = q ∙ ap (λ (x : ℕ). pick (eqb x 0) 0 (length (literals_of c j.rules))) e

  pub cursor_bad : {p k : ℕ} → p ≡ pick (eqb m 0) 0 (length (literals_of c j.rules)) → k ≡ cursor t c → p < k → bad_cursor j t c ≡ true
  cursor_bad q h l = over_yes _ _ (omega (arith, limit q))

  pub cursor-good : {p k : ℕ} → p ≡ pick (eqb m 0) 0 (length (literals_of c j.rules)) → k ≡ cursor t c → k ≤ p → bad_cursor j t c ≡ false
  cursor-good q h l = over_no _ _ (omega (arith, limit q))

  pub number_test : {x : ℕ} {b r : Bool} → x ≡ number t c → b ≡ pick (eqb m 0) (differs x 0) (under x 1 || over x j.claims) → b ≡ r → bad_number j t c ≡ r
  number_test f q h =
      sym (ap₂ (λ (y z : ℕ). pick (eqb y 0) (differs z 0) (under z 1 || over z j.claims)) e f) ∙ (sym q ∙ h)

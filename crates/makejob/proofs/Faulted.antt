-- The sort of a fault, by the tests that lead to it. Assumes nothing.
--   late-no, late_by          a line that is no rule behind a question; whether it is one
--   in_end, in-first, in_on   a line with nothing behind what fits; with its first byte at fault; with a later one
--   of-late, of-line          a rule behind a question; any other line
use Prim.Native.Nat.{ℕ, ◌-◌, ◌<◌, ◌≤◌}
use mathlib.Core.List.{List}
use mathlib.Core.Path.{◌≡◌, sym, ◌∙◌, ap, ap₂}
use mathlib.Core.Bool.{Bool, true, false, ◌&&◌}
use borrow.Author.Tests.{eq-eqb, ne_eqb}
use lib.Dec.{eqb}
use lib.ListN.{length, get_or}
use Rattle.base.proofs.Choose.{pick_true, pick-false}
use Rattle.base.proofs.Compare.{under-no, not_below-yes, not_below-no}
use Rattle.lines.specs.Grammar.{is_digit}
use Rattle.makejob.specs.Pieces.{line_of, has_feed}
use Rattle.makejob.specs.Faults.{is_late, sort_of_byte, sort_at_end, sort_in, sort_of}
use Rattle.makejob.specs.declared.shape.Reach.{Reach}
use Rattle.makejob.specs.declared.sort.Sort.{Sort}
use Rattle.makejob.specs.declared.sort.Sort.TheVariants.{LateRule}

module _ (s : List ℕ) (k : ℕ) (later : 2 ≤ k) {a : ℕ} (before : a ≡ get_or (line_of s (k - 1)) 0 0) where
  pub late-no : (a ≡ 97 → ⊥) → false ≡ is_late s k
  unfolding is_late
  late-no h =
      let e : eqb (get_or (line_of s (k - 1)) 0 0) 97 ≡ false = ne_eqb _ _ (λ q. h (before ∙ q)) in
      sym (pick-false _ _ _ (under-no k 2 later) ∙ ap (λ (t : Bool). t && is_digit (get_or (line_of s k) 0 0)) e)

  pub late_by : a ≡ 97 → {b : ℕ} {r : Bool} → b ≡ get_or (line_of s k) 0 0 → r ≡ is_digit b → r ≡ is_late s k
  unfolding is_late
  late_by h e d =
      let q : eqb (get_or (line_of s (k - 1)) 0 0) 97 ≡ true = eq-eqb _ _ (sym before ∙ h) in
      d ∙ ap is_digit e ∙ sym (pick-false _ _ _ (under-no k 2 later) ∙ ap (λ (t : Bool). t && is_digit (get_or (line_of s k) 0 0)) q)

module _ (s : List ℕ) (r : Reach) (feed : Bool) {x : Sort} where
  pub in_end : length s ≤ r.at → x ≡ sort_at_end s r.whole feed → x ≡ sort_in s r feed
  unfolding sort_in
  in_end h e = e ∙ sym (pick_true _ _ _ (not_below-yes r.at (length s) h))

  pub in-first : r.at < length s → r.at ≡ 0 → x ≡ sort_of_byte 0 (get_or s r.at 0) → x ≡ sort_in s r feed
  unfolding sort_in
  in-first h z e =
      e
      ∙ ap (λ (a : ℕ). sort_of_byte a (get_or s r.at 0)) (sym (pick_true _ 0 (get_or s (r.at - 1) 0) (eq-eqb r.at 0 z)))
      ∙ sym (pick-false _ _ _ (not_below-no r.at (length s) h))

  pub in_on : r.at < length s → (r.at ≡ 0 → ⊥) → x ≡ sort_of_byte (get_or s (r.at - 1) 0) (get_or s r.at 0) → x ≡ sort_in s r feed
  unfolding sort_in
  in_on h z e =
      e
      ∙ ap (λ (a : ℕ). sort_of_byte a (get_or s r.at 0)) (sym (pick-false _ 0 (get_or s (r.at - 1) 0) (ne_eqb r.at 0 z)))
      ∙ sym (pick-false _ _ _ (not_below-no r.at (length s) h))

module _ (s : List ℕ) (k : ℕ) (r : Reach) {late : Bool} (known : late ≡ is_late s k) where
  pub of-late : late ≡ true → LateRule ≡ sort_of s k r
  unfolding sort_of
  of-late h = sym (pick_true _ _ _ (sym known ∙ h))

  pub of-line : late ≡ false → {line : List ℕ} {feed : Bool} {x : Sort} → line ≡ line_of s k → feed ≡ has_feed s k → x ≡ sort_in line r feed → x ≡ sort_of s k r
  unfolding sort_of
  of-line h e f q = q ∙ ap₂ (λ (l : List ℕ) (b : Bool). sort_in l r b) e f ∙ sym (pick-false _ _ _ (sym known ∙ h))

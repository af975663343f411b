-- The first byte that passes a test, and the lines of a text. Assumes nothing.
--   up-length    how many bytes stand before it; front   they are the first bytes
--   feed-length, feed_past, feed-none   of a line feed: how many; what stands behind it; that there is none
--   feeds_step, feeds_none   one line on the way to a line; no more
--   any-some     whether one passes
use Prim.Native.Nat.{ℕ, zero, suc, ◌+◌, ◌-◌, ◌<◌, ◌≤◌}
use mathlib.Core.List.{List, [], ◌∷◌}
use Rattle.std.specs.Prelude.{◌≢◌}
use mathlib.Core.Path.{◌≡◌, refl, sym, ◌∙◌, ap}
use mathlib.Core.Bool.{Bool, true, false, ◌||◌}
use native.Mathlib.Omega.{arith}
use native.Mathlib.Numerals.{add-one}
use borrow.Author.Tests.{eq-eqb, ne_eqb}
use lib.Dec.{eqb}
use lib.ListN.{length, get_or, take, drop}
use Rattle.std.specs.List.{list_any}
use Rattle.base.specs.Choose.{pick}
use Rattle.writing.proofs.Wrote.{rest_all}
use Rattle.makejob.specs.Pieces.{is_feed, up_to, some, behind_feed, behind_feeds}

module _ (p : ℕ → Bool) where
  pub none_before : (b : ℕ) (x : List ℕ) → p b ≡ true → length (up_to p (b ∷ x)) ≡ 0
  unfolding up_to pick
  none_before b x e = rw e

  pub one-before : (b : ℕ) (x : List ℕ) → p b ≡ false → length (up_to p (b ∷ x)) ≡ suc (length (up_to p x))
  unfolding up_to pick
  one-before b x e = rw e

  pub up-length : (s : List ℕ) (n : ℕ) → n ≤ length s → ((k : ℕ) → k < n → p (get_or s k 0) ≡ false) → (n < length s → p (get_or s n 0) ≡ true) → n ≡ length (up_to p s)
  unfolding up_to
  up-length [] n f b h = omega arith
  up-length (x ∷ s) zero f b h = sym (none_before x s (h (omega arith)))
  up-length (x ∷ s) (suc n) f b h =
      ap suc (up-length s n (omega arith) (λ k l. b (suc k) (omega arith)) (λ l. h (omega arith)))
      ∙ sym (one-before x s (b 0 (omega arith)))

  pub front : (x : List ℕ) → take (length (up_to p x)) x ≡ up_to p x
  unfolding up_to pick
  front [] = refl
  front (b ∷ x) = go (p b) (front x)
    where
      go : (t : Bool) → take (length (up_to p x)) x ≡ up_to p x → take (length (pick t [] (b ∷ up_to p x))) (b ∷ x) ≡ pick t [] (b ∷ up_to p x)
      go true h = refl
      go false h = ap (λ (y : List ℕ). b ∷ y) h

pub any-some : (s : List ℕ) → list_any (λ y. eqb y 10) s ≡ some is_feed s
unfolding some is_feed pick
any-some [] = refl
any-some (b ∷ s) = go (eqb b 10) (any-some s)
  where
    go : (t : Bool) → list_any (λ y. eqb y 10) s ≡ some is_feed s → t || list_any (λ y. eqb y 10) s ≡ pick t true (some is_feed s)
    go true h = refl
    go false h = h

-- how far a line feed is
module _ (s : List ℕ) (n : ℕ) (fits : n ≤ length s) (before : (k : ℕ) → k < n → get_or s k 0 ≢ 10) (found : n < length s → get_or s n 0 ≡ 10) where
  before_is : (k : ℕ) → k < n → is_feed (get_or s k 0) ≡ false
  unfolding is_feed
  before_is k l = ne_eqb _ _ (before k l)

  found_is : n < length s → is_feed (get_or s n 0) ≡ true
  unfolding is_feed
  found_is l = eq-eqb _ _ (found l)

  pub feed-length : n ≡ length (up_to is_feed s)
  feed-length = up-length is_feed s n fits before_is found_is

past_found : (s : List ℕ) (n : ℕ) → n < length s → n ≡ length (up_to is_feed s) → drop (suc n) s ≡ behind_feed s
unfolding behind_feed pick
past_found [] n l e = absurd (omega arith)
past_found (b ∷ s) n l e = go (is_feed b) refl (past_found s)
  where
    go : (t : Bool) → is_feed b ≡ t → ((m : ℕ) → m < length s → m ≡ length (up_to is_feed s) → drop (suc m) s ≡ behind_feed s) → drop n s ≡ pick t s (behind_feed s)
    go true h again = let z : n ≡ 0 = e ∙ none_before is_feed b s h in rw z
    go false h again =
        let q = one-before is_feed b s h in
        let z : n ≡ suc (length (up_to is_feed s)) = e ∙ q in
        rw z (again (length (up_to is_feed s)) (omega arith) refl)

pub feed_past : (s : List ℕ) (n : ℕ) → n < length s → n ≡ length (up_to is_feed s) → take (length s - (n + 1)) (drop (n + 1) s) ≡ behind_feed s
feed_past s n l e = rest_all s (n + 1) ∙ ap (λ (k : ℕ). drop k s) (add-one n) ∙ past_found s n l e

pub feed-none : (s : List ℕ) → length s ≤ length (up_to is_feed s) → [] ≡ behind_feed s
unfolding behind_feed pick
feed-none [] l = refl
feed-none (b ∷ s) l = go (is_feed b) refl (feed-none s)
  where
    go : (t : Bool) → is_feed b ≡ t → (length s ≤ length (up_to is_feed s) → [] ≡ behind_feed s) → [] ≡ pick t s (behind_feed s)
    go true h again = absurd (omega (arith, none_before is_feed b s h))
    go false h again = again (omega (arith, one-before is_feed b s h))

-- one line more is passed, of those before line k
pub feeds_step : (s rest : List ℕ) (k i : ℕ) → i < k → rest ≡ behind_feed s → behind_feeds (k - (i + 1)) rest ≡ behind_feeds (k - i) s
unfolding behind_feeds
feeds_step s rest k i l e = let n : k - i ≡ suc (k - (i + 1)) = omega arith in rw (n, e)

pub feeds_none : (s : List ℕ) {n : ℕ} → n ≡ 0 → s ≡ behind_feeds n s
unfolding behind_feeds
feeds_none s e = rw e

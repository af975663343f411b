-- Each worker's newest open claim: what a search finds, and the word that has it (02, order 3).
--   is_newer t c d      claim c is newer than claim d
--   newer t c b         the newer of claim c and claim b - 1, + 1; c + 1 where b is 0, for none
--   newest t cs         the newest of some claims + 1, or 0 where there is none
--   sought a t w        what a search over a claims finds: w's newest open claim + 1, or 0 where it owns none
--   Searched a t ns     the numbers ns are what a search over a claims finds, for each worker; none is past the claims
--   with_newest a n t   the table t, in which the third word of each of n workers is what a search finds
--   NewestKept j t      in t each is so
--   Older t d c         claim d is c, or c is newer
--   NewestOf t P r      r is the newest of the claims P + 1, or 0 where there are none
--   Owns a t w c        c is one of a claims, and w's
use Rattle.std.specs.Prelude.{ℕ, zero, suc, ◌+◌, ◌-◌, ◌<◌, ◌≤◌, ◌≡◌, Bool, ◌&&◌, ◌||◌, List, [], ◌∷◌, ltb, eqb, length, get_or, set}
use Rattle.base.specs.Choose.{pick}
use Rattle.base.specs.Lists.{upto, keep}
use Rattle.job.specs.Job.{Job, most_workers}
use Rattle.table.specs.Layout.{mark, number, owned, newest_at, kept}

-- "highest opening number, then highest claim"
unfoldable pub is_newer : List ℕ → ℕ → ℕ → Bool
is_newer t c d = ltb (number t d) (number t c) || (eqb (number t d) (number t c) && ltb d c)

unfoldable pub newer : List ℕ → ℕ → ℕ → ℕ
unfolding pick
newer t c b = pick (eqb b 0) (suc c) (pick (is_newer t c (b - 1)) (suc c) b)

unfoldable pub newest : List ℕ → List ℕ → ℕ
newest t [] = 0
newest t (c ∷ cs) = newer t c (newest t cs)

-- (02, order 3) "its newest open claim + 1, or 0", "what a search finds"
abbrev pub sought : ℕ → List ℕ → ℕ → ℕ
sought a t w = newest t (keep (owned t w) (upto a))

pub record Searched (a : ℕ) (t ns : List ℕ) : Type 0 where
  pub size : length ns ≡ most_workers
  pub all : (w : ℕ) → w < most_workers → get_or ns w 0 ≡ sought a t w
  pub most : (w : ℕ) → w < most_workers → get_or ns w 0 ≤ a

unfoldable pub with_newest : ℕ → ℕ → List ℕ → List ℕ
with_newest a zero t = t
with_newest a (suc w) t = set (with_newest a w t) (newest_at a w) (sought a t w)

pub record NewestKept (j : Job) (t : List ℕ) : Type 0 where
  pub is : (w : ℕ) → w < j.workers → kept j t w ≡ sought j.claims t w

-- what a search finds, said without one: of w's claims none has a higher opening number, and none with the same number is higher
pub record Older (t : List ℕ) (d c : ℕ) : Type 0 where
  pub most : number t d ≤ number t c
  pub tie : number t c ≤ number t d → d ≤ c

pub data NewestOf (t : List ℕ) (P : ℕ → Type 0) (r : ℕ) : Type 0 where
  none : r ≡ 0 → ((d : ℕ) → P d → ⊥) → NewestOf t P r
  some : (c : ℕ) → r ≡ suc c → P c → ((d : ℕ) → P d → Older t d c) → NewestOf t P r

abbrev pub Owns : ℕ → List ℕ → ℕ → ℕ → Type 0
Owns a t w c = (c < a) × (mark t c ≡ w + 1)

-- The counts of a tally. Assumes nothing.
--   one_more         one turn more raises each count by at most 1
--   counted_append   counting some turns, then others
--   tally_append     the same from the first turn on
--   tally-few        no count of a tally is above the number of its turns
use Prim.Native.Nat.{ℕ, ◌+◌, ◌≤◌}
use mathlib.Core.Path.{◌≡◌, refl}
use mathlib.Core.List.{List, [], ◌∷◌, ◌++◌}
use mathlib.Core.Logic.{by_cases}
use native.Mathlib.Omega.{arith}
use native.Mathlib.Decide.{ℕ_discrete, dec_lt}
use lib.ListN.{length, get_or, set, replicate}
use lib.Seq.{get_or-set_same, get_or-set_other, set_out}
use Rattle.table.proofs.Sizes.{zeros_at}
use Rattle.turn.specs.Turn.{kind_number}
use Rattle.calls.specs.Calls.{counted, tally}
use Rattle.turn.specs.declared.Kind.{Kind}

pub one_more : (counts : List ℕ) (k d : ℕ) → get_or (set counts k (get_or counts k 0 + 1)) d 0 ≤ get_or counts d 0 + 1
one_more counts k d =
    by_cases (ℕ_discrete d k)
    (λ e.
    by_cases (dec_lt k (length counts)) (λ l. rw (e, get_or-set_same counts k (get_or counts k 0 + 1) 0 l) (omega arith))
    (λ l. rw (set_out counts k (get_or counts k 0 + 1) (omega arith)) (omega arith)))
    (λ n. rw (get_or-set_other counts k d (get_or counts k 0 + 1) 0 n) (omega arith))

pub counted_append : (counts : List ℕ) (ks ls : List Kind) → counted counts (ks ++ ls) ≡ counted (counted counts ks) ls
unfolding counted
counted_append counts [] ls = refl
counted_append counts (k ∷ ks) ls = counted_append (set counts (kind_number k) (get_or counts (kind_number k) 0 + 1)) ks ls

pub tally_append : (ks ls : List Kind) → tally (ks ++ ls) ≡ counted (tally ks) ls
unfolding tally
tally_append ks ls = counted_append (replicate 8 0) ks ls

counted-few : (counts : List ℕ) (ks : List Kind) (d : ℕ) → get_or (counted counts ks) d 0 ≤ get_or counts d 0 + length ks
unfolding counted
counted-few counts [] d = omega arith
counted-few counts (k ∷ ks) d =
    omega (arith, one_more counts (kind_number k) d, counted-few (set counts (kind_number k) (get_or counts (kind_number k) 0 + 1)) ks d)

pub tally-few : (ks : List Kind) (d : ℕ) → get_or (tally ks) d 0 ≤ length ks
unfolding tally
tally-few ks d = omega (arith, counted-few (replicate 8 0) ks d, zeros_at 8 d)

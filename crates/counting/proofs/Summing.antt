-- The changing turns of a tally. Assumes nothing.
--   changing-low     there are few of them
--   needed-by        the sum of all counts but that of the idle turns is their number
use Prim.Native.Nat.{ℕ, ◌+◌, ◌<◌}
use mathlib.Core.Path.{◌≡◌, refl, ◌∙◌, ap}
use mathlib.Core.List.{List, [], ◌∷◌}
use native.Mathlib.Omega.{arith}
use lib.Dec.{eqb}
use lib.ListN.{length, get_or, drop, replicate}
use Rattle.std.specs.Prelude.{sum}
use Rattle.base.specs.Choose.{pick}
use Rattle.job.specs.Format.{job_of}
use Rattle.job.specs.Accepted.{WellFormed}
use Rattle.table.specs.Layout.{used}
use Rattle.table.specs.Start.{start_words}
use Rattle.turn.specs.Turn.{kind_number, run_table, run_kinds}
use Rattle.turn.specs.declared.Kind.{Kind}
use Rattle.turn.specs.declared.Kind.TheVariants.{Idle, Woke, Opened, Waits, Took, Passed, Completed, Answered}
use Rattle.calls.specs.Calls.{tally}
use Rattle.calls.specs.Taken.{how_many}
use Rattle.calls.proofs.Taken.{tallied}
use Rattle.calls.proofs.Tallies.{tally-few}
use Rattle.listing.specs.Finish.{finish_turns, most}
use Rattle.listing.specs.Listing.{played}
use Rattle.listing.proofs.Playing.{kinds-length, counts-eight}
use Rattle.listing.proofs.Finishing.{most-small, most_is}
use Rattle.listing.proofs.Finished.{finish-length}
use Rattle.rulesets.specs.Census.{changing, needed_by}

eight-sum :
    (xs : List ℕ) → length xs ≡ 8
    → sum (drop 1 xs) ≡ get_or xs 1 0 + get_or xs 2 0 + get_or xs 3 0 + get_or xs 4 0 + get_or xs 5 0 + get_or xs 6 0 + get_or xs 7 0
eight-sum [] e = absurd (omega arith)
eight-sum (a ∷ []) e = absurd (omega arith)
eight-sum (a ∷ b ∷ []) e = absurd (omega arith)
eight-sum (a ∷ b ∷ c ∷ []) e = absurd (omega arith)
eight-sum (a ∷ b ∷ c ∷ d ∷ []) e = absurd (omega arith)
eight-sum (a ∷ b ∷ c ∷ d ∷ f ∷ []) e = absurd (omega arith)
eight-sum (a ∷ b ∷ c ∷ d ∷ f ∷ g ∷ []) e = absurd (omega arith)
eight-sum (a ∷ b ∷ c ∷ d ∷ f ∷ g ∷ h ∷ []) e = absurd (omega arith)
eight-sum (a ∷ b ∷ c ∷ d ∷ f ∷ g ∷ h ∷ i ∷ []) e = omega arith
eight-sum (a ∷ b ∷ c ∷ d ∷ f ∷ g ∷ h ∷ i ∷ j ∷ xs) e = absurd (omega arith)

abbrev is_kind : Kind → ℕ → ℕ
is_kind k n = pick (eqb (kind_number k) n) 1 0

kind-sum : (k : Kind) → is_kind k 1 + is_kind k 2 + is_kind k 3 + is_kind k 4 + is_kind k 5 + is_kind k 6 + is_kind k 7 ≡ pick (eqb (kind_number k) 0) 0 1
unfolding pick
kind-sum Idle = refl
kind-sum Woke = refl
kind-sum Opened = refl
kind-sum Waits = refl
kind-sum Took = refl
kind-sum Passed = refl
kind-sum Completed = refl
kind-sum Answered = refl

changing-sum : (ks : List Kind) → how_many 1 ks + how_many 2 ks + how_many 3 ks + how_many 4 ks + how_many 5 ks + how_many 6 ks + how_many 7 ks ≡ changing ks
unfolding how_many changing
changing-sum [] = refl
changing-sum (k ∷ ks) = omega (arith, kind-sum k, changing-sum ks)

module _ (s : List ℕ) (good : WellFormed s) (u : List ℕ) {ns : List ℕ} (e : ns ≡ tally (run_kinds (job_of s) (start_words (job_of s) u) (played (job_of s) (start_words (job_of s) u) []))) where
  abbrev start : List ℕ
  start = start_words (job_of s) u

  abbrev ks : List Kind
  ks = run_kinds (job_of s) start (finish_turns (most (job_of s)) (job_of s) start 0)

  plain : ns ≡ tally ks
  unfolding played run_table
  plain = e

  most-low : most (job_of s) < 4294967296
  most-low = omega (arith, most-small s good refl refl refl refl, most_is s good refl refl refl refl)

  abbrev at : ℕ → ℕ
  at k = get_or ns k 0

  at-low : (k : ℕ) → at k < 4294967296
  at-low k =
      let few = finish-length (job_of s) (most (job_of s)) start 0 in
      let long = kinds-length (job_of s) (finish_turns (most (job_of s)) (job_of s) start 0) start in
      omega (arith, ap (λ (x : List ℕ). get_or x k 0) plain, tally-few ks k, long, few, most-low)

  count_is : (k : ℕ) → k < 8 → at k ≡ how_many k ks
  count_is k h = ap (λ (x : List ℕ). get_or x k 0) plain ∙ (tallied ks).counts k h

  all : sum (drop 1 ns) ≡ at 1 + at 2 + at 3 + at 4 + at 5 + at 6 + at 7
  all = eight-sum ns (counts-eight (job_of s) [] u e)

  pub changing-low : sum (drop 1 ns) < 18446744073709551616
  changing-low = omega (arith, all, at-low 1, at-low 2, at-low 3, at-low 4, at-low 5, at-low 6, at-low 7)

  all-counts : sum (drop 1 ns) ≡ changing ks
  all-counts =
      omega
      (arith, all, changing-sum ks, count_is 1 (omega arith), count_is 2 (omega arith), count_is 3 (omega arith), count_is 4 (omega arith), count_is 5 (omega arith), count_is 6 (omega arith), count_is 7 (omega arith))

  pub needed-by : u ≡ replicate (used (job_of s)) 0 → {r : ℕ} → r ≡ sum (drop 1 ns) → r ≡ needed_by (job_of s)
  needed-by z q =
      q
      ∙ all-counts
      ∙ ap (λ (t : List ℕ). changing (run_kinds (job_of s) (start_words (job_of s) t) (finish_turns (most (job_of s)) (job_of s) (start_words (job_of s) t) 0))) z

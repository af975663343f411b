-- The counters of the rules (specs/Positions: Counts). Assumes nothing.
--   counts_same               where the same positions are due
--   counts_some, _pay, _owe   one position less is due, or one more
--   counts-most               what a counter has at most
use Prim.Native.Nat.{ℕ, suc, ◌+◌, ◌-◌, ◌<◌, ◌≤◌}
use mathlib.Core.Path.{◌≡◌, refl, sym, ◌∙◌, ap, subst⁻¹}
use mathlib.Core.Bool.{Bool, true, false, ◌&&◌}
use mathlib.Core.List.{List}
use mathlib.Core.Logic.{by_cases}
use native.Mathlib.Omega.{arith}
use native.Mathlib.Decide.{ℕ_discrete}
use lib.Dec.{eqb}
use lib.ListN.{length, get_or, set, length-set}
use lib.Seq.{get_or-set_same, get_or-set_other}
use Rattle.base.proofs.Sets.{count_le}
use Rattle.job.specs.Format.{rules, literals}
use Rattle.counters.specs.Positions.{waiting, Counts}
use Rattle.counters.proofs.Owning.{Owned}
use Rattle.counters.proofs.Waiting.{waiting_same, waiting-less, waiting-other}

-- counters that count the same
pub counts_same :
    {s own cnt : List ℕ} {base : ℕ → ℕ} (d e : ℕ → Bool) → ((p : ℕ) → p < literals s → d p ≡ e p) → Counts s own cnt base d → Counts s own cnt base e
counts_same {s} {own} {cnt} {base} d e f now =
    record { long = now.long; counted = λ r l. now.counted r l ∙ ap (λ (n : ℕ). base r + n) (waiting_same own d e (literals s) r f) }

-- position p is no longer due
module _ (s own cnt : List ℕ) (base : ℕ → ℕ) (d e : ℕ → Bool) (p : ℕ) (l : p < literals s) (owned : Owned s own) (was : d p ≡ true) (gone : e p ≡ false) (others : (j : ℕ) → j < literals s → (j ≡ p → ⊥) → d j ≡ e j) where
  less : waiting own d (literals s) (get_or own p 0) ≡ suc (waiting own e (literals s) (get_or own p 0))
  less = waiting-less own d e (literals s) p (get_or own p 0) l refl was gone others

  pub counts_some : Counts s own cnt base d → 1 ≤ get_or cnt (get_or own p 0) 0
  counts_some now = omega (arith, now.counted (get_or own p 0) (owned.owner p l).below, less)

  counts-set :
      (e' : ℕ → Bool) (v : ℕ) → rules s ≤ length cnt → v ≡ base (get_or own p 0) + waiting own e' (literals s) (get_or own p 0)
      → ((r : ℕ) → r < rules s → (r ≡ get_or own p 0 → ⊥) → get_or cnt r 0 ≡ base r + waiting own e' (literals s) r)
      → Counts s own (set cnt (get_or own p 0) v) base e'
  counts-set e' v long here rest =
      record {
        long = simp length-set long;
        counted = λ r m.
            by_cases (ℕ_discrete r (get_or own p 0))
            (λ i.
            subst⁻¹ (λ (y : ℕ). get_or (set cnt (get_or own p 0) v) y 0 ≡ base y + waiting own e' (literals s) y) i
            (get_or-set_same cnt (get_or own p 0) v 0 (omega (arith, long, (owned.owner p l).below)) ∙ here))
            (λ n. get_or-set_other cnt (get_or own p 0) r v 0 n ∙ rest r m n);
      }

  pub counts_pay : Counts s own cnt base d → Counts s own (set cnt (get_or own p 0) (get_or cnt (get_or own p 0) 0 - 1)) base e
  counts_pay now =
      counts-set e (get_or cnt (get_or own p 0) 0 - 1) now.long (omega (arith, now.counted (get_or own p 0) (owned.owner p l).below, less))
      (λ r m n. now.counted r m ∙ ap (λ (y : ℕ). base r + y) (waiting-other own d e (literals s) p r (λ i. n (sym i)) others))

  pub counts_owe : Counts s own cnt base e → Counts s own (set cnt (get_or own p 0) (get_or cnt (get_or own p 0) 0 + 1)) base d
  counts_owe now =
      counts-set d (get_or cnt (get_or own p 0) 0 + 1) now.long (omega (arith, now.counted (get_or own p 0) (owned.owner p l).below, less))
      (λ r m n. now.counted r m ∙ ap (λ (y : ℕ). base r + y) (sym (waiting-other own d e (literals s) p r (λ i. n (sym i)) others)))

-- a counter has at most all positions
pub counts-most :
    {s own cnt : List ℕ} {base : ℕ → ℕ} {d : ℕ → Bool} → Counts s own cnt base d → (r : ℕ) → r < rules s → get_or cnt r 0 ≤ base r + literals s
unfolding waiting
counts-most {s} {own} {cnt} {base} {d} now r l =
    omega (arith, now.counted r l, count_le (λ p. d p && eqb (get_or own p 0) r) (literals s))

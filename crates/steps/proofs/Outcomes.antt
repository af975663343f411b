-- What a turn is to the abstract theory, and the claims of a worker in the words and in the state. Assumes nothing.
--   Outcome j t w r   r is idle, keeps the table, and no step could be made; or r is a step
use mathlib.Core.Path.{◌≡◌, sym, ◌∙◌, subst}
use mathlib.Core.List.{List}
use Prim.Native.Nat.{ℕ, ◌+◌, ◌≤◌, ◌<◌}
use native.Mathlib.Omega.{arith}
use native.Mathlib.Decide.{ℕ_discrete, dec_lt}
use mathlib.Core.Logic.{by_cases}
use lib.ListN.{length}
use Rattle.job.specs.Job.{Job}
use Rattle.table.specs.Layout as W
use Rattle.table.specs.Ranges.{InRange}
use Rattle.waiting.specs.State.{Own, Done, Newest}
use Rattle.waiting.specs.Steps.{Step, Ready}
use Rattle.turn.specs.Turn.{Turned, lits, open_claim}
use Rattle.turn.specs.declared.Kind.TheVariants.{Idle}
use Rattle.turn.proofs.Jobs.{JobOk, lits-length}
use Rattle.steps.proofs.View.{low_in, low_out, low_pos, next_at, next_at_in, next_at_out, Alikes, view}
use Rattle.turn.proofs.Words as X
use Rattle.turn.proofs.Behind.{Alike, same, below}
use Rattle.turn.proofs.Cases.{AtNewest, Full}

pub data Outcome (j : Job) (t : List ℕ) (w : ℕ) (r : Turned) : Type 0 where
  idle : r.kind ≡ Idle → r.table ≡ t → (Ready (view j t) w → ⊥) → Outcome j t w r
  acts : (r.kind ≡ Idle → ⊥) → Step j.workers w (view j t) (view j r.table) → Outcome j t w r

module _ (j : Job) (t : List ℕ) where
  pub done_of : {c : ℕ} → c < j.claims → W.true_mark ≤ W.mark t c → Done (view j t) c
  done_of {c} h d = record { over = omega (arith, low_in (W.mark t c) h) }

  pub of_done : {c : ℕ} → Done (view j t) c → (c < j.claims) × (W.true_mark ≤ W.mark t c)
  of_done {c} d =
      let p = low_pos {n = j.claims} {i = c} {v = W.mark t c} (omega (arith, d.over)) in
      (p.0, omega (arith, p.1, d.over))

  pub of-own : {w c : ℕ} → Own (view j t) w c → (c < j.claims) × (W.mark t c ≡ w + 1)
  of-own {w} {c} o =
      let p = low_pos {n = j.claims} {i = c} {v = W.mark t c} (omega (arith, o.mine)) in
      (p.0, omega (arith, p.1, o.mine))

  -- c has passed all its literals
  pub full-next : (c : ℕ) → Full j t c → (view j t).next c ≡ 0
  full-next c e =
      by_cases (dec_lt c j.claims) (λ l. low_in _ l ∙ next_at_out j c (W.cursor t c) (λ m. omega arith)) (λ l. low_out _ l)

  pub next-full : (c : ℕ) → InRange j t → c < j.claims → (view j t).next c ≡ 0 → Full j t c
  next-full c R l e =
      by_cases (dec_lt (W.cursor t c) (length (lits j c)))
      (λ m. absurd (omega (arith, next_at_in j c (W.cursor t c) m, low_in (next_at j c (W.cursor t c)) l)))
      (λ m. omega (arith, lits-length j c, (R.claim c l).read))

-- a claim that opens is complete neither before nor after
pub open-alike : (j : Job) → JobOk j → (t : List ℕ) (w : ℕ) → w < j.workers → (b : ℕ) → W.number_word b < length t → W.mark t b ≡ 0 → Alikes j t (open_claim t w b)
open-alike j J t w small b long z x h =
    by_cases (ℕ_discrete x b)
    (λ e. subst (λ (y : ℕ). Alike (W.mark t y) (W.mark (open_claim t w b) y)) (sym e) (below (omega arith) (omega (arith, X.open-mark t w b long, J.few))))
    (λ n. same (X.open-marks t w b x n))

module _ (j : Job) (J : JobOk j) (t : List ℕ) {w : ℕ} (small : w < j.workers) where
  pub own_of : {c : ℕ} → c < j.claims → W.mark t c ≡ w + 1 → Own (view j t) w c
  own_of {c} h e =
      let z = low_in (W.mark t c) h in
      let f = J.few in
      record { mine = omega arith; still = omega arith }

  pub newest_view : {n : ℕ} → AtNewest j t w n → Newest (view j t) w n
  newest_view {n} at =
      record {
        its = own_of at.low at.its;
        last = λ {x = x} o. let p = of-own j t o in omega (arith, low_in (W.number t x) p.0, low_in (W.number t n) at.low, at.last x p.0 p.1);
      }

-- The finishing turns, one at a time: what is still to come makes of the table and the tally what all of them make. Assumes nothing.
--   done j t w     worker w has answered all its questions
--   each_worker    whether all is answered, by what was read of each worker: `Met`, or `Short`
--   Going          after some of the turns, `left` of them left at most, no count above `most`
use Prim.Native.Nat.{ℕ, zero, suc, ◌+◌, ◌*◌, ◌<◌, ◌≤◌}
use mathlib.Core.Path.{◌≡◌, refl, sym, ◌∙◌, ap, ap₂, subst}
use mathlib.Core.Bool.{Bool, true, false}
use mathlib.Core.List.{List, [], ◌∷◌}
use native.Mathlib.Omega.{arith}
use native.Mathlib.Nat.{mul-le-mul_right}
use borrow.Author.Tests.{eq-eqb, ne_eqb, le-leb, lt-leb}
use lib.Dec.{T, leb}
use lib.ListN.{length, get_or, set}
use Rattle.std.specs.Bool.{MatchBool}
use Rattle.std.specs.List.{AllWithin, HoldsAt, range_with_len}
use Rattle.std.proofs.lemmas.List.FromFn.{length-range_with_len, get_or-range_with_len}
use Rattle.base.specs.Choose.{pick}
use Rattle.base.specs.Lists.{upto}
use Rattle.base.proofs.Bools.{is, is-not, is_true, is_false}
use Rattle.base.proofs.Lists.{in-upto, upto_in, every_in, in-every}
use Rattle.job.specs.Job.{Job}
use Rattle.job.specs.Format.{claims, literals, workers, questions, job_of}
use Rattle.job.proofs.Written.{literals_count, questions_count}
use Rattle.job.specs.Accepted.{WellFormed}
use Rattle.table.specs.Questions.{asked_by, count_in, Listed}
use Rattle.table.specs.Layout.{answered, answered_at}
use Rattle.turn.proofs.Following.{answered-read}
use Rattle.turn.specs.Turn.{kind_number, turn, run_table, run_kinds}
use Rattle.calls.specs.Calls.{counted}
use Rattle.turn.specs.Ready.{Ready}
use Rattle.turn.specs.KeptSet.{Keeps, Done}
use Rattle.calls.specs.Promise.{bound}
use Rattle.turn.specs.declared.Kept.{Kept}
use Rattle.turn.specs.declared.Kind.{Kind}
use Rattle.calls.proofs.Running.{Partly, partly-start, partly-next, partly-room, partly_end}
use Rattle.listing.specs.Finish.{answered_all, next_worker, finish_turns, most}

abbrev pub done : Job → List ℕ → ℕ → Bool
done j t w = leb (length (asked_by j w)) (answered j t w)

-- whether all is answered, by the counts that were read of each worker
module _ (s t asked : List ℕ) (listed : Listed (job_of s) asked) {n : ℕ} (is_n : n ≡ claims s) where
  abbrev pub Met : ℕ → Type 0
  Met w = count_in asked w ≤ get_or t (answered_at n w) 0

  abbrev pub Short : ℕ → Type 0
  Short w = get_or t (answered_at n w) 0 < count_in asked w

  met : (w : ℕ) → w < workers s → Met w → T (done (job_of s) t w)
  unfolding job_of
  met w h e =
      is _ (le-leb (length (asked_by (job_of s) w)) (answered (job_of s) t w) (omega (arith, e, listed.counts w h, answered-read s t w is_n refl)))

  short : (w : ℕ) → w < workers s → Short w → T (done (job_of s) t w) → ⊥
  unfolding job_of
  short w h e =
      is-not _ (lt-leb (length (asked_by (job_of s) w)) (answered (job_of s) t w) (omega (arith, e, listed.counts w h, answered-read s t w is_n refl)))

  abbrev each : List ℕ
  each = range_with_len 0 (workers s)

  at : (P : ℕ → Type 0) (k : ℕ) → k < workers s → P (get_or each k 0) → P k
  at P k h = subst P {x = get_or each k 0} {y = k} (omega (arith, get_or-range_with_len 0 (workers s) k 0 h))

  pub each_worker :
      {r : Bool} → MatchBool r (AllWithin Met each 0 (length each)) ((k : ℕ) × (k < length each) × HoldsAt Short each k)
      → r ≡ answered_all (job_of s) t
  unfolding answered_all job_of
  each_worker {r = true} h =
      sym (is_true _ (in-every (done (job_of s) t) (upto (workers s)) (λ w i. let l = upto_in w (workers s) i in met w l (at Met w l (h w 0 (omega arith) (omega (arith, length-range_with_len 0 (workers s))))))))
  each_worker {r = false} h =
      let l : h.0 < workers s = omega (arith, h.1, length-range_with_len 0 (workers s)) in
      sym (is_false _ (λ e. short h.0 l (at Short h.0 l (h.2 0)) (every_in (done (job_of s) t) (upto (workers s)) e h.0 (in-upto h.0 (workers s) l))))

-- the worker after w
pub next_first : (s : List ℕ) (w : ℕ) → w + 1 ≡ workers s → 0 ≡ next_worker (job_of s) w
unfolding next_worker pick job_of
next_first s w e = rw (eq-eqb _ _ e)

pub next_more : (s : List ℕ) (w : ℕ) → (w + 1 ≡ workers s → ⊥) → w + 1 ≡ next_worker (job_of s) w
unfolding next_worker pick job_of
next_more s w n = rw (ne_eqb _ _ n)

-- the turns still to come, by what was seen
module _ (j : Job) (t : List ℕ) where
  pub turns_none : (n w : ℕ) → n ≤ 0 → finish_turns n j t w ≡ []
  unfolding finish_turns
  turns_none zero w h = refl
  turns_none (suc n) w h = absurd (omega arith)

  pub turns-stop : (n w : ℕ) → true ≡ answered_all j t → finish_turns n j t w ≡ []
  unfolding finish_turns pick
  turns-stop zero w e = refl
  turns-stop (suc n) w e = rw (sym e)

  pub turns_more : (m n w : ℕ) → m ≡ n + 1 → false ≡ answered_all j t → finish_turns m j t w ≡ w ∷ finish_turns n j (turn j t w).table (next_worker j w)
  unfolding finish_turns pick
  turns_more zero n w h e = absurd (omega arith)
  turns_more (suc m) n w h e =
      let f : m ≡ n = omega arith in
      rw (sym e) (ap (λ (k : ℕ). w ∷ finish_turns k j (turn j t w).table (next_worker j w)) f)

abbrev pub finishing : List ℕ → List ℕ → List ℕ
finishing s t = finish_turns (most (job_of s)) (job_of s) t 0

pub record Going (s t₀ counts₀ members₀ : List ℕ) (left w : ℕ) (t counts : List ℕ) (kept : Kept) (place members : List ℕ) : Type 0 where
  pub most : ℕ
  pub part : Partly s t₀ counts₀ (finishing s t₀) members₀ most (finish_turns left (job_of s) t w) t counts kept place members
  pub few : most + left ≤ 8589934592
  pub low : w < workers s

module _ (s t₀ counts₀ members₀ : List ℕ) where
  pub going_start :
      {index : List ℕ} → Ready s index t₀ → {kept : Kept} {place : List ℕ} → Keeps (job_of s) t₀ kept place members₀
      → ((k : ℕ) → get_or counts₀ k 0 < 4294967296) → {left : ℕ} → left ≡ most (job_of s) → left < 4294967296 → Going s t₀ counts₀ members₀ left 0 t₀ counts₀ kept place members₀
  going_start r {kept} {place} k few {left} is l =
      record {
        most = 4294967296;
        part =
            subst (λ (n : ℕ). Partly s t₀ counts₀ (finishing s t₀) members₀ 4294967296 (finish_turns n (job_of s) t₀ 0) t₀ counts₀ kept place members₀) (sym is)
            (partly-start s t₀ counts₀ (finishing s t₀) members₀ r k refl (λ i. omega (arith, few i)));
        few = omega arith;
        low = omega (arith, r.job.sized.workers_least);
      }

  module _ {left w : ℕ} {t counts : List ℕ} {kept : Kept} {place members : List ℕ} (p : Going s t₀ counts₀ members₀ left w t counts kept place members) where
    pub going_none : left ≤ 0 → (counts ≡ counted counts₀ (run_kinds (job_of s) t₀ (finishing s t₀))) × (t ≡ run_table (job_of s) t₀ (finishing s t₀))
    going_none h = partly_end s p.part (turns_none (job_of s) t left w h)

    pub going-stop : true ≡ answered_all (job_of s) t → (counts ≡ counted counts₀ (run_kinds (job_of s) t₀ (finishing s t₀))) × (t ≡ run_table (job_of s) t₀ (finishing s t₀))
    going-stop e = partly_end s p.part (turns-stop (job_of s) t left w e)

    pub going-next :
        WellFormed s → {rest : ℕ} → left ≡ rest + 1 → false ≡ answered_all (job_of s) t → {x : Kind} {k : Kept} {u place' members' : List ℕ} → Done (job_of s) (turn (job_of s) t w) x k u place' members'
        → {next : List ℕ} → next ≡ set counts (kind_number x) (get_or counts (kind_number x) 0 + 1)
        → {v : ℕ} → (v ≡ next_worker (job_of s) w) × (v < workers s) → Going s t₀ counts₀ members' rest v u next k place' members'
    going-next good {rest} some more {x} {k} {u} done count {v} after =
        let first : finish_turns left (job_of s) t w ≡ w ∷ finish_turns rest (job_of s) u v =
        turns_more (job_of s) t left rest w some more
        ∙ ap₂ (λ (y : List ℕ) (z : ℕ). w ∷ finish_turns rest (job_of s) y z) (sym done.made.table_is) (sym after.0) in
        record {
          most = p.most + 1;
          part = partly-next s p.part good p.low done first count;
          few = omega (arith, p.few);
          low = after.1;
        }

    pub going_on :
        WellFormed s → {rest : ℕ} → left ≡ rest + 1 → false ≡ answered_all (job_of s) t → {x : Kind} {k : Kept} {u place' members' : List ℕ} → Done (job_of s) (turn (job_of s) t w) x k u place' members'
        → {next : List ℕ} → next ≡ set counts (kind_number x) (get_or counts (kind_number x) 0 + 1) → length members' ≡ length members
        → {v : ℕ} → (v ≡ next_worker (job_of s) w) × (v < workers s) → Going s t₀ counts₀ members₀ rest v u next k place' members'
    going_on good some more done count same after =
        let g = going-next good some more done count after in
        record { most = g.most; part = partly-room s g.part (same ∙ p.part.wide); few = g.few; low = g.low }

-- the count of turns, from the counts that were read
module _ (s : List ℕ) (good : WellFormed s) {l a q w : ℕ} (is_l : l ≡ literals s) (is_a : a ≡ claims s) (is_q : q ≡ questions s) (is_w : w ≡ workers s) where
  pub most-small : (2 * l + a + 3 * q) * w < 4294967296
  most-small =
      let x : 2 * l + a + 3 * q ≤ 65536 = omega (arith, good.sized) in
      let y : w ≤ 32 = omega (arith, good.sized) in
      omega (arith, mul-le-mul_right w x)

  pub most_is : (2 * l + a + 3 * q) * w ≡ most (job_of s)
  unfolding job_of
  most_is =
      let x : 2 * l + a + 3 * q ≡ bound (job_of s) = omega (arith, literals_count s, good.bodies, questions_count s) in
      ap₂ (λ (m n : ℕ). m * n) x is_w

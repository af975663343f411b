-- The pairs of a record, one by one. Assumes nothing.
--   Following           i pairs of r hold; t is the table after their turns from t₀, counts their tally
--   following-start, -next, -more, -past, -other, -all   nothing yet; a pair that holds, with whatever room for members; the same in room that
--                       stays as long; a worker past the last; another kind; all
use Prim.Native.Nat.{ℕ, suc, ◌+◌, ◌*◌, ◌≤◌, ◌<◌}
use mathlib.Core.Path.{◌≡◌, refl, sym, ◌∙◌, ap}
use mathlib.Core.Bool.{false}
use mathlib.Core.List.{List, ◌∷◌}
use native.Mathlib.Omega.{arith}
use lib.ListN.{length, get_or, set, drop, replicate, length-drop, drop_of_length-le}
use Rattle.base.proofs.Zeros.{zeros_at}
use Rattle.job.specs.Format.{workers, job_of}
use Rattle.job.specs.Accepted.{WellFormed}
use Rattle.table.specs.Start.{start_words}
use Rattle.turn.specs.Turn.{kind_number, turn}
use Rattle.turn.specs.Ready.{Ready}
use Rattle.turn.specs.KeptSet.{Keeps, Done}
use Rattle.turn.specs.declared.Kept.{Kept}
use Rattle.turn.specs.declared.Kind.{Kind}
use Rattle.turn.proofs.Jobs.{job_ok}
use Rattle.calls.specs.Calls.{tally}
use Rattle.calls.proofs.Running.{Partly, partly-start, partly-next, partly-room, partly_end, named-next}
use Rattle.records.specs.Record.{pairs, workers_in, gives, held}
use Rattle.records.proofs.Pairs.{workers-length, workers_at, pair_at, gives-yes, gives-past, gives_other, held_more, held_none, held-few}
use Rattle.records.proofs.Restarted.{start-turn}
use Rattle.recording.specs.Following.{FollowedTo}

pub record Following (s t₀ r members₀ : List ℕ) (i : ℕ) (t counts : List ℕ) (kept : Kept) (place members : List ℕ) : Type 0 where
  pub part : Partly s t₀ (replicate 8 0) (workers_in r) members₀ i (drop i (workers_in r)) t counts kept place members
  pub within : i ≤ pairs r
  pub holding : held (job_of s) t₀ r ≡ i + held (job_of s) t (drop (2 * i) r)
  pub again : start_words (job_of s) t ≡ start_words (job_of s) t₀

module _ (s t₀ r members₀ : List ℕ) where
  pub following-start :
      {index : List ℕ} → Ready s index t₀ → {kept : Kept} {place : List ℕ} → Keeps (job_of s) t₀ kept place members₀
      → {counts : List ℕ} → counts ≡ replicate 8 0 → Following s t₀ r members₀ 0 t₀ counts kept place members₀
  following-start a q z =
      record { part = partly-start s t₀ (replicate 8 0) (workers_in r) members₀ a q z (λ k. omega (arith, zeros_at 8 z k)); within = omega arith; holding = omega arith; again = refl }

  module _ (good : WellFormed s) {i : ℕ} {t counts : List ℕ} {kept : Kept} {place members : List ℕ} (f : Following s t₀ r members₀ i t counts kept place members) (some : i < pairs r) {w : ℕ} (named : w ≡ get_or r (2 * i) 0) where
    here : held (job_of s) t (drop (2 * i) r) ≡ held (job_of s) t (get_or r (2 * i) 0 ∷ get_or r (2 * i + 1) 0 ∷ drop (2 * (i + 1)) r)
    here = ap (held (job_of s) t) (pair_at r i some)

    false_at : gives (job_of s) t (get_or r (2 * i) 0) (get_or r (2 * i + 1) 0) ≡ false → i ≡ held (job_of s) t₀ r
    false_at e = omega (arith, f.holding, here, held_none (job_of s) t (get_or r (2 * i) 0) (get_or r (2 * i + 1) 0) (drop (2 * (i + 1)) r) e)

    pub following-past : {ns : List ℕ} → workers s ≤ w → FollowedTo s t₀ r (record { held = i; tally = ns }) t
    unfolding job_of
    following-past l =
        record {
          count = false_at (gives-past (job_of s) t _ _ (omega (arith, named)));
          all = λ e. absurd (omega arith);
          again = f.again;
        }

    module _ (low : w < workers s) {x : Kind} {k : Kept} {u place' members' : List ℕ} (done : Done (job_of s) (turn (job_of s) t w) x k u place' members') where
      -- the turn of pair i, by the pair's own worker
      kind-is : kind_number x ≡ kind_number (turn (job_of s) t (get_or r (2 * i) 0)).kind
      kind-is = ap kind_number done.made.kind_is ∙ ap (λ (v : ℕ). kind_number (turn (job_of s) t v).kind) named

      restart : start_words (job_of s) u ≡ start_words (job_of s) t₀
      unfolding job_of
      restart = ap (start_words (job_of s)) done.made.table_is ∙ (start-turn (job_of s) (job_ok s good) t f.part.range w low ∙ f.again)

      pub following-other : {ns : List ℕ} → (kind_number x ≡ get_or r (2 * i + 1) 0 → ⊥) → FollowedTo s t₀ r (record { held = i; tally = ns }) u
      unfolding job_of
      following-other n =
          record {
            count = false_at (gives_other (job_of s) t _ _ (omega (arith, named)) (λ e. n (kind-is ∙ sym e)));
            all = λ e. absurd (omega arith);
            again = restart;
          }

      pub following-next :
          kind_number x ≡ get_or r (2 * i + 1) 0 → {next : List ℕ} → next ≡ set counts (kind_number x) (get_or counts (kind_number x) 0 + 1)
          → Following s t₀ r members' (i + 1) u next k place' members'
      unfolding job_of
      following-next is count =
          let g = gives-yes (job_of s) t (get_or r (2 * i) 0) (get_or r (2 * i + 1) 0) (omega (arith, named)) (sym is ∙ kind-is) in
          let next-held : held (job_of s) t (drop (2 * i) r) ≡ suc (held (job_of s) u (drop (2 * (i + 1)) r)) =
          here ∙ (held_more (job_of s) t _ _ _ g ∙ ap (λ (y : List ℕ). suc (held (job_of s) y (drop (2 * (i + 1)) r))) (ap (λ (v : ℕ). (turn (job_of s) t v).table) (sym named) ∙ sym done.made.table_is)) in
          record {
            part = partly-next s f.part good low done (named-next (workers_in r) (omega (arith, workers-length r)) (named ∙ sym (workers_at r i some))) count;
            within = omega arith;
            holding = omega (arith, f.holding, next-held);
            again = restart;
          }

      pub following-more :
          kind_number x ≡ get_or r (2 * i + 1) 0 → {next : List ℕ} → next ≡ set counts (kind_number x) (get_or counts (kind_number x) 0 + 1)
          → length members' ≡ length members → Following s t₀ r members₀ (i + 1) u next k place' members'
      following-more is count same =
          let g = following-next is count in
          record { part = partly-room s g.part (same ∙ f.part.wide); within = g.within; holding = g.holding; again = g.again }

  pub following-all :
      {i : ℕ} {t counts : List ℕ} {kept : Kept} {place members : List ℕ} → Following s t₀ r members₀ i t counts kept place members → {n : ℕ} → n ≡ pairs r → n ≤ i
      → FollowedTo s t₀ r (record { held = n; tally = counts }) t
  unfolding tally
  following-all {i} {t} {counts} f {n} e h =
      let none = held-few (job_of s) t (drop (2 * i) r) (omega (arith, length-drop (2 * i) r)) in
      let p = partly_end s f.part (drop_of_length-le (workers_in r) {i = i} (omega (arith, workers-length r))) in
      record { count = omega (arith, f.holding, none, f.within); all = λ q. (p.1, p.0); again = f.again }

-- A turn on the words is a step of the abstract theory, or is idle where no step could be made. Assumes nothing.
use mathlib.Core.Path.{◌≡◌, refl, ◌∙◌, ap}
use mathlib.Core.List.{List}
use Prim.Native.Nat.{ℕ, ◌+◌, ◌<◌}
use native.Mathlib.Omega.{arith}
use Rattle.base.specs.Lists.{is_in}
use Rattle.base.specs.Graph.{Reach}
use Rattle.base.proofs.Paths.{trans}
use Rattle.base.proofs.Choose.{t?}
use Rattle.base.proofs.Lists.{In}
use Rattle.job.specs.Job.{Job}
use Rattle.table.specs.Layout as W
use Rattle.table.specs.Newest.{with_newest, NewestKept}
use Rattle.table.specs.Ranges.{InRange}
use Rattle.table.proofs.Keeping.{with-low, with-mark, with-cursor, with_number, with-awaited, with-answered, with_same}
use Rattle.waiting.specs.State.{Edge, Newest, Inv}
use Rattle.waiting.specs.Steps as S
use Rattle.waiting.proofs.Basics.{to-newest}
use Rattle.waiting.proofs.Alike.{Alike, step-alike}
use Rattle.turn.proofs.Behind.{same}
use Rattle.turn.specs.Turn.{kind_number, Turned, reached, completed_mark, mark_all, base_turn, turn, keeping}
use Rattle.turn.specs.declared.Kind.TheVariants.{Idle, Completed}
use Rattle.turn.proofs.Jobs.{JobOk}
use Rattle.steps.proofs.View.{low_in, low_cong, view}
use Rattle.steps.proofs.View as Q
use Rattle.turn.proofs.Leading.{in-low}
use Rattle.steps.proofs.Edges.{reach_in, in_reach}
use Rattle.turn.proofs.Cases.{AtNewest, Full, Case, wakes, sleeps, rests, answers, opens-asked, waits_asked, completes, sticks, passes, skips, opens, takes, waits, turn-case}
use Rattle.turn.proofs.Words as X
use Rattle.turn.proofs.Range.{mark_range}
use Rattle.steps.proofs.Outcomes.{Outcome, idle, acts, of-own, full-next, next-full, own_of, newest_view}
use Rattle.steps.proofs.AskOutcome as A
use Rattle.steps.proofs.PassOutcome as P
use Rattle.steps.proofs.Takeover.{takes_outcome}

module _ (j : Job) (J : JobOk j) (t : List ℕ) (R : InRange j t) (w : ℕ) (small : w < j.workers) where
  -- w awaits nothing, and n is its newest claim
  module _ {n : ℕ} (at : AtNewest j t w n) where
    at-claim : S.AtClaim (view j t) w n
    at-claim = record { free = low_in (W.awaited j t w) small ∙ at.free; newest = newest_view j J t small at }

    abbrev r : List ℕ
    r = reached j t n

    completes_outcome : ((x : ℕ) → In x r → (W.mark t x ≡ w + 1) × Full j t x) → Outcome j t w (record { kind = Completed; table = mark_all (completed_mark j t) r t })
    completes_outcome all =
        acts (λ e. omega (arith, ap kind_number e))
        (S.completes {n = n}
        (record {
          at = at-claim;
          all = λ {x = x} p. let i = inside p in own_of j J t small (low_r x i) (all x i).0;
          full = λ {x = x} p. full-next j t x (all x (inside p)).1;
          marks = λ x. mark x (t? (is_in x r));
          opened = X.marks-opened j f r t low_r;
          numbers = λ x. low_cong _ _ (λ l. X.marks-number j f r t low_r x);
          workers = Q.workers (λ u l. X.marks-awaited j f r t low_r u) (λ u l. X.marks-answered j f r t low_r u);
          literals = Q.fades J (λ x l d. X.marks_out j f r t low_r x (λ i. omega (arith, (all x i).0, J.few))) (λ x l. X.marks-cursor j f r t low_r x);
        }))
      where
        f : ℕ → ℕ
        f = completed_mark j t

        inside : {x : ℕ} → Reach (Edge (view j t)) n x → In x r
        inside p = reach_in j J t at.low p

        low_r : (x : ℕ) → In x r → x < j.claims
        low_r x i = in-low j J t x at.low i

        mark : (x : ℕ) → Dec (In x r) → S.CompletedMark (view j t) (view j (mark_all f r t)) n x
        mark x (yes i) =
            S.CompletedMark.completed (in_reach j J t at.low i)
            (omega (arith, low_in (W.mark (mark_all f r t) x) (low_r x i), X.marks_in f r t x (omega (arith, R.room, low_r x i)) i, (mark_range j t x).0))
        mark x (no m) = S.CompletedMark.kept (λ p. m (inside p)) (low_cong _ _ (λ l. X.marks_out j f r t low_r x m))

    sticks_outcome : Inv (view j t) j.workers → (((x : ℕ) → In x r → (W.mark t x ≡ w + 1) × Full j t x) → ⊥) → ((x : ℕ) → In x r → W.mark t x ≡ w + 1 → (Full j t x → ⊥) → ⊥) → Outcome j t w (record { kind = Idle; table = t })
    sticks_outcome I e f = idle refl refl go
      where
        N : Newest (view j t) w n
        N = at-claim.newest

        z : (view j t).awaited w ≡ 0
        z = at-claim.free

        go : S.Ready (view j t) w → ⊥
        go (S.wakes a d) = omega (arith, z, a)
        go (S.answers k d) = k.none N.its
        go (S.opens k d) = k.none N.its
        go (S.awaits k d) = k.none N.its
        go (S.completes k g) =
            e
            (λ x i.
            let p = g x (trans (to-newest I N k.newest.its) (in_reach j J t at.low i)) in
            let o = of-own j t p.0 in
            (o.1, next-full j t x R o.0 p.1))
        go (S.passes {c = c} k) =
            let o = of-own j t k.its in
            f c (reach_in j J t at.low (trans (to-newest I k.at.newest N.its) k.path)) o.1 (λ l. omega (arith, k.next, full-next j t c l))

  case_outcome : Inv (view j t) j.workers → (r : Turned) → Case j t w r → Outcome j t w r
  case_outcome I r (wakes a b) = A.wakes_outcome j J t R w small a b
  case_outcome I r (sleeps a b) = A.sleeps_outcome j J t R w small a b
  case_outcome I r (rests a b c) = A.rests_outcome j J t R w small a b c
  case_outcome I r (answers a b) = A.answers_outcome j J t R w small a b
  case_outcome I r (opens-asked a b) = A.opens_outcome j J t R w small a b
  case_outcome I r (waits_asked a b c) = A.waits_outcome j J t R w small a b c
  case_outcome I r (completes a b) = completes_outcome a b
  case_outcome I r (sticks a b c) = sticks_outcome a I b c
  case_outcome I r (passes a b f) = P.passes_outcome j J t R w small a b f
  case_outcome I r (skips a b) = P.skips_outcome j J t R w small a b
  case_outcome I r (opens a b f) = P.opens_outcome j J t R w small a b f
  case_outcome I r (takes a b c f) = takes_outcome j J t R w small a b f c
  case_outcome I r (waits a b c f) = P.waits_outcome j J t R w small a b c f

  -- third words aren't part of the view
  kept_outcome : NewestKept j t → (r : Turned) → Outcome j t w r → Outcome j t w (keeping j r)
  kept_outcome k r (idle e i n) = idle e (ap (with_newest j.claims j.workers) i ∙ with_same j k) n
  kept_outcome k r (acts n s) = acts n (step-alike alike s)
    where
      a : ℕ
      a = j.claims

      u : List ℕ
      u = r.table

      alike : Alike (view j u) (view j (keeping j r).table)
      alike =
          record {
            claims = Q.claims (with-mark a u j.workers) (with_number a u j.workers) (with-low a u j.workers W.opened_word (omega arith));
            workers = Q.workers (λ v l. with-awaited a u j.workers v) (λ v l. with-answered a u j.workers v);
            literals = Q.stays J (λ x l. same (with-mark a u j.workers x l)) (with-cursor a u j.workers);
          }

  pub turn_outcome : NewestKept j t → Inv (view j t) j.workers → Outcome j t w (turn j t w)
  unfolding turn
  turn_outcome k I = kept_outcome k (base_turn j t w) (case_outcome I (base_turn j t w) (turn-case j t w))

-- A turn in which a worker takes over what the claim it works on reaches. Assumes nothing.
use mathlib.Core.Path.{◌≡◌, refl, ◌∙◌, ap}
use mathlib.Core.Logic.{by_cases}
use mathlib.Core.Bool.{not}
use mathlib.Core.List.{List}
use Prim.Native.Nat.{ℕ, ◌+◌, ◌-◌, ◌<◌}
use native.Mathlib.Omega.{arith}
use lib.Dec.{T}
use Rattle.base.specs.Lists.{is_in}
use Rattle.base.specs.Graph.{Plus, old, new}
use Rattle.base.proofs.Paths.{map as map-path}
use Rattle.base.proofs.Choose.{t?}
use Rattle.base.proofs.Lists.{In, in-keep, keep_in}
use Rattle.job.specs.Job.{Job}
use Rattle.table.specs.Layout as W
use Rattle.table.specs.Ranges.{InRange}
use Rattle.waiting.specs.State.{Edge}
use Rattle.waiting.specs.Steps as S
use Rattle.turn.specs.Turn.{kind_number, reached, mark_all, meets}
use Rattle.turn.specs.declared.Kind.TheVariants.{Took}
use Rattle.turn.proofs.Tests.{not_eq, eq-not}
use Rattle.turn.proofs.Jobs.{JobOk}
use Rattle.steps.proofs.View.{low_in, low_cong, low_pos, Alikes, view}
use Rattle.steps.proofs.View as Q
use Rattle.turn.proofs.Behind.{same, below}
use Rattle.turn.proofs.Leading.{in-low, in-open}
use Rattle.steps.proofs.Edges.{reach_in, in_reach}
use Rattle.turn.proofs.Cases.{AtLeft, Others, literal, moved, Clear, taken}
use Rattle.turn.proofs.Words as X
use Rattle.turn.proofs.Range.{c-low, b-low}
use Rattle.steps.proofs.Meets.{owner-low, meets-within}
use Rattle.steps.proofs.Outcomes.{Outcome, acts}
use Rattle.steps.proofs.PassOutcome.{at_literal, moved-long, moved_passes, moved-alike, moved-claims, held, other-holder}

-- who is taken: open, and reached once c has passed its literal
pub record Taken (j : Job) (t : List ℕ) (c x : ℕ) : Type 0 where
  pub inside : In x (reached j (moved t c) c)
  pub low : x < j.claims
  pub begun : W.mark t x ≡ 0 → ⊥
  pub still : W.mark t x < W.true_mark

module _ (j : Job) (J : JobOk j) (t : List ℕ) (R : InRange j t) (w : ℕ) (small : w < j.workers) {n c : ℕ} (at : AtLeft j t w n c) where
  abbrev b : ℕ
  b = literal j t c

  abbrev u : List ℕ
  u = moved t c

  abbrev v : ℕ
  v = W.cursor t c + 1

  abbrev cs : List ℕ
  cs = taken j t c

  low : c < j.claims
  low = c-low J R small at

  pub taken_in : (x : ℕ) → In x (taken j t c) → Taken j t c x
  taken_in x i =
      let k = keep_in (λ x. not (W.fresh t x)) x (reached j u c) i in
      record {
        inside = k.0;
        low = in-low j J u x low k.0;
        begun = not_eq (W.mark t x) 0 k.1;
        still = omega (arith, in-open j J u x low k.0 (omega (arith, X.cursor-mark j t c v c, at.its, J.few)), X.cursor-mark j t c v x);
      }

  module _ (o : Others t w b) (free : Clear j t c) where
    to_plus : (x y : ℕ) → Edge (view j u) x y → Plus (Edge (view j t)) c b x y
    to_plus x y e =
        go ((moved_passes j J t R w small at free u (moved-alike j J t R w small at) (λ x l. refl)).more e.passed) (omega (arith, e.ahead, (moved-claims j J t R w small at).marks y))
      where
        go : {x y : ℕ} → Plus (view j t).Passed c b x y → (view j t).mark y < W.true_mark → Plus (Edge (view j t)) c b x y
        go (old p) l = old (record { passed = p; ahead = l })
        go new l = new

    of_plus : (x y : ℕ) → Plus (Edge (view j t)) c b x y → Edge (view j u) x y
    of_plus x y (old e) =
        record {
          passed = (moved_passes j J t R w small at free u (moved-alike j J t R w small at) (λ x l. refl)).less (old e.passed);
          ahead = omega (arith, e.ahead, (moved-claims j J t R w small at).marks y);
        }
    of_plus x y new =
        record {
          passed = (moved_passes j J t R w small at free u (moved-alike j J t R w small at) (λ x l. refl)).less new;
          ahead = omega (arith, (held j J t R w small at o).still, (moved-claims j J t R w small at).marks b);
        }

    taken-mark : (x : ℕ) → S.TakenMark (view j t) (view j (mark_all (λ x. w + 1) cs u)) w c b x
    taken-mark x = go (t? (is_in x cs))
      where
        go : Dec (In x cs) → S.TakenMark (view j t) (view j (mark_all (λ x. w + 1) cs u)) w c b x
        go (yes i) =
            let k = taken_in x i in
            let z = k.begun in
            let m = low_in (W.mark t x) k.low in
            S.taken (map-path to_plus (in_reach j J u low k.inside)) (omega arith) (omega (arith, k.still))
            (low_in _ k.low ∙ X.marks_in (λ x. w + 1) cs u x (omega (arith, R.room, moved-long j J t R w small at, k.low)) i ∙ omega arith)
        go (no n) =
            S.kept
            (λ r p q.
            let l = low_pos {n = j.claims} {i = x} {v = W.mark t x} p in
            n
            (in-keep (λ x. not (W.fresh t x)) x (reached j u c) (reach_in j J u low (map-path of_plus r)) (eq-not (W.mark t x) 0 (λ e. omega (arith, l.1)))))
            (low_cong _ _ (λ l. X.marks_out j (λ x. w + 1) cs u (λ y i. (taken_in y i).low) x n ∙ X.cursor-mark j t c v x))

    pub takes_outcome : T (meets j.workers j t w (W.mark t b - 1)) → Outcome j t w (record { kind = Took; table = mark_all (λ d. w + 1) (taken j t c) (moved t c) })
    takes_outcome g =
        acts (λ e. omega (arith, ap kind_number e))
        (S.took {b = b}
        (record {
          at = at_literal j J t R w small at;
          holder = W.mark t b - 1;
          held = held j J t R w small at o;
          other = other-holder j J t R w small at o;
          meets = meets-within j t R w j.workers (W.mark t b - 1) holder-low g;
          marks = taken-mark;
          opened = X.marks-opened j (λ x. w + 1) cs u low_cs ∙ X.cursor-opened j t c v;
          numbers = λ x. low_cong _ _ (λ l. X.marks-number j (λ x. w + 1) cs u low_cs x ∙ X.cursor-number j t c v x);
          workers =
              Q.workers (λ y l. X.marks-awaited j (λ x. w + 1) cs u low_cs y ∙ X.cursor-awaited j t c v low y)
              (λ y l. X.marks-answered j (λ x. w + 1) cs u low_cs y ∙ X.cursor-answered j t c v low y);
          literals = moved_passes j J t R w small at free (mark_all (λ x. w + 1) cs u) alike (λ x l. X.marks-cursor j (λ x. w + 1) cs u low_cs x);
        }))
      where
        alike : Alikes j t (mark_all (λ x. w + 1) cs u)
        alike x l =
            by_cases (t? (is_in x cs))
            (λ i. below (taken_in x i).still (omega (arith, X.marks_in (λ x. w + 1) cs u x (omega (arith, R.room, moved-long j J t R w small at, l)) i, J.few)))
            (λ n. same (X.marks_out j (λ x. w + 1) cs u (λ y i. (taken_in y i).low) x n ∙ X.cursor-mark j t c v x))

        low_cs : (y : ℕ) → In y cs → y < j.claims
        low_cs y i = (taken_in y i).low

        holder-low : W.mark t b - 1 < j.workers
        holder-low =
            let z = o.opened in
            omega (arith, owner-low j t R b (b-low J R small at) o.still)

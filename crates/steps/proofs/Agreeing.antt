-- Tables that agree on the words used: what a turn looks at is the same in both, and stores keep them so. Assumes nothing.
--   pick_two        two choices by one test, compared way by way
--   agree-back      the other way round
--   agree-set, agree_open, agree-marks, agree_with   stores in both
--   mark_same, ..   the words of the job's claims and workers
--   clear_same, reached_same, passed_same, newest_same, sought_same, completed_same, meets_same   what a turn computes
--   owner-below     an open claim's owner is a worker of the job
use Prim.Native.Nat.{ℕ, zero, suc, ◌+◌, ◌-◌, ◌≤◌, ◌<◌}
use mathlib.Core.Path.{◌≡◌, refl, sym, ◌∙◌, ap, ap₂}
use mathlib.Core.Bool.{Bool, true, false, ◌&&◌}
use mathlib.Core.List.{List, [], ◌∷◌}
use mathlib.Core.Logic.{by_cases}
use native.Mathlib.Omega.{arith}
use native.Mathlib.Decide.{ℕ_discrete}
use borrow.Author.Tests.{eqb-false, leb-false}
use lib.Dec.{T, leb, eqb}
use lib.ListN.{length, set, length-set}
use lib.Seq.{get_or-set_same, get_or-set_other}
use Rattle.base.specs.Choose.{pick}
use Rattle.base.specs.Lists.{upto, every, is_in}
use Rattle.base.proofs.Bools.{same}
use Rattle.base.proofs.Lists.{In, in_head, in_tail, keep_same}
use Rattle.base.proofs.Span.{span_ext}
use Rattle.job.specs.Job.{Job}
use Rattle.semantics.specs.Model.{program_of, verdict, exchange, known_of}
use Rattle.table.specs.Layout.{opened_word, mark_word, cursor_word, number_word, awaited_word, answered_word, newest_at, mark, cursor, number, awaited, answered, opened, true_mark, value_of, mark_of, values}
use Rattle.table.specs.Newest.{newest, sought, with_newest}
use Rattle.table.specs.Ranges.{InRange}
use Rattle.table.proofs.NewestOf.{newest_one, newest_like, newest_of}
use Rattle.table.proofs.Keeping as K
use Rattle.turn.specs.Turn.{lits, clear, reached, all_passed, completed_mark, open_claim, mark_all, meets}
use Rattle.turn.proofs.Behind as B
use Rattle.turn.proofs.Jobs.{JobOk}
use Rattle.turn.proofs.KeptTables.{Grows, reached_grow}
use Rattle.turn.proofs.Reached.{reached-members}
use Rattle.steps.specs.Agreeing.{Agree}
use Rattle.steps.proofs.Meets.{owner-low}

pub pick_two {ℓ} : {X : Type 0} (P : X → X → Type ℓ) (b : Bool) {x x' y y' : X} → (b ≡ true → P x x') → (b ≡ false → P y y') → P (pick b x y) (pick b x' y')
unfolding pick
pick_two P true f g = f refl
pick_two P false f g = g refl

pub every_same : (p q : ℕ → Bool) (s : List ℕ) → ((d : ℕ) → In d s → p d ≡ q d) → every p s ≡ every q s
unfolding every
every_same p q [] h = refl
every_same p q (x ∷ s) h = ap₂ ◌&&◌ (h x (in_head x s)) (every_same p q s (λ d i. h d (in_tail d x s i)))

pub agree-back : {j : Job} {t u : List ℕ} → Agree j t u → Agree j u t
agree-back a = record { long = a.longer; longer = a.long; same = λ i l. sym (a.same i l) }

-- stores
pub agree-set : {j : Job} {t u : List ℕ} (i : ℕ) {v v' : ℕ} → Agree j t u → v ≡ v' → Agree j (set t i v) (set u i v')
agree-set {j} {t} {u} i {v} {v'} a e =
    record {
      long = omega (arith, a.long, length-set t i v);
      longer = omega (arith, a.longer, length-set u i v');
      same = λ k l.
          by_cases (ℕ_discrete k i)
          (λ q.
          rw q (get_or-set_same t i v 0 (omega (arith, a.long)) ∙ (e ∙ sym (get_or-set_same u i v' 0 (omega (arith, a.longer))))))
          (λ q. get_or-set_other t i k v 0 q ∙ (a.same k l ∙ sym (get_or-set_other u i k v' 0 q)));
    }

pub agree-marks : {j : Job} (f g : ℕ → ℕ) (cs : List ℕ) → ((c : ℕ) → In c cs → f c ≡ g c) → {t u : List ℕ} → Agree j t u → Agree j (mark_all f cs t) (mark_all g cs u)
unfolding mark_all
agree-marks f g [] h a = a
agree-marks f g (c ∷ cs) h a = agree-marks f g cs (λ d i. h d (in_tail d c cs i)) (agree-set (mark_word c) a (h c (in_head c cs)))

module _ {j : Job} {t u : List ℕ} (a : Agree j t u) where
  -- the words
  pub mark_same : (c : ℕ) → c < j.claims → mark t c ≡ mark u c
  mark_same c l = a.same (mark_word c) (omega arith)

  pub cursor_same : (c : ℕ) → c < j.claims → cursor t c ≡ cursor u c
  cursor_same c l = a.same (cursor_word c) (omega arith)

  pub number_same : (c : ℕ) → c < j.claims → number t c ≡ number u c
  number_same c l = a.same (number_word c) (omega arith)

  pub awaited_same : (w : ℕ) → w < j.workers → awaited j t w ≡ awaited j u w
  awaited_same w l = a.same (awaited_word j w) (omega arith)

  pub answered_same : (w : ℕ) → w < j.workers → answered j t w ≡ answered j u w
  answered_same w l = a.same (answered_word j w) (omega arith)

  pub opened_same : opened t ≡ opened u
  opened_same = a.same opened_word (omega arith)

  pub agree_open : (w c : ℕ) → Agree j (open_claim t w c) (open_claim u w c)
  unfolding open_claim
  agree_open w c =
      let n : opened t + 1 ≡ opened u + 1 = ap (λ (x : ℕ). x + 1) opened_same in
      agree-set (number_word c) (agree-set (cursor_word c) (agree-set (mark_word c) (agree-set opened_word a n) refl) refl) n

  pub passed_same : (c : ℕ) → c < j.claims → all_passed j t c ≡ all_passed j u c
  unfolding all_passed
  passed_same c h = ap (λ (k : ℕ). eqb k (length (lits j c))) (cursor_same c h)

  -- the newest
  pub newest_same : (cs : List ℕ) → ((c : ℕ) → In c cs → c < j.claims) → newest t cs ≡ newest u cs
  newest_same cs h = newest_one (newest_like (λ d i. i) (λ d i. i) (λ d i. sym (number_same d (h d i))) (newest_of t cs)) (newest_of u cs)

  pub sought_same : (w : ℕ) → sought j.claims t w ≡ sought j.claims u w
  sought_same = K.sought_same j.claims u t mark_same number_same

  pub agree_with : (n : ℕ) → Agree j (with_newest j.claims n t) (with_newest j.claims n u)
  unfolding with_newest
  agree_with zero = a
  agree_with (suc w) = agree-set (newest_at j.claims w) (agree_with w) (sought_same w)

  -- the marks of a completion
  pub completed_same : (c : ℕ) → completed_mark j t c ≡ completed_mark j u c
  unfolding completed_mark values
  completed_same c =
      ap (λ (vs : List ℕ). mark_of (verdict (exchange (known_of vs) (program_of j)) c))
      (span_ext (λ d. value_of (mark t d)) (λ d. value_of (mark u d)) 0 0 j.claims (λ i l. ap value_of (mark_same (0 + i) (omega arith))))

  -- what is led to in t is led to in u
  still-clear : JobOk j → (c k : ℕ) → k ≤ length (lits j c) → T (clear j t c k) → T (clear j u c k)
  still-clear J c k l h = B.clear_of j u c k (λ b. B.clear-not j t c k h (B.behind-kept J (λ x m d. mark_same x m) l b))

  grows : Grows j t u
  grows = record { marks = λ c h. B.same (sym (mark_same c h)); cursors = λ c h. omega (arith, cursor_same c h) }

module _ {j : Job} {t u : List ℕ} (a : Agree j t u) (J : JobOk j) where
  pub clear_same : (c k : ℕ) → k ≤ length (lits j c) → clear j t c k ≡ clear j u c k
  clear_same c k l = same (clear j t c k) (clear j u c k) (still-clear a J c k l) (still-clear (agree-back a) J c k l)

  pub reached_same : (c : ℕ) → c < j.claims → reached j t c ≡ reached j u c
  reached_same c h =
      reached-members j t c h
      ∙ (keep_same (λ d. is_in d (reached j t c)) (λ d. is_in d (reached j u c)) (upto j.claims)
      (λ d i.
      same (is_in d (reached j t c)) (is_in d (reached j u c)) (reached_grow j J t u (grows a) c h d) (reached_grow j J u t (grows (agree-back a)) c h d))
      ∙ sym (reached-members j u c h))

-- the owner of an open claim, in a table in range
pub owner-below : {j : Job} {t : List ℕ} → InRange j t → (b : ℕ) → b < j.claims → leb true_mark (mark t b) ≡ false → eqb (mark t b) 0 ≡ false → mark t b - 1 < j.workers
owner-below {j} {t} R b l z p = omega (arith, owner-low j t R b l (leb-false true_mark (mark t b) z), eqb-false (mark t b) 0 p)

-- who waits for whom, in such a table
pub meets_same : {j : Job} {t u : List ℕ} → Agree j t u → InRange j t → (w n v : ℕ) → v < j.workers → meets n j t w v ≡ meets n j u w v
unfolding meets
meets_same a R w zero v h = refl
meets_same {j} {t} a R w (suc n) v h =
    rw (← awaited_same a v h)
    (ap (pick (eqb v w) true)
    (pick_two ◌≡◌ (eqb (awaited j t v) 0) (λ q. refl)
    (λ q.
    let some = eqb-false (awaited j t v) 0 q in
    let low : awaited j t v - 1 < j.claims = omega (arith, some, R.awaits v h) in
    rw (← mark_same a (awaited j t v - 1) low)
    (pick_two ◌≡◌ (eqb (mark t (awaited j t v - 1)) 0) (λ z. refl)
    (λ z.
    pick_two ◌≡◌ (leb true_mark (mark t (awaited j t v - 1))) (λ y. refl)
    (λ y. meets_same a R w n (mark t (awaited j t v - 1) - 1) (owner-below R (awaited j t v - 1) low y z)))))))

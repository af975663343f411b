-- Where a worker's questions stand in the file: at positions of questions that are its own, and no two at one. Assumes nothing.
use mathlib.Core.Path.{◌≡◌, refl, sym, ◌∙◌, ap}
use mathlib.Core.List.Memᴰ
use mathlib.Core.List.{List, [], ◌∷◌}
use Prim.Native.Nat.{ℕ, zero, suc, ◌+◌, ◌-◌, ◌≤◌, ◌<◌}
use native.Mathlib.Omega.{arith}
use lib.Dec.{T, eqb, eqb→eq, T_not}
use lib.ListN.{length, get_or}
use Rattle.base.specs.Choose.{pick}
use Rattle.base.proofs.Choose.{pick_elim, pick_yes, pick_no}
use Rattle.job.specs.Job.{Job}
use Rattle.job.specs.Encoding.{◌∈◌}
use Rattle.job.specs.declared.Question.{Question}
use Rattle.table.specs.Questions.{positions_of, asked_by, claim_asked, question_claim}

-- position p of w's question n: the first question of the file, or a later one, d of w's before it
data Place (q : Question) (qs : List Question) (k w n p : ℕ) : Type 0 where
  first : q.worker ≡ w → n ≡ 0 → p ≡ k → Place q qs k w n p
  later : (d m : ℕ) → d ≡ pick (eqb q.worker w) 1 0 → n ≡ d + m → m < length (positions_of qs (suc k) w) → p ≡ get_or (positions_of qs (suc k) w) m 0 → Place q qs k w n p

place : (q : Question) (qs : List Question) (k w n : ℕ) → n < length (positions_of (q ∷ qs) k w) → Place q qs k w n (get_or (positions_of (q ∷ qs) k w) n 0)
unfolding positions_of
place q qs k w n l =
    pick_elim (λ s. n < length s → Place q qs k w n (get_or s n 0)) (eqb q.worker w) {x = k ∷ positions_of qs (suc k) w} {y = positions_of qs (suc k) w}
    (λ e. front e n)
    (λ e h. later 0 n (sym (pick_no (eqb q.worker w) 1 0 (T_not (eqb q.worker w) e))) (omega arith) h refl) l
  where
    front : T (eqb q.worker w) → (n : ℕ) → n < length (k ∷ positions_of qs (suc k) w) → Place q qs k w n (get_or (k ∷ positions_of qs (suc k) w) n 0)
    front e zero l = first (eqb→eq q.worker w e) refl refl
    front e (suc m) l = later 1 m (sym (pick_yes (eqb q.worker w) 1 0 e)) (omega arith) (omega arith) refl

-- a position counts from k and is one of the list's, and the question there is w's
record Position (qs : List Question) (k w p : ℕ) : Type 0 where
  from : k ≤ p
  below : p < k + length qs
  question : Question
  is : question ∈ qs
  worker : question.worker ≡ w
  claim : question.claim ≡ claim_asked qs (p - k)

position : (qs : List Question) (k w n : ℕ) → n < length (positions_of qs k w) → Position qs k w (get_or (positions_of qs k w) n 0)
unfolding positions_of claim_asked
position [] k w n l = absurd (omega arith)
position (q ∷ qs) k w n l = go (position qs (suc k) w) (place q qs k w n l)
  where
    go : {p : ℕ} → ((m : ℕ) → m < length (positions_of qs (suc k) w) → Position qs (suc k) w (get_or (positions_of qs (suc k) w) m 0)) → Place q qs k w n p → Position (q ∷ qs) k w p
    go {p} ih (first e z h) =
        let d : 0 ≡ p - k = omega arith in
        record { from = omega arith; below = omega arith; question = q; is = Memᴰ.head refl; worker = e; claim = ap (claim_asked (q ∷ qs)) d }
    go {p} ih (later d m e z l h) =
        let x = ih m l in
        let f : suc (get_or (positions_of qs (suc k) w) m 0 - suc k) ≡ p - k = omega (arith, x.from) in
        record {
          from = omega (arith, x.from);
          below = omega (arith, x.below);
          question = x.question;
          is = Memᴰ.tail x.is;
          worker = x.worker;
          claim = x.claim ∙ ap (claim_asked (q ∷ qs)) f;
        }

once : (qs : List Question) (k w u n m : ℕ) → n < length (positions_of qs k w) → m < length (positions_of qs k u) → get_or (positions_of qs k w) n 0 ≡ get_or (positions_of qs k u) m 0 → (w ≡ u) × (n ≡ m)
unfolding positions_of
once [] k w u n m a b e = absurd (omega arith)
once (q ∷ qs) k w u n m a b e = go (once qs (suc k) w u) (place q qs k w n a) (place q qs k u m b) e
  where
    go : {p r : ℕ} → ((x y : ℕ) → x < length (positions_of qs (suc k) w) → y < length (positions_of qs (suc k) u) → get_or (positions_of qs (suc k) w) x 0 ≡ get_or (positions_of qs (suc k) u) y 0 → (w ≡ u) × (x ≡ y)) → Place q qs k w n p → Place q qs k u m r → p ≡ r → (w ≡ u) × (n ≡ m)
    go ih (first c z i) (first d y j) e = (sym c ∙ d, z ∙ sym y)
    go ih (first c z i) (later d y f g h j) e = absurd (omega (arith, (position qs (suc k) u y h).from))
    go ih (later d x f g h i) (first c z j) e = absurd (omega (arith, (position qs (suc k) w x h).from))
    go ih (later d x f g h i) (later d' y f' g' h' i') e =
        let r = ih x y h h' (sym i ∙ e ∙ i') in
        let s : ◌≡◌ {A = ℕ} (pick (eqb q.worker w) 1 0) (pick (eqb q.worker u) 1 0) = ap (λ (v : ℕ). pick (eqb q.worker v) 1 0) r.0 in
        (r.0, omega (arith, r.1, f, f', s))

-- a question that worker w puts for claim c
pub record Put (j : Job) (w c : ℕ) : Type 0 where
  pub question : Question
  pub is : question ∈ j.questions
  pub worker : question.worker ≡ w
  pub claim : question.claim ≡ c

module _ (j : Job) where
  pub question_put : (w n : ℕ) → n < length (asked_by j w) → Put j w (question_claim j w n)
  unfolding asked_by question_claim
  question_put w n l =
      let p = position j.questions 0 w n l in
      let z : get_or (positions_of j.questions 0 w) n 0 - 0 ≡ get_or (positions_of j.questions 0 w) n 0 = omega arith in
      record { question = p.question; is = p.is; worker = p.worker; claim = p.claim ∙ ap (claim_asked j.questions) z }

  pub place-low : (w n : ℕ) → n < length (asked_by j w) → get_or (asked_by j w) n 0 < length j.questions
  unfolding asked_by
  place-low w n l = omega (arith, (position j.questions 0 w n l).below)

  pub place-once : (w u n m : ℕ) → n < length (asked_by j w) → m < length (asked_by j u) → get_or (asked_by j w) n 0 ≡ get_or (asked_by j u) m 0 → (w ≡ u) × (n ≡ m)
  unfolding asked_by
  place-once w u n m = once j.questions 0 w u n m

-- The bound on rounds in the job's own counts: 2 L + A + 3 Q. Assumes nothing.
use mathlib.Core.Path.{◌≡◌, refl, ◌∙◌, ap, ap₂}
use mathlib.Core.Bool.{Bool, true, false, cond}
use mathlib.Core.List.Memᴰ
use mathlib.Core.List.{List, [], ◌∷◌}
use Prim.Native.Nat.{ℕ, suc, ◌+◌, ◌*◌, ◌<◌}
use native.Mathlib.Omega.{arith}
use lib.Dec.{eqb}
use lib.ListN.{length, length-append}
use Rattle.base.specs.Choose.{pick}
use Rattle.base.specs.Sum.{sum}
use Rattle.base.proofs.SumParts.{sum_same, sum_add, sum_none, sum_point}
use Rattle.job.specs.Job.{Job, Rule, body_count, literal_count, literals_of}
use Rattle.job.specs.Encoding.{◌∈◌, Valid}
use Rattle.job.specs.declared.Literal.{Literal}
use Rattle.job.specs.declared.Question.{Question}
use Rattle.table.specs.Questions.{positions_of, asked_by}
use Rattle.waiting.specs.Runs.{bound}
use Rattle.turn.proofs.Jobs.{lits-length}
use Rattle.steps.proofs.Runs.{sizes}

cond-length : (b : Bool) (ls : List Literal) → length (cond b ls []) ≡ cond b (length ls) 0
cond-length true ls = refl
cond-length false ls = refl

pick-length : (b : Bool) (k : ℕ) (ks : List ℕ) → length (pick b (k ∷ ks) ks) ≡ cond b 1 0 + length ks
unfolding pick
pick-length true k ks = omega arith
pick-length false k ks = omega arith

-- each rule's literals are those of its head, and each question is its worker's
literals-sum : (A : ℕ) (rs : List Rule) → ((r : Rule) → r ∈ rs → r.head < A) → sum (λ c. length (literals_of c rs)) A ≡ body_count rs
unfolding literals_of body_count
literals-sum A [] h = sum_none A
literals-sum A (r ∷ rs) h =
    let one : ℕ → ℕ = λ c. cond (eqb r.head c) (length r.body) 0 in
    let rest : ℕ → ℕ = λ c. length (literals_of c rs) in
    sum_same (λ c. length (literals_of c (r ∷ rs))) (λ c. one c + rest c) A
    (λ c l.
    length-append (cond (eqb r.head c) r.body []) (literals_of c rs)
    ∙ ap (λ (n : ℕ). n + rest c) (cond-length (eqb r.head c) r.body))
    ∙ sum_add one rest A
    ∙ ap₂ (λ (a b : ℕ). a + b) (sum_point r.head (length r.body) A (h r (Memᴰ.head refl))) (literals-sum A rs (λ s i. h s (Memᴰ.tail i)))

questions-sum : (T : ℕ) (qs : List Question) (k : ℕ) → ((q : Question) → q ∈ qs → q.worker < T) → sum (λ w. length (positions_of qs k w)) T ≡ length qs
unfolding positions_of
questions-sum T [] k h = sum_none T
questions-sum T (q ∷ qs) k h =
    let one : ℕ → ℕ = λ w. cond (eqb q.worker w) 1 0 in
    let rest : ℕ → ℕ = λ w. length (positions_of qs (suc k) w) in
    sum_same (λ w. length (positions_of (q ∷ qs) k w)) (λ w. one w + rest w) T (λ w l. pick-length (eqb q.worker w) k (positions_of qs (suc k) w))
    ∙ sum_add one rest T
    ∙ ap₂ (λ (a b : ℕ). a + b) (sum_point q.worker 1 T (h q (Memᴰ.head refl))) (questions-sum T qs (suc k) (λ s i. h s (Memᴰ.tail i)))
    ∙ omega arith

pub bound_is : (j : Job) → Valid j → bound (sizes j) ≡ 2 * literal_count j + j.claims + 3 * length j.questions
unfolding asked_by
bound_is j v =
    omega (
      arith,
      sum_same (sizes j).size (λ c. length (literals_of c j.rules)) j.claims (λ c l. lits-length j c),
      literals-sum j.claims j.rules v.heads,
      questions-sum j.workers j.questions 0 v.askers,
    )

-- Where a literal's rule ends, and which literals stand behind a complete false one of their rule (02, order 5). Assumes nothing.
--   Behind j t c k    an earlier literal of the rule of c's literal k is complete and false
--   behind_of, clear_of, clear-not   the test `clear` as a fact
--   Alike m m'        marks of a claim before and after a store that completes nothing
use mathlib.Core.Path.{◌≡◌, sym, ◌∙◌, subst}
use mathlib.Core.Bool.{Bool, not, ◌&&◌}
use mathlib.Core.List.{List}
use Prim.Native.Nat.{ℕ, ◌≤◌, ◌<◌}
use native.Mathlib.Omega.{arith}
use lib.ListN.{length, get_or, get_or-map}
use lib.Dec.{T, eqb→eq, ltb, ltb→lt, lt→ltb, T_not, not_T}
use Rattle.base.specs.Lists.{upto}
use Rattle.base.proofs.Bools.{and_in, and_left, and_right}
use Rattle.base.proofs.Choose.{t?}
use Rattle.base.proofs.Search.{Found, found, none, find}
use Rattle.base.proofs.Lists.{in-upto, upto_in, every_in, in-every}
use Rattle.job.specs.Job.{Job, claim_of, literals_of, rule_end}
use Rattle.job.proofs.RuleEnds.{end_same}
use Rattle.job.specs.declared.Literal.{Literal}
use Rattle.job.specs.declared.Literal.TheVariants.{Plain}
use Rattle.table.specs.Layout as W
use Rattle.turn.specs.Turn.{lits, lit_at, clear}
use Rattle.table.specs.Literals.{failing_mark, failed}
use Rattle.table.proofs.Failing.{failed_done}
use Rattle.turn.proofs.Tests.{is_eq}
use Rattle.turn.proofs.Jobs.{JobOk}

pub failed_same : (t t' : List ℕ) (l : Literal) → W.mark t' (claim_of l) ≡ W.mark t (claim_of l) → T (failed t l) → T (failed t' l)
unfolding failed
failed_same t t' l e h = is_eq (W.mark t' (claim_of l)) (failing_mark l) (e ∙ eqb→eq (W.mark t (claim_of l)) (failing_mark l) h)

pub data Alike (m m' : ℕ) : Type 0 where
  same : m' ≡ m → Alike m m'
  below : m < W.true_mark → m' < W.true_mark → Alike m m'

pub alike-back : {m m' : ℕ} → Alike m m' → Alike m' m
alike-back (same e) = same (sym e)
alike-back (below l h) = below h l

alike-kept : {m m' : ℕ} → Alike m m' → W.true_mark ≤ m → m' ≡ m
alike-kept (same e) h = e
alike-kept (below l k) h = absurd (omega arith)

pub record Behind (j : Job) (t : List ℕ) (c k : ℕ) : Type 0 where
  pub at : ℕ
  pub before : at < k
  pub fails : T (failed t (lit_at j c at))
  pub within : k < rule_end c j.rules at

pub claim_lit : (j : Job) (c k : ℕ) → get_or (lits j c) k 0 ≡ claim_of (lit_at j c k)
unfolding lits lit_at
claim_lit j c k = get_or-map claim_of (literals_of c j.rules) k (Plain 0)

module _ (j : Job) (t : List ℕ) (c k : ℕ) where
  module _ (i : ℕ) where
    abbrev cut : Bool
    cut = failed t (lit_at j c i) && ltb k (rule_end c j.rules i)

    behind_in : i < k → T cut → Behind j t c k
    behind_in l h =
        record {
          at = i;
          before = l;
          fails = and_left (failed t (lit_at j c i)) (ltb k (rule_end c j.rules i)) h;
          within = ltb→lt k (rule_end c j.rules i) (and_right (failed t (lit_at j c i)) (ltb k (rule_end c j.rules i)) h);
        }

  in-behind : (b : Behind j t c k) → T (cut b.at)
  in-behind b =
      and_in (failed t (lit_at j c b.at)) (ltb k (rule_end c j.rules b.at)) b.fails
      (lt→ltb k (rule_end c j.rules b.at) b.within)

  pub behind? : Dec (Behind j t c k)
  behind? = go (find (λ i. T (cut i)) (λ i. t? (cut i)) k)
    where
      go : Found (λ i. T (cut i)) k → Dec (Behind j t c k)
      go (found i l h) = yes (behind_in i l h)
      go (none f) = no (λ b. f b.at b.before (in-behind b))

  pub clear-not : T (clear j t c k) → Behind j t c k → ⊥
  unfolding clear
  clear-not h b = T_not (cut b.at) (every_in (λ i. not (cut i)) (upto k) h b.at (in-upto b.at k b.before)) (in-behind b)

  pub clear_of : (Behind j t c k → ⊥) → T (clear j t c k)
  unfolding clear
  clear_of f = in-every (λ i. not (cut i)) (upto k) (λ i m. not_T (cut i) (λ h. f (behind_in i (upto_in i k m) h)))

  pub behind_of : T (not (clear j t c k)) → Behind j t c k
  behind_of h = go behind?
    where
      go : Dec (Behind j t c k) → Behind j t c k
      go (yes b) = b
      go (no f) = absurd (T_not (clear j t c k) h (clear_of f))

module _ {j : Job} {t : List ℕ} {c : ℕ} where
  -- all from a literal that stands behind to the rule's end do
  pub behind_rest : {i k : ℕ} → i ≤ k → k < rule_end c j.rules i → Behind j t c i → Behind j t c k
  behind_rest {i} {k} l h b =
      let e = end_same c j.rules b.at i (omega (arith, b.before)) b.within in
      record { at = b.at; before = omega (arith, b.before); fails = b.fails; within = omega arith }

-- complete marks stay
module _ {j : Job} (J : JobOk j) {t t' : List ℕ} where
  pub behind-kept : ((x : ℕ) → x < j.claims → W.true_mark ≤ W.mark t x → W.mark t' x ≡ W.mark t x) → {c k : ℕ} → k ≤ length (lits j c) → Behind j t c k → Behind j t' c k
  behind-kept f {c} {k} l b =
      let x = claim_of (lit_at j c b.at) in
      let low : claim_of (lit_at j c b.at) < j.claims = subst (λ (x : ℕ). x < j.claims) (claim_lit j c b.at) (J.literal c b.at (omega (arith, b.before))) in
      record { at = b.at; before = b.before; fails = failed_same t t' (lit_at j c b.at) (f x low (failed_done t (lit_at j c b.at) b.fails)) b.fails; within = b.within }

  pub behind-alike : ((x : ℕ) → x < j.claims → Alike (W.mark t x) (W.mark t' x)) → {c k : ℕ} → k ≤ length (lits j c) → Behind j t c k → Behind j t' c k
  behind-alike f l b = behind-kept (λ x h d. alike-kept (f x h) d) l b

-- The rounds of the alternation, one after the other (specs/Rounds: Poised, Shrunk). Assumes nothing.
--   lose-ready    what is asked for before what U has lost is put on the queue
--   shrunk-by     what U has lost is on the queue
--   poised-next   a round after a round
--   poised-stops  U has lost nothing: K and U are those of the model
--   poised_less   U has lost some claim
use Prim.Native.Nat.{ℕ, ◌+◌, ◌*◌, ◌/◌, ◌<◌, ◌≤◌}
use mathlib.Core.Path.{◌≡◌, refl, sym, ◌∙◌, ap, subst, subst⁻¹, fun_ext}
use mathlib.Core.Bool.{Bool, true, false, not, ◌&&◌, ◌||◌, and-not_self}
use mathlib.Core.List.{List}
use mathlib.Core.Logic.{◌⊎◌, inl, inr, ⊎_elim, by_cases}
use native.Mathlib.Omega.{arith}
use native.Mathlib.Decide.{ℕ_discrete}
use lib.Dec.{T, T_not}
use lib.ListN.{length, get_or}
use Rattle.base.specs.Sets.{Claims, ◌⊆◌, count, set_of}
use Rattle.base.proofs.Bools.{is-not, same, and_left, and_right}
use Rattle.base.proofs.Sets.{count_less}
use Rattle.job.specs.Accepted.{WellFormed}
use Rattle.job.specs.Format.{claims, literals, job_of}
use Rattle.semantics.specs.Model.{program_of, D, K, U}
use Rattle.semantics.proofs.LeastSet.{D-antitone}
use Rattle.counters.specs.Positions.{keys, owners}
use Rattle.counters.specs.Queues.{seen, Queue}
use Rattle.counters.specs.Counters.{Raised}
use Rattle.counters.specs.Doubts.{Doubted, Lost}
use Rattle.model.specs.Rounds.{Rising, Upper, aim_k, Poised, Risen, Shrunk}
use Rattle.counters.proofs.Queues.{seen_none, seen_at}
use Rattle.model.proofs.Roles.{closed_need}
use Rattle.model.proofs.Grown.{growing-counts, growing-from, growing-lost}
use Rattle.model.proofs.Shrinking.{risen-by}
use Rattle.model.proofs.Rounds.{Round, rising-next, rising_stays}

-- an empty queue, and doubted claims, for as many claims as u has
pub lose-ready :
    (s : List ℕ) (K : Claims) (fail u l q : List ℕ) (from end : ℕ) → WellFormed s → Upper s K fail u → Doubted (claims s) l from end → keys s ≤ length q
    → ((Doubted (length u) l from end) × (Queue (2 * length u) q 0) × (length u ≤ 32768)) × ((c : ℕ) → seen q 0 (2 * c + 1) ≡ false)
lose-ready s K fail u l q from end good upper doubted long = (
  (
    subst⁻¹ (λ (n : ℕ). Doubted n l from end) upper.size doubted,
    record { long = omega (arith, upper.size); fresh = λ j m. absurd (omega arith); small = λ j m. absurd (omega arith) },
    omega (arith, upper.size, good.sized.claims_most),
  ),
  λ c. seen_none q (2 * c + 1),
)

module _ (s : List ℕ) (K₀ : Claims) (fail k u q : List ℕ) (t : ℕ) (now : Risen s K₀ fail k u q t) where
  pub shrunk-by :
      (fail' u₁ u' l : List ℕ) (end : ℕ) → Upper s (set_of k) fail' u' → set_of u₁ ⊆ set_of u' → ((c : ℕ) → set_of u c ≡ (set_of u₁ c || seen l end (2 * c)))
      → (q₁ q' : List ℕ) (t' : ℕ) → Lost u' l end q₁ 0 q' t' → Shrunk s k u fail' u' q' t'
  shrunk-by fail' u₁ u' l end upper keeps left q₁ q' t' lost =
      record {
        upper = upper;
        fewer = λ c v.
            subst⁻¹ (λ (X : Claims). T (X c)) now.upper.is
            (D-antitone (program_of (job_of s)) (set_of k) K₀ now.kept c (subst (λ (X : Claims). T (X c)) upper.is v));
        queue = subst (λ (n : ℕ). Queue (2 * n) q' t') upper.size lost.queue;
        plain = λ c. lost.plain c ∙ seen_none q₁ (2 * c);
        negated = λ c.
            lost.negated c ∙ go (set_of u₁ c) (set_of u' c) (seen l end (2 * c)) (keeps c)
            ∙ ap (λ (b : Bool). b && not (set_of u' c)) (sym (left c));
      }
    where
      go : (x y z : Bool) → (T x → T y) → (z && not y) ≡ ((x || z) && not y)
      go true true true f = refl
      go true true false f = refl
      go true false z f = absurd (f tt)
      go false y z f = refl

  round : Round (program_of (job_of s)) K₀ (set_of u) (set_of k)
  round = record { next_u = now.upper.is; next_k = now.is }

  next : Rising (program_of (job_of s)) (set_of k)
  next = rising-next (program_of (job_of s)) K₀ now.rising (set_of u) (set_of k) round

  module _ (fail' u' q' : List ℕ) (t' : ℕ) (shrunk : Shrunk s k u fail' u' q' t') where
    pub poised-stops : t' ≡ 0 → (set_of k ≡ K (program_of (job_of s))) × (set_of u' ≡ U (program_of (job_of s)))
    poised-stops e =
        let stays : set_of u ≡ set_of u' =
        fun_ext
        (λ c. same (set_of u c) (set_of u' c)
        (λ v. kept c v (sym (shrunk.negated c) ∙ ap (λ (n : ℕ). seen q' n (2 * c + 1)) e ∙ seen_none q' (2 * c + 1)))
        (shrunk.fewer c)) in
        let m = rising_stays (program_of (job_of s)) K₀ now.rising (set_of u) (set_of k) round (stays ∙ shrunk.upper.is) in
        (m.0, sym stays ∙ m.1)
      where
        kept : (c : ℕ) → T (set_of u c) → (set_of u c && not (set_of u' c)) ≡ false → T (set_of u' c)
        kept c = go (set_of u c) (set_of u' c)
          where
            go : (x y : Bool) → T x → (x && not y) ≡ false → T y
            go true true v f = tt
            go true false v f = absurd (is-not true f tt)
            go false y v f = absurd v

    pub poised_less : (t' ≡ 0 → ⊥) → count (set_of u') (claims s) < count (set_of u) (claims s)
    poised_less n =
        ⊎_elim (λ e. absurd (is-not (seen q' t' (2 * c)) (shrunk.plain c) (subst (λ (x : ℕ). T (seen q' t' x)) e first)))
        (λ e.
        let both = subst T (shrunk.negated c) (subst (λ (x : ℕ). T (seen q' t' x)) e first) in
        count_less (set_of u') (set_of u) shrunk.fewer (claims s) c (omega (arith, small)) (and_left (set_of u c) (not (set_of u' c)) both)
        (T_not (set_of u' c) (and_right (set_of u c) (not (set_of u' c)) both)))
        parity
      where
        c : ℕ
        c = get_or q' 0 0 / 2

        first : T (seen q' t' (get_or q' 0 0))
        first = seen_at q' 0 t' (omega arith)

        small : get_or q' 0 0 < keys s
        small = shrunk.queue.small 0 (omega arith)

        parity : (get_or q' 0 0 ≡ 2 * (get_or q' 0 0 / 2)) ⊎ (get_or q' 0 0 ≡ 2 * (get_or q' 0 0 / 2) + 1)
        parity = by_cases (ℕ_discrete (get_or q' 0 0) (2 * (get_or q' 0 0 / 2))) inl (λ d. inr (omega arith))

module _ (s : List ℕ) (K₀ : Claims) (good : WellFormed s) (need fail k u q : List ℕ) (t : ℕ) (now : Poised s K₀ need fail k u q t) (need' k' q₁ : List ℕ) (t₁ : ℕ) (raised : Raised s (owners s) need k q 0 t need' k' q₁ t₁ (literals s) t₁) where
  risen : Risen s K₀ fail k' u q₁ t₁
  risen = risen-by s K₀ good need fail k u q t now need' k' q₁ t₁ raised

  pub poised-next :
      (fail' u' q' : List ℕ) (t' : ℕ) → Shrunk s k' u fail' u' q' t' → Poised s (set_of k') need' fail' k' u' q' t'
  poised-next fail' u' q' t' shrunk =
      let end = raised.carried.each (aim_k s (set_of u)) now.growing in
      let from =
      growing-from s (aim_k s (set_of u)) (owners s) need' k' q₁ (growing-counts end) end.fits.size end.fits.queue.long end.inside end.closed in
      record {
        rising = next s K₀ fail k' u q₁ t₁ risen;
        upper = shrunk.upper;
        growing =
            growing-lost s (aim_k s (set_of u)) (owners s) need' k' q₁ 0 q' t' (set_of u') good from shrunk.queue
            (λ c. shrunk.plain c ∙ sym (seen_none q₁ (2 * c))) (λ c. seen_none q₁ (2 * c + 1)) shrunk.negated (λ c l v. shrunk.fewer c v)
            (D (program_of (job_of s)) (set_of u')) (λ c v. D-antitone (program_of (job_of s)) (set_of u) (set_of u') shrunk.fewer c (end.inside c v)) (closed_need s good (set_of u'));
        ready = raised.ready;
        joined = λ c. shrunk.plain c ∙ sym (and-not_self (set_of k' c));
        kept = λ c v. v;
      }

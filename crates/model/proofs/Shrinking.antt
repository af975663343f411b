-- U shrinks to D(K) (specs/Rounds): from K = D(U) to the claims that are doubted, and from these to the next U. Assumes nothing.
--   risen-by         the keys of K are taken
--   risen-falling    the counters of U, before the negations of K's new claims fail
--   fell-by          they failed: what is doubted, and what is left
--   fell-growing, -ready, -upper   some claims came back, and U is D(K)
use Prim.Native.Nat.{ℕ, ◌*◌, ◌<◌, ◌≤◌}
use mathlib.Core.Path.{◌≡◌, refl, sym, ◌∙◌, ap, subst}
use mathlib.Core.Bool.{Bool, true, false, not, ◌&&◌, ◌||◌, or-false, and-true}
use mathlib.Core.List.{List}
use mathlib.Core.Logic.{⊎_elim}
use native.Mathlib.Omega.{arith}
use lib.Dec.{T, T_not, not_T}
use lib.ListN.{length, get_or}
use Rattle.base.specs.Sets.{Claims, ◌⊆◌, set_of}
use Rattle.base.proofs.Bools.{is-not, or_cases, and_left}
use Rattle.job.specs.Accepted.{WellFormed}
use Rattle.job.specs.Format.{claims, rules, literals, head_at, missing_at, literal_at, job_of}
use Rattle.job.specs.declared.Literal.{Literal}
use Rattle.job.specs.declared.Literal.TheVariants.{Plain, Negated}
use Rattle.job.proofs.Lengths.{missing_none}
use Rattle.semantics.specs.Model.{program_of, holds, D}
use Rattle.counters.specs.Positions.{key_of, key_at, keys, owners, Counts, fail_base}
use Rattle.counters.specs.Queues.{seen, pending}
use Rattle.counters.specs.Counters.{lacking, Aim, Ready, Growing, Raised, Idle}
use Rattle.counters.specs.Doubts.{Falling, Sunk, Negations, Recovered}
use Rattle.model.specs.Rounds.{Upper, aim_k, Poised, Risen, Fell}
use Rattle.counters.proofs.Counting.{counts_same}
use Rattle.counters.proofs.Queues.{pending_end, pending-start}
use Rattle.counters.proofs.Owning.{owners-owned}
use Rattle.counters.proofs.Lacking.{nothing_lacks, all_hold}
use Rattle.model.proofs.Roles.{closed_fail}
use Rattle.counters.proofs.Joining.{joins-grown}
use Rattle.model.proofs.Grown.{growing-counts, growing-from, growing-joins, grown-K, grown-U, idle-in}
use Rattle.counters.proofs.Leaving.{fallen-front}
use Rattle.counters.proofs.Sinking.{sunk-fewer}
use Rattle.model.proofs.Remaining.{sunk}
use Rattle.model.proofs.Rounds.{Round, rising-below, rising-next}

-- a missing record counts nothing for U, so its head is in U
missing_in : (s : List ℕ) (K : Claims) (fail u : List ℕ) → WellFormed s → Upper s K fail u → (r : ℕ) → r < rules s → missing_at s r ≡ true → T (set_of u (head_at s r))
missing_in s K fail u good upper r l m =
    upper.ready.ready r l
    (nothing_lacks s good K (set_of u) (owners-owned s good) upper.counts r l refl (λ p w. absurd (omega (arith, w.from, w.to, missing_none s r m))))

module _ (s : List ℕ) (K₀ : Claims) (good : WellFormed s) where
  pub risen-by :
      (need fail k u q : List ℕ) (t : ℕ) → Poised s K₀ need fail k u q t → (need' k' q' : List ℕ) (t' : ℕ)
      → Raised s (owners s) need k q 0 t need' k' q' t' (literals s) t' → Risen s K₀ fail k' u q' t'
  risen-by need fail k u q t now need' k' q' t' raised =
      let end = raised.carried.each (aim_k s (set_of u)) now.growing in
      record {
        rising = now.rising;
        upper = now.upper;
        is =
            grown-K s good (set_of u) need' k' raised.ready end.inside (growing-counts end) (missing_in s K₀ fail u good now.upper);
        size = end.fits.size;
        queue = end.fits.queue;
        joined = λ c.
            raised.grown.joined c ∙ ap (λ (b : Bool). b || (set_of k' c && not (set_of k c))) (now.joined c)
            ∙ go (K₀ c) (set_of k c) (set_of k' c) (now.kept c) (raised.grown.keeps c);
        kept = λ c x. raised.grown.keeps c (now.kept c x);
      }
    where
      go : (x y z : Bool) → (T x → T y) → (T y → T z) → ((y && not x) || (z && not y)) ≡ (z && not x)
      go true false z f h = absurd (f tt)
      go x true false f h = absurd (h tt)
      go true true true f h = refl
      go false true true f h = refl
      go false false true f h = refl
      go false false false f h = refl

  module _ (fail k u q : List ℕ) (t : ℕ) (now : Risen s K₀ fail k u q t) where
    -- the negations of K's new claims fail, and nothing else does yet
    module _ (l : List ℕ) (n : ℕ) (long : keys s ≤ length l) (negations : Negations q t l n) where
      due_in : (x : Literal) → not (holds K₀ (set_of u) x) ≡ (not (holds (set_of k) (set_of u) x) && not (seen l n (key_of x)))
      unfolding key_of
      due_in (Plain c) = rw (negations.plain c) (sym (and-true (not (set_of u c))))
      due_in (Negated c) = rw (negations.negated c, now.joined c) (go (K₀ c) (set_of k c) (now.kept c))
        where
          go : (x y : Bool) → (T x → T y) → not (not x) ≡ (not (not y) && not (y && not x))
          go true true f = refl
          go true false f = absurd (f tt)
          go false true f = refl
          go false false f = refl

      same-due : (p : ℕ) → p < literals s → lacking s K₀ (set_of u) p ≡ (lacking s (set_of k) (set_of u) p && not (pending s l n 0 (literals s) p))
      unfolding lacking key_at
      same-due p m =
          due_in (literal_at s (rules s) p)
          ∙ sym (ap (λ (b : Bool). not (holds (set_of k) (set_of u) (literal_at s (rules s) p)) && not b) (pending-start s l n (literals s) p m))

      pub risen-falling : Falling s (set_of k) (owners s) fail u l 0 (literals s) n
      risen-falling =
          record {
            counts =
                counts_same (lacking s K₀ (set_of u)) (λ p. lacking s (set_of k) (set_of u) p && not (pending s l n 0 (literals s) p)) same-due now.upper.counts;
            queue = negations.queue (claims s) long now.queue;
            size = now.upper.size;
            plain = λ c v. absurd (is-not (seen l n (2 * c)) (negations.plain c) v);
            negated = λ c v. and_left (set_of k c) (not (K₀ c)) (subst T (negations.negated c ∙ now.joined c) v);
          }

      module _ (fail₁ u₁ l₁ : List ℕ) (end : ℕ) (fell : Sunk s k (owners s) fail u l n fail₁ u₁ l₁ end (literals s) end) where
        counts : Counts s (owners s) fail₁ fail_base (lacking s (set_of k) (set_of u₁))
        counts =
            counts_same (λ p. lacking s (set_of k) (set_of u₁) p && not (pending s l₁ end end (literals s) p)) (lacking s (set_of k) (set_of u₁))
            (λ p m. ap (λ (b : Bool). lacking s (set_of k) (set_of u₁) p && not b) (pending_end s l₁ end (literals s) p) ∙ and-true (lacking s (set_of k) (set_of u₁) p)) fell.falling.counts

        round : Round (program_of (job_of s)) K₀ (set_of u) (set_of k)
        round = record { next_u = now.upper.is; next_k = now.is }

        rests : set_of k ⊆ D (program_of (job_of s)) (set_of k)
        rests = rising-below (program_of (job_of s)) (set_of k) (rising-next (program_of (job_of s)) K₀ now.rising (set_of u) (set_of k) round)

        fewer : set_of u₁ ⊆ set_of u
        fewer = sunk-fewer s k (owners s) fail u l n fail₁ u₁ l₁ end (literals s) end fell

        pub fell_left : (c : ℕ) → set_of u c ≡ (set_of u₁ c || seen l₁ end (2 * c))
        fell_left c = sym (ap (λ (b : Bool). set_of u c || b) (negations.plain c) ∙ or-false (set_of u c)) ∙ fell.fallen.left c

        -- a rule that counts nothing now counted nothing before
        still : (r : ℕ) → r < rules s → get_or fail₁ r 0 ≡ 0 → get_or fail r 0 ≡ 0
        still r m z =
            let now₁ = all_hold s good (set_of k) (set_of u₁) (owners-owned s good) counts r m z in
            nothing_lacks s good K₀ (set_of u) (owners-owned s good) now.upper.counts r m refl (λ p w. wider (literal_at s (rules s) p) (now₁.1 p w))
          where
            wider : (x : Literal) → T (holds (set_of k) (set_of u₁) x) → T (holds K₀ (set_of u) x)
            wider (Plain c) v = fewer c v
            wider (Negated c) v = not_T (K₀ c) (λ y. T_not (set_of k c) v (now.kept c y))

        pub fell-by : Fell s (set_of k) fail₁ u₁ l₁ n end
        fell-by =
            record {
              rests = rests;
              inside = sunk s good K₀ (set_of k) (owners s) fail fail₁ u u₁ (owners-owned s good) now.upper.counts counts now.upper.is fell.kept rests fewer;
              counts = counts;
              ready = λ r m z. or_cases (set_of u₁ (head_at s r)) (seen l₁ end (2 * head_at s r)) (subst T (fell_left (head_at s r)) (now.upper.ready.ready r m (still r m z)));
              size = fell.falling.size;
              doubted =
                  record {
                    queue = fell.falling.queue;
                    ordered = fell.fallen.up;
                    before = λ c. fallen-front fell.fallen (2 * c) ∙ negations.plain c;
                    evens = fell.fallen.evens;
                  };
            }

-- some doubted claims came back
module _ (s : List ℕ) (K : Claims) (good : WellFormed s) (fail u l : List ℕ) (from end : ℕ) (now : Fell s K fail u l from end) (q : List ℕ) (long : keys s ≤ length q) where
  aim_u : Aim
  aim_u = record { against = K; base = fail_base; most = D (program_of (job_of s)) K }

  first : Growing s aim_u (owners s) fail u q 0 (literals s) 0
  unfolding aim_u
  first = growing-from s aim_u (owners s) fail u q now.counts now.size long now.inside (closed_fail s good K now.rests)

  idle : (c : ℕ) → Idle s fail c → (c < claims s) × T (aim_u.most c)
  idle = idle-in s aim_u fail u q good first

  module _ (u₁ q₁ : List ℕ) (t : ℕ) (recovered : Recovered s fail l end u q u₁ q₁ t) where
    keeps : set_of u ⊆ set_of u₁
    keeps = (joins-grown (Idle s fail) (λ c x. (idle c x).0) first.fits recovered.joins).keeps

    again : Growing s aim_u (owners s) fail u₁ q₁ 0 (literals s) t
    again = growing-joins (Idle s fail) good (owners-owned s good) idle first recovered.joins

    pub fell-growing : (b : Aim) × Growing s b (owners s) fail u₁ q₁ 0 (literals s) t
    fell-growing = (aim_u, again)

    pub fell-ready : Ready s fail u₁ (rules s)
    fell-ready =
        record {
          ready = λ r m z.
              ⊎_elim (keeps (head_at s r)) (λ v. recovered.found (head_at s r) v (record { by = r; below = m; none = z; head = refl })) (now.ready r m z);
        }

    module _ (fail₂ u₂ q₂ : List ℕ) (t₂ : ℕ) (raised : Raised s (owners s) fail u₁ q₁ 0 t fail₂ u₂ q₂ t₂ (literals s) t₂) where
      pub fell-keeps : set_of u ⊆ set_of u₂
      fell-keeps c x = raised.grown.keeps c (keeps c x)

      pub fell-upper : Upper s K fail₂ u₂
      unfolding aim_u
      fell-upper =
          let done = raised.carried.each aim_u again in
          record {
            is = grown-U s good K fail₂ u₂ raised.ready done.inside (growing-counts done);
            size = done.fits.size;
            counts = growing-counts done;
            ready = raised.ready;
          }

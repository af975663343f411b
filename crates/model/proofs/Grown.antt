-- A D by counters at its start and at its end (counters/specs/Counters: Growing). Assumes nothing.
--   growing-counts   all keys are taken: what the counters count
--   growing-from     the queue is empty
--   idle-in          a claim whose rule counts nothing may join
--   growing-joins    some claims joined before any key was taken
--   growing-lost     S has lost claims, whose negations are on the queue
--   grown-K, grown-U where every key is taken, the set is D(S): as K, and as U
use Prim.Native.Nat.{ℕ, ◌+◌, ◌*◌, ◌<◌, ◌≤◌}
use mathlib.Core.Path.{◌≡◌, refl, sym, ◌∙◌, ap, subst, fun_ext}
use mathlib.Core.Bool.{Bool, true, false, not, ◌&&◌, ◌||◌, or-false}
use mathlib.Core.List.{List}
use native.Mathlib.Omega.{arith}
use lib.Dec.{T, T_not}
use lib.ListN.{length}
use Rattle.base.specs.Sets.{Claims, ◌⊆◌, set_of}
use Rattle.base.proofs.Bools.{is-not, same, and_right}
use Rattle.job.specs.Job.{claim_of}
use Rattle.job.specs.Accepted.{WellFormed}
use Rattle.job.specs.Format.{claims, rules, literals, head_at, missing_at, literal_at, job_of}
use Rattle.job.specs.declared.Literal.{Literal}
use Rattle.job.specs.declared.Literal.TheVariants.{Plain, Negated}
use Rattle.semantics.specs.Model.{program_of, holds, step, D}
use Rattle.counters.specs.Positions.{key_of, key_at, keys, owners, Counts, need_base, fail_base}
use Rattle.counters.specs.Queues.{seen, Queue, pending, Joins, none, more}
use Rattle.counters.specs.Counters.{lacking, Aim, Closed, Ready, Growing, Idle}
use Rattle.semantics.proofs.LeastSet.{D-least}
use Rattle.counters.proofs.Counting.{counts_same}
use Rattle.counters.proofs.Lacking.{nothing_lacks}
use Rattle.counters.proofs.Owning.{Owned, owners-owned}
use Rattle.model.proofs.Roles.{covers-need, covers-fail}
use Rattle.counters.proofs.Queues.{seen_none, pending_end, pending-start}
use Rattle.counters.proofs.Beginning.{fits-empty}
use Rattle.counters.proofs.Growing.{growing-joined, growing_fires}

pub growing-counts :
    {s : List ℕ} {a : Aim} {own cnt w q : List ℕ} {x t : ℕ} → Growing s a own cnt w q t x t → Counts s own cnt a.base (lacking s a.against (set_of w))
growing-counts {s} {a} {own} {cnt} {w} {q} {x} {t} now =
    counts_same (λ p. lacking s a.against (set_of w) p || pending s q t t x p) (lacking s a.against (set_of w))
    (λ p l. ap (λ (b : Bool). lacking s a.against (set_of w) p || b) (pending_end s q t x p) ∙ or-false (lacking s a.against (set_of w) p)) now.counts

pub growing-from :
    (s : List ℕ) (a : Aim) (own cnt w q : List ℕ) → Counts s own cnt a.base (lacking s a.against (set_of w)) → length w ≡ claims s
    → keys s ≤ length q → set_of w ⊆ a.most → Closed s a.against a.base a.most → Growing s a own cnt w q 0 (literals s) 0
growing-from s a own cnt w q counts size long inside closed =
    record {
      counts =
          counts_same (lacking s a.against (set_of w)) (λ p. lacking s a.against (set_of w) p || pending s q 0 0 (literals s) p)
          (λ p l. sym (ap (λ (b : Bool). lacking s a.against (set_of w) p || b) (pending_end s q 0 (literals s) p) ∙ or-false (lacking s a.against (set_of w) p))) counts;
      fits = fits-empty (claims s) w q size long;
      negated = λ c u. absurd (is-not (seen q 0 (2 * c + 1)) (seen_none q (2 * c + 1)) u);
      inside = inside;
      closed = closed;
    }

-- the heads of rules that count nothing are claims, and where the claims that join are
pub idle-in :
    (s : List ℕ) (a : Aim) (cnt w q : List ℕ) → WellFormed s → Growing s a (owners s) cnt w q 0 (literals s) 0 → (c : ℕ) → Idle s cnt c
    → (c < claims s) × T (a.most c)
idle-in s a cnt w q good now c x = (
  subst (λ (d : ℕ). d < claims s) x.head (good.head x.by x.below),
  subst (λ (d : ℕ). T (a.most d)) x.head
      (growing_fires s a (owners s) cnt w q 0 (literals s) 0 good (owners-owned s good) now x.by x.below x.none),
)

pub growing-joins :
    {s : List ℕ} {a : Aim} {own cnt w q : List ℕ} {t : ℕ} (ok : ℕ → Type 0) → WellFormed s → Owned s own → ((c : ℕ) → ok c → (c < claims s) × T (a.most c))
    → Growing s a own cnt w q 0 (literals s) t → {w' q' : List ℕ} {t' : ℕ} → Joins ok w q t w' q' t' → Growing s a own cnt w' q' 0 (literals s) t'
growing-joins ok good owned f now none = now
growing-joins {s} {a} {own} {cnt} ok good owned f now (more {w₁} {q₁} {w₂} {q₂} {t₁} {t₂} c js k j) =
    growing-joined s a own cnt w₁ q₁ 0 (literals s) t₁ good owned (growing-joins ok good owned f now js) c (f c k).0 (f c k).1 (omega arith) (λ e. omega arith) w₂ q₂ t₂ j

-- S loses all claims but those of S': their negations are on the queue, after the plain keys that it had
module _ (s : List ℕ) (a : Aim) (own cnt w q : List ℕ) (t : ℕ) (q' : List ℕ) (t' : ℕ) (S' : Claims) (good : WellFormed s) (now : Growing s a own cnt w q 0 (literals s) t) (queue : Queue (keys s) q' t') (plain : (c : ℕ) → seen q' t' (2 * c) ≡ seen q t (2 * c)) (none : (c : ℕ) → seen q t (2 * c + 1) ≡ false) (lost : (c : ℕ) → seen q' t' (2 * c + 1) ≡ (a.against c && not (S' c))) (fewer : (c : ℕ) → c < claims s → T (S' c) → T (a.against c)) where
  due_in :
      (x : Literal) → claim_of x < claims s
      → (not (holds a.against (set_of w) x) || seen q t (key_of x)) ≡ (not (holds S' (set_of w) x) || seen q' t' (key_of x))
  unfolding key_of
  due_in (Plain c) m = ap (λ (b : Bool). not (set_of w c) || b) (sym (plain c))
  due_in (Negated c) m =
      ap (λ (y : Bool). not (not (a.against c)) || y) (none c) ∙ go (a.against c) (S' c) (fewer c m) ∙ ap (λ (b : Bool). not (not (S' c)) || b) (sym (lost c))
    where
      go : (x y : Bool) → (T y → T x) → (not (not x) || false) ≡ (not (not y) || (x && not y))
      go true true f = refl
      go true false f = refl
      go false true f = absurd (f tt)
      go false false f = refl

  same-due : (p : ℕ) → p < literals s → (lacking s a.against (set_of w) p || pending s q t 0 (literals s) p) ≡ (lacking s S' (set_of w) p || pending s q' t' 0 (literals s) p)
  unfolding lacking key_at
  same-due p m =
      ap (λ (b : Bool). not (holds a.against (set_of w) (literal_at s (rules s) p)) || b) (pending-start s q t (literals s) p m)
      ∙ due_in (literal_at s (rules s) p) (good.literal p m)
      ∙ sym (ap (λ (b : Bool). not (holds S' (set_of w) (literal_at s (rules s) p)) || b) (pending-start s q' t' (literals s) p m))

  pub growing-lost :
      (X : Claims) → set_of w ⊆ X → Closed s S' a.base X → Growing s (record { against = S'; base = a.base; most = X }) own cnt w q' 0 (literals s) t'
  growing-lost X inside closed =
      record {
        counts =
            counts_same (λ p. lacking s a.against (set_of w) p || pending s q t 0 (literals s) p)
            (λ p. lacking s S' (set_of w) p || pending s q' t' 0 (literals s) p) same-due now.counts;
        fits = record { queue = queue; size = now.fits.size; plain = λ c v. now.fits.plain c (subst T (plain c) v) };
        negated = λ c v. T_not (S' c) (and_right (a.against c) (not (S' c)) (subst T (lost c) v));
        inside = inside;
        closed = closed;
      }

-- where all keys are taken, and each rule that counts nothing has its head in w
module _ (s : List ℕ) (good : WellFormed s) (S : Claims) (cnt w : List ℕ) (ready : Ready s cnt w (rules s)) (inside : set_of w ⊆ D (program_of (job_of s)) S) where
  grown : step (program_of (job_of s)) S (set_of w) ⊆ set_of w → set_of w ≡ D (program_of (job_of s)) S
  grown covered = fun_ext (λ c. same (set_of w c) (D (program_of (job_of s)) S c) (inside c) (D-least (program_of (job_of s)) S (set_of w) covered c))

  pub grown-K :
      Counts s (owners s) cnt (need_base s) (lacking s S (set_of w)) → ((r : ℕ) → r < rules s → missing_at s r ≡ true → T (S (head_at s r)))
      → set_of w ≡ D (program_of (job_of s)) S
  grown-K counts missing =
      grown
      (covers-need s S (set_of w) missing
      (λ r l z f. ready.ready r l (nothing_lacks s good S (set_of w) (owners-owned s good) counts r l z f)))

  pub grown-U : Counts s (owners s) cnt fail_base (lacking s S (set_of w)) → set_of w ≡ D (program_of (job_of s)) S
  grown-U counts =
      grown
      (covers-fail s S (set_of w)
      (λ r l f. ready.ready r l (nothing_lacks s good S (set_of w) (owners-owned s good) counts r l refl f)))

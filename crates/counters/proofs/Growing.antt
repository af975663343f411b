-- A D that grows by counters (specs/Counters: Growing): a rule that counts nothing, a claim that joins, a position that is done, a
-- chain that is walked. Assumes nothing.
--   growing_fires      the head of a rule that counts nothing is where the claims that join are
--   growing-joined     a claim joins; joined-grown, joined-there   what that leaves
--   growing-some, _pay a position is done: its rule counted it
use Prim.Native.Nat.{ℕ, ◌+◌, ◌*◌, ◌-◌, ◌<◌, ◌≤◌}
use mathlib.Core.Path.{◌≡◌, refl, sym, ◌∙◌, ap, ap₂, subst, subst⁻¹}
use mathlib.Core.Bool.{Bool, true, false, not, cond, ◌||◌, or-true}
use mathlib.Core.List.{List}
use mathlib.Core.Logic.{by_cases}
use native.Mathlib.Omega.{arith}
use native.Mathlib.Decide.{ℕ_discrete}
use lib.Dec.{T}
use lib.ListN.{get_or, set}
use Rattle.base.specs.Sets.{set_of}
use Rattle.base.proofs.Bools.{neither}
use Rattle.base.proofs.ByteSets.{set_same, set-within}
use Rattle.job.specs.Accepted.{WellFormed}
use Rattle.job.specs.Format.{claims, rules, literals, head_at}
use Rattle.counters.specs.Positions.{key_at, waiting}
use Rattle.counters.specs.Queues.{seen, pending, Joined}
use Rattle.counters.specs.Counters.{lacking, Aim, Growing}
use Rattle.counters.proofs.Owning.{Owned}
use Rattle.counters.proofs.Joining.{fits_unseen, fits-room, fits_join}
use Rattle.counters.proofs.Waiting.{waiting_done}
use Rattle.counters.proofs.Counting.{counts_same, counts_some, counts_pay}
use Rattle.counters.proofs.Lacking.{within_one, within_most}
use Rattle.counters.proofs.Positions.{lacking_wider, lacking-plain, lacking_same, lacking-held}
use Rattle.counters.proofs.Queues.{seen_other, pending-skip, pending_here, pending_gone, pending-other, pending-this, seen_at}

module _ (s : List ℕ) (a : Aim) (own cnt w q : List ℕ) (i x t : ℕ) (good : WellFormed s) (owned : Owned s own) (now : Growing s a own cnt w q i x t) where
  due : ℕ → Bool
  due p = lacking s a.against (set_of w) p || pending s q t i x p

  pub growing_fires : (r : ℕ) → r < rules s → get_or cnt r 0 ≡ 0 → T (a.most (head_at s r))
  unfolding due
  growing_fires r l z =
      let none : waiting own due (literals s) r ≡ 0 = omega (arith, now.counts.counted r l) in
      now.closed.closed r l (omega (arith, now.counts.counted r l))
      (λ p in_Body.
      let m = within_most s good in_Body in
      lacking_wider s a.against (set_of w) p a.most now.inside
      (neither (lacking s a.against (set_of w) p) (pending s q t i x p)
      (waiting_done own due (literals s) r p none m (within_one (owned.owner p m) in_Body))).0)

  -- claim c joins
  module _ (c : ℕ) (l : c < claims s) (new : set_of w c ≡ false) where
    module _ (f : T (a.most c)) (before : i ≤ t) (first : i ≡ t → literals s ≤ x) where
      w' : List ℕ
      w' = set w c 1

      q' : List ℕ
      q' = set q t (2 * c)

      same-due : (p : ℕ) → p < literals s → due p ≡ (lacking s a.against (set_of w') p || pending s q' (t + 1) i x p)
      unfolding due w' q'
      same-due p m =
          by_cases (ℕ_discrete (key_at s p) (2 * c))
          (λ e.
          let old : lacking s a.against (set_of w) p ≡ true = lacking-plain s a.against (set_of w) p c e ∙ ap not new in
          let on : pending s q' (t + 1) i x p ≡ true = pending-this s q t (2 * c) i x before (fits-room now.fits c l new) p e (fits_unseen now.fits c l new) (λ y. omega (arith, first y)) in
          rw (old, on, or-true (lacking s a.against (set_of w') p)))
          (λ n.
          ap₂ (λ (y z : Bool). y || z) (sym (lacking_same s a.against (set_of w) p (set_of w') c (λ d k. set_same w c 1 d k) n))
          (sym (pending-other s q t (2 * c) i x before (fits-room now.fits c l new) p n)))

      pub growing_join : Growing s a own cnt (set w c 1) (set q t (2 * c)) i x (t + 1)
      unfolding due w' q'
      growing_join =
          record {
            counts = counts_same due (λ p. lacking s a.against (set_of w') p || pending s q' (t + 1) i x p) same-due now.counts;
            fits = fits_join now.fits c l new;
            negated = λ d u. now.negated d (subst T (seen_other q t (2 * c) (fits-room now.fits c l new) (2 * d + 1) (λ e. omega arith)) u);
            inside = set-within w c a.most now.inside f;
            closed = now.closed;
          }

  pub growing-joined :
      (c : ℕ) → c < claims s → T (a.most c) → i ≤ t → (i ≡ t → literals s ≤ x) → (w' q' : List ℕ) (t' : ℕ) → Joined c w q t w' q' t'
      → Growing s a own cnt w' q' i x t'
  growing-joined c l f before first w' q' t' j =
      subst⁻¹ (λ (y : List ℕ). Growing s a own cnt y q' i x t') j.claims_are
      (subst⁻¹ (λ (y : List ℕ). Growing s a own cnt (cond (set_of w c) w (set w c 1)) y i x t') j.queue_is
      (subst⁻¹ (λ (y : ℕ). Growing s a own cnt (cond (set_of w c) w (set w c 1)) (cond (set_of w c) q (set q t (2 * c))) i x y) j.top_is
      (by (set_of w c) refl)))
    where
      by : (b : Bool) → set_of w c ≡ b → Growing s a own cnt (cond b w (set w c 1)) (cond b q (set q t (2 * c))) i x (cond b t (t + 1))
      by true e = now
      by false e = growing_join c l e f before first

-- a position is done
module _ (s : List ℕ) (a : Aim) (own cnt w q : List ℕ) (i p t : ℕ) (good : WellFormed s) (owned : Owned s own) (now : Growing s a own cnt w q i (p + 1) t) (inside : i < t) (l : p < literals s) (here : key_at s p ≡ get_or q i 0) where
  before : ℕ → Bool
  before j = lacking s a.against (set_of w) j || pending s q t i (p + 1) j

  after : ℕ → Bool
  after j = lacking s a.against (set_of w) j || pending s q t i p j

  was : before p ≡ true
  unfolding before
  was = rw (pending_here s q t i p inside here (now.fits.queue.fresh i inside)) (or-true (lacking s a.against (set_of w) p))

  gone : after p ≡ false
  unfolding after
  gone =
      rw (
        pending_gone s q t i p here,
        lacking-held s a.against (set_of w) (seen q t) now.fits.plain now.negated p (subst⁻¹ (λ (k : ℕ). T (seen q t k)) here (seen_at q i t inside)),
      )

  rest : (j : ℕ) → j < literals s → (j ≡ p → ⊥) → before j ≡ after j
  unfolding before after
  rest j m n = ap (λ (b : Bool). lacking s a.against (set_of w) j || b) (pending-skip s q t i p (p + 1) (omega arith) j (λ x y. absurd (n (omega arith))))

  pub growing-some : 1 ≤ get_or cnt (get_or own p 0) 0
  unfolding before after
  growing-some = counts_some s own cnt a.base before after p l owned was gone rest now.counts

  pub growing_pay : Growing s a own (set cnt (get_or own p 0) (get_or cnt (get_or own p 0) 0 - 1)) w q i p t
  unfolding before after
  growing_pay =
      record {
        counts = counts_pay s own cnt a.base before after p l owned was gone rest now.counts;
        fits = now.fits;
        negated = now.negated;
        inside = now.inside;
        closed = now.closed;
      }

-- other positions that are pending, but for none of the job's
pub growing-due :
    (s : List ℕ) (a : Aim) (own cnt w q : List ℕ) (i x t j y : ℕ) → ((p : ℕ) → p < literals s → pending s q t i x p ≡ pending s q t j y p)
    → Growing s a own cnt w q i x t → Growing s a own cnt w q j y t
growing-due s a own cnt w q i x t j y f now =
    record {
      counts =
          counts_same (λ p. lacking s a.against (set_of w) p || pending s q t i x p) (λ p. lacking s a.against (set_of w) p || pending s q t j y p)
          (λ p l. ap (λ (b : Bool). lacking s a.against (set_of w) p || b) (f p l)) now.counts;
      fits = now.fits;
      negated = now.negated;
      inside = now.inside;
      closed = now.closed;
    }

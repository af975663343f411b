-- A U that shrinks by counters (specs/Doubts: Falling): a claim that leaves, a position that fails. Assumes nothing.
--   falling_unseen, -room   a claim of the set is not on the list, which has room for it
--   falling-left            a claim leaves, unless it stays
--   falling_most            a counter fits 16 bits, and one more
--   falling_owe             a position fails: its rule counts it
--   falling-due             other positions that are pending, but for none of the job's
use Prim.Native.Nat.{ℕ, ◌+◌, ◌*◌, ◌<◌}
use mathlib.Core.Path.{◌≡◌, sym, ◌∙◌, ap, ap₂, subst, subst⁻¹}
use mathlib.Core.Bool.{Bool, true, false, not, ◌&&◌, and-false}
use mathlib.Core.List.{List}
use mathlib.Core.Logic.{by_cases}
use native.Mathlib.Omega.{arith}
use native.Mathlib.Decide.{ℕ_discrete}
use lib.Dec.{T}
use lib.ListN.{length, get_or, set, length-set}
use Rattle.base.specs.Sets.{Claims, set_of}
use Rattle.base.proofs.Bools.{is, is_false}
use Rattle.base.proofs.ByteSets.{set_gone, set_same}
use Rattle.job.specs.Accepted.{WellFormed}
use Rattle.job.specs.Format.{claims, rules, literals}
use Rattle.counters.specs.Positions.{key_at, fail_base}
use Rattle.counters.specs.Queues.{seen, pending}
use Rattle.counters.specs.Counters.{lacking}
use Rattle.counters.specs.Doubts.{Left, Falling}
use Rattle.counters.proofs.Owning.{Owned}
use Rattle.counters.proofs.Counting.{counts_same, counts_owe, counts-most}
use Rattle.counters.proofs.Positions.{lacking-plain, lacking_same, lacking-gone}
use Rattle.counters.proofs.Queues.{seen_at, seen_other, queue-room, queue_push, pending-skip, pending_here, pending_gone, pending-other, pending-this}
use Rattle.counters.proofs.Leaving.{stays-no, by_left}

module _ {s : List ℕ} {K : Claims} {own cnt u q : List ℕ} {i x t : ℕ} (now : Falling s K own cnt u q i x t) where
  due : ℕ → Bool
  due p = lacking s K (set_of u) p && not (pending s q t i x p)

  pub falling_most : WellFormed s → (r : ℕ) → r < rules s → get_or cnt r 0 < 65535
  falling_most good r l = omega (arith, counts-most now.counts r l, good.sized.literals_most)

  -- claim c is in the set
  module _ (c : ℕ) (l : c < claims s) (old : set_of u c ≡ true) where
    pub falling_unseen : seen q t (2 * c) ≡ false
    falling_unseen = is_false (seen q t (2 * c)) (λ v. now.plain c v (is (set_of u c) old))

    pub falling-room : t < length q
    falling-room = omega (arith, queue-room now.queue (2 * c) (omega arith) falling_unseen, now.queue.long)

    module _ (inside : i < t) where
      u' : List ℕ
      u' = set u c 0

      q' : List ℕ
      q' = set q t (2 * c)

      same-due : (p : ℕ) → p < literals s → due p ≡ (lacking s K (set_of u') p && not (pending s q' (t + 1) i x p))
      unfolding due u' q'
      same-due p m =
          by_cases (ℕ_discrete (key_at s p) (2 * c))
          (λ e.
          let held : lacking s K (set_of u) p ≡ false = lacking-plain s K (set_of u) p c e ∙ ap not old in
          let on : pending s q' (t + 1) i x p ≡ true = pending-this s q t (2 * c) i x (omega arith) falling-room p e falling_unseen (λ y. absurd (omega arith)) in
          rw (held, on) (sym (and-false (lacking s K (set_of u') p))))
          (λ n.
          ap₂ (λ (y z : Bool). y && not z) (sym (lacking_same s K (set_of u) p (set_of u') c (λ d k. set_same u c 0 d k) n))
          (sym (pending-other s q t (2 * c) i x (omega arith) falling-room p n)))

      falling_leave : Falling s K own cnt (set u c 0) (set q t (2 * c)) i x (t + 1)
      unfolding due u' q'
      falling_leave =
          let room : c < length u = omega (arith, now.size) in
          record {
            counts = counts_same due (λ p. lacking s K (set_of u') p && not (pending s q' (t + 1) i x p)) same-due now.counts;
            queue = queue_push now.queue (2 * c) (omega arith) falling_unseen;
            size = simp length-set now.size;
            plain = λ d v w.
                by_cases (ℕ_discrete d c) (λ e. set_gone u c room (subst (λ (y : ℕ). T (set_of (set u c 0) y)) e w))
                (λ n. now.plain d (subst T (seen_other q t (2 * c) falling-room (2 * d) (λ e. n (omega arith))) v) (subst T (set_same u c 0 d n) w));
            negated = λ d v. now.negated d (subst T (seen_other q t (2 * c) falling-room (2 * d + 1) (λ e. omega arith)) v);
          }

pub falling-left :
    {s k own cnt u q : List ℕ} {i x t : ℕ} → Falling s (set_of k) own cnt u q i x t → (c : ℕ) → c < claims s → i < t
    → {u' q' : List ℕ} {t' : ℕ} → Left k c u q t u' q' t' → Falling s (set_of k) own cnt u' q' i x t'
falling-left {s} {k} {own} {cnt} {u} {q} {i} {x} {t} now c l inside j =
    by_left j (λ y z n. Falling s (set_of k) own cnt y z i x n) (λ e. now) (λ e. falling_leave now c l (stays-no k u c e).0 inside)

-- a position fails
module _ (s : List ℕ) (K : Claims) (own cnt u q : List ℕ) (i p t : ℕ) (owned : Owned s own) (now : Falling s K own cnt u q i (p + 1) t) (inside : i < t) (l : p < literals s) (here : key_at s p ≡ get_or q i 0) where
  before : ℕ → Bool
  before j = lacking s K (set_of u) j && not (pending s q t i (p + 1) j)

  after : ℕ → Bool
  after j = lacking s K (set_of u) j && not (pending s q t i p j)

  was : before p ≡ false
  unfolding before
  was = rw (pending_here s q t i p inside here (now.queue.fresh i inside)) (and-false (lacking s K (set_of u) p))

  fails : after p ≡ true
  unfolding after
  fails =
      rw (
        pending_gone s q t i p here,
        lacking-gone s K (set_of u) (seen q t) now.plain now.negated p (subst⁻¹ (λ (k : ℕ). T (seen q t k)) here (seen_at q i t inside)),
      )

  rest : (j : ℕ) → j < literals s → (j ≡ p → ⊥) → after j ≡ before j
  unfolding before after
  rest j m n =
      ap (λ (b : Bool). lacking s K (set_of u) j && not b) (sym (pending-skip s q t i p (p + 1) (omega arith) j (λ x y. absurd (n (omega arith)))))

  pub falling_owe : Falling s K own (set cnt (get_or own p 0) (get_or cnt (get_or own p 0) 0 + 1)) u q i p t
  unfolding before after
  falling_owe =
      record {
        counts = counts_owe s own cnt fail_base after before p l owned fails was rest now.counts;
        queue = now.queue;
        size = now.size;
        plain = now.plain;
        negated = now.negated;
      }

pub falling-due :
    (s : List ℕ) (K : Claims) (own cnt u q : List ℕ) (i x t j y : ℕ) → ((p : ℕ) → p < literals s → pending s q t i x p ≡ pending s q t j y p)
    → Falling s K own cnt u q i x t → Falling s K own cnt u q j y t
falling-due s K own cnt u q i x t j y f now =
    record {
      counts =
          counts_same (λ p. lacking s K (set_of u) p && not (pending s q t i x p)) (λ p. lacking s K (set_of u) p && not (pending s q t j y p))
          (λ p l. ap (λ (b : Bool). lacking s K (set_of u) p && not b) (f p l)) now.counts;
      queue = now.queue;
      size = now.size;
      plain = now.plain;
      negated = now.negated;
    }

-- Sweeps over the members of a set, in their order. Assumes nothing.
--   passed_is      the test of a claim that has passed all its literals
--   LeftOf index t ms w i d   d is one of the first i members, w's, and has a literal left
--   Swept index t ms n w i best   best is the newest of these + 1, or 0, the members being n
--   swept_more, _same, _all   one claim more; one that is passed over; all
--   word-back      a word less 1 is what it stands for
--   found-still    the claim that was found last is the newest still
--   owns-all       whether all members are w's, by their marks; owns-front   and of the first n
use Prim.Native.Nat.{ℕ, ◌+◌, ◌-◌, ◌<◌, ◌≤◌}
use mathlib.Core.Path.{◌≡◌, refl, sym, ◌∙◌, ap, subst}
use mathlib.Core.Logic.{inl, inr, ⊎_elim}
use mathlib.Core.Bool.{Bool, true, false, true≢false}
use mathlib.Core.List.{List}
use native.Mathlib.Omega.{arith}
use lib.Dec.{T, leb}
use lib.ListN.{length, get_or, take}
use Rattle.std.specs.Bool.{MatchBool}
use Rattle.std.specs.List.{AllWithin, HoldsAt}
use Rattle.base.proofs.Bools.{is, is-not}
use Rattle.job.specs.declared.Cursor.{Cursor}
use Rattle.table.specs.Layout.{mark, cursor}
use Rattle.table.specs.Newest.{newer, NewestOf, some}
use Rattle.table.proofs.NewestOf.{newer_of, newest_like}
use Rattle.turn.specs.Ready.{passed_in}
use Rattle.turn.specs.KeptSet.{Member, free, word_of, FoundBy, OwnsAll}
use Rattle.turn.specs.declared.Chosen.{Chosen}
use Rattle.turn.specs.declared.Kept.{Kept}
use Rattle.std.proofs.Common.{Option, None, Some}
use Rattle.std.specs.Option.{SomeIff}
use Rattle.turn.proofs.Members.{member-up, member_last, member-cases, part_member, member-part}

-- its cursor is at the end
pub passed_is : (index t : List ℕ) (c : ℕ) {p : ℕ} {k : Cursor} → p ≡ cursor t c → k ≡ record { at = get_or index c 0 + p; end = get_or index (c + 1) 0 } → {b : Bool} → b ≡ leb k.end k.at → b ≡ passed_in index t c
passed_is index t c e f h = h ∙ (ap (λ (k : Cursor). leb k.end k.at) f ∙ ap (λ (x : ℕ). leb (get_or index (c + 1) 0) (get_or index c 0 + x)) e)

abbrev pub LeftOf : List ℕ → List ℕ → List ℕ → ℕ → ℕ → ℕ → Type 0
LeftOf index t ms w i d = Member ms i d × T (free index t w d)

pub record Swept (index t ms : List ℕ) (n w i best : ℕ) : Type 0 where
  pub within : i ≤ n
  pub newest : NewestOf t (LeftOf index t ms w i) best

module _ {index t ms : List ℕ} {n w i best : ℕ} (a : Swept index t ms n w i best) where
  module _ (l : i < n) {c : ℕ} (e : c ≡ get_or ms i 0) {b : Bool} (g : b ≡ free index t w c) where
    pub swept_more : b ≡ true → {r m : ℕ} → m ≡ newer t c best → r ≡ m → Swept index t ms n w (i + 1) r
    swept_more f {r} h k =
        record {
          within = omega arith;
          newest =
              rw (k ∙ h)
              (newer_of c (λ d p. ⊎_elim (λ m. inl (m, p.1)) (λ q. inr (q ∙ sym e)) (member-cases p.0)) (λ d p. (member-up (omega arith) p.0, p.1)) (member_last i e, is _ (sym g ∙ f)) a.newest);
        }

    pub swept_same : b ≡ false → {r : ℕ} → r ≡ best → Swept index t ms n w (i + 1) r
    swept_same f {r} h =
        record {
          within = omega arith;
          newest =
              rw h
              (newest_like (λ d p. (member-up (omega arith) p.0, p.1))
              (λ d p. ⊎_elim (λ m. (m, p.1)) (λ q. absurd (is-not (free index t w c) (sym g ∙ f) (subst (λ (k : ℕ). T (free index t w k)) (q ∙ sym e) p.1))) (member-cases p.0))
              (λ d p. refl) a.newest);
        }

  pub swept_all : n ≤ i → NewestOf t (LeftOf index t ms w n) best
  swept_all h = let e : i ≡ n = omega (arith, a.within) in rw e at a.newest

-- a word that stands for a claim or none, less 1
pub word-back : (o : Option ℕ) {b : ℕ} → SomeIff o (1 ≤ b) (b - 1) → word_of o ≡ b
word-back None h = omega arith
word-back (Some c) h = omega arith

pub found-still : {index t ms : List ℕ} {k : Kept} {w : ℕ} → {x : Chosen} → FoundBy index t k ms → k.chosen ≡ Some x → x.worker ≡ w → {b : Bool} → b ≡ free index t w x.claim → b ≡ true → NewestOf t (LeftOf index t ms w k.count) (x.claim + 1)
found-still {index} {t} {x = x} f h e g b =
    some x.claim (omega arith) (f.inside x h, is _ (sym g ∙ b)) (λ d p. f.newest x h d p.0 (subst (λ (v : ℕ). T (free index t v d)) (sym e) p.1))

-- every mark was the worker's, or one wasn't
pub owns-all : (t : List ℕ) (w : ℕ) (ms : List ℕ) {r : Bool} → MatchBool r (AllWithin (λ d. mark t d ≡ w + 1) ms 0 (length ms)) ((k : ℕ) × (k < length ms) × HoldsAt (λ d. mark t d ≡ w + 1 → ⊥) ms k) → OwnsAll t w ms (length ms) r
owns-all t w ms {r = true} h = record { yes = λ q d m. subst (λ (x : ℕ). mark t x ≡ w + 1) m.is (h m.at 0 (omega arith) m.before); no = λ q. absurd (true≢false q) }
owns-all t w ms {r = false} h = record { yes = λ q. absurd (true≢false (sym q)); no = λ q. (get_or ms h.0 0, record { at = h.0; before = h.1; is = refl }, h.2 0) }

-- of the first n members, as a list of their own
pub owns-front : {t : List ℕ} {w : ℕ} {ms : List ℕ} {n : ℕ} {r : Bool} → n ≤ length ms → OwnsAll t w (take n ms) (length (take n ms)) r → OwnsAll t w ms n r
owns-front l o = record { yes = λ q d m. o.yes q d (member-part l m); no = λ q. let x = o.no q in (x.0, part_member l x.1, x.2) }

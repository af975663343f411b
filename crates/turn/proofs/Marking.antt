-- Marks stored at the members of a set, one after the other. Assumes nothing.
--   ToTake ms t i d   d is one of the first i members, and not fresh
--   Taking ms t n w i u   u is t, but those of the first i of n members that are not fresh are w's
--   taken-front   those of the first n members, as a list of their own
--   Valued ms vs f   f gives each member the mark of its value
--   Giving ms vs t i u   u is t, but the first i members have the marks of their values
--   giving_more   one member more
use Prim.Native.Nat.{ℕ, ◌+◌, ◌<◌, ◌≤◌}
use mathlib.Core.Path.{◌≡◌, refl, sym, ◌∙◌, ap}
use mathlib.Core.Logic.{inl, inr, ⊎_elim}
use mathlib.Core.Bool.{not}
use mathlib.Core.List.{List}
use native.Mathlib.Omega.{arith}
use lib.Dec.{T}
use lib.ListN.{length, get_or, set, take, length-set}
use Rattle.table.specs.Layout.{mark_word, fresh, mark_of_value}
use Rattle.turn.specs.KeptSet.{Member, Places, Marked}
use Rattle.turn.proofs.Members.{member-up, member_last, member-cases, part_member, member-part}
use Rattle.turn.proofs.Marked.{marked_like, marked_more}

abbrev pub ToTake : List ℕ → List ℕ → ℕ → ℕ → Type 0
ToTake ms t i d = Member ms i d × T (not (fresh t d))

pub record Taking (ms t : List ℕ) (n w i : ℕ) (u : List ℕ) : Type 0 where
  pub within : i ≤ n
  pub marked : Marked (λ d. w + 1) (ToTake ms t i) t u

-- of the first n members, as a list of their own
pub taken-front : {f : ℕ → ℕ} {ms t u : List ℕ} {n : ℕ} → n ≤ length ms → Marked f (ToTake (take n ms) t (length (take n ms))) t u → Marked f (ToTake ms t n) t u
taken-front l m = marked_like (λ d p. (member-part l p.0, p.1)) (λ d p. (part_member l p.0, p.1)) (λ d p. refl) m

abbrev pub Valued : List ℕ → List ℕ → (ℕ → ℕ) → Type 0
Valued ms vs f = (i : ℕ) → i < length ms → f (get_or ms i 0) ≡ mark_of_value (get_or vs i 0)

pub record Giving (ms vs t : List ℕ) (i : ℕ) (u : List ℕ) : Type 0 where
  pub within : i ≤ length ms
  pub long : length u ≡ length t
  pub marked : (f : ℕ → ℕ) → Valued ms vs f → Marked f (Member ms i) t u

module _ {ms vs t u : List ℕ} {i : ℕ} (a : Giving ms vs t i u) where
  pub giving_more : Places t ms (length ms) → i < length ms → {c x m : ℕ} → c ≡ get_or ms i 0 → x ≡ get_or vs i 0 → m ≡ mark_of_value x → {v : List ℕ} → v ≡ set u (mark_word c) m → Giving ms vs t (i + 1) v
  giving_more p l {c} {x} {m} e g k {v} h =
      record {
        within = omega arith;
        long = ap length h ∙ length-set u (mark_word c) m ∙ a.long;
        marked = λ f y.
            rw h
            (marked_more c (omega (arith, p.words i l)) (λ d q. ⊎_elim (λ z. inl z) (λ z. inr (z ∙ sym e)) (member-cases q)) (λ d q. member-up (omega arith) q) (member_last i e) (k ∙ ap (λ (z : ℕ). mark_of_value z) g ∙ sym (y i l) ∙ ap f (sym e)) (a.marked f y));
      }

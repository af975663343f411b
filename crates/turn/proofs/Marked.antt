-- Marks stored at the claims of a set, in any order (`Marked`, specs/KeptSet). Assumes nothing.
--   marked_none, _more   at no claim; at one claim more
--   marked_like          another set with the same claims, and marks that are equal there
--   marked_list          at the claims of a list
--   marked_one           there is one such table only, where membership is decided
--   marked_all           so it is what `mark_all` makes
--   marked_out           the mark of a claim outside is as before
--   marked-cursor, -number, -opened   and so are cursors, numbers and the count of openings
use Prim.Native.Nat.{ℕ, ◌-◌, ◌/◌, ◌<◌}
use mathlib.Core.Path.{◌≡◌, refl, sym, ◌∙◌, subst}
use mathlib.Core.Logic.{◌⊎◌, ⊎_elim, by_cases}
use mathlib.Core.Bool.{Bool}
use mathlib.Core.List.{List}
use native.Mathlib.Omega.{arith}
use native.Mathlib.Decide.{ℕ_discrete}
use lib.Dec.{T}
use lib.ListN.{length, get_or, set, length-set}
use lib.Seq.{get_or-set_same, get_or-set_other, ext_get_or}
use Rattle.base.specs.Lists.{is_in}
use Rattle.base.proofs.Choose.{t?}
use Rattle.base.proofs.Lists.{In}
use Rattle.table.specs.Layout.{opened_word, claims_from, mark_word, cursor_word, number_word, mark, cursor, number, opened}
use Rattle.turn.specs.Turn.{mark_all}
use Rattle.turn.specs.KeptSet.{Marked}
use Rattle.turn.proofs.Lengths.{mark-length}
use Rattle.turn.proofs.Words.{marks_in, marks-other}

pub marked_none : {f : ℕ → ℕ} {S : ℕ → Type 0} (t : List ℕ) → ((d : ℕ) → S d → ⊥) → Marked f S t t
marked_none t none = record { long = refl; new = λ d s. absurd (none d s); old = λ i h. refl }

pub marked_like : {f g : ℕ → ℕ} {S S' : ℕ → Type 0} {t u : List ℕ} → ((d : ℕ) → S' d → S d) → ((d : ℕ) → S d → S' d) → ((d : ℕ) → S' d → f d ≡ g d) → Marked f S t u → Marked g S' t u
marked_like back to same m = record { long = m.long; new = λ d s. m.new d (back d s) ∙ same d s; old = λ i h. m.old i (λ d s e. h d (to d s) e) }

pub marked_more : {f : ℕ → ℕ} {S S' : ℕ → Type 0} {t u : List ℕ} (c : ℕ) → mark_word c < length t → ((d : ℕ) → S' d → S d ⊎ (d ≡ c)) → ((d : ℕ) → S d → S' d) → S' c → {v : ℕ} → v ≡ f c → Marked f S t u → Marked f S' t (set u (mark_word c) v)
marked_more {f} {S} {S'} {t} {u} c l cases all its {v} e m =
    record {
      long = length-set u (mark_word c) v ∙ m.long;
      new = λ d s.
          by_cases (ℕ_discrete d c)
          (λ q. subst (λ (k : ℕ). mark (set u (mark_word c) v) k ≡ f k) (sym q) (get_or-set_same u (mark_word c) v 0 (omega (arith, m.long)) ∙ e))
          (λ n. get_or-set_other u (mark_word c) (mark_word d) v 0 (λ q. n (omega arith)) ∙ m.new d (⊎_elim (λ x. x) (λ q. absurd (n q)) (cases d s)));
      old = λ i h. get_or-set_other u (mark_word c) i v 0 (h c its) ∙ m.old i (λ d s q. h d (all d s) q);
    }

pub marked_list : (f : ℕ → ℕ) (ds t : List ℕ) → ((d : ℕ) → In d ds → mark_word d < length t) → Marked f (λ d. In d ds) t (mark_all f ds t)
marked_list f ds t l = record { long = mark-length f ds t; new = λ d i. marks_in f ds t d (l d i) i; old = λ i h. marks-other f ds t i h }

module _ {f : ℕ → ℕ} {S : ℕ → Type 0} {t : List ℕ} (p : ℕ → Bool) (to : (d : ℕ) → S d → T (p d)) (from : (d : ℕ) → T (p d) → S d) where
  -- a word is the mark of a claim in the set, or no mark of one
  word_one : {u v : List ℕ} → Marked f S t u → Marked f S t v → (i : ℕ) → get_or u i 0 ≡ get_or v i 0
  word_one {u} {v} m n i = by_cases (ℕ_discrete i (mark_word k)) (λ e. at e (t? (p k))) (λ x. out (λ d s e. x (omega arith)))
    where
      -- the claim whose mark it would be
      k : ℕ
      k = (i - claims_from) / 3

      out : ((d : ℕ) → S d → i ≡ mark_word d → ⊥) → get_or u i 0 ≡ get_or v i 0
      out h = m.old i h ∙ sym (n.old i h)

      at : i ≡ mark_word k → Dec (T (p k)) → get_or u i 0 ≡ get_or v i 0
      at e (yes s) = rw e (m.new k (from k s) ∙ sym (n.new k (from k s)))
      at e (no x) = out (λ d s q. x (subst (λ (y : ℕ). T (p y)) (eq d q) (to d s)))
        where
          eq : (d : ℕ) → i ≡ mark_word d → d ≡ k
          eq d q = omega arith

  pub marked_one : {u v : List ℕ} → Marked f S t u → Marked f S t v → u ≡ v
  marked_one {u} {v} m n = ext_get_or 0 u v (m.long ∙ sym n.long) (λ i l. word_one m n i)

pub marked_all : (f : ℕ → ℕ) (ds : List ℕ) (S : ℕ → Type 0) (t u : List ℕ) → ((d : ℕ) → In d ds → mark_word d < length t) → ((d : ℕ) → S d → In d ds) → ((d : ℕ) → In d ds → S d) → Marked f S t u → u ≡ mark_all f ds t
marked_all f ds S t u l to from m = marked_one (λ d. is_in d ds) to from m (marked_like to from (λ d s. refl) (marked_list f ds t l))

module _ {f : ℕ → ℕ} {S : ℕ → Type 0} {t u : List ℕ} (m : Marked f S t u) where
  pub marked_out : (d : ℕ) → (S d → ⊥) → mark u d ≡ mark t d
  marked_out d n = m.old (mark_word d) (λ e s q. n (subst S (omega arith) s))

  pub marked-cursor : (d : ℕ) → cursor u d ≡ cursor t d
  marked-cursor d = m.old (cursor_word d) (λ e s q. omega arith)

  pub marked-number : (d : ℕ) → number u d ≡ number t d
  marked-number d = m.old (number_word d) (λ e s q. omega arith)

  pub marked-opened : opened u ≡ opened t
  marked-opened = m.old opened_word (λ e s q. omega arith)

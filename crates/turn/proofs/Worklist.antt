-- Laws of `visits`: what meeting claims does to the worklist. Assumes nothing.
--   Stands k d           d stands in the queue
--   Grown t n bs k k'    how the worklist k became k' when the claims bs were met, of n claims
--   visit-there, _push   one claim met, by the tests that the code makes
--   place-some, some-place, placed-yes, placed-no, member_in   what is in the set has a place, and the other way; so has a member
--   push-room            where there is room in the queue
--   pushed k b           the set with b, which was not in it: pushed-gathered
--   visits-grown         the claims bs met, in order
--   Expanding            a loop over a cursor's claims, with its laws: expanding-start, _less, _more, _done
use Prim.Native.Nat.{ℕ, ◌+◌, ◌-◌, ◌≤◌, ◌<◌}
use mathlib.Core.Path.{◌≡◌, refl, sym, ◌∙◌, ap, subst, subst⁻¹}
use mathlib.Core.Bool.{true, false, not}
use mathlib.Core.List.{List, [], ◌∷◌}
use mathlib.Core.Logic.{by_cases}
use native.Mathlib.Omega.{arith}
use native.Mathlib.Decide.{ℕ_discrete}
use borrow.Author.Tests.{le-leb, lt-leb}
use lib.Dec.{T, T_not, not_T, eqb, eqb→eq}
use lib.ListN.{length, get_or, set, length-set}
use lib.Seq.{get_or-set_same, get_or-set_other}
use Rattle.base.specs.Sets.{◌⊆◌}
use Rattle.base.proofs.Bools.{is, is_true, is-not}
use Rattle.base.proofs.Choose.{pick_elim, pick_yes, pick_no}
use Rattle.base.proofs.Lists.{In, in_head, in_tail, InCons, first, later, in-cases, in-nil}
use Rattle.base.proofs.Sets.{count_le, count_less}
use Rattle.job.specs.Job.{claim_of}
use Rattle.job.specs.Format.{literal_byte, literal_at}
use Rattle.job.specs.declared.Cursor.{Cursor}
use Rattle.base.specs.Sets.{set_of}
use Rattle.table.specs.Layout.{mark, complete, true_mark}
use Rattle.turn.specs.Gather.{Work, visit, visits, onward, met, Gathered, Room}
use Rattle.turn.proofs.Walk.{onward_more, onward_end, met_none, met_first}

-- a claim is in a set exactly where it has a place
pub place-some : (w : List ℕ) (c : ℕ) → T (set_of w c) → 0 < get_or w c 0
unfolding set_of
place-some w c h = by_cases (ℕ_discrete (get_or w c 0) 0) (λ e. absurd (subst (λ (x : ℕ). T (not (eqb x 0))) e h)) (λ n. omega arith)

pub some-place : (w : List ℕ) (c : ℕ) → 0 < get_or w c 0 → T (set_of w c)
unfolding set_of
some-place w c h = not_T (eqb (get_or w c 0) 0) (λ t. absurd (omega (arith, eqb→eq (get_or w c 0) 0 t)))

pub placed-yes : (w : List ℕ) (c : ℕ) → (get_or w c 0 ≡ 0 → ⊥) → set_of w c ≡ true
placed-yes w c h = is_true (set_of w c) (some-place w c (omega arith))

pub placed-no : (w : List ℕ) (c : ℕ) → get_or w c 0 ≡ 0 → set_of w c ≡ false
unfolding set_of
placed-no w c e = ap (λ (x : ℕ). not (eqb x 0)) e

-- one claim placed
module _ (w : List ℕ) (b v : ℕ) where
  pub set_there : b < length w → T (set_of (set w b (v + 1)) b)
  set_there l = some-place (set w b (v + 1)) b (omega (arith, get_or-set_same w b (v + 1) 0 l))

  pub set_other : (d : ℕ) → (d ≡ b → ⊥) → set_of (set w b (v + 1)) d ≡ set_of w d
  unfolding set_of
  set_other d n = ap (λ (x : ℕ). not (eqb x 0)) (get_or-set_other w b d (v + 1) 0 n)

  set_keeps : b < length w → set_of w ⊆ set_of (set w b (v + 1))
  set_keeps l d h =
      by_cases (ℕ_discrete d b) (λ e. subst⁻¹ (λ (x : ℕ). T (set_of (set w b (v + 1)) x)) e (set_there l)) (λ n. subst⁻¹ T (set_other d n) h)

-- a member is in the set
pub member_in : {n : ℕ} {k : Work} → Gathered n k → (i : ℕ) → i < k.top → T (set_of k.place (get_or k.members i 0))
member_in {n} {k} g i l = some-place k.place (get_or k.members i 0) (omega (arith, g.placed i l))

-- where a claim was not met, there is room in the queue
pub push-room : (n : ℕ) (k : Work) (b : ℕ) → Gathered n k → b < n → (T (set_of k.place b) → ⊥) → (k.top < length k.members) × (k.top < n)
push-room n k b f l out =
    let inside : b < length k.place = omega (arith, f.long) in
    let less = count_less (set_of k.place) (set_of (set k.place b 1)) (set_keeps k.place b 0 inside) n b l (set_there k.place b 0 inside) out in
    let most = count_le (set_of (set k.place b 1)) n in
    (omega (arith, f.most, f.wide), omega (arith, f.most))

-- one claim more
abbrev pub pushed : Work → ℕ → Work
pushed k b = record { place = set k.place b (k.top + 1); members = set k.members k.top b; top = k.top + 1 }

module _ (n : ℕ) (k : Work) (b : ℕ) (f : Gathered n k) (l : b < n) (out : T (set_of k.place b) → ⊥) where
  room : (k.top < length k.members) × (k.top < n)
  room = push-room n k b f l out

  inside : b < length k.place
  inside = omega (arith, f.long)

  place_b : get_or (set k.place b (k.top + 1)) b 0 ≡ k.top + 1
  place_b = get_or-set_same k.place b (k.top + 1) 0 inside

  last_b : get_or (set k.members k.top b) k.top 0 ≡ b
  last_b = get_or-set_same k.members k.top b 0 room.0

  earlier : (i : ℕ) → i < k.top → get_or (set k.members k.top b) i 0 ≡ get_or k.members i 0
  earlier i h = get_or-set_other k.members k.top i b 0 (λ e. omega arith)

  placed_all : (i : ℕ) → i < k.top + 1 → get_or (set k.place b (k.top + 1)) (get_or (set k.members k.top b) i 0) 0 ≡ i + 1
  placed_all i h =
      by_cases (ℕ_discrete i k.top)
      (λ e. ap (λ (x : ℕ). get_or (set k.place b (k.top + 1)) (get_or (set k.members k.top b) x 0) 0) e ∙ (ap (λ (x : ℕ). get_or (set k.place b (k.top + 1)) x 0) last_b ∙ (place_b ∙ ap (λ (x : ℕ). x + 1) (sym e))))
      (λ m.
      let low : i < k.top = omega arith in
      ap (λ (x : ℕ). get_or (set k.place b (k.top + 1)) x 0) (earlier i low)
      ∙ (get_or-set_other k.place b (get_or k.members i 0) (k.top + 1) 0 (λ e. out (subst (λ (x : ℕ). T (set_of k.place x)) e (member_in f i low))) ∙ f.placed i low))

  listed_all : (c : ℕ) → T (set_of (set k.place b (k.top + 1)) c) → (get_or (set k.place b (k.top + 1)) c 0 ≤ k.top + 1) × (get_or (set k.members k.top b) (get_or (set k.place b (k.top + 1)) c 0 - 1) 0 ≡ c)
  listed_all c h =
      by_cases (ℕ_discrete c b)
      (λ e.
      let q : get_or (set k.place b (k.top + 1)) c 0 ≡ k.top + 1 = ap (λ (x : ℕ). get_or (set k.place b (k.top + 1)) x 0) e ∙ place_b in
      let z : get_or (set k.place b (k.top + 1)) c 0 - 1 ≡ k.top = omega arith in
      (omega arith, ap (λ (x : ℕ). get_or (set k.members k.top b) x 0) z ∙ (last_b ∙ sym e)))
      (λ m.
      let q : get_or (set k.place b (k.top + 1)) c 0 ≡ get_or k.place c 0 = get_or-set_other k.place b c (k.top + 1) 0 m in
      let there = subst T (set_other k.place b k.top c m) h in
      let some = place-some k.place c there in
      let old = f.listed c there in
      let z : get_or (set k.place b (k.top + 1)) c 0 - 1 ≡ get_or k.place c 0 - 1 = omega arith in
      (omega (arith, old.0), ap (λ (x : ℕ). get_or (set k.members k.top b) x 0) z ∙ (earlier (get_or k.place c 0 - 1) (omega (arith, old.0)) ∙ old.1)))

  pub pushed-gathered : Gathered n (pushed k b)
  pushed-gathered =
      let less = count_less (set_of k.place) (set_of (set k.place b (k.top + 1))) (set_keeps k.place b k.top inside) n b l (set_there k.place b k.top inside) out in
      record {
        few = f.few;
        long = length-set k.place b (k.top + 1) ∙ f.long;
        wide = omega (arith, length-set k.members k.top b, f.wide);
        most = omega (arith, less, f.most);
        placed = placed_all;
        listed = listed_all;
      }

pub data Stands (k : Work) (d : ℕ) : Type 0 where
  at : (i : ℕ) → i < k.top → get_or k.members i 0 ≡ d → Stands k d

-- a claim in the set was there before, or was met, is not complete and stands in the queue
pub data Was (t bs : List ℕ) (k k' : Work) (d : ℕ) : Type 0 where
  before : T (set_of k.place d) → Was t bs k k' d
  new : In d bs → T (not (complete t d)) → Stands k' d → Was t bs k k' d

pub record Grown (t : List ℕ) (n : ℕ) (bs : List ℕ) (k k' : Work) : Type 0 where
  pub gathered : Gathered n k'
  pub wide : length k'.members ≡ length k.members
  pub keeps : set_of k.place ⊆ set_of k'.place
  pub met : (d : ℕ) → In d bs → T (not (complete t d)) → T (set_of k'.place d)
  pub was : (d : ℕ) → T (set_of k'.place d) → Was t bs k k' d
  pub below : (i : ℕ) → i < k.top → get_or k'.members i 0 ≡ get_or k.members i 0
  pub higher : k.top ≤ k'.top

module _ (t : List ℕ) (n : ℕ) where
  none-met : (k : Work) → Gathered n k → (bs : List ℕ) → ((d : ℕ) → In d bs → T (not (complete t d)) → T (set_of k.place d)) → Grown t n bs k k
  none-met k g bs f = record { gathered = g; wide = refl; keeps = λ d h. h; met = f; was = λ d h. before h; below = λ i l. refl; higher = omega arith }

  only : (b d : ℕ) (P : ℕ → Type 0) → P b → In d (b ∷ []) → P d
  only b d P p i = go (in-cases d b [] i)
    where
      go : InCons d b [] → P d
      go (first e) = rw e p
      go (later m) = absurd (in-nil d m)

  one_more : (b : ℕ) (k : Work) → b < n → Gathered n k → T (not (complete t b)) → (T (set_of k.place b) → ⊥) → Grown t n (b ∷ []) k (pushed k b)
  one_more b k l f open' out =
      let inside : b < length k.place = omega (arith, f.long) in
      let wide = (push-room n k b f l out).0 in
      record {
        gathered = pushed-gathered n k b f l out;
        wide = length-set k.members k.top b;
        keeps = set_keeps k.place b k.top inside;
        met = λ d i h. only b d (λ x. T (set_of (set k.place b (k.top + 1)) x)) (set_there k.place b k.top inside) i;
        was = λ d h.
            by_cases (ℕ_discrete d b)
            (λ e. new (rw e (in_head b [])) (rw e open') (at k.top (omega arith) (get_or-set_same k.members k.top b 0 wide ∙ sym e)))
            (λ m. before (subst T (set_other k.place b k.top d m) h));
        below = λ i h. get_or-set_other k.members k.top i b 0 (λ e. omega arith);
        higher = omega arith;
      }

  visit-grown : (b : ℕ) (k : Work) → b < n → Gathered n k → Grown t n (b ∷ []) k (visit t b k)
  unfolding visit
  visit-grown b k l f =
      pick_elim (Grown t n (b ∷ []) k) (complete t b)
      (λ h. none-met k f (b ∷ []) (λ d i. only b d (λ x. T (not (complete t x)) → T (set_of k.place x)) (λ m. absurd (T_not (complete t b) m h)) i))
      (λ m.
      pick_elim (Grown t n (b ∷ []) k) (set_of k.place b)
      (λ h. none-met k f (b ∷ []) (λ d i. only b d (λ x. T (not (complete t x)) → T (set_of k.place x)) (λ m. h) i))
      (λ o. one_more b k l f m (T_not (set_of k.place b) o)))

  more : (b : ℕ) (bs : List ℕ) (k₀ k₁ k₂ : Work) → Grown t n (b ∷ []) k₀ k₁ → Grown t n bs k₁ k₂ → Grown t n (b ∷ bs) k₀ k₂
  more b bs k₀ k₁ k₂ f g =
      record {
        gathered = g.gathered;
        wide = g.wide ∙ f.wide;
        keeps = λ d h. g.keeps d (f.keeps d h);
        met = λ d i h. meet d h (in-cases d b bs i);
        was = λ d h. came d (g.was d h);
        below = λ i l. g.below i (omega (arith, f.higher)) ∙ f.below i l;
        higher = omega (arith, f.higher, g.higher);
      }
    where
      meet : (d : ℕ) → T (not (complete t d)) → InCons d b bs → T (set_of k₂.place d)
      meet d h (first e) = g.keeps d (f.met d (rw e (in_head b [])) h)
      meet d h (later i) = g.met d i h

      raise : (d : ℕ) → Stands k₁ d → Stands k₂ d
      raise d (at i l e) = at i (omega (arith, g.higher)) (g.below i l ∙ e)

      old : (d : ℕ) → Was t (b ∷ []) k₀ k₁ d → Was t (b ∷ bs) k₀ k₂ d
      old d (before h) = before h
      old d (new i m s) = new (only b d (λ x. In x (b ∷ bs)) (in_head b bs) i) m (raise d s)

      came : (d : ℕ) → Was t bs k₁ k₂ d → Was t (b ∷ bs) k₀ k₂ d
      came d (before h) = old d (f.was d h)
      came d (new i m s) = new (in_tail d b bs i) m s

  pub visits-grown : (bs : List ℕ) (k : Work) → Gathered n k → ((b : ℕ) → In b bs → b < n) → Grown t n bs k (visits t bs k)
  unfolding visits
  visits-grown [] k f h = none-met k f [] (λ d i. absurd (in-nil d i))
  visits-grown (b ∷ bs) k f h =
      let g = visit-grown b k (h b (in_head b bs)) f in
      more b bs k (visit t b k) (visits t bs (visit t b k)) g (visits-grown bs (visit t b k) g.gathered (λ d i. h d (in_tail d b bs i)))

  pub visit-fits : (b : ℕ) (k : Work) → b < n → Gathered n k → Gathered n (visit t b k)
  visit-fits b k l f = (visit-grown b k l f).gathered

  pub visit-wide : (b : ℕ) (k : Work) → b < n → Gathered n k → length (visit t b k).members ≡ length k.members
  visit-wide b k l f = (visit-grown b k l f).wide

-- one claim met, by the tests that the code makes
module _ (t : List ℕ) (b : ℕ) (k : Work) (m : ℕ) (read : m ≡ mark t b) where
  pub visit-complete : true_mark ≤ m → visit t b k ≡ k
  unfolding visit
  visit-complete h = pick_yes (complete t b) _ _ (is _ (le-leb true_mark (mark t b) (omega arith)))

  module _ (low : m < true_mark) where
    pub visit-there : set_of k.place b ≡ true → visit t b k ≡ k
    unfolding visit
    visit-there e = pick_no (complete t b) _ _ (is-not _ (lt-leb true_mark (mark t b) (omega arith))) ∙ pick_yes (set_of k.place b) _ _ (is _ e)

    pub visit_push : set_of k.place b ≡ false → visit t b k ≡ pushed k b
    unfolding visit
    visit_push e = pick_no (complete t b) _ _ (is-not _ (lt-leb true_mark (mark t b) (omega arith))) ∙ pick_no (set_of k.place b) _ _ (is-not _ e)

-- From cursor c₀ and worklist k₀ a loop came to c and k: what is still to be met makes of k what all that was to be met makes of k₀.
pub record Expanding (s : List ℕ) (m : ℕ) (index t : List ℕ) (c₀ : Cursor) (k₀ : Work) (c : Cursor) (k : Work) : Type 0 where
  pub room : Room s m index t (length k₀.place) c k
  pub wide : length k.members ≡ length k₀.members
  pub to_come : visits t (met s m index t c) k ≡ visits t (met s m index t c₀) k₀

pub expanding-start : {s : List ℕ} {m : ℕ} {index t : List ℕ} {c₀ : Cursor} {k₀ : Work} → Room s m index t (length k₀.place) c₀ k₀ → Expanding s m index t c₀ k₀ c₀ k₀
expanding-start r = record { room = r; wide = refl; to_come = refl }

visits_none : (t : List ℕ) (k : Work) → visits t [] k ≡ k
unfolding visits
visits_none t k = refl

visits_first : (t : List ℕ) (b : ℕ) (bs : List ℕ) (k : Work) → visits t (b ∷ bs) k ≡ visits t bs (visit t b k)
unfolding visits
visits_first t b bs k = refl

module _ (s : List ℕ) (m : ℕ) (index t : List ℕ) (c₀ : Cursor) (k₀ : Work) (c : Cursor) (k : Work) (x : Expanding s m index t c₀ k₀ c k) where
  pub expanding-below : c.at < c.end → claim_of (literal_at s m c.at) < length k.place
  expanding-below l = omega (arith, x.room.below c.at (omega arith) l, x.room.fits.long)

  pub expanding-fits : Gathered (length k.place) k
  expanding-fits = subst⁻¹ (λ (n : ℕ). Gathered n k) x.room.fits.long x.room.fits

  abbrev next : Cursor
  next = onward index t (literal_at s m c.at) c

  pub expanding_less : c.at < c.end → (c.at < next.at) × (next.end ≡ c.end)
  expanding_less l = (onward_more index t (literal_at s m c.at) c (x.room.ends c.at (omega arith) l), onward_end index t (literal_at s m c.at) c)

  pub expanding_more : (b : ℕ) (c' : Cursor) (k' : Work) → c.at < c.end → b ≡ claim_of (literal_at s m c.at) → visit t b k ≡ k' → c' ≡ onward index t (literal_at s m c.at) c → Expanding s m index t c₀ k₀ c' k'
  expanding_more b c' k' l i u e =
      let v : visit t (claim_of (literal_at s m c.at)) k ≡ k' = sym (ap (λ (y : ℕ). visit t y k) i) ∙ u in
      let low : claim_of (literal_at s m c.at) < length k₀.place = x.room.below c.at (omega arith) l in
      let f = x.room.fits in
      let n = expanding_less l in
      subst⁻¹ (λ (y : Cursor). Expanding s m index t c₀ k₀ y k') e
      (record {
        room = record {
          bytes = subst⁻¹ (λ (y : ℕ). literal_byte m y ≤ length s) n.1 x.room.bytes;
          most = omega (arith, x.room.most);
          ends = λ i g h. x.room.ends i (omega arith) (omega arith);
          below = λ i g h. x.room.below i (omega arith) (omega arith);
          words = x.room.words;
          fits = subst (λ (y : Work). Gathered (length k₀.place) y) v (visit-fits t (length k₀.place) (claim_of (literal_at s m c.at)) k low f);
        };
        wide = sym (ap (λ (y : Work). length y.members) v) ∙ (visit-wide t (length k₀.place) (claim_of (literal_at s m c.at)) k low f ∙ x.wide);
        to_come =
            sym (ap (visits t (met s m index t next)) v)
            ∙ (sym (ap (λ (bs : List ℕ). visits t bs k) (met_first s m index t c x.room.ends l) ∙ visits_first t (claim_of (literal_at s m c.at)) (met s m index t next) k) ∙ x.to_come);
      })

  pub expanding_done : c.end ≤ c.at → visits t (met s m index t c₀) k₀ ≡ k
  expanding_done l = sym x.to_come ∙ (ap (λ (bs : List ℕ). visits t bs k) (met_none s m index t c l) ∙ visits_none t k)

-- What a body is, literal by literal (specs/Written: status_of). Assumes nothing.
--   inside_is                  a claim is in the part where its place is not 0
--   lowered_in, -failed, -undecided, -other   what a body becomes by one literal more, by the tests that the code makes
--   Stating s t place from end n k   the body is what the literals from k on make of one that is n
--   stating-start, _more, -failed, _end   none met yet; one more; a failing one; all
use Prim.Native.Nat.{ℕ, ◌+◌, ◌<◌, ◌≤◌}
use mathlib.Core.Path.{◌≡◌, refl, sym, ◌∙◌, ap}
use mathlib.Core.Bool.{Bool, true, false, not, cond, ◌&&◌}
use mathlib.Core.List.{List, ◌∷◌}
use native.Mathlib.Omega.{arith}
use borrow.Author.Tests.{eq-eqb, ne_eqb}
use lib.Dec.{eqb}
use lib.ListN.{get_or}
use Rattle.base.specs.Sets.{set_of}
use Rattle.job.specs.Job.{claim_of}
use Rattle.job.specs.Format.{rules, literal_at}
use Rattle.job.specs.declared.Literal.{Literal}
use Rattle.semantics.specs.Model.{Body, all_pass}
use Rattle.table.specs.Layout.{mark, undefined_mark}
use Rattle.table.specs.Literals.{failed}
use Rattle.parts.specs.Part.{within, failing, undecided, standing}
use Rattle.parts.specs.declared.bodies.Status.{Status}
use Rattle.parts.specs.declared.bodies.Status.TheVariants.{Failed, Undecided, Decided}
use Rattle.parts.specs.Written.{literals_in, lowered, status_of}
use Rattle.parts.proofs.LiteralsRead.{literals_none, literals_more}

pub inside_is : (place : List ℕ) (l : Literal) {b : ℕ} → b ≡ claim_of l → not (eqb (get_or place b 0) 0) ≡ within place l
unfolding set_of
inside_is place l e = ap (λ (c : ℕ). not (eqb (get_or place c 0) 0)) e

module _ (t place : List ℕ) (l : Literal) (n : Status) where
  pub lowered_in : within place l ≡ true → n ≡ lowered t place l n
  unfolding lowered
  lowered_in e = rw e

  pub lowered-failed : within place l ≡ false → failed t l ≡ true → Failed ≡ lowered t place l n
  unfolding lowered
  lowered-failed e f = rw (e, f)

  module _ {b m : ℕ} (out : within place l ≡ false) (passed : failed t l ≡ false) (claim : b ≡ claim_of l) (is : m ≡ mark t b) where
    marked : m ≡ mark t (claim_of l)
    marked = is ∙ ap (mark t) claim

    pub lowered-undecided : m ≡ undefined_mark → Undecided ≡ lowered t place l n
    unfolding lowered
    lowered-undecided q = rw (out, passed, eq-eqb (mark t (claim_of l)) undefined_mark (sym marked ∙ q))

    pub lowered-other : (m ≡ undefined_mark → ⊥) → n ≡ lowered t place l n
    unfolding lowered
    lowered-other q = rw (out, passed, ne_eqb (mark t (claim_of l)) undefined_mark (λ e. q (marked ∙ e)))

-- one that is undecided or decided stands
undecided-stands : Undecided ≡ Failed → ⊥
undecided-stands e = let z : ◌≡◌ {A = ℕ} 0 1 = cc in omega arith

decided-stands : Decided ≡ Failed → ⊥
decided-stands e = let z : ◌≡◌ {A = ℕ} 0 1 = cc in omega arith

-- what a body makes of one that is n
unfoldable pub status_from : List ℕ → List ℕ → Status → Body → Status
status_from t place n b = cond (standing t place b) (cond (all_pass (λ l. not (undecided t place l)) b) n Undecided) Failed

module _ (t place : List ℕ) (n : Status) (l : Literal) (b : Body) where
  one_more :
      (f u x y : Bool) → (cond f Failed (cond u Undecided n) ≡ Failed → ⊥)
      → cond (not f && x) (cond (not u && y) n Undecided) Failed ≡ cond x (cond y (cond f Failed (cond u Undecided n)) Undecided) Failed
  one_more true u x y h = absurd (h refl)
  one_more false true true true h = refl
  one_more false true true false h = refl
  one_more false true false y h = refl
  one_more false false x y h = refl

  from_more : (lowered t place l n ≡ Failed → ⊥) → status_from t place n (l ∷ b) ≡ status_from t place (lowered t place l n) b
  unfolding lowered status_from
  from_more = one_more (failing t place l) (undecided t place l) (standing t place b) (all_pass (λ k. not (undecided t place k)) b)

  one_none : (f u x y : Bool) → (n ≡ Failed → ⊥) → cond f Failed (cond u Undecided n) ≡ Failed → cond (not f && x) (cond (not u && y) n Undecided) Failed ≡ Failed
  one_none true u x y z h = refl
  one_none false true x y z h = absurd (undecided-stands h)
  one_none false false x y z h = absurd (z h)

  from-failed : (n ≡ Failed → ⊥) → lowered t place l n ≡ Failed → status_from t place n (l ∷ b) ≡ Failed
  unfolding lowered status_from
  from-failed = one_none (failing t place l) (undecided t place l) (standing t place b) (all_pass (λ k. not (undecided t place k)) b)

pub record Stating (s t place : List ℕ) (from end : ℕ) (n : Status) (k : ℕ) : Type 0 where
  pub stands : n ≡ Failed → ⊥
  pub so : status_of t place (literals_in s from end) ≡ status_from t place n (literals_in s k end)

pub stating-start : (s t place : List ℕ) (from end : ℕ) → Stating s t place from end Decided from
unfolding status_of status_from
stating-start s t place from end = record { stands = decided-stands; so = refl }

module _ {s t place : List ℕ} {from end : ℕ} {n : Status} {k : ℕ} (a : Stating s t place from end n k) where
  module _ (l : k < end) {x : Literal} (is : x ≡ literal_at s (rules s) k) {r : Status} (met : r ≡ lowered t place x n) where
    first : status_of t place (literals_in s from end) ≡ status_from t place n (x ∷ literals_in s (k + 1) end)
    first =
        a.so
        ∙ ap (status_from t place n) (literals_more s k end l)
        ∙ ap (λ (y : Literal). status_from t place n (y ∷ literals_in s (k + 1) end)) (sym is)

    pub stating_more : (r ≡ Failed → ⊥) → Stating s t place from end r (k + 1)
    stating_more h =
        record {
          stands = h;
          so = first ∙ from_more t place n x (literals_in s (k + 1) end) (λ e. h (met ∙ e)) ∙ ap (λ (y : Status). status_from t place y (literals_in s (k + 1) end)) (sym met);
        }

    pub stating-failed : r ≡ Failed → Failed ≡ status_of t place (literals_in s from end)
    stating-failed e = sym (first ∙ from-failed t place n x (literals_in s (k + 1) end) a.stands (sym met ∙ e))

  pub stating_end : end ≤ k → n ≡ status_of t place (literals_in s from end)
  unfolding status_from
  stating_end h = sym (a.so ∙ ap (status_from t place n) (literals_none s k end h))

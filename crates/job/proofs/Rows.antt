-- Laws of checks in order. Assumes nothing.
use Prim.Native.Nat.{ℕ, zero, suc, ◌<◌}
use mathlib.Core.Path.{◌≡◌, refl, sym, ◌∙◌, ap}
use mathlib.Core.Bool.{Bool, true, false}
use Rattle.std.specs.Prelude.{Err, Result}
use Rattle.std.specs.Result.{IsErrAnd}
use Rattle.std.proofs.lemmas.Result.{err_from_is_err_and}
use Rattle.job.specs.declared.Refusal.{Refusal}
use native.Mathlib.Omega.{arith}
use Rattle.job.specs.Rows.{◌⨾◌, row, scan}
use Rattle.job.specs.Check.{Check}
use Rattle.job.specs.Check.{Accepted, Refused}

-- a row that does not hold hands on to the later ones, and one that holds refuses
pub pass : (b : Bool) (n p : ℕ) (later : Check) {r : Check} → b ≡ false → r ≡ later → r ≡ row b n p ⨾ later
unfolding row ◌⨾◌
pass b n p later e q = rw e q

pub stop : (b : Bool) (n p : ℕ) (later : Check) → b ≡ true → Refused n p ≡ row b n p ⨾ later
unfolding row ◌⨾◌
stop b n p later e = rw e

-- the same of any check, whose answer a is in hand
pub go : (x later : Check) {a r : Check} → a ≡ Accepted → a ≡ x → r ≡ later → r ≡ x ⨾ later
unfolding ◌⨾◌
go x later e q t = rw (sym q ∙ e) t

pub halt : (x later : Check) {r : Check} {n p : ℕ} → r ≡ Refused n p → r ≡ x → r ≡ x ⨾ later
unfolding ◌⨾◌
halt x later e q = e ∙ rw (sym q ∙ e)

-- the same where `?` hands the answer on: what it lets through, and what it returns at once
pub onward : (x later : Check) {r : Check} → Accepted ≡ x → r ≡ later → r ≡ x ⨾ later
unfolding ◌⨾◌
onward x later e q = rw (← e) q

pub returned : {A : Type 0} (r : Result A Refusal) {e : Refusal} → IsErrAnd r (λ y. y ≡ e) → r ≡ Err e
returned r h = let p = err_from_is_err_and r h in rw (p.1, p.2) refl

pub exit : (x later : Check) {r : Check} {e : Refusal} → IsErrAnd r (λ y. y ≡ e) → Err e ≡ x → r ≡ x ⨾ later
unfolding ◌⨾◌
exit x later {r} h q = rw (← q) (returned r h)

-- a scan that finds none, and one that stops at i
pub scan_none : (bad : ℕ → Bool) (n number : ℕ) (place : ℕ → ℕ) → ((k : ℕ) → k < n → bad k ≡ false) → Accepted ≡ scan bad n number place
unfolding scan
scan_none bad zero number place h = refl
scan_none bad (suc n) number place h =
    pass _ _ _ _ (h 0 (omega arith)) (scan_none (λ k. bad (suc k)) n number (λ k. place (suc k)) (λ k l. h (suc k) (omega arith)))

pub scan_at : (bad : ℕ → Bool) (n i number : ℕ) (place : ℕ → ℕ) → i < n → ((k : ℕ) → k < i → bad k ≡ false) → bad i ≡ true → Refused number (place i) ≡ scan bad n number place
unfolding scan
scan_at bad zero i number place l h e = absurd (omega arith)
scan_at bad (suc n) zero number place l h e = stop _ _ _ _ e
scan_at bad (suc n) (suc i) number place l h e =
    pass _ _ _ _ (h 0 (omega arith)) (scan_at (λ k. bad (suc k)) n i number (λ k. place (suc k)) (omega arith) (λ k m. h (suc k) (omega arith)) e)

-- what an accepted check says of its parts, and back
pub both : (x later : Check) → Accepted ≡ x ⨾ later → (Accepted ≡ x) × (Accepted ≡ later)
unfolding ◌⨾◌
both Accepted later e = (refl, e)
both (Err refusal) later e = let z : ◌≡◌ {A = ℕ} 0 1 = cc in absurd (omega arith)

pub join : (x later : Check) → Accepted ≡ x → Accepted ≡ later → Accepted ≡ x ⨾ later
unfolding ◌⨾◌
join x later e t = rw (← e) t

pub row-no : (b : Bool) (n p : ℕ) → Accepted ≡ row b n p → b ≡ false
unfolding row
row-no true n p e = let z : ◌≡◌ {A = ℕ} 0 1 = cc in absurd (omega arith)
row-no false n p e = refl

pub scan_all : (bad : ℕ → Bool) (n number : ℕ) (place : ℕ → ℕ) → Accepted ≡ scan bad n number place → (k : ℕ) → k < n → bad k ≡ false
unfolding scan
scan_all bad zero number place e k l = absurd (omega arith)
scan_all bad (suc n) number place e zero l = row-no _ _ _ (both _ _ e).0
scan_all bad (suc n) number place e (suc k) l = scan_all (λ j. bad (suc j)) n number (λ j. place (suc j)) (both _ _ e).1 k (omega arith)

-- a refusal whose place is worked out in another way
pub placed : {r : Check} {n p q : ℕ} → r ≡ Refused n p → p ≡ q → r ≡ Refused n q
placed {r} {n} {p} {q} e h = e ∙ ap (Refused n) h

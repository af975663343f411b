-- The notes of a rule's body, up to the next head. Assumes nothing.
--   until-length   how many they are
--   until-take     they are the first notes
--   body-length    of the rule at a place
use Prim.Native.Nat.{ℕ, zero, suc, ◌+◌, ◌*◌, ◌-◌, ◌%◌, ◌<◌, ◌≤◌}
use mathlib.Core.Path.{◌≡◌, refl, sym, ◌∙◌, ap}
use mathlib.Core.Bool.{true, false}
use mathlib.Core.List.{List, [], ◌∷◌, ◌++◌, flat_map}
use native.Mathlib.Numerals.{add-one}
use native.Mathlib.Omega.{arith}
use lib.ListN.{length, get_or, take, drop, length-drop}
use Rattle.base.specs.Compare.{under}
use Rattle.base.proofs.Choose.{pick_true, pick-false}
use Rattle.base.proofs.Compare.{under-yes, under-no}
use Rattle.lines.specs.Noting.{head_mark}
use Rattle.lines.specs.Placing.{until_head, BodyLength, body_at, record_at}
use Rattle.job.specs.Encoding.{half_bytes}
use Rattle.writing.specs.Written.{Put}
use Rattle.writing.proofs.Wrote.{put_put, put_as, rest_all}
use Rattle.writing.proofs.Parted.{flat-length}

pub until-length : (ys : List ℕ) (n : ℕ) → n ≤ length ys → ((k : ℕ) → k < n → get_or ys k 0 < head_mark) → (n < length ys → head_mark ≤ get_or ys n 0) → n ≡ length (until_head ys)
unfolding until_head
until-length [] n f b h = omega arith
until-length (y ∷ ys) zero f b h = sym (ap length (pick-false _ _ _ (under-no y head_mark (h (omega arith)))))
until-length (y ∷ ys) (suc n) f b h =
    ap suc (until-length ys n (omega arith) (λ k l. b (suc k) (omega arith)) (λ l. h (omega arith)))
    ∙ sym (ap length (pick_true _ _ _ (under-yes y head_mark (b 0 (omega arith)))))

take_step : (y : ℕ) (ys zs : List ℕ) → zs ≡ until_head ys → take (length zs) ys ≡ zs → (b : _) → b ≡ under y head_mark → take (length (until_head (y ∷ ys))) (y ∷ ys) ≡ until_head (y ∷ ys)
unfolding until_head
take_step y ys zs e again true p = rw (pick_true _ _ _ (sym p)) (ap (λ (x : List ℕ). y ∷ x) (rw e at again))
take_step y ys zs e again false p = rw (pick-false _ _ _ (sym p)) refl

pub until-take : (ys : List ℕ) → take (length (until_head ys)) ys ≡ until_head ys
unfolding until_head
until-take [] = refl
until-take (y ∷ ys) = take_step y ys (until_head ys) refl (until-take ys) (under y head_mark) refl

-- n is counted in the notes behind place p
pub body-length : (ys : List ℕ) (p n : ℕ) → p < length ys → n ≤ length (take (length ys - (p + 1)) (drop (p + 1) ys)) → n ≡ length (until_head (take (length ys - (p + 1)) (drop (p + 1) ys))) → BodyLength ys p n
body-length ys p n h m e =
    record { count = e ∙ ap (λ (x : List ℕ). length (until_head x)) (rest_all ys (p + 1)) ∙ ap (λ (k : ℕ). length (until_head (drop k ys))) (add-one p); most = omega (arith, ap length (rest_all ys (p + 1)), length-drop (p + 1) ys) }

-- the slice from the rule's first literal on, as long as its body
pub body-part : (ys : List ℕ) (p n : ℕ) → BodyLength ys p n → take (p + 1 + n - (p + 1)) (drop (p + 1) ys) ≡ until_head (drop (suc p) ys)
body-part ys p n b =
    let e : p + 1 + n - (p + 1) ≡ length (until_head (drop (suc p) ys)) = omega (arith, b.count) in
    ap (λ (k : ℕ). take k (drop (p + 1) ys)) e
    ∙ ap (λ (k : ℕ). take (length (until_head (drop (suc p) ys))) (drop k ys)) (add-one p)
    ∙ until-take (drop (suc p) ys)

pub body-fits : (ys : List ℕ) (p n at room : ℕ) → BodyLength ys p n → at + length (body_at ys p) ≤ room → at + 2 * length (take (p + 1 + n - (p + 1)) (drop (p + 1) ys)) ≤ room
body-fits ys p n at room b l =
    rw (body-part ys p n b) (omega (arith, flat-length (λ x. half_bytes x) 2 (until_head (drop (suc p) ys)) (λ x. refl), l))

pub body_put : (ys : List ℕ) (p n : ℕ) {out out' : List ℕ} {at r : ℕ} → BodyLength ys p n → Put out at (flat_map (λ x. half_bytes x) (take (p + 1 + n - (p + 1)) (drop (p + 1) ys))) out' r → Put out at (body_at ys p) out' r
body_put ys p n b q = rw (body-part ys p n b) at q

pub record_put : (ys : List ℕ) (p x n : ℕ) (out o out' : List ℕ) (at a r : ℕ) → at + 4 ≤ length out → x ≡ get_or ys p 0 → BodyLength ys p n → Put out at (half_bytes (x % head_mark)) o a → Put o a (half_bytes n) out' r → Put out at (record_at ys p) out' r
record_put ys p x n out o out' at a r l e b q s =
    put_as (put_put out at (half_bytes (x % head_mark)) o a (omega arith) q (half_bytes n) out' r s)
    (ap (λ (k : ℕ). half_bytes (k % head_mark) ++ half_bytes n) e ∙ ap (λ (k : ℕ). half_bytes (get_or ys p 0 % head_mark) ++ half_bytes k) b.count)

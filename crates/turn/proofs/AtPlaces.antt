-- Members of a list, by their places. Assumes nothing.
--   member     what stands at a place is a member
--   at_place   a member stands at a place
use Prim.Native.Nat.{ℕ, zero, suc, ◌<◌}
use mathlib.Core.Path.{◌≡◌, refl, sym}
use mathlib.Core.List.Memᴰ
use mathlib.Core.List.{List, [], ◌∷◌}
use mathlib.Core.Logic.{⊎_elim}
use native.Mathlib.Omega.{arith}
use lib.ListN.{length, get_or}
use Rattle.job.specs.Encoding.{◌∈◌}

pub member : {A : Type 0} (l : List A) (d : A) (i : ℕ) → i < length l → get_or l i d ∈ l
member [] d i h = absurd (omega arith)
member (x ∷ l) d zero h = Memᴰ.head refl
member (x ∷ l) d (suc i) h = Memᴰ.tail (member l d i (omega arith))

pub at_place : {A : Type 0} (l : List A) (d x : A) → x ∈ l → (i : ℕ) × (i < length l) × (get_or l i d ≡ x)
at_place [] d x m = absurd (Memᴰ.not-nil m)
at_place (y ∷ l) d x m =
    ⊎_elim (λ e. (0, omega arith, sym e)) (λ k. let r = at_place l d x k in (suc r.0, omega (arith, r.1), r.2)) (Memᴰ.cases_cons m)

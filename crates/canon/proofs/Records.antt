-- One rule of the form, as it is written: its record, its literals. Assumes nothing.
--   length-missing, length-kept   the length field of a line
--   record_put                    a line's record is its head and that field
--   body-part                     the literals kept of a rule, as a slice of s
--   body-room                     there is room for their bytes
use Prim.Native.Nat.{ℕ, ◌+◌, ◌*◌, ◌-◌, ◌<◌, ◌≤◌}
use mathlib.Core.Path.{◌≡◌, refl, sym, ◌∙◌, ap, ap₂}
use mathlib.Core.Bool.{true, false}
use mathlib.Core.List.{List, ◌++◌}
use native.Mathlib.Omega.{arith}
use lib.ListN.{length, get_or, take, drop}
use Rattle.job.specs.Job.{missing_length}
use Rattle.job.specs.Format.{rules, head_at, missing_at, rule_at}
use Rattle.job.specs.Encoding.{half_bytes, length_of, rule_bytes}
use Rattle.writing.specs.Written.{Put}
use Rattle.writing.proofs.Wrote.{put_put, put_as}
use Rattle.writing.proofs.Parted.{flat-length}
use Rattle.canon.specs.Kept.{line_at, fields_at}
use Rattle.canon.specs.Sizes.{Sizes, kept_bytes}

line-head : (job : List ℕ) (i : ℕ) → (line_at job i).head ≡ head_at job i
unfolding line_at rule_at
line-head job i = refl

pub length-missing : (job : List ℕ) (i : ℕ) → true ≡ missing_at job i → missing_length ≡ length_of (line_at job i)
unfolding line_at rule_at length_of
length-missing job i e = rw (← e)

length-own : (job : List ℕ) (i : ℕ) → false ≡ missing_at job i → length (line_at job i).body ≡ length_of (line_at job i)
unfolding line_at rule_at length_of
length-own job i e = rw (← e)

pub length-kept : {job sizes : List ℕ} → Sizes job sizes → (i n : ℕ) → i < rules job → false ≡ missing_at job i → n ≡ get_or sizes i 0 → n ≡ length_of (line_at job i)
length-kept {job} z i n h e f = f ∙ z.each i h ∙ length-own job i e

pub record_put :
    (job : List ℕ) (i x n : ℕ) (out o out' : List ℕ) (at a r : ℕ) → at + 4 ≤ length out → x ≡ head_at job i → n ≡ length_of (line_at job i)
    → Put out at (half_bytes x) o a → Put o a (half_bytes n) out' r → Put out at (rule_bytes (line_at job i)) out' r
record_put job i x n out o out' at a r l e f p q =
    put_as (put_put out at (half_bytes x) o a (omega arith) p (half_bytes n) out' r q)
    (ap₂ (λ (y m : ℕ). half_bytes y ++ half_bytes m) (e ∙ sym (line-head job i)) f)

-- the m literals kept of rule i, from place a on
module _ (s starts sizes : List ℕ) (i a m : ℕ) (f : a ≡ get_or starts i 0) (g : m ≡ get_or sizes i 0) where
  pub body-part : take (a + m - a) (drop a s) ≡ fields_at s starts sizes i
  unfolding fields_at
  body-part =
      let e : a + m - a ≡ get_or sizes i 0 = omega arith in
      ap₂ (λ (x y : ℕ). take x (drop y s)) e f

-- the literals kept of rule i
module _ (s starts sizes t : List ℕ) (i : ℕ) (e : t ≡ fields_at s starts sizes i) where
  pub body-room : (at room : ℕ) → at + length (kept_bytes s starts sizes i) ≤ room → at + 2 * length t ≤ room
  body-room at room l = omega (arith, ap length e, flat-length (λ x. half_bytes x) 2 (fields_at s starts sizes i) (λ x. refl), l)

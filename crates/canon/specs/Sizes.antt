-- What the writing of rules goes by: how many literals are kept of each, and where.
--   Sizes job sizes               `sizes` says how many literals the line of each rule has
--   sizes_of sizes order          how many the rules of `order` have together
--   Held s starts sizes i         the literals kept of rule i stand in s
--   HeldAll s starts sizes order  so do those of each rule of `order`
--   kept_bytes s starts sizes i   their bytes
use Rattle.std.specs.Prelude.{ℕ, ◌+◌, ◌<◌, ◌≤◌, ◌≡◌, length, get_or}
use mathlib.Core.List.{List, [], ◌∷◌, flat_map}
use Rattle.job.specs.Format.{rules}
use Rattle.job.specs.Encoding.{half_bytes}
use Rattle.canon.specs.Kept.{line_at, fields_at}

pub record Sizes (job sizes : List ℕ) : Type 0 where
  pub long : rules job ≤ length sizes
  pub each : (i : ℕ) → i < rules job → get_or sizes i 0 ≡ length (line_at job i).body

unfoldable pub sizes_of : List ℕ → List ℕ → ℕ
sizes_of sizes [] = 0
sizes_of sizes (i ∷ order) = get_or sizes i 0 + sizes_of sizes order

pub record Held (s starts sizes : List ℕ) (i : ℕ) : Type 0 where
  pub start : i < length starts
  pub size : i < length sizes
  pub inside : get_or starts i 0 + get_or sizes i 0 ≤ length s

pub record HeldAll (s starts sizes order : List ℕ) : Type 0 where
  pub each : (k : ℕ) → k < length order → Held s starts sizes (get_or order k 0)

abbrev pub kept_bytes : List ℕ → List ℕ → List ℕ → ℕ → List ℕ
kept_bytes s starts sizes i = flat_map (λ x. half_bytes x) (fields_at s starts sizes i)

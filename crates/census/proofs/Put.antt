-- Lines made of their numbers, the table of its lines. Assumes nothing.
--   Short n a b s              s is written, and takes at most n bytes
--   put-before_is              a number and the byte behind it
--   line-room, put-line-is     five of them: room for each, and the line
--   table-room, put-table-is   three lines: room for each, and the table
--   counted_is, not_refused    the call's answer of a size from 1 to 3
use Prim.Native.Nat.{ℕ, ◌+◌, ◌≤◌, ◌<◌}
use mathlib.Core.Path.{◌≡◌, refl}
use mathlib.Core.List.{List, [], ◌∷◌, ◌++◌}
use native.Mathlib.Omega.{arith}
use lib.ListN.{length}
use Rattle.writing.specs.Decimal.{decimal}
use Rattle.writing.specs.Writes.{Writes, HasRoom}
use Rattle.writing.specs.declared.writer.Writer.{Writer}
use Rattle.writing.proofs.Decimal.{length-room}
use Rattle.writing.proofs.Writing.{writes-room, writes-writes}
use Rattle.listing.specs.Text.{blank, line_end}
use Rattle.rulesets.specs.Census.{census_of, census_answer}
use Rattle.rulesets.specs.declared.Counts.{Counts}
use Rattle.std.specs.Prelude.{Ok, Err}
use Rattle.job.specs.declared.Refusal.{Refusal}
use Rattle.rulesets.specs.CensusAnswer.{CensusAnswer}
use Rattle.rulesets.proofs.Answering.{answer-counted}
use Rattle.rulesets.specs.Lines.{before, census_line, handbook_table}

abbrev pub Short : ℕ → Writer → Writer → List ℕ → Type 0
Short n a b s = Writes a b s × (b.at ≤ a.at + n)

module _ (n k : ℕ) {a b : Writer} {s : List ℕ} where
  few : Short n a b s → length s ≤ n
  few p = omega (arith, p.0.put.next, p.1)

  short-room : HasRoom a (n + k) → Short n a b s → HasRoom b k
  short-room h p = let l = few p in writes-room a b s (omega (arith, h, l)) p.0 k (omega (arith, h, l))

  short_more : HasRoom a n → Short n a b s → {c : Writer} {t : List ℕ} → Short k b c t → Short (n + k) a c (s ++ t)
  short_more h p {c} {t} q = (writes-writes a b s (omega (arith, h, few p)) p.0 c t q.0, omega (arith, p.1, q.1))

pub put-before_is : {w w₁ w₂ : Writer} (b n : ℕ) → HasRoom w 21 → n < 18446744073709551616 → Writes w w₁ (decimal n) → Writes w₁ w₂ (b ∷ []) → Short 21 w w₂ (before b n)
unfolding before
put-before_is {w} {w₁} {w₂} b n h l p q =
    let r = length-room n l in
    (writes-writes w w₁ (decimal n) (omega (arith, h, r)) p w₂ (b ∷ []) q, omega (arith, r, p.put.next, q.put.next))

module _ (c : Counts) {w w₁ : Writer} (h : HasRoom w 105) (p₁ : Short 21 w w₁ (before blank c.trues)) where
  pub line-room₂ : HasRoom w₁ 21
  line-room₂ = short-room 21 21 (omega (arith, h)) p₁

  module _ {w₂ : Writer} (p₂ : Short 21 w₁ w₂ (before blank c.falses)) where
    two : Short 42 w w₂ (before blank c.trues ++ before blank c.falses)
    two = short_more 21 21 (omega (arith, h)) p₁ p₂

    pub line-room₃ : HasRoom w₂ 21
    line-room₃ = short-room 42 21 (omega (arith, h)) two

    module _ {w₃ : Writer} (p₃ : Short 21 w₂ w₃ (before blank c.undefineds)) where
      three : Short 63 w w₃ (before blank c.trues ++ before blank c.falses ++ before blank c.undefineds)
      three = short_more 42 21 (omega (arith, h)) two p₃

      pub line-room₄ : HasRoom w₃ 21
      line-room₄ = short-room 63 21 (omega (arith, h)) three

      module _ {w₄ : Writer} (p₄ : Short 21 w₃ w₄ (before blank c.place)) where
        four : Short 84 w w₄ (before blank c.trues ++ before blank c.falses ++ before blank c.undefineds ++ before blank c.place)
        four = short_more 63 21 (omega (arith, h)) three p₄

        pub line-room₅ : HasRoom w₄ 21
        line-room₅ = short-room 84 21 (omega (arith, h)) four

        pub put-line-is : {w₅ : Writer} → Short 21 w₄ w₅ (before line_end c.turns) → Short 105 w w₅ (census_line c)
        unfolding census_line
        put-line-is p₅ = short_more 84 21 (omega (arith, h)) four p₅

module _ {w w₁ : Writer} (h : HasRoom w 315) (p₁ : Short 105 w w₁ (census_line (census_of 1))) where
  pub table-room₂ : HasRoom w₁ 105
  table-room₂ = short-room 105 105 (omega (arith, h)) p₁

  module _ {w₂ : Writer} (p₂ : Short 105 w₁ w₂ (census_line (census_of 2))) where
    lines : Short 210 w w₂ (census_line (census_of 1) ++ census_line (census_of 2))
    lines = short_more 105 105 (omega (arith, h)) p₁ p₂

    pub table-room₃ : HasRoom w₂ 105
    table-room₃ = short-room 210 105 (omega (arith, h)) lines

    pub put-table-is : {w₃ : Writer} → Short 105 w₂ w₃ (census_line (census_of 3)) → Short 315 w w₃ handbook_table
    unfolding handbook_table
    put-table-is p₃ = short_more 210 105 (omega (arith, h)) lines p₃

-- the call's answer of a size from 1 to 3
module _ (n : ℕ) (some : 1 ≤ n) (few : n ≤ 3) where
  pub counted_is : {a : CensusAnswer} {c : Counts} → a ≡ census_answer n → a ≡ Ok c → c ≡ census_of n
  counted_is e q = let k = answer-counted n some few refl in cc

  pub not_refused : {a : CensusAnswer} {e : Refusal} → a ≡ census_answer n → a ≡ Err e → ⊥
  not_refused e q = let k = answer-counted n some few refl in let z : ◌≡◌ {A = ℕ} 0 1 = cc in omega arith

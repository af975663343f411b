-- Numbers in decimal, as ASCII bytes.
--   digit d       the byte of a digit below 10
--   decimal n     n in decimal, with no zero in front
--   Decimals n    the equations of `decimal`, and how many digits there are; proofs/Decimal proves them for every n
use Rattle.std.specs.Prelude.{ℕ, zero, suc, ◌+◌, ◌/◌, ◌%◌, ◌≤◌, ◌<◌, ◌≡◌, List, [], ◌∷◌, ◌++◌, length}
use Rattle.base.specs.Choose.{pick}
use Rattle.base.specs.Compare.{under}

abbrev pub digit : ℕ → ℕ
digit d = 48 + d

-- n in decimal, by at most k divisions
unfoldable pub decimal_in : ℕ → ℕ → List ℕ
decimal_in zero n = digit n ∷ []
decimal_in (suc k) n = pick (under n 10) (digit n ∷ []) (decimal_in k (n / 10) ++ (digit (n % 10) ∷ []))

-- n divisions are enough for n
unfoldable pub decimal : ℕ → List ℕ
decimal n = decimal_in n n

pub record Decimals (n : ℕ) : Type 0 where
  pub small : n < 10 → decimal n ≡ digit n ∷ []
  pub large : 10 ≤ n → decimal n ≡ decimal (n / 10) ++ (digit (n % 10) ∷ [])
  pub some : 1 ≤ length (decimal n)
  pub room : n < 18446744073709551616 → length (decimal n) ≤ 20

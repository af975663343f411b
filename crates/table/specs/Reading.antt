-- Reading a claim (01: "Reading a claim answers fresh, open or its value").
--   reading_of m     what a mark shows
--   reading_value r  the value's number 1 to 3, or 0 where there is none
use Rattle.std.specs.Prelude.{ℕ, eqb}
use Rattle.base.specs.Choose.{pick}
use Rattle.table.specs.Layout.{true_mark, false_mark, undefined_mark}
use Rattle.table.specs.declared.Reading.{Reading}
use Rattle.table.specs.declared.Reading.TheVariants.{Fresh, Open, True, False, Undefined}

unfoldable pub reading_of : ℕ → Reading
unfolding pick
reading_of m = pick (eqb m 0) Fresh (pick (eqb m true_mark) True (pick (eqb m false_mark) False (pick (eqb m undefined_mark) Undefined Open)))

abbrev pub reading_value : Reading → ℕ
reading_value Fresh = 0
reading_value Open = 0
reading_value True = 1
reading_value False = 2
reading_value Undefined = 3

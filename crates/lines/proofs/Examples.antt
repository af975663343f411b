-- The text worked out by hand (specs/Worked), by computing. Assumes nothing.
use mathlib.Core.Path.{refl}
use mathlib.Core.List.{flat_map}
use Rattle.base.specs.Choose.{pick}
use Rattle.base.specs.Compare.{under}
use Rattle.base.specs.Span.{span}
use Rattle.writing.specs.Decimal.{decimal, decimal_in}
use Rattle.lines.specs.Lines.{text_of, headed, sorted}
use Rattle.lines.specs.Worked.{Worked}

pub worked : Worked
unfolding text_of flat_map decimal decimal_in pick under headed sorted span
worked = record { text = refl; job = refl }

use native.Mathlib.Omega.{arith}
use Rattle.base.specs.Choose.{pick}
use Rattle.base.specs.Compare.{under}
use Rattle.lines.specs.Grammar.{is_digit}
use Rattle.makejob.specs.Faults.{sort_of_byte}
use Rattle.makejob.proofs.sort.sort_of_byte.Goals as goal

pub returns-in-13 : goal.returns-in-13
unfolding sort_of_byte is_digit under pick
returns-in-13 c = grind arith

pub returns-in-48-to-57 : goal.returns-in-48-to-57
unfolding sort_of_byte is_digit under pick
returns-in-48-to-57 c = grind arith

pub returns-in_default : goal.returns-in_default
unfolding sort_of_byte is_digit under pick
returns-in_default c = grind arith

pub returns-in_default-2 : goal.returns-in_default-2
unfolding sort_of_byte is_digit under pick
returns-in_default-2 c = grind arith

pub returns-in_default-3 : goal.returns-in_default-3
unfolding sort_of_byte is_digit under pick
returns-in_default-3 c = grind arith

use mathlib.Core.Path.{refl, ◌∙◌}
use Rattle.lines.specs.Grammar.{is_digit}
use Rattle.makejob.proofs.Scans.{up-length}
use Rattle.makejob.proofs.Numbers.{digits_up, digits-are, behind-are}
use Rattle.makejob.proofs.digits.next.Goals as goal

pub returns-clause-digits : goal.returns-clause-digits
returns-clause-digits c = let b = c.before_digit.ensures in
    let d = c.leading_digits.ensures in
    c.split_at.ensures.front ∙ digits-are c.args.line.now _ (up-length is_digit _ _ b.fits b.before b.found) refl (digits_up _ _ d.fits d.before d.found)

pub returns-clause-behind : goal.returns-clause-behind
returns-clause-behind c = let b = c.before_digit.ensures in
    let d = c.leading_digits.ensures in
    c.split_at.ensures.back ∙ behind-are c.args.line.now _ (up-length is_digit _ _ b.fits b.before b.found) refl (digits_up _ _ d.fits d.before d.found)

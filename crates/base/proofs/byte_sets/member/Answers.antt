-- Past the end a claim's byte counts as 0.
use Rattle.std.proofs.Common.{ℕ, rules, sym, ap, nat_eq}
use mathlib.Core.Bool.{not}
use lib.ListN.{get_or-eq_default}
use Rattle.base.specs.Sets.{set_of}
use Rattle.base.proofs.byte_sets.member.Goals as goal

pub returns-then-c-w : goal.returns-then-c-w
unfolding set_of
returns-then-c-w c = search rules

pub returns-else-c-w : goal.returns-else-c-w
unfolding set_of
returns-else-c-w c = sym (ap (λ (x : ℕ). not (nat_eq x 0)) (get_or-eq_default c.args.w.now 0 (search rules)))

use Prim.Native.Nat.{◌<◌}
use mathlib.Core.Path.{refl, sym, ◌∙◌}
use native.Mathlib.Omega.{arith}
use borrow.Author.Count.{below_none}
use Rattle.base.proofs.Zeros.{zeros-long}
use Rattle.job.specs.Format.{questions as questions_of}
use Rattle.job.specs.Job.{most_claims}
use Rattle.job.proofs.Rows.{scan_none, scan_at, placed}
use Rattle.groups.specs.Groups.{check_partners}
use Rattle.groups.proofs.Partners.{known_start}
use Rattle.groups.proofs.check_partners.Goals as goal
use Rattle.groups.proofs.check_partners.Goals.{In-loop-q}

pub loop-q-init : goal.loop-q-init
loop-q-init c = (
  omega arith,
  zeros-long most_claims refl,
  zeros-long most_claims refl,
  known_start _ _ _ refl,
  below_none _,
)

-- a question is left
some : (c : In-loop-q) → c.loop-q.q < questions_of c.args.job.now
some c = omega (arith, c.loop-q-test.true, c.question_count-questions.ensures.value)

pub returns-then-leads_abroad : goal.returns-then-leads_abroad
unfolding check_partners
returns-then-leads_abroad c = let l = c.loop-q in
    placed refl (omega (arith, c.rule_count-rules.ensures.value, c.literal_count-literals.ensures.value))
    ∙ scan_at _ _ l.q _ _ (some (goal.at.returns-then-leads_abroad c).In-loop-q) l.invariant.4 (sym c.leads_abroad.ensures.value ∙ c.if-leads_abroad.true)

pub returns : goal.returns
unfolding check_partners
returns c = scan_none _ _ _ _ (λ k l. c.loop-q.invariant.4 k (omega (arith, c.loop-q-test.false, c.question_count-questions.ensures.value)))

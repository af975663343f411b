use mathlib.Core.Path.{◌≡◌, refl, sym, ◌∙◌, ap}
use mathlib.Core.Bool.{true, false, false≢true}
use denote.Enum.Bare.{sameb}
use Rattle.parts.specs.contracts.bodies.Status.{the_type}
use Rattle.parts.specs.declared.bodies.Status.{Status}
use Rattle.parts.specs.declared.bodies.Status.TheVariants.{Failed, Undecided, Decided}
use Rattle.parts.proofs.LiteralsRead.{literal_is, literal-place, literal-mark}
use Rattle.parts.proofs.Stating.{stating-start, stating_more, stating-failed, stating_end}
use Rattle.parts.proofs.bodies.status_of.Goals as goal

is_failed : (x : Status) → sameb the_type x Failed ≡ true → x ≡ Failed
is_failed Failed e = refl
is_failed Undecided e = absurd (false≢true e)
is_failed Decided e = absurd (false≢true e)

not_failed : (x : Status) → sameb the_type x Failed ≡ false → x ≡ Failed → ⊥
not_failed x e f = absurd (false≢true (sym e ∙ ap (λ (y : Status). sameb the_type y Failed) f))

pub loop-k-init : goal.loop-k-init
loop-k-init c = stating-start _ _ _ _ _

pub lowered-state-requires : goal.lowered-state-requires
lowered-state-requires c = let p = c.args.part.now in
    (literal-place p.accepted refl c.requires c.loop-k-test.true c.literal_at.ensures.value _ p.placed, literal-mark p.accepted refl c.requires c.loop-k-test.true c.literal_at.ensures.value _ p.words)

pub returns-then-eq : goal.returns-then-eq
returns-then-eq c =
    stating-failed c.loop-k.invariant c.loop-k-test.true (literal_is c.args.part.now.accepted refl c.requires c.loop-k-test.true c.literal_at.ensures.value) c.lowered-state.ensures (is_failed _ (sym c.if-eq.ensures))

pub loop-k-preserved : goal.loop-k-preserved
loop-k-preserved c =
    stating_more c.loop-k.invariant c.loop-k-test.true (literal_is c.args.part.now.accepted refl c.requires c.loop-k-test.true c.literal_at.ensures.value) c.lowered-state.ensures (λ e. not_failed _ (sym c.if-eq.ensures) e)

pub returns : goal.returns
returns c = stating_end c.loop-k.invariant c.loop-k-test.false

use mathlib.Core.Path.{◌≡◌, sym, ◌∙◌, ap, ap₂}
use mathlib.Core.Bool.{Bool, not}
use Prim.Native.Nat.{ℕ, ◌+◌}
use native.Mathlib.Omega.{arith}
use lib.ListN.{length, drop}
use Rattle.lines.specs.Grammar.{is_bad}
use Rattle.lines.specs.declared.State.{State}
use Rattle.makejob.specs.Faults.{reach_from, reach_of}
use Rattle.makejob.proofs.Reaching.{reach_more, reach-stop, reach_end}
use Rattle.makejob.proofs.shape.reach_of.Goals as goal

pub loop-i-init : goal.loop-i-init
unfolding reach_of
loop-i-init c = ap (λ (st : State). reach_from st 0 c.args.line.now) c.start_of-state.ensures

pub returns-then-is_bad-clause-value : goal.returns-then-is_bad-clause-value
returns-then-is_bad-clause-value c = let l = c.loop-i in
    let bad = ap is_bad (sym c.step-next.ensures) ∙ sym c.is_bad.ensures ∙ c.if-is_bad.true in
    reach-stop l.state c.args.line.now l.i (omega arith) bad ∙ l.invariant

pub loop-i-preserved : goal.loop-i-preserved
loop-i-preserved c = let l = c.loop-i in
    let s = c.args.line.now in
    let st = c.step-next.ensures in
    let good = ap is_bad (sym st) ∙ sym c.is_bad.ensures ∙ c.if-is_bad.false in
    ap (λ (x : State). reach_from x (l.i + 1) (drop (l.i + 1) s)) st ∙ reach_more l.state s l.i (omega arith) good ∙ l.invariant

pub returns-clause-value : goal.returns-clause-value
returns-clause-value c = let l = c.loop-i in
    let s = c.args.line.now in
    let at : length s ≡ l.i = omega arith in
    let bad = c.is_bad-2.ensures ∙ ap is_bad c.step.ensures in
    ap₂ (λ (n : ℕ) (b : Bool). record { at = n; whole = not b }) at bad ∙ reach_end l.state s l.i (omega arith) ∙ l.invariant

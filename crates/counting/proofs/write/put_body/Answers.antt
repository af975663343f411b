use mathlib.Core.Path.{ap}
use mathlib.Core.List.{flat_map}
use native.Mathlib.Omega.{arith}
use Rattle.rulesets.specs.Sets.{Sign}
use Rattle.rulesets.specs.Jobs.{signed}
use Rattle.counting.specs.Written.{literal_half}
use Rattle.counting.proofs.Written.{sign_at, sign_bytes, sign-named, literals_flat, all_start, all_room, all_more, all_done}
use Rattle.counting.proofs.write.put_body.Goals as goal

pub loop-c-init : goal.loop-c-init
loop-c-init c = all_start (sign_bytes c.args.size c.args.x) c.args.size (literals_flat _ _ c.requires.body.1) c.requires.room

pub put_literal-requires : goal.put_literal-requires
put_literal-requires c = let l = c.loop-c in
    let x = sign_at c.args.size c.args.x l.c in
    record {
      sign = (c.sign_of.ensures.small, omega (arith, c.loop-c-test.true, c.requires.body.0));
      room = all_room _ _ l.invariant c.loop-c-test.true (ap (λ (y : Sign). flat_map literal_half (signed l.c y)) (sign-named x c.sign_of.ensures.value));
    }

pub loop-c-preserved : goal.loop-c-preserved
loop-c-preserved c = let l = c.loop-c in
    let x = sign_at c.args.size c.args.x l.c in
    all_more _ _ l.invariant c.loop-c-test.true (ap (λ (y : Sign). flat_map literal_half (signed l.c y)) (sign-named x c.sign_of.ensures.value)) c.put_literal.ensures

pub returns : goal.returns
returns c = all_done _ _ c.loop-c.invariant c.loop-c-test.false (literals_flat c.args.size c.args.x c.requires.body.1)

use mathlib.Core.Path.{sym, ap}
use mathlib.Core.List.{List, flat_map}
use native.Mathlib.Omega.{arith}
use lib.ListN.{length}
use Rattle.job.specs.declared.Literal.{Literal}
use Rattle.counting.specs.Written.{literal_half}
use Rattle.writing.proofs.Writing.{writes_none, writes_as}
use Rattle.counting.proofs.Written.{chosen_none, chosen-some}
use Rattle.counting.proofs.write.put_choice.Goals as goal

pub returns-then-v-eq0 : goal.returns-then-v-eq0
unfolding flat_map
returns-then-v-eq0 c = writes_as (writes_none _) (sym (ap (flat_map literal_half) (chosen_none c.args.size _ c.if-v-eq0.true)))

pub put_body-requires : goal.put_body-requires
put_body-requires c = let p = c.requires.choice in
    record {
      body = (p.0, omega (arith, p.1, c.if-v-eq0.false));
      room = omega (arith, c.requires.room, ap (λ (x : List Literal). length (flat_map literal_half x)) (chosen-some c.args.size c.args.v c.if-v-eq0.false p.1));
    }

pub returns : goal.returns
returns c = writes_as c.put_body.ensures (sym (ap (flat_map literal_half) (chosen-some c.args.size c.args.v c.if-v-eq0.false c.requires.choice.1)))

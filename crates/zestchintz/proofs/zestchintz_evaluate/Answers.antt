use Prim.Native.Nat.{ℕ, ◌<◌}
use mathlib.Core.Path.{◌≡◌, subst, subst⁻¹}
use mathlib.Core.List.{List}
use native.Mathlib.Omega.{arith}
use lib.ListN.{length}
use Rattle.job.specs.Check.{Check}
use Rattle.model.specs.Output.{Evaluated}
use Rattle.zestchintz.proofs.Answers.{plain-answered, coded_as}
use Rattle.zestchintz.specs.Code.{Answered}
use Rattle.zestchintz.proofs.zestchintz_evaluate.Goals as goal

-- by the answer that is meant
evaluated-as : (s before o : List ℕ) (r r' : Check) → r ≡ r' → Evaluated s before r o → Evaluated s before r' o
evaluated-as s before o r r' e x = subst (λ (y : Check). Evaluated s before y o) e x

pub code_of-requires : goal.code_of-requires
code_of-requires c = let s = c.args.job.now in
    let short : length s < 9223372036854775808 = omega arith in
    subst⁻¹ (Answered s) c.evaluate.ensures.check (plain-answered s short _)

pub returns : goal.returns
returns c = let e = c.evaluate.ensures in record { coded = coded_as e.check c.code_of.ensures; evaluated = evaluated-as _ _ _ _ _ e.check e }

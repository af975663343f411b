use Prim.Native.Nat.{◌<◌}
use mathlib.Core.Path.{subst⁻¹}
use native.Mathlib.Omega.{arith}
use lib.ListN.{length}
use Rattle.zestchintz.proofs.Answers.{job-answered, coded_as}
use Rattle.zestchintz.specs.Code.{Answered}
use Rattle.zestchintz.proofs.zestchintz_check.Goals as goal

pub code_of-requires : goal.code_of-requires
code_of-requires c = let s = c.args.job.now in
    let short : length s < 9223372036854775808 = omega arith in
    subst⁻¹ (Answered s) c.check_job.ensures.value (job-answered s short)

pub returns : goal.returns
returns c = record { coded = coded_as c.check_job.ensures.value c.code_of.ensures; reading = c.check_job.ensures.reading }

use mathlib.Core.Path.{◌∙◌, ap}
use Prim.Native.Nat.{ℕ}
use mathlib.Core.List.{List}
use Rattle.job.specs.Check.{Check}
use Rattle.job.specs.Format.{job_of}
use Rattle.table.specs.Start.{start_words}
use Rattle.calls.specs.Calls.{start_table}
use Rattle.calls.proofs.Answering.{start-good}
use Rattle.calls.proofs.Demands.{promise}
use Rattle.calls.proofs.start.Goals as goal

pub returns-in_err-check_start-clause-table_after : goal.returns-in_err-check_start-clause-table_after
unfolding start_table
returns-in_err-check_start-clause-table_after c = ap (λ (x : Check). start_table x c.args.job.now c.args.table.now) c.in_err-check_start.ensures

pub returns-in_err-check_start-clause-promise : goal.returns-in_err-check_start-clause-promise
returns-in_err-check_start-clause-promise c = promise _

pub of_accepted-requires : goal.of_accepted-requires
of_accepted-requires c = (start-good _ _ c.in_ok-check_start.ensures).0

pub write_start-requires : goal.write_start-requires
write_start-requires c = rw c.of_accepted.ensures (record { room = (start-good _ _ c.in_ok-check_start.ensures).1 })

pub returns-clause-table_after : goal.returns-clause-table_after
unfolding start_table
returns-clause-table_after c = c.write_start.ensures ∙ ap (λ (s : List ℕ). start_words (job_of s) c.args.table.now) c.of_accepted.ensures ∙ ap (λ (x : Check). start_table x c.args.job.now c.args.table.now) c.in_ok-check_start.ensures

pub returns-clause-promise : goal.returns-clause-promise
returns-clause-promise c = promise _

-- Starting (01, 'Table words': "Starting writes the header and zeros. Words past those used never change.").
--   start_words j t   the table t, started for job j
use Rattle.std.specs.Prelude.{ℕ, ◌-◌, List, ◌++◌, drop, replicate}
use Rattle.job.specs.Job.{Job}
use Rattle.table.specs.Layout.{used, fixed_words, header}

unfoldable pub start_words : Job → List ℕ → List ℕ
start_words j t = header j ++ replicate (used j - fixed_words) 0 ++ drop (used j) t

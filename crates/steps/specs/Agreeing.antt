-- Tables that differ only past the words used (01, 'Table words': "Words past those used never change.").
--   Agree j t u    t and u are both long enough for job j, and their words used are the same
use Rattle.std.specs.Prelude.{ℕ, ◌<◌, ◌≤◌, ◌≡◌, List, length, get_or}
use Rattle.job.specs.Job.{Job}
use Rattle.table.specs.Layout.{used}

pub record Agree (j : Job) (t u : List ℕ) : Type 0 where
  pub long : used j ≤ length t
  pub longer : used j ≤ length u
  pub same : (i : ℕ) → i < used j → get_or t i 0 ≡ get_or u i 0

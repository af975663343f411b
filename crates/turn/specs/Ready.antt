-- What the functions below the calls are lent once the checks have passed.
--   Ready s index t       an accepted job s, its index of claims, and a table t in range, with right third words
--   passed_in index t c   c has passed all its literals, by the index: its cursor is at the end
--   Made r kind t         a turn was made as the definition r says: its kind, and the table at exit
--   Renewed j w t u       the table u is t with w's third word as a search finds it
use Rattle.std.specs.Prelude.{ℕ, ◌+◌, Bool, List, ◌≡◌, leb, get_or, set}
use Rattle.job.specs.Job.{Job}
use Rattle.job.specs.Format.{job_of}
use Rattle.job.specs.Accepted.{WellFormed}
use Rattle.job.specs.Claims.{Index}
use Rattle.table.specs.Layout.{cursor, newest_word}
use Rattle.table.specs.Newest.{sought, NewestKept}
use Rattle.table.specs.Ranges.{InRange}
use Rattle.turn.specs.Turn.{Turned}
use Rattle.turn.specs.declared.Kind.{Kind}

pub record Ready (s index t : List ℕ) : Type 0 where
  pub job : WellFormed s
  pub indexed : Index s index
  pub table : InRange (job_of s) t
  pub newests : NewestKept (job_of s) t

pub record Made (r : Turned) (kind : Kind) (t : List ℕ) : Type 0 where
  pub kind_is : kind ≡ r.kind
  pub table_is : t ≡ r.table

pub record Renewed (j : Job) (w : ℕ) (t u : List ℕ) : Type 0 where
  pub is : u ≡ set t (newest_word j w) (sought j.claims t w)

abbrev pub passed_in : List ℕ → List ℕ → ℕ → Bool
passed_in index t c = leb (get_or index (c + 1) 0) (get_or index c 0 + cursor t c)

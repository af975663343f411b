-- A turn made, from what its definition equals. Assumes nothing.
--   made_as       by its kind and table
--   made-from     the table at exit by an equation
--   made_kept     with right third words at exit, which the turn left as they were
--   made-renewed  or one of which it stored;    made_with   or all of which it stored
use mathlib.Core.Path.{◌≡◌, sym, ◌∙◌, ap}
use mathlib.Core.List.{List}
use Prim.Native.Nat.{ℕ, ◌<◌}
use lib.ListN.{set}
use Rattle.job.specs.Job.{Job}
use Rattle.table.specs.Layout.{newest_word}
use Rattle.table.specs.Newest.{with_newest, NewestKept}
use Rattle.table.proofs.Keeping.{with_same, renewed}
use Rattle.turn.specs.Turn.{Turned, keeping}
use Rattle.turn.specs.Ready.{Made}
use Rattle.turn.specs.declared.Kind.{Kind}

pub made_as : {x : Turned} (kind : Kind) (t : List ℕ) → x ≡ record { kind = kind; table = t } → Made x kind t
made_as kind t e = record { kind_is = sym (ap (λ (r : Turned). r.kind) e); table_is = sym (ap (λ (r : Turned). r.table) e) }

pub made-from : {r : Turned} {kind : Kind} {t u : List ℕ} → u ≡ t → Made r kind t → Made r kind u
made-from e m = record { kind_is = m.kind_is; table_is = e ∙ m.table_is }

module _ (j : Job) {r : Turned} {kind : Kind} where
  pub made_kept : {t : List ℕ} → NewestKept j t → Made r kind t → Made (keeping j r) kind t
  made_kept k m = record { kind_is = m.kind_is; table_is = sym (with_same j k) ∙ ap (with_newest j.claims j.workers) m.table_is }

  pub made_with : {t u : List ℕ} → u ≡ with_newest j.claims j.workers t → Made r kind t → Made (keeping j r) kind u
  made_with e m = record { kind_is = m.kind_is; table_is = e ∙ ap (with_newest j.claims j.workers) m.table_is }

  pub made-renewed : {t u : List ℕ} (w v : ℕ) → w < j.workers → NewestKept j u → u ≡ set t (newest_word j w) v → Made r kind t → Made (keeping j r) kind u
  made-renewed {t} w v l k e m =
      made_with (renewed j t w v l k e) m

-- A loop of turns, whoever says which come: each is taken, its kind is counted, and what is kept is right. What is still to come makes of the table and the tally
-- what all of the turns make of them. Assumes nothing.
--   Partly          after some of the turns `all` from the table t₀ and the tally counts₀: `rest` are still to come, no count is above n
--   partly-start    none is made yet
--   partly-ready    what a turn asks for
--   partly-next     one more, whatever room for members it leaves; partly-room   room that is as long
--   partly_more     one more, in room that stays as long
--   partly-place    the length of `place`
--   partly_end      none is left
--   named-next      the next turn of a schedule
use Prim.Native.Nat.{ℕ, ◌+◌, ◌<◌, ◌≤◌}
use mathlib.Core.Path.{◌≡◌, refl, sym, ◌∙◌, ap, ap₂}
use mathlib.Core.List.{List, [], ◌∷◌}
use native.Mathlib.Omega.{arith}
use native.Mathlib.Numerals.{add-one}
use lib.ListN.{length, get_or, set, drop}
use lib.Seq.{drop-cons}
use Rattle.job.specs.Format.{claims, workers, job_of}
use Rattle.job.specs.Accepted.{WellFormed}
use Rattle.table.specs.Newest.{NewestKept}
use Rattle.table.specs.Ranges.{InRange}
use Rattle.table.proofs.Sizes.{sizes}
use Rattle.turn.specs.Turn.{kind_number, turn, run_table, run_kinds}
use Rattle.turn.specs.Ready.{Ready}
use Rattle.turn.specs.KeptSet.{Keeps, Done}
use Rattle.turn.specs.declared.Kept.{Kept}
use Rattle.turn.specs.declared.Kind.{Kind}
use Rattle.turn.proofs.Jobs.{job_ok}
use Rattle.turn.proofs.Range.{turn_in_range, turn-kept}
use Rattle.turn.proofs.Lengths.{turn-length}
use Rattle.calls.specs.Calls.{counted}
use Rattle.calls.proofs.Tallies.{one_more}

pub record Partly (s t₀ counts₀ all members₀ : List ℕ) (n : ℕ) (rest t counts : List ℕ) (kept : Kept) (place members : List ℕ) : Type 0 where
  pub range : InRange (job_of s) t
  pub newests : NewestKept (job_of s) t
  pub long : length t ≡ length t₀
  pub tables : run_table (job_of s) t₀ all ≡ run_table (job_of s) t rest
  pub tallies : counted counts₀ (run_kinds (job_of s) t₀ all) ≡ counted counts (run_kinds (job_of s) t rest)
  pub small : (k : ℕ) → get_or counts k 0 ≤ n
  pub keeps : Keeps (job_of s) t kept place members
  pub wide : length members ≡ length members₀

module _ (s : List ℕ) where
  module _ {index : List ℕ} (t₀ counts₀ all members₀ : List ℕ) where
    pub partly-start :
        Ready s index t₀ → {kept : Kept} {place : List ℕ} → Keeps (job_of s) t₀ kept place members₀
        → {counts : List ℕ} → counts ≡ counts₀ → {n : ℕ} → ((k : ℕ) → get_or counts k 0 ≤ n) → Partly s t₀ counts₀ all members₀ n all t₀ counts kept place members₀
    partly-start r k c few =
        record {
          range = r.table;
          newests = r.newests;
          long = refl;
          tables = refl;
          tallies = ap (λ (x : List ℕ). counted x (run_kinds (job_of s) t₀ all)) (sym c);
          small = few;
          keeps = k;
          wide = refl;
        }

  pub partly-room :
      {t₀ counts₀ all members₁ : List ℕ} {n : ℕ} {rest t counts : List ℕ} {kept : Kept} {place members : List ℕ} → Partly s t₀ counts₀ all members₁ n rest t counts kept place members
      → {members₀ : List ℕ} → length members ≡ length members₀ → Partly s t₀ counts₀ all members₀ n rest t counts kept place members
  partly-room p long =
      record { range = p.range; newests = p.newests; long = p.long; tables = p.tables; tallies = p.tallies; small = p.small; keeps = p.keeps; wide = long }

  module _ {t₀ counts₀ all members₀ : List ℕ} {n : ℕ} {rest t counts : List ℕ} {kept : Kept} {place members : List ℕ} (p : Partly s t₀ counts₀ all members₀ n rest t counts kept place members) where
    pub partly-ready : {index : List ℕ} → Ready s index t₀ → Ready s index t
    partly-ready r = record { job = r.job; indexed = r.indexed; table = p.range; newests = p.newests }

    pub partly-place : {n : ℕ} → n ≡ claims s → length place ≡ n
    partly-place e = p.keeps.gathered.long ∙ ((sizes s).claims_are ∙ sym e)

    module _ (good : WellFormed s) {w : ℕ} (low : w < workers s) {x : Kind} {k : Kept} {u place' members' : List ℕ} (done : Done (job_of s) (turn (job_of s) t w) x k u place' members') where
      pub partly-next :
          {later : List ℕ} → rest ≡ w ∷ later → {next : List ℕ} → next ≡ set counts (kind_number x) (get_or counts (kind_number x) 0 + 1)
          → Partly s t₀ counts₀ all members' (n + 1) later u next k place' members'
      unfolding run_table run_kinds counted job_of
      partly-next {later} first {next} count =
          let made = done.made in
          record {
            range = rw made.table_is (turn_in_range (job_ok s good) p.range low);
            newests = rw made.table_is (turn-kept (job_ok s good) p.range low);
            long = ap length made.table_is ∙ (turn-length _ _ _ ∙ p.long);
            tables = p.tables ∙ (ap (run_table (job_of s) t) first ∙ ap (λ (y : List ℕ). run_table (job_of s) y later) (sym made.table_is));
            tallies =
                p.tallies
                ∙ (ap (λ (y : List ℕ). counted counts (run_kinds (job_of s) t y)) first
                ∙ (ap₂ (λ (k : Kind) (y : List ℕ). counted (set counts (kind_number k) (get_or counts (kind_number k) 0 + 1)) (run_kinds (job_of s) y later)) (sym made.kind_is) (sym made.table_is)
                ∙ ap (λ (y : List ℕ). counted y (run_kinds (job_of s) u later)) (sym count)));
            small = λ k. rw count (omega (arith, one_more counts (kind_number x) k, p.small k));
            keeps = done.keeps;
            wide = refl;
          }

      pub partly_more :
          {later : List ℕ} → rest ≡ w ∷ later → {next : List ℕ} → next ≡ set counts (kind_number x) (get_or counts (kind_number x) 0 + 1)
          → length members' ≡ length members → Partly s t₀ counts₀ all members₀ (n + 1) later u next k place' members'
      partly_more first count same = partly-room (partly-next first count) (same ∙ p.wide)

    pub partly_end : rest ≡ [] → (counts ≡ counted counts₀ (run_kinds (job_of s) t₀ all)) × (t ≡ run_table (job_of s) t₀ all)
    unfolding run_table run_kinds counted
    partly_end none =
        (sym (p.tallies ∙ ap (λ (x : List ℕ). counted counts (run_kinds (job_of s) t x)) none), sym (p.tables ∙ ap (run_table (job_of s) t) none))

-- the turns of a schedule, from place i on
pub named-next : (ws : List ℕ) {i : ℕ} → i < length ws → {w : ℕ} → w ≡ get_or ws i 0 → drop i ws ≡ w ∷ drop (i + 1) ws
named-next ws {i} some named = drop-cons ws i 0 some ∙ ap₂ (λ (x y : ℕ). x ∷ drop y ws) (sym named) (sym (add-one i))

-- The kept set when a claim passes its next literal, by what the code reads (`Passing`, proofs/Cursors), or skips the rest of its rule. Assumes nothing.
--   passed-complete     the literal's claim is complete
--   passed_lacks        it isn't
--   passed-opens        it was fresh, and is opened
--   skipped-keeps       the rest of a failed rule
use Prim.Native.Nat.{ℕ, ◌+◌, ◌<◌, ◌≤◌}
use mathlib.Core.Path.{◌≡◌, sym, ◌∙◌, ap}
use mathlib.Core.List.{List}
use native.Mathlib.Omega.{arith}
use lib.ListN.{length, get_or, set}
use Rattle.base.proofs.Bools.{is}
use Rattle.job.specs.Job.{rule_end}
use Rattle.job.specs.Format.{claims, job_of}
use Rattle.job.proofs.RuleEnds.{end_more}
use Rattle.table.specs.Layout as W
use Rattle.table.specs.Ranges.{InRange}
use Rattle.table.proofs.Sizes.{sizes}
use Rattle.turn.specs.Turn.{lits, clear, open_claim}
use Rattle.turn.specs.Ready.{Ready}
use Rattle.turn.specs.KeptSet.{Keeps, Lacking}
use Rattle.turn.specs.declared.Kept.{Kept}
use Rattle.std.proofs.Common.{None}
use Rattle.turn.proofs.Behind.{Behind, clear-not}
use Rattle.turn.proofs.Cursors.{Passing, moved_range}
use Rattle.turn.proofs.Jobs.{JobOk, job_ok, lits-length}
use Rattle.turn.proofs.KeptTurns.{Moved, skip-keeps, complete-keeps, next_lacks, open_forgets}
use Rattle.turn.proofs.Words.{other}

module _ {s t : List ℕ} {w c p b m : ℕ} {u : List ℕ} (g : Passing s t w c p b m u) {index : List ℕ} (r : Ready s index t) (k : Kept) (place members : List ℕ) where
  J : JobOk (job_of s)
  J = job_ok s r.job

  step : p + 1 ≡ W.cursor t c + 1
  step = ap (λ (x : ℕ). x + 1) g.passed

  moves : Moved (job_of s) t c (p + 1) u
  moves =
      record {
        claim = omega (arith, g.claim, (sizes s).claims_are);
        stored = g.stored;
        there = omega (arith, r.table.room, g.claim, (sizes s).claims_are);
        on = omega (arith, g.passed);
      }

  next : b ≡ get_or (lits (job_of s) c) (W.cursor t c) 0
  next = g.next ∙ ap (λ (x : ℕ). get_or (lits (job_of s) c) x 0) g.passed

  module _ (q : Keeps (job_of s) t k place members) where
    pub passed-complete : W.true_mark ≤ m → Keeps (job_of s) u k place members
    passed-complete h = complete-keeps J moves k place members q step (omega (arith, g.read, ap (W.mark t) next))

    pub passed_lacks : m < W.true_mark → Lacking (job_of s) u c b k place members
    passed_lacks h =
        next_lacks J moves k place members q step b next g.left (clear-not (job_of s) t c (W.cursor t c) (is (clear (job_of s) t c (W.cursor t c)) g.free)) (omega (arith, g.read))

  pub passed-opens : Keeps (job_of s) u k place members → m ≡ 0 → w + 1 < W.true_mark → (v : ℕ) {a : ℕ} → a ≡ claims s → {x : List ℕ} → x ≡ set (open_claim u w b) (W.newest_at a w) v → Keeps (job_of s) x (record { from = k.from; count = k.count; chosen = None }) place members
  passed-opens q e small v {a} a-is {x} h =
      let range : InRange (job_of s) u = moved_range g r.job r.table in
      let low : b < (job_of s).claims = omega (arith, g.low, (sizes s).claims_are) in
      let fresh : W.mark u b ≡ 0 = ap (λ (y : List ℕ). W.mark y b) g.stored ∙ (other t (W.cursor_word c) (p + 1) (W.mark_word b) (λ z. omega arith) ∙ (sym g.read ∙ e)) in
      open_forgets (job_of s) J u k place members q w b low fresh ((range.claim b low).unread fresh) small (omega (arith, range.room)) v (a-is ∙ sym (sizes s).claims_are) h

-- the cursor moved to the rule's end
pub skipped-keeps : {s index t : List ℕ} → Ready s index t → (c : ℕ) → c < claims s → W.cursor t c < length (lits (job_of s) c) → Behind (job_of s) t c (W.cursor t c) → {u : List ℕ} → u ≡ set t (W.cursor_word c) (rule_end c (job_of s).rules (W.cursor t c)) → (k : Kept) (place members : List ℕ) → Keeps (job_of s) t k place members → Keeps (job_of s) u k place members
skipped-keeps {s} {index} {t} r c l some b {u} e k place members q =
    let v = rule_end c (job_of s).rules (W.cursor t c) in
    let m : Moved (job_of s) t c v u =
    record {
      claim = omega (arith, (sizes s).claims_are);
      stored = e;
      there = omega (arith, r.table.room, (sizes s).claims_are);
      on = omega (arith, end_more c (job_of s).rules (W.cursor t c) (omega (arith, lits-length (job_of s) c)));
    } in
    skip-keeps (job_ok s r.job) m k place members q (omega arith) b

-- One worker's turns until all is answered: each changes something, and fewer don't do. Assumes nothing.
--   needed       specs/Laws: Needed, of the turns counted from the table that was lent
--   needed_any   the same of those counted from a table of zeros: what the table held before its start decides nothing
use Prim.Native.Nat.{ℕ, zero, suc, ◌+◌, ◌<◌}
use mathlib.Core.Path.{◌≡◌, refl, sym, ◌∙◌, ap, ap₂, subst, subst⁻¹}
use mathlib.Core.Bool.{Bool, true, false}
use mathlib.Core.List.{List, [], ◌∷◌}
use native.Mathlib.Omega.{arith}
use borrow.Author.Tests.{ne_eqb}
use lib.ListN.{replicate, length-replicate}
use Rattle.base.specs.Choose.{pick}
use Rattle.job.specs.Format.{job_of}
use Rattle.job.specs.Checks.{check_job}
use Rattle.job.specs.Check.{Accepted}
use Rattle.table.specs.Layout.{used}
use Rattle.table.specs.Start.{start_words}
use Rattle.turn.specs.Turn.{kind_number, turn, run_table, run_kinds}
use Rattle.turn.specs.declared.Kind.{Kind}
use Rattle.turn.specs.declared.Kind.TheVariants.{Idle}
use Rattle.steps.proofs.Starting.{start-started, started_range}
use Rattle.steps.proofs.SameTurns.{run-alike, start_agree}
use Rattle.calls.specs.Lists.{turning, left, after, AllAnswered}
use Rattle.calls.specs.Promise.{Fresh, from, history, turns}
use Rattle.calls.proofs.Demands.{promise}
use Rattle.calls.proofs.Answers.{kind_idle}
use Rattle.calls.proofs.OnLists.{ok, made_after, all_words, words_all}
use Rattle.listing.specs.Finish.{answered_all, next_worker, finish_turns, most}
use Rattle.listing.specs.Listing.{first_table}
use Rattle.listing.proofs.Finished.{all_is, all-each, low_finish, finish-alike, finished}
use Rattle.rulesets.specs.Census.{changing, needed_by}
use Rattle.rulesets.specs.Laws.{Needed}

changing_one : (k : Kind) (ks : List Kind) → (k ≡ Idle → ⊥) → changing (k ∷ ks) ≡ 1 + changing ks
unfolding changing pick
changing_one k ks n = rw (ne_eqb (kind_number k) 0 (λ e. n (kind_idle k e)))

module _ (s : List ℕ) (e : Accepted ≡ check_job s) (one : (job_of s).workers ≡ 1) (t : List ℕ) (room : Fresh s t) where
  abbrev at : ℕ → List ℕ
  at k = from s t (turns k)

  one_later : (k : ℕ) (u : List ℕ) → after s u (turns (suc k)) ≡ left s (after s u (turns k)) (turning 0)
  unfolding after turns
  one_later zero u = refl
  one_later (suc k) u = one_later k (left s u (turning 0))

  next-table : (k : ℕ) → at (suc k) ≡ (turn (job_of s) (at k) 0).table
  unfolding left
  next-table k = one_later k (start_words (job_of s) t) ∙ (((promise s e).taken t room (turns k)).turns 0 (omega (arith, one))).1

  -- all is answered by the words, and by the list of calls
  words-answered : (k : ℕ) → answered_all (job_of s) (at k) ≡ true → AllAnswered (job_of s) (history s t (turns k))
  words-answered k q = words_all s e t room (turns k) (λ w h. omega (arith, all-each (job_of s) (at k) q w h, (made_after s e t room (turns k)).range.answers w h))

  answered-words : (k : ℕ) → AllAnswered (job_of s) (history s t (turns k)) → answered_all (job_of s) (at k) ≡ true
  answered-words k a = all_is (job_of s) (at k) (λ w h. omega (arith, all_words s e t room (turns k) a w h))

  open_acts : (k : ℕ) → answered_all (job_of s) (at k) ≡ false → (turn (job_of s) (at k) 0).kind ≡ Idle → ⊥
  open_acts k n i =
      let stays = ((promise s e).changes t room (turns k) 0 (omega (arith, one))).0 i in
      let a = ((promise s e).quiet t room (turns k)).1 (λ w h. let z : w ≡ 0 = omega (arith, one) in subst⁻¹ (λ (v : ℕ). (turn (job_of s) (at k) v).table ≡ at k) z stays) in
      let z : ◌≡◌ {A = Bool} true false = sym (answered-words k a) ∙ n in
      let y : ◌≡◌ {A = ℕ} 0 1 = cc in absurd (omega arith)

  same-worker : next_worker (job_of s) 0 ≡ 0
  unfolding next_worker pick
  same-worker = rw one

  -- after k turns, the turns ws more: they lead to the table after so many more as change something, and all is answered after none before
  record Going (k : ℕ) (ws : List ℕ) : Type 0 where
    last : run_table (job_of s) (at k) ws ≡ at (k + changing (run_kinds (job_of s) (at k) ws))
    still : (i : ℕ) → i < changing (run_kinds (job_of s) (at k) ws) → answered_all (job_of s) (at (k + i)) ≡ false

  none_more : (k : ℕ) → Going k []
  unfolding run_table run_kinds changing
  none_more k = let e : k ≡ k + 0 = omega arith in record { last = ap at e; still = λ i h. absurd (omega arith) }

  one_more : (k : ℕ) (ws : List ℕ) → answered_all (job_of s) (at k) ≡ false → Going (suc k) ws → Going k (0 ∷ ws)
  unfolding run_table run_kinds
  one_more k ws n g =
      let m = changing (run_kinds (job_of s) (at (suc k)) ws) in
      let e : changing ((turn (job_of s) (at k) 0).kind ∷ run_kinds (job_of s) (turn (job_of s) (at k) 0).table ws) ≡ 1 + m =
      changing_one _ _ (open_acts k n) ∙ ap (λ (u : List ℕ). 1 + changing (run_kinds (job_of s) u ws)) (sym (next-table k)) in
      let f : suc k + m ≡ k + (1 + m) = omega arith in
      record {
        last = ap (λ (u : List ℕ). run_table (job_of s) u ws) (sym (next-table k)) ∙ g.last ∙ ap at f ∙ ap (λ (x : ℕ). at (k + x)) (sym e);
        still = λ i h. earlier i (omega (arith, e));
      }
    where
      earlier : (i : ℕ) → i < 1 + changing (run_kinds (job_of s) (at (suc k)) ws) → answered_all (job_of s) (at (k + i)) ≡ false
      earlier zero h = let z : k + 0 ≡ k = omega arith in ap (λ (x : ℕ). answered_all (job_of s) (at x)) z ∙ n
      earlier (suc i) h = let z : k + suc i ≡ suc k + i = omega arith in ap (λ (x : ℕ). answered_all (job_of s) (at x)) z ∙ g.still i (omega arith)

  going : (n k : ℕ) → Going k (finish_turns n (job_of s) (at k) 0)
  unfolding finish_turns pick
  going zero k = none_more k
  going (suc n) k = go (answered_all (job_of s) (at k)) refl (going n (suc k))
    where
      go : (b : Bool) → answered_all (job_of s) (at k) ≡ b → Going (suc k) (finish_turns n (job_of s) (at (suc k)) 0) → Going k (pick b [] (0 ∷ finish_turns n (job_of s) (turn (job_of s) (at k) 0).table (next_worker (job_of s) 0)))
      go true q g = none_more k
      go false q g =
          subst (λ (ws : List ℕ). Going k (0 ∷ ws)) (ap₂ (λ (u : List ℕ) (w : ℕ). finish_turns n (job_of s) u w) (next-table k) (sym same-worker))
          (one_more k (finish_turns n (job_of s) (at (suc k)) 0) q g)

  needed : Needed s t (changing (run_kinds (job_of s) (start_words (job_of s) t) (finish_turns (most (job_of s)) (job_of s) (start_words (job_of s) t) 0)))
  unfolding after turns run_table
  needed =
      let g = going (most (job_of s)) 0 in
      let m = changing (run_kinds (job_of s) (start_words (job_of s) t) (finish_turns (most (job_of s)) (job_of s) (start_words (job_of s) t) 0)) in
      let z : (i : ℕ) → 0 + i ≡ i = λ i. omega arith in
      let still : (k : ℕ) → k < m → answered_all (job_of s) (at k) ≡ false = λ k h. ap (λ (x : ℕ). answered_all (job_of s) (at x)) (sym (z k)) ∙ g.still k h in
      record {
        answered = words-answered m (ap (answered_all (job_of s)) (sym (g.last ∙ ap at (z m))) ∙ finished s e t room [] (λ i h. absurd (omega arith)));
        least = λ k h a. let q : ◌≡◌ {A = Bool} true false = sym (answered-words k a) ∙ still k h in let y : ◌≡◌ {A = ℕ} 0 1 = cc in absurd (omega arith);
        changes = λ k h. open_acts k (still k h);
      }

module _ (s : List ℕ) (e : Accepted ≡ check_job s) (one : (job_of s).workers ≡ 1) where
  pub needed_any : (t : List ℕ) → Fresh s t → Needed s t (needed_by (job_of s))
  needed_any t room =
      let j = job_of s in
      let z : List ℕ = replicate (used j) 0 in
      let h : 0 < j.workers = omega (arith, one) in
      let R = started_range (start-started j t room) in
      let a = start_agree j t z room (omega (arith, length-replicate {A = ℕ} (used j) 0)) in
      let f : finish_turns (most j) j (start_words j t) 0 ≡ finish_turns (most j) j (first_table j) 0 = finish-alike j (ok s e) (most j) 0 h R a in
      let k : run_kinds j (start_words j t) (finish_turns (most j) j (start_words j t) 0) ≡ run_kinds j (first_table j) (finish_turns (most j) j (start_words j t) 0) =
      (run-alike (ok s e) (finish_turns (most j) j (start_words j t) 0) R a (low_finish j (most j) (start_words j t) 0 h)).0 in
      subst (Needed s t) (ap changing (k ∙ ap (run_kinds j (first_table j)) f)) (needed s e one t room)

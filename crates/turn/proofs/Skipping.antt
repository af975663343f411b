-- Whether the rule of a claim's next literal has failed, as the code finds it, and the turn that skips the rest of it (02, order 5). Assumes nothing.
--   Looking          a look back from the next literal over its rule: none of those looked at is false. Its laws: looking-start, _more, and what
--                    is found: found_none (the claim's first literal is reached), found-other (the rule's first), found-failed (a false one)
--   pass-skipped     the turn where an earlier literal of the rule is complete and false: the cursor past the rule; skip-low   its place is small
--   pass-clear       none is, where none was found
--   skip_stored, skip-behind   what the turn stores, and why
use Prim.Native.Nat.{ℕ, ◌+◌, ◌-◌, ◌≤◌, ◌<◌}
use mathlib.Core.Path.{◌≡◌, sym, ◌∙◌, ap, ap₂, subst, subst⁻¹}
use mathlib.Core.Bool.{Bool, true, false, not}
use mathlib.Core.List.{List}
use mathlib.Core.Logic.{by_cases}
use native.Mathlib.Omega.{arith}
use native.Mathlib.Decide.{dec_lt}
use borrow.Author.Tests.{not-true, not-false}
use lib.Dec.{T}
use lib.ListN.{length, get_or, set}
use Rattle.base.proofs.Bools.{is, is_true, is_false}
use Rattle.base.proofs.Choose.{pick-false}
use Rattle.job.specs.Job.{claim_of, rule_end, most_literals}
use Rattle.job.specs.Format.{claims, rules, literals, literal_at, job_of}
use Rattle.job.specs.Claims.{claim_start, bound_at, end_in, past_rule}
use Rattle.job.specs.declared.Cursor.{Cursor}
use Rattle.job.specs.declared.Literal.{Literal}
use Rattle.job.proofs.Contiguous.{claim-literals}
use Rattle.job.proofs.RuleEnds.{end_same, end_more, end_most}
use Rattle.job.proofs.IndexEnds.{end_here_in, end-next_in}
use Rattle.table.specs.Layout.{mark_word, cursor_word, cursor}
use Rattle.table.specs.Newest.{NewestKept}
use Rattle.table.proofs.Sizes.{sizes}
use Rattle.turn.specs.Turn.{lits, lit_at, clear, pass_turn, keeping}
use Rattle.table.specs.Literals.{failed}
use Rattle.turn.specs.Ready.{Ready, Made}
use Rattle.turn.specs.declared.Kind.TheVariants.{Passed}
use Rattle.turn.proofs.Jobs.{lits-length}
use Rattle.turn.proofs.Following.{room}
use Rattle.turn.proofs.Making.{made_as, made-from, made_kept}
use Rattle.turn.proofs.ThirdWords.{cursor-kept}
use Rattle.turn.proofs.Behind.{Behind, clear-not, clear_of, behind_of}
use Rattle.turn.proofs.Walk.{lit_is, end_is}

-- of c's first n literals, which start at `start`, those from `at` on are not false, and are of the rule of literal n
pub record Looking (s index t : List ℕ) (c n start at : ℕ) : Type 0 where
  pub starts : start ≡ claim_start s c
  pub from : start ≤ at
  pub to : at ≤ start + n
  pub same : end_in index at ≡ claim_start s c + rule_end c (job_of s).rules n
  pub hold : (i : ℕ) → at ≤ claim_start s c + i → i < n → T (failed t (lit_at (job_of s) c i)) → ⊥

module _ (s index t : List ℕ) (r : Ready s index t) (c : ℕ) (h : c < claims s) (n : ℕ) (l : n < length (lits (job_of s) c)) where
  next_low : claim_start s c + n < literals s
  next_low = let p = claim-literals s r.job c in omega (arith, p.count, p.within, p.ordered, lits-length (job_of s) c)

  pub looking-starts : {q : Cursor} {z : ℕ} → q ≡ record { at = get_or index c 0 + 0; end = z } → q.at ≡ claim_start s c
  looking-starts e = omega (arith, ap (λ (x : Cursor). x.at) e, r.indexed.starts c (omega arith))

  pub looking_most : {a : ℕ} → a ≡ claim_start s c → a + n < most_literals
  looking_most e = omega (arith, next_low, r.job.sized.literals_most)

  pub looking-start : {a : ℕ} → a ≡ claim_start s c → Looking s index t c n a (a + n)
  looking-start {a} e =
      record {
        starts = e;
        from = omega arith;
        to = omega arith;
        same = ap (λ (x : ℕ). end_in index (x + n)) e ∙ end_is s index t r.job r.indexed c n l;
        hold = λ i g m. absurd (omega arith);
      }

  abbrev found : Bool
  found = not (clear (job_of s) t c n)

  none_found : (Behind (job_of s) t c n → ⊥) → false ≡ found
  none_found f = ap not (sym (is_true (clear (job_of s) t c n) (clear_of (job_of s) t c n f)))

  module _ {start at : ℕ} (x : Looking s index t c n start at) where
    pub found_none : at ≤ start → false ≡ found
    found_none g = none_found (λ b. x.hold b.at (omega (arith, x.starts)) b.before b.fails)

    pub looking-low : at ≤ most_literals
    looking-low = omega (arith, x.starts, x.to, next_low, r.job.sized.literals_most)

    -- one literal back
    module _ (g : start < at) where
      abbrev i : ℕ
      i = at - 1 - claim_start s c

      there : claim_start s c + i ≡ at - 1
      there = omega (arith, x.starts)

      before : i < n
      before = omega (arith, x.starts, x.to)

      end_at : end_in index (at - 1) ≡ claim_start s c + rule_end c (job_of s).rules i
      end_at = ap (end_in index) (sym there) ∙ end_is s index t r.job r.indexed c i (omega (arith, before))

      lit-at : literal_at s (rules s) (at - 1) ≡ lit_at (job_of s) c i
      lit-at = ap (literal_at s (rules s)) (sym there) ∙ lit_is s index t r.job r.indexed c i (omega (arith, before))

      back : at - 1 + 1 ≡ at
      back = omega arith

      pub found-other : bound_at index (at - 1 + 1) ≡ true → false ≡ found
      found-other d =
          let e = end_here_in index (at - 1) (omega (arith, looking-low)) d in
          none_found
          (λ b.
          by_cases (dec_lt i b.at) (λ o. x.hold b.at (omega (arith, there)) b.before b.fails)
          (λ o.
          let y = end_same c (job_of s).rules b.at i (omega arith) (omega (arith, b.within, before)) in
          omega (arith, end_at, there, before, b.within)))

      module _ (d : bound_at index (at - 1 + 1) ≡ false) where
        same_back : end_in index (at - 1) ≡ claim_start s c + rule_end c (job_of s).rules n
        same_back = end-next_in index (at - 1) (omega (arith, looking-low)) d ∙ (ap (end_in index) back ∙ x.same)

        pub back-below : at - 1 < literals s
        back-below = omega (arith, x.starts, x.to, next_low)

        module _ {m : ℕ} (q : m ≡ rules s) where
          pub back-word : mark_word (claim_of (literal_at s m (at - 1))) < length t
          back-word =
              let y : claim_of (literal_at s (rules s) (at - 1)) < claims s = r.job.literal (at - 1) (omega (arith, x.starts, x.to, next_low)) in
              omega (arith, room s t r.table, ap (λ (v : ℕ). claim_of (literal_at s v (at - 1))) q)

          pub found-failed : T (failed t (literal_at s m (at - 1))) → true ≡ found
          found-failed f =
              let y : T (failed t (lit_at (job_of s) c i)) = subst (λ (v : Literal). T (failed t v)) (ap (λ (v : ℕ). literal_at s v (at - 1)) q ∙ lit-at) f in
              let b : Behind (job_of s) t c n =
              record { at = i; before = before; fails = y; within = omega (arith, end_at, same_back, end_more c (job_of s).rules n (omega (arith, lits-length (job_of s) c))) } in
              ap not (sym (is_false (clear (job_of s) t c n) (λ v. clear-not (job_of s) t c n v b)))

          pub looking_more : (T (failed t (literal_at s m (at - 1))) → ⊥) → Looking s index t c n start (at - 1)
          looking_more f =
              record {
                starts = x.starts;
                from = omega arith;
                to = omega (arith, x.to);
                same = same_back;
                hold = λ k a b y.
                    by_cases (dec_lt (claim_start s c + k) at)
                    (λ o.
                    let e : k ≡ i = omega arith in
                    f (subst (λ (v : Literal). T (failed t v)) (sym (ap (λ (v : ℕ). literal_at s v (at - 1)) q ∙ lit-at)) (subst (λ (v : ℕ). T (failed t (lit_at (job_of s) c v))) e y)))
                    (λ o. x.hold k (omega arith) b y);
              }

-- the turn, by what was found: the cursor moved to the rule's end
module _ (s index t : List ℕ) (r : Ready s index t) (w c : ℕ) (h : c < claims s) (l : cursor t c < length (lits (job_of s) c)) {p : ℕ} (e : p ≡ cursor t c) {o : Bool} (q : o ≡ not (clear (job_of s) t c p)) where
  here_is : o ≡ not (clear (job_of s) t c (cursor t c))
  here_is = q ∙ ap (λ (x : ℕ). not (clear (job_of s) t c x)) e

  pub skip-behind : o ≡ true → Behind (job_of s) t c (cursor t c)
  skip-behind g = behind_of (job_of s) t c (cursor t c) (is _ (sym here_is ∙ g))

  pub pass-clear : o ≡ false → clear (job_of s) t c (cursor t c) ≡ true
  pass-clear g = not-false _ (sym here_is ∙ g)

  -- the cursor over c's literals that has passed p of them, past its literal's rule
  module _ {k u : Cursor} (f : k ≡ record { at = get_or index c 0 + p; end = get_or index (c + 1) 0 }) (g : u ≡ past_rule index k) where
    skip_at : u.at ≡ claim_start s c + rule_end c (job_of s).rules (cursor t c)
    skip_at =
        ap (λ (x : Cursor). x.at) g
        ∙ (ap (λ (x : Cursor). end_in index x.at) f
        ∙ (ap₂ (λ (x y : ℕ). end_in index (x + y)) (r.indexed.starts c (omega arith)) e ∙ end_is s index t r.job r.indexed c (cursor t c) l))

    pub skip-low : (get_or index c 0 ≤ u.at) × (u.at < 4294967296)
    skip-low =
        let n = claim-literals s r.job c in
        let m = end_most c (job_of s).rules (cursor t c) (omega (arith, lits-length (job_of s) c)) in
        let a = r.indexed.starts c (omega arith) in
        (omega (arith, skip_at), omega (arith, skip_at, n.count, n.within, n.ordered, r.job.sized.literals_most))

    pub skip_stored : {y : List ℕ} → y ≡ set t (cursor_word c) (u.at - get_or index c 0) → y ≡ set t (cursor_word c) (rule_end c (job_of s).rules (cursor t c))
    skip_stored z =
        let m : u.at - get_or index c 0 ≡ rule_end c (job_of s).rules (cursor t c) = omega (arith, skip_at, r.indexed.starts c (omega arith)) in
        z ∙ ap (set t (cursor_word c)) m

    pub pass-skipped : o ≡ true → {y : List ℕ} → y ≡ set t (cursor_word c) (u.at - get_or index c 0) → Made (keeping (job_of s) (pass_turn (job_of s) t w c)) Passed y
    unfolding pass_turn
    pass-skipped d {y} z =
        let n : clear (job_of s) t c (cursor t c) ≡ false = not-true _ (sym here_is ∙ d) in
        let q = skip_stored z in
        made_kept (job_of s) (subst⁻¹ (NewestKept (job_of s)) q (cursor-kept r.newests c _ (omega (arith, (sizes s).claims_are)))) (made-from q (made_as _ _ (pick-false _ _ _ n)))

-- The first n members of a list (`Member`, `Places`, specs/KeptSet). Assumes nothing.
--   member_none, -up, _last, -cases   no member; one member more, from the fewer and back
--   part_member, member-part, front-places   the first members as a list of their own
--   Low t b        what b counts has words in the table
--   member-low     a member has
use Prim.Native.Nat.{ℕ, ◌+◌, ◌≤◌, ◌<◌}
use mathlib.Core.Path.{◌≡◌, sym, ◌∙◌, ap}
use mathlib.Core.Logic.{◌⊎◌, inl, inr, by_cases}
use mathlib.Core.List.{List}
use native.Mathlib.Omega.{arith}
use native.Mathlib.Decide.{dec_lt}
use lib.ListN.{length, get_or, take}
use lib.Seq.{length-take-le, get_or-take}
use Rattle.job.specs.Job.{most_claims}
use Rattle.table.specs.Layout.{workers_from}
use Rattle.turn.specs.KeptSet.{Member, Places}

module _ {ms : List ℕ} where
  pub member_none : {d : ℕ} → Member ms 0 d → ⊥
  member_none m = omega (arith, m.before)

  pub member-up : {n k d : ℕ} → n ≤ k → Member ms n d → Member ms k d
  member-up l m = record { at = m.at; before = omega (arith, m.before); is = m.is }

  pub member_last : (n : ℕ) {d : ℕ} → d ≡ get_or ms n 0 → Member ms (n + 1) d
  member_last n e = record { at = n; before = omega arith; is = sym e }

  pub member-cases : {n d : ℕ} → Member ms (n + 1) d → Member ms n d ⊎ (d ≡ get_or ms n 0)
  member-cases {n} m =
      by_cases (dec_lt m.at n) (λ l. inl (record { at = m.at; before = l; is = m.is }))
      (λ l. inr (sym m.is ∙ ap (λ (k : ℕ). get_or ms k 0) (omega (arith, m.before))))

-- the first n members, as a list of their own
module _ {ms : List ℕ} {n : ℕ} (l : n ≤ length ms) where
  pub part_member : {d : ℕ} → Member (take n ms) (length (take n ms)) d → Member ms n d
  part_member m =
      let h : m.at < n = omega (arith, m.before, length-take-le n ms l) in
      record { at = m.at; before = h; is = sym (get_or-take n ms m.at 0 h) ∙ m.is }

  pub member-part : {d : ℕ} → Member ms n d → Member (take n ms) (length (take n ms)) d
  member-part m = record { at = m.at; before = omega (arith, m.before, length-take-le n ms l); is = get_or-take n ms m.at 0 m.before ∙ m.is }

  pub front-places : {t : List ℕ} → Places t ms n → Places t (take n ms) (length (take n ms))
  front-places p =
      record {
        many = omega arith;
        few = λ i h. let k : i < n = omega (arith, length-take-le n ms l) in rw (get_or-take n ms i 0 k) (p.few i k);
        words = λ i h. let k : i < n = omega (arith, length-take-le n ms l) in rw (get_or-take n ms i 0 k) (p.words i k);
      }

pub record Low (t : List ℕ) (b : ℕ) : Type 0 where
  pub few : b ≤ most_claims
  pub words : workers_from b ≤ length t

pub member-low : {t ms : List ℕ} {n d : ℕ} → Places t ms n → Member ms n d → Low t (d + 1)
member-low p m =
    record { few = omega (arith, m.is, p.few m.at m.before); words = omega (arith, m.is, p.words m.at m.before) }

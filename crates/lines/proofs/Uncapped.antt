-- Lines that row 15 accepts have no number past 65,536, so that none of theirs is changed by `cap`. Assumes nothing.
--   items_uncapped   their numbers are the same, kept there or not
use Prim.Native.Nat.{ℕ, suc, ◌+◌, ◌<◌, ◌≤◌}
use mathlib.Core.List.{List, [], ◌∷◌, map}
use mathlib.Core.Path.{◌≡◌, refl}
use mathlib.Core.Bool.{false}
use native.Mathlib.Omega.{arith}
use lib.ListN.{length, get_or}
use Rattle.base.specs.Compare.{not_below}
use Rattle.base.proofs.Bools.{neither}
use Rattle.base.proofs.Compare.{not_below_lt}
use Rattle.job.specs.Job.{claim_of, ◌if◌}
use Rattle.job.specs.declared.Literal.{Literal}
use Rattle.job.specs.declared.Literal.TheVariants.{Plain, Negated}
use Rattle.job.specs.declared.Question.{Question}
use Rattle.lines.specs.Lines.{RuleLine, Lines, as_rule}
use Rattle.lines.specs.Checks.{some_not_below}
use Rattle.lines.specs.Numbering.{cap}
use Rattle.lines.proofs.Capped.{cap-kept}
use Rattle.lines.proofs.Validity.{LinesFit}
use Rattle.lines.proofs.Along.{same, literal_item, rules_items, asks_items, items_in}

literal_uncapped : (m : Literal) (line : ℕ) → claim_of m ≤ 65536 → literal_item cap line m ≡ literal_item same line m
literal_uncapped (Plain c) line h = rw (← cap-kept c h)
literal_uncapped (Negated c) line h = rw (← cap-kept c h)

module _ (a : ℕ) (most : a ≤ 65536) where
  literals_uncapped : (ms : List Literal) (line : ℕ) → some_not_below a ms ≡ false → map (literal_item cap line) ms ≡ map (literal_item same line) ms
  unfolding some_not_below
  literals_uncapped [] line e = refl
  literals_uncapped (m ∷ ms) line e =
      let p = neither (not_below (claim_of m) a) (some_not_below a ms) e in
      let k = not_below_lt (claim_of m) a p.0 in
      rw (literal_uncapped m line (omega arith), literals_uncapped ms line p.1)

  rules-uncapped :
      (rs : List RuleLine) (line : ℕ)
      → ((i : ℕ) → i < length rs → ((get_or (map as_rule rs) i (0 if [])).head < a) × (some_not_below a (get_or (map as_rule rs) i (0 if [])).body ≡ false))
      → rules_items cap line rs ≡ rules_items same line rs
  rules-uncapped [] line h = refl
  rules-uncapped (r ∷ rs) line h =
      let f = h 0 (omega arith) in
      let again = rules-uncapped rs (line + 1) (λ i k. h (suc i) (omega arith)) in
      rw (← cap-kept r.head (omega (arith, f.0)), literals_uncapped r.body (line + 1) f.1, again)

  asks-uncapped :
      (qs : List Question) (d : Question) (line : ℕ) → ((i : ℕ) → i < length qs → ((get_or qs i d).worker < 65536) × ((get_or qs i d).claim < a))
      → asks_items cap line qs ≡ asks_items same line qs
  asks-uncapped [] d line h = refl
  asks-uncapped (q ∷ qs) d line h =
      let f = h 0 (omega arith) in
      let again = asks-uncapped qs d (line + 1) (λ i k. h (suc i) (omega arith)) in
      rw (← cap-kept q.worker (omega (arith, f.0)), ← cap-kept q.claim (omega (arith, f.1)), again)

pub items_uncapped : (l : Lines) → LinesFit l → items_in cap l ≡ items_in same l
items_uncapped l f =
    let most : l.claims ≤ 65536 = omega arith in
    let rules = rules-uncapped l.claims most l.rules 1 (λ i k. let g = f.rule i k in (g.head, g.literals)) in
    let asks =
    asks-uncapped l.claims most l.questions (record { worker = 0; claim = 0 }) (1 + length l.rules)
    (λ i k. let g = f.ask i k in (omega (arith, g.asker, f.workers_most), g.asked)) in
    rw (← cap-kept l.claims most, ← cap-kept l.workers (omega arith), rules, asks)

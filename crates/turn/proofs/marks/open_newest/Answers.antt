use Prim.Native.Nat.{ℕ}
use mathlib.Core.Path.{◌≡◌, ◌∙◌, ap, ap₂}
use mathlib.Core.List.{List}
use native.Mathlib.Omega.{arith}
use lib.ListN.{length, set}
use Rattle.table.specs.Layout.{newest_at}
use Rattle.table.specs.Newest.{newer}
use Rattle.table.proofs.Searching.{newer_most}
use Rattle.turn.specs.Turn.{open_claim}
use Rattle.turn.proofs.Lengths.{open-length}
use Rattle.turn.proofs.marks.open_newest.Goals as goal

longer : (t u : List ℕ) (w c : ℕ) → u ≡ open_claim t w c → length u ≡ length t
longer t u w c e = ap length e ∙ open-length t w c

pub newer-found-requires : goal.newer-found-requires
newer-found-requires c = let a = c.args in
    omega (arith, longer a.table.now _ a.w a.c c.open_claim.ensures, c.requires, c.newest_at-best.ensures.value)

pub set_newest-requires : goal.set_newest-requires
set_newest-requires c = let a = c.args in
    let best = c.newest_at-best.result in
    let n = newer_most c.open_claim.new.table a.c best a.claims (omega (arith, c.requires)) (omega (arith, c.requires, c.newest_at-best.ensures.value)) in
    omega (arith, longer a.table.now _ a.w a.c c.open_claim.ensures, c.requires, c.newer-found.ensures, n)

pub returns : goal.returns
returns c = let a = c.args in
    c.set_newest.ensures
    ∙ ap₂ (λ (x : List ℕ) (v : ℕ). set x (newest_at a.claims a.w) v) c.open_claim.ensures
    (c.newer-found.ensures ∙ ap₂ (λ (x : List ℕ) (v : ℕ). newer x a.c v) c.open_claim.ensures c.newest_at-best.ensures.value)

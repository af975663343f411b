use Prim.Native.Nat.{ℕ}
use mathlib.Core.Path.{◌≡◌, sym, ◌∙◌, ap}
use mathlib.Core.List.{List, ◌++◌}
use native.Mathlib.Omega.{arith}
use borrow.Author.Tests.{lt-ltb, le-ltb}
use native.Mathlib.Nat.{zero-add}
use lib.ListN.{length, get_or, drop}
use lib.Seq.{ext_get_or}
use Rattle.base.specs.Span.{span}
use Rattle.base.proofs.Span.{length-span, get_d-span}
use Rattle.table_calls.specs.Numbers.{copied}
use Rattle.table_calls.proofs.copy_counts.Goals as goal

pub returns-then-tally-lt8 : goal.returns-then-tally-lt8
unfolding copied
returns-then-tally-lt8 c = rw (lt-ltb (length c.args.tally.now) 8 c.if-tally-lt8.true)

pub returns : goal.returns
unfolding copied
returns c = let ns = c.args.counts.now in
    let f : ℕ → ℕ = λ k. get_or ns k 0 in
    let all : ns ≡ span f 0 8 = ext_get_or 0 ns (span f 0 8) (omega (arith, length-span f 0 8)) (λ i h. ap f (sym (zero-add i)) ∙ sym (get_d-span f 0 8 i 0 (omega (arith, length-span f 0 8)))) in
    rw (le-ltb (length c.args.tally.now) 8 c.if-tally-lt8.false) (ap (λ (x : List ℕ). x ++ drop 8 c.args.tally.now) (c.copy_from_slice.ensures.after ∙ all))

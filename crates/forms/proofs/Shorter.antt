-- A form has no more rules and no more literals than the job. Assumes nothing.
--   sort-length     a sorted list has no more members
--   sort_count      sorted rules have no more literals
--   form-counts     and rules whose bodies are sorted have none more either
--   fewer-rules, fewer-literals   so a form
use Prim.Native.Nat.{suc, ◌+◌, ◌≤◌}
use mathlib.Core.List.{List, [], ◌∷◌, map}
use native.Mathlib.Omega.{arith}
use lib.ListN.{length}
use Rattle.job.specs.Job.{Rule, body_count}
use Rattle.forms.specs.Order.{Order}
use Rattle.forms.specs.Sorting.{insert, sort}
use Rattle.forms.specs.Form.{literal_order, rule_order, form_rule}
use Rattle.forms.proofs.Inserting.{insert-way}

module _ {A : Type 0} (below : Order A) where
  insert-length : (x : A) (s : List A) → length (insert below x s) ≤ suc (length s)
  unfolding insert
  insert-length x [] = omega arith
  insert-length x (y ∷ s) =
      let ih = insert-length x s in
      insert-way below (λ (r : List A). length r ≤ suc (length (y ∷ s))) x y s (λ t. omega arith) (λ t. omega arith) (λ t u. omega arith)

  pub sort-length : (s : List A) → length (sort below s) ≤ length s
  unfolding sort
  sort-length [] = omega arith
  sort-length (x ∷ s) = let ih = sort-length s in omega (arith, insert-length x (sort below s))

insert_count : (r : Rule) (s : List Rule) → body_count (insert rule_order r s) ≤ length r.body + body_count s
unfolding insert body_count
insert_count r [] = omega arith
insert_count r (t ∷ s) =
    let ih = insert_count r s in
    insert-way rule_order (λ (u : List Rule). body_count u ≤ length r.body + body_count (t ∷ s)) r t s (λ x. omega arith) (λ x. omega arith) (λ x y. omega arith)

sort_count : (s : List Rule) → body_count (sort rule_order s) ≤ body_count s
unfolding sort body_count
sort_count [] = omega arith
sort_count (r ∷ s) = let ih = sort_count s in omega (arith, insert_count r (sort rule_order s))

form-counts : (s : List Rule) → (length (map form_rule s) ≤ length s) × (body_count (map form_rule s) ≤ body_count s)
unfolding body_count
form-counts [] = (omega arith, omega arith)
form-counts (r ∷ s) =
    let ih = form-counts s in
    (omega (arith, ih.0), omega (arith, ih.1, sort-length literal_order r.body))

pub fewer-rules : (s : List Rule) → length (sort rule_order (map form_rule s)) ≤ length s
fewer-rules s = omega (arith, sort-length rule_order (map form_rule s), (form-counts s).0)

pub fewer-literals : (s : List Rule) → body_count (sort rule_order (map form_rule s)) ≤ body_count s
fewer-literals s = omega (arith, sort_count (map form_rule s), (form-counts s).1)

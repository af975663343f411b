-- The enumeration: its members, its numbers, and the choices and signs of a set by its number. Assumes nothing.
--   bodies-numbered, choices-numbered, sets-numbered   bodies, choices and sets have the numbers 0, 1, 2, .. in their order
--   is_set, in-sets        the members of all_sets n are the rule sets of size n
--   body_size, set_in, set_size   a body and a set by number: in the enumeration, and of size n
--   set_choice, body_sign  the number of a choice in set k, of a sign in body x, by division; choice-in   it is a choice
--   choice_none, choice-rule, choice-number   choices by their numbers
--   sets_count             how many sets there are
--   enumerated             specs/Laws: Enumerated
use Prim.Native.Nat.{ℕ, zero, suc, ◌+◌, ◌-◌, ◌*◌, ◌^◌, ◌/◌, ◌%◌, ◌<◌, ◌≤◌}
use mathlib.Core.Path.{◌≡◌, refl, sym, ◌∙◌, ap, ap₂, subst, subst⁻¹}
use mathlib.Core.List.Memᴰ
use mathlib.Core.List.{List, [], ◌∷◌, map, map-map}
use mathlib.Core.Logic.{⊎_elim}
use native.Mathlib.Omega.{arith}
use lib.ListN.{length, get_or, length-map, get_or-map}
use Rattle.base.specs.Span.{span}
use Rattle.base.specs.Lists.{upto}
use Rattle.base.proofs.Span.{length-span, get_d-span, map-span, span_ext}
use Rattle.job.specs.Encoding.{◌∈◌}
use Rattle.turn.proofs.AtPlaces.{member, at_place}
use Rattle.rulesets.specs.Sets.{Sign, absent, plain, negated, signs, sign_number, Choice, no_rule, rule, lists_of, all_bodies, all_choices, all_sets, body_no, choice_no, set_no, body_number, choice_number, choice_count, set_number, set_count, IsChoice, none, body, IsSet}
use Rattle.rulesets.specs.Laws.{Enumerated}
use Rattle.rulesets.proofs.Numbering.{lists-numbered, lists_length, lists-each, in-lists, digit_at}

-- a list whose elements have the numbers 0, 1, 2, ..
module _ {B : Type 0} (num : B → ℕ) (ls : List B) (m : ℕ) (numbered : map num ls ≡ upto m) where
  count_of : length ls ≡ m
  count_of = sym (length-map ls num) ∙ ap length numbered ∙ length-span (λ k. k) 0 m

  number_at : (k : ℕ) (d : B) → k < m → num (get_or ls k d) ≡ k
  number_at k d h =
      let z : 0 + k ≡ k = omega arith in
      sym (get_or-map num ls k d) ∙ ap (λ (l : List ℕ). get_or l k (num d)) numbered ∙ get_d-span (λ k. k) 0 m k (num d) h ∙ z

  at-number : (d x : B) → x ∈ ls → (num x < m) × (get_or ls (num x) d ≡ x)
  at-number d x i =
      let p = at_place ls d x i in
      let l : p.0 < m = omega (arith, p.1, count_of) in
      let e : num x ≡ p.0 = ap num (sym p.2) ∙ number_at p.0 d l in
      (omega (arith, l, e), ap (λ (k : ℕ). get_or ls k d) e ∙ p.2)

map_at : {A B : Type 0} (f : A → B) (l : List A) (i : ℕ) (d : B) (z : A) → i < length l → get_or (map f l) i d ≡ f (get_or l i z)
map_at f [] i d z h = absurd (omega arith)
map_at f (x ∷ l) zero d z h = refl
map_at f (x ∷ l) (suc i) d z h = map_at f l i d z (omega arith)

module _ (n : ℕ) where
  pub bodies-numbered : map body_number (all_bodies n) ≡ upto (3 ^ n)
  unfolding span
  bodies-numbered = let z : 0 * 3 ^ n ≡ 0 = omega arith in lists-numbered sign_number 3 signs refl n 0 ∙ ap (λ (a : ℕ). span (λ k. k) a (3 ^ n)) z

  pub choices-numbered : map choice_number (all_choices n) ≡ upto (choice_count n)
  unfolding all_choices span
  choices-numbered =
      let e : suc (3 ^ n) ≡ choice_count n = omega arith in
      ap (λ (l : List ℕ). 0 ∷ l)
      (map-map choice_number rule (all_bodies n)
      ∙ sym (map-map (λ (k : ℕ). 1 + k) body_number (all_bodies n))
      ∙ ap (map (λ (k : ℕ). 1 + k)) bodies-numbered
      ∙ map-span (λ (k : ℕ). 1 + k) (λ k. k) 0 (3 ^ n)
      ∙ span_ext (λ k. 1 + k) (λ k. k) 0 1 (3 ^ n) (λ i h. omega arith))
      ∙ ap (λ (m : ℕ). span (λ k. k) 0 m) e

  pub sets-numbered : map (set_number n) (all_sets n) ≡ upto (set_count n)
  unfolding all_sets
  sets-numbered =
      let z : 0 * choice_count n ^ n ≡ 0 = omega arith in
      lists-numbered choice_number (choice_count n) (all_choices n) choices-numbered n 0 ∙ ap (λ (a : ℕ). span (λ k. k) a (set_count n)) z

  some-base : 0 < choice_count n
  some-base = omega arith

  -- the members
  is_choice : (x : Choice) → x ∈ all_choices n → IsChoice n x
  unfolding all_choices
  is_choice x i =
      ⊎_elim (λ e. subst⁻¹ (IsChoice n) e none)
      (λ m. let p = Memᴰ.of_map rule (all_bodies n) m in subst (IsChoice n) p.2 (body p.0 (lists_length signs n p.0 p.1))) (Memᴰ.cases_cons i)

  in-signs : (p : Sign) → p ∈ signs
  in-signs absent = Memᴰ.head refl
  in-signs plain = Memᴰ.tail (Memᴰ.head refl)
  in-signs negated = Memᴰ.tail (Memᴰ.tail (Memᴰ.head refl))

  pub in-bodies : (ps : List Sign) → length ps ≡ n → ps ∈ all_bodies n
  in-bodies ps e = subst (λ (m : ℕ). ps ∈ lists_of signs m) e (in-lists signs ps (λ p i. in-signs p))

  in-choices : (x : Choice) → IsChoice n x → x ∈ all_choices n
  unfolding all_choices
  in-choices no_rule none = Memᴰ.head refl
  in-choices (rule ps) (body qs e) = Memᴰ.tail (Memᴰ.map rule (in-bodies qs e))

  pub is_set : (r : List Choice) → r ∈ all_sets n → IsSet n r
  unfolding all_sets
  is_set r i = record { size = lists_length (all_choices n) n r i; each = λ x m. is_choice x (lists-each (all_choices n) n r i x m) }

  pub in-sets : (r : List Choice) → IsSet n r → r ∈ all_sets n
  unfolding all_sets
  in-sets r s = subst (λ (m : ℕ). r ∈ lists_of (all_choices n) m) s.size (in-lists (all_choices n) r (λ x m. in-choices x (s.each x m)))

  -- counts and places
  pub bodies_count : length (all_bodies n) ≡ 3 ^ n
  bodies_count = count_of body_number (all_bodies n) (3 ^ n) bodies-numbered

  choices_count : length (all_choices n) ≡ choice_count n
  choices_count = count_of choice_number (all_choices n) (choice_count n) choices-numbered

  pub sets_count : length (all_sets n) ≡ set_count n
  sets_count = count_of (set_number n) (all_sets n) (set_count n) sets-numbered

  pub body_in : (x : ℕ) → x < 3 ^ n → body_no n x ∈ all_bodies n
  body_in x h = member (all_bodies n) [] x (omega (arith, bodies_count))

  pub body_size : (x : ℕ) → x < 3 ^ n → length (body_no n x) ≡ n
  body_size x h = lists_length signs n (body_no n x) (body_in x h)

  pub set_in : (k : ℕ) → k < set_count n → set_no n k ∈ all_sets n
  set_in k h = member (all_sets n) [] k (omega (arith, sets_count))

  pub set_size : (k : ℕ) → k < set_count n → length (set_no n k) ≡ n
  set_size k h = (is_set (set_no n k) (set_in k h)).size

  set-number : (k : ℕ) → k < set_count n → set_number n (set_no n k) ≡ k
  set-number k h = number_at (set_number n) (all_sets n) (set_count n) sets-numbered k [] h

  body-number : (x : ℕ) → x < 3 ^ n → body_number (body_no n x) ≡ x
  body-number x h = number_at body_number (all_bodies n) (3 ^ n) bodies-numbered x [] h

  -- choices by their numbers
  pub choice-number : (x : Choice) → IsChoice n x → (choice_number x < choice_count n) × (choice_no n (choice_number x) ≡ x)
  choice-number x i = at-number choice_number (all_choices n) (choice_count n) choices-numbered no_rule x (in-choices x i)

  pub choice_none : choice_no n 0 ≡ no_rule
  unfolding all_choices
  choice_none = refl

  pub choice-rule : (v : ℕ) → 1 ≤ v → v < choice_count n → choice_no n v ≡ rule (body_no n (v - 1))
  unfolding all_choices
  choice-rule zero l h = absurd (omega arith)
  choice-rule (suc v) l h = let e : v ≡ suc v - 1 = omega arith in map_at rule (all_bodies n) v no_rule [] (omega (arith, bodies_count)) ∙ ap (λ (x : ℕ). rule (body_no n x)) e

  -- the choices of a set and the signs of a body, by division
  module _ (k : ℕ) (low : k < set_count n) (c : ℕ) (h : c < n) where
    pub choice-in : IsChoice n (get_or (set_no n k) c no_rule)
    choice-in = (is_set (set_no n k) (set_in k low)).each _ (member (set_no n k) no_rule c (omega (arith, set_size k low)))

    pub set_choice : k / choice_count n ^ (n - 1 - c) % choice_count n ≡ choice_number (get_or (set_no n k) c no_rule)
    set_choice =
        ap₂ (λ (x y : ℕ). x / choice_count n ^ (y - 1 - c) % choice_count n) (sym (set-number k low)) (sym (set_size k low))
        ∙ digit_at choice_number (choice_count n) some-base 0 (set_no n k) (λ x i. (choice-number x ((is_set (set_no n k) (set_in k low)).each x i)).0) c no_rule (omega (arith, set_size k low))

  sign_low : (p : Sign) → sign_number p < 3
  sign_low absent = omega arith
  sign_low plain = omega arith
  sign_low negated = omega arith

  pub body_sign : (x : ℕ) → x < 3 ^ n → (c : ℕ) → c < n → x / 3 ^ (n - 1 - c) % 3 ≡ sign_number (get_or (body_no n x) c absent)
  body_sign x low c h =
      ap₂ (λ (y z : ℕ). y / 3 ^ (z - 1 - c) % 3) (sym (body-number x low)) (sym (body_size x low))
      ∙ digit_at sign_number 3 (omega arith) 0 (body_no n x) (λ p i. sign_low p) c absent (omega (arith, body_size x low))

  set-place : (r : List Choice) → IsSet n r → (set_number n r < set_count n) × (set_no n (set_number n r) ≡ r)
  set-place r s = at-number (set_number n) (all_sets n) (set_count n) sets-numbered [] r (in-sets r s)

  pub enumerated : Enumerated n
  enumerated =
      record {
        count = sets_count;
        members = λ r. (is_set r, in-sets r);
        numbers = set-number;
        places = set-place;
        once = λ i k l h e. sym (set-number i l) ∙ ap (set_number n) e ∙ set-number k h;
        bodies = body-number;
      }

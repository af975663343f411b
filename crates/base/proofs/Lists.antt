-- Laws of the lists of specs/Lists: what stands in them, and when two such lists are one. Assumes nothing.
--   In d xs        d stands in xs
--   in-upto, upto_in, in-keep, keep_in, every_in, in-every   what stands in a list, from the list and back
--   keep_same      two tests that agree on a list keep the same of it
--   keep_keep      keeping by one test, then by another
--   keep-members   what is kept of a list is what of it stands among the kept
use mathlib.Core.Path.{◌≡◌, refl, ◌∙◌, ap}
use mathlib.Core.Logic.{⊎_elim}
use mathlib.Core.Bool.{Bool, true, false, ◌&&◌}
use mathlib.Core.List.{List, [], ◌∷◌}
use Prim.Native.Nat.{ℕ, zero, suc, ◌+◌, ◌≤◌, ◌<◌}
use native.Mathlib.Omega.{arith}
use native.Mathlib.Nat.{eq-or-lt_of_le}
use lib.Dec.{T, eqb, eqb→eq, eqb_refl}
use Rattle.base.specs.Choose.{pick}
use Rattle.base.specs.Span.{span}
use Rattle.base.specs.Lists.{upto, keep, every, is_in}
use Rattle.base.proofs.Bools.{and_in, and_left, and_right, same}
use Rattle.base.proofs.Choose.{either_left, either-right, either-cases}

abbrev pub In : ℕ → List ℕ → Type 0
In d s = T (is_in d s)

pub in_head : (d : ℕ) (s : List ℕ) → In d (d ∷ s)
unfolding is_in
in_head d s = either_left (eqb d d) (is_in d s) (eqb_refl d)

pub in_tail : (d x : ℕ) (s : List ℕ) → In d s → In d (x ∷ s)
unfolding is_in
in_tail d x s t = either-right (eqb d x) (is_in d s) t

pub data InCons (d x : ℕ) (s : List ℕ) : Type 0 where
  first : d ≡ x → InCons d x s
  later : In d s → InCons d x s

pub in-cases : (d x : ℕ) (s : List ℕ) → In d (x ∷ s) → InCons d x s
unfolding is_in
in-cases d x s t = ⊎_elim (λ e. first (eqb→eq d x e)) (λ i. later i) (either-cases (eqb d x) (is_in d s) t)

pub in-nil : (d : ℕ) → In d [] → ⊥
unfolding is_in
in-nil d t = t

in_span : (a n d : ℕ) → a ≤ d → d < a + n → In d (span (λ k. k) a n)
unfolding span
in_span a zero d g l = absurd (omega arith)
in_span a (suc n) d g l =
    ⊎_elim (λ e. rw (← e) (in_head a (span (λ k. k) (suc a) n))) (λ h. in_tail d a (span (λ k. k) (suc a) n) (in_span (suc a) n d h (omega arith)))
    (eq-or-lt_of_le g)

span_in : (a n d : ℕ) → In d (span (λ k. k) a n) → (a ≤ d) × (d < a + n)
unfolding span
span_in a zero d i = absurd (in-nil d i)
span_in a (suc n) d i = go (span_in (suc a) n d) (in-cases d a (span (λ k. k) (suc a) n) i)
  where
    go : (In d (span (λ k. k) (suc a) n) → (suc a ≤ d) × (d < suc a + n)) → InCons d a (span (λ k. k) (suc a) n) → (a ≤ d) × (d < a + suc n)
    go ih (first e) = (omega arith, omega arith)
    go ih (later k) = let z = ih k in (omega (arith, z.0), omega (arith, z.1))

pub in-upto : (d n : ℕ) → d < n → In d (upto n)
in-upto d n l = in_span 0 n d (omega arith) (omega arith)

pub upto_in : (d n : ℕ) → In d (upto n) → d < n
upto_in d n i = omega (arith, (span_in 0 n d i).1)

module _ (p : ℕ → Bool) where
  pub in-keep : (d : ℕ) (s : List ℕ) → In d s → T (p d) → In d (keep p s)
  unfolding keep pick
  in-keep d [] t h = absurd (in-nil d t)
  in-keep d (x ∷ s) t h = go (in-keep d s) (in-cases d x s t) (p x) refl
    where
      go : (In d s → T (p d) → In d (keep p s)) → InCons d x s → (b : Bool) → p x ≡ b → In d (pick b (x ∷ keep p s) (keep p s))
      go ih (first e) true f = rw e (in_head x (keep p s))
      go ih (first e) false f = let g : T (p x) = rw e at h in absurd (rw f at g)
      go ih (later i) true f = in_tail d x (keep p s) (ih i h)
      go ih (later i) false f = ih i h

  pub keep_in : (d : ℕ) (s : List ℕ) → In d (keep p s) → In d s × T (p d)
  unfolding keep pick
  keep_in d [] t = absurd (in-nil d t)
  keep_in d (x ∷ s) t = go (keep_in d s) (p x) refl t
    where
      go : (In d (keep p s) → In d s × T (p d)) → (b : Bool) → p x ≡ b → In d (pick b (x ∷ keep p s) (keep p s)) → In d (x ∷ s) × T (p d)
      go ih true f u = on (in-cases d x (keep p s) u)
        where
          on : InCons d x (keep p s) → In d (x ∷ s) × T (p d)
          on (first e) = (rw e (in_head x s), rw (e, f) tt)
          on (later i) = let z = ih i in (in_tail d x s z.0, z.1)
      go ih false f u = let z = ih u in (in_tail d x s z.0, z.1)

  pub every_in : (s : List ℕ) → T (every p s) → (d : ℕ) → In d s → T (p d)
  unfolding every
  every_in [] h d i = absurd (in-nil d i)
  every_in (x ∷ s) h d i = go (every_in s (and_right (p x) (every p s) h) d) (and_left (p x) (every p s) h) (in-cases d x s i)
    where
      go : (In d s → T (p d)) → T (p x) → InCons d x s → T (p d)
      go ih l (first e) = rw e l
      go ih l (later m) = ih m

  pub in-every : (s : List ℕ) → ((d : ℕ) → In d s → T (p d)) → T (every p s)
  unfolding every
  in-every [] f = tt
  in-every (x ∷ s) f = and_in (p x) (every p s) (f x (in_head x s)) (in-every s (λ d i. f d (in_tail d x s i)))

pub keep_same : (p q : ℕ → Bool) (s : List ℕ) → ((d : ℕ) → In d s → p d ≡ q d) → keep p s ≡ keep q s
unfolding keep
keep_same p q [] f = refl
keep_same p q (x ∷ s) f =
    ap (λ (b : Bool). pick b (x ∷ keep p s) (keep p s)) (f x (in_head x s))
    ∙ ap (λ (r : List ℕ). pick (q x) (x ∷ r) r) (keep_same p q s (λ d i. f d (in_tail d x s i)))

pub keep_keep : (p q : ℕ → Bool) (s : List ℕ) → keep p (keep q s) ≡ keep (λ d. q d && p d) s
unfolding keep pick
keep_keep p q [] = refl
keep_keep p q (x ∷ s) = go (q x) ∙ ap (λ (r : List ℕ). pick (q x && p x) (x ∷ r) r) (keep_keep p q s)
  where
    go : (b : Bool) → keep p (pick b (x ∷ keep q s) (keep q s)) ≡ pick (b && p x) (x ∷ keep p (keep q s)) (keep p (keep q s))
    go true = refl
    go false = refl

pub keep-members : (p : ℕ → Bool) (s : List ℕ) → keep p s ≡ keep (λ d. is_in d (keep p s)) s
keep-members p s =
    keep_same p (λ d. is_in d (keep p s)) s
    (λ d i. same (p d) (is_in d (keep p s)) (λ t. in-keep p d s i t) (λ t. (keep_in p d s t).1))

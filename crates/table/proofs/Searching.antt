-- The search for the newest of some claims, over the claims in falling order. Assumes nothing.
--   from c n              the claims from c on, n of them; keep_more, .. keep_end   one claim more or less at their front
--   Swept t p c m best    the search over m claims is down to claim c: best is the newest of those from c on for which p holds
--   swept_none, _more, _same, _all   nothing searched; one claim more; one that is passed over; all
--   owned-yes, owned-no   a claim's owner, by the mark that was read
--   newer_most            the newer of two claims is at most what both are
use Prim.Native.Nat.{ℕ, zero, suc, ◌+◌, ◌-◌, ◌<◌, ◌≤◌}
use mathlib.Core.Path.{◌≡◌, sym, ◌∙◌, ap, ap₂}
use mathlib.Core.Bool.{Bool, true, false}
use mathlib.Core.List.{List, [], ◌∷◌}
use native.Mathlib.Omega.{arith}
use borrow.Author.Tests.{eq-eqb, ne_eqb}
use lib.Dec.{eqb}
use Rattle.base.specs.Choose.{pick}
use Rattle.base.specs.Span.{span}
use Rattle.base.specs.Lists.{upto, keep}
use Rattle.base.proofs.Span.{span_one, span_none}
use Rattle.table.specs.Layout.{mark, owned}
use Rattle.table.specs.Newest.{is_newer, newer, newest}

-- the claims from c on, of n
abbrev pub from : ℕ → ℕ → List ℕ
from c n = span (λ k. k) c n

keep_cons : (p : ℕ → Bool) (c : ℕ) (cs : List ℕ) (b : Bool) → p c ≡ b → keep p (c ∷ cs) ≡ pick b (c ∷ keep p cs) (keep p cs)
unfolding keep
keep_cons p c cs b e = rw e

-- one claim more at the front
module _ (p : ℕ → Bool) (c m : ℕ) (some : 0 < c) (most : c ≤ m) where
  front : from (c - 1) (m - (c - 1)) ≡ (c - 1) ∷ from c (m - c)
  front =
      let e : c - 1 + 1 ≡ c = omega arith in
      let f : m - (c - 1) - 1 ≡ m - c = omega arith in
      span_one (λ k. k) (c - 1) (m - (c - 1)) (omega arith) ∙ ap₂ (λ (x y : ℕ). (c - 1) ∷ from x y) e f

  pub keep_more : p (c - 1) ≡ true → keep p (from (c - 1) (m - (c - 1))) ≡ (c - 1) ∷ keep p (from c (m - c))
  unfolding pick
  keep_more e = ap (keep p) front ∙ keep_cons p (c - 1) _ true e

  pub keep_same : p (c - 1) ≡ false → keep p (from (c - 1) (m - (c - 1))) ≡ keep p (from c (m - c))
  unfolding pick
  keep_same e = ap (keep p) front ∙ keep_cons p (c - 1) _ false e

-- the same in rising order: claim c is next, of m
module _ (p : ℕ → Bool) (c m : ℕ) (some : c < m) where
  first : from c (m - c) ≡ c ∷ from (c + 1) (m - (c + 1))
  first =
      let f : m - c - 1 ≡ m - (c + 1) = omega arith in
      span_one (λ k. k) c (m - c) (omega arith) ∙ ap (λ (y : ℕ). c ∷ from (c + 1) y) f

  pub keep-next : p c ≡ true → keep p (from c (m - c)) ≡ c ∷ keep p (from (c + 1) (m - (c + 1)))
  unfolding pick
  keep-next e = ap (keep p) first ∙ keep_cons p c _ true e

  pub keep_skip : p c ≡ false → keep p (from c (m - c)) ≡ keep p (from (c + 1) (m - (c + 1)))
  unfolding pick
  keep_skip e = ap (keep p) first ∙ keep_cons p c _ false e

pub keep_end : (p : ℕ → Bool) (c m : ℕ) → m ≤ c → keep p (from c (m - c)) ≡ []
unfolding keep
keep_end p c m h =
    let e : m - c ≤ 0 = omega arith in
    ap (keep p) (span_none (λ k. k) c (m - c) e)

-- the newest of the claims from c on, when c - 1 comes in
pub newest_more : (t : List ℕ) (p : ℕ → Bool) (c m : ℕ) → 0 < c → c ≤ m → p (c - 1) ≡ true → {best r : ℕ} → best ≡ newest t (keep p (from c (m - c))) → r ≡ newer t (c - 1) best → r ≡ newest t (keep p (from (c - 1) (m - (c - 1))))
unfolding newest
newest_more t p c m some most e {best} {r} was is =
    is ∙ (ap (newer t (c - 1)) was
    ∙ sym (ap (newest t) (keep_more p c m some most e)))

pub newest_same : (t : List ℕ) (p : ℕ → Bool) (c m : ℕ) → 0 < c → c ≤ m → p (c - 1) ≡ false → {best : ℕ} → best ≡ newest t (keep p (from c (m - c))) → best ≡ newest t (keep p (from (c - 1) (m - (c - 1))))
newest_same t p c m some most e {best} was = was ∙ sym (ap (newest t) (keep_same p c m some most e))

pub newest_none : (t : List ℕ) (p : ℕ → Bool) (m : ℕ) → 0 ≡ newest t (keep p (from m (m - m)))
unfolding newest keep
newest_none t p m =
    let e : m - m ≤ 0 = omega arith in
    sym (ap (λ (x : List ℕ). newest t (keep p x)) (span_none (λ k. k) m (m - m) e))

-- it is one of them + 1
pick_most : (b : Bool) (x y m : ℕ) → x ≤ m → y ≤ m → pick b x y ≤ m
unfolding pick
pick_most true x y m h g = h
pick_most false x y m h g = g

pub newer_most : (t : List ℕ) (c b m : ℕ) → suc c ≤ m → b ≤ m → newer t c b ≤ m
unfolding newer
newer_most t c b m h g = pick_most (eqb b 0) _ _ m h (pick_most (is_newer t c (b - 1)) _ _ m h g)

newest_cons : (t : List ℕ) (c : ℕ) (cs : List ℕ) (m : ℕ) → suc c ≤ m → newest t cs ≤ m → newest t (c ∷ cs) ≤ m
unfolding newest
newest_cons t c cs m h g = newer_most t c (newest t cs) m h g

newest-pick : (t : List ℕ) (b : Bool) (c : ℕ) (cs : List ℕ) (m : ℕ) → suc c ≤ m → newest t cs ≤ m → newest t (pick b (c ∷ cs) cs) ≤ m
unfolding pick
newest-pick t true c cs m h g = newest_cons t c cs m h g
newest-pick t false c cs m h g = g

pub newest_most : (t : List ℕ) (p : ℕ → Bool) (c n : ℕ) → newest t (keep p (from c n)) ≤ c + n
unfolding newest keep span
newest_most t p c zero = omega arith
newest_most t p c (suc n) =
    let ih : newest t (keep p (from (suc c) n)) ≤ c + suc n = omega (arith, newest_most t p (suc c) n) in
    newest-pick t (p c) c (keep p (from (suc c) n)) (c + suc n) (omega arith) ih

-- a sweep down to claim c, of m: best is the newest of those from c on for which p holds
pub record Swept (t : List ℕ) (p : ℕ → Bool) (c m best : ℕ) : Type 0 where
  pub within : c ≤ m
  pub is : best ≡ newest t (keep p (from c (m - c)))
  pub most : best ≤ m

made : (t : List ℕ) (p : ℕ → Bool) (c m : ℕ) {best : ℕ} → c ≤ m → best ≡ newest t (keep p (from c (m - c))) → Swept t p c m best
made t p c m {best} h e = record { within = h; is = e; most = omega (arith, newest_most t p c (m - c)) }

pub swept_none : (t : List ℕ) (p : ℕ → Bool) (m : ℕ) → Swept t p m m 0
swept_none t p m = made t p m m (omega arith) (newest_none t p m)

pub swept_more : {t : List ℕ} {p : ℕ → Bool} {c m best : ℕ} → Swept t p c m best → 0 < c → p (c - 1) ≡ true → {r : ℕ} → r ≡ newer t (c - 1) best → Swept t p (c - 1) m r
swept_more {t} {p} {c} {m} s some e {r} is = made t p (c - 1) m (omega arith) (newest_more t p c m some s.within e s.is is)

pub swept_same : {t : List ℕ} {p : ℕ → Bool} {c m best : ℕ} → Swept t p c m best → 0 < c → p (c - 1) ≡ false → Swept t p (c - 1) m best
swept_same {t} {p} {c} {m} s some e = made t p (c - 1) m (omega arith) (newest_same t p c m some s.within e s.is)

pub swept_all : {t : List ℕ} {p : ℕ → Bool} {c m best : ℕ} → Swept t p c m best → c ≤ 0 → best ≡ newest t (keep p (upto m))
swept_all {t} {p} {c} {m} s h =
    let e : c ≡ 0 = omega arith in
    let f : m - c ≡ m = omega arith in
    s.is ∙ ap₂ (λ (x y : ℕ). newest t (keep p (from x y))) e f

-- a claim's owner, by the mark that was read
pub owned-yes : (t : List ℕ) (w c : ℕ) {m : ℕ} → m ≡ mark t c → m ≡ w + 1 → owned t w c ≡ true
owned-yes t w c e h = eq-eqb _ _ (sym e ∙ h)

pub owned-no : (t : List ℕ) (w c : ℕ) {m : ℕ} → m ≡ mark t c → (m ≡ w + 1 → ⊥) → owned t w c ≡ false
owned-no t w c e n = ne_eqb _ _ (λ h. n (e ∙ h))

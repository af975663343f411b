-- What `newest` finds is the newest (`NewestOf`, specs/Newest). Assumes nothing.
--   newest_one           there is one such number only
--   newest_like          the same claims with the same numbers, in another table
--   newer_of             one claim more
--   newest_of            of a list
--   sought_of, sought_is   what a search finds is the newest that w owns, and nothing else is
use mathlib.Core.Path.{◌≡◌, refl, sym, ◌∙◌, ap, subst}
use mathlib.Core.Bool.{true, false, true≢false}
use mathlib.Core.List.{List, [], ◌∷◌}
use mathlib.Core.Logic.{◌⊎◌, inl, inr, ⊎_elim, by_cases}
use Prim.Native.Nat.{ℕ, suc, ◌+◌, ◌-◌, ◌<◌}
use native.Mathlib.Omega.{arith}
use native.Mathlib.Decide.{dec_lt, ℕ_discrete}
use borrow.Author.Tests.{eq-eqb, ne_eqb, lt-ltb, le-ltb, eqb-true, ltb-true, ltb-false}
use lib.Dec.{T, ltb, eqb, eqb→eq, eqb_refl}
use Rattle.base.specs.Lists.{upto, keep}
use Rattle.base.proofs.Choose.{pick_true, pick_both}
use Rattle.base.proofs.Lists.{In, in_head, in_tail, InCons, first, later, in-cases, in-nil, in-upto, upto_in, in-keep, keep_in}
use Rattle.table.specs.Layout.{number, mark, owned}
use Rattle.table.specs.Newest.{is_newer, newer, newest, sought, Older, NewestOf, none, some, Owns}

older_self : (t : List ℕ) (c : ℕ) → Older t c c
older_self t c = record { most = omega arith; tie = λ l. omega arith }

older_trans : {t : List ℕ} {d c b : ℕ} → Older t d c → Older t c b → Older t d b
older_trans o p = record { most = omega (arith, o.most, p.most); tie = λ l. omega (arith, o.tie (omega (arith, p.most)), p.tie (omega (arith, o.most))) }

-- of two claims one is the newer: by their numbers, and by the claims where these are the same
module _ (t : List ℕ) (c d : ℕ) where
  higher : number t d < number t c → is_newer t c d ≡ true
  unfolding is_newer
  higher l = rw (lt-ltb (number t d) (number t c) l)

  lower : number t c < number t d → is_newer t c d ≡ false
  unfolding is_newer
  lower l = rw (le-ltb (number t d) (number t c) (omega arith), ne_eqb (number t d) (number t c) (λ e. omega arith))

  tied : number t d ≡ number t c → is_newer t c d ≡ ltb d c
  unfolding is_newer
  tied e = rw (le-ltb (number t d) (number t c) (omega arith), eq-eqb (number t d) (number t c) e)

  newer-yes : is_newer t c d ≡ true → Older t d c
  newer-yes e =
      by_cases (dec_lt (number t d) (number t c)) (λ l. record { most = omega arith; tie = λ z. omega arith })
      (λ l.
      by_cases (ℕ_discrete (number t d) (number t c))
      (λ q. record { most = omega arith; tie = λ z. omega (arith, ltb-true d c (sym (tied q) ∙ e)) })
      (λ n. absurd (true≢false (sym e ∙ lower (omega arith)))))

  newer-no : is_newer t c d ≡ false → Older t c d
  newer-no e =
      by_cases (dec_lt (number t c) (number t d)) (λ l. record { most = omega arith; tie = λ z. omega arith })
      (λ l.
      by_cases (ℕ_discrete (number t d) (number t c))
      (λ q. record { most = omega arith; tie = λ z. omega (arith, ltb-false d c (sym (tied q) ∙ e)) })
      (λ n. absurd (true≢false (sym (higher (omega arith)) ∙ e))))

pub newest_one : {t : List ℕ} {P : ℕ → Type 0} {r s : ℕ} → NewestOf t P r → NewestOf t P s → r ≡ s
newest_one (none e f) (none g h) = e ∙ sym g
newest_one (none e f) (some c g p h) = absurd (f c p)
newest_one (some c e p f) (none g h) = absurd (h c p)
newest_one (some c e p f) (some d g q h) =
    let a = f d q in
    let b = h c p in
    let u = a.tie b.most in
    let v = b.tie a.most in
    omega arith

pub newest_like : {t u : List ℕ} {P Q : ℕ → Type 0} {r : ℕ} → ((d : ℕ) → P d → Q d) → ((d : ℕ) → Q d → P d) → ((d : ℕ) → P d → number u d ≡ number t d) → NewestOf t P r → NewestOf u Q r
newest_like to from same (none e f) = none e (λ d q. f d (from d q))
newest_like {t} {u} to from same (some c e p f) =
    some c e (to c p)
    (λ d q.
    let o = f d (from d q) in
    let x = same d (from d q) in
    let y = same c p in
    record { most = omega (arith, o.most); tie = λ l. o.tie (omega arith) })

module _ {t : List ℕ} {P Q : ℕ → Type 0} (x : ℕ) (cases : (d : ℕ) → Q d → P d ⊎ (d ≡ x)) (all : (d : ℕ) → P d → Q d) (its : Q x) where
  -- x is the newest, where it is newer than every P
  tops : {r : ℕ} → r ≡ suc x → ((d : ℕ) → P d → Older t d x) → NewestOf t Q r
  tops e f = some x e its (λ d q. ⊎_elim (f d) (λ z. rw z (older_self t x)) (cases d q))

  pub newer_of : {b : ℕ} → NewestOf t P b → NewestOf t Q (newer t x b)
  unfolding newer
  newer_of {b} (none e f) = tops (pick_true _ _ _ (eq-eqb b 0 e)) (λ d p. absurd (f d p))
  newer_of {b} (some c e p f) =
      let q : b - 1 ≡ c = omega arith in
      pick_both (NewestOf t Q) (eqb b 0) _ _ (λ z. absurd (omega (arith, eqb-true b 0 z)))
      (λ z.
      pick_both (NewestOf t Q) (is_newer t x (b - 1)) _ _
      (λ n. tops refl (λ d a. older_trans (f d a) (newer-yes t x c (sym (ap (is_newer t x) q) ∙ n))))
      (λ n. some c e (all c p) (λ d a. ⊎_elim (f d) (λ y. rw y (newer-no t x c (sym (ap (is_newer t x) q) ∙ n))) (cases d a))))

split : (d x : ℕ) (cs : List ℕ) → InCons d x cs → In d cs ⊎ (d ≡ x)
split d x cs (first e) = inr e
split d x cs (later i) = inl i

pub newest_of : (t cs : List ℕ) → NewestOf t (λ d. In d cs) (newest t cs)
unfolding newest
newest_of t [] = none refl in-nil
newest_of t (x ∷ cs) =
    newer_of x (λ d i. split d x cs (in-cases d x cs i)) (λ d i. in_tail d x cs i) (in_head x cs) (newest_of t cs)

module _ (a : ℕ) (t : List ℕ) (w : ℕ) where
  pub sought_of : NewestOf t (Owns a t w) (sought a t w)
  sought_of =
      newest_like
      (λ d i. let k = keep_in (owned t w) d (upto a) i in (upto_in d a k.0, eqb→eq (mark t d) (w + 1) k.1))
      (λ d o. in-keep (owned t w) d (upto a) (in-upto d a o.0) (subst (λ (k : ℕ). T (eqb (mark t d) k)) o.1 (eqb_refl (mark t d))))
      (λ d i. refl) (newest_of t (keep (owned t w) (upto a)))

  pub sought_is : {r : ℕ} → NewestOf t (Owns a t w) r → r ≡ sought a t w
  sought_is n = newest_one n sought_of

-- `reached` holds what is reached and nothing else, in rising order: it grows until it is closed, and there are only so many claims. Assumes nothing.
use mathlib.Core.Path.{◌≡◌}
use mathlib.Core.Logic.{◌⊎◌, inl, inr, ⊎_elim, by_cases}
use mathlib.Core.Bool.{true}
use mathlib.Core.List.{List, [], ◌∷◌}
use Prim.Native.Nat.{ℕ, zero, suc, ◌+◌, ◌≤◌, ◌<◌}
use native.Mathlib.Omega.{arith}
use native.Mathlib.Decide.{dec_lt}
use lib.Dec.{T}
use Rattle.base.specs.Choose.{pick}
use Rattle.base.specs.Lists.{upto, keep, is_in}
use Rattle.base.specs.Graph.{Reach, here, step}
use Rattle.base.specs.Sets.{nothing, count}
use Rattle.base.proofs.Choose.{either_left, either-right, either-cases}
use Rattle.base.proofs.Lists.{In, in_head, in_tail, InCons, first, later, in-cases, in-nil, in-upto, upto_in, in-keep, keep_in, keep-members}
use Rattle.base.proofs.Sets.{count_le, count_less, count-full}
use Rattle.job.specs.Job.{Job}
use Rattle.turn.specs.Turn.{leads, any_leads, spread, spreads, reached}

-- c leads to d
pub record Leads (j : Job) (t : List ℕ) (c d : ℕ) : Type 0 where
  pub leads_in : In d (leads j t c)

module _ (j : Job) (t : List ℕ) where
  data Any (s : List ℕ) (d : ℕ) : Type 0 where
    any : {c : ℕ} → In c s → Leads j t c d → Any s d

  any_more : (x d : ℕ) (s : List ℕ) → Any s d → Any (x ∷ s) d
  any_more x d s (any {c = c} i l) = any (in_tail c x s i) l

  any_in : (s : List ℕ) (d : ℕ) → T (any_leads j t s d) → Any s d
  unfolding any_leads
  any_in [] d h = absurd h
  any_in (x ∷ s) d h =
      ⊎_elim (λ e. any (in_head x s) (record { leads_in = e })) (λ e. any_more x d s (any_in s d e))
      (either-cases (is_in d (leads j t x)) (any_leads j t s d) h)

  in-any : (s : List ℕ) (c d : ℕ) → In c s → Leads j t c d → T (any_leads j t s d)
  unfolding any_leads
  in-any [] c d i l = absurd (in-nil c i)
  in-any (x ∷ s) c d i l = go (λ k. in-any s c d k l) (in-cases c x s i)
    where
      go : (In c s → T (any_leads j t s d)) → InCons c x s → T (pick (is_in d (leads j t x)) true (any_leads j t s d))
      go ih (first e) = either_left (is_in d (leads j t x)) (any_leads j t s d) (rw e at l.leads_in)
      go ih (later k) = either-right (is_in d (leads j t x)) (any_leads j t s d) (ih k)

  data Spread (s : List ℕ) (d : ℕ) : Type 0 where
    old : In d s → Spread s d
    new : {c : ℕ} → In c s → Leads j t c d → Spread s d

  spread_in : (s : List ℕ) (d : ℕ) → In d (spread j t s) → (d < j.claims) × Spread s d
  unfolding spread
  spread_in s d i =
      let k = keep_in (λ d. pick (is_in d s) true (any_leads j t s d)) d (upto j.claims) i in
      (upto_in d j.claims k.0, ⊎_elim (λ a. old a) (λ b. on (any_in s d b)) (either-cases (is_in d s) (any_leads j t s d) k.1))
    where
      on : Any s d → Spread s d
      on (any i l) = new i l

  in-spread : (s : List ℕ) (d : ℕ) → d < j.claims → Spread s d → In d (spread j t s)
  unfolding spread
  in-spread s d h (old i) =
      in-keep (λ d. pick (is_in d s) true (any_leads j t s d)) d (upto j.claims) (in-upto d j.claims h) (either_left (is_in d s) (any_leads j t s d) i)
  in-spread s d h (new {c = c} i l) =
      in-keep (λ d. pick (is_in d s) true (any_leads j t s d)) d (upto j.claims) (in-upto d j.claims h)
      (either-right (is_in d s) (any_leads j t s d) (in-any s c d i l))

  -- s is closed
  abbrev Closed : List ℕ → Type 0
  Closed s = (c d : ℕ) → In c s → Leads j t c d → In d s

  abbrev Low : List ℕ → Type 0
  Low s = (d : ℕ) → In d s → d < j.claims

  spread-low : (s : List ℕ) → Low (spread j t s)
  spread-low s d i = (spread_in s d i).0

  -- what is found is reached
  record From (s : List ℕ) (d : ℕ) : Type 0 where
    start : ℕ
    its : In start s
    path : Reach (Leads j t) start d

  spreads-from : (n : ℕ) (s : List ℕ) (d : ℕ) → In d (spreads n j t s) → From s d
  unfolding spreads
  spreads-from zero s d i = record { start = d; its = i; path = here }
  spreads-from (suc n) s d i = let f = spreads-from n (spread j t s) d i in go f (spread_in s f.start f.its).1
    where
      go : (f : From (spread j t s) d) → Spread s f.start → From s d
      go f (old k) = record { start = f.start; its = k; path = f.path }
      go f (new {c = c} k l) = record { start = c; its = k; path = step l f.path }

  -- after a spread the claims stand in rising order
  spreads-members : (n : ℕ) (s : List ℕ) → s ≡ keep (λ d. is_in d s) (upto j.claims) → spreads n j t s ≡ keep (λ d. is_in d (spreads n j t s)) (upto j.claims)
  unfolding spreads spread
  spreads-members zero s e = e
  spreads-members (suc n) s e =
      spreads-members n (spread j t s) (keep-members (λ d. pick (is_in d s) true (any_leads j t s d)) (upto j.claims))

  one-members : (n : ℕ) (s : List ℕ) → 0 < n → spreads n j t s ≡ keep (λ d. is_in d (spreads n j t s)) (upto j.claims)
  unfolding spreads spread
  one-members zero s h = absurd (omega arith)
  one-members (suc n) s h =
      spreads-members n (spread j t s) (keep-members (λ d. pick (is_in d s) true (any_leads j t s d)) (upto j.claims))

  pub reached-members : (c : ℕ) → c < j.claims → reached j t c ≡ keep (λ d. is_in d (reached j t c)) (upto j.claims)
  unfolding reached
  reached-members c h = one-members j.claims (c ∷ []) (omega arith)

  kept : (n : ℕ) (s : List ℕ) (d : ℕ) → Low s → In d s → In d (spreads n j t s)
  unfolding spreads
  kept zero s d b i = i
  kept (suc n) s d b i = kept n (spread j t s) d (spread-low s) (in-spread s d (b d i) (old i))

  one-low : (c : ℕ) → c < j.claims → Low (c ∷ [])
  one-low c h d i = go (in-cases d c [] i)
    where
      go : InCons d c [] → d < j.claims
      go (first e) = rw e h
      go (later k) = absurd (in-nil d k)

  pub reached-start : (c : ℕ) → c < j.claims → In c (reached j t c)
  unfolding reached
  reached-start c h = kept j.claims (c ∷ []) c (one-low c h) (in_head c [])

  module _ (low : (c d : ℕ) → Leads j t c d → d < j.claims) where
    closed-spread : (s : List ℕ) → Closed s → Closed (spread j t s)
    closed-spread s f c d i l = in-spread s d (low c d l) (go (spread_in s c i).1)
      where
        go : Spread s c → Spread s d
        go (old k) = new k l
        go (new {c = e} k m) = new (f e c k m) l

    closed-spreads : (n : ℕ) (s : List ℕ) → Closed s → Closed (spreads n j t s)
    unfolding spreads
    closed-spreads zero s f = f
    closed-spreads (suc n) s f = closed-spreads n (spread j t s) (closed-spread s f)

    abbrev size : List ℕ → ℕ
    size s = count (λ d. is_in d s) j.claims

    -- a spread that finds no more has found all
    full : (s : List ℕ) → Low s → size (spread j t s) ≤ size s → Closed s
    full s b h c d i l =
        count-full (λ e. is_in e s) (λ e. is_in e (spread j t s)) (λ e k. in-spread s e (b e k) (old k)) j.claims h d (low c d l)
        (in-spread s d (low c d l) (new i l))

    grow : (n : ℕ) (s : List ℕ) → Low s → Closed (spreads n j t s) ⊎ (size s + n ≤ size (spreads n j t s))
    unfolding spreads
    grow zero s b = inr (omega arith)
    grow (suc n) s b =
        by_cases (dec_lt (size s) (size (spread j t s)))
        (λ h. ⊎_elim inl (λ g. inr (omega arith)) (grow n (spread j t s) (spread-low s)))
        (λ h. inl (closed-spreads n (spread j t s) (closed-spread s (full s b (omega arith)))))

    module _ (c : ℕ) (h : c < j.claims) where
      closed : Closed (spreads j.claims j t (c ∷ []))
      closed =
          ⊎_elim (λ f. f)
          (λ g.
          let one = count_less nothing (λ d. is_in d (c ∷ [])) (λ d t. absurd t) j.claims c h (in_head c []) (λ t. t) in
          absurd (omega (arith, one, count_le (λ d. is_in d (spreads j.claims j t (c ∷ []))) j.claims)))
          (grow j.claims (c ∷ []) (one-low c h))

      pub reached_in : (d : ℕ) → Reach (Leads j t) c d → In d (reached j t c)
      unfolding reached
      reached_in d p = go p (reached-start c h)
        where
          go : {x : ℕ} → Reach (Leads j t) x d → In x (spreads j.claims j t (c ∷ [])) → In d (spreads j.claims j t (c ∷ []))
          go here i = i
          go (step {x = x} {y = y} l p) i = go p (closed x y i l)

      pub in-reached : (d : ℕ) → In d (reached j t c) → Reach (Leads j t) c d
      unfolding reached
      in-reached d i = let f = spreads-from j.claims (c ∷ []) d i in go (in-cases f.start c [] f.its) f.path
        where
          go : {x : ℕ} → InCons x c [] → Reach (Leads j t) x d → Reach (Leads j t) c d
          go (first e) p = rw e at p
          go {x} (later k) p = absurd (in-nil x k)

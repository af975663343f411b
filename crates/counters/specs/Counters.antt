-- D(S) by counters (02, order 13): a rule counts the positions of its body whose literal does not hold; its counter falls by one for each position whose
-- literal comes to hold, and its head joins at 0 (`Paid`). No rule is looked at but for a position whose key is taken, and each key is taken once.
--   lacking s S W p      position p's literal does not hold against S in W
--   Aim                  what a D is for: S, what each rule counts for ever, and a set in which the claims that join are
--   Closed s S base X    X has the head of each rule that counts nothing for ever and whose literals hold against S in X
--   Ready s cnt w n      of the rules below n, each that counts nothing has its head in w
--   Growing s a own cnt w q i x t   the counters of a D that grows in w: each position whose literal does not hold, or is pending, is due
--   Paid s cnt w q r t ..   counters, w and the queue after a position of rule r was done: the rule counts one less, and at 0 its head joins
--   Carried X Y          one aim has Y, and each that had X has Y
--   Raised               w grew from w₀, by the counters: from place i₀ of the queue on to place i, where the positions from x on are done
--   Idle s cnt c         claim c has a rule that counts nothing
--   Begun                what a D has before any key is taken
use Rattle.std.specs.Prelude.{ℕ, ◌+◌, ◌*◌, ◌-◌, ◌<◌, ◌≡◌, Bool, not, ◌||◌, List, T, get_or, set}
use Rattle.base.specs.Sets.{Claims, ◌⊆◌, set_of}
use Rattle.job.specs.Format.{claims, rules, literals, head_at, literal_at}
use Rattle.semantics.specs.Model.{holds}
use Rattle.counters.specs.Positions.{Within, Counts}
use Rattle.counters.specs.Queues.{seen, pending, Joined, Joins, Fits, Grown}

unfoldable pub lacking : List ℕ → Claims → Claims → ℕ → Bool
lacking s S W p = not (holds S W (literal_at s (rules s) p))

pub record Aim : Type 0 where
  pub against : Claims
  pub base : ℕ → ℕ
  pub most : Claims

pub record Closed (s : List ℕ) (S : Claims) (base : ℕ → ℕ) (X : Claims) : Type 0 where
  pub closed :
      (r : ℕ) → r < rules s → base r ≡ 0 → ((p : ℕ) → Within s p r → T (holds S X (literal_at s (rules s) p))) → T (X (head_at s r))

pub record Ready (s cnt w : List ℕ) (n : ℕ) : Type 0 where
  pub ready : (r : ℕ) → r < n → get_or cnt r 0 ≡ 0 → T (set_of w (head_at s r))

pub record Growing (s : List ℕ) (a : Aim) (own cnt w q : List ℕ) (i x t : ℕ) : Type 0 where
  pub counts : Counts s own cnt a.base (λ p. lacking s a.against (set_of w) p || pending s q t i x p)
  pub fits : Fits (claims s) w q t
  pub negated : (c : ℕ) → T (seen q t (2 * c + 1)) → T (a.against c) → ⊥
  pub inside : set_of w ⊆ a.most
  pub closed : Closed s a.against a.base a.most

-- (02, order 13) "within one D a rule is looked at again only when a claim in its body joins the set"
pub record Paid (s cnt w q : List ℕ) (r t : ℕ) (cnt' w' q' : List ℕ) (t' : ℕ) : Type 0 where
  pub lowered : cnt' ≡ set cnt r (get_or cnt r 0 - 1)
  pub waits : (get_or cnt r 0 ≡ 1 → ⊥) → (w' ≡ w) × (q' ≡ q) × (t' ≡ t)
  pub joins : get_or cnt r 0 ≡ 1 → Joined (head_at s r) w q t w' q' t'

pub record Carried (X Y : Aim → Type 0) : Type 0 where
  pub some : (a : Aim) × Y a
  pub each : (a : Aim) → X a → Y a

pub record Raised (s own cnt₀ w₀ q₀ : List ℕ) (i₀ t₀ : ℕ) (cnt w q : List ℕ) (i x t : ℕ) : Type 0 where
  pub carried : Carried (λ a. Growing s a own cnt₀ w₀ q₀ i₀ (literals s) t₀) (λ a. Growing s a own cnt w q i x t)
  pub ready : Ready s cnt w (rules s)
  pub grown : Grown w₀ q₀ t₀ w q t

pub record Idle (s cnt : List ℕ) (c : ℕ) : Type 0 where
  pub by : ℕ
  pub below : by < rules s
  pub none : get_or cnt by 0 ≡ 0
  pub head : head_at s by ≡ c

pub record Begun (s cnt w q w' q' : List ℕ) (t : ℕ) : Type 0 where
  pub joins : Joins (Idle s cnt) w q 0 w' q' t
  pub ready : Ready s cnt w' (rules s)

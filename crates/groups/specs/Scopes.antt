-- The search for foreign claims: each claim that was looked at has a scope, which narrows at most once.
--   scope xs d            0 where nothing is known of claim d; else g + 1: all that d leads to is public or of group g. So 1 is public only
--   settled g x           a claim of scope x is known to lead to nothing foreign for group g
--   narrow g x            the scope that a claim of scope x gets when it is met for group g: nothing was known, group g's; another group's, public only
--   narrowed g x          the same, where it is not settled
--   Work                  scopes: one a claim; the first `top` of the queue are the claims that were met
--   visit g b k           claim b is met
--   Fits g k              there is a place for each claim that is not settled
--   Right j gs xs h d     claim d is open to group h, and what it leads to is settled for h
--   Known j gs xs         all scopes are right
--   Looked, Searching     in the search from claim c for group g the claims at places below i of the queue were looked at
--   Expanded              the claims f a .. f (e - 1) were met
use Rattle.std.specs.Prelude.{ℕ, ◌+◌, ◌<◌, ◌≤◌, ◌≡◌, Bool, ◌||◌, List, T, eqb, length, get_or, set}
use Rattle.base.specs.Choose.{pick}
use Rattle.base.specs.Sets.{count}
use Rattle.job.specs.Job.{Job, most_claims}
use Rattle.semantics.specs.Missing.{as_written}
use Rattle.semantics.specs.Leads.{Leads, LeadsTo}
use Rattle.groups.specs.Groups.{Open}

abbrev pub scope : List ℕ → ℕ → ℕ
scope xs d = get_or xs d 0

unfoldable pub settled : ℕ → ℕ → Bool
settled g x = eqb x (g + 1) || eqb x 1

unfoldable pub narrow : ℕ → ℕ → ℕ
narrow g x = pick (eqb x 0) (g + 1) 1

unfoldable pub narrowed : ℕ → ℕ → ℕ
narrowed g x = pick (settled g x) x (narrow g x)

pub record Work : Type 0 where
  pub scopes : List ℕ
  pub queue : List ℕ
  pub top : ℕ

abbrev pub pushed : ℕ → ℕ → Work → Work
pushed g b k =
    record {
      scopes = set k.scopes b (narrow g (scope k.scopes b));
      queue = set k.queue k.top b;
      top = k.top + 1;
    }

unfoldable pub visit : ℕ → ℕ → Work → Work
visit g b k = pick (settled g (scope k.scopes b)) k (pushed g b k)

pub record Fits (g : ℕ) (k : Work) : Type 0 where
  pub scopes_long : length k.scopes ≡ most_claims
  pub queue_long : length k.queue ≡ most_claims
  pub most : k.top ≤ count (λ d. settled g (scope k.scopes d)) most_claims

pub record Right (j : Job) (gs xs : List ℕ) (h d : ℕ) : Type 0 where
  pub within : Open gs h d
  pub onward : (e : ℕ) → Leads (as_written j) d e → T (settled h (scope xs e))

abbrev pub Known : Job → List ℕ → List ℕ → Type 0
Known j gs xs = (h d : ℕ) → T (settled h (scope xs d)) → Right j gs xs h d

-- a claim that is settled for group h was looked at, or is still to be: then it will be right if it is open to g, once those that it leads to are met
pub data Looked (j : Job) (gs : List ℕ) (g i : ℕ) (k : Work) (h d : ℕ) : Type 0 where
  right : Right j gs k.scopes h d → Looked j gs g i k h d
  waits :
      (n : ℕ) → i ≤ n → n < k.top → get_or k.queue n 0 ≡ d → (Open gs g d → Open gs h d)
      → ((e : ℕ) → Leads (as_written j) d e → T (settled h (narrowed g (scope k.scopes e)))) → Looked j gs g i k h d

pub record Searching (j : Job) (gs : List ℕ) (g c i : ℕ) (k : Work) : Type 0 where
  pub within : i ≤ k.top
  pub reached : (n : ℕ) → n < k.top → LeadsTo j c (get_or k.queue n 0)
  pub met : (n : ℕ) → n < k.top → T (settled g (scope k.scopes (get_or k.queue n 0)))
  pub looked : (h d : ℕ) → T (settled h (scope k.scopes d)) → Looked j gs g i k h d

pub record Expanded (j : Job) (g : ℕ) (f : ℕ → ℕ) (a e : ℕ) (k k' : Work) : Type 0 where
  pub fits : Fits g k'
  pub queued : (n : ℕ) → n < k.top → (n < k'.top) × (get_or k'.queue n 0 ≡ get_or k.queue n 0)
  pub keeps : (d : ℕ) → T (settled g (scope k.scopes d)) → T (settled g (scope k'.scopes d))
  pub met : (y : ℕ) → a ≤ y → y < e → T (settled g (scope k'.scopes (f y)))
  pub carries :
      (gs : List ℕ) (c i : ℕ) → ((y : ℕ) → a ≤ y → y < e → LeadsTo j c (f y))
      → Searching j gs g c i k → Searching j gs g c i k'

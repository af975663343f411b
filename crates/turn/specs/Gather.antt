-- The gathering of what a claim reaches, by a queue, on lists. The queue stays: it lists the members of the set that was gathered.
--   Work            place: a number a claim, 0 where it was not met, else where it stands in the queue + 1; the first `top` members are the claims that were met
--   Gathered n w    the set is one of n claims: each member stands once, where its place says, and there is room for every claim that was not met
--   visit t b k     claim b is met: it joins the set unless it is complete or was met before
--   visits t bs k   the claims bs are met, in order
--   onward index t l c   the cursor c past its current literal l, or past l's rule where l is complete and false
--   met_from s m index t n c   the claims that a walk of at most n steps under cursor c meets, in a job s with m rules
--   met s m index t c   the claims of the literals that cursor c has left, and that stand behind no false one
--   Room s m index t n c k   what meeting the claims of the literals under cursor c needs, of a job s with m rules and n claims and a table t
--   Leading j t place b   what is led to from the set is in it, or is b
--   Spread j t b k k'   what b reaches has joined the set
use Rattle.std.specs.Prelude.{ℕ, zero, suc, ◌+◌, ◌-◌, ◌<◌, ◌≤◌, ◌≡◌, ◌||◌, ◌⊎◌, List, [], ◌∷◌, length, get_or, set, T, leb}
use Rattle.base.specs.Choose.{pick}
use Rattle.base.specs.Lists.{is_in}
use Rattle.base.specs.Sets.{count, set_of}
use Rattle.job.specs.Job.{Job, claim_of, most_claims, most_literals}
use Rattle.job.specs.Format.{literal_byte, literal_at}
use Rattle.job.specs.Claims.{end_in, moved, past_rule}
use Rattle.job.specs.declared.Literal.{Literal}
use Rattle.job.specs.declared.Cursor.{Cursor}
use Rattle.table.specs.Layout.{complete, workers_from}
use Rattle.table.specs.Literals.{failed}
use Rattle.turn.specs.Turn.{leads, reached}

pub record Work : Type 0 where
  pub place : List ℕ
  pub members : List ℕ
  pub top : ℕ

unfoldable pub visit : List ℕ → ℕ → Work → Work
unfolding pick
visit t b k =
    pick (complete t b) k
    (pick (set_of k.place b) k (record { place = set k.place b (k.top + 1); members = set k.members k.top b; top = k.top + 1 }))

unfoldable pub visits : List ℕ → List ℕ → Work → Work
visits t [] k = k
visits t (b ∷ bs) k = visits t bs (visit t b k)

unfoldable pub onward : List ℕ → List ℕ → Literal → Cursor → Cursor
unfolding pick
onward index t l c = pick (failed t l) (past_rule index c) (moved c)

unfoldable pub met_from : List ℕ → ℕ → List ℕ → List ℕ → ℕ → Cursor → List ℕ
unfolding pick
met_from s m index t zero c = []
met_from s m index t (suc n) c =
    let l = literal_at s m c.at in
    pick (leb c.end c.at) [] (claim_of l ∷ met_from s m index t n (onward index t l c))

-- a step moves the cursor on, so there are no more steps than literals left
abbrev pub met : List ℕ → ℕ → List ℕ → List ℕ → Cursor → List ℕ
met s m index t c = met_from s m index t (c.end - c.at) c

pub record Gathered (n : ℕ) (k : Work) : Type 0 where
  pub few : n ≤ most_claims
  pub long : length k.place ≡ n
  pub wide : n ≤ length k.members
  pub most : k.top ≤ count (set_of k.place) n
  pub placed : (i : ℕ) → i < k.top → get_or k.place (get_or k.members i 0) 0 ≡ i + 1
  pub listed : (c : ℕ) → T (set_of k.place c) → (get_or k.place c 0 ≤ k.top) × (get_or k.members (get_or k.place c 0 - 1) 0 ≡ c)

pub record Room (s : List ℕ) (m : ℕ) (index t : List ℕ) (n : ℕ) (c : Cursor) (k : Work) : Type 0 where
  pub bytes : literal_byte m c.end ≤ length s
  pub most : c.end ≤ most_literals
  pub ends : (i : ℕ) → c.at ≤ i → i < c.end → i < end_in index i
  pub below : (i : ℕ) → c.at ≤ i → i < c.end → claim_of (literal_at s m i) < n
  pub words : workers_from n ≤ length t
  pub fits : Gathered n k

abbrev pub Leading : Job → List ℕ → List ℕ → ℕ → Type 0
Leading j t place b = (c d : ℕ) → T (set_of place c) → T (is_in d (leads j t c)) → T (set_of place d) ⊎ (d ≡ b)

pub record Spread (j : Job) (t : List ℕ) (b : ℕ) (k k' : Work) : Type 0 where
  pub gathered : Gathered j.claims k'
  pub is : (d : ℕ) → set_of k'.place d ≡ (set_of k.place d || is_in d (reached j t b))

-- The set that a run keeps from turn to turn: what one claim reaches, and which claim of it was to move on when that was last looked for.
--   Kept (declared in src/lib.rt)   `from`: the claim whose reached claims are kept, if any are; `count`: how many they are;
--                       `chosen`: the claim C that was found, and the worker for whom, if one is known
--   HeldSet (declared there)        Kept, and the room for its members and their places
--   SameRoom a b        the set b has the room of a: the same two arrays, each as long as before
--   word_of o           a claim that was found, as a table's words have it: it + 1, or 0 for none
--   held k place members   its members and their places
--   Member members n d  d is one of the first n members
--   Left j t w c        claim c is w's, and has a literal left
--   Found j t k members    no member that is the worker's and has a literal left is newer than C, which is one of them
--   Keeps j t k place members   k is right, with a table t of job j
--   Lacking j t c b k place members   it is right but for one thing: claim c has just passed to claim b, which may be missing
--   free index t w c    claim c is w's, and has a literal left, by the index
--   FoundBy index t k members   Found, by the index
--   Places t members n  the words of the first n members stand in the table
--   Done j r kind k t place members   a turn was made as the definition r says, of this kind and with the table t at exit, and what is kept is right
--   OwnsAll t w members n r   r says whether the first n members are w's
--   Marked f S t u      the table u is t, but the claims S have the marks f
--   Completes j t w members u   u is t with the members complete, and with w's third word as a search finds it then
use Rattle.std.specs.Prelude.{ℕ, ◌+◌, ◌<◌, ◌≤◌, ◌≡◌, Option, None, Some, Bool, true, false, not, ◌&&◌, List, ◌⊎◌, T, length, get_or}
use Rattle.base.specs.Lists.{is_in}
use Rattle.base.specs.Sets.{set_of}
use Rattle.job.specs.Job.{Job, most_claims}
use Rattle.table.specs.Layout.{mark_word, workers_from, mark, cursor, owned}
use Rattle.table.specs.Newest.{Older}
use Rattle.turn.specs.Turn.{Turned, lits, leads, reached, completed_mark}
use Rattle.turn.specs.Gather.{Work, Gathered}
use Rattle.turn.specs.Ready.{Made, Renewed, passed_in}
use Rattle.turn.specs.declared.Chosen.{Chosen}
use Rattle.turn.specs.declared.HeldSet.{HeldSet}
use Rattle.turn.specs.declared.Kept.{Kept}
use Rattle.turn.specs.declared.Kind.{Kind}

abbrev pub held : Kept → List ℕ → List ℕ → Work
held k place members = record { place = place; members = members; top = k.count }

pub record SameRoom (a b : HeldSet) : Type 0 where
  pub same_place : b.place.ghost_name ≡ a.place.ghost_name
  pub same_members : b.members.ghost_name ≡ a.members.ghost_name
  pub place_long : length b.place.now ≡ length a.place.now
  pub members_long : length b.members.now ≡ length a.members.now

pub record Member (members : List ℕ) (n d : ℕ) : Type 0 where
  pub at : ℕ
  pub before : at < n
  pub is : get_or members at 0 ≡ d

pub record Left (j : Job) (t : List ℕ) (w c : ℕ) : Type 0 where
  pub own : mark t c ≡ w + 1
  pub some : cursor t c < length (lits j c)

pub record Found (j : Job) (t : List ℕ) (k : Kept) (members : List ℕ) : Type 0 where
  pub inside : (x : Chosen) → k.chosen ≡ Some x → Member members k.count x.claim
  pub newest : (x : Chosen) → k.chosen ≡ Some x → (d : ℕ) → Member members k.count d → Left j t x.worker d → Older t d x.claim

pub record Keeps (j : Job) (t : List ℕ) (k : Kept) (place members : List ℕ) : Type 0 where
  pub gathered : Gathered j.claims (held k place members)
  pub nothing : k.from ≡ None → k.count ≡ 0
  pub low : (x : ℕ) → k.from ≡ Some x → x < j.claims
  pub reaches : (x : ℕ) → k.from ≡ Some x → (d : ℕ) → set_of place d ≡ is_in d (reached j t x)
  pub found : Found j t k members

pub record Lacking (j : Job) (t : List ℕ) (c b : ℕ) (k : Kept) (place members : List ℕ) : Type 0 where
  pub gathered : Gathered j.claims (held k place members)
  pub nothing : k.from ≡ None → k.count ≡ 0
  pub low : (x : ℕ) → k.from ≡ Some x → x < j.claims
  pub start : (x : ℕ) → k.from ≡ Some x → T (set_of place x)
  pub sound : (x : ℕ) → k.from ≡ Some x → (d : ℕ) → T (set_of place d) → T (is_in d (reached j t x))
  pub onward : (x d : ℕ) → T (set_of place x) → T (is_in d (leads j t x)) → T (set_of place d) ⊎ ((x ≡ c) × (d ≡ b))
  pub passed : T (is_in b (leads j t c))
  pub found : Found j t k members

abbrev pub free : List ℕ → List ℕ → ℕ → ℕ → Bool
free index t w c = owned t w c && not (passed_in index t c)

abbrev pub word_of : Option ℕ → ℕ
word_of None = 0
word_of (Some c) = c + 1

pub record FoundBy (index t : List ℕ) (k : Kept) (members : List ℕ) : Type 0 where
  pub inside : (x : Chosen) → k.chosen ≡ Some x → Member members k.count x.claim
  pub newest : (x : Chosen) → k.chosen ≡ Some x → (d : ℕ) → Member members k.count d → T (free index t x.worker d) → Older t d x.claim

pub record Places (t members : List ℕ) (n : ℕ) : Type 0 where
  pub many : n ≤ length members
  pub few : (i : ℕ) → i < n → get_or members i 0 < most_claims
  pub words : (i : ℕ) → i < n → workers_from (get_or members i 0 + 1) ≤ length t

pub record Done (j : Job) (r : Turned) (kind : Kind) (k : Kept) (t place members : List ℕ) : Type 0 where
  pub made : Made r kind t
  pub keeps : Keeps j t k place members

pub record OwnsAll (t : List ℕ) (w : ℕ) (members : List ℕ) (n : ℕ) (r : Bool) : Type 0 where
  pub yes : r ≡ true → (d : ℕ) → Member members n d → mark t d ≡ w + 1
  pub no : r ≡ false → (d : ℕ) × Member members n d × (mark t d ≡ w + 1 → ⊥)

pub record Marked (f : ℕ → ℕ) (S : ℕ → Type 0) (t u : List ℕ) : Type 0 where
  pub long : length u ≡ length t
  pub new : (d : ℕ) → S d → mark u d ≡ f d
  pub old : (i : ℕ) → ((d : ℕ) → S d → i ≡ mark_word d → ⊥) → get_or u i 0 ≡ get_or t i 0

pub record Completes (j : Job) (t : List ℕ) (w : ℕ) (members : List ℕ) (u : List ℕ) : Type 0 where
  pub marks : List ℕ
  pub marked : Marked (completed_mark j t) (Member members (length members)) t marks
  pub renewed : Renewed j w marks u

-- A table as the turns see it, the graph of its open claims, who waits on whom, and what holds of every table that turns made
-- (01, 'Table words' and 'A turn of worker w'; THEORY 2 and 3). In the words of tabled evaluation: open, an incomplete table
-- entry; complete, a completed one; owner, the worker evaluating it; awaiting, suspended; takeover, usurpation.
--   State          a table: marks, opening numbers, cursors, awaited claims, questions
--   Own s w c      c is open and w's
--   Done s c       c is complete
--   Edge s x y     x leads to y: x has passed a literal of y that still leads, and y isn't complete
--   Mutual s x y   each of x and y is reached from the other
--   Waits s w d    w awaits d, which isn't complete
--   Next s v u     v waits on a claim of u
--   Grounded s v   no ring of waits is met from v
--   Order s x y    x reaches y, or one that is mutual with x is newer than y
--   Goes s w y     y is w's, or mutual with the claim that w waits on
--   Engaged s w    w awaits something, or owns something
--   Asked s w      w has a question left, and its claim is complete or Goes s w
--   Inv s T        what holds of every table of T workers that turns made from a start
--   Newest s w n   n is w's, and no claim of w is newer
use Rattle.std.specs.Prelude.{◌≡◌, ℕ, suc, ◌≤◌, ◌<◌}
use Rattle.base.specs.Graph.{Reach}

--   mark c       0 fresh, w + 1 open and worker w's, 256 and more complete
--   number c     the opening number;    opened   claims opened so far
--   awaited w    the claim that w awaits + 1, or 0
--   asks w       the claim of w's next question + 1, or 0 if it has none left;    answered w   how many are answered
--   cursor c     how many literals c has passed, those skipped included;    next c   the claim of its next literal + 1, or 0 if it has passed all
--   Passed x y   y is the claim of a literal that x has passed and that stands behind no complete false one of its rule
--   Earlier x y  the same, and x has moved on since: the literal isn't the last one before the cursor
pub record State : Type 1 where
  pub mark : ℕ → ℕ
  pub number : ℕ → ℕ
  pub opened : ℕ
  pub awaited : ℕ → ℕ
  pub asks : ℕ → ℕ
  pub answered : ℕ → ℕ
  pub cursor : ℕ → ℕ
  pub next : ℕ → ℕ
  pub Passed : ℕ → ℕ → Type 0
  pub Earlier : ℕ → ℕ → Type 0
  pub sooner : {x y : ℕ} → Earlier x y → Passed x y

module _ (s : State) where
  pub record Own (w c : ℕ) : Type 0 where
    pub mine : s.mark c ≡ suc w
    pub still : s.mark c < 256

  pub record Done (c : ℕ) : Type 0 where
    pub over : 256 ≤ s.mark c

  pub record Edge (x y : ℕ) : Type 0 where
    pub passed : s.Passed x y
    pub ahead : s.mark y < 256

  pub record Mutual (x y : ℕ) : Type 0 where
    pub to : Reach Edge x y
    pub from : Reach Edge y x

  pub record Waits (w d : ℕ) : Type 0 where
    pub awaits : s.awaited w ≡ suc d
    pub unmet : s.mark d < 256

  pub record Next (v u : ℕ) : Type 0 where
    pub claim : ℕ
    pub waits : Waits v claim
    pub owner : Own u claim

  pub data Grounded : ℕ → Type 0 where
    ground : {v : ℕ} → ((u : ℕ) → Next v u → Grounded u) → Grounded v

  pub data Order (x y : ℕ) : Type 0 where
    leads : Reach Edge x y → Order x y
    newer : {z : ℕ} → Mutual x z → s.number y < s.number z → Order x y

  pub data Goes (w y : ℕ) : Type 0 where
    own : Own w y → Goes w y
    away : {d : ℕ} → Waits w d → Mutual y d → Goes w y

  pub data Engaged (w : ℕ) : Type 0 where
    awaiting : {d : ℕ} → s.awaited w ≡ suc d → Engaged w
    owning : {x : ℕ} → Own w x → Engaged w

  pub data Asked (w : ℕ) : Type 0 where
    met : {q : ℕ} → s.asks w ≡ suc q → Done q → Asked w
    left : {q : ℕ} → s.asks w ≡ suc q → Goes w q → Asked w

  -- THEORY 3, of its numbers: begun to counted 1 and 2, workers the ranges, order 6, owned to goes 7, grounded 8, asked 5 and 10, alone 11,
  -- back 12
  pub record Inv (T : ℕ) : Type 0 where
    pub begun : {x y : ℕ} → s.Passed x y → 0 < s.mark x
    pub named : {x y : ℕ} → s.Passed x y → 0 < s.mark y
    pub closed : {x y : ℕ} → s.Passed x y → Done x → Done y
    pub full : {x : ℕ} → Done x → s.next x ≡ 0
    pub counted : (c : ℕ) → s.number c ≤ s.opened
    pub workers : {w c : ℕ} → Own w c → w < T
    pub order : {w x y : ℕ} → Own w x → Own w y → Order x y
    pub owned : {w d : ℕ} → Waits w d → 0 < s.mark d
    pub reaches : {w d x : ℕ} → Waits w d → Own w x → Reach Edge x d
    pub goes : {w x y : ℕ} → Own w x → Edge x y → Goes w y
    pub grounded : (w : ℕ) → Grounded w
    pub asked : {w : ℕ} → Engaged w → Asked w
    pub alone : {w d x : ℕ} → s.awaited w ≡ suc d → s.asks w ≡ suc d → Own w x → ⊥
    pub back : {x y : ℕ} → s.Earlier x y → s.mark y < 256 → Reach Edge y x

  pub record Newest (w n : ℕ) : Type 0 where
    pub its : Own w n
    pub last : {x : ℕ} → Own w x → s.number x ≤ s.number n

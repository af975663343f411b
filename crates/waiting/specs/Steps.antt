-- What each kind of turn of worker w changes, of T workers (01, 'A turn of worker w'; THEORY 2 to 4).
--   Same f g, But b f g              g is f, or is f but at b
--   Stays s s', Passes s s' c b      no literal is passed, or c passes one, of claim b
--   Skips s s' c                     c's cursor moves over literals that lead nowhere
--   Fades s s'                       no literal is passed; one may lead no more, behind one of a claim completed now
--   Claims s s', Opens s s' w b      no claim is opened, completed or taken, or b, fresh, becomes open to w
--   Workers s s', Awaits s s' w b    awaited claims and questions stay, or w comes to await b
--   Within s w k v                   from v at most k moves, each to the owner of the claim awaited, meet w
--   AtQuestion s w q                 w awaits and owns nothing, and its next question is of claim q
--   AtClaim s w n                    w awaits nothing, and n is its newest claim
--   AtLiteral s w c b                c is the C of the turn's text, and its next literal is of claim b
--   TakenMark, CompletedMark         what became of a claim's mark when w took over, or completed
--   PassedTo s w b                   b is complete or w's
--   Woke, Answered, Completed        what a turn of that kind is, and what it changes; so are
--   OpenedAsked, WaitsAsked          opened and waits at a question,
--   PassedOn, Opened, WaitsOn, Took  passed, opened, waits and took at a literal
--   Skipped                          passed, over the rest of a rule that has failed
--   Step T w s s'                    a turn of w that isn't idle leads from s to s'
--   Start s                          s is as starting leaves it
--   Ready s w                        a turn of w isn't idle
--   Mover s T                        a worker, of T, whose turn isn't idle
--   Finite s A                       the claims that aren't fresh stand below A, and reaching is tested
use Rattle.std.specs.Prelude.{◌≡◌, ℕ, suc, ◌≤◌, ◌<◌}
use Rattle.base.specs.Graph.{Reach, Plus}
use Rattle.waiting.specs.State.{State, Own, Done, Edge, Next, Newest}

abbrev pub Same : (ℕ → ℕ) → (ℕ → ℕ) → Type 0
Same f g = (k : ℕ) → g k ≡ f k

abbrev pub But : ℕ → (ℕ → ℕ) → (ℕ → ℕ) → Type 0
But b f g = (k : ℕ) → (k ≡ b → ⊥) → g k ≡ f k

pub record Stays (s s' : State) : Type 0 where
  pub more : {x y : ℕ} → s'.Passed x y → s.Passed x y
  pub less : {x y : ℕ} → s.Passed x y → s'.Passed x y
  pub earlier : {x y : ℕ} → s'.Earlier x y → s.Earlier x y
  pub nexts : Same s.next s'.next
  pub cursors : Same s.cursor s'.cursor

-- x moved on since it passed a literal of y, before the turn or in it, x being c
pub data Left (s : State) (c x y : ℕ) : Type 0 where
  ago : s.Earlier x y → Left s c x y
  now : x ≡ c → s.Passed c y → Left s c x y

pub record Passes (s s' : State) (c b : ℕ) : Type 0 where
  pub more : {x y : ℕ} → s'.Passed x y → Plus s.Passed c b x y
  pub less : {x y : ℕ} → Plus s.Passed c b x y → s'.Passed x y
  pub earlier : {x y : ℕ} → s'.Earlier x y → Left s c x y
  pub nexts : But c s.next s'.next
  pub cursor : s'.cursor c ≡ suc (s.cursor c)
  pub cursors : But c s.cursor s'.cursor

pub record Skips (s s' : State) (c : ℕ) : Type 0 where
  pub more : {x y : ℕ} → s'.Passed x y → s.Passed x y
  pub less : {x y : ℕ} → s.Passed x y → s'.Passed x y
  pub earlier : {x y : ℕ} → s'.Earlier x y → Left s c x y
  pub nexts : But c s.next s'.next
  pub cursor : s.cursor c < s'.cursor c
  pub cursors : But c s.cursor s'.cursor

-- a literal of y that x has passed still leads, or stands behind one of z, completed in this turn
pub data Faded (s s' : State) (x y : ℕ) : Type 0 where
  leads : s'.Passed x y → Faded s s' x y
  behind : {z : ℕ} → s.Earlier x z → s.mark z < 256 → Done s' z → Faded s s' x y

pub record Fades (s s' : State) : Type 0 where
  pub more : {x y : ℕ} → s'.Passed x y → s.Passed x y
  pub less : {x y : ℕ} → s.Passed x y → Faded s s' x y
  pub earlier : {x y : ℕ} → s'.Earlier x y → s.Earlier x y
  pub nexts : Same s.next s'.next
  pub cursors : Same s.cursor s'.cursor

pub data Within (s : State) (w : ℕ) : ℕ → ℕ → Type 0 where
  there : {k : ℕ} → Within s w k w
  move : {k v u : ℕ} → Next s v u → Within s w k u → Within s w (suc k) v

pub record AtQuestion (s : State) (w q : ℕ) : Type 0 where
  pub free : s.awaited w ≡ 0
  pub none : {x : ℕ} → Own s w x → ⊥
  pub asks : s.asks w ≡ suc q

pub record AtClaim (s : State) (w n : ℕ) : Type 0 where
  pub free : s.awaited w ≡ 0
  pub newest : Newest s w n

-- c is the newest claim of w that is reached from the newest and has a literal left, and its next literal is of claim b
pub record AtLiteral (s : State) (w c b : ℕ) : Type 0 where
  pub top : ℕ
  pub at : AtClaim s w top
  pub its : Own s w c
  pub path : Reach (Edge s) top c
  pub next : s.next c ≡ suc b
  pub last : {x : ℕ} → Own s w x → Reach (Edge s) top x → 0 < s.next x → s.number x ≤ s.number c

pub record Opens (s s' : State) (w b : ℕ) : Type 0 where
  pub fresh : s.mark b ≡ 0
  pub mark : s'.mark b ≡ suc w
  pub marks : But b s.mark s'.mark
  pub opened : s'.opened ≡ suc s.opened
  pub number : s'.number b ≡ suc s.opened
  pub numbers : But b s.number s'.number

pub record Claims (s s' : State) : Type 0 where
  pub marks : Same s.mark s'.mark
  pub opened : s'.opened ≡ s.opened
  pub numbers : Same s.number s'.number

pub record Awaits (s s' : State) (w b : ℕ) : Type 0 where
  pub await : s'.awaited w ≡ suc b
  pub awaits : But w s.awaited s'.awaited
  pub asks : Same s.asks s'.asks
  pub answers : Same s.answered s'.answered

pub record Workers (s s' : State) : Type 0 where
  pub awaits : Same s.awaited s'.awaited
  pub asks : Same s.asks s'.asks
  pub answers : Same s.answered s'.answered

pub data TakenMark (s s' : State) (w c b x : ℕ) : Type 0 where
  taken : Reach (Plus (Edge s) c b) c x → 0 < s.mark x → s.mark x < 256 → s'.mark x ≡ suc w → TakenMark s s' w c b x
  kept : (Reach (Plus (Edge s) c b) c x → 0 < s.mark x → s.mark x < 256 → ⊥) → s'.mark x ≡ s.mark x → TakenMark s s' w c b x

pub data CompletedMark (s s' : State) (n x : ℕ) : Type 0 where
  completed : Reach (Edge s) n x → 256 ≤ s'.mark x → CompletedMark s s' n x
  kept : (Reach (Edge s) n x → ⊥) → s'.mark x ≡ s.mark x → CompletedMark s s' n x

pub record Woke (s s' : State) (w : ℕ) : Type 0 where
  pub claim : ℕ
  pub awaited : s.awaited w ≡ suc claim
  pub over : Done s claim
  pub free : s'.awaited w ≡ 0
  pub awaits : But w s.awaited s'.awaited
  pub asks : Same s.asks s'.asks
  pub answers : Same s.answered s'.answered
  pub claims : Claims s s'
  pub literals : Stays s s'

pub record Answered (s s' : State) (w q : ℕ) : Type 0 where
  pub at : AtQuestion s w q
  pub over : Done s q
  pub answer : s'.answered w ≡ suc (s.answered w)
  pub answers : But w s.answered s'.answered
  pub asks : But w s.asks s'.asks
  pub awaits : Same s.awaited s'.awaited
  pub claims : Claims s s'
  pub literals : Stays s s'

pub record OpenedAsked (s s' : State) (w q : ℕ) : Type 0 where
  pub at : AtQuestion s w q
  pub opens : Opens s s' w q
  pub workers : Workers s s'
  pub literals : Stays s s'

pub record WaitsAsked (s s' : State) (w q : ℕ) : Type 0 where
  pub at : AtQuestion s w q
  pub holder : ℕ
  pub held : Own s holder q
  pub claims : Claims s s'
  pub awaits : Awaits s s' w q
  pub literals : Stays s s'

pub data PassedTo (s : State) (w b : ℕ) : Type 0 where
  complete : Done s b → PassedTo s w b
  own : Own s w b → PassedTo s w b

pub record PassedOn (s s' : State) (w c b : ℕ) : Type 0 where
  pub at : AtLiteral s w c b
  pub to : PassedTo s w b
  pub claims : Claims s s'
  pub workers : Workers s s'
  pub literals : Passes s s' c b

pub record Skipped (s s' : State) (w c b : ℕ) : Type 0 where
  pub at : AtLiteral s w c b
  pub claims : Claims s s'
  pub workers : Workers s s'
  pub literals : Skips s s' c

pub record Opened (s s' : State) (w c b : ℕ) : Type 0 where
  pub at : AtLiteral s w c b
  pub opens : Opens s s' w b
  pub workers : Workers s s'
  pub literals : Passes s s' c b

pub record WaitsOn (s s' : State) (T w c b : ℕ) : Type 0 where
  pub at : AtLiteral s w c b
  pub holder : ℕ
  pub held : Own s holder b
  pub other : holder ≡ w → ⊥
  pub misses : Within s w T holder → ⊥
  pub claims : Claims s s'
  pub awaits : Awaits s s' w b
  pub literals : Passes s s' c b

pub record Took (s s' : State) (T w c b : ℕ) : Type 0 where
  pub at : AtLiteral s w c b
  pub holder : ℕ
  pub held : Own s holder b
  pub other : holder ≡ w → ⊥
  pub meets : Within s w T holder
  pub marks : (x : ℕ) → TakenMark s s' w c b x
  pub opened : s'.opened ≡ s.opened
  pub numbers : Same s.number s'.number
  pub workers : Workers s s'
  pub literals : Passes s s' c b

pub record Completed (s s' : State) (w n : ℕ) : Type 0 where
  pub at : AtClaim s w n
  pub all : {x : ℕ} → Reach (Edge s) n x → Own s w x
  pub full : {x : ℕ} → Reach (Edge s) n x → s.next x ≡ 0
  pub marks : (x : ℕ) → CompletedMark s s' n x
  pub opened : s'.opened ≡ s.opened
  pub numbers : Same s.number s'.number
  pub workers : Workers s s'
  pub literals : Fades s s'

pub data Step (T w : ℕ) (s s' : State) : Type 0 where
  woke : Woke s s' w → Step T w s s'
  answered : {q : ℕ} → Answered s s' w q → Step T w s s'
  opened-asked : {q : ℕ} → OpenedAsked s s' w q → Step T w s s'
  waits_asked : {q : ℕ} → WaitsAsked s s' w q → Step T w s s'
  completes : {n : ℕ} → Completed s s' w n → Step T w s s'
  passed : {c b : ℕ} → PassedOn s s' w c b → Step T w s s'
  skipped : {c b : ℕ} → Skipped s s' w c b → Step T w s s'
  opened : {c b : ℕ} → Opened s s' w c b → Step T w s s'
  waits : {c b : ℕ} → WaitsOn s s' T w c b → Step T w s s'
  took : {c b : ℕ} → Took s s' T w c b → Step T w s s'

pub record Start (s : State) : Type 0 where
  pub marks : (c : ℕ) → s.mark c ≡ 0
  pub numbers : (c : ℕ) → s.number c ≡ 0
  pub awaits : (w : ℕ) → s.awaited w ≡ 0
  pub none : {x y : ℕ} → s.Passed x y → ⊥

pub data Ready (s : State) (w : ℕ) : Type 0 where
  wakes : {d : ℕ} → s.awaited w ≡ suc d → Done s d → Ready s w
  answers : {q : ℕ} → AtQuestion s w q → Done s q → Ready s w
  opens : {q : ℕ} → AtQuestion s w q → s.mark q ≡ 0 → Ready s w
  awaits : {q v : ℕ} → AtQuestion s w q → Own s v q → Ready s w
  completes : {n : ℕ} → AtClaim s w n → ((x : ℕ) → Reach (Edge s) n x → Own s w x × (s.next x ≡ 0)) → Ready s w
  passes : {c b : ℕ} → AtLiteral s w c b → Ready s w

pub record Mover (s : State) (T : ℕ) : Type 0 where
  pub who : ℕ
  pub small : who < T
  pub ready : Ready s who

pub record Finite (s : State) (A : ℕ) : Type 0 where
  pub below : {c : ℕ} → 0 < s.mark c → c < A
  pub reach? : (x y : ℕ) → Dec (Reach (Edge s) x y)

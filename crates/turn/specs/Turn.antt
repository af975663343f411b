-- A turn of worker w on the words t of a table of job j (01, 'A turn of worker w'), defined for every table in range.
--   Turned             a turn's kind, and the table it leaves
--   kind_number k      01's number of a kind
--   lits j c           the claims of c's literals, over its rules in file order
--   lit_at j c k       c's literal k, from 0
--   clear j t c k      no literal before c's literal k, of its rule, is complete and false (such a one makes the rule's body false)
--   skip_end j t c     where the rule of c's next literal ends among c's literals
--   leading j t c k    c has passed its literal k, and it stands behind no false one
--   leads j t c        what c leads to; reached j t c   all that is reached from c, in rising order
--   all_passed j t c   c has passed all its literals
--   completed_mark     the mark that completion gives
--   open_claim t w c   c becomes open to w
--   mark_all f cs t    the claims cs get the marks f
--   meets n j t w v    from v along the owners of awaited claims, at most n moves, w is met (following suspended workers)
--   ask_turn, work_turn, pass_turn   the second, third and fourth bullet; base_turn j t w   the whole turn as 01 has it
--   keeping j r        the turn r, and then every worker's third word is what a search finds
--   turn j t w         a turn
--   run_table, run_kinds             turns one after the other
-- Awaiting: suspended. Taking over: usurpation.
use Rattle.std.specs.Prelude.{ℕ, zero, suc, ◌+◌, ◌-◌, Bool, true, false, not, ◌&&◌, List, [], ◌∷◌, map, leb, ltb, eqb, length, get_or, set}
use Rattle.base.specs.Choose.{pick}
use Rattle.base.specs.Lists.{upto, keep, every, is_in}
use Rattle.job.specs.Job.{Job, claim_of, literals_of, rule_end}
use Rattle.job.specs.declared.Literal.{Literal}
use Rattle.job.specs.declared.Literal.TheVariants.{Plain}
use Rattle.semantics.specs.Model.{program_of, verdict, exchange, known_of}
use Rattle.table.specs.Questions.{asked_by, question_claim}
use Rattle.table.specs.Newest.{newest, sought, with_newest}
use Rattle.table.specs.Layout.{opened_word, opened, mark_word, cursor_word, number_word, mark, cursor, awaited_word, answered_word, awaited, answered, answer_word, fresh, owned, complete, value_of, mark_of, values, true_mark}
use Rattle.table.specs.Literals.{failed}
use Rattle.turn.specs.declared.Kind.{Kind}
use Rattle.turn.specs.declared.Kind.TheVariants.{Idle, Woke, Opened, Waits, Took, Passed, Completed, Answered}

-- "The eight kinds are numbered idle 0, woke 1, opened 2, waits 3, took 4, passed 5, completed 6, answered 7."
abbrev pub kind_number : Kind → ℕ
kind_number Idle = 0
kind_number Woke = 1
kind_number Opened = 2
kind_number Waits = 3
kind_number Took = 4
kind_number Passed = 5
kind_number Completed = 6
kind_number Answered = 7

pub record Turned : Type 0 where
  pub kind : Kind
  pub table : List ℕ

unfoldable pub lits : Job → ℕ → List ℕ
lits j c = map claim_of (literals_of c j.rules)

unfoldable pub lit_at : Job → ℕ → ℕ → Literal
lit_at j c k = get_or (literals_of c j.rules) k (Plain 0)

-- (02, order 5) "an earlier literal of that rule is complete and false"
unfoldable pub clear : Job → List ℕ → ℕ → ℕ → Bool
clear j t c k = every (λ i. not (failed t (lit_at j c i) && ltb k (rule_end c j.rules i))) (upto k)

-- (02, order 5) "A literal behind a complete false one in its rule no longer leads anywhere."
abbrev pub leading : Job → List ℕ → ℕ → ℕ → Bool
leading j t c k = ltb k (cursor t c) && clear j t c k

-- "A claim leads to the claim of each literal it has passed that isn't complete;"
unfoldable pub leads : Job → List ℕ → ℕ → List ℕ
leads j t c = keep (λ d. not (complete t d)) (map (λ k. get_or (lits j c) k 0) (keep (leading j t c) (upto (length (lits j c)))))

-- "'reached' follows this any number of times, the start included."
unfoldable pub any_leads : Job → List ℕ → List ℕ → ℕ → Bool
unfolding pick
any_leads j t [] d = false
any_leads j t (c ∷ cs) d = pick (is_in d (leads j t c)) true (any_leads j t cs d)

unfoldable pub spread : Job → List ℕ → List ℕ → List ℕ
unfolding pick
spread j t s = keep (λ d. pick (is_in d s) true (any_leads j t s d)) (upto j.claims)

unfoldable pub spreads : ℕ → Job → List ℕ → List ℕ → List ℕ
spreads zero j t s = s
spreads (suc n) j t s = spreads n j t (spread j t s)

unfoldable pub reached : Job → List ℕ → ℕ → List ℕ
reached j t c = spreads j.claims j t (c ∷ [])

unfoldable pub all_passed : Job → List ℕ → ℕ → Bool
all_passed j t c = eqb (cursor t c) (length (lits j c))

-- "Their values are those of the model of the job in which each claim complete before has its rules exchanged"
unfoldable pub completed_mark : Job → List ℕ → ℕ → ℕ
completed_mark j t c = mark_of (verdict (exchange (known_of (values j t)) (program_of j)) c)

-- "Opening adds 1 to the header's last word, which is the opening number; the cursor is 0."
unfoldable pub open_claim : List ℕ → ℕ → ℕ → List ℕ
open_claim t w c =
    let n = opened t + 1 in
    set (set (set (set t opened_word n) (mark_word c) (w + 1)) (cursor_word c) 0) (number_word c) n

unfoldable pub mark_all : (ℕ → ℕ) → List ℕ → List ℕ → List ℕ
mark_all f [] t = t
mark_all f (c ∷ cs) t = mark_all f cs (set t (mark_word c) (f c))

-- "go from B's owner to the owner of the claim it awaits (open ones only), at most T moves."
unfoldable pub meets : ℕ → Job → List ℕ → ℕ → ℕ → Bool
unfolding pick
meets zero j t w v = eqb v w
meets (suc n) j t w v =
    pick (eqb v w) true
    (let a = awaited j t v in
    let m = mark t (a - 1) in
    pick (eqb a 0) false (pick (eqb m 0) false (pick (leb true_mark m) false (meets n j t w (m - 1)))))

-- "w owns nothing open: no question left, idle. Otherwise its next question's claim is complete, and the value is stored and counted,
-- answered; or fresh and becomes open to w, opened; or another's, and w awaits it, waits."
unfoldable pub ask_turn : Job → List ℕ → ℕ → Turned
unfolding pick
ask_turn j t w =
    let n = answered j t w in
    let k = get_or (asked_by j w) n 0 in
    let c = question_claim j w n in
    pick (leb (length (asked_by j w)) n) (record { kind = Idle; table = t })
    (pick (complete t c) (record { kind = Answered; table = set (set t (answer_word j k) (value_of (mark t c))) (answered_word j w) (n + 1) })
    (pick (fresh t c) (record { kind = Opened; table = open_claim t w c })
    (record { kind = Waits; table = set t (awaited_word j w) (c + 1) })))

-- (02, order 5) "the rule's end"
abbrev pub skip_end : Job → List ℕ → ℕ → ℕ
skip_end j t c = rule_end c j.rules (cursor t c)

-- "C passes that literal, of claim B. B complete or w's: passed. Fresh: open to w, opened. Another's: .. If that never meets w,
-- w awaits B, waits. If it does, every open claim reached from C becomes w's, took"
-- (02, order 5) "Before C meets a literal, if an earlier literal of that rule is complete and false, the turn moves the cursor to the
-- rule's end and answers passed."
unfoldable pub pass_turn : Job → List ℕ → ℕ → ℕ → Turned
unfolding pick
pass_turn j t w c =
    let b = get_or (lits j c) (cursor t c) 0 in
    let t' = set t (cursor_word c) (cursor t c + 1) in
    pick (clear j t c (cursor t c))
    (pick (complete t b) (record { kind = Passed; table = t' })
    (pick (owned t w b) (record { kind = Passed; table = t' })
    (pick (fresh t b) (record { kind = Opened; table = open_claim t' w b })
    (pick (meets j.workers j t w (mark t b - 1))
    (record { kind = Took; table = mark_all (λ d. w + 1) (keep (λ d. not (fresh t d)) (reached j t' c)) t' })
    (record { kind = Waits; table = set t' (awaited_word j w) (b + 1) })))))
    (record { kind = Passed; table = set t (cursor_word c) (skip_end j t c) })

-- "If all reached from N are w's and have passed all their literals, all of them become complete: completed."
-- "C is the newest claim of w reached from N with a literal left; none, idle."
unfoldable pub work_turn : Job → List ℕ → ℕ → ℕ → Turned
unfolding pick
work_turn j t w n =
    let r = reached j t n in
    let left = newest t (keep (λ d. owned t w d && not (all_passed j t d)) r) in
    pick (every (λ d. owned t w d && all_passed j t d) r) (record { kind = Completed; table = mark_all (completed_mark j t) r t })
    (pick (eqb left 0) (record { kind = Idle; table = t }) (pass_turn j t w (left - 1)))

-- "First that applies": "w awaits a claim: complete, the wait is cleared, woke; else idle." "N is w's newest open claim"
unfoldable pub base_turn : Job → List ℕ → ℕ → Turned
unfolding pick
base_turn j t w =
    let a = awaited j t w in
    let n = sought j.claims t w in
    pick (eqb a 0)
    (pick (eqb n 0) (ask_turn j t w) (work_turn j t w (n - 1)))
    (pick (complete t (a - 1)) (record { kind = Woke; table = set t (awaited_word j w) 0 }) (record { kind = Idle; table = t }))

-- (02, order 3) "Each worker record gets a third word: its newest open claim + 1, or 0. Opening, takeover and completion keep it right for every
-- worker touched, losers included.": whatever the turn did, every third word is then what a search finds
abbrev pub keeping : Job → Turned → Turned
keeping j r = record { kind = r.kind; table = with_newest j.claims j.workers r.table }

unfoldable pub turn : Job → List ℕ → ℕ → Turned
turn j t w = keeping j (base_turn j t w)

unfoldable pub run_table : Job → List ℕ → List ℕ → List ℕ
run_table j t [] = t
run_table j t (w ∷ ws) = run_table j (turn j t w).table ws

unfoldable pub run_kinds : Job → List ℕ → List ℕ → List Kind
run_kinds j t [] = []
run_kinds j t (w ∷ ws) = (turn j t w).kind ∷ run_kinds j (turn j t w).table ws

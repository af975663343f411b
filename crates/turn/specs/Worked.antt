-- Worked turns: jobs, tables and turns small enough to follow by hand, in one table, with one theorem, which is computed (proofs/Worked).
--   Case            a job, the words of a table, the workers that take turns; the kinds of their turns and the table they leave
--   table_of        a table's words by their parts; claim, worker   the words of a claim and of a worker
--   two, three      01's examples; the others are of orders 5 and 2 (02)
--   Fault           a case in which an engine with a certain fault would leave another table: in one word of it another number
--   faults          01's 'Faults we have seen in rule engines', cursors restarted at takeover, and third words that aren't kept right
--   cases           all of them
--   TurnsRight      the theorem: the turns of all cases are of the kinds stated, and leave the tables stated
use Rattle.std.specs.Prelude.{ℕ, ◌≡◌, false, eqb, get_or}
use mathlib.Core.List.{List, [], ◌∷◌, ◌++◌, map, flat_map}
use Rattle.job.specs.Job.{Rule, ◌if◌, missing_record, Job}
use Rattle.job.specs.declared.Literal.TheVariants.{Plain, Negated}
use Rattle.job.specs.declared.Question.{Question}
use Rattle.table.specs.Layout.{header, mark_word, cursor_word, awaited_word, newest_word, true_mark, false_mark, undefined_mark}
use Rattle.table.specs.Start.{start_words}
use Rattle.turn.specs.Turn.{run_table, run_kinds}
use Rattle.turn.specs.declared.Kind.{Kind}
use Rattle.turn.specs.declared.Kind.TheVariants.{Idle, Woke, Opened, Waits, Took, Passed, Completed, Answered}

pub record Case : Type 0 where
  pub job : Job
  pub before : List ℕ
  pub schedule : List ℕ
  pub kinds : List Kind
  pub left : List ℕ

infix 5 ◌asks◌
abbrev ◌asks◌ : ℕ → ℕ → Question
w asks c = record { worker = w; claim = c }

abbrev job_of : ℕ → ℕ → List Rule → List Question → Job
job_of n k rs qs = record { claims = n; workers = k; rules = rs; questions = qs }

-- mark, cursor, opening number
abbrev claim : ℕ → ℕ → ℕ → List ℕ
claim m k n = m ∷ k ∷ n ∷ []

-- awaited claim + 1 or 0, questions answered, newest open claim + 1 or 0
abbrev worker : ℕ → ℕ → ℕ → List ℕ
worker a n k = a ∷ n ∷ k ∷ []

abbrev table_of : Job → ℕ → List (List ℕ) → List (List ℕ) → List ℕ → List ℕ
table_of j opened cs ws qs = header j ++ (opened ∷ []) ++ flat_map (λ c. c) cs ++ flat_map (λ w. w) ws ++ qs

-- a case from a started table
abbrev started : Job → List ℕ → List Kind → List ℕ → Case
started j ws ks u = record { job = j; before = start_words j []; schedule = ws; kinds = ks; left = u }

-- a case of one turn, of worker 0, on a table that no run made
abbrev lent : Job → List ℕ → Kind → List ℕ → Case
lent j t k u = record { job = j; before = t; schedule = 0 ∷ []; kinds = k ∷ []; left = u }

-- "For two claims, 0 if 1, 1 if 0; worker 0 asks 0, worker 1 asks 1; schedule 0 1 0 1 1 1 0 0"
abbrev pub two : Job
two = job_of 2 2 ((0 if Plain 1 ∷ []) ∷ (1 if Plain 0 ∷ []) ∷ []) ((0 asks 0) ∷ (1 asks 1) ∷ [])

abbrev two_case : Case
two_case =
    started two (0 ∷ 1 ∷ 0 ∷ 1 ∷ 1 ∷ 1 ∷ 0 ∷ 0 ∷ []) (Opened ∷ Opened ∷ Waits ∷ Took ∷ Completed ∷ Answered ∷ Woke ∷ Answered ∷ [])
    (table_of two 2 (claim false_mark 1 1 ∷ claim false_mark 1 2 ∷ []) (worker 0 1 0 ∷ worker 0 1 0 ∷ []) (2 ∷ 2 ∷ []))

-- "0 if 1, 1 if 2, 2 if 0 with three workers asking 0, 1, 2, schedule 0 1 2 0 1 2 2: opened three times, waits, waits, took, completed."
abbrev three : Job
three = job_of 3 3 ((0 if Plain 1 ∷ []) ∷ (1 if Plain 2 ∷ []) ∷ (2 if Plain 0 ∷ []) ∷ []) ((0 asks 0) ∷ (1 asks 1) ∷ (2 asks 2) ∷ [])

abbrev three_case : Case
three_case =
    started three (0 ∷ 1 ∷ 2 ∷ 0 ∷ 1 ∷ 2 ∷ 2 ∷ []) (Opened ∷ Opened ∷ Opened ∷ Waits ∷ Waits ∷ Took ∷ Completed ∷ [])
    (table_of three 3 (claim false_mark 1 1 ∷ claim false_mark 1 2 ∷ claim false_mark 1 3 ∷ []) (worker 2 0 0 ∷ worker 3 0 0 ∷ worker 0 0 0 ∷ []) (0 ∷ 0 ∷ 0 ∷ []))

-- (02, order 5) "the turn moves the cursor to the rule's end and answers passed": a turn of its own, and no further than that rule.
-- 0 if 1, 2; 0 if 3; 3 always. 1 has no rule, so 2 is never opened, and 3 is.
abbrev plain : Job
plain = job_of 4 1 ((0 if Plain 1 ∷ Plain 2 ∷ []) ∷ (0 if Plain 3 ∷ []) ∷ (3 if []) ∷ []) ((0 asks 0) ∷ [])

abbrev plain_case : Case
plain_case =
    started plain (0 ∷ 0 ∷ 0 ∷ 0 ∷ 0 ∷ 0 ∷ 0 ∷ 0 ∷ []) (Opened ∷ Opened ∷ Completed ∷ Passed ∷ Opened ∷ Completed ∷ Completed ∷ Answered ∷ [])
    (table_of plain 3 (claim true_mark 3 1 ∷ claim false_mark 0 2 ∷ claim 0 0 0 ∷ claim true_mark 0 3 ∷ []) (worker 0 1 0 ∷ []) (1 ∷ []))

-- false as a literal: 0 if not 1, 2; 1 always. 2 is never opened; but with no rule of 1 it is.
abbrev negated : List Rule → Job
negated rs = job_of 3 1 ((0 if Negated 1 ∷ Plain 2 ∷ []) ∷ rs) ((0 asks 0) ∷ [])

abbrev negated_case : Case
negated_case =
    started (negated ((1 if []) ∷ [])) (0 ∷ 0 ∷ 0 ∷ 0 ∷ 0 ∷ 0 ∷ []) (Opened ∷ Opened ∷ Completed ∷ Passed ∷ Completed ∷ Answered ∷ [])
    (table_of (negated ((1 if []) ∷ [])) 2 (claim false_mark 2 1 ∷ claim true_mark 0 2 ∷ claim 0 0 0 ∷ []) (worker 0 1 0 ∷ []) (2 ∷ []))

abbrev holding_case : Case
holding_case =
    started (negated []) (0 ∷ 0 ∷ 0 ∷ 0 ∷ 0 ∷ 0 ∷ 0 ∷ []) (Opened ∷ Opened ∷ Completed ∷ Opened ∷ Completed ∷ Completed ∷ Answered ∷ [])
    (table_of (negated []) 3 (claim false_mark 2 1 ∷ claim false_mark 0 2 ∷ claim false_mark 0 3 ∷ []) (worker 0 1 0 ∷ []) (2 ∷ []))

-- "A literal behind a complete false one in its rule no longer leads anywhere": 0 if 1, 2, both passed, 1 false and 2 open. 0 is completed without 2,
-- which is the worker's newest then.
abbrev behind : Job
behind = job_of 3 1 ((0 if Plain 1 ∷ Plain 2 ∷ []) ∷ []) ((0 asks 0) ∷ [])

abbrev behind_words : ℕ → ℕ → List ℕ
behind_words m k = table_of behind 3 (claim m 2 3 ∷ claim false_mark 0 2 ∷ claim 1 0 1 ∷ []) (worker 0 0 k ∷ []) (0 ∷ [])

abbrev behind_case : Case
behind_case = lent behind (behind_words 1 1) Completed (behind_words false_mark 3)

-- (02, order 2) a missing record costs no turn and leads nowhere: 0 if 1, and records of 0 and 1. Both are undefined.
abbrev unmeasured : Job
unmeasured = job_of 2 1 (missing_record 0 ∷ (0 if Plain 1 ∷ []) ∷ missing_record 1 ∷ []) ((0 asks 0) ∷ [])

abbrev unmeasured_case : Case
unmeasured_case =
    started unmeasured (0 ∷ 0 ∷ 0 ∷ 0 ∷ 0 ∷ []) (Opened ∷ Opened ∷ Completed ∷ Completed ∷ Answered ∷ [])
    (table_of unmeasured 2 (claim undefined_mark 1 1 ∷ claim undefined_mark 0 2 ∷ []) (worker 0 1 0 ∷ []) (3 ∷ []))

-- "each claim complete before has its rules exchanged", its missing record too: 0 if 1, and a record of 1, which a table that no run made calls
-- false. Then 0 is false.
abbrev dropped : Job
dropped = job_of 2 1 ((0 if Plain 1 ∷ []) ∷ missing_record 1 ∷ []) ((0 asks 0) ∷ [])

abbrev dropped_words : ℕ → ℕ → List ℕ
dropped_words m k = table_of dropped 2 (claim m 1 1 ∷ claim false_mark 0 2 ∷ []) (worker 0 0 k ∷ []) (0 ∷ [])

-- the faulty engine's table has `wrong` in word `word`
pub record Fault : Type 0 where
  pub case : Case
  pub word : ℕ
  pub wrong : ℕ

-- 0 if not 1; 1 always
abbrev denied : Job
denied = job_of 2 1 ((0 if Negated 1 ∷ []) ∷ (1 if []) ∷ []) ((0 asks 0) ∷ [])

-- 0 if 1, 2; 1 if 0
abbrev older : Job
older = job_of 3 1 ((0 if Plain 1 ∷ Plain 2 ∷ []) ∷ (1 if Plain 0 ∷ []) ∷ []) ((0 asks 0) ∷ [])

-- 0 if 2; 1 if 0; 2 if 1. Worker 0 opens 0 and 2 and awaits 1, worker 1 opens 1 and takes over.
abbrev ring : Job
ring = job_of 3 2 ((0 if Plain 2 ∷ []) ∷ (1 if Plain 0 ∷ []) ∷ (2 if Plain 1 ∷ []) ∷ []) ((0 asks 0) ∷ (1 asks 1) ∷ [])

abbrev ring_taken : List ℕ
ring_taken = table_of ring 3 (claim 2 1 1 ∷ claim 2 1 3 ∷ claim 2 1 2 ∷ []) (worker 2 0 0 ∷ worker 0 0 2 ∷ []) (0 ∷ 0 ∷ [])

abbrev ring_case : Case
ring_case = started ring (0 ∷ 0 ∷ 1 ∷ 0 ∷ 1 ∷ []) (Opened ∷ Opened ∷ Opened ∷ Waits ∷ Took ∷ []) ring_taken

abbrev loser_case : Case
loser_case = started ring (0 ∷ 0 ∷ 1 ∷ 0 ∷ 1 ∷ 0 ∷ []) (Opened ∷ Opened ∷ Opened ∷ Waits ∷ Took ∷ Idle ∷ []) ring_taken

-- 0 if 1; 1 if 2. Worker 0 owns 0, which has its literal left, and 1, its newest, which has passed 2, another's.
abbrev outside : Job
outside = job_of 3 2 ((0 if Plain 1 ∷ []) ∷ (1 if Plain 2 ∷ []) ∷ []) ((0 asks 0) ∷ (1 asks 2) ∷ [])

abbrev outside_words : List ℕ
outside_words = table_of outside 3 (claim 1 0 1 ∷ claim 1 1 2 ∷ claim 2 0 3 ∷ []) (worker 0 0 2 ∷ worker 0 0 3 ∷ []) (0 ∷ 0 ∷ [])

-- (02, order 3) a claim just opened need not be the newest, on a table that no run made. Of three claims c, which worker 0 owns, leads to 1, which it opens:
-- 0 was opened later by its number, 2 has the same number.
abbrev ahead : ℕ → Job
ahead c = job_of 3 1 ((c if Plain 1 ∷ []) ∷ []) ((0 asks c) ∷ [])

abbrev higher_case : Case
higher_case =
    lent (ahead 0) (table_of (ahead 0) 1 (claim 1 0 3 ∷ claim 0 0 0 ∷ claim 0 0 0 ∷ []) (worker 0 0 1 ∷ []) (0 ∷ [])) Opened
    (table_of (ahead 0) 2 (claim 1 1 3 ∷ claim 1 0 2 ∷ claim 0 0 0 ∷ []) (worker 0 0 1 ∷ []) (0 ∷ []))

abbrev tied_case : Case
tied_case =
    lent (ahead 2) (table_of (ahead 2) 1 (claim 0 0 0 ∷ claim 0 0 0 ∷ claim 1 0 2 ∷ []) (worker 0 0 3 ∷ []) (0 ∷ [])) Opened
    (table_of (ahead 2) 2 (claim 0 0 0 ∷ claim 1 0 2 ∷ claim 1 1 2 ∷ []) (worker 0 0 3 ∷ []) (0 ∷ []))

abbrev pub faults : List Fault
faults =
    -- "`not B` taken as holding while B is open.": 0 would be true
    record {
      case =
          started denied (0 ∷ 0 ∷ 0 ∷ 0 ∷ []) (Opened ∷ Opened ∷ Completed ∷ Completed ∷ [])
          (table_of denied 2 (claim false_mark 1 1 ∷ claim true_mark 0 2 ∷ []) (worker 0 0 0 ∷ []) (0 ∷ []));
      word = mark_word 0;
      wrong = true_mark;
    } ∷
    -- "A claim completed when its own literals are passed though it reaches an older open one.": 1 would be complete, false
    record {
      case =
          started older (0 ∷ 0 ∷ 0 ∷ 0 ∷ []) (Opened ∷ Opened ∷ Passed ∷ Opened ∷ [])
          (table_of older 3 (claim 1 2 1 ∷ claim 1 1 2 ∷ claim 1 0 3 ∷ []) (worker 0 0 3 ∷ []) (0 ∷ []));
      word = mark_word 1;
      wrong = false_mark;
    } ∷
    -- "Takeover of the awaited claims only: the rest stay with waiting workers and the table sticks.": 2 would stay worker 0's
    record { case = ring_case; word = mark_word 2; wrong = 1 } ∷
    -- "Losers woken at takeover.": worker 0 would ask for 0, and await it
    record { case = loser_case; word = awaited_word ring 0; wrong = 1 } ∷
    -- "C sought among all of w's claims, outside what N reaches.": 0 would pass its literal
    record { case = lent outside outside_words Idle outside_words; word = cursor_word 0; wrong = 1 } ∷
    -- "004 restarts what is taken over; here cursors are kept": 0 would have passed none
    record { case = ring_case; word = cursor_word 0; wrong = 0 } ∷
    -- (02, order 3) "Opening, takeover and completion keep it right for every worker touched, losers included.": worker 0's newest would still be 2,
    record { case = ring_case; word = newest_word ring 0; wrong = 3 } ∷
    -- none would be worker 0's newest, or 0 still would,
    record { case = behind_case; word = newest_word behind 0; wrong = 0 } ∷
    record { case = behind_case; word = newest_word behind 0; wrong = 1 } ∷
    -- the claim just opened would be the newest
    record { case = higher_case; word = newest_word (ahead 0) 0; wrong = 2 } ∷
    record { case = tied_case; word = newest_word (ahead 2) 0; wrong = 2 } ∷
    []

abbrev pub cases : List Case
cases =
    two_case ∷ three_case ∷ plain_case ∷ negated_case ∷ holding_case ∷ behind_case ∷ unmeasured_case
    ∷ lent dropped (dropped_words 1 1) Completed (dropped_words false_mark 0) ∷ map (λ f. f.case) faults

pub record TurnsRight : Type 0 where
  pub kinds : map (λ c. run_kinds c.job c.before c.schedule) cases ≡ map (λ c. c.kinds) cases
  pub left : map (λ c. run_table c.job c.before c.schedule) cases ≡ map (λ c. c.left) cases
  pub faulty : map (λ f. eqb (get_or f.case.left f.word 0) f.wrong) faults ≡ map (λ f. false) faults

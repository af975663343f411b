-- Rows 15 and 16 (02, order 1), of the lines that a text says; Fitting has row 14.
use Rattle.std.specs.Prelude.{ℕ, ◌+◌, List, [], ◌∷◌, Bool, false, ◌||◌, length, get_or, take}
use Rattle.base.specs.Compare.{under, over, not_below}
use Rattle.job.specs.Rows.{◌⨾◌, row, scan}
use Rattle.job.specs.Job.{claim_of, Rule, body_count, ◌if◌, most_claims, most_rules, most_literals, most_workers, most_questions}
use Rattle.job.specs.declared.Literal.{Literal}
use Rattle.job.specs.declared.Question.{Question}
use Rattle.job.specs.Check.{Check}
use Rattle.job.specs.Check.{Accepted}
use Rattle.lines.specs.Lines.{Lines, typed, job_size}

-- first line | 15 | a count past its limit, or T 0 | 1
unfoldable pub check_first : Lines → Check
check_first l =
    row (over l.claims most_claims) 15 1
    ⨾ row (under l.workers 1) 15 1
    ⨾ row (over l.workers most_workers) 15 1
    ⨾ Accepted

-- rule lines | 15 | rules or literals past their limit, or a claim not below A | the line
abbrev pub rule_in : Lines → ℕ → Rule
rule_in l i = get_or (typed l) i (0 if [])

unfoldable pub some_not_below : ℕ → List Literal → Bool
some_not_below a [] = false
some_not_below a (m ∷ ms) = not_below (claim_of m) a || some_not_below a ms

abbrev pub bad_rule : Lines → ℕ → Bool
bad_rule l i =
    over (i + 1) most_rules
    || over (body_count (take (i + 1) (typed l))) most_literals
    || not_below (rule_in l i).head l.claims
    || some_not_below l.claims (rule_in l i).body

unfoldable pub check_rules : Lines → Check
check_rules l = scan (bad_rule l) (length l.rules) 15 (λ i. 2 + i)

-- question lines | 15 | questions past their limit, worker not below T, or claim not below A | the line
abbrev pub ask_in : Lines → ℕ → Question
ask_in l q = get_or l.questions q (record { worker = 0; claim = 0 })

abbrev pub bad_ask : Lines → ℕ → Bool
bad_ask l q = over (q + 1) most_questions || not_below (ask_in l q).worker l.workers || not_below (ask_in l q).claim l.claims

unfoldable pub check_asks : Lines → Check
check_asks l = scan (bad_ask l) (length l.questions) 15 (λ q. 2 + length l.rules + q)

-- output | 16 | too short | the bytes needed
unfoldable pub check_room : Lines → ℕ → Check
check_room l room = row (under room (job_size l)) 16 (job_size l) ⨾ Accepted

unfoldable pub check_numbers : Lines → Check
check_numbers l = check_first l ⨾ check_rules l ⨾ check_asks l

-- rows 15 and 16 of the lines
unfoldable pub check_lines : Lines → ℕ → Check
check_lines l room = check_numbers l ⨾ check_room l room

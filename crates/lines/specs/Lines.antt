-- What a text of lines says, and how it is typed (02, order 1).
--   RuleLine           a rule as it is typed: a head and the literals of its body
--   Lines              claims A, workers T, rules in line order, questions in line order
--   letters w          a fixed word between the numbers, with the spaces beside it
--   text_of l          the text of l; line_count l   how many lines it has
--   typed l            the rules of l, as rules of a job
--   headed h rs        the rules of head h, in their order
--   sorted a rs        the rules of heads 0 to a - 1, one head after the other, each head's in their order
--   job_from l         the job of l: its rules sorted by head, its questions
--   job_size l         the bytes of that job
use Rattle.std.specs.Prelude.{ℕ, ◌+◌, eqb, length}
use mathlib.Core.List.{List, [], ◌∷◌, ◌++◌, flat_map, map}
use Rattle.base.specs.Choose.{pick}
use Rattle.base.specs.Lists.{upto}
use Rattle.job.specs.Job.{Rule, Job, body_count, ◌if◌}
use Rattle.job.specs.Format.{question_byte}
use Rattle.job.specs.declared.Literal.{Literal}
use Rattle.job.specs.declared.Literal.TheVariants.{Plain, Negated}
use Rattle.job.specs.declared.Question.{Question}
use Rattle.writing.specs.Decimal.{decimal}
use Rattle.lines.specs.declared.Word.{Word}
use Rattle.lines.specs.declared.Word.TheVariants.{ClaimsWord, WorkersWord, IfWord, NotWord, AskWord, StopWord, CommaWord}

pub record RuleLine : Type 0 where
  pub head : ℕ
  pub body : List Literal

pub record Lines : Type 0 where
  pub claims : ℕ
  pub workers : ℕ
  pub rules : List RuleLine
  pub questions : List Question

-- "words are parted by single spaces, every line ends in a line feed": "claims ", " workers ", " if ", "not ", "ask ", ".\n", ", "
abbrev pub letters : Word → List ℕ
letters ClaimsWord = 99 ∷ 108 ∷ 97 ∷ 105 ∷ 109 ∷ 115 ∷ 32 ∷ []
letters WorkersWord = 32 ∷ 119 ∷ 111 ∷ 114 ∷ 107 ∷ 101 ∷ 114 ∷ 115 ∷ 32 ∷ []
letters IfWord = 32 ∷ 105 ∷ 102 ∷ 32 ∷ []
letters NotWord = 110 ∷ 111 ∷ 116 ∷ 32 ∷ []
letters AskWord = 97 ∷ 115 ∷ 107 ∷ 32 ∷ []
letters StopWord = 46 ∷ 10 ∷ []
letters CommaWord = 44 ∷ 32 ∷ []

abbrev pub line_end : List ℕ
line_end = 10 ∷ []

abbrev pub blank : List ℕ
blank = 32 ∷ []

-- "First line `claims A workers T`"; "Numbers have no leading zeros"
abbrev pub header_text : ℕ → ℕ → List ℕ
header_text a t = letters ClaimsWord ++ decimal a ++ letters WorkersWord ++ decimal t ++ line_end

-- "where L is a claim or `not` and a claim"
abbrev pub literal_text : Literal → List ℕ
literal_text (Plain c) = decimal c
literal_text (Negated c) = letters NotWord ++ decimal c

-- "`H.` or `H if L, L.`"
abbrev pub body_text : List Literal → List ℕ
body_text [] = []
body_text (l ∷ ls) = letters IfWord ++ literal_text l ++ flat_map (λ m. letters CommaWord ++ literal_text m) ls

abbrev pub rule_text : RuleLine → List ℕ
rule_text r = decimal r.head ++ body_text r.body ++ letters StopWord

-- "then `ask W C` lines"
abbrev pub ask_text : Question → List ℕ
ask_text q = letters AskWord ++ decimal q.worker ++ blank ++ decimal q.claim ++ line_end

unfoldable pub text_of : Lines → List ℕ
text_of l = header_text l.claims l.workers ++ flat_map rule_text l.rules ++ flat_map ask_text l.questions

abbrev pub line_count : Lines → ℕ
line_count l = 1 + length l.rules + length l.questions

-- a typed rule is no missing record
abbrev pub as_rule : RuleLine → Rule
as_rule r = r.head if r.body

abbrev pub typed : Lines → List Rule
typed l = map as_rule l.rules

unfoldable pub headed : ℕ → List Rule → List Rule
headed h [] = []
headed h (r ∷ rs) = pick (eqb r.head h) (r ∷ headed h rs) (headed h rs)

-- "Rules come out sorted by head, one head's in line order, as are questions."
unfoldable pub sorted : ℕ → List Rule → List Rule
sorted a rs = flat_map (λ h. headed h rs) (upto a)

abbrev pub job_from : Lines → Job
job_from l = record { claims = l.claims; workers = l.workers; rules = sorted l.claims (typed l); questions = l.questions }

abbrev pub job_size : Lines → ℕ
job_size l = question_byte (length l.rules) (body_count (typed l)) (length l.questions)

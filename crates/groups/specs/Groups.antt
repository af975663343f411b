-- Partners with unpublished claims (02, order 8): which questions a worker may put, and rows 20 and 21. gs has one byte a claim, ws one a worker.
--   Open gs g c             claim c is public or of group g
--   MayPut j gs g c         a worker of group g may put the question c
--   DifferElsewhere j j' gs g     j and j' differ only in rules headed by claims that are neither public nor of group g
--   foreign gs g c          c is neither, as a test
--   leaves W ls             one of the literals ls has a claim in W
--   nearer j gs g W         the claims that are foreign, or have a literal with a claim in W
--   abroad j gs g           the claims that lead to a foreign group
--   group_of ws w           the group of worker w
--   asked s q               question q of the file; asker_group s ws q   the group of its worker
--   check_lists, check_partners   rows 20 and 21
--   admit_check s gs ws     the rows of the call, in the table's order
use Rattle.std.specs.Prelude.{ℕ, Bool, false, ◌&&◌, ◌||◌, List, [], ◌∷◌, ◌≡◌, ◌↔◌, ltb, length, get_or}
use Rattle.base.specs.Compare.{differs}
use Rattle.base.specs.Sets.{Claims, iterate}
use Rattle.job.specs.Job.{Rule, Job, claim_of, literals_of}
use Rattle.job.specs.Format.{claims, rules, literals, workers, questions, question_byte, question_at, job_of}
use Rattle.job.specs.Encoding.{◌∈◌}
use Rattle.job.specs.Rows.{◌⨾◌, row, scan}
use Rattle.job.specs.Checks.{check_job}
use Rattle.job.specs.Check.{Check}
use Rattle.job.specs.Check.{Accepted}
use Rattle.job.specs.declared.Literal.{Literal}
use Rattle.job.specs.declared.Question.{Question}
use Rattle.semantics.specs.Leads.{LeadsTo}

-- "one byte a claim (0 public, else a group) and one a worker, its group": a worker of group 0 has public claims only
pub data Open (gs : List ℕ) (g c : ℕ) : Type 0 where
  public : get_or gs c 0 ≡ 0 → Open gs g c
  own : get_or gs c 0 ≡ g → Open gs g c

-- "A worker may put a question only if all claims its rules lead to, all literals counted, itself included, are public or of its group."
abbrev pub MayPut : Job → List ℕ → ℕ → ℕ → Type 0
MayPut j gs g c = (d : ℕ) → LeadsTo j c d → Open gs g d

-- "that differ only in rules headed by another group's claims": those of the other claims are the same, missing records included
pub record DifferElsewhere (j j' : Job) (gs : List ℕ) (g : ℕ) : Type 0 where
  pub claims : j'.claims ≡ j.claims
  pub workers : j'.workers ≡ j.workers
  pub questions : j'.questions ≡ j.questions
  pub rules : (r : Rule) → Open gs g r.head → (r ∈ j.rules) ↔ (r ∈ j'.rules)

-- "lead to a foreign group", as tests
unfoldable pub foreign : List ℕ → ℕ → ℕ → Bool
foreign gs g c = differs (get_or gs c 0) 0 && differs (get_or gs c 0) g

unfoldable pub leaves : Claims → List Literal → Bool
leaves W [] = false
leaves W (l ∷ ls) = W (claim_of l) || leaves W ls

unfoldable pub nearer : Job → List ℕ → ℕ → Claims → Claims
nearer j gs g W c = ltb c j.claims && (foreign gs g c || leaves W (literals_of c j.rules))

-- no way without a ring is longer than there are claims
unfoldable pub abroad : Job → List ℕ → ℕ → Claims
abroad j gs g = iterate (nearer j gs g) j.claims

abbrev pub group_of : List ℕ → ℕ → ℕ
group_of ws w = get_or ws w 0

-- question q of the file, and its worker's group
abbrev pub asked : List ℕ → ℕ → Question
asked s q = question_at s (rules s) (literals s) q

abbrev pub asker_group : List ℕ → List ℕ → ℕ → ℕ
asker_group s ws q = group_of ws (asked s q).worker

-- groups' lists | 20 | a list of wrong length (claims' first) | that length
unfoldable pub check_lists : List ℕ → List ℕ → List ℕ → Check
check_lists s gs ws = row (differs (length gs) (claims s)) 20 (length gs) ⨾ row (differs (length ws) (workers s)) 20 (length ws) ⨾ Accepted

-- questions | 21 | a question that leads to a foreign group | its byte
abbrev pub bad_question : List ℕ → List ℕ → List ℕ → ℕ → Bool
bad_question s gs ws q = abroad (job_of s) gs (asker_group s ws q) (asked s q).claim

unfoldable pub check_partners : List ℕ → List ℕ → List ℕ → Check
check_partners s gs ws = scan (bad_question s gs ws) (questions s) 21 (question_byte (rules s) (literals s))

-- "after 8"
unfoldable pub admit_check : List ℕ → List ℕ → List ℕ → Check
admit_check s gs ws = check_job s ⨾ check_lists s gs ws ⨾ check_partners s gs ws

-- The part of a job that some claims make, where every other claim that counts is complete: a job of its own, whose claims are numbered in the order in
-- which they were gathered. In the field's terms: partial evaluation of the rules of one strongly connected component by the answers below it.
--   Numbered place ms       the claims ms, each once; place has where a claim stands in ms + 1, and 0 for the others
--   renumbered place l      literal l, by its claim's number in the part
--   within place l          the claim of l is in the part
--   failing t place l       the claim of l is not in the part, and l is complete and false
--   undecided t place l     the claim of l is not in the part, and undefined
--   standing t place b      no literal of body b is failing
--   part_literals place b   the literals of b whose claims are in the part
--   part_body t place i b   body b of a rule of the part's claim i: these, and i's own negation if a literal of b is undecided
--   part_rule t place i r   rule r, of the part's claim i; none where it has failed
--   claim_rules t place i c rs   the rules of the part's claim i, which is c in the job
--   part j t place ms       the part of job j that the claims ms make, by a table t
--   Alone j t place         the part stands alone: its claims are not complete, and a rule of theirs that stands has only literals whose claims are complete or in it
--   PartValues j t ms vs    vs are the values of the claims ms in the model of j in which each claim complete in t has its rules exchanged
use Rattle.std.specs.Prelude.{ℕ, ◌+◌, ◌-◌, ◌<◌, ◌≤◌, ◌≡◌, Bool, not, cond, ◌&&◌, ◌||◌, T, eqb, length, get_or}
use mathlib.Core.List.{List, [], ◌∷◌, ◌++◌, flat_map}
use Rattle.base.specs.Lists.{upto}
use Rattle.base.specs.Sets.{set_of}
use Rattle.job.specs.Job.{Rule, ◌if◌, missing_record, Job, claim_of}
use Rattle.job.specs.Encoding.{◌∈◌}
use Rattle.job.specs.declared.Literal.{Literal}
use Rattle.job.specs.declared.Literal.TheVariants.{Plain, Negated}
use Rattle.semantics.specs.Model.{Body, program_of, all_pass, verdict, byte_of, exchange, known_of}
use Rattle.semantics.specs.Theorems.{SameModel, RightBytes, KnownBytes}
use Rattle.semantics.specs.Missing.{extended, as_written}
use Rattle.semantics.specs.Relevance.{Relevance}
use Rattle.table.specs.Layout.{mark, complete, values, undefined_mark}
use Rattle.table.specs.Literals.{failed}

pub record Numbered (place ms : List ℕ) : Type 0 where
  pub placed : (i : ℕ) → i < length ms → get_or place (get_or ms i 0) 0 ≡ i + 1
  pub listed : (c : ℕ) → T (set_of place c) → (get_or place c 0 ≤ length ms) × (get_or ms (get_or place c 0 - 1) 0 ≡ c)

abbrev pub renumbered : List ℕ → Literal → Literal
renumbered place (Plain c) = Plain (get_or place c 0 - 1)
renumbered place (Negated c) = Negated (get_or place c 0 - 1)

abbrev pub within : List ℕ → Literal → Bool
within place l = set_of place (claim_of l)

abbrev pub failing : List ℕ → List ℕ → Literal → Bool
failing t place l = not (within place l) && failed t l

abbrev pub undecided : List ℕ → List ℕ → Literal → Bool
undecided t place l = not (within place l) && eqb (mark t (claim_of l)) undefined_mark

abbrev pub standing : List ℕ → List ℕ → Body → Bool
standing t place b = all_pass (λ l. not (failing t place l)) b

unfoldable pub part_literals : List ℕ → Body → Body
part_literals place [] = []
part_literals place (l ∷ b) = cond (within place l) (renumbered place l ∷ part_literals place b) (part_literals place b)

-- a literal that is true is left out, one that is undefined makes the body undefined at best: the head's own negation serves for it, as for a missing record
unfoldable pub part_body : List ℕ → List ℕ → ℕ → Body → Body
part_body t place i b = part_literals place b ++ cond (all_pass (λ l. not (undecided t place l)) b) [] (Negated i ∷ [])

unfoldable pub part_rule : List ℕ → List ℕ → ℕ → Rule → List Rule
part_rule t place i r =
    cond r.missing (missing_record i ∷ []) (cond (standing t place r.body) ((i if part_body t place i r.body) ∷ []) [])

unfoldable pub claim_rules : List ℕ → List ℕ → ℕ → ℕ → List Rule → List Rule
claim_rules t place i c rs = flat_map (λ r. cond (eqb r.head c) (part_rule t place i r) []) rs

unfoldable pub part : Job → List ℕ → List ℕ → List ℕ → Job
part j t place ms =
    record {
      claims = length ms;
      workers = 1;
      rules = flat_map (λ i. claim_rules t place i (get_or ms i 0) j.rules) (upto (length ms));
      questions = [];
    }

pub record Alone (j : Job) (t place : List ℕ) : Type 0 where
  pub incomplete : (c : ℕ) → T (set_of place c) → T (not (complete t c))
  pub covered :
      (r : Rule) → r ∈ j.rules → T (set_of place r.head) → T (standing t place r.body)
      → (l : Literal) → l ∈ r.body → T (within place l || complete t (claim_of l))

-- "Their values are those of the model of the job in which each claim complete before has its rules exchanged"
pub record PartValues (j : Job) (t ms vs : List ℕ) : Type 0 where
  pub at : (i : ℕ) → i < length ms → get_or vs i 0 ≡ byte_of (verdict (exchange (known_of (values j t)) (program_of j)) (get_or ms i 0))
  -- where the values that the table shows are right, these are the verdicts of the model of j itself
  pub right : RightBytes (values j t) (program_of j) → (i : ℕ) → i < length ms → get_or vs i 0 ≡ byte_of (verdict (program_of j) (get_or ms i 0))
  -- as exchanging any claims by their own verdicts changes nothing
  pub same_model : SameModel (program_of j)
  pub known_bytes : KnownBytes
  -- (02, order 2) with the same verdicts exchanged in the job extended for its missing records
  pub as_extended :
      (i : ℕ) → i < length ms → get_or vs i 0 ≡ byte_of (verdict (exchange (known_of (values j t)) (as_written (extended j))) (get_or ms i 0))
  -- why the rules of these claims are enough, of any claims
  pub relevance : Relevance (program_of j)

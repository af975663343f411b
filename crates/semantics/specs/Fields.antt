-- The marked fields P1 to P9 (01, 'Fields small enough to check by hand'), and some with missing records (02, order 2): two tables, one theorem,
-- which is computed (proofs/Fields).
--   Field            rules over some claims, and the verdicts stated for them
--   fields           P1 to P9; missing_fields   those with missing records
--   field_job f      field f as a job, of one worker without questions
--   computed f       the verdicts that the model gives
--   extendedly f     those that the job extended for its missing records has, by 01 alone
--   unfoundedly f    those by greatest unfounded sets (02, order 9)
--   FieldsRight fs   the theorem: the fields of a table are jobs that are accepted, and each of the three gives the verdicts stated for them
--   layered_fields   fields whose claims stand in layers; LayersRight   each rule of them keeps to the layers
--   IsField j f      job j has the claims and rules of field f
use Rattle.std.specs.Prelude.{ℕ, ◌≡◌, Bool, true, List, [], ◌∷◌, map, get_or}
use Rattle.base.specs.Span.{span}
use Rattle.job.specs.Job.{Rule, Job, ◌if◌, missing_record}
use Rattle.job.specs.Encoding.{encode}
use Rattle.job.specs.Checks.{check_job}
use Rattle.job.specs.Check.{Accepted}
use Rattle.job.specs.declared.Literal.TheVariants.{Plain, Negated}
use Rattle.semantics.specs.Model.{program, Verdict, True, False, Undefined, verdict, verdicts}
use Rattle.semantics.specs.Missing.{extended, as_written}
use Rattle.semantics.specs.Unfounded.{unfounded_verdicts}
use Rattle.semantics.specs.Leads.{in_layers}

pub record Field : Type 0 where
  pub claims : ℕ
  pub rules : List Rule
  pub stated : List Verdict

abbrev field : ℕ → List Rule → List Verdict → Field
field n rs vs = record { claims = n; rules = rs; stated = vs }

-- "0 if not 1, 1 if not 0", before other rules
abbrev each_other : List Rule → List Rule
each_other rs = (0 if Negated 1 ∷ []) ∷ (1 if Negated 0 ∷ []) ∷ rs

-- P3 0 if 0: false.
abbrev p3 : Field
p3 = field 1 ((0 if Plain 0 ∷ []) ∷ []) (False ∷ [])

-- P6 0 if not 1, 1 if not 2: false, true, false.
abbrev p6 : Field
p6 = field 3 ((0 if Negated 1 ∷ []) ∷ (1 if Negated 2 ∷ []) ∷ []) (False ∷ True ∷ False ∷ [])

-- P9 0 if 1, 1 if 0, 2 if not 0: false, false, true.
abbrev p9 : Field
p9 = field 3 ((0 if Plain 1 ∷ []) ∷ (1 if Plain 0 ∷ []) ∷ (2 if Negated 0 ∷ []) ∷ []) (False ∷ False ∷ True ∷ [])

abbrev pub fields : List Field
fields =
    -- P1 no rule: false.
    field 1 [] (False ∷ []) ∷
    -- P2 empty body: true.
    field 1 ((0 if []) ∷ []) (True ∷ []) ∷
    p3 ∷
    -- P4 0 if not 0: undefined.
    field 1 ((0 if Negated 0 ∷ []) ∷ []) (Undefined ∷ []) ∷
    -- P5 0 if not 1, 1 if not 0: both undefined.
    field 2 (each_other []) (Undefined ∷ Undefined ∷ []) ∷
    p6 ∷
    -- P7 P5 with 2 if 0, 2 if 1: 2 undefined.
    field 3 (each_other ((2 if Plain 0 ∷ []) ∷ (2 if Plain 1 ∷ []) ∷ [])) (Undefined ∷ Undefined ∷ Undefined ∷ []) ∷
    -- P8 P5 with 0 always: true, false.
    field 2 ((0 if Negated 1 ∷ []) ∷ (0 if []) ∷ (1 if Negated 0 ∷ []) ∷ []) (True ∷ False ∷ []) ∷
    p9 ∷
    []

abbrev pub missing_fields : List Field
missing_fields =
    -- a record alone
    field 1 (missing_record 0 ∷ []) (Undefined ∷ []) ∷
    -- "A rule that holds still makes it true.", behind the record or before it
    field 2 (missing_record 0 ∷ (0 if []) ∷ (1 if []) ∷ missing_record 1 ∷ []) (True ∷ True ∷ []) ∷
    -- a record twice, beside a rule that doesn't hold
    field 2 (missing_record 0 ∷ missing_record 0 ∷ (0 if Plain 1 ∷ []) ∷ []) (Undefined ∷ False ∷ []) ∷
    -- what depends on it: 1 if 0, 2 if not 0, 3 if 0 or always
    field 4 (missing_record 0 ∷ (1 if Plain 0 ∷ []) ∷ (2 if Negated 0 ∷ []) ∷ (3 if Plain 0 ∷ []) ∷ (3 if []) ∷ []) (Undefined ∷ Undefined ∷ Undefined ∷ True ∷ []) ∷
    []

abbrev pub computed : Field → List Verdict
computed f = verdicts (program f.claims f.rules)

abbrev pub field_job : Field → Job
field_job f = record { claims = f.claims; workers = 1; rules = f.rules; questions = [] }

abbrev pub extendedly : Field → List Verdict
extendedly f = span (verdict (as_written (extended (field_job f)))) 0 f.claims

abbrev pub unfoundedly : Field → List Verdict
unfoundedly f = unfounded_verdicts (program f.claims f.rules)

abbrev pub all_stated : List Field → List (List Verdict)
all_stated fs = map (λ f. f.stated) fs

pub record FieldsRight (fs : List Field) : Type 0 where
  pub accepted : map (λ f. check_job (encode (field_job f))) fs ≡ map (λ f. Accepted) fs
  pub by_model : map computed fs ≡ all_stated fs
  pub as_extended : map extendedly fs ≡ all_stated fs
  pub by_unfounded : map unfoundedly fs ≡ all_stated fs

-- the layer of each claim, with which every rule of the field shows that nothing is undefined (specs/Leads: stratified): P3 and P9 have rings, but
-- none with a negation
abbrev pub layered_fields : List (Field × List ℕ)
layered_fields = (p3, 0 ∷ []) ∷ (p6, 2 ∷ 1 ∷ 0 ∷ []) ∷ (p9, 0 ∷ 0 ∷ 1 ∷ []) ∷ []

abbrev pub kept_to : Field × List ℕ → List Bool
kept_to (f, ls) = map (in_layers (λ c. get_or ls c 0)) f.rules

abbrev pub LayersRight : Type 0
LayersRight = map kept_to layered_fields ≡ map (λ p. map (λ r. true) p.0.rules) layered_fields

abbrev pub IsField : Job → Field → Type 0
IsField j f = (j.claims ≡ f.claims) × (j.rules ≡ f.rules)

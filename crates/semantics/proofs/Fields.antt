-- The tables of small fields (specs/Fields) have the verdicts stated for them, by the model, by the job extended for its missing records, and
-- by greatest unfounded sets: all are computed. Assumes nothing.
--   fields_right, missing_right   the theorem, of the two tables
--   stated_for                    so of each field
--   layers_right                  fields that stand in layers
use mathlib.Core.Path.{◌≡◌, refl, subst⁻¹}
use mathlib.Core.List.Memᴰ
use mathlib.Core.List.{List, [], ◌∷◌, ◌++◌, map, flat_map, head-eq_of_cons-eq, tail-eq_of_cons-eq}
use mathlib.Core.Logic.{⊎_elim}
use Rattle.base.specs.Span.{span}
use Rattle.base.specs.Sets.{iterate}
use Rattle.base.specs.Compare.{under, over, not_below, differs}
use Rattle.job.specs.Bytes.{word, half}
use Rattle.job.specs.Job.{body_count}
use Rattle.job.specs.Format.{body_length_at, missing_at, head_before, body_start, literal_of}
use Rattle.job.specs.Rows.{◌⨾◌, row, scan}
use Rattle.job.specs.Checks.{check_job, check_header, check_parts, check_length, check_total, check_counts, check_offsets, check_heads, check_bodies, check_literals, check_questions}
use Rattle.job.specs.Check.{Accepted}
use Rattle.job.specs.Encoding.{◌∈◌, encode, header_bytes, length_of}
use Rattle.semantics.specs.Model.{program, heads, step, D, stage, K, U, verdict, verdicts}
use Rattle.semantics.specs.Unfounded.{founded, unfounded, after, well_founded, unfounded_verdicts}
use Rattle.semantics.specs.Fields.{Field, fields, missing_fields, field_job, computed, FieldsRight, LayersRight}

abbrev Accepts : List Field → Type 0
Accepts fs = map (λ f. check_job (encode (field_job f))) fs ≡ map (λ f. Accepted) fs

fields-accepted : Accepts fields
unfolding check_job check_header check_parts check_length check_total check_counts check_offsets check_heads check_bodies check_literals check_questions ◌⨾◌ row scan under over not_below differs encode header_bytes length_of body_count word half body_length_at missing_at head_before body_start literal_of flat_map
fields-accepted = refl

missing-accepted : Accepts missing_fields
unfolding check_job check_header check_parts check_length check_total check_counts check_offsets check_heads check_bodies check_literals check_questions ◌⨾◌ row scan under over not_below differs encode header_bytes length_of body_count word half body_length_at missing_at head_before body_start literal_of flat_map
missing-accepted = refl

pub fields_right : FieldsRight fields
unfolding verdicts verdict U K stage D step heads program iterate span unfounded_verdicts well_founded after unfounded founded
fields_right = record { accepted = fields-accepted; by_model = refl; as_extended = refl; by_unfounded = refl }

pub missing_right : FieldsRight missing_fields
unfolding verdicts verdict U K stage D step heads program iterate span unfounded_verdicts well_founded after unfounded founded
missing_right = record { accepted = missing-accepted; by_model = refl; as_extended = refl; by_unfounded = refl }

pub layers_right : LayersRight
layers_right = refl

-- two mapped lists that are equal, at an element
pub mapped_at : {A B : Type 0} (f g : A → B) (xs : List A) → map f xs ≡ map g xs → (x : A) → x ∈ xs → f x ≡ g x
mapped_at f g [] e x m = absurd (Memᴰ.not-nil m)
mapped_at f g (y ∷ xs) e x m =
    ⊎_elim (λ q. subst⁻¹ (λ z. f z ≡ g z) q (head-eq_of_cons-eq e)) (mapped_at f g xs (tail-eq_of_cons-eq e) x) (Memᴰ.cases_cons m)

pub stated_for : (f : Field) → f ∈ (fields ++ missing_fields) → computed f ≡ f.stated
stated_for f m =
    ⊎_elim (mapped_at computed (λ g. g.stated) fields fields_right.by_model f)
    (mapped_at computed (λ g. g.stated) missing_fields missing_right.by_model f) (Memᴰ.append_cases fields m)

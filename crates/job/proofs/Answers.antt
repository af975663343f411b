-- The answers worked out by hand (specs/Reading) are those of rows 1 to 8: computed. Assumes nothing.
use mathlib.Core.Path.{refl}
use mathlib.Core.List.{flat_map}
use Rattle.base.specs.Compare.{under, over, not_below, differs}
use Rattle.job.specs.Bytes.{word, half}
use Rattle.job.specs.Job.{body_count}
use Rattle.job.specs.Format.{body_length_at, missing_at, head_before, body_start, literal_of}
use Rattle.job.specs.Rows.{◌⨾◌, row, scan}
use Rattle.job.specs.Checks.{check_job, check_header, check_parts, check_length, check_total, check_counts, check_offsets, check_heads, check_bodies, check_literals, check_questions}
use Rattle.job.specs.Encoding.{encode, header_bytes, length_of}
use Rattle.job.specs.Reading.{AnswersRight}

pub answers_right : AnswersRight
unfolding check_job check_header check_parts check_length check_total check_counts check_offsets check_heads check_bodies check_literals check_questions ◌⨾◌ row scan under over not_below differs encode header_bytes length_of body_count word half body_length_at missing_at head_before body_start literal_of flat_map
answers_right = record { stated = refl }

-- The forms written out by hand (specs/Worked) are those of specs/Form: computed. Assumes nothing.
use mathlib.Core.Path.{refl}
use mathlib.Core.List.{flat_map}
use Rattle.base.specs.Choose.{pick}
use Rattle.base.specs.Compare.{under, over, not_below, differs}
use Rattle.job.specs.Bytes.{word, half}
use Rattle.job.specs.Job.{body_count}
use Rattle.job.specs.Format.{body_length_at, missing_at, head_before, body_start, literal_of}
use Rattle.job.specs.Rows.{◌⨾◌, row, scan}
use Rattle.job.specs.Checks.{check_job, check_header, check_parts, check_length, check_total, check_counts, check_offsets, check_heads, check_bodies, check_literals, check_questions}
use Rattle.job.specs.Encoding.{encode, header_bytes, length_of}
use Rattle.forms.specs.Order.{first, keyed, lex, shortlex}
use Rattle.forms.specs.Sorting.{insert, sort}
use Rattle.forms.specs.Form.{literal_order, body_order, rule_order, form}
use Rattle.forms.specs.Worked.{FormsRight}

pub forms_right : FormsRight
unfolding check_job check_header check_parts check_length check_total check_counts check_offsets check_heads check_bodies check_literals check_questions ◌⨾◌ row scan under over not_below differs encode header_bytes length_of body_count word half body_length_at missing_at head_before body_start literal_of flat_map pick first keyed lex shortlex insert sort literal_order body_order rule_order form
forms_right = record { accepted = refl; stated = refl }

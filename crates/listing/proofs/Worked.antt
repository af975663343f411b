-- The listings worked out by hand (specs/Worked) are the texts stated: computed. Assumes nothing.
use mathlib.Core.Path.{refl}
use mathlib.Core.List.{flat_map}
use Rattle.base.specs.Choose.{pick}
use Rattle.base.specs.Compare.{under, over, not_below, differs}
use Rattle.base.specs.Span.{span}
use Rattle.base.specs.Sets.{iterate}
use Rattle.base.specs.Lists.{keep, every, is_in}
use Rattle.writing.specs.Decimal.{decimal, decimal_in}
use Rattle.job.specs.Bytes.{word, half}
use Rattle.job.specs.Job.{body_count, literals_of, rule_end}
use Rattle.job.specs.Format.{job_of, rule_at, body_length_at, missing_at, head_before, body_start, literal_of}
use Rattle.job.specs.Rows.{◌⨾◌, row, scan}
use Rattle.job.specs.Checks.{check_job, check_header, check_parts, check_length, check_total, check_counts, check_offsets, check_heads, check_bodies, check_literals, check_questions}
use Rattle.job.specs.Encoding.{encode, header_bytes, length_of}
use Rattle.semantics.specs.Model.{program, heads, step, D, stage, K, U, verdict, verdict_of, known_of}
use Rattle.table.specs.Questions.{positions_of, asked_by, claim_asked, question_claim}
use Rattle.table.specs.Layout.{header, values}
use Rattle.table.specs.Newest.{is_newer, newer, newest, with_newest}
use Rattle.table.specs.Start.{start_words}
use Rattle.table.specs.Reading.{reading_of}
use Rattle.turn.specs.Turn.{lits, lit_at, clear, leads, any_leads, spread, spreads, reached, all_passed, completed_mark, open_claim, mark_all, meets, ask_turn, pass_turn, work_turn, base_turn, turn, run_table, run_kinds}
use Rattle.table.specs.Literals.{failed}
use Rattle.calls.specs.Calls.{check_schedule, counted, tally}
use Rattle.listing.specs.Finish.{answered_all, next_worker, finish_turns}
use Rattle.listing.specs.Listing.{job_end, listing_check, question_lines, text_of, played, last_table, listed, listing_if, listing}
use Rattle.listing.specs.Worked.{ListingsRight}

pub listings_right : ListingsRight
unfolding listing listing_if listed last_table played text_of question_lines listing_check job_end finish_turns next_worker answered_all tally counted check_schedule run_table run_kinds turn base_turn work_turn pass_turn ask_turn meets mark_all open_claim completed_mark all_passed with_newest newest newer is_newer reached spreads spread any_leads leads clear failed rule_end lit_at lits reading_of start_words values header question_claim claim_asked asked_by positions_of known_of verdict_of verdict U K stage D step heads program literals_of check_job check_header check_parts check_length check_total check_counts check_offsets check_heads check_bodies check_literals check_questions ◌⨾◌ row scan under over not_below differs encode header_bytes length_of body_count word half body_length_at missing_at head_before body_start literal_of job_of rule_at decimal decimal_in is_in every keep iterate span flat_map pick
listings_right = record { example = refl; cut = refl }

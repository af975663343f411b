-- What is worked out by hand (specs/Worked) is what the definitions give: computed. Assumes nothing.
use mathlib.Core.Path.{refl}
use mathlib.Core.List.{flat_map}
use Rattle.base.specs.Choose.{pick}
use Rattle.base.specs.Compare.{under, over, not_below, differs}
use Rattle.base.specs.Span.{span}
use Rattle.base.specs.Sets.{iterate}
use Rattle.base.specs.Lists.{keep, every, is_in}
use Rattle.job.specs.Job.{literals_of, rule_end}
use Rattle.job.specs.Bytes.{word, half}
use Rattle.job.specs.Format.{job_of, rule_at, body_length_at, missing_at, head_before, body_start, literal_of}
use Rattle.job.specs.Rows.{◌⨾◌, row, scan}
use Rattle.job.specs.Checks.{check_job, check_header, check_parts, check_length, check_total, check_counts, check_offsets, check_heads, check_bodies, check_literals, check_questions}
use Rattle.semantics.specs.Model.{program, heads, step, D, stage, K, U, verdict, verdict_of, known_of}
use Rattle.table.specs.Questions.{positions_of, asked_by, claim_asked, question_claim}
use Rattle.table.specs.Layout.{header, values}
use Rattle.table.specs.Literals.{failed}
use Rattle.table.specs.Newest.{is_newer, newer, newest, with_newest}
use Rattle.table.specs.Ranges.{check_room}
use Rattle.table.specs.Start.{start_words}
use Rattle.turn.specs.Turn.{lits, lit_at, clear, leads, any_leads, spread, spreads, reached, all_passed, completed_mark, open_claim, mark_all, meets, ask_turn, pass_turn, work_turn, base_turn, turn, run_table, run_kinds}
use Rattle.calls.specs.Calls.{start_check, check_schedule, counted, tally}
use Rattle.records.specs.Record.{record_of, workers_in, gives, held}
use Rattle.records.specs.Answers.{check_buffer, record_check, record_table, record_tally, record_bytes, check_odd, check_pairs, replay_rows, replay_check, replay_table, replay_tally}
use Rattle.records.specs.Worked.{RecordsRight}

pub records_right : RecordsRight
unfolding record_check check_buffer record_table record_tally record_bytes replay_check replay_rows check_odd check_pairs replay_table replay_tally record_of workers_in gives held start_check check_schedule counted tally check_room check_job check_header check_parts check_length check_total check_counts check_offsets check_heads check_bodies check_literals check_questions ◌⨾◌ row scan under over not_below differs word half body_length_at missing_at head_before body_start literal_of job_of rule_at run_table run_kinds turn base_turn work_turn pass_turn ask_turn meets mark_all open_claim completed_mark all_passed with_newest newest newer is_newer reached spreads spread any_leads leads clear failed rule_end lit_at lits start_words values header question_claim claim_asked asked_by positions_of known_of verdict_of verdict U K stage D step heads program literals_of is_in every keep iterate span flat_map pick
records_right =
    record {
      bytes = refl;
      table = refl;
      tally = refl;
      again = refl;
      again_tally = refl;
      false = refl;
      false_table = refl;
      false_tally = refl;
      run_answers = refl;
      replay_answers = refl;
    }

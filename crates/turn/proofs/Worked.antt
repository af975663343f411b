-- The worked turns (specs/Worked) are of the kinds stated for them, and leave the tables stated: computed. Assumes nothing.
--   turns_right         the theorem
use mathlib.Core.Path.{refl}
use mathlib.Core.List.{flat_map}
use Rattle.base.specs.Choose.{pick}
use Rattle.base.specs.Span.{span}
use Rattle.base.specs.Sets.{iterate}
use Rattle.base.specs.Lists.{keep, every, is_in}
use Rattle.job.specs.Job.{literals_of, rule_end}
use Rattle.semantics.specs.Model.{program, heads, step, D, stage, K, U, verdict, verdict_of, known_of}
use Rattle.table.specs.Questions.{positions_of, asked_by, claim_asked, question_claim}
use Rattle.table.specs.Layout.{header, values}
use Rattle.table.specs.Newest.{is_newer, newer, newest, with_newest}
use Rattle.table.specs.Start.{start_words}
use Rattle.turn.specs.Turn.{lits, lit_at, clear, leads, any_leads, spread, spreads, reached, all_passed, completed_mark, open_claim, mark_all, meets, ask_turn, pass_turn, work_turn, base_turn, turn, run_table, run_kinds}
use Rattle.table.specs.Literals.{failed}
use Rattle.turn.specs.Worked.{TurnsRight}

pub turns_right : TurnsRight
unfolding run_table run_kinds turn base_turn work_turn pass_turn ask_turn meets mark_all open_claim completed_mark all_passed with_newest newest newer is_newer reached spreads spread any_leads leads clear failed rule_end lit_at lits start_words values header question_claim claim_asked asked_by positions_of known_of verdict_of verdict U K stage D step heads program literals_of is_in every keep iterate span flat_map pick
turns_right = record { kinds = refl; left = refl; faulty = refl }

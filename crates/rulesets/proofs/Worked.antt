-- What is worked out by hand (specs/Worked, specs/Lines): computed. Assumes nothing.
--   worked, lines-right
use Prim.Native.Nat.{ℕ}
use mathlib.Core.Path.{◌≡◌, refl, ap₂}
use mathlib.Core.List.{List, ◌++◌, flat_map}
use Rattle.base.specs.Choose.{pick}
use Rattle.base.specs.Compare.{under, over}
use Rattle.base.specs.Span.{span}
use Rattle.base.specs.Sets.{iterate}
use Rattle.base.specs.Lists.{keep, every, is_in}
use Rattle.writing.specs.Decimal.{decimal_in, decimal}
use Rattle.job.specs.Job.{body_count, literals_of, rule_end}
use Rattle.job.specs.Encoding.{header_bytes, length_of, encode}
use Rattle.semantics.specs.Model.{program, heads, step, D, stage, K, U, verdict, verdict_of, known_of}
use Rattle.table.specs.Questions.{positions_of, asked_by, claim_asked, question_claim}
use Rattle.table.specs.Layout.{header, values}
use Rattle.table.specs.Newest.{is_newer, newer, newest, with_newest}
use Rattle.table.specs.Start.{start_words}
use Rattle.table.specs.Literals.{failed}
use Rattle.turn.specs.Turn.{lits, lit_at, clear, leads, any_leads, spread, spreads, reached, all_passed, completed_mark, open_claim, mark_all, meets, ask_turn, pass_turn, work_turn, base_turn, turn, run_table, run_kinds}
use Rattle.listing.specs.Finish.{answered_all, next_worker, finish_turns}
use Rattle.rulesets.specs.Sets.{lists_of, all_choices, all_sets, number_from}
use Rattle.rulesets.specs.Jobs.{job_of_set}
use Rattle.rulesets.specs.Census.{making, changing, better, most_from, census_of, census_answer}
use Rattle.rulesets.specs.Lines.{before, census_line, handbook_table, one_claim, two_claims, LinesRight}
use Rattle.rulesets.specs.Worked.{Worked}

pub worked : Worked
unfolding number_from encode header_bytes length_of census_answer census_of most_from better changing making job_of_set all_sets all_choices lists_of finish_turns next_worker answered_all run_table run_kinds turn base_turn work_turn pass_turn ask_turn meets mark_all open_claim completed_mark all_passed with_newest newest newer is_newer reached spreads spread any_leads leads clear failed rule_end lit_at lits start_words values header question_claim claim_asked asked_by positions_of known_of verdict_of verdict U K stage D step heads program literals_of body_count is_in every keep iterate span flat_map pick under over
worked =
    record {
      one = refl;
      verdicts = refl;
      turns = refl;
      two = refl;
      six = refl;
      number = refl;
      job = refl;
      none = (refl, refl);
      four = (refl, refl);
      counted = (refl, refl);
    }

one_line : census_line (census_of 1) ≡ one_claim
unfolding before census_line decimal decimal_in census_of most_from better changing making job_of_set all_sets all_choices lists_of finish_turns next_worker answered_all run_table run_kinds turn base_turn work_turn pass_turn ask_turn meets mark_all open_claim completed_mark all_passed with_newest newest newer is_newer reached spreads spread any_leads leads clear failed rule_end lit_at lits start_words values header question_claim claim_asked asked_by positions_of known_of verdict_of verdict U K stage D step heads program literals_of body_count is_in every keep iterate span flat_map pick under
one_line = refl

two-line : census_line (census_of 2) ≡ two_claims
unfolding before census_line decimal decimal_in census_of most_from better changing making job_of_set all_sets all_choices lists_of finish_turns next_worker answered_all run_table run_kinds turn base_turn work_turn pass_turn ask_turn meets mark_all open_claim completed_mark all_passed with_newest newest newer is_newer reached spreads spread any_leads leads clear failed rule_end lit_at lits start_words values header question_claim claim_asked asked_by positions_of known_of verdict_of verdict U K stage D step heads program literals_of body_count is_in every keep iterate span flat_map pick under
two-line = refl

pub lines-right : LinesRight
unfolding handbook_table before census_line decimal decimal_in pick under
lines-right =
    record { five = refl; one = one_line; two = two-line; table = ap₂ (λ (x y : List ℕ). x ++ y ++ census_line (census_of 3)) one_line two-line }

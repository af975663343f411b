-- The worked turns are accepted as calls, which is computed; so a run of one leaves what is stated for it. Assumes nothing.
use Prim.Native.Nat.{ℕ}
use mathlib.Core.Path.{◌≡◌, refl, ◌∙◌, ap}
use mathlib.Core.List.{List, map, flat_map}
use Rattle.base.specs.Choose.{pick}
use Rattle.base.specs.Compare.{under, over, not_below, differs}
use Rattle.base.specs.Sets.{one, count}
use Rattle.base.specs.Span.{span}
use Rattle.base.specs.Lists.{keep}
use Rattle.job.specs.Job.{body_count, literals_of}
use Rattle.job.specs.Bytes.{word, half}
use Rattle.job.specs.Format.{job_of, rule_at, body_length_at, missing_at, head_before, body_start, literal_of}
use Rattle.job.specs.Rows.{◌⨾◌, row, scan}
use Rattle.job.specs.Checks.{check_job, check_header, check_parts, check_length, check_total, check_counts, check_offsets, check_heads, check_bodies, check_literals, check_questions}
use Rattle.job.specs.Encoding.{◌∈◌, encode, header_bytes, length_of}
use Rattle.job.specs.Check.{Check, Accepted}
use Rattle.job.specs.declared.Refusal.{Refusal}
use Rattle.std.specs.Prelude.{Result, Err, IfOk, IfErr, replicate}
use Rattle.semantics.proofs.Fields.{mapped_at}
use Rattle.table.specs.Questions.{positions_of, asked_by}
use Rattle.table.specs.Layout.{header}
use Rattle.table.specs.Newest.{is_newer, newer, newest}
use Rattle.table.specs.Start.{start_words}
use Rattle.table.specs.Ranges.{each, check_room, marked, check_claim, check_worker, check_words, check_table}
use Rattle.turn.specs.Turn.{run_table, run_kinds}
use Rattle.turn.specs.Worked.{Case, cases}
use Rattle.turn.proofs.Worked.{turns_right}
use Rattle.calls.specs.Calls.{answered, check_schedule, run_check, tally, run_tally, run_left, Ran, run_answer}
use Rattle.calls.specs.Worked.{CasesRight, Worked}

cases-accepted : map (λ c. run_check (encode c.job) c.before c.schedule) cases ≡ map (λ c. Accepted) cases
unfolding run_check check_schedule check_table check_room check_words check_worker check_claim marked each count one check_job check_header check_parts check_length check_total check_counts check_offsets check_heads check_bodies check_literals check_questions ◌⨾◌ row scan under over not_below differs encode header_bytes length_of body_count word half body_length_at missing_at head_before body_start literal_of literals_of positions_of asked_by newest newer is_newer keep start_words header job_of rule_at span flat_map pick
cases-accepted = refl

pub cases_right : CasesRight
cases_right = record { accepted = cases-accepted; turns = turns_right }

module _ (c : Case) (m : c ∈ cases) where
  case-kinds : run_kinds c.job c.before c.schedule ≡ c.kinds
  case-kinds = mapped_at (λ d. run_kinds d.job d.before d.schedule) (λ d. d.kinds) cases turns_right.kinds c m

  case_left : run_table c.job c.before c.schedule ≡ c.left
  case_left = mapped_at (λ d. run_table d.job d.before d.schedule) (λ d. d.left) cases turns_right.left c m

-- a run that gave what its check says: accepted, it made its turns
module _ (s t ws : List ℕ) where
  stated : {r : Result (List ℕ) Refusal} {u : List ℕ} (k : Check) → Ran k s t ws r u → (c : Case) → c ∈ cases → job_of s ≡ c.job → t ≡ c.before → ws ≡ c.schedule → IfOk r (λ counts. (counts ≡ tally c.kinds) × (u ≡ c.left))
  unfolding answered run_left
  stated {r} {u} (Err refusal) m c i j b w = rw m.answer_is tt
  stated {r} {u} Accepted m c i j b w = rw m.answer_is (ap tally (rw (j, b, w) (case-kinds c i)), m.table_is ∙ rw (j, b, w) (case_left c i))

  -- the tally that goes with its answer
  tally-of : {r : Result (List ℕ) Refusal} (k : Check) → r ≡ answered k (tally (run_kinds (job_of s) t ws)) → IfOk r (λ counts. run_tally k s t ws ≡ counts) × IfErr r (λ refusal. run_tally k s t ws ≡ replicate 8 0)
  unfolding answered run_tally
  tally-of {r} (Err refusal) e = rw e (tt, refl)
  tally-of {r} Accepted e = rw e (refl, tt)

  pub worked-answer : {r : Result (List ℕ) Refusal} {u : List ℕ} → Ran (run_check s t ws) s t ws r u → (r ≡ run_answer s t ws) × (u ≡ run_left (run_check s t ws) s t ws) × Worked s t ws r u
  worked-answer m = let n = tally-of (run_check s t ws) m.answer_is in (m.answer_is, m.table_is, record { right = cases_right; made = stated (run_check s t ws) m; counts = n.0; none = n.1 })

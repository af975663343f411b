-- All that a recorded run and a replay promise. Assumes nothing.
--   answered s      of any bytes; on_record s e   of an accepted job
use Prim.Native.Nat.{ℕ}
use mathlib.Core.Path.{◌≡◌, refl, sym, ◌∙◌, ap}
use mathlib.Core.List.{List}
use Rattle.job.specs.Format.{job_of}
use Rattle.job.specs.Checks.{check_job}
use Rattle.job.specs.Check.{Accepted}
use Rattle.calls.proofs.Demands.{promise}
use Rattle.records.specs.Record.{workers_in}
use Rattle.records.specs.Answers.{record_table, record_bytes, record_tally}
use Rattle.records.specs.Laws.{Answered, OnRecord}
use Rattle.records.proofs.Recorded.{record-length, record-pairs, record-workers}
use Rattle.records.proofs.ByRows.{run-exactly, replay-exactly}
use Rattle.records.proofs.FirstOfLists.{first-listed}
use Rattle.records.proofs.Promised.{unstarted, ends_in, before, runs, once, bytes, elsewhere}
use Rattle.records.proofs.Worked.{records_right}

pub answered : (s : List ℕ) → Answered s
unfolding record_table record_bytes record_tally
answered s =
    record {
      runs = run-exactly s;
      replays = replay-exactly s;
      untouched = λ number place t ws buf. (refl, refl, refl);
      unstarted = λ number place t r. unstarted number place s t r;
      worked = records_right;
    }

pub on_record : (s : List ℕ) → Accepted ≡ check_job s → OnRecord s
on_record s e =
    record {
      runs = λ t ws f. runs s e t f ws;
      once = λ t ws buf f. once s e t f ws buf;
      long = λ t ws. record-length (job_of s) ws t;
      pairs = λ t ws. record-pairs (job_of s) ws t;
      bytes = bytes s e;
      schedule = λ t ws. record-workers (job_of s) ws t;
      one = λ t ws vs q. sym (record-workers (job_of s) ws t) ∙ (ap workers_in q ∙ record-workers (job_of s) vs t);
      lists = λ t ws buf f. first-listed s e t ws buf f;
      promise = promise s e;
      ends = λ t r f. ends_in s e t f r;
      before = λ t r k f. before s e t f r k;
      elsewhere = elsewhere s e;
    }

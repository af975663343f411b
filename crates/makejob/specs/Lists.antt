-- What `makejob < my.rules | verdicts` shows (02, order 1; 01, 'The listing program').
--   Lists l          the listing of the job of l, whatever turns of its workers stand behind it. That what it shows is the model of the rules as
--                    they are typed is lines/specs/Laws: Made.model
use Rattle.std.specs.Prelude.{ℕ, List}
use Rattle.lines.specs.Lines.{Lines, job_from}
use Rattle.listing.specs.Told.{Scheduled, Listing}

pub record Lists (l : Lines) : Type 0 where
  pub whole : (ws : List ℕ) → Scheduled (job_from l) ws → Listing (job_from l) ws

-- What is told of every input (specs/Told). Assumes nothing.
use mathlib.Core.List.{List}
use Prim.Native.Nat.{ℕ}
use Rattle.writing.proofs.Decimal.{decimals}
use Rattle.writing.proofs.Wrote.{wrote_laws}
use Rattle.listing.specs.Listing.{job_part}
use Rattle.listing.specs.Told.{Told}
use Rattle.listing.proofs.Finished.{finished}
use Rattle.listing.proofs.Worked.{listings_right}
use Rattle.listing.proofs.Shown.{listing-some, shows}
use Rattle.listing.proofs.Whole.{whole}

pub told : (i : List ℕ) → Told i
told i =
    record {
      some = listing-some i;
      shows = shows i;
      whole = whole;
      finished = finished (job_part i);
      numbers = decimals;
      bytes = wrote_laws;
      worked = listings_right;
    }

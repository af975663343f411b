-- Room for what is kept: an array of zeros, of which the front has a number a claim; and that it stays the same room. Assumes nothing.
use Prim.Native.Nat.{ℕ, ◌≤◌}
use mathlib.Core.Path.{◌≡◌, refl, sym, ◌∙◌}
use mathlib.Core.List.{List}
use lib.ListN.{length, take, replicate}
use Rattle.job.specs.Format.{claims, job_of}
use Rattle.base.proofs.Zeros.{front_long}
use Rattle.table.proofs.Sizes.{sizes}
use Rattle.turn.specs.KeptSet.{SameRoom}
use Rattle.turn.specs.declared.HeldSet.{HeldSet}

-- as many of the zeros as a job has claims
pub front-claims : (s : List ℕ) {n : ℕ} → n ≡ claims s → (m : ℕ) → n ≤ m → length {A = ℕ} (take n (replicate m 0)) ≡ (job_of s).claims
front-claims s e m l = front_long m refl l ∙ (e ∙ sym (sizes s).claims_are)

pub same_room : (a : HeldSet) → SameRoom a a
same_room a = record { same_place = refl; same_members = refl; place_long = refl; members_long = refl }

pub room_on : {a b c : HeldSet} → SameRoom a b → SameRoom b c → SameRoom a c
room_on p q =
    record {
      same_place = q.same_place ∙ p.same_place;
      same_members = q.same_members ∙ p.same_members;
      place_long = q.place_long ∙ p.place_long;
      members_long = q.members_long ∙ p.members_long;
    }

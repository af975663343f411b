-- A text written part by part: what stands there so far, and what is still to come. Assumes nothing.
--   Onward ..      `all` is written at `at₀` of `buf₀` up to `rest`, and `buf` and `at` are how far that is
--   onward-start, -room, _more, _end   nothing yet; there is room for the rest; one part more; all
use Prim.Native.Nat.{ℕ, ◌+◌, ◌≤◌}
use mathlib.Core.Path.{◌≡◌, refl, sym, ◌∙◌, ap}
use mathlib.Core.List.{List, [], ◌++◌, append-nil, append_assoc}
use native.Mathlib.Omega.{arith}
use lib.ListN.{length, length-append}
use Rattle.writing.specs.Written.{Put}
use Rattle.writing.proofs.Wrote.{put_none, put_size, put_put, put_as}

pub record Onward (buf₀ : List ℕ) (at₀ : ℕ) (all buf : List ℕ) (at : ℕ) (rest : List ℕ) : Type 0 where
  pub done : List ℕ
  pub split : all ≡ done ++ rest
  pub put : Put buf₀ at₀ done buf at

pub onward-start : (buf : List ℕ) (at : ℕ) (all : List ℕ) → Onward buf at all buf at all
onward-start buf at all = record { done = []; split = refl; put = put_none buf at }

module _ {buf₀ : List ℕ} {at₀ : ℕ} {all buf : List ℕ} {at : ℕ} {rest : List ℕ} (fits : at₀ + length all ≤ length buf₀) (o : Onward buf₀ at₀ all buf at rest) where
  sizes : length all ≡ length o.done + length rest
  sizes = ap length o.split ∙ length-append o.done rest

  pub onward_size : length buf ≡ length buf₀
  onward_size = put_size buf₀ at₀ o.done buf at (omega (arith, sizes)) o.put

  pub onward-room : at + length rest ≤ length buf
  onward-room = omega (arith, sizes, onward_size, o.put.next)

  pub onward_more : (t rest' buf' : List ℕ) (at' : ℕ) → rest ≡ t ++ rest' → Put buf at t buf' at' → Onward buf₀ at₀ all buf' at' rest'
  onward_more t rest' buf' at' e p =
      record {
        done = o.done ++ t;
        split = o.split ∙ ap (λ (x : List ℕ). o.done ++ x) e ∙ sym (append_assoc o.done t rest');
        put = put_put buf₀ at₀ o.done buf at (omega (arith, sizes)) o.put t buf' at' p;
      }

pub onward_end : {buf₀ : List ℕ} {at₀ : ℕ} {all buf : List ℕ} {at : ℕ} {rest : List ℕ} → Onward buf₀ at₀ all buf at rest → rest ≡ [] → Put buf₀ at₀ all buf at
onward_end o e = put_as o.put (sym (o.split ∙ ap (λ (x : List ℕ). o.done ++ x) e ∙ append-nil o.done))

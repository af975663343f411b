-- How far a line fits, byte by byte. Assumes nothing.
--   reach_more, reach-stop, reach_end   over a byte that fits; at one that doesn't; at the line's end
use Prim.Native.Nat.{ℕ, ◌+◌, ◌<◌, ◌≤◌}
use mathlib.Core.List.{List}
use mathlib.Core.Path.{◌≡◌, sym, ◌∙◌, ap}
use mathlib.Core.Bool.{true, false, not}
use native.Mathlib.Numerals.{add-one}
use lib.ListN.{length, get_or, drop, drop_of_length-le}
use lib.Seq.{drop-cons}
use Rattle.base.proofs.Choose.{pick_true, pick-false}
use Rattle.lines.specs.Grammar.{step, is_bad}
use Rattle.lines.specs.declared.State.{State}
use Rattle.makejob.specs.Faults.{reach_from}

module _ (st : State) (s : List ℕ) (i : ℕ) where
  pub reach_more : i < length s → is_bad (step st (get_or s i 0)) ≡ false → reach_from (step st (get_or s i 0)) (i + 1) (drop (i + 1) s) ≡ reach_from st i (drop i s)
  unfolding reach_from
  reach_more h e =
      ap (λ (k : ℕ). reach_from (step st (get_or s i 0)) (i + 1) (drop k s)) (add-one i)
      ∙ sym (pick-false _ _ _ e)
      ∙ ap (reach_from st i) (sym (drop-cons s i 0 h))

  pub reach-stop : i < length s → is_bad (step st (get_or s i 0)) ≡ true → record { at = i; whole = false } ≡ reach_from st i (drop i s)
  unfolding reach_from
  reach-stop h e = sym (pick_true _ _ _ e) ∙ ap (reach_from st i) (sym (drop-cons s i 0 h))

  pub reach_end : length s ≤ i → record { at = i; whole = not (is_bad (step st 10)) } ≡ reach_from st i (drop i s)
  unfolding reach_from
  reach_end h = ap (reach_from st i) (sym (drop_of_length-le s h))

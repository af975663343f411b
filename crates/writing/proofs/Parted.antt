-- A part of the output for each element of a list, one after the other. Assumes nothing.
--   Parted f ..     the parts of the first i elements of xs are written
--   parted-start, -room, _size, _more, _end   none yet; room for one more; the output's length; one more; all
--   flat-length    how long parts of equal length are together
--   flat_same      the same parts by another name
--   flat-map       the parts of elements that were made of others; map_flat   parts, each element of which is made another
--   flat_append    the parts of two lists, one behind the other; flat_flat   parts of parts
use Prim.Native.Nat.{ℕ, ◌+◌, ◌*◌, ◌<◌, ◌≤◌}
use mathlib.Core.Path.{◌≡◌, refl, sym, ◌∙◌, ap, ap₂}
use mathlib.Core.List.{List, [], ◌∷◌, ◌++◌, map, flat_map, append_assoc, map-append}
use native.Mathlib.Numerals.{add-one}
use native.Mathlib.Omega.{arith}
use lib.ListN.{length, get_or, drop, drop_of_length-le, length-append}
use lib.Seq.{drop-cons}
use Rattle.writing.specs.Written.{Put}
use Rattle.writing.proofs.Wrote.{put_as}
use Rattle.writing.proofs.Onward.{Onward, onward-start, onward_size, onward-room, onward_more, onward_end}

pub record Parted (f : ℕ → List ℕ) (out₀ : List ℕ) (at : ℕ) (xs out : List ℕ) (to i : ℕ) : Type 0 where
  pub most : i ≤ length xs
  pub fits : at + length (flat_map f xs) ≤ length out₀
  pub onward : Onward out₀ at (flat_map f xs) out to (flat_map f (drop i xs))

pub parted-start : (f : ℕ → List ℕ) (out₀ : List ℕ) (at : ℕ) (xs : List ℕ) → at + length (flat_map f xs) ≤ length out₀ → Parted f out₀ at xs out₀ at 0
parted-start f out₀ at xs h = record { most = omega arith; fits = h; onward = onward-start out₀ at (flat_map f xs) }

module _ {f : ℕ → List ℕ} {out₀ : List ℕ} {at : ℕ} {xs out : List ℕ} {to i : ℕ} (a : Parted f out₀ at xs out to i) where
  next : i < length xs → flat_map f (drop i xs) ≡ f (get_or xs i 0) ++ flat_map f (drop (i + 1) xs)
  unfolding flat_map
  next h = ap (flat_map f) (drop-cons xs i 0 h) ∙ ap (λ (k : ℕ). f (get_or xs i 0) ++ flat_map f (drop k xs)) (sym (add-one i))

  -- x is element i, as it was read
  pub parted-room : (x : ℕ) → x ≡ get_or xs i 0 → i < length xs → to + length (f x) ≤ length out
  parted-room x e h =
      omega (arith, onward-room a.fits a.onward, ap length (next h), length-append (f (get_or xs i 0)) (flat_map f (drop (i + 1) xs)), ap (λ (k : ℕ). length (f k)) e)

  pub parted_size : length out ≡ length out₀
  parted_size = onward_size a.fits a.onward

  pub parted_more : (out' : List ℕ) (to' x : ℕ) → x ≡ get_or xs i 0 → i < length xs → Put out to (f x) out' to' → Parted f out₀ at xs out' to' (i + 1)
  parted_more out' to' x e h p =
      record { most = omega arith; fits = a.fits; onward = onward_more a.fits a.onward (f (get_or xs i 0)) _ out' to' (next h) (put_as p (ap f e)) }

  pub parted_end : length xs ≤ i → Put out₀ at (flat_map f xs) out to
  unfolding flat_map
  parted_end h = onward_end a.onward (ap (flat_map f) (drop_of_length-le xs h))

pub flat-length : {A : Type 0} (f : A → List ℕ) (n : ℕ) (xs : List A) → ((x : A) → length (f x) ≡ n) → length (flat_map f xs) ≡ n * length xs
unfolding flat_map
flat-length f n [] h = omega arith
flat-length f n (x ∷ xs) h = length-append (f x) (flat_map f xs) ∙ omega (arith, h x, flat-length f n xs h)

pub flat_same : {A B : Type 0} (f g : A → List B) → ((x : A) → f x ≡ g x) → (xs : List A) → flat_map f xs ≡ flat_map g xs
unfolding flat_map
flat_same f g e [] = refl
flat_same f g e (x ∷ xs) = ap₂ ◌++◌ (e x) (flat_same f g e xs)

pub flat-map : {A B C : Type 0} (f : B → List C) (g : A → B) (xs : List A) → flat_map f (map g xs) ≡ flat_map (λ x. f (g x)) xs
unfolding flat_map
flat-map f g [] = refl
flat-map f g (x ∷ xs) = ap (λ l. f (g x) ++ l) (flat-map f g xs)

pub map_flat : {A B C : Type 0} (g : B → C) (f : A → List B) (xs : List A) → map g (flat_map f xs) ≡ flat_map (λ x. map g (f x)) xs
unfolding flat_map
map_flat g f [] = refl
map_flat g f (x ∷ xs) = map-append g (f x) (flat_map f xs) ∙ ap (λ l. map g (f x) ++ l) (map_flat g f xs)

pub flat_append : {A B : Type 0} (f : A → List B) (xs ys : List A) → flat_map f (xs ++ ys) ≡ flat_map f xs ++ flat_map f ys
unfolding flat_map
flat_append f [] ys = refl
flat_append f (x ∷ xs) ys = ap (λ l. f x ++ l) (flat_append f xs ys) ∙ sym (append_assoc (f x) (flat_map f xs) (flat_map f ys))

pub flat_flat : {A B C : Type 0} (g : B → List C) (f : A → List B) (xs : List A) → flat_map g (flat_map f xs) ≡ flat_map (λ x. flat_map g (f x)) xs
unfolding flat_map
flat_flat g f [] = refl
flat_flat g f (x ∷ xs) = flat_append g (f x) (flat_map f xs) ∙ ap (λ l. flat_map g (f x) ++ l) (flat_flat g f xs)

-- where each part has n bytes
pub parted-start-by : (f : ℕ → List ℕ) (n : ℕ) (out₀ : List ℕ) (at : ℕ) (xs : List ℕ) → ((x : ℕ) → length (f x) ≡ n) → at + n * length xs ≤ length out₀ → Parted f out₀ at xs out₀ at 0
parted-start-by f n out₀ at xs h l = parted-start f out₀ at xs (rw (flat-length f n xs h) l)

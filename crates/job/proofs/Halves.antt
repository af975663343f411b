-- Bytes as 16-bit fields: a list of fields stands in s from a byte on, and the bytes of a list of fields. Assumes nothing.
use Prim.Native.Nat.{ℕ, zero, suc, ◌+◌, ◌*◌, ◌/◌, ◌%◌, ◌<◌}
use mathlib.Core.Path.{◌≡◌, refl, sym, ◌∙◌, ap}
use mathlib.Core.List.{List, [], ◌∷◌, ◌++◌}
use native.Mathlib.Omega.{arith}
use native.Mathlib.Numerals.{add-two}
use native.Mathlib.Nat.{add-zero, mod-add-div, mod-eq_of_lt, div-eq_of_lt, div-lt_iff_lt-mul, add-mul-mod_self_left, add-mul-div_left}
use lib.ListN.{length}
use Rattle.job.specs.Bytes.{half, Bytes}
use Rattle.job.specs.Encoding.{half_bytes}

-- the fields hs stand in s from byte a on
abbrev pub At : List ℕ → ℕ → List ℕ → Type 0
At s a [] = Unit {0}
At s a (x ∷ hs) = (half s a ≡ x) × At s (a + 2) hs

-- every field has 16 bits
abbrev pub Small : List ℕ → Type 0
Small [] = Unit {0}
Small (x ∷ hs) = (x < 65536) × Small hs

abbrev pub bytes_of : List ℕ → List ℕ
bytes_of [] = []
bytes_of (x ∷ hs) = half_bytes x ++ bytes_of hs

-- fields one list after the other
pub at_append : (s : List ℕ) (a : ℕ) (hs ks : List ℕ) → At s a (hs ++ ks) → At s a hs × At s (a + 2 * length hs) ks
at_append s a [] ks h = (tt, rw add-zero h)
at_append s a (x ∷ hs) ks h =
    let t = at_append s (a + 2) hs ks h.1 in
    let e : a + 2 * suc (length hs) ≡ a + 2 + 2 * length hs = omega arith in
    ((h.0, t.0), rw e t.1)

pub append_at : (s : List ℕ) (a : ℕ) (hs ks : List ℕ) → At s a hs → At s (a + 2 * length hs) ks → At s a (hs ++ ks)
append_at s a [] ks h t = rw add-zero at t
append_at s a (x ∷ hs) ks h t =
    let e : a + 2 * suc (length hs) ≡ a + 2 + 2 * length hs = omega arith in
    (h.0, append_at s (a + 2) hs ks h.1 (rw e at t))

pub small_append : (hs ks : List ℕ) → Small hs → Small ks → Small (hs ++ ks)
small_append [] ks h t = t
small_append (x ∷ hs) ks h t = (h.0, small_append hs ks h.1 t)

pub bytes_append : (hs ks : List ℕ) → bytes_of (hs ++ ks) ≡ bytes_of hs ++ bytes_of ks
bytes_append [] ks = refl
bytes_append (x ∷ hs) ks = ap (λ (l : List ℕ). half_bytes x ++ l) (bytes_append hs ks)

pub length-bytes : (hs : List ℕ) → length (bytes_of hs) ≡ 2 * length hs
length-bytes [] = refl
length-bytes (x ∷ hs) = let e = length-bytes hs in omega arith

-- two bytes more in front
half-past : (x y : ℕ) (s : List ℕ) (a : ℕ) → half (x ∷ y ∷ s) (a + 2) ≡ half s a
unfolding half
half-past x y s a =
    let e : a + 2 + 1 ≡ suc (suc (a + 1)) = omega arith in
    rw (e, add-two)

at-past : (x y : ℕ) (s : List ℕ) (a : ℕ) (hs : List ℕ) → At s a hs → At (x ∷ y ∷ s) (a + 2) hs
at-past x y s a [] h = tt
at-past x y s a (k ∷ hs) h = (half-past x y s a ∙ h.0, at-past x y s (a + 2) hs h.1)

past_at : (x y : ℕ) (s : List ℕ) (a : ℕ) (hs : List ℕ) → At (x ∷ y ∷ s) (a + 2) hs → At s a hs
past_at x y s a [] h = tt
past_at x y s a (k ∷ hs) h = (sym (half-past x y s a) ∙ h.0, past_at x y s (a + 2) hs h.1)

-- a field's two bytes and back
bytes-half : (x : ℕ) → x < 65536 → x % 256 + 256 * (x / 256 % 256) ≡ x
bytes-half x h =
    let l : x / 256 < 256 = (div-lt_iff_lt-mul {k = 256} {x = x} {y = 256} (omega arith)).1 (omega arith) in
    rw (mod-eq_of_lt l) (mod-add-div x 256)

low_byte : (a b : ℕ) → a < 256 → a ≡ (a + 256 * b) % 256
low_byte a b h = sym (add-mul-mod_self_left a 256 b ∙ mod-eq_of_lt h)

high_byte : (a b : ℕ) → a < 256 → b < 256 → b ≡ (a + 256 * b) / 256 % 256
high_byte a b h l =
    let p : zero < 256 = omega arith in
    let e : (a + 256 * b) / 256 ≡ b = add-mul-div_left a b p ∙ rw (div-eq_of_lt h) (omega arith) in
    rw e (sym (mod-eq_of_lt l))

-- the bytes of fields hold those fields
pub at-bytes : (hs : List ℕ) → Small hs → At (bytes_of hs) 0 hs
unfolding half
at-bytes [] h = tt
at-bytes (x ∷ hs) h = (bytes-half x h.0, at-past _ _ (bytes_of hs) 0 hs (at-bytes hs h.1))

-- and bytes that hold them, no more, are theirs
pub bytes_at : (s hs : List ℕ) → Bytes s → length s ≡ 2 * length hs → At s 0 hs → s ≡ bytes_of hs
unfolding half
bytes_at [] [] b l h = refl
bytes_at [] (x ∷ hs) b l h = absurd (omega arith)
bytes_at (a ∷ []) [] b l h = absurd (omega arith)
bytes_at (a ∷ []) (x ∷ hs) b l h = absurd (omega arith)
bytes_at (a ∷ c ∷ s) [] b l h = absurd (omega arith)
bytes_at (a ∷ c ∷ s) (x ∷ hs) b l h =
    let r : s ≡ bytes_of hs = bytes_at s hs (λ k. b (suc (suc k))) (omega arith) (past_at a c s 0 hs h.1) in
    let e : a ≡ x % 256 = low_byte a c (b 0) ∙ ap (λ (k : ℕ). k % 256) h.0 in
    let f : c ≡ x / 256 % 256 = high_byte a c (b 0) (b 1) ∙ ap (λ (k : ℕ). k / 256 % 256) h.0 in
    cc

-- The literals of the part, written. Assumes nothing.
--   put_out, put-plain, put-negated, put-length   one literal of a body: of a claim that isn't in the part; of one that is, plain or negated; its length
--   Putting ..                      the literals before k are written
--   putting-start, -room, _more, _end    none yet; room for one more; one more; all
--   own-fits, _room, _put    the negation of a claim of the part behind them
use Prim.Native.Nat.{ℕ, ◌+◌, ◌-◌, ◌<◌, ◌≤◌}
use mathlib.Core.Path.{◌≡◌, refl, sym, ◌∙◌, ap}
use mathlib.Core.Bool.{Bool, true, false, not}
use Rattle.std.specs.Prelude.{Option, None, Some}
use mathlib.Core.List.{List, [], ◌∷◌, ◌++◌, flat_map}
use native.Mathlib.Omega.{arith}
use borrow.Author.Tests.{eq-eqb, ne_eqb}
use lib.ListN.{length, get_or, length-append}
use Rattle.base.specs.Sets.{set_of}
use Rattle.job.specs.Job.{claim_of}
use Rattle.job.specs.Format.{rules, literal_at}
use Rattle.job.specs.Encoding.{half_bytes, field_of}
use Rattle.job.specs.declared.Literal.{Literal}
use Rattle.job.specs.declared.Literal.TheVariants.{Plain, Negated}
use Rattle.semantics.specs.Model.{Body}
use Rattle.writing.specs.Writes.{Writes, HasRoom}
use Rattle.writing.specs.declared.writer.Writer.{Writer}
use Rattle.writing.proofs.Parted.{flat_append}
use Rattle.writing.proofs.Writing.{writes_none, writes_as, writes-room, writes-writes}
use Rattle.parts.proofs.Texting.{Texting, texting-start, texting-room, texting_more, texting_end}
use Rattle.parts.specs.Part.{within, renumbered, part_literals}
use Rattle.parts.specs.Written.{literals_in, literal_bytes, with_own}
use Rattle.parts.proofs.LiteralsRead.{literals_none, literals_more}
use Rattle.parts.proofs.Counting.{first_in, first_out}

abbrev pub part_bytes : List ℕ → Body → List ℕ
part_bytes place b = literal_bytes (part_literals place b)

-- the bytes of the first literal, and those of the others
one_more : (place : List ℕ) (l : Literal) (b : Body) → part_bytes place (l ∷ b) ≡ part_bytes place (l ∷ []) ++ part_bytes place b
unfolding flat_map part_literals
one_more place l b = go (within place l) refl
  where
    go : (w : Bool) → within place l ≡ w → part_bytes place (l ∷ b) ≡ part_bytes place (l ∷ []) ++ part_bytes place b
    go true e = ap literal_bytes (first_in place l b e) ∙ ap (λ (x : List ℕ). x ++ part_bytes place b) (sym (ap literal_bytes (first_in place l [] e)))
    go false e = ap literal_bytes (first_out place l b e) ∙ ap (λ (x : List ℕ). x ++ part_bytes place b) (sym (ap literal_bytes (first_out place l [] e)))

-- one literal of a body, by its claim's place n
module _ (place : List ℕ) (l : Literal) {b n : ℕ} (claim : b ≡ claim_of l) (read : n ≡ get_or place b 0) where
  at_place : n ≡ get_or place (claim_of l) 0
  at_place = read ∙ ap (λ (c : ℕ). get_or place c 0) claim

  out_is : n ≡ 0 → within place l ≡ false
  unfolding set_of
  out_is z = ap not (eq-eqb (get_or place (claim_of l) 0) 0 (sym at_place ∙ z))

  in_is : (n ≡ 0 → ⊥) → within place l ≡ true
  unfolding set_of
  in_is z = ap not (ne_eqb (get_or place (claim_of l) 0) 0 (λ e. z (at_place ∙ e)))

  pub put_out : (out : Writer) → n ≡ 0 → Writes out out (part_bytes place (l ∷ []))
  unfolding part_literals flat_map
  put_out out z = writes_as (writes_none out) (sym (ap literal_bytes (first_out place l [] (out_is z))))

  -- it has number m in the part
  module _ {m : ℕ} (number : (1 ≤ n) × (m ≡ n - 1)) where
    one-bytes : half_bytes (field_of (renumbered place l)) ≡ part_bytes place (l ∷ [])
    unfolding part_literals flat_map
    one-bytes = sym (ap literal_bytes (first_in place l [] (in_is (λ z. omega (arith, number.0)))))

    at_number : m ≡ get_or place (claim_of l) 0 - 1
    at_number = omega (arith, at_place)

    pub put-length : length (part_bytes place (l ∷ [])) ≡ 2
    put-length = sym (ap length one-bytes)

    pub put-plain : {c : ℕ} {out out' : Writer} → l ≡ Plain c → Writes out out' (half_bytes m) → Writes out out' (part_bytes place (l ∷ []))
    put-plain e p = writes_as p (ap half_bytes (at_number ∙ plain e) ∙ one-bytes)
      where
        plain : {c : ℕ} → l ≡ Plain c → get_or place (claim_of l) 0 - 1 ≡ field_of (renumbered place l)
        plain e = rw e

    pub put-negated : {c : ℕ} {out out' : Writer} → l ≡ Negated c → Writes out out' (half_bytes (32768 + m)) → Writes out out' (part_bytes place (l ∷ []))
    put-negated e p = writes_as p (ap half_bytes (ap (λ (k : ℕ). 32768 + k) at_number ∙ negated e) ∙ one-bytes)
      where
        negated : {c : ℕ} → l ≡ Negated c → 32768 + (get_or place (claim_of l) 0 - 1) ≡ field_of (renumbered place l)
        negated e = rw e

abbrev pub Putting : List ℕ → List ℕ → ℕ → ℕ → Writer → Writer → ℕ → Type 0
Putting s place from end out₀ out k = Texting out₀ (part_bytes place (literals_in s from end)) out (part_bytes place (literals_in s k end))

module _ (s place : List ℕ) (from end : ℕ) where
  pub putting-start : (out : Writer) → HasRoom out (length (part_bytes place (literals_in s from end))) → Putting s place from end out out from
  putting-start out h = texting-start out h refl

  module _ {out₀ out : Writer} {k : ℕ} (a : Putting s place from end out₀ out k) where
    module _ (l : k < end) {x : Literal} (is : x ≡ literal_at s (rules s) k) where
      first : part_bytes place (literals_in s k end) ≡ part_bytes place (x ∷ []) ++ part_bytes place (literals_in s (k + 1) end)
      first =
          ap (part_bytes place) (literals_more s k end l ∙ ap (λ (y : Literal). y ∷ literals_in s (k + 1) end) (sym is))
          ∙ one_more place x (literals_in s (k + 1) end)

      pub putting-room : HasRoom out (length (part_bytes place (x ∷ [])))
      putting-room = texting-room a _ _ first

      pub putting_more : {out' : Writer} → Writes out out' (part_bytes place (x ∷ [])) → Putting s place from end out₀ out' (k + 1)
      putting_more w = texting_more a _ _ first w

    pub putting_end : end ≤ k → Writes out₀ out (part_bytes place (literals_in s from end))
    unfolding part_literals flat_map
    putting_end h = texting_end a (ap (part_bytes place) (literals_none s k end h))

-- the negation of a claim of the part behind the literals of b
own-bytes : (i : ℕ) (b : Body) → literal_bytes (with_own (Some i) b) ≡ literal_bytes b ++ half_bytes (32768 + i)
unfolding flat_map
own-bytes i b = flat_append (λ l. half_bytes (field_of l)) b (Negated i ∷ [])

module _ (own : Option ℕ) (b : Body) (out : Writer) (fits : HasRoom out (length (literal_bytes (with_own own b)))) where
  pub own-fits : HasRoom out (length (literal_bytes b))
  own-fits = go own fits
    where
      go : (o : Option ℕ) → HasRoom out (length (literal_bytes (with_own o b))) → HasRoom out (length (literal_bytes b))
      go None h = h
      go (Some i) h = omega (arith, ap length (own-bytes i b), length-append (literal_bytes b) (half_bytes (32768 + i)))

  module _ {out' : Writer} (p : Writes out out' (literal_bytes b)) where
    module _ {i : ℕ} (some : own ≡ Some i) where
      one-own : literal_bytes (with_own own b) ≡ literal_bytes b ++ half_bytes (32768 + i)
      one-own = ap (λ (o : Option ℕ). literal_bytes (with_own o b)) some ∙ own-bytes i b

      pub own_room : HasRoom out' 2
      own_room =
          writes-room _ _ _ own-fits p 2 (omega (arith, ap length one-own, length-append (literal_bytes b) (half_bytes (32768 + i))))

      pub own_put : {out'' : Writer} → Writes out' out'' (half_bytes (32768 + i)) → Writes out out'' (literal_bytes (with_own own b))
      own_put q = writes_as (writes-writes _ _ _ own-fits p _ _ q) (sym one-own)

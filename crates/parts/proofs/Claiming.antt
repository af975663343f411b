-- The rules of all claims of a part, written claim by claim. Assumes nothing.
--   members-few, member_below   no more members than claims; a member is a claim
--   member_text ..                           what is written of the part's claim i
--   Claiming ..                              those of the first i claims are written
--   claiming-start, -room, _more, _end   none yet; room for one more; one more; all
use Prim.Native.Nat.{ℕ, ◌+◌, ◌<◌, ◌≤◌}
use mathlib.Core.Path.{◌≡◌, sym, ◌∙◌, ap}
use mathlib.Core.List.{List, [], flat_map}
use native.Mathlib.Nat.{zero-add}
use native.Mathlib.Omega.{arith}
use lib.ListN.{length, get_or}
use Rattle.base.specs.Lists.{upto}
use Rattle.base.proofs.ByteSets.{set_below}
use Rattle.base.proofs.Span.{length-span, get_d-span}
use Rattle.job.specs.Format.{claims, job_of}
use Rattle.writing.specs.Writes.{Writes, HasRoom}
use Rattle.writing.specs.declared.writer.Writer.{Writer}
use Rattle.writing.proofs.Parted.{flat_flat}
use Rattle.writing.proofs.Writing.{writes_as, Along, along-start, along-room, along_more, along_end}
use Rattle.parts.specs.Part.{Numbered, claim_rules, part}
use Rattle.parts.specs.declared.claim.Section.{Section}
use Rattle.parts.specs.Written.{text_of, texts_of, part_texts}
use Rattle.parts.proofs.Rules.{member-set}
use Rattle.parts.proofs.Sizes.{fewer-claims}

module _ (s place ms : List ℕ) (long : length place ≡ claims s) (numbered : Numbered place ms) where
  pub members-few : length ms ≤ claims s
  unfolding job_of
  members-few = fewer-claims (job_of s) [] place ms numbered long

  pub member_below : (i : ℕ) {c : ℕ} → i < length ms → c ≡ get_or ms i 0 → c < claims s
  member_below i h e = omega (arith, set_below place (get_or ms i 0) (member-set place ms numbered i h), long)

module _ (section : Section) (s t place ms : List ℕ) where
  abbrev pub member_text : ℕ → List ℕ
  member_text i = texts_of section (claim_rules t place i (get_or ms i 0) (job_of s).rules)

  all_texts : part_texts section s t place ms ≡ flat_map member_text (upto (length ms))
  unfolding part
  all_texts = flat_flat (text_of section) (λ i. claim_rules t place i (get_or ms i 0) (job_of s).rules) (upto (length ms))

  abbrev pub Claiming : Writer → Writer → ℕ → Type 0
  Claiming out₀ out i = Along member_text out₀ (upto (length ms)) out i

  pub claiming-start : (out : Writer) → HasRoom out (length (part_texts section s t place ms)) → Claiming out out 0
  claiming-start out h = along-start member_text out (upto (length ms)) (omega (arith, ap length all_texts))

  module _ {out₀ out : Writer} {i : ℕ} (a : Claiming out₀ out i) where
    -- c is the part's claim i, as it was read
    module _ {c : ℕ} (h : i < length ms) (read : c ≡ get_or ms i 0) where
      inside : i < length (upto (length ms))
      inside = omega (arith, length-span (λ k. k) 0 (length ms))

      itself : i ≡ get_or (upto (length ms)) i 0
      itself = sym (get_d-span (λ k. k) 0 (length ms) i 0 h ∙ zero-add i)

      text_is : texts_of section (claim_rules t place i c (job_of s).rules) ≡ member_text i
      text_is = ap (λ (d : ℕ). texts_of section (claim_rules t place i d (job_of s).rules)) read

      pub claiming-room : HasRoom out (length (texts_of section (claim_rules t place i c (job_of s).rules)))
      claiming-room = omega (arith, ap length text_is, along-room a i itself inside)

      pub claiming_more : {out' : Writer} → Writes out out' (texts_of section (claim_rules t place i c (job_of s).rules)) → Claiming out₀ out' (i + 1)
      claiming_more w = along_more a _ i itself inside (writes_as w text_is)

    pub claiming_end : length ms ≤ i → Writes out₀ out (part_texts section s t place ms)
    claiming_end h = writes_as (along_end a (omega (arith, length-span (λ k. k) 0 (length ms)))) (sym all_texts)

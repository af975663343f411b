-- A text that a writer writes part by part: what is written so far, and what is still to come. Assumes nothing.
--   Texting ..      writer a had room for `all`, of which it has written what stands before `rest`, and is b now
--   texting-start, -room, _more, _end   nothing yet; there is room for a part in front of the rest; it is written; all
use Prim.Native.Nat.{ℕ}
use mathlib.Core.Path.{◌≡◌, refl, ◌∙◌, ap, subst}
use mathlib.Core.List.{List, [], ◌++◌}
use native.Mathlib.Omega.{arith}
use lib.ListN.{length, length-append}
use Rattle.writing.proofs.Onward.{Onward, onward-start, onward-room, onward_more, onward_end}
use Rattle.writing.specs.Writes.{Writes, HasRoom}
use Rattle.writing.specs.declared.writer.Writer.{Writer}

pub record Texting (a : Writer) (all : List ℕ) (b : Writer) (rest : List ℕ) : Type 0 where
  pub same_buffer : b.buf.ghost_name ≡ a.buf.ghost_name
  pub fits : HasRoom a (length all)
  pub onward : Onward a.buf.now a.at all b.buf.now b.at rest

-- `rest` is all, by another name
pub texting-start : (a : Writer) {all rest : List ℕ} → HasRoom a (length all) → all ≡ rest → Texting a all a rest
texting-start a {all} {rest} h e = record { same_buffer = refl; fits = h; onward = subst (Onward a.buf.now a.at all a.buf.now a.at) e (onward-start _ _ all) }

module _ {a b : Writer} {all rest : List ℕ} (p : Texting a all b rest) where
  module _ (t rest' : List ℕ) (first : rest ≡ t ++ rest') where
    pub texting-room : HasRoom b (length t)
    texting-room = omega (arith, onward-room p.fits p.onward, ap length first, length-append t rest')

    pub texting_more : {c : Writer} → Writes b c t → Texting a all c rest'
    texting_more w =
        record { same_buffer = w.same_buffer ∙ p.same_buffer; fits = p.fits; onward = onward_more p.fits p.onward t rest' _ _ first w.put }

  pub texting_end : rest ≡ [] → Writes a b all
  texting_end e = record { same_buffer = p.same_buffer; put = onward_end p.onward e }

-- Texts that a writer writes, one after the other. Assumes nothing.
--   writes-room, writes-writes   what is left behind a text; one text and then another
--   writes_none, writes_as       nothing; the text by another name
--   Along f ..                   the parts of the first i elements of a list; along-start, -room, _more, _end
use Prim.Native.Nat.{ℕ, ◌+◌, ◌*◌, ◌<◌, ◌≤◌}
use mathlib.Core.Path.{◌≡◌, refl, ◌∙◌}
use mathlib.Core.List.{List, [], ◌++◌, flat_map}
use native.Mathlib.Omega.{arith}
use lib.ListN.{length, get_or}
use Rattle.writing.proofs.Parted.{Parted, parted-start, parted-start-by, parted-room, parted_more, parted_end}
use Rattle.writing.proofs.Wrote.{put_none, put_put, put_size, put_as}
use Rattle.writing.specs.declared.writer.Writer.{Writer}
use Rattle.writing.specs.Writes.{Writes, HasRoom}

pub writes_none : (a : Writer) → Writes a a []
writes_none a = record { same_buffer = refl; put = put_none _ _ }

pub writes_as : {a b : Writer} {s t : List ℕ} → Writes a b s → s ≡ t → Writes a b t
writes_as p e = record { same_buffer = p.same_buffer; put = put_as p.put e }

module _ (a b : Writer) (s : List ℕ) (fits : HasRoom a (length s)) (p : Writes a b s) where
  pub writes-size : length b.buf.now ≡ length a.buf.now
  writes-size = put_size _ _ _ _ _ fits p.put

  pub writes-room : (n : ℕ) → HasRoom a (length s + n) → HasRoom b n
  writes-room n h = omega (arith, writes-size, p.put.next)

  pub writes-writes : (c : Writer) (t : List ℕ) → Writes b c t → Writes a c (s ++ t)
  writes-writes c t q = record { same_buffer = q.same_buffer ∙ p.same_buffer; put = put_put _ _ _ _ _ fits p.put _ _ _ q.put }

-- a part for each element of a list: a loop that writes them one after the other
pub record Along (f : ℕ → List ℕ) (a : Writer) (xs : List ℕ) (b : Writer) (i : ℕ) : Type 0 where
  pub same_buffer : b.buf.ghost_name ≡ a.buf.ghost_name
  pub parted : Parted f a.buf.now a.at xs b.buf.now b.at i

pub along-start : (f : ℕ → List ℕ) (a : Writer) (xs : List ℕ) → HasRoom a (length (flat_map f xs)) → Along f a xs a 0
along-start f a xs h = record { same_buffer = refl; parted = parted-start f _ _ xs h }

pub along-start-by : (f : ℕ → List ℕ) (n : ℕ) (a : Writer) (xs : List ℕ) → ((x : ℕ) → length (f x) ≡ n) → HasRoom a (n * length xs) → Along f a xs a 0
along-start-by f n a xs e h = record { same_buffer = refl; parted = parted-start-by f n _ _ xs e h }

module _ {f : ℕ → List ℕ} {a b : Writer} {xs : List ℕ} {i : ℕ} (p : Along f a xs b i) where
  -- x is element i, as it was read
  pub along-room : (x : ℕ) → x ≡ get_or xs i 0 → i < length xs → HasRoom b (length (f x))
  along-room = parted-room p.parted

  pub along_more : (c : Writer) (x : ℕ) → x ≡ get_or xs i 0 → i < length xs → Writes b c (f x) → Along f a xs c (i + 1)
  along_more c x e h w = record { same_buffer = w.same_buffer ∙ p.same_buffer; parted = parted_more p.parted _ _ x e h w.put }

  pub along_end : length xs ≤ i → Writes a b (flat_map f xs)
  along_end h = record { same_buffer = p.same_buffer; put = parted_end p.parted h }

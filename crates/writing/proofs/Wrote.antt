-- What a buffer holds once text is written into it. Assumes nothing.
--   wrote_none, wrote_byte         nothing; one byte
--   wrote-length, wrote-wrote      the buffer's length; one text and then another
--   wrote_laws                     specs/Written: Wrote
--   put_none, put_put, put_size    the same, of what a function that writes ensures
--   put_as                         the text by another name
--   copy_start, _more, -whole      a text copied from the front: nothing yet; one byte more; all
--   from_back                      a text known by the bytes before it and those from it on
--   put-part, put_front            a text that was written, as a part of the buffer
--   rest_all                       a slice from a place on
use Prim.Native.Nat.{ℕ, suc, ◌+◌, ◌-◌, ◌≤◌, ◌<◌}
use mathlib.Core.Path.{◌≡◌, sym, ◌∙◌, ap, ap₂}
use mathlib.Core.List.{List, [], ◌∷◌, ◌++◌, append_assoc}
use native.Mathlib.Numerals.{add-one}
use native.Mathlib.Omega.{arith}
use lib.ListN.{length, set, take, drop, get_or, length-append, length-drop, take-append-drop, get_or-append}
use lib.Seq.{set_split, append_snoc, length-paste, paste, paste-zero, paste-suc, take-length, take_all, take_at, drop_at, take-take, drop-drop, get_or-append-add, length-take-le}
use Rattle.writing.specs.Written.{wrote, Put, Wrote}

module _ (buf : List ℕ) (at : ℕ) where
  pub wrote_byte : (b : ℕ) → at < length buf → set buf at b ≡ wrote buf at (b ∷ [])
  unfolding wrote
  wrote_byte b h =
      set_split buf at b h
      ∙ sym (append_snoc (take at buf) b (drop (suc at) buf))
      ∙ ap (λ (k : ℕ). take at buf ++ (b ∷ []) ++ drop k buf) (sym (add-one at))

  module _ (text : List ℕ) (fits : at + length text ≤ length buf) where
    head-length : length (take at buf ++ text) ≡ at + length text
    head-length = length-append (take at buf) text ∙ ap (λ (k : ℕ). k + length text) (length-take-le at buf (omega arith))

    pub wrote-length : length (wrote buf at text) ≡ length buf
    unfolding wrote
    wrote-length =
        ap (λ (t : List ℕ). length (take at buf ++ t ++ drop (at + length text) buf)) (sym (take-length text))
        ∙ length-paste buf at text (length text) fits (omega arith)

    wrote-take : take (at + length text) (wrote buf at text) ≡ take at buf ++ text
    unfolding wrote
    wrote-take = take_at (take at buf ++ text) (drop (at + length text) buf) (at + length text) head-length

    wrote-drop : drop (at + length text) (wrote buf at text) ≡ drop (at + length text) buf
    unfolding wrote
    wrote-drop = drop_at (take at buf ++ text) (drop (at + length text) buf) (at + length text) head-length

    pub wrote-wrote : (t : List ℕ) → wrote (wrote buf at text) (at + length text) t ≡ wrote buf at (text ++ t)
    unfolding wrote
    wrote-wrote t =
        let n : ℕ = at + length text in
        let rest : drop (n + length t) (wrote buf at text) ≡ drop (n + length t) buf =
        sym (drop-drop (length t) n (wrote buf at text)) ∙ ap (drop (length t)) wrote-drop ∙ drop-drop (length t) n buf in
        let e : n + length t ≡ at + length (text ++ t) = omega (arith, length-append text t) in
        ap (λ (x : List ℕ). x ++ t ++ drop (n + length t) (wrote buf at text)) wrote-take
        ∙ ap (λ (x : List ℕ). take at buf ++ text ++ t ++ x) rest
        ∙ ap (λ (k : ℕ). take at buf ++ text ++ t ++ drop k buf) e
        ∙ ap (λ (x : List ℕ). x ++ drop (at + length (text ++ t)) buf) (append_assoc (take at buf) text t)

    wrote-before : take at (wrote buf at text) ≡ take at buf
    wrote-before =
        sym (take-take at (at + length text) (wrote buf at text) (omega arith))
        ∙ ap (take at) wrote-take
        ∙ take_at (take at buf) text at (length-take-le at buf (omega arith))

    wrote_here : (i : ℕ) → i < length text → get_or (wrote buf at text) (at + i) 0 ≡ get_or text i 0
    unfolding wrote
    wrote_here i h =
        let e : at + i ≡ length (take at buf) + i = omega (arith, length-take-le at buf (omega arith)) in
        get_or-append (take at buf ++ text) (drop (at + length text) buf) 0 (at + i) (omega (arith, head-length))
        ∙ ap (λ (k : ℕ). get_or (take at buf ++ text) k 0) e
        ∙ get_or-append-add (take at buf) text i 0

    pub wrote_laws : Wrote buf at text
    wrote_laws = record { size = wrote-length; before = wrote-before; here = wrote_here; after = wrote-drop; more = wrote-wrote }

pub wrote_none : (buf : List ℕ) (at : ℕ) → buf ≡ wrote buf at []
unfolding wrote
wrote_none buf at = paste-zero buf at []

pub put_none : (buf : List ℕ) (at : ℕ) → Put buf at [] buf at
put_none buf at = record { bytes = wrote_none buf at; next = omega arith }

module _ (buf : List ℕ) (at : ℕ) (s out : List ℕ) (r : ℕ) (fits : at + length s ≤ length buf) (p : Put buf at s out r) where
  pub put_size : length out ≡ length buf
  put_size = ap length p.bytes ∙ wrote-length buf at s fits

  pub put_put : (t out' : List ℕ) (r' : ℕ) → Put out r t out' r' → Put buf at (s ++ t) out' r'
  put_put t out' r' q =
      record {
        bytes = q.bytes ∙ ap₂ (λ (l : List ℕ) (k : ℕ). wrote l k t) p.bytes p.next ∙ wrote-wrote buf at s fits t;
        next = omega (arith, length-append s t);
      }

pub put_as : {buf : List ℕ} {at : ℕ} {s t out : List ℕ} {r : ℕ} → Put buf at s out r → s ≡ t → Put buf at t out r
put_as p e = rw (← e) p

-- the loop that copies a text
module _ (buf : List ℕ) (at : ℕ) (s : List ℕ) where
  pub copy_start : buf ≡ wrote buf at (take 0 s)
  unfolding wrote
  copy_start = paste-zero buf at s

  as-paste : (i : ℕ) → i ≤ length s → wrote buf at (take i s) ≡ paste buf at s i
  unfolding wrote
  as-paste i h = ap (λ (k : ℕ). take at buf ++ take i s ++ drop (at + k) buf) (length-take-le i s h)

  pub copy_more :
      (now : List ℕ) (i : ℕ) → now ≡ wrote buf at (take i s) → at + i < length buf → i < length s
      → set now (at + i) (get_or s i 0) ≡ wrote buf at (take (i + 1) s)
  copy_more now i e h l =
      ap (λ (x : List ℕ). set x (at + i) (get_or s i 0)) (e ∙ as-paste i (omega arith))
      ∙ paste-suc buf at s i 0 h l
      ∙ sym (as-paste (suc i) l)
      ∙ ap (λ (k : ℕ). wrote buf at (take k s)) (sym (add-one i))

  pub copy-whole : (now : List ℕ) (i : ℕ) → now ≡ wrote buf at (take i s) → i ≡ length s → now ≡ wrote buf at s
  copy-whole now i e q = e ∙ ap (wrote buf at) (ap (λ (k : ℕ). take k s) q ∙ take-length s)

pub from_back :
    (buf now : List ℕ) (at : ℕ) (text : List ℕ) → take at now ≡ take at buf → drop at now ≡ text ++ drop (at + length text) buf
    → now ≡ wrote buf at text
unfolding wrote
from_back buf now at text p q =
    sym (take-append-drop at now)
    ∙ ap₂ ◌++◌ p q
    ∙ sym (append_assoc (take at buf) text (drop (at + length text) buf))

-- a text that was written, as a part of the buffer
pub put-part : {buf : List ℕ} {at : ℕ} {text out : List ℕ} {r : ℕ} → Put buf at text out r → at ≤ length buf → take (r - at) (drop at out) ≡ text
unfolding wrote
put-part {buf} {at} {text} {out} {r} p h =
    let rest : List ℕ = drop (at + length text) buf in
    ap (λ (l : List ℕ). take (r - at) (drop at l)) (p.bytes ∙ append_assoc (take at buf) text rest)
    ∙ ap (take (r - at)) (drop_at (take at buf) (text ++ rest) at (length-take-le at buf h))
    ∙ take_at text rest (r - at) (omega (arith, p.next))

pub put_front : {buf text out : List ℕ} {r : ℕ} → Put buf 0 text out r → take r out ≡ text
unfolding wrote
put_front {buf} {text} {out} {r} p =
    ap (take r) p.bytes ∙ take_at text (drop (0 + length text) buf) r (omega (arith, p.next))

-- a slice from a place on
pub rest_all : (s : List ℕ) (k : ℕ) → take (length s - k) (drop k s) ≡ drop k s
rest_all s k = take_all (length s - k) (drop k s) (omega (arith, length-drop k s))

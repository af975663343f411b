-- The job of accepted lines, from the notes of their text. Assumes nothing.
--   whole-bytes      what is written from the notes is the job's bytes
--   encoded_size     how many these are
--   readable_parted  the notes of a text that every row accepts are those of its rules, then those of its questions
--   readable-bytes   and what is written from them is the job of its lines
use Prim.Native.Nat.{ℕ, suc, ◌+◌, ◌*◌, ◌<◌, ◌≤◌}
use mathlib.Core.Path.{◌≡◌, refl, sym, ◌∙◌, ap}
use mathlib.Core.Bool.{false}
use mathlib.Core.List.{List, [], ◌∷◌, ◌++◌, flat_map, map}
use native.Mathlib.Omega.{arith}
use lib.ListN.{length, get_or, take, drop, length-append, length-map}
use lib.Seq.{take_at, drop_at}
use Rattle.base.specs.Compare.{not_below}
use Rattle.base.proofs.Bools.{neither}
use Rattle.base.proofs.Compare.{not_below_lt, under_le}
use Rattle.job.specs.Job.{claim_of, body_count, ◌if◌}
use Rattle.job.specs.Encoding.{half_bytes, header_bytes, rule_bytes, body_bytes, question_bytes, field_of, encode}
use Rattle.job.specs.declared.Literal.{Literal}
use Rattle.job.specs.declared.Literal.TheVariants.{Plain, Negated}
use Rattle.job.specs.declared.Question.{Question}
use Rattle.job.specs.Check.{Accepted}
use Rattle.job.proofs.Rows.{both, row-no}
use Rattle.job.proofs.Fields.{encode-length}
use Rattle.lines.specs.Lines.{RuleLine, Lines, as_rule, typed, text_of, job_from, job_size, sorted}
use Rattle.lines.specs.Checks.{some_not_below, check_numbers, check_room, check_lines}
use Rattle.lines.specs.Numbering.{counted_all}
use Rattle.lines.specs.Noting.{most_notes, rule_notes, ask_notes, notes_of, head_mark}
use Rattle.lines.specs.Placing.{placed, record_at, body_at, job_bytes, Placeable, Parted, parted_bytes}
use Rattle.lines.specs.Room.{Readable}
use Rattle.lines.specs.declared.Tally.{Tally}
use Rattle.lines.proofs.Numbered.{sizes}
use Rattle.lines.proofs.Checking.{text-tally}
use Rattle.lines.proofs.Saying.{unique}
use Rattle.lines.proofs.Validity.{LinesFit, lines_fit, lines-below, lines-valid, typed_size}
use Rattle.lines.proofs.Sorted.{sorted-length, sorted-bodies}
use Rattle.lines.proofs.Heading.{header-lines}
use Rattle.lines.proofs.Noted.{notes_said}
use Rattle.lines.proofs.Spread.{Small, AllSmall}
use Rattle.lines.proofs.Placed.{RulesBelow, records_said, bodies_said, placed_count, notes-heads}

-- literals and heads of accepted lines, as notes
field-small : (a : ℕ) (m : Literal) → a ≤ 4096 → claim_of m < a → field_of m < head_mark
field-small a (Plain c) h l = omega arith
field-small a (Negated c) h l = omega arith

body-small : (a : ℕ) (ms : List Literal) → a ≤ 4096 → some_not_below a ms ≡ false → Small (map field_of ms)
unfolding some_not_below
body-small a [] h e = tt
body-small a (m ∷ ms) h e =
    let p = neither (not_below (claim_of m) a) (some_not_below a ms) e in
    (field-small a m h (not_below_lt _ _ p.0), body-small a ms h p.1)

rules-small :
    (a : ℕ) (rs : List RuleLine) → a ≤ 4096
    → ((i : ℕ) → i < length rs → ((get_or (map as_rule rs) i (0 if [])).head < a) × (some_not_below a (get_or (map as_rule rs) i (0 if [])).body ≡ false))
    → AllSmall rs × RulesBelow a rs
rules-small a [] h f = (tt, tt)
rules-small a (r ∷ rs) h f =
    let g = f 0 (omega arith) in
    let again = rules-small a rs h (λ i k. f (suc i) (omega arith)) in
    ((body-small a r.body h g.1, omega (arith, g.0), again.0), (g.0, again.1))

notes-length : (rs : List RuleLine) → length (flat_map rule_notes rs) ≡ length rs + body_count (map as_rule rs)
unfolding flat_map body_count
notes-length [] = omega arith
notes-length (r ∷ rs) = omega (arith, length-append (rule_notes r) (flat_map rule_notes rs), length-map r.body field_of, notes-length rs)

asks-length : (qs : List Question) → length (flat_map ask_notes qs) ≡ 2 * length qs
unfolding flat_map
asks-length [] = omega arith
asks-length (q ∷ qs) = omega (arith, asks-length qs)

asks_said : (qs : List Question) → flat_map (λ x. half_bytes x) (flat_map ask_notes qs) ≡ flat_map question_bytes qs
unfolding flat_map
asks_said [] = refl
asks_said (q ∷ qs) = ap (λ (x : List ℕ). question_bytes q ++ x) (asks_said qs)

module _ (l : Lines) (f : LinesFit l) where
  abbrev rules : List ℕ
  rules = flat_map rule_notes l.rules

  abbrev asks : List ℕ
  asks = flat_map ask_notes l.questions

  small : AllSmall l.rules × RulesBelow l.claims l.rules
  small = rules-small l.claims l.rules f.claims_most (λ i k. ((f.rule i k).head, (f.rule i k).literals))

  pub whole-bytes : job_bytes (sizes l) rules asks ≡ encode (job_from l)
  unfolding job_bytes encode
  whole-bytes =
      ap (λ (h : List ℕ). h ++ flat_map (record_at rules) (placed l.claims rules) ++ flat_map (body_at rules) (placed l.claims rules) ++ flat_map (λ x. half_bytes x) asks) (header-lines l (lines-below l f))
      ∙ ap (λ (r : List ℕ). header_bytes (job_from l) ++ r ++ flat_map (body_at rules) (placed l.claims rules) ++ flat_map (λ x. half_bytes x) asks) (records_said l.claims l.rules small.0)
      ∙ ap (λ (b : List ℕ). header_bytes (job_from l) ++ flat_map rule_bytes (sorted l.claims (typed l)) ++ b ++ flat_map (λ x. half_bytes x) asks) (bodies_said l.claims l.rules small.0)
      ∙ ap (λ (q : List ℕ). header_bytes (job_from l) ++ flat_map rule_bytes (sorted l.claims (typed l)) ++ flat_map body_bytes (sorted l.claims (typed l)) ++ q) (asks_said l.questions)

  pub encoded_size : length (encode (job_from l)) ≡ job_size l
  encoded_size =
      let m = sorted-length l.claims (typed l) (lines-below l f) ∙ typed_size l in
      let n = sorted-bodies l.claims (typed l) (lines-below l f) in
      encode-length (job_from l) (lines-valid l f) ∙ rw (m, n)

  placeable : (room : ℕ) → job_size l ≤ room → Placeable (sizes l) rules asks room
  placeable room r =
      let v = lines-valid l f in
      let m = sorted-length l.claims (typed l) (lines-below l f) in
      let n = sorted-bodies l.claims (typed l) (lines-below l f) in
      record {
        small = record { claims_most = f.claims_most; rules_most = omega (arith, v.rules_most, m, typed_size l); literals_most = omega (arith, v.literals_most, n); workers_most = f.workers_most; questions_most = v.questions_most };
        few = omega (arith, notes-length l.rules, v.rules_most, v.literals_most, m, n, typed_size l);
        heads = notes-heads l.claims l.rules small.0 small.1;
        rules = omega (arith, placed_count l.claims l.rules small.0, v.rules_most);
        fits = omega (arith, ap length whole-bytes, encoded_size);
      }

-- lines that say a text, and its notes
module _ (l : Lines) (room : ℕ) (a : Accepted ≡ check_lines l room) where
  numbers_pass : Accepted ≡ check_numbers l
  unfolding check_lines
  numbers_pass = (both (check_numbers l) (check_room l room) a).0

  room_pass : job_size l ≤ room
  unfolding check_lines check_room
  room_pass = under_le _ _ (row-no _ _ _ (both _ _ (both (check_numbers l) (check_room l room) a).1).0)

  pub fit : LinesFit l
  fit = lines_fit l numbers_pass

  front_said : take ((sizes l).rules + (sizes l).literals) (notes_of (text_of l)) ≡ flat_map rule_notes l.rules
  front_said = ap (take ((sizes l).rules + (sizes l).literals)) (notes_said l numbers_pass) ∙ take_at (flat_map rule_notes l.rules) _ _ (notes-length l.rules)

  back_said : drop ((sizes l).rules + (sizes l).literals) (notes_of (text_of l)) ≡ flat_map ask_notes l.questions
  back_said = ap (drop ((sizes l).rules + (sizes l).literals)) (notes_said l numbers_pass) ∙ drop_at (flat_map rule_notes l.rules) _ _ (notes-length l.rules)

  all_noted : length (notes_of (text_of l)) ≡ (sizes l).rules + (sizes l).literals + 2 * (sizes l).questions
  all_noted =
      ap length (notes_said l numbers_pass)
      ∙ length-append (flat_map rule_notes l.rules) (flat_map ask_notes l.questions)
      ∙ omega (arith, notes-length l.rules, asks-length l.questions)

  lines_parted : Parted (sizes l) (notes_of (text_of l)) room
  lines_parted = record { most = omega (arith, all_noted); placeable = rw (front_said, back_said) (placeable l fit room room_pass) }

  lines-bytes : parted_bytes (sizes l) (notes_of (text_of l)) ≡ encode (job_from l)
  lines-bytes = rw (front_said, back_said) (whole-bytes l fit)

  notes-few : length (notes_of (text_of l)) ≤ most_notes
  notes-few = let p = (placeable l fit room room_pass).small in omega (arith, all_noted, p.rules_most, p.literals_most, p.questions_most)

  pub sized : length (encode (job_from l)) ≤ room
  sized = omega (arith, encoded_size l fit, room_pass)

module _ (s : List ℕ) (t : Tally) (room : ℕ) (r : Readable s t room) where
  counts_are : t ≡ sizes r.lines
  counts_are = let e = sym r.counts ∙ ap counted_all r.says ∙ text-tally r.lines room r.accepted in cc

  pub readable-few : length (notes_of s) ≤ most_notes
  readable-few = rw r.says (notes-few r.lines room r.accepted)

  pub readable_parted : Parted t (notes_of s) room
  readable_parted = rw (counts_are, r.says) (lines_parted r.lines room r.accepted)

  pub readable-bytes : (l : Lines) → s ≡ text_of l → parted_bytes t (notes_of s) ≡ encode (job_from l)
  readable-bytes l e =
      ap (λ (x : Tally). parted_bytes x (notes_of s)) counts_are
      ∙ ap (λ (x : List ℕ). parted_bytes (sizes r.lines) (notes_of x)) r.says
      ∙ lines-bytes r.lines room r.accepted
      ∙ ap (λ (k : Lines). encode (job_from k)) (unique r.lines l (sym r.says ∙ e))

-- What the lines of a listing show: the well-founded model of the whole job. Assumes nothing.
--   AtPlace, placed-span   question i stands among its worker's questions
--   named-unopened         a fresh claim is shown as unopened; not_open, fresh-not_open   neither a complete one nor a fresh one is shown as open
--   answer-shown, claim-shown, literal-shown, claim-fresh, claim-asked   the words of questions and claims, once all turns are played
--   named, lines-shown     verdicts by their names, and the question lines that show them
use Prim.Native.Nat.{ℕ, zero, suc, ◌+◌, ◌≤◌, ◌<◌}
use mathlib.Core.Path.{◌≡◌, refl, sym, ◌∙◌, ap, ap₂, subst}
use mathlib.Core.Bool.{Bool, true, false}
use mathlib.Core.Logic.{by_cases}
use mathlib.Core.List.{List, [], ◌∷◌, ◌++◌, flat_map}
use native.Mathlib.Omega.{arith}
use native.Mathlib.Decide.{dec_lt}
use borrow.Author.Tests.{eq-eqb}
use lib.Dec.{eqb}
use lib.ListN.{length, get_or, replicate, length-append, length-replicate}
use Rattle.base.specs.Choose.{pick}
use Rattle.base.specs.Span.{span}
use Rattle.base.specs.Lists.{upto}
use Rattle.writing.specs.Decimal.{decimal}
use Rattle.job.specs.Job.{Job}
use Rattle.job.specs.Checks.{check_job}
use Rattle.job.specs.Format.{rules, literals, questions, question_at, job_of}
use Rattle.job.specs.Check.{Check}
use Rattle.job.specs.Check.{Accepted}
use Rattle.std.specs.Prelude.{Err}
use Rattle.job.specs.declared.Question.{Question}
use Rattle.job.proofs.Accepted.{well_formed}
use Rattle.job.proofs.Written.{questions_count}
use Rattle.semantics.specs.Model.{Verdict, True, False, Undefined, program_of, verdict, byte_of}
use Rattle.semantics.proofs.Missing.{missing_of}
use Rattle.semantics.proofs.Textbook.{textbook_of}
use Rattle.table.specs.Questions.{positions_of, asked_by, claim_asked, question_claim}
use Rattle.table.specs.Layout.{used, mark, mark_of, answered, answer_word, answer, mark_of_value, true_mark}
use Rattle.table.specs.Start.{start_words}
use Rattle.table.specs.Reading.{reading_of}
use Rattle.table.specs.declared.Reading.TheVariants.{Fresh, Open}
use Rattle.turn.specs.Turn.{run_table}
use Rattle.calls.specs.Lists.{Complete}
use Rattle.calls.specs.Promise as P
use Rattle.calls.specs.Promise.{Asked}
use Rattle.steps.proofs.Starting.{start-started}
use Rattle.steps.proofs.Runs.{Low, Made, made-start, made-run}
use Rattle.steps.proofs.OnTurns.{only-led, none_open}
use Rattle.calls.proofs.Named.{led-asked}
use Rattle.calls.proofs.RulesBehind.{stands-behind}
use Rattle.calls.proofs.Answers.{complete-mark, mark-complete}
use Rattle.calls.proofs.OnLists.{valid, ok}
use Rattle.calls.proofs.Histories.{low_append, low_all}
use Rattle.listing.specs.Text.{blank, line_end, claims_word, questions_word, refused_word, name_of, unopened_name}
use Rattle.listing.specs.Finish.{finish_turns, most}
use Rattle.listing.specs.Listing.{job_part, schedule_part, listing_check, refusal_line, claim_line, question_lines, tally_line, heading, text_of, question_line, played, last_table, listed, listing_if, listing}
use Rattle.listing.specs.Told.{word_of, verdict_line, Shows}
use Rattle.listing.proofs.Finished.{all-each, low_finish, finished_in}
use Rattle.listing.proofs.Accepting.{accepted_input}

-- question i of a list, among those of its worker
record AtPlace (ps : List ℕ) (p : ℕ) : Type 0 where
  at : ℕ
  real : at < length ps
  is : get_or ps at 0 ≡ p

later : (b : Bool) (ps : List ℕ) (k p : ℕ) → AtPlace ps p → AtPlace (pick b (k ∷ ps) ps) p
unfolding pick
later true ps k p a = record { at = suc a.at; real = omega (arith, a.real); is = a.is }
later false ps k p a = a

first : (k : ℕ) (ps : List ℕ) → AtPlace (pick true (k ∷ ps) ps) (k + 0)
unfolding pick
first k ps = record { at = 0; real = omega arith; is = omega arith }

module _ (f : ℕ → Question) where
  placed-span : (n a k i w : ℕ) → i < n → (f (a + i)).worker ≡ w → AtPlace (positions_of (span f a n) k w) (k + i)
  unfolding span positions_of
  placed-span zero a k i w h e = absurd (omega arith)
  placed-span (suc n) a k zero w h e =
      let z : a + 0 ≡ a = omega arith in
      let q : eqb (f a).worker w ≡ true = eq-eqb (f a).worker w (ap (λ (x : ℕ). (f x).worker) (sym z) ∙ e) in
      subst (λ (b : Bool). AtPlace (pick b (k ∷ positions_of (span f (suc a) n) (suc k) w) (positions_of (span f (suc a) n) (suc k) w)) (k + 0)) (sym q)
      (first k (positions_of (span f (suc a) n) (suc k) w))
  placed-span (suc n) a k (suc i) w h e =
      let z : a + suc i ≡ suc a + i = omega arith in
      let y : suc k + i ≡ k + suc i = omega arith in
      subst (AtPlace (pick (eqb (f a).worker w) (k ∷ positions_of (span f (suc a) n) (suc k) w) (positions_of (span f (suc a) n) (suc k) w))) y
      (later (eqb (f a).worker w) (positions_of (span f (suc a) n) (suc k) w) k (suc k + i)
      (placed-span n (suc a) (suc k) i w (omega arith) (ap (λ (x : ℕ). (f x).worker) (sym z) ∙ e)))

named-unopened : (m : ℕ) → m ≡ 0 → name_of (reading_of m) ≡ unopened_name
unfolding reading_of pick
named-unopened m e = rw (eq-eqb m 0 e)

fresh-not_open : (m : ℕ) → m ≡ 0 → reading_of m ≡ Open → ⊥
unfolding reading_of pick
fresh-not_open m e q =
    let f : Fresh ≡ Open = sym (ap reading_of e) ∙ q in
    let z : ◌≡◌ {A = ℕ} 0 1 = cc in absurd (omega arith)

not_open : (v : Verdict) → reading_of (mark_of v) ≡ Open → ⊥
unfolding reading_of pick
not_open True q = let z : ◌≡◌ {A = ℕ} 0 1 = cc in absurd (omega arith)
not_open False q = let z : ◌≡◌ {A = ℕ} 0 1 = cc in absurd (omega arith)
not_open Undefined q = let z : ◌≡◌ {A = ℕ} 0 1 = cc in absurd (omega arith)

named : (v : Verdict) → name_of (reading_of (mark_of v)) ≡ word_of v
unfolding reading_of pick
named True = refl
named False = refl
named Undefined = refl

-- the lines of questions whose words hold the verdicts
lines-shown :
    (j : Job) (t : List ℕ) (qs : List Question) (k : ℕ)
    → ((i : ℕ) → i < length qs → get_or t (answer_word j (k + i)) 0 ≡ byte_of (verdict (program_of j) (claim_asked qs i)))
    → question_lines j t k qs ≡ flat_map (verdict_line j) qs
unfolding question_lines flat_map claim_asked
lines-shown j t [] k f = refl
lines-shown j t (q ∷ qs) k f =
    let z : k + 0 ≡ k = omega arith in
    let word : get_or t (answer_word j k) 0 ≡ byte_of (verdict (program_of j) q.claim) =
    ap (λ (x : ℕ). get_or t (answer_word j x) 0) (sym z) ∙ f 0 (omega arith) in
    let name : name_of (reading_of (mark_of_value (answer j t k))) ≡ word_of (verdict (program_of j) q.claim) =
    ap (λ (x : ℕ). name_of (reading_of (mark_of_value x))) word ∙ named (verdict (program_of j) q.claim) in
    let here : question_line j t k q ≡ verdict_line j q =
    ap (λ (x : List ℕ). decimal q.worker ++ (blank ∷ []) ++ decimal q.claim ++ (blank ∷ []) ++ x ++ (line_end ∷ [])) name in
    ap₂ ◌++◌ here
    (lines-shown j t qs (k + 1)
    (λ i h. let e : k + 1 + i ≡ k + suc i = omega arith in ap (λ (x : ℕ). get_or t (answer_word j x) 0) e ∙ f (suc i) (omega arith)))

-- the table once all turns are played
module _ (s : List ℕ) (e : Accepted ≡ check_job s) (t : List ℕ) (room : P.Fresh s t) (ws : List ℕ) (low : Low (job_of s) ws) where
  abbrev start : List ℕ
  start = start_words (job_of s) t

  abbrev all : List ℕ
  all = played (job_of s) (start_words (job_of s) t) ws

  abbrev u : List ℕ
  u = run_table (job_of s) (start_words (job_of s) t) (played (job_of s) (start_words (job_of s) t) ws)

  all-low : Low (job_of s) all
  unfolding played
  all-low =
      low_append (job_of s) ws (finish_turns (most (job_of s)) (job_of s) (run_table (job_of s) start ws) 0) low
      (low_finish (job_of s) (most (job_of s)) (run_table (job_of s) start ws) 0 (valid s e).workers_least)

  made : Made (job_of s) u
  made = made-run (job_of s) (ok s e) all start (made-start (start-started (job_of s) t room)) all-low

  all-answered : (w : ℕ) → w < (job_of s).workers → answered (job_of s) u w ≡ length (asked_by (job_of s) w)
  unfolding played
  all-answered w h = omega (arith, all-each (job_of s) u (finished_in s e t room ws low) w h, made.range.answers w h)

  -- question k stands among its worker's
  module _ (k : ℕ) (h : k < questions s) where
    abbrev w : ℕ
    w = (question_at s (rules s) (literals s) k).worker

    small : w < (job_of s).workers
    unfolding job_of
    small = (well_formed s e).asker k h

    place : AtPlace (asked_by (job_of s) w) k
    unfolding asked_by job_of
    place =
        let f : ℕ → Question = question_at s (rules s) (literals s) in
        let z : 0 + k ≡ k = omega arith in
        subst (AtPlace (positions_of (span f 0 (questions s)) 0 w)) z (placed-span f (questions s) 0 0 k w h (ap (λ (x : ℕ). (f x).worker) z))

    real : place.at < answered (job_of s) u w
    real = omega (arith, place.real, all-answered w small)

    its_claim : question_claim (job_of s) w place.at ≡ claim_asked (job_of s).questions k
    unfolding question_claim
    its_claim = ap (claim_asked (job_of s).questions) place.is

    -- its word holds its claim's verdict
    pub answer-shown : get_or u (answer_word (job_of s) k) 0 ≡ byte_of (verdict (program_of (job_of s)) (claim_asked (job_of s).questions k))
    answer-shown =
        ap (λ (x : ℕ). get_or u (answer_word (job_of s) x) 0) (sym place.is)
        ∙ (made.verdicts.words w place.at small real ∙ ap (λ (c : ℕ). byte_of (verdict (program_of (job_of s)) c)) its_claim)

    -- and its claim is complete
    pub answered-complete : Complete u (claim_asked (job_of s).questions k)
    answered-complete =
        subst (Complete u) its_claim
        (mark-complete (ok s e) made (question_claim (job_of s) w place.at) ((ok s e).question w place.at place.real) (made.verdicts.met w place.at small real))

  pub claim-shown : (c : ℕ) → c < (job_of s).claims → true_mark ≤ mark u c → mark u c ≡ mark_of (verdict (program_of (job_of s)) c)
  claim-shown = made.verdicts.marks

  -- all that isn't fresh is complete
  opened-complete : (c : ℕ) → c < (job_of s).claims → 0 < mark u c → true_mark ≤ mark u c
  opened-complete = none_open (job_of s) (ok s e) start (start-started (job_of s) t room) all all-low all-answered

  pub shown-complete : (c : ℕ) → c < (job_of s).claims → Complete u c → true_mark ≤ mark u c
  shown-complete = complete-mark (ok s e) made

  pub other-fresh : (c : ℕ) → c < (job_of s).claims → (Complete u c → ⊥) → mark u c ≡ 0
  other-fresh c h n =
      by_cases (dec_lt 0 (mark u c)) (λ d. absurd (n (mark-complete (ok s e) made c h (opened-complete c h d)))) (λ d. omega arith)

  pub literal-shown : P.OthersBehind (job_of s) u
  literal-shown = stands-behind (job_of s) (valid s e) u made

  -- a claim that isn't fresh is one that a question names or leads to
  pub claim-asked : (c : ℕ) → c < (job_of s).claims → 0 < mark u c → Asked (job_of s) c
  claim-asked c h d =
      led-asked (job_of s) (valid s e) c (only-led (job_of s) (ok s e) start (start-started (job_of s) t room) all all-low c h d)

  pub claim-fresh : (c : ℕ) → c < (job_of s).claims → (Asked (job_of s) c → ⊥) → mark u c ≡ 0
  claim-fresh c h n = by_cases (dec_lt 0 (mark u c)) (λ d. absurd (n (claim-asked c h d))) (λ d. omega arith)

  pub claim-settled : (c : ℕ) → c < (job_of s).claims → reading_of (mark u c) ≡ Open → ⊥
  claim-settled c h =
      by_cases (dec_lt 0 (mark u c))
      (λ d q. not_open (verdict (program_of (job_of s)) c) (ap reading_of (sym (claim-shown c h (opened-complete c h d))) ∙ q))
      (λ d. fresh-not_open (mark u c) (omega arith))

-- the text is never empty
refusal-some : (n p : ℕ) → 1 ≤ length (refusal_line n p)
refusal-some n p =
    omega (
      arith,
      length-append refused_word (decimal n),
      length-append (refused_word ++ decimal n) (blank ∷ []),
      length-append (refused_word ++ decimal n ++ (blank ∷ [])) (decimal p),
      length-append (refused_word ++ decimal n ++ (blank ∷ []) ++ decimal p) (line_end ∷ []),
    )

text-some : (j : Job) (t ns : List ℕ) → 1 ≤ length (text_of j t ns)
unfolding text_of
text-some j t ns =
    let x₁ : List ℕ = heading claims_word j.claims in
    let x₂ : List ℕ = flat_map (claim_line t) (upto j.claims) in
    let x₃ : List ℕ = heading questions_word (length j.questions) in
    let x₄ : List ℕ = question_lines j t 0 j.questions in
    omega (
      arith,
      length-append claims_word (decimal j.claims),
      length-append (claims_word ++ decimal j.claims) (line_end ∷ []),
      length-append x₁ x₂,
      length-append (x₁ ++ x₂) x₃,
      length-append (x₁ ++ x₂ ++ x₃) x₄,
      length-append (x₁ ++ x₂ ++ x₃ ++ x₄) (tally_line ns),
    )

checked-some : (x : Check) (i : List ℕ) → 1 ≤ length (listing_if x i)
unfolding listing_if listed
checked-some Accepted i = text-some _ _ _
checked-some (Err refusal) i = refusal-some refusal.number refusal.place

pub listing-some : (i : List ℕ) → 1 ≤ length (listing i)
unfolding listing
listing-some i = checked-some (listing_check i) i

-- the line of a claim by the name that it has
claim-line : (c : ℕ) {x y : List ℕ} → x ≡ y → decimal c ++ (blank ∷ []) ++ x ++ (line_end ∷ []) ≡ decimal c ++ (blank ∷ []) ++ y ++ (line_end ∷ [])
claim-line c e = ap (λ (x : List ℕ). decimal c ++ (blank ∷ []) ++ x ++ (line_end ∷ [])) e

-- what the lines show
module _ (i : List ℕ) (e : Accepted ≡ listing_check i) where
  abbrev s : List ℕ
  s = job_part i

  abbrev zeros : List ℕ
  zeros = replicate (used (job_of (job_part i))) 0

  enough : P.Fresh s zeros
  enough = omega (arith, length-replicate {A = ℕ} (used (job_of s)) 0)

  names-low : Low (job_of s) (schedule_part i)
  unfolding job_of
  names-low = low_all (job_of s) (schedule_part i) (accepted_input i e).low

  pub shows : Shows (job_of s) (last_table (job_of s) (schedule_part i))
  unfolding last_table
  shows =
      let good = (accepted_input i e).job in
      let ws = schedule_part i in
      record {
        questions = lines-shown (job_of s) _ (job_of s).questions 0 (λ k h. let z : 0 + k ≡ k = omega arith in ap (λ (x : ℕ). get_or (run_table (job_of s) (start_words (job_of s) zeros) (played (job_of s) (start_words (job_of s) zeros) ws)) (answer_word (job_of s) x) 0) z ∙ answer-shown s good zeros enough ws names-low k (omega (arith, questions_count s)));
        claims = λ c h d.
            claim-line c
            (ap (λ (m : ℕ). name_of (reading_of m)) (claim-shown s good zeros enough ws names-low c h (shown-complete s good zeros enough ws names-low c h d))
            ∙ named (verdict (program_of (job_of s)) c));
        unopened = λ c h n. claim-line c (named-unopened _ (other-fresh s good zeros enough ws names-low c h n));
        asked = λ k h. answered-complete s good zeros enough ws names-low k (omega (arith, questions_count s));
        literals = literal-shown s good zeros enough ws names-low;
        others = λ c h n. claim-line c (named-unopened _ (claim-fresh s good zeros enough ws names-low c h n));
        settled = claim-settled s good zeros enough ws names-low;
        missing = missing_of s (well_formed s good);
        textbook = textbook_of s (well_formed s good);
      }

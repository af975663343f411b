-- What the call promises (specs/Laws), from its rows and what it wrote. Assumes nothing.
--   typing_refused, typing-made   of a text that is refused; of one whose job was written
use Prim.Native.Nat.{ℕ, ◌<◌, ◌≤◌}
use mathlib.Core.Path.{◌≡◌, refl, sym, ◌∙◌, ap}
use mathlib.Core.Logic.{◌↔◌, ◌⊎◌, inl, inr, ⊎_elim}
use mathlib.Core.List.{List}
use native.Mathlib.Omega.{arith}
use lib.ListN.{length}
use Rattle.job.specs.Checks.{check_job}
use Rattle.job.specs.Encoding.{encode, Valid}
use Rattle.std.specs.Prelude.{Ok}
use Rattle.job.specs.Check.{Check, Accepted, Refused}
use Rattle.job.proofs.Encoding.{reading}
use Rattle.job.proofs.Rows.{both}
use Rattle.semantics.specs.Model.{program, program_of}
use Rattle.writing.specs.Written.{Put}
use Rattle.lines.specs.Lines.{Lines, text_of, typed, job_from, job_size}
use Rattle.lines.specs.Fitting.{check_fit}
use Rattle.lines.specs.Numbering.{counted_all}
use Rattle.lines.specs.Checks.{check_numbers, check_room, check_lines}
use Rattle.lines.specs.Room.{check_counts, check_text, Readable}
use Rattle.lines.specs.Laws.{Unfit, InLimits, Past, Made, Typing}
use Rattle.lines.specs.declared.Tally.{Tally}
use Rattle.lines.proofs.Saying.{unique}
use Rattle.lines.proofs.Tails.{sound}
use Rattle.lines.proofs.Unfitting.{unfit-exactly, fit_or-unfit}
use Rattle.lines.proofs.Checking.{text-check}
use Rattle.lines.proofs.Sorted.{sorting, sorted-length, below_in}
use Rattle.lines.proofs.Validity.{lines_fit, lines-valid, lines-below, job-taken, typed_size}
use Rattle.lines.proofs.Exactly.{accepted-within, within-numbers, lines-within}
use Rattle.lines.proofs.Passing.{past_at, past_back}
use Rattle.lines.proofs.Refusing.{counts-not, first-14, stop-14, short_at}
use Rattle.lines.proofs.Joined.{put_front, put-within}
use Rattle.lines.proofs.Whole.{fit, sized, encoded_size}
use Rattle.lines.proofs.Examples.{worked}
use Rattle.lines.proofs.Models.{sorted-program}

-- the bytes that lines in the limits need
bytes-needed : (l : Lines) → InLimits l → length (encode (job_from l)) ≡ job_size l
bytes-needed l w = encoded_size l (lines_fit l (within-numbers l w))

module _ (s : List ℕ) (room : ℕ) (r : Check) (a : r ≡ check_text s room) where
  unfit-14 : (k : ℕ) → (r ≡ Refused 14 k) ↔ Unfit s k
  unfolding check_text
  unfit-14 k =
      let u = unfit-exactly s k in
      let y = check_counts s room in
      (λ e. u.0 (first-14 (check_fit s) y k (counts-not s room) (sym a ∙ e)), λ q. a ∙ stop-14 (check_fit s) y k (u.1 q))

  read_it : ((l : Lines) × (s ≡ text_of l)) ⊎ ((k : ℕ) × Unfit s k)
  read_it = ⊎_elim (λ f. inl f) (λ u. inr (u.0, u.2)) (fit_or-unfit s)

  answer-of : (l : Lines) → s ≡ text_of l → r ≡ check_lines l room
  answer-of l e = a ∙ ap (λ (x : List ℕ). check_text x room) e ∙ text-check l room

  exactly_of : (l : Lines) → s ≡ text_of l → (r ≡ Accepted) ↔ (InLimits l × (length (encode (job_from l)) ≤ room))
  exactly_of l e =
      let w = lines-within l room in (
        λ ok. let q = w.0 (sym ok ∙ answer-of l e) in (q.0, omega (arith, q.1, bytes-needed l q.0)),
        λ q. answer-of l e ∙ sym (w.1 (q.0, omega (arith, q.1, bytes-needed l q.0))),
      )

  fifteen_of : (l : Lines) → s ≡ text_of l → (k : ℕ) → (r ≡ Refused 15 k) ↔ Past l k
  fifteen_of l e k = (λ f. past_at l room k (sym (answer-of l e) ∙ f), λ b. answer-of l e ∙ past_back l room k b)

  short_of : (l : Lines) → s ≡ text_of l → (place : ℕ) → r ≡ Refused 16 place → InLimits l × (room < length (encode (job_from l))) × (place ≡ length (encode (job_from l)))
  short_of l e place f =
      let q = short_at l room place (sym (answer-of l e) ∙ f) in
      let w = accepted-within l (lines_fit l q.0) in
      let n = bytes-needed l w in
      (w, omega (arith, q.1, n), omega (arith, q.2, n))

  -- a text that every row accepts
  pub readable : (t : Tally) → r ≡ Accepted → counted_all s ≡ Ok t → Readable s t room
  unfolding check_text
  readable t ok c =
      let l = sound s (both (check_fit s) _ (sym ok ∙ a)).0 in
      record { lines = l.0; says = l.1; accepted = sym ok ∙ answer-of l.0 l.1; counts = c }

two : {A : Type 0} {r : Check} {n p : ℕ} → r ≡ Refused n p → r ≡ Accepted → A
two e f = let z : ◌≡◌ {A = ℕ} 0 1 = cc in absurd (omega arith)

pub typing_refused : (s out : List ℕ) (r : Check) (n p : ℕ) → r ≡ check_text s (length out) → r ≡ Refused n p → Typing s out out r 0
typing_refused s out r n p a e =
    record {
      read = read_it s (length out) r a;
      one = unique;
      unfit = unfit-14 s (length out) r a;
      made =
          λ l q.
          record {
            answer = answer-of s (length out) r a l q;
            exactly = exactly_of s (length out) r a l q;
            fifteen = fifteen_of s (length out) r a l q;
            short = short_of s (length out) r a l q;
            bytes = λ f. two e f;
            size = λ f. two e f;
            accepted = λ f. two e f;
            holds = λ f. two e f;
            valid = λ f. two e f;
            count = λ f. two e f;
            model = λ f. two e f;
          };
      kept = λ m q f. refl;
      none = λ m q f. refl;
      sorting = sorting;
      worked = worked;
    }

module _ (l : Lines) (room : ℕ) (a : Accepted ≡ check_lines l room) where
  taken : Accepted ≡ check_job (encode (job_from l))
  unfolding check_lines
  taken = job-taken l (both (check_numbers l) (check_room l room) a).0

  valid-job : Valid (job_from l)
  valid-job = lines-valid l (fit l room a)

  counted : length (job_from l).rules ≡ length l.rules
  counted = sorted-length l.claims (typed l) (lines-below l (fit l room a)) ∙ typed_size l

  same-program : program_of (job_from l) ≡ program l.claims (typed l)
  same-program = sorted-program l.claims (typed l) (below_in l.claims (typed l) (lines-below l (fit l room a)))

module _ (s out out' : List ℕ) (r : Check) (n : ℕ) (a : r ≡ check_text s (length out)) (ok : r ≡ Accepted) (puts : (l : Lines) → s ≡ text_of l → Put out 0 (encode (job_from l)) out' n) where
  pass : (l : Lines) → s ≡ text_of l → Accepted ≡ check_lines l (length out)
  pass l e = sym ok ∙ answer-of s (length out) r a l e

  made_of : (l : Lines) → s ≡ text_of l → Made l out out' r n
  made_of l e =
      record {
        answer = answer-of s (length out) r a l e;
        exactly = exactly_of s (length out) r a l e;
        fifteen = fifteen_of s (length out) r a l e;
        short = λ place f. two f ok;
        bytes = λ f. put_front out (encode (job_from l)) out' n (puts l e);
        size = λ f. omega (arith, (puts l e).next);
        accepted = λ f. taken l (length out) (pass l e);
        holds = λ f. reading.meaning (job_from l) (valid-job l (length out) (pass l e));
        valid = λ f. valid-job l (length out) (pass l e);
        count = λ f. counted l (length out) (pass l e);
        model = λ f. same-program l (length out) (pass l e);
      }

  pub typing-made : Typing s out out' r n
  typing-made =
      record {
        read = read_it s (length out) r a;
        one = unique;
        unfit = unfit-14 s (length out) r a;
        made = made_of;
        kept = λ m q f. two f ok;
        none = λ m q f. two f ok;
        sorting = sorting;
        worked = worked;
      }

  pub length_most : (t : Tally) → Readable s t (length out) → n ≤ length out'
  length_most t q = put-within out (encode (job_from q.lines)) out' n (sized q.lines (length out) q.accepted) (puts q.lines q.says)

-- Stores that keep verdicts: complete marks stay, new ones are verdicts', and questions stay. Assumes nothing.
--   Steady j t t'   so it is from t to t'
use mathlib.Core.Path.{◌≡◌, ◌∙◌, ap}
use mathlib.Core.Logic.{by_cases}
use mathlib.Core.List.{List}
use Prim.Native.Nat.{ℕ, ◌+◌, ◌≤◌, ◌<◌}
use native.Mathlib.Omega.{arith}
use native.Mathlib.Decide.{ℕ_discrete, dec_le}
use lib.ListN.{length, get_or, set}
use Rattle.base.specs.Lists.{is_in}
use Rattle.base.proofs.Choose.{t?}
use Rattle.base.proofs.Lists.{In}
use Rattle.job.specs.Job.{Job, most_workers}
use Rattle.table.specs.Layout as W
use Rattle.table.specs.Newest.{with_newest}
use Rattle.table.proofs.Keeping.{with-mark, with-answered, with-past}
use Rattle.turn.specs.Turn.{open_claim, mark_all}
use Rattle.turn.proofs.Cases.{moved}
use Rattle.turn.proofs.Words as X
use Rattle.steps.proofs.Verdicts.{verdict_in}

pub record Steady (j : Job) (t t' : List ℕ) : Type 0 where
  pub kept : (c : ℕ) → c < j.claims → W.true_mark ≤ W.mark t c → W.mark t' c ≡ W.mark t c
  pub new : (c : ℕ) → c < j.claims → W.mark t c < W.true_mark → W.true_mark ≤ W.mark t' c → W.mark t' c ≡ W.mark_of (verdict_in j c)
  pub counts : (w : ℕ) → W.answered j t' w ≡ W.answered j t w
  pub answers : (k : ℕ) → get_or t' (W.answer_word j k) 0 ≡ get_or t (W.answer_word j k) 0

module _ {j : Job} where
  pub steady_trans : {t u v : List ℕ} → Steady j t u → Steady j u v → Steady j t v
  steady_trans {t} {u} {v} a b =
      record {
        kept = λ c h d. let e = a.kept c h d in b.kept c h (omega arith) ∙ e;
        new = λ c h m d.
            by_cases (dec_le W.true_mark (W.mark u c))
            (λ l. b.kept c h l ∙ a.new c h m l) (λ l. b.new c h (omega arith) d);
        counts = λ w. b.counts w ∙ a.counts w;
        answers = λ k. b.answers k ∙ a.answers k;
      }

  -- no mark changes
  marks_steady : {t t' : List ℕ} → ((c : ℕ) → c < j.claims → W.mark t' c ≡ W.mark t c) → ((w : ℕ) → W.answered j t' w ≡ W.answered j t w) → ((k : ℕ) → get_or t' (W.answer_word j k) 0 ≡ get_or t (W.answer_word j k) 0) → Steady j t t'
  marks_steady f g h = record { kept = λ c l d. f c l; new = λ c l m d. absurd (omega (arith, f c l)); counts = g; answers = h }

  pub await_steady : (t : List ℕ) (w v : ℕ) → w < j.workers → Steady j t (set t (W.awaited_word j w) v)
  await_steady t w v small =
      marks_steady (X.await-mark j t w v) (X.await-answered j t w v) (λ k. X.other t (W.awaited_word j w) v (W.answer_word j k) (λ e. omega arith))

  pub cursor_steady : (t : List ℕ) (c v : ℕ) → c < j.claims → Steady j t (set t (W.cursor_word c) v)
  cursor_steady t c v low =
      marks_steady (λ x h. X.cursor-mark j t c v x) (λ u. X.cursor-answered j t c v low u)
      (λ k. X.other t (W.cursor_word c) v (W.answer_word j k) (λ e. omega arith))

  pub moved_steady : (t : List ℕ) (c : ℕ) → c < j.claims → Steady j t (moved t c)
  moved_steady t c low = cursor_steady t c (W.cursor t c + 1) low

  -- third words are stored
  pub with_steady : (t : List ℕ) → Steady j t (with_newest j.claims j.workers t)
  with_steady t =
      let a = j.claims in
      let n = j.workers in
      marks_steady (with-mark a t n) (with-answered a t n) (λ k. with-past a t n (W.answer_word j k) (omega arith))

  pub open_steady : (t : List ℕ) (w b : ℕ) → w < most_workers → b < j.claims → W.number_word b < length t → W.mark t b ≡ 0 → Steady j t (open_claim t w b)
  open_steady t w b few low long z =
      record {
        kept = λ c h d. X.open-marks t w b c (λ e. omega (arith, ap (W.mark t) e));
        new = λ c h m d.
            by_cases (ℕ_discrete c b)
            (λ e. absurd (omega (arith, ap (W.mark (open_claim t w b)) e, X.open-mark t w b long)))
            (λ n. absurd (omega (arith, X.open-marks t w b c n)));
        counts = λ u. X.open-answered t w b j low u;
        answers = λ k. X.open-other t w b (W.answer_word j k) (λ e. omega arith) (λ e. omega arith) (λ e. omega arith) (λ e. omega arith);
      }

  -- marks stored at claims that are not complete, either below 256 or verdicts'
  pub all_steady : (f : ℕ → ℕ) (cs t : List ℕ) → ((c : ℕ) → In c cs → (c < j.claims) × (W.mark t c < W.true_mark)) → ((c : ℕ) → W.true_mark ≤ f c → f c ≡ W.mark_of (verdict_in j c)) → W.workers_from j.claims ≤ length t → Steady j t (mark_all f cs t)
  all_steady f cs t h g long =
      record {
        kept = λ c l d. X.marks_out j f cs t low c (λ i. omega (arith, (h c i).1));
        new = λ c l m d. go c m d (t? (is_in c cs));
        counts = λ w. X.marks-answered j f cs t low w;
        answers = λ k. X.marks-other f cs t (W.answer_word j k) (λ c i e. omega (arith, low c i));
      }
    where
      low : (c : ℕ) → In c cs → c < j.claims
      low c i = (h c i).0

      go : (c : ℕ) → W.mark t c < W.true_mark → W.true_mark ≤ W.mark (mark_all f cs t) c → Dec (In c cs) → W.mark (mark_all f cs t) c ≡ W.mark_of (verdict_in j c)
      go c m d (yes i) =
          let e = X.marks_in f cs t c (omega (arith, low c i)) i in
          e ∙ g c (omega arith)
      go c m d (no n) = absurd (omega (arith, X.marks_out j f cs t low c n))

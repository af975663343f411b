-- What the parts of a turn leave of the kept set. Assumes nothing.
--   done_through       a turn that is another
--   words_keep         a store past the words of claims changes nothing: await-keeps, answer_keeps
--   alike_forgets      where no claim becomes complete and no cursor moves, the set is right, and the next claim is forgotten: open_forgets
--   Moved              a cursor moved on: what is led to more (moved_less)
--   skip-keeps, complete-keeps, next_lacks   it passed the rest of a failed rule; a literal of a complete claim; of one that isn't
use Prim.Native.Nat.{ℕ, ◌+◌, ◌≤◌, ◌<◌}
use mathlib.Core.Path.{◌≡◌, sym, ◌∙◌, ap, subst, subst⁻¹}
use mathlib.Core.List.{List}
use mathlib.Core.Logic.{◌⊎◌, inl, inr, ⊎_elim, by_cases}
use native.Mathlib.Omega.{arith}
use native.Mathlib.Decide.{ℕ_discrete, dec_lt}
use lib.ListN.{length, get_or, set}
use Rattle.job.specs.Job.{Job, rule_end}
use Rattle.table.specs.Layout as W
use Rattle.turn.specs.Turn.{Turned, lits, open_claim}
use Rattle.turn.specs.Ready.{Made}
use Rattle.turn.specs.KeptSet.{Found, Keeps, Lacking, Done}
use Rattle.turn.specs.declared.Kept.{Kept}
use Rattle.std.proofs.Common.{None}
use Rattle.turn.specs.declared.Kind.{Kind}
use Rattle.turn.proofs.Behind.{Alike, same as same-mark, below, Behind, behind_rest, behind-alike}
use Rattle.turn.proofs.Jobs.{JobOk}
use Rattle.turn.proofs.KeptTables.{Grows, leads_grow, same-found, still-keeps, forgets-keeps, lacking-keeps}
use Rattle.turn.proofs.Leading.{leads-passed, passed-leads}
use Rattle.turn.proofs.Reached.{Leads}
use Rattle.turn.proofs.Words.{other, same, open-mark, open-cursor, open-marks, open-cursors}

-- a turn that is another
pub done_through : {j : Job} {r r' : Turned} {x : Kind} {k : Kept} {t place members : List ℕ} → (Made r x t → Made r' x t) → Done j r x k t place members → Done j r' x k t place members
done_through f d = record { made = f d.made; keeps = d.keeps }

module _ (j : Job) (J : JobOk j) (t u : List ℕ) where
  -- where no claim becomes complete and no cursor moves back, what is led to is led to in the other table
  module _ (marks : (x : ℕ) → x < j.claims → Alike (W.mark t x) (W.mark u x)) (cursors : (x : ℕ) → x < j.claims → W.cursor u x ≡ W.cursor t x) where
    back : Grows j u t
    back = record { marks = λ x h. turned (marks x h); cursors = λ x h. omega (arith, cursors x h) }
      where
        turned : {m m' : ℕ} → Alike m m' → Alike m' m
        turned (same-mark e) = same-mark (sym e)
        turned (below a b) = below b a

    forth : Grows j t u
    forth = record { marks = marks; cursors = λ x h. omega (arith, cursors x h) }

module _ (j : Job) (J : JobOk j) (t : List ℕ) (k : Kept) (place members : List ℕ) (p : Keeps j t k place members) where
  module _ (u : List ℕ) (is : (i : ℕ) → i < W.workers_from j.claims → get_or u i 0 ≡ get_or t i 0) where
    marks : (x : ℕ) → x < j.claims → W.mark u x ≡ W.mark t x
    marks x h = is (W.mark_word x) (omega arith)

    cursors : (x : ℕ) → x < j.claims → W.cursor u x ≡ W.cursor t x
    cursors x h = is (W.cursor_word x) (omega arith)

    alike : (x : ℕ) → x < j.claims → Alike (W.mark t x) (W.mark u x)
    alike x h = same-mark (marks x h)

    pub words_keep : Keeps j u k place members
    words_keep =
        still-keeps j J t u (forth j J t u alike cursors) k place members p (λ x d h. leads_grow j J u t (back j J t u alike cursors) x d h)
        (same-found j J t u (forth j J t u alike cursors) k place members p marks (λ x h. is (W.number_word x) (omega arith)))

  pub await-keeps : (w v : ℕ) {a : ℕ} → a ≡ j.claims → {u : List ℕ} → u ≡ set t (W.awaited_at a w) v → Keeps j u k place members
  await-keeps w v {a} e {u} q = words_keep u (λ i h. ap (λ (x : List ℕ). get_or x i 0) q ∙ other t (W.awaited_at a w) v i (λ z. omega arith))

  pub answer_keeps : (w n i v : ℕ) {a : ℕ} (b : ℕ) → a ≡ j.claims → {u : List ℕ} → u ≡ set (set t (W.answer_at a b i) v) (W.answered_at a w) n → Keeps j u k place members
  answer_keeps w n i v {a} b e {u} q =
      words_keep u
      (λ d h.
      ap (λ (x : List ℕ). get_or x d 0) q
      ∙ (other (set t (W.answer_at a b i) v) (W.answered_at a w) n d (λ z. omega arith) ∙ other t (W.answer_at a b i) v d (λ z. omega arith)))

  module _ (u : List ℕ) (alike : (x : ℕ) → x < j.claims → Alike (W.mark t x) (W.mark u x)) (cursors : (x : ℕ) → x < j.claims → W.cursor u x ≡ W.cursor t x) where
    pub alike_forgets : Keeps j u (record { from = k.from; count = k.count; chosen = None }) place members
    alike_forgets = forgets-keeps j J t u (forth j J t u alike cursors) k place members p (λ x d h. leads_grow j J u t (back j J t u alike cursors) x d h)

  -- a fresh claim b becomes open to w, and w's third word is stored
  pub open_forgets : (w b : ℕ) → b < j.claims → W.mark t b ≡ 0 → W.cursor t b ≡ 0 → w + 1 < W.true_mark → W.workers_from j.claims ≤ length t → (v : ℕ) {a : ℕ} → a ≡ j.claims → {u : List ℕ} → u ≡ set (open_claim t w b) (W.newest_at a w) v → Keeps j u (record { from = k.from; count = k.count; chosen = None }) place members
  open_forgets w b low fresh unread small room v {a} e {u} q =
      let there : W.number_word b < length t = omega arith in
      let past : (i : ℕ) → i < W.workers_from j.claims → get_or u i 0 ≡ get_or (open_claim t w b) i 0 =
      λ i h. ap (λ (x : List ℕ). get_or x i 0) q ∙ other (open_claim t w b) (W.newest_at a w) v i (λ z. omega arith) in
      alike_forgets u
      (λ x h.
      by_cases (ℕ_discrete x b)
      (λ z. subst⁻¹ (λ (y : ℕ). Alike (W.mark t y) (W.mark u y)) z (below (omega arith) (omega (arith, past (W.mark_word b) (omega arith), open-mark t w b there))))
      (λ n. same-mark (past (W.mark_word x) (omega arith) ∙ open-marks t w b x n)))
      (λ x h.
      by_cases (ℕ_discrete x b)
      (λ z. subst⁻¹ (λ (y : ℕ). W.cursor u y ≡ W.cursor t y) z (past (W.cursor_word b) (omega arith) ∙ (open-cursor t w b there ∙ sym unread)))
      (λ n. past (W.cursor_word x) (omega arith) ∙ open-cursors t w b x n))

-- a cursor moved on
pub record Moved (j : Job) (t : List ℕ) (c v : ℕ) (u : List ℕ) : Type 0 where
  pub claim : c < j.claims
  pub stored : u ≡ set t (W.cursor_word c) v
  pub there : W.cursor_word c < length t
  pub on : W.cursor t c ≤ v

-- what it leads to more: the claim of a literal between
pub record Between (j : Job) (t : List ℕ) (c v d : ℕ) : Type 0 where
  pub at : ℕ
  pub from : W.cursor t c ≤ at
  pub to : at < v
  pub is : get_or (lits j c) at 0 ≡ d
  pub clear : Behind j t c at → ⊥
  pub open' : W.mark t d < W.true_mark

module _ {j : Job} (J : JobOk j) {t : List ℕ} {c v : ℕ} {u : List ℕ} (m : Moved j t c v u) where
  word : (i : ℕ) → (i ≡ W.cursor_word c → ⊥) → get_or u i 0 ≡ get_or t i 0
  word i n = ap (λ (x : List ℕ). get_or x i 0) m.stored ∙ other t (W.cursor_word c) v i n

  moved-mark : (x : ℕ) → W.mark u x ≡ W.mark t x
  moved-mark x = word (W.mark_word x) (λ z. omega arith)

  here-cursor : W.cursor u c ≡ v
  here-cursor = ap (λ (x : List ℕ). get_or x (W.cursor_word c) 0) m.stored ∙ same t (W.cursor_word c) v m.there

  else-cursor : (x : ℕ) → (x ≡ c → ⊥) → W.cursor u x ≡ W.cursor t x
  else-cursor x n = word (W.cursor_word x) (λ z. n (omega arith))

  pub moved_grows : Grows j t u
  moved_grows =
      record {
        marks = λ x h. same-mark (moved-mark x);
        cursors = λ x h.
            by_cases (ℕ_discrete x c) (λ z. subst⁻¹ (λ (y : ℕ). W.cursor t y ≤ W.cursor u y) z (omega (arith, m.on, here-cursor)))
            (λ n. omega (arith, else-cursor x n));
      }

  pub moved_less : (x d : ℕ) → x < j.claims → Leads j u x d → Leads j t x d ⊎ ((x ≡ c) × Between j t c v d)
  moved_less x d h l =
      let p = leads-passed j J u l in
      let a = p.0 in
      let free : Behind j t x a.at → ⊥ = λ b. a.clear (behind-alike J (λ y q. same-mark (moved-mark y)) (omega (arith, a.real)) b) in
      let low : W.mark t d < W.true_mark = omega (arith, p.1, moved-mark d) in
      by_cases (dec_lt a.at (W.cursor t x)) (λ z. inl (passed-leads j J t a.at z a.real a.is free low))
      (λ z.
      by_cases (ℕ_discrete x c)
      (λ e.
      inr (
        e,
        record {
          at = a.at;
          from = subst (λ (y : ℕ). W.cursor t y ≤ a.at) e (omega arith);
          to = omega (arith, subst (λ (y : ℕ). a.at < W.cursor u y) e a.before, here-cursor);
          is = subst (λ (y : ℕ). get_or (lits j y) a.at 0 ≡ d) e a.is;
          clear = subst (λ (y : ℕ). Behind j t y a.at → ⊥) e free;
          open' = low;
        },
      ))
      (λ n. absurd (omega (arith, a.before, else-cursor x n))))

  module _ (k : Kept) (place members : List ℕ) (p : Keeps j t k place members) where
    pub moved-found : Found j u k members
    moved-found = same-found j J t u moved_grows k place members p (λ x h. moved-mark x) (λ x h. word (W.number_word x) (λ z. omega arith))

    -- nothing more
    none-keeps : ((d : ℕ) → Between j t c v d → ⊥) → Keeps j u k place members
    none-keeps f =
        still-keeps j J t u moved_grows k place members p (λ x d h l. ⊎_elim (λ y. y) (λ y. absurd (f d y.1)) (moved_less x d h l)) moved-found

    -- the rest of a rule that has failed leads nowhere
    pub skip-keeps : v ≤ rule_end c j.rules (W.cursor t c) → Behind j t c (W.cursor t c) → Keeps j u k place members
    skip-keeps e b = none-keeps (λ d y. y.clear (behind_rest y.from (omega (arith, y.to)) b))

    module _ (e : v ≡ W.cursor t c + 1) where
      only : (d : ℕ) → Between j t c v d → get_or (lits j c) (W.cursor t c) 0 ≡ d
      only d y = let q : W.cursor t c ≡ y.at = omega (arith, y.from, y.to) in ap (λ (i : ℕ). get_or (lits j c) i 0) q ∙ y.is

      pub complete-keeps : W.true_mark ≤ W.mark t (get_or (lits j c) (W.cursor t c) 0) → Keeps j u k place members
      complete-keeps h = none-keeps (λ d y. let q : W.mark t (get_or (lits j c) (W.cursor t c) 0) ≡ W.mark t d = ap (W.mark t) (only d y) in omega (arith, y.open'))

      pub next_lacks : (b : ℕ) → b ≡ get_or (lits j c) (W.cursor t c) 0 → W.cursor t c < length (lits j c) → (Behind j t c (W.cursor t c) → ⊥) → W.mark t b < W.true_mark → Lacking j u c b k place members
      next_lacks b is some free low =
          lacking-keeps j J t u moved_grows k place members p c b
          (passed-leads j J u (W.cursor t c) (omega (arith, here-cursor)) some (sym is)
          (λ z. free (behind-alike J (λ y q. same-mark (sym (moved-mark y))) (omega arith) z)) (omega (arith, moved-mark b)))
          (λ x d h l. ⊎_elim (λ y. inl y) (λ y. inr (y.0, sym (only d y.1) ∙ sym is)) (moved_less x d h l)) moved-found

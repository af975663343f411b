-- The index of claims holds where rules end. Assumes nothing.
--   seek-.., end_here_in, end-next_in   the end of a literal's rule by the index, literal by literal
--   end-in                              it is the rule's
--   bounds-start, -more, -kept          the index as it is filled
use Prim.Native.Nat.{ℕ, zero, suc, ◌+◌, ◌-◌, ◌/◌, ◌%◌, ◌^◌, ◌≤◌, ◌<◌}
use mathlib.Core.Path.{◌≡◌, sym, ◌∙◌, ap}
use mathlib.Core.Logic.{by_cases}
use mathlib.Core.Bool.{true, false, not}
use mathlib.Core.List.{List, [], ◌∷◌, ◌++◌}
use native.Mathlib.Omega.{arith}
use native.Mathlib.Nat.{zero-add, zero-div}
use native.Mathlib.Decide.{ℕ_discrete, dec_lt}
use borrow.Author.Tests.{eq-eqb}
use lib.ListN.{length, get_or, set, replicate, get_or-replicate}
use lib.Seq.{get_or-set_same, get_or-set_other}
use lib.Bits.{bit_or}
use lib.Dec.{eqb}
use Rattle.base.specs.Choose.{pick}
use Rattle.base.specs.Span.{span}
use Rattle.base.proofs.Choose.{pick_true, pick-false}
use Rattle.base.proofs.Span.{length-span, span_snoc}
use Rattle.job.specs.Job.{Rule, literals_of, rule_end, most_literals}
use Rattle.job.specs.Format.{rules, head_at, head_before, body_start, body_length_at, literal_at, rule_at, job_of}
use Rattle.job.specs.Claims.{literals_below, claim_start, bounds_from, index_entries, bound_at, Bounds, Index, end_from, end_in}
use Rattle.job.specs.Accepted.{WellFormed}
use Rattle.job.proofs.FieldBits.{bit-set, bit_kept}
use Rattle.job.proofs.Parts.{rises, body_start-next, body-within}
use Rattle.job.proofs.Contiguous.{three, below_all, takes, skips, below-rises, range}
use Rattle.job.proofs.RuleEnds.{own-part, end_here, append_first, append-later}

module _ (s : List ℕ) (m : ℕ) (up : (k : ℕ) → k < m → head_before s k ≤ head_at s k) (c : ℕ) where
  -- the rule, of the first i, that has literal k of c
  record RuleOf (i k : ℕ) : Type 0 where
    rule : ℕ
    there : rule < i
    from : body_start s rule ≤ literals_below s c i + k
    to : literals_below s c i + k < body_start s (rule + 1)
    end : literals_below s c i + rule_end c (span (rule_at s m) 0 i) k ≡ body_start s (rule + 1)

  size : (i : ℕ) → i ≤ m → length (literals_of c (span (rule_at s m) 0 i)) ≡ literals_below s (c + 1) i - literals_below s c i
  size i l = ap length (range s m up c i l) ∙ length-span (literal_at s m) _ _

  more : (i : ℕ) → span (rule_at s m) 0 (suc i) ≡ span (rule_at s m) 0 i ++ (rule_at s m i ∷ [])
  more i = span_snoc (rule_at s m) 0 i ∙ ap (λ (x : ℕ). span (rule_at s m) 0 i ++ (rule_at s m x ∷ [])) (zero-add i)

  -- the same rule where there is one rule more, and not before c's
  again : (i : ℕ) → i ≤ m → literals_below s c (suc i) ≡ literals_below s c i → (k : ℕ) → k < literals_below s (c + 1) i - literals_below s c i → RuleOf i k → RuleOf (suc i) k
  again i l e k h p =
      let z = ap (λ (rs : List Rule). rule_end c rs k) (more i) ∙ append_first c (span (rule_at s m) 0 i) (rule_at s m i ∷ []) k (omega (arith, size i l)) in
      record { rule = p.rule; there = omega (arith, p.there); from = omega (arith, p.from); to = omega (arith, p.to); end = omega (arith, p.end) }

  part_of : (i : ℕ) → head_at s i ≡ c → length (own-part c (rule_at s m i)) ≡ body_length_at s i
  unfolding rule_at
  part_of i h = rw (eq-eqb (head_at s i) c h) (length-span (literal_at s m) (body_start s i) (body_length_at s i))

  one_more : (i : ℕ) → i < m → (k : ℕ) → k < literals_below s (c + 1) (suc i) - literals_below s c (suc i) → (k < literals_below s (c + 1) i - literals_below s c i → RuleOf i k) → RuleOf (suc i) k
  one_more i l k h ih =
      let before : (j : ℕ) → j < i → head_at s j ≤ head_at s i = λ j g. rises s m up j i (omega arith) l in
      three (head_at s i) c
      (λ g.
      absurd
      (omega
      (arith, below_all s c i (λ j b. omega (arith, before j b)), below_all s (c + 1) i (λ j b. omega (arith, before j b)), takes s c i g, takes s (c + 1) i (omega arith))))
      (λ g.
      let a = skips s c i (omega arith) in
      let b = takes s (c + 1) i (omega arith) in
      let y = below_all s (c + 1) i (λ j b. omega (arith, before j b)) in
      let x = below-rises s c i in
      by_cases (dec_lt k (literals_below s (c + 1) i - literals_below s c i)) (λ q. again i (omega arith) a k q (ih q))
      (λ q.
      let n = size i (omega arith) in
      let v = part_of i g in
      let e : rule_end c (span (rule_at s m) 0 (suc i)) k ≡ length (literals_of c (span (rule_at s m) 0 i)) + rule_end c (rule_at s m i ∷ []) (k - length (literals_of c (span (rule_at s m) 0 i))) =
      ap (λ (rs : List Rule). rule_end c rs k) (more i) ∙ append-later c (span (rule_at s m) 0 i) (rule_at s m i ∷ []) k (omega arith) in
      let f = end_here c (rule_at s m i) [] (k - length (literals_of c (span (rule_at s m) 0 i))) (omega arith) in
      record {
        rule = i;
        there = omega arith;
        from = omega arith;
        to = omega (arith, body_start-next s i);
        end = omega (arith, body_start-next s i);
      }))
      (λ g.
      let a = skips s c i (omega arith) in
      let b = skips s (c + 1) i (omega arith) in
      let q : k < literals_below s (c + 1) i - literals_below s c i = omega arith in
      again i (omega arith) a k q (ih q))

  rule_of : (i : ℕ) → i ≤ m → (k : ℕ) → k < literals_below s (c + 1) i - literals_below s c i → RuleOf i k
  unfolding literals_below
  rule_of zero l k h = absurd (omega arith)
  rule_of (suc i) l k h = one_more i (omega arith) k h (rule_of i (omega arith) k)

-- the first place from i on that a rule ends before
abbrev pub seek : List ℕ → ℕ → ℕ
seek index i = end_from (most_literals + 1 - i) index i

pub seek_over : (index : List ℕ) (i : ℕ) → most_literals < i → seek index i ≡ i
unfolding end_from
seek_over index i l = let z : most_literals + 1 - i ≡ 0 = omega arith in ap (λ (n : ℕ). end_from n index i) z

module _ (index : List ℕ) (i : ℕ) (l : i ≤ most_literals) where
  seek_first : seek index i ≡ pick (bound_at index i) i (seek index (i + 1))
  unfolding end_from
  seek_first = let z : most_literals + 1 - i ≡ suc (most_literals + 1 - (i + 1)) = omega arith in ap (λ (n : ℕ). end_from n index i) z

  pub seek_found : bound_at index i ≡ true → seek index i ≡ i
  seek_found h = seek_first ∙ pick_true (bound_at index i) i (seek index (i + 1)) h

  pub seek-on : bound_at index i ≡ false → seek index i ≡ seek index (i + 1)
  seek-on h = seek_first ∙ pick-false (bound_at index i) i (seek index (i + 1)) h

pub end_seek : (index : List ℕ) (k : ℕ) → end_in index k ≡ seek index (k + 1)
end_seek index k = let z : most_literals - k ≡ most_literals + 1 - (k + 1) = omega arith in ap (λ (n : ℕ). end_from n index (k + 1)) z

module _ (index : List ℕ) (k : ℕ) (l : k < most_literals) where
  pub end_here_in : bound_at index (k + 1) ≡ true → end_in index k ≡ k + 1
  end_here_in h = end_seek index k ∙ seek_found index (k + 1) (omega arith) h

  pub end-next_in : bound_at index (k + 1) ≡ false → end_in index k ≡ end_in index (k + 1)
  end-next_in h = end_seek index k ∙ (seek-on index (k + 1) (omega arith) h ∙ sym (end_seek index (k + 1)))

-- the literals of rule r have its end
module _ (s index : List ℕ) (w : WellFormed s) (x : Bounds s index (rules s)) (r : ℕ) (l : r < rules s) where
  end_low : body_start s (r + 1) ≤ most_literals
  end_low = omega (arith, body_start-next s r, body-within s r (rules s) l, w.bodies, w.sized.literals_most)

  -- no rule ends inside
  inside : (i : ℕ) → body_start s r < i → i < body_start s (r + 1) → bound_at index i ≡ false
  inside i g h =
      x.only i (omega (arith, end_low))
      (λ q m e.
      three q r (λ y. omega (arith, body_start-next s q, body-within s q r y)) (λ y. omega (arith, ap (λ (z : ℕ). body_start s (z + 1)) y))
      (λ y. omega (arith, body_start-next s r, body_start-next s q, body-within s r q y)))

  ends_at : (n k : ℕ) → body_start s r ≤ k → k + suc n ≡ body_start s (r + 1) → end_in index k ≡ body_start s (r + 1)
  ends_at zero k g h =
      let z : k + 1 ≡ body_start s (r + 1) = omega arith in
      end_here_in index k (omega (arith, end_low)) (ap (bound_at index) z ∙ x.ends r l) ∙ z
  ends_at (suc n) k g h =
      end-next_in index k (omega (arith, end_low)) (inside (k + 1) (omega arith) (omega arith)) ∙ ends_at n (k + 1) (omega arith) (omega arith)

  in-rule : (k : ℕ) → body_start s r ≤ k → k < body_start s (r + 1) → end_in index k ≡ body_start s (r + 1)
  in-rule k g h = ends_at (body_start s (r + 1) - (k + 1)) k g (omega arith)

pub end-in : (s index : List ℕ) → WellFormed s → Index s index → (c k : ℕ) → k < length (literals_of c (job_of s).rules) → end_in index (claim_start s c + k) ≡ claim_start s c + rule_end c (job_of s).rules k
unfolding job_of
end-in s index w x c k l =
    let p = rule_of s (rules s) w.rise c (rules s) (omega arith) k (omega (arith, size s (rules s) w.rise c (rules s) (omega arith))) in
    in-rule s index w x.bounds p.rule p.there (claim_start s c + k) p.from p.to ∙ sym p.end

-- an index as it is filled: at first no rule ends anywhere, then one more does, and what is written of claims changes none
bound-zero : (i : ℕ) → bounds_from + i / 16 < index_entries → bound_at (replicate index_entries 0) i ≡ false
bound-zero i l =
    ap (λ (x : ℕ). not (eqb (x / 2 ^ (i % 16) % 2) 0)) (get_or-replicate index_entries (bounds_from + i / 16) 0 0 l)
    ∙ ap (λ (x : ℕ). not (eqb (x % 2) 0)) (zero-div (2 ^ (i % 16)))

pub bounds-start : (s : List ℕ) {index : List ℕ} → index ≡ replicate index_entries 0 → Bounds s index 0
bounds-start s e = record { ends = λ r l. absurd (omega arith); only = λ i l f. ap (λ (x : List ℕ). bound_at x i) e ∙ bound-zero i l }

module _ {s index : List ℕ} {m : ℕ} (b : Bounds s index m) (long : length index ≡ index_entries) where
  bound-other : (i d v : ℕ) → (bounds_from + i / 16 ≡ d → ⊥) → bound_at (set index d v) i ≡ bound_at index i
  bound-other i d v n = ap (λ (x : ℕ). not (eqb (x / 2 ^ (i % 16) % 2) 0)) (get_or-set_other index d (bounds_from + i / 16) v 0 n)

  pub bounds-kept : (d v : ℕ) → d < bounds_from → Bounds s (set index d v) m
  bounds-kept d v l =
      record {
        ends = λ r h. bound-other (body_start s (r + 1)) d v (λ e. omega arith) ∙ b.ends r h;
        only = λ i h f. bound-other i d v (λ e. omega arith) ∙ b.only i h f;
      }

  -- one more rule ends, at p
  module _ (p : ℕ) (low : p ≤ most_literals) {v : ℕ} (put : v ≡ bit_or (get_or index (bounds_from + p / 16) 0) (2 ^ (p % 16))) where
    abbrev after : List ℕ
    after = set index (bounds_from + p / 16) v

    there : get_or after (bounds_from + p / 16) 0 ≡ bit_or (get_or index (bounds_from + p / 16) 0) (2 ^ (p % 16))
    there = get_or-set_same index (bounds_from + p / 16) v 0 (omega arith) ∙ put

    now-bound : bound_at after p ≡ true
    now-bound =
        ap (λ (x : ℕ). not (eqb (x / 2 ^ (p % 16) % 2) 0)) there
        ∙ ap (λ (x : ℕ). not (eqb x 0)) (bit-set (get_or index (bounds_from + p / 16) 0) (p % 16))

    still-bound : (i : ℕ) → (i ≡ p → ⊥) → bound_at after i ≡ bound_at index i
    still-bound i n =
        by_cases (ℕ_discrete (i / 16) (p / 16))
        (λ e.
        let y : get_or after (bounds_from + i / 16) 0 ≡ bit_or (get_or index (bounds_from + i / 16) 0) (2 ^ (p % 16)) =
        ap (λ (x : ℕ). get_or after (bounds_from + x) 0) e ∙ (there ∙ ap (λ (x : ℕ). bit_or (get_or index (bounds_from + x) 0) (2 ^ (p % 16))) (sym e)) in
        ap (λ (x : ℕ). not (eqb (x / 2 ^ (i % 16) % 2) 0)) y
        ∙ ap (λ (x : ℕ). not (eqb x 0)) (bit_kept (get_or index (bounds_from + i / 16) 0) (p % 16) (i % 16) (λ z. n (omega arith))))
        (λ e. bound-other i (bounds_from + p / 16) v (λ z. e (omega arith)))

    pub bounds-more : p ≡ body_start s (m + 1) → Bounds s after (m + 1)
    bounds-more e =
        record {
          ends = λ r h.
              by_cases (ℕ_discrete (body_start s (r + 1)) p) (λ z. ap (bound_at after) z ∙ now-bound)
              (λ n.
              still-bound (body_start s (r + 1)) n
              ∙ b.ends r (by_cases (ℕ_discrete r m) (λ z. absurd (n (ap (λ (x : ℕ). body_start s (x + 1)) z ∙ sym e))) (λ z. omega arith)));
          only = λ i h f. still-bound i (λ z. f m (omega arith) (omega arith)) ∙ b.only i h (λ r g. f r (omega arith));
        }

-- The rules of one claim, written in one walk over the job's. Assumes nothing.
--   claim_text ..                  what is written of the rules of claim c from rule a on
--   first-place                    where the literals of its first rule start
--   Walking ..                     those before rule r are written
--   walking_start, -room, -more, _done, _end   none yet; room for one more; one more; no more are c's; there are no more
use Prim.Native.Nat.{ℕ, zero, suc, ◌+◌, ◌-◌, ◌<◌, ◌≤◌}
use mathlib.Core.Path.{◌≡◌, refl, sym, ◌∙◌, ap, ap₂}
use mathlib.Core.Bool.{Bool, cond}
use mathlib.Core.List.{List, [], ◌++◌, flat_map}
use native.Mathlib.Omega.{arith}
use native.Mathlib.Nat.{zero-add, add-zero}
use borrow.Author.Tests.{eq-eqb, ne_eqb}
use lib.ListN.{length, get_or}
use Rattle.base.specs.Span.{span}
use Rattle.base.proofs.Span.{span_one, span_add}
use Rattle.job.specs.Job.{Rule}
use Rattle.job.specs.Format.{claims, rules, head_at, body_length_at, body_start, rule_at, job_of}
use Rattle.job.specs.Accepted.{WellFormed}
use Rattle.job.specs.Claims.{Index}
use Rattle.job.specs.declared.Cursor.{Cursor}
use Rattle.job.proofs.Parts.{body_start-next, rises}
use Rattle.job.proofs.Contiguous.{starts_here}
use Rattle.writing.specs.Writes.{Writes, HasRoom}
use Rattle.writing.specs.declared.writer.Writer.{Writer}
use Rattle.writing.proofs.Parted.{flat_append}
use Rattle.parts.proofs.Texting.{Texting, texting-start, texting-room, texting_more, texting_end}
use Rattle.parts.specs.Part.{part_rule, claim_rules}
use Rattle.parts.specs.declared.claim.Section.{Section}
use Rattle.parts.specs.Written.{texts_of, First}
use Rattle.parts.proofs.RuleText.{rule_text}

module _ (s t place : List ℕ) (i c : ℕ) where
  unfoldable pub ruled : ℕ → ℕ → List Rule
  ruled a n = claim_rules t place i c (span (rule_at s (rules s)) a n)

  -- rules of other heads
  none_ruled : (a n : ℕ) → ((j : ℕ) → a ≤ j → j < a + n → head_at s j ≡ c → ⊥) → ruled a n ≡ []
  unfolding ruled claim_rules flat_map span rule_at
  none_ruled a zero h = refl
  none_ruled a (suc n) h =
      rw (ne_eqb (head_at s a) c (h a (omega arith) (omega arith))) (none_ruled (suc a) n (λ j k l. h j (omega arith) (omega arith)))

  more_ruled : (a n : ℕ) → 0 < n → head_at s a ≡ c → ruled a n ≡ part_rule t place i (rule_at s (rules s) a) ++ ruled (a + 1) (n - 1)
  unfolding ruled claim_rules flat_map rule_at
  more_ruled a n h e =
      ap (claim_rules t place i c) (span_one (rule_at s (rules s)) a n h)
      ∙ ap (λ (x : Bool). cond x (part_rule t place i (rule_at s (rules s) a)) [] ++ ruled (a + 1) (n - 1)) (eq-eqb (head_at s a) c e)

  skip_ruled : (a n : ℕ) → ((j : ℕ) → j < a → head_at s j < c) → ruled 0 (a + n) ≡ ruled a n
  unfolding ruled claim_rules
  skip_ruled a n h =
      ap (claim_rules t place i c) (span_add (rule_at s (rules s)) 0 a n)
      ∙ flat_append _ (span (rule_at s (rules s)) 0 a) (span (rule_at s (rules s)) (0 + a) n)
      ∙ ap₂ ◌++◌ (none_ruled 0 a (λ j k l e. omega (arith, h j (omega arith)))) (ap (λ (x : ℕ). ruled x n) (zero-add a))

  pub all_ruled : claim_rules t place i c (job_of s).rules ≡ ruled 0 (rules s)
  unfolding ruled job_of
  all_ruled = refl

-- where the literals of the first rule of c start, by the index
pub first-place :
    {s index : List ℕ} {c r : ℕ} {k : Cursor} → WellFormed s → Index s index → c < claims s → First s c r
    → k ≡ record { at = get_or index c 0 + 0; end = get_or index (c + 1) 0 } → k.at ≡ body_start s r
first-place {s} {index} {c} {r} w x l f e =
    ap (λ (k : Cursor). k.at) e
    ∙ add-zero (get_or index c 0)
    ∙ x.starts c (omega arith)
    ∙ starts_here s (rules s) w.rise c r f.most f.before (λ h. f.from r (omega arith) h)

module _ (s t place : List ℕ) (i c : ℕ) (section : Section) where
  abbrev pub whole_text : List ℕ
  whole_text = texts_of section (claim_rules t place i c (job_of s).rules)

  abbrev pub claim_text : ℕ → List ℕ
  claim_text a = texts_of section (ruled s t place i c a (rules s - a))

  pub record Walking (out₀ out : Writer) (from r : ℕ) : Type 0 where
    pub most : r ≤ rules s
    pub starts : from ≡ body_start s r
    pub high : (j : ℕ) → r ≤ j → j < rules s → c ≤ head_at s j
    pub texting : Texting out₀ whole_text out (claim_text r)

  pub walking_start : (out : Writer) {from r : ℕ} → HasRoom out (length whole_text) → from ≡ body_start s r → First s c r → Walking out out from r
  walking_start out {from} {r} h e f =
      let k : rules s ≡ r + (rules s - r) = omega (arith, f.most) in
      let q : whole_text ≡ claim_text r =
      ap (texts_of section) (all_ruled s t place i c ∙ ap (ruled s t place i c 0) k ∙ skip_ruled s t place i c r (rules s - r) f.before) in
      record { most = f.most; starts = e; high = f.from; texting = texting-start out h q }

  module _ {out₀ out : Writer} {from r : ℕ} (a : Walking out₀ out from r) where
    module _ (l : r < rules s) {h : ℕ} (read : h ≡ head_at s r) where
      module _ (e : h ≡ c) where
        first : claim_text r ≡ rule_text s t place i r section ++ claim_text (r + 1)
        first =
            let k : rules s - r - 1 ≡ rules s - (r + 1) = omega arith in
            ap (texts_of section) (more_ruled s t place i c r (rules s - r) (omega arith) (sym read ∙ e))
            ∙ flat_append _ (part_rule t place i (rule_at s (rules s) r)) (ruled s t place i c (r + 1) (rules s - r - 1))
            ∙ ap (λ (n : ℕ). rule_text s t place i r section ++ texts_of section (ruled s t place i c (r + 1) n)) k

        pub walking-room : HasRoom out (length (rule_text s t place i r section))
        walking-room = texting-room a.texting _ _ first

        pub walking-more :
            {out' : Writer} {n : ℕ} → Writes out out' (rule_text s t place i r section) → n ≡ body_length_at s r → Walking out₀ out' (from + n) (r + 1)
        walking-more w q =
            record {
              most = omega arith;
              starts = omega (arith, a.starts, body_start-next s r);
              high = λ j k. a.high j (omega arith);
              texting = texting_more a.texting _ _ first w;
            }

      pub walking_done : WellFormed s → (h ≡ c → ⊥) → Writes out₀ out whole_text
      unfolding flat_map
      walking_done w n =
          texting_end a.texting
          (ap (texts_of section) (none_ruled s t place i c r (rules s - r) (λ j k m q. n (omega (arith, rises s (rules s) w.rise r j k (omega arith), a.high r (omega arith) l)))))

    pub walking_end : rules s ≤ r → Writes out₀ out whole_text
    unfolding flat_map
    walking_end h =
        texting_end a.texting (ap (texts_of section) (none_ruled s t place i c r (rules s - r) (λ j k m. absurd (omega arith))))

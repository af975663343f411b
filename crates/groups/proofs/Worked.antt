-- The answers worked out by hand (specs/Worked) are those of the rows: computed. Assumes nothing.
use Prim.Native.Nat.{ℕ}
use mathlib.Core.Path.{◌≡◌, refl, sym, ap, subst}
use mathlib.Core.List.Memᴰ
use mathlib.Core.List.{[], ◌∷◌, flat_map}
use mathlib.Core.Logic.{⊎_elim}
use native.Mathlib.Omega.{arith}
use Rattle.base.specs.Compare.{under, over, not_below, differs}
use Rattle.base.specs.Sets.{iterate}
use Rattle.base.specs.Span.{span}
use Rattle.job.specs.Bytes.{word, half}
use Rattle.job.specs.Job.{Rule, body_count, literals_of}
use Rattle.job.specs.Format.{body_length_at, missing_at, head_before, body_start, literal_of, rule_at, job_of}
use Rattle.job.specs.Rows.{◌⨾◌, row, scan}
use Rattle.job.specs.Checks.{check_job, check_header, check_parts, check_length, check_total, check_counts, check_offsets, check_heads, check_bodies, check_literals, check_questions}
use Rattle.job.specs.Encoding.{encode, header_bytes, length_of}
use Rattle.groups.specs.Groups.{Open, public, own, DifferElsewhere, foreign, leaves, nearer, abroad, check_lists, check_partners, admit_check}
use Rattle.groups.specs.Worked.{before, after, AdmissionsRight}

-- claim 1 is group 7's
hidden : (g : ℕ) → (g ≡ 7 → ⊥) → Open (0 ∷ 7 ∷ []) g 1 → ⊥
hidden g n (public e) = absurd (omega arith)
hidden g n (own e) = n (sym e)

differ : (g : ℕ) → (g ≡ 7 → ⊥) → DifferElsewhere before after (0 ∷ 7 ∷ []) g
differ g n =
    record {
      claims = refl;
      workers = refl;
      questions = refl;
      rules = λ r o. (
        λ m.
            ⊎_elim (λ e. Memᴰ.head e)
            (λ k.
            ⊎_elim (λ e. absurd (hidden g n (subst (Open (0 ∷ 7 ∷ []) g) (ap (λ (x : Rule). x.head) e) o))) (λ i. absurd (Memᴰ.not-nil i))
            (Memᴰ.cases_cons k))
            (Memᴰ.cases_cons m),
        λ m. ⊎_elim (λ e. Memᴰ.head e) (λ i. absurd (Memᴰ.not-nil i)) (Memᴰ.cases_cons m),
      );
    }

pub admissions_right : AdmissionsRight
unfolding admit_check check_lists check_partners abroad nearer leaves foreign iterate span literals_of job_of rule_at check_job check_header check_parts check_length check_total check_counts check_offsets check_heads check_bodies check_literals check_questions ◌⨾◌ row scan under over not_below differs encode header_bytes length_of body_count word half body_length_at missing_at head_before body_start literal_of flat_map
admissions_right = record { stated = refl; differ = differ 8 (λ e. omega arith); differ_public = differ 0 (λ e. omega arith) }

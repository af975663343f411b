-- A part that stands alone has the verdicts of the whole job in which each complete claim has its rules exchanged by its value. Assumes nothing.
--   job_in, job_out        the rules of a claim of the part, in the job
--   rule-in, rule_out      and in the part
--   comes, goes            the literals of one by those of the other
--   part-stands            the part stands for its claims (semantics/specs/Relevance: Stands)
--   part-verdict           the theorem
use Prim.Native.Nat.{ℕ, ◌<◌, ◌≤◌}
use mathlib.Core.Path.{◌≡◌, refl, sym, ◌∙◌, ap, subst, subst⁻¹}
use mathlib.Core.Bool.{Bool, true, false, not}
use mathlib.Core.List.Memᴰ
use mathlib.Core.List.{List, [], ◌∷◌}
use mathlib.Core.Logic.{◌⊎◌, inl, inr, ⊎_elim, by_cases}
use mathlib.Core.Option.{Option}
use native.Mathlib.Omega.{arith}
use borrow.Author.Tests.{eq-eqb}
use lib.Dec.{T, T_not, not_T, eqb, eqb→eq}
use lib.ListN.{length, get_or}
use Rattle.base.specs.Sets.{set_of}
use Rattle.base.proofs.Bools.{is, twice-not, and_in, and_right, or_cases}
use Rattle.base.proofs.ByteSets.{set_below}
use Rattle.base.proofs.Choose.{t?}
use Rattle.job.specs.Job.{Rule, ◌if◌, missing_record, Job, claim_of}
use Rattle.job.specs.Encoding.{◌∈◌, Valid}
use Rattle.job.specs.declared.Literal.{Literal}
use Rattle.job.specs.declared.Literal.TheVariants.{Negated}
use Rattle.semantics.specs.Model.{Body, Program, RuleOf, body_of, bodies_of, program, program_of, Verdict, verdict, exchange, exchanged_bodies, known_of}
use Rattle.semantics.specs.Relevance.{Failed, by, Comes, from, instead, Goes, there, sure, Stands}
use Rattle.semantics.proofs.Bodies.{bodies_at, bodies_out}
use Rattle.semantics.proofs.Heads.{pass-each, one-fails}
use Rattle.semantics.proofs.Relevance as relevance
use Rattle.table.specs.Layout.{mark, complete, values, undefined_mark}
use Rattle.table.specs.Literals.{failed}
use Rattle.table.specs.Ranges.{InRange}
use Rattle.table.proofs.Shown.{mark_most}
use Rattle.parts.specs.Part.{Numbered, renumbered, within, failing, standing, part_body, part, Alone}
use Rattle.parts.proofs.Rules.{body_in, own_in, body_out, Made, missing, stood, made-head, part_in, part_out, member-set, number-below, number-back}
use Rattle.parts.proofs.Resolved.{none-known, false-literal, open-literal, settled-literal}

-- how a rule is read
module _ (r : Rule) where
  read-missing : r.missing ≡ true → body_of r ≡ Negated r.head ∷ []
  read-missing e = rw e

  read-own : r.missing ≡ false → body_of r ≡ r.body
  read-own e = rw e

  in-read : r.missing ≡ false → (l : Literal) → l ∈ r.body → l ∈ body_of r
  in-read e l k = subst⁻¹ (λ (b : Body). l ∈ b) (read-own e) k

module _
    (j : Job) (valid : Valid j) (t place ms : List ℕ) (marks : (c : ℕ) → c < j.claims → mark t c ≤ undefined_mark)
    (long : length place ≡ j.claims) (numbered : Numbered place ms) (alone : Alone j t place)
  where
    abbrev P : Program
    P = exchange (known_of (values j t)) (program_of j)

    abbrev Q : Program
    Q = program_of (part j t place ms)

    abbrev at : ℕ → ℕ
    at i = get_or ms i 0

    abbrev In : ℕ → Type 0
    In i = i < length ms

    bodies_kept : (i : ℕ) → In i → P.bodies (at i) ≡ bodies_of j.rules (at i)
    unfolding program
    bodies_kept i x =
        ap (λ (o : Option Verdict). exchanged_bodies (at i) o (bodies_of j.rules (at i)))
        (none-known j t (at i) (alone.incomplete (at i) (member-set place ms numbered i x)))

    job_in : (i : ℕ) (r : Rule) → In i → r ∈ j.rules → r.head ≡ at i → RuleOf P (at i) (body_of r)
    unfolding program
    job_in i r x m e = (
      omega (arith, set_below place (at i) (member-set place ms numbered i x)),
      subst⁻¹ (λ (bs : List Body). body_of r ∈ bs) (bodies_kept i x) (bodies_at body_of j.rules r (at i) m e),
    )

    job_out : (i : ℕ) (b : Body) → In i → RuleOf P (at i) b → (r : Rule) × r ∈ j.rules × (r.head ≡ at i) × (b ≡ body_of r)
    job_out i b x r = bodies_out body_of j.rules (at i) b (subst (λ (bs : List Body). b ∈ bs) (bodies_kept i x) r.1)

    rule-in : (i : ℕ) (r r' : Rule) → In i → r ∈ j.rules → r.head ≡ at i → Made t place i r r' → RuleOf Q i (body_of r')
    unfolding program part
    rule-in i r r' x m e k =
        (x, bodies_at body_of (part j t place ms).rules r' i (part_in j t place ms i r r' x m e k) (made-head t place i r r' k))

    abbrev Origin : ℕ → Body → Type 0
    Origin i c = (r r' : Rule) × r ∈ j.rules × (r.head ≡ at i) × Made t place i r r' × (c ≡ body_of r')

    rule_out : (i : ℕ) (c : Body) → RuleOf Q i c → Origin i c
    unfolding program part
    rule_out i c q =
        let a = bodies_out body_of (part j t place ms).rules i c q.1 in
        let s = part_out j t place ms a.0 a.1 in
        let e : s.i ≡ i = sym (made-head t place s.i s.r a.0 s.made) ∙ a.2 in
        (s.r, a.0, s.in_job, s.head ∙ ap at e, subst (λ (k : ℕ). Made t place k s.r a.0) e s.made, a.3)

    module _ (i : ℕ) (x : In i) (r : Rule) (m : r ∈ j.rules) (head : r.head ≡ at i) where
      missing_comes : r.missing ≡ true → (l : Literal) → l ∈ (Negated i ∷ []) → Comes P In at i (body_of r) l
      missing_comes e l k =
          subst⁻¹ (Comes P In at i (body_of r)) (Memᴰ.eq_of_singleton k)
          (from x (subst⁻¹ (λ (b : Body). Negated (at i) ∈ b) (read-missing r e) (Memᴰ.head (ap Negated (sym head)))))

      stood_comes : r.missing ≡ false → (l : Literal) → l ∈ part_body t place i r.body → Comes P In at i (body_of r) l
      stood_comes e l k =
          ⊎_elim
          (λ f.
          subst⁻¹ (Comes P In at i (body_of r)) f.3
          (from (number-below place ms numbered f.0 f.2)
          (in-read r e _ (subst⁻¹ (λ (y : Literal). y ∈ r.body) (number-back place ms numbered f.0 f.2) f.1))))
          (λ o.
          let u = o.1 in
          let w = and_right (not (within place u.0)) (eqb (mark t (claim_of u.0)) undefined_mark) u.2 in
          instead o.0 u.0 (in-read r e u.0 u.1)
          (open-literal j t u.0 (valid.literals r m u.0 u.1) (eqb→eq (mark t (claim_of u.0)) undefined_mark w)))
          (body_out t place i r.body l k)

      comes : (r' : Rule) → Made t place i r r' → (l : Literal) → l ∈ body_of r' → Comes P In at i (body_of r) l
      comes r' (missing e q) = subst⁻¹ (λ (y : Rule). (l : Literal) → l ∈ body_of y → Comes P In at i (body_of r) l) q (missing_comes e)
      comes r' (stood e s q) = subst⁻¹ (λ (y : Rule). (l : Literal) → l ∈ body_of y → Comes P In at i (body_of r) l) q (stood_comes e)

      missing-goes : r.missing ≡ true → (l : Literal) → l ∈ body_of r → Goes P In at i (Negated i ∷ []) l
      missing-goes e l k =
          let q : l ≡ Negated r.head = Memᴰ.eq_of_singleton (subst (λ (b : Body). l ∈ b) (read-missing r e) k) in
          there (Negated i) (Memᴰ.head refl) x (ap Negated (sym head) ∙ sym q)

      stood-goes : r.missing ≡ false → T (standing t place r.body) → (l : Literal) → l ∈ body_of r → Goes P In at i (part_body t place i r.body) l
      stood-goes e s l k = by_cases (t? (within place l)) inside (λ n. outside n)
        where
          n : l ∈ r.body
          n = subst (λ (b : Body). l ∈ b) (read-own r e) k

          below : claim_of l < j.claims
          below = valid.literals r m l (subst (λ (b : Body). l ∈ b) (read-own r e) k)

          inside : T (within place l) → Goes P In at i (part_body t place i r.body) l
          inside w = there (renumbered place l) (body_in t place i r.body l n w) (number-below place ms numbered l w) (number-back place ms numbered l w)

          done : (T (within place l) → ⊥) → T (complete t (claim_of l))
          done w =
              ⊎_elim (λ y. absurd (w y)) (λ y. y)
              (or_cases (within place l) (complete t (claim_of l))
              (alone.covered r m (subst⁻¹ (λ (c : ℕ). T (set_of place c)) head (member-set place ms numbered i x)) s l n))

          outside : (T (within place l) → ⊥) → Goes P In at i (part_body t place i r.body) l
          outside w =
              ⊎_elim (λ y. sure y)
              (λ u. instead (open-literal j t l below u)
              (own_in t place i r.body l n
              (and_in (not (within place l)) (eqb (mark t (claim_of l)) undefined_mark) (not_T (within place l) w)
              (is (eqb (mark t (claim_of l)) undefined_mark) (eq-eqb (mark t (claim_of l)) undefined_mark u)))))
              (settled-literal j t l below (done w) (marks (claim_of l) below)
              (λ f. T_not (failing t place l) (pass-each (λ y. not (failing t place y)) r.body s l n)
              (and_in (not (within place l)) (failed t l) (not_T (within place l) w) f)))

      goes : (r' : Rule) → Made t place i r r' → (l : Literal) → l ∈ body_of r → Goes P In at i (body_of r') l
      goes r' (missing e q) = subst⁻¹ (λ (y : Rule). (l : Literal) → l ∈ body_of r → Goes P In at i (body_of y) l) q (missing-goes e)
      goes r' (stood e s q) = subst⁻¹ (λ (y : Rule). (l : Literal) → l ∈ body_of r → Goes P In at i (body_of y) l) q (stood-goes e s)

      abbrev Kept : Body → Type 0
      Kept b = Failed P b ⊎ ((c : Body) × RuleOf Q i c × ((l : Literal) → l ∈ c → Comes P In at i b l))

      made-keeps : (r' : Rule) → Made t place i r r' → Kept (body_of r)
      made-keeps r' k = inr (body_of r', rule-in i r r' x m head k, comes r' k)

      own-keeps : r.missing ≡ false → Kept (body_of r)
      own-keeps e =
          by_cases (t? (standing t place r.body)) (λ s. made-keeps (i if part_body t place i r.body) (stood e s refl))
          (λ n.
          let f = one-fails (λ y. not (failing t place y)) r.body n in
          let g = twice-not (failing t place f.0) f.2 in
          inl (by f.0 (in-read r e f.0 f.1)
          (false-literal j t f.0 (valid.literals r m f.0 f.1) (and_right (not (within place f.0)) (failed t f.0) g))))

      keeps : Kept (body_of r)
      keeps = go r.missing refl
        where
          go : (a : Bool) → r.missing ≡ a → Kept (body_of r)
          go true e = made-keeps (missing_record i) (missing e refl)
          go false e = own-keeps e

    part-stands : Stands P Q In at
    part-stands =
        record {
          kept = λ i b x q.
              let a = job_out i b x q in
              subst⁻¹ (Kept i x a.0 a.1 a.2) a.3 (keeps i x a.0 a.1 a.2);
          only = λ i c x q.
              let a = rule_out i c q in (
                body_of a.0,
                job_in i a.0 x a.2 a.3,
                subst⁻¹ (λ (y : Body). (l : Literal) → l ∈ body_of a.0 → Goes P In at i y l) a.5 (goes i x a.0 a.2 a.3 a.1 a.4),
              );
        }

    part_same : (i : ℕ) → In i → verdict Q i ≡ verdict P (at i)
    part_same = relevance.standing P Q In at part-stands

pub part-verdict :
    (j : Job) → Valid j → (t place ms : List ℕ) → InRange j t → length place ≡ j.claims → Numbered place ms → Alone j t place
    → (i : ℕ) → i < length ms → verdict (program_of (part j t place ms)) i ≡ verdict (exchange (known_of (values j t)) (program_of j)) (get_or ms i 0)
part-verdict j valid t place ms range long numbered alone =
    part_same j valid t place ms (λ c h. mark_most j t c (omega (arith, valid.workers_most)) (range.claim c h)) long numbered alone

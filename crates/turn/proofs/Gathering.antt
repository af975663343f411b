-- The loop of `gather`: a queue, of which the part from i on holds all that is met and not yet looked at. Assumes nothing.
--   passed-met        the literals that a claim has passed, as the index and the table's cursor give them
--   passed-room       meeting their claims stays within job, table and queue; passed-literals   they are literals of the job
--   leads_parts, _of  what a claim leads to is what a walk over its passed literals meets
--   Gathering         what the loop keeps, with its laws: gathering-start, _more, _done
use Prim.Native.Nat.{ℕ, ◌+◌, ◌-◌, ◌≤◌, ◌<◌}
use mathlib.Core.Path.{◌≡◌, refl, sym, ◌∙◌, ap, ap₂, subst, subst⁻¹}
use mathlib.Core.Bool.{false, not, ◌||◌}
use mathlib.Core.List.{List, map}
use mathlib.Core.Logic.{◌⊎◌, inl, inr, ⊎_elim, by_cases}
use native.Mathlib.Omega.{arith}
use native.Mathlib.Decide.{ℕ_discrete, dec_lt}
use lib.Dec.{T, eqb, not_T, leb→le, nleb→lt}
use lib.ListN.{length, get_or, get_or-eq_default}
use lib.Seq.{get_or-set_same}
use Rattle.base.specs.Graph.{Reach, here}
use Rattle.base.specs.Lists.{is_in}
use Rattle.base.specs.Span.{span}
use Rattle.base.proofs.Bools.{is-not, same, or_left, or_right, or_cases}
use Rattle.base.proofs.Lists.{In}
use Rattle.base.proofs.Paths.{trans, one, stays}
use Rattle.base.proofs.Sets.{count_le}
use Rattle.base.proofs.Span.{map-span}
use Rattle.job.specs.Job.{claim_of, most_claims, most_literals}
use Rattle.job.specs.Format.{claims, rules, literal_at, job_of, literals}
use Rattle.job.specs.Accepted.{WellFormed}
use Rattle.job.specs.Claims.{claim_start, end_in}
use Rattle.job.specs.declared.Cursor.{Cursor}
use Rattle.job.proofs.Contiguous.{claim-literals}
use Rattle.base.specs.Sets.{Claims, ◌⊆◌, set_of}
use Rattle.table.specs.Layout.{mark, cursor, complete, number_word, true_mark}
use Rattle.turn.specs.Turn.{lits, reached}
use Rattle.turn.specs.Ready.{Ready}
use Rattle.turn.specs.Gather.{Work, visits, met_from, met, Gathered, Room, Leading, Spread}
use Rattle.turn.proofs.Jobs.{lits-length, job_ok}
use Rattle.turn.proofs.Reached.{Leads, reached_in, in-reached}
use Rattle.turn.proofs.Leading.{leads-passed, passed-leads, leads-low}
use Rattle.turn.proofs.Walk.{end_is, end-past, Clear, met_in, in-met}
use Rattle.turn.proofs.Worklist.{set_there, set_other, place-some, member_in, push-room, pushed, pushed-gathered, at, Was, before, new, Grown, visits-grown}

-- what is in a set has a byte
pub seen_low : (w : List ℕ) (d : ℕ) → T (set_of w d) → d < length w
unfolding set_of
seen_low w d h =
    by_cases (dec_lt d (length w)) (λ l. l)
    (λ n. absurd (subst (λ (x : ℕ). T (not (eqb x 0))) (get_or-eq_default w 0 (omega arith)) h))

pub job-claims : (s : List ℕ) → (job_of s).claims ≡ claims s
unfolding job_of
job-claims s = refl

-- the claims of a claim's literals
pub lits-span : (s : List ℕ) → WellFormed s → (c : ℕ) → lits (job_of s) c ≡ span (λ i. claim_of (literal_at s (rules s) i)) (claim_start s c) (claim_start s (c + 1) - claim_start s c)
unfolding lits
lits-span s w c = ap (map claim_of) (claim-literals s w c).part ∙ map-span claim_of (literal_at s (rules s)) (claim_start s c) (claim_start s (c + 1) - claim_start s c)

-- what c leads to: the claims of literals that it has passed, and that stand behind none
module _ (s index t : List ℕ) (r : Ready s index t) (c : ℕ) (h : c < claims s) where
  abbrev over : Cursor
  over = record { at = claim_start s c; end = claim_start s c + cursor t c }

  abbrev pub taken : List ℕ
  taken = met_from s (rules s) index t (cursor t c) over

  low-job : c < (job_of s).claims
  low-job = omega (arith, job-claims s)

  within : cursor t c ≤ length (lits (job_of s) c)
  within = omega (arith, (r.table.claim c low-job).read, lits-length (job_of s) c)

  -- the walk starts at c's literal 0
  from_start : (d : ℕ) → In d (met_from s (rules s) index t (cursor t c) (record { at = claim_start s c + 0; end = claim_start s c + cursor t c })) ≡ In d taken
  from_start d =
      let z : claim_start s c + 0 ≡ claim_start s c = omega arith in
      ap (λ (y : ℕ). In d (met_from s (rules s) index t (cursor t c) (record { at = y; end = claim_start s c + cursor t c }))) z

  walked : (d : ℕ) → In d taken → Clear s index t r.job r.indexed c 0 (cursor t c) d
  walked d i = met_in s index t r.job r.indexed c (cursor t c) 0 (cursor t c) within (λ b. omega (arith, b.before)) d (subst⁻¹ (λ (X : Type 0). X) (from_start d) i)

  pub leads_parts : (d : ℕ) → Leads (job_of s) t c d → In d taken × T (not (complete t d))
  leads_parts d l =
      let p = leads-passed (job_of s) (job_ok s r.job) t l in
      let a = p.0 in
      let x : Clear s index t r.job r.indexed c 0 (cursor t c) d = record { at = a.at; from = omega arith; to = a.before; is = a.is; clear = a.clear } in
      (subst (λ (X : Type 0). X) (from_start d) (in-met s index t r.job r.indexed c (cursor t c) 0 (cursor t c) within (omega arith) d x), not_T (complete t d) (λ b. absurd (omega (arith, p.1, leb→le true_mark (mark t d) b))))

  pub leads_of : (d : ℕ) → In d taken → T (not (complete t d)) → Leads (job_of s) t c d
  leads_of d i n =
      let x = walked d i in
      passed-leads (job_of s) (job_ok s r.job) t x.at x.to (omega (arith, x.to, within)) x.is x.clear (nleb→lt true_mark (mark t d) n)

  pub taken-low : (d : ℕ) → In d taken → d < claims s
  taken-low d i =
      let x = walked d i in
      let k : get_or (lits (job_of s) c) x.at 0 < (job_of s).claims = (job_ok s r.job).literal c x.at (omega (arith, x.to, within)) in
      omega (arith, job-claims s, subst (λ (y : ℕ). y < (job_of s).claims) x.is k)

-- the cursor over what claim d has passed
abbrev pub passed_cursor : List ℕ → List ℕ → ℕ → Cursor
passed_cursor index t d = record { at = get_or index d 0; end = get_or index d 0 + cursor t d }

module _ (s index t : List ℕ) (r : Ready s index t) (d : ℕ) (l : d < claims s) where
  pub passed-from : get_or index d 0 ≡ claim_start s d
  passed-from = r.indexed.starts d (omega arith)

  pub passed-few : d < most_claims
  passed-few = omega (arith, r.job.sized.claims_most)

  pub passed_words : number_word d < length t
  passed_words = omega (arith, r.table.room, job-claims s)

  passed_most : cursor t d ≤ claim_start s (d + 1) - claim_start s d
  passed_most = omega (arith, (r.table.claim d (omega (arith, job-claims s))).read, (claim-literals s r.job d).count)

  pub passed_start : get_or index d 0 ≤ most_literals
  passed_start =
      let p = claim-literals s r.job d in
      omega (arith, passed-from, p.within, p.ordered, r.job.sized.literals_most)

  module _ (m : ℕ) (e : m ≡ rules s) (c : Cursor) (q : c ≡ passed_cursor index t d) where
    pub passed-met : met s m index t c ≡ taken s index t r d l
    passed-met =
        let z : claim_start s d + cursor t d - claim_start s d ≡ cursor t d = omega arith in
        ap₂ (λ (x : ℕ) (y : Cursor). met s x index t y) e q
        ∙ (ap (λ (x : ℕ). met s (rules s) index t (record { at = x; end = x + cursor t d })) passed-from
        ∙ ap (λ (n : ℕ). met_from s (rules s) index t n (over s index t r d l)) z)

    pub passed-literals : c.end ≤ literals s
    passed-literals = let p = claim-literals s r.job d in omega (arith, p.within, p.ordered, passed_most, passed-from, ap (λ (x : Cursor). x.end) q)

    pub passed-room : (n : ℕ) (k : Work) → n ≡ claims s → Gathered (claims s) k → Room s m index t n c k
    passed-room n k i f =
        let p = claim-literals s r.job d in
        let z = r.job.sized.size in
        let a = ap (λ (x : Cursor). x.at) q in
        let b = ap (λ (x : Cursor). x.end) q in
        record {
          bytes = omega (arith, p.within, p.ordered, passed_most, passed-from);
          most = omega (arith, p.within, p.ordered, passed_most, passed-from, r.job.sized.literals_most);
          ends = λ i g h.
              let k = i - claim_start s d in
              let y : claim_start s d + k ≡ i = omega (arith, passed-from) in
              let low : k < length (lits (job_of s) d) = omega (arith, passed_most, passed-from, p.count, lits-length (job_of s) d) in
              omega (arith, ap (end_in index) y, end_is s index t r.job r.indexed d k low, end-past s index t r.job r.indexed d k low);
          below = λ k g h. subst⁻¹ (λ (x : ℕ). claim_of (literal_at s m k) < x) i (subst⁻¹ (λ (x : ℕ). claim_of (literal_at s x k) < claims s) e (r.job.literal k (omega (arith, p.within, p.ordered, passed_most, passed-from))));
          words = omega (arith, r.table.room, job-claims s);
          fits = subst⁻¹ (λ (x : ℕ). Gathered x k) i f;
        }

-- a claim of the set stands in the queue from i on, or all that it leads to is in the set
pub data Looked (s t : List ℕ) (i : ℕ) (k : Work) (d : ℕ) : Type 0 where
  waits : (j : ℕ) → i ≤ j → j < k.top → get_or k.members j 0 ≡ d → Looked s t i k d
  closed : ((e : ℕ) → Leads (job_of s) t d e → T (set_of k.place e)) → Looked s t i k d

-- `old` are the claims that were in the set before
pub record Gathering (s t : List ℕ) (old : Claims) (claim i : ℕ) (k : Work) : Type 0 where
  pub fits : Gathered (claims s) k
  pub start : T (set_of k.place claim)
  pub keeps : old ⊆ set_of k.place
  pub sound : (d : ℕ) → T (set_of k.place d) → T (old d) ⊎ Reach (Leads (job_of s) t) claim d
  pub waiting : (j : ℕ) → i ≤ j → j < k.top → Reach (Leads (job_of s) t) claim (get_or k.members j 0)
  pub looked : (d : ℕ) → T (set_of k.place d) → Looked s t i k d

pub gathering-top : {s t : List ℕ} {old : Claims} {claim i : ℕ} {k : Work} → Gathering s t old claim i k → k.top ≤ claims s
gathering-top {s} {t} {old} {claim} {i} {k} g = omega (arith, g.fits.most, count_le (set_of k.place) (claims s))

-- the claim joins a set from which nothing else is led to that isn't in it
module _ (s t : List ℕ) (claim : ℕ) (k : Work) (f : Gathered (claims s) k) (l : claim < claims s) (out : set_of k.place claim ≡ false) (lead : Leading (job_of s) t k.place claim) where
  missing : T (set_of k.place claim) → ⊥
  missing h = is-not (set_of k.place claim) out h

  inside : claim < length k.place
  inside = omega (arith, f.long)

  there : T (set_of (pushed k claim).place claim)
  there = set_there k.place claim k.top inside

  pub gathering-room : (k.top < length k.members) × (k.top < claims s)
  gathering-room = push-room (claims s) k claim f l missing

  stays_in : (d : ℕ) → T (set_of k.place d) → T (set_of (pushed k claim).place d)
  stays_in d h =
      by_cases (ℕ_discrete d claim) (λ e. subst⁻¹ (λ (x : ℕ). T (set_of (pushed k claim).place x)) e there)
      (λ n. subst⁻¹ T (set_other k.place claim k.top d n) h)

  pub gathering-start : Gathering s t (set_of (pushed k claim).place) claim k.top (pushed k claim)
  gathering-start =
      record {
        fits = pushed-gathered (claims s) k claim f l missing;
        start = there;
        keeps = λ d h. h;
        sound = λ d h. inl h;
        waiting = λ i a b.
            let e : i ≡ k.top = omega arith in
            subst⁻¹ (λ (x : ℕ). Reach (Leads (job_of s) t) claim x) (ap (λ (x : ℕ). get_or (pushed k claim).members x 0) e ∙ get_or-set_same k.members k.top claim 0 gathering-room.0) here;
        looked = λ d h.
            by_cases (ℕ_discrete d claim) (λ e. waits k.top (omega arith) (omega arith) (get_or-set_same k.members k.top claim 0 gathering-room.0 ∙ sym e))
            (λ n.
            let was = subst T (set_other k.place claim k.top d n) h in
            closed (λ e y. ⊎_elim (λ z. stays_in e z) (λ z. subst⁻¹ (λ (x : ℕ). T (set_of (pushed k claim).place x)) z there) (lead d e was y.leads_in)));
      }

-- the claim d at place i of the queue, and the claims met whose literals it has passed
module _ (s index t : List ℕ) (r : Ready s index t) (old : Claims) (claim i : ℕ) (k : Work) (g : Gathering s t old claim i k) (some : i < k.top) (d : ℕ) (e : d ≡ get_or k.members i 0) where
  next-seen : T (set_of k.place d)
  next-seen = subst⁻¹ (λ (x : ℕ). T (set_of k.place x)) e (member_in g.fits i some)

  pub next_low : d < claims s
  next_low = omega (arith, seen_low k.place d next-seen, g.fits.long)

  module _ (m : ℕ) (h : m ≡ rules s) (c : Cursor) (q : c ≡ passed_cursor index t d) (k' : Work) (v : visits t (met s m index t c) k ≡ k') where
    abbrev ones : List ℕ
    ones = taken s index t r d next_low

    grown : Grown t (claims s) ones k k'
    grown =
        subst (λ (x : Work). Grown t (claims s) ones k x) (ap (λ (bs : List ℕ). visits t bs k) (sym (passed-met s index t r d next_low m h c q)) ∙ v)
        (visits-grown t (claims s) ones k g.fits (λ b h. taken-low s index t r d next_low b h))

    to-next : Reach (Leads (job_of s) t) claim d
    to-next = subst⁻¹ (Reach (Leads (job_of s) t) claim) e (g.waiting i (omega arith) some)

    found : (b : ℕ) → Was t ones k k' b → T (old b) ⊎ Reach (Leads (job_of s) t) claim b
    found b (before h) = g.sound b h
    found b (new h n x) = inr (trans to-next (one (leads_of s index t r d next_low b h n)))

    shut : (x : ℕ) → x ≡ d → (b : ℕ) → Leads (job_of s) t x b → T (set_of k'.place b)
    shut x z b y = let p = leads_parts s index t r d next_low b (rw z at y) in grown.met b p.0 p.1

    still : (b : ℕ) → Looked s t i k b → Looked s t (i + 1) k' b
    still b (closed f) = closed (λ x y. grown.keeps x (f x y))
    still b (waits j l h z) =
        by_cases (ℕ_discrete j i) (λ y. closed (shut b (sym z ∙ (ap (λ (x : ℕ). get_or k.members x 0) y ∙ sym e))))
        (λ n. waits j (omega arith) (omega (arith, grown.higher)) (grown.below j h ∙ z))

    -- a claim met for the first time stands behind all that were met before
    looks : (b : ℕ) → Was t ones k k' b → Looked s t (i + 1) k' b
    looks b (before h) = still b (g.looked b h)
    looks b (new h n (at j l z)) =
        by_cases (dec_lt j k.top) (λ y. still b (g.looked b (subst (λ (x : ℕ). T (set_of k.place x)) (sym (grown.below j y) ∙ z) (member_in g.fits j y))))
        (λ y. waits j (omega arith) l z)

    -- and was not in the set
    not-before : (j : ℕ) → k.top ≤ j → j < k'.top → T (set_of k.place (get_or k'.members j 0)) → ⊥
    not-before j a l h =
        let b = get_or k'.members j 0 in
        let p = get_or k.place b 0 - 1 in
        let was = g.fits.listed b h in
        let some = place-some k.place b h in
        let same' : get_or k'.members p 0 ≡ b = grown.below p (omega (arith, was.0)) ∙ was.1 in
        let here' = grown.gathered.placed j l in
        let there' = grown.gathered.placed p (omega (arith, was.0)) in
        let q : get_or k'.place (get_or k'.members p 0) 0 ≡ get_or k'.place b 0 = ap (λ (x : ℕ). get_or k'.place x 0) same' in
        omega (arith, was.0)

    came : (b : ℕ) → Was t ones k k' b → (T (set_of k.place b) → ⊥) → Reach (Leads (job_of s) t) claim b
    came b (before h) n = absurd (n h)
    came b (new h m x) n = trans to-next (one (leads_of s index t r d next_low b h m))

    waited : (j : ℕ) → i + 1 ≤ j → j < k'.top → Reach (Leads (job_of s) t) claim (get_or k'.members j 0)
    waited j a l =
        by_cases (dec_lt j k.top) (λ y. subst⁻¹ (Reach (Leads (job_of s) t) claim) (grown.below j y) (g.waiting j (omega arith) y))
        (λ y. came (get_or k'.members j 0) (grown.was (get_or k'.members j 0) (member_in grown.gathered j l)) (not-before j (omega arith) l))

    pub gathering_more : Gathering s t old claim (i + 1) k'
    gathering_more =
        record {
          fits = grown.gathered;
          start = grown.keeps claim g.start;
          keeps = λ b h. grown.keeps b (g.keeps b h);
          sound = λ b h. found b (grown.was b h);
          waiting = waited;
          looked = λ b h. looks b (grown.was b h);
        }

-- where all of the queue was looked at, the set is closed and holds the claim: what is reached has joined it
module _ (s index t : List ℕ) (r : Ready s index t) (k₀ : Work) (claim : ℕ) (l : claim < claims s) (f : Gathered (claims s) k₀) (i : ℕ) (k : Work) (g : Gathering s t (set_of (pushed k₀ claim).place) claim i k) (none : k.top ≤ i) where
  shut_all : (x y : ℕ) → Leads (job_of s) t x y → T (set_of k.place x) → T (set_of k.place y)
  shut_all x y h z = go (g.looked x z)
    where
      go : Looked s t i k x → T (set_of k.place y)
      go (closed f) = f y h
      go (waits j a b e) = absurd (omega arith)

  low-leads : (c d : ℕ) → Leads (job_of s) t c d → d < (job_of s).claims
  low-leads = leads-low (job_of s) (job_ok s r.job) t

  low-claim : claim < (job_of s).claims
  low-claim = omega (arith, job-claims s)

  is-reached : (d : ℕ) → Reach (Leads (job_of s) t) claim d → T (set_of k₀.place d || is_in d (reached (job_of s) t claim))
  is-reached d z = or_right (set_of k₀.place d) (is_in d (reached (job_of s) t claim)) (reached_in (job_of s) t low-leads claim low-claim d z)

  was-there : (d : ℕ) → T (set_of (pushed k₀ claim).place d) → T (set_of k₀.place d || is_in d (reached (job_of s) t claim))
  was-there d h =
      by_cases (ℕ_discrete d claim) (λ e. is-reached d (rw e here))
      (λ n. or_left (set_of k₀.place d) (is_in d (reached (job_of s) t claim)) (subst T (set_other k₀.place claim k₀.top d n) h))

  still-there : (d : ℕ) → T (set_of k₀.place d) → T (set_of (pushed k₀ claim).place d)
  still-there d h =
      by_cases (ℕ_discrete d claim)
      (λ e. subst⁻¹ (λ (x : ℕ). T (set_of (pushed k₀ claim).place x)) e (set_there k₀.place claim k₀.top (omega (arith, f.long))))
      (λ n. subst⁻¹ T (set_other k₀.place claim k₀.top d n) h)

  pub gathering_done : Spread (job_of s) t claim k₀ k
  gathering_done =
      record {
        gathered = subst⁻¹ (λ (n : ℕ). Gathered n k) (job-claims s) g.fits;
        is = λ d.
            same (set_of k.place d) (set_of k₀.place d || is_in d (reached (job_of s) t claim))
            (λ h. ⊎_elim (λ z. was-there d z) (λ z. is-reached d z) (g.sound d h))
            (λ h.
            ⊎_elim (λ z. g.keeps d (still-there d z))
            (λ z. stays (λ x. T (set_of k.place x)) shut_all (in-reached (job_of s) t low-leads claim low-claim d z) g.start)
            (or_cases (set_of k₀.place d) (is_in d (reached (job_of s) t claim)) h));
      }

-- Laws of the kept set (specs/KeptSet). Assumes nothing.
--   Dropping            a loop that takes the places of the members away: dropping_more, _done
--   some-kept           a set with a member is kept
--   nothing-keeps       nothing is kept
--   gathered-keeps      what was gathered into an empty set
--   outside-keeps, there-keeps, joined_keeps   claim c has passed to claim b: c is not in the set; b is; what b reaches has joined it
use Prim.Native.Nat.{ℕ, ◌+◌, ◌-◌, ◌≤◌, ◌<◌}
use mathlib.Core.Path.{◌≡◌, refl, sym, ◌∙◌, ap, subst, subst⁻¹}
use mathlib.Core.Bool.{◌||◌}
use mathlib.Core.List.{List}
use mathlib.Core.Logic.{◌⊎◌, inl, inr, ⊎_elim, by_cases}
use Rattle.std.proofs.Common.{Option, None, Some}
use native.Mathlib.Omega.{arith}
use native.Mathlib.Decide.{ℕ_discrete}
use lib.Dec.{T}
use lib.ListN.{length, get_or, set, length-set}
use lib.Seq.{get_or-set_same, get_or-set_other}
use Rattle.base.specs.Lists.{is_in}
use Rattle.base.specs.Sets.{set_of}
use Rattle.base.proofs.Bools.{is-not, same, or_left, or_right, or_cases}
use Rattle.base.proofs.Paths.{trans, one, stays}
use Rattle.base.proofs.Sets.{count_le}
use Rattle.job.specs.Job.{Job, most_claims}
use Rattle.turn.specs.Turn.{leads, reached}
use Rattle.turn.specs.Gather.{Work, Gathered, Leading, Spread}
use Rattle.turn.specs.KeptSet.{held, Found, Keeps, Lacking}
use Rattle.turn.specs.declared.Kept.{Kept}
use Rattle.turn.proofs.Gathering.{seen_low}
use Rattle.turn.proofs.Jobs.{JobOk}
use Rattle.turn.proofs.Leading.{leads-low}
use Rattle.turn.proofs.Reached.{Leads, reached_in, in-reached, reached-start}
use Rattle.turn.proofs.Worklist.{place-some, some-place, placed-no}

-- each claim has no place any more, or the one it had, which is still to be taken away
pub record Dropping (place₀ : List ℕ) (i : ℕ) (place : List ℕ) : Type 0 where
  pub long : length place ≡ length place₀
  pub left : (c : ℕ) → (get_or place c 0 ≡ 0) ⊎ ((get_or place c 0 ≡ get_or place₀ c 0) × (i < get_or place₀ c 0))

module _ {n : ℕ} {k : Work} (g : Gathered n k) where
  pub member-low : (i : ℕ) → i < k.top → get_or k.members i 0 < n
  member-low i l = omega (arith, seen_low k.place (get_or k.members i 0) (some-place k.place (get_or k.members i 0) (omega (arith, g.placed i l))), g.long)

  pub top-low : k.top ≤ n
  top-low = omega (arith, g.most, count_le (set_of k.place) n)

  module _ {i : ℕ} {place : List ℕ} (x : Dropping k.place i place) (l : i < k.top) (c : ℕ) (e : c ≡ get_or k.members i 0) where
    pub dropping_more : Dropping k.place (i + 1) (set place c 0)
    dropping_more =
        record {
          long = length-set place c 0 ∙ x.long;
          left = λ d.
              by_cases (ℕ_discrete d c)
              (λ q. inl (ap (λ (y : ℕ). get_or (set place c 0) y 0) q ∙ get_or-set_same place c 0 0 (omega (arith, member-low i l, g.long, x.long))))
              (λ m.
              let o = get_or-set_other place c d 0 0 m in
              ⊎_elim (λ z. inl (o ∙ z))
              (λ z.
              inr (
                o ∙ z.0,
                by_cases (ℕ_discrete (get_or k.place d 0) (i + 1))
                    (λ y.
                    let w = g.listed d (some-place k.place d (omega (arith, z.1))) in
                    let v : get_or k.place d 0 - 1 ≡ i = omega arith in
                    absurd (m (sym w.1 ∙ (ap (λ (u : ℕ). get_or k.members u 0) v ∙ sym e))))
                    (λ y. omega (arith, z.1)),
              )) (x.left d));
        }

  pub dropping_done : {i : ℕ} {place : List ℕ} → Dropping k.place i place → k.top ≤ i → (c : ℕ) → get_or place c 0 ≡ 0
  dropping_done x l c =
      ⊎_elim (λ z. z) (λ z. absurd (omega (arith, z.1, (g.listed c (some-place k.place c (omega (arith, z.1)))).0))) (x.left c)

-- no claim has a place
module _ (place : List ℕ) (zeros : (c : ℕ) → get_or place c 0 ≡ 0) where
  pub none-there : (d : ℕ) → T (set_of place d) → ⊥
  none-there d h = is-not (set_of place d) (placed-no place d (zeros d)) h

  pub none-gathered : {n : ℕ} {members : List ℕ} → n ≤ most_claims → length place ≡ n → n ≤ length members → Gathered n (record { place = place; members = members; top = 0 })
  none-gathered {n} few long wide =
      record { few = few; long = long; wide = wide; most = omega arith; placed = λ i l. absurd (omega arith); listed = λ c h. absurd (none-there c h) }

-- what is kept is what one claim reaches
pub is-that : {c x : ℕ} → Some c ≡ Some x → c ≡ x
is-that e = cc

-- where no claim is known to be the next
pub none_found : {j : Job} {t : List ℕ} {k : Kept} {members : List ℕ} → k.chosen ≡ None → Found j t k members
none_found z = record { inside = λ x e. absurd (cc); newest = λ x e d m l. absurd (cc) }

-- a set with a member is kept
pub some-kept : {n : ℕ} (k : Kept) (place members : List ℕ) → Gathered n (held k place members) → (k.from ≡ None → k.count ≡ 0) → (x : ℕ) → T (set_of place x) → (c : ℕ) × (k.from ≡ Some c)
some-kept k place members g none x h =
    go k.from refl
  where
    go : (o : Option ℕ) → k.from ≡ o → (c : ℕ) × (k.from ≡ Some c)
    go None e = absurd (omega (arith, none e, (g.listed x h).0, place-some place x h))
    go (Some c) e = (c, e)

pub nothing-keeps : (j : Job) (t place members : List ℕ) → ((c : ℕ) → get_or place c 0 ≡ 0) → j.claims ≤ most_claims → length place ≡ j.claims → j.claims ≤ length members → Keeps j t (record { from = None; count = 0; chosen = None }) place members
nothing-keeps j t place members zeros few long wide =
    record {
      gathered = none-gathered place zeros few long wide;
      nothing = λ e. refl;
      low = λ x e. absurd (cc);
      reaches = λ x e. absurd (cc);
      found = none_found refl;
    }

module _ (j : Job) (J : JobOk j) (t : List ℕ) where
  low-leads : (c d : ℕ) → Leads j t c d → d < j.claims
  low-leads = leads-low j J t

  -- what is reached lies in every set that holds the start and is closed
  pub inside-closed : (S : ℕ → Type 0) → ((x y : ℕ) → Leads j t x y → S x → S y) → (c : ℕ) → c < j.claims → S c → (d : ℕ) → T (is_in d (reached j t c)) → S d
  inside-closed S shut c l start d h = stays S shut (in-reached j t low-leads c l d h) start

  pub reached-on : (c : ℕ) → c < j.claims → (x y : ℕ) → T (is_in x (reached j t c)) → T (is_in y (leads j t x)) → T (is_in y (reached j t c))
  reached-on c l x y h m = reached_in j t low-leads c l y (trans (in-reached j t low-leads c l x h) (one (record { leads_in = m })))

  pub reached_through : (c : ℕ) → c < j.claims → (b : ℕ) → T (is_in b (reached j t c)) → b < j.claims → (d : ℕ) → T (is_in d (reached j t b)) → T (is_in d (reached j t c))
  reached_through c l b h m d r = reached_in j t low-leads c l d (trans (in-reached j t low-leads c l b h) (in-reached j t low-leads b m d r))

  -- what was gathered into an empty set
  pub gathered-keeps : (c : ℕ) {k₀ k : Work} → c < j.claims → ((d : ℕ) → get_or k₀.place d 0 ≡ 0) → Spread j t c k₀ k → Keeps j t (record { from = Some c; count = k.top; chosen = None }) k.place k.members
  gathered-keeps c {k₀} {k} l zeros p =
      record {
        gathered = p.gathered;
        nothing = λ e. absurd (cc);
        low = λ x e. subst (λ (y : ℕ). y < j.claims) (is-that e) l;
        reaches = λ x e d. subst (λ (y : ℕ). set_of k.place d ≡ is_in d (reached j t y)) (is-that e)
            (same (set_of k.place d) (is_in d (reached j t c))
            (λ q. ⊎_elim (λ y. absurd (none-there k₀.place zeros d y)) (λ y. y) (or_cases (set_of k₀.place d) (is_in d (reached j t c)) (subst T (p.is d) q)))
            (λ q. subst⁻¹ T (p.is d) (or_right (set_of k₀.place d) (is_in d (reached j t c)) q)));
        found = none_found refl;
      }

  -- claim c has passed to claim b
  module _ (c b : ℕ) (k : Kept) (place members : List ℕ) (p : Lacking j t c b k place members) where
    -- the set as it is, where it is closed
    shut-keeps : ((x d : ℕ) → T (set_of place x) → T (is_in d (leads j t x)) → T (set_of place d)) → Keeps j t k place members
    shut-keeps shut =
        record {
          gathered = p.gathered;
          nothing = p.nothing;
          low = p.low;
          reaches = λ z e d.
              same (set_of place d) (is_in d (reached j t z)) (p.sound z e d)
              (λ q. inside-closed (λ x. T (set_of place x)) (λ x y l m. shut x y m l.leads_in) z (p.low z e) (p.start z e) d q);
          found = p.found;
        }

    pub outside-keeps : get_or place c 0 ≡ 0 → Keeps j t k place members
    outside-keeps z =
        shut-keeps (λ x d h l. ⊎_elim (λ y. y) (λ y. absurd (is-not (set_of place c) (placed-no place c z) (subst (λ (v : ℕ). T (set_of place v)) y.0 h))) (p.onward x d h l))

    pub there-keeps : (get_or place b 0 ≡ 0 → ⊥) → Keeps j t k place members
    there-keeps n =
        shut-keeps (λ x d h l. ⊎_elim (λ y. y) (λ y. subst⁻¹ (λ (v : ℕ). T (set_of place v)) y.1 (some-place place b (omega arith))) (p.onward x d h l))

    pub lacking-leads : Leading j t place b
    lacking-leads x d h l = ⊎_elim (λ y. inl y) (λ y. inr y.1) (p.onward x d h l)

    module _ (some : get_or place c 0 ≡ 0 → ⊥) (low-b : b < j.claims) {k' : Work} (q : Spread j t b (held k place members) k') where
      there_c : T (set_of place c)
      there_c = some-place place c (omega arith)

      module _ (z : ℕ) (e : k.from ≡ Some z) where
        to_b : T (is_in b (reached j t z))
        to_b = reached-on z (p.low z e) c b (p.sound z e c there_c) p.passed

        into : (d : ℕ) → T (set_of place d || is_in d (reached j t b)) → T (is_in d (reached j t z))
        into d h =
            ⊎_elim (λ y. p.sound z e d y) (λ y. reached_through z (p.low z e) b to_b low-b d y)
            (or_cases (set_of place d) (is_in d (reached j t b)) h)

      closed : (x y : ℕ) → Leads j t x y → T (set_of place x || is_in x (reached j t b)) → T (set_of place y || is_in y (reached j t b))
      closed x y l h =
          ⊎_elim
          (λ z. ⊎_elim (λ v. or_left (set_of place y) (is_in y (reached j t b)) v)
          (λ v. or_right (set_of place y) (is_in y (reached j t b)) (subst⁻¹ (λ (u : ℕ). T (is_in u (reached j t b))) v.1 (reached-start j t b low-b)))
          (p.onward x y z l.leads_in))
          (λ z. or_right (set_of place y) (is_in y (reached j t b)) (reached-on b low-b x y z l.leads_in))
          (or_cases (set_of place x) (is_in x (reached j t b)) h)

      pub joined_keeps : Keeps j t (record { from = k.from; count = k'.top; chosen = None }) k'.place k'.members
      joined_keeps =
          record {
            gathered = q.gathered;
            nothing = λ e. let s = some-kept k place members p.gathered p.nothing c there_c in absurd (cc s.1);
            low = p.low;
            reaches = λ z e d.
                q.is d
                ∙ same (set_of place d || is_in d (reached j t b)) (is_in d (reached j t z)) (into z e d)
                (λ y.
                inside-closed (λ x. T (set_of place x || is_in x (reached j t b))) closed z (p.low z e)
                (or_left (set_of place z) (is_in z (reached j t b)) (p.start z e)) d y);
            found = none_found refl;
          }

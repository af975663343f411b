-- The members of a kept set are what its claim reaches. Assumes nothing.
--   member-reached, reached_member   both ways
--   kept-places        their words stand in the table
--   took-marks, took-keeps   every open one of them becomes w's, and the third words are stored: the table by the definition, and the set is right still
use Prim.Native.Nat.{ℕ, ◌+◌, ◌-◌, ◌≤◌, ◌<◌}
use mathlib.Core.Path.{◌≡◌, ◌∙◌, ap, subst, subst⁻¹}
use mathlib.Core.Bool.{not}
use mathlib.Core.List.{List}
use mathlib.Core.Logic.{by_cases}
use native.Mathlib.Omega.{arith}
use lib.Dec.{T}
use lib.ListN.{length, get_or}
use Rattle.base.specs.Lists.{keep, is_in}
use Rattle.base.specs.Sets.{set_of}
use Rattle.base.proofs.Choose.{t?}
use Rattle.base.proofs.Lists.{In, in-keep, keep_in}
use Rattle.job.specs.Job.{Job}
use Rattle.table.specs.Layout as W
use Rattle.table.specs.Newest.{with_newest}
use Rattle.table.proofs.Keeping.{with-other}
use Rattle.turn.specs.Turn.{reached, mark_all}
use Rattle.turn.specs.KeptSet.{Member, Keeps, Places, Marked}
use Rattle.turn.specs.declared.Kept.{Kept}
use Rattle.std.proofs.Common.{None, Some}
use Rattle.turn.proofs.Behind.{Alike, same as same-mark, below}
use Rattle.turn.proofs.Jobs.{JobOk}
use Rattle.turn.proofs.KeptLaws.{member-low, top-low}
use Rattle.turn.proofs.KeptTurns.{alike_forgets}
use Rattle.turn.proofs.Leading.{in-low, in-open}
use Rattle.turn.proofs.Marked.{marked_all, marked_out, marked-cursor}
use Rattle.turn.proofs.Worklist.{place-some, member_in}

module _ (j : Job) (J : JobOk j) (t : List ℕ) (k : Kept) (place members : List ℕ) (p : Keeps j t k place members) where
  pub member-there : {d : ℕ} → Member members k.count d → T (set_of place d)
  member-there m = subst (λ (x : ℕ). T (set_of place x)) m.is (member_in p.gathered m.at m.before)

  pub there_member : {d : ℕ} → T (set_of place d) → Member members k.count d
  there_member {d} h =
      let l = p.gathered.listed d h in
      let s = place-some place d h in
      record { at = get_or place d 0 - 1; before = omega (arith, l.0); is = l.1 }

  pub kept-places : j.claims ≤ 4096 → W.workers_from j.claims ≤ length t → Places t members k.count
  kept-places few room =
      record {
        many = omega (arith, top-low p.gathered, p.gathered.wide);
        few = λ i l. omega (arith, member-low p.gathered i l);
        words = λ i l. omega (arith, member-low p.gathered i l);
      }

  module _ (c : ℕ) (e : k.from ≡ Some c) where
    low_c : c < j.claims
    low_c = p.low c e

    pub kept_is : (d : ℕ) → set_of place d ≡ is_in d (reached j t c)
    kept_is d = p.reaches c e d

    pub member-reached : {d : ℕ} → Member members k.count d → In d (reached j t c)
    member-reached {d} m = subst T (kept_is d) (member-there m)

    pub reached_member : {d : ℕ} → In d (reached j t c) → Member members k.count d
    reached_member {d} i = there_member (subst⁻¹ T (kept_is d) i)

    -- every open claim reached becomes w's
    module _ (w : ℕ) (room : W.workers_from j.claims ≤ length t) {u : List ℕ} (m : Marked (λ d. w + 1) (λ d. Member members k.count d × T (not (W.fresh t d))) t u) where
      pub took-marks : u ≡ mark_all (λ d. w + 1) (keep (λ d. not (W.fresh t d)) (reached j t c)) t
      took-marks =
          marked_all (λ d. w + 1) (keep (λ d. not (W.fresh t d)) (reached j t c)) (λ d. Member members k.count d × T (not (W.fresh t d))) t u
          (λ d i. let x = keep_in (λ d. not (W.fresh t d)) d (reached j t c) i in omega (arith, in-low j J t d low_c x.0))
          (λ d s. in-keep (λ d. not (W.fresh t d)) d (reached j t c) (member-reached s.0) s.1)
          (λ d i. let x = keep_in (λ d. not (W.fresh t d)) d (reached j t c) i in (reached_member x.0, x.1)) m

      module _ (open_c : W.mark t c < W.true_mark) (small : w + 1 < W.true_mark) (n : ℕ) {a : ℕ} (a-is : a ≡ j.claims) {v : List ℕ} (q : v ≡ with_newest a n u) where
        past : (i : ℕ) → i < W.workers_from j.claims → get_or v i 0 ≡ get_or u i 0
        past i h = ap (λ (x : List ℕ). get_or x i 0) q ∙ with-other a u n i (λ y l z. omega arith)

        alike : (x : ℕ) → x < j.claims → Alike (W.mark t x) (W.mark v x)
        alike x h =
            by_cases (t? (set_of place x))
            (λ y.
            by_cases (t? (not (W.fresh t x)))
            (λ z.
            let b = there_member y in
            below (in-open j J t x low_c (member-reached b) open_c) (omega (arith, past (W.mark_word x) (omega arith), m.new x (b, z))))
            (λ z. same-mark (past (W.mark_word x) (omega arith) ∙ marked_out m x (λ s. z s.1))))
            (λ y. same-mark (past (W.mark_word x) (omega arith) ∙ marked_out m x (λ s. y (member-there s.0))))

        pub took-keeps : Keeps j v (record { from = k.from; count = k.count; chosen = None }) place members
        took-keeps = alike_forgets j J t k place members p v alike (λ x h. past (W.cursor_word x) (omega arith) ∙ marked-cursor m x)

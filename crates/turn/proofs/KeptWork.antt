-- The turn of a worker whose newest claim n has no literal left, by what is kept of what n reaches (specs/KeptSet). Assumes nothing.
--   found-by         what is known of the next claim, by the index
--   chosen-low, chosen_left, chosen-keeps   the claim that was chosen is one, is w's and has a literal left; it may be kept
--   work-passes      it passes
--   work_idle, work-completed   none was: some claim is another's; or all are w's, and become complete
--   lent-part, alone-part   what completion is lent
use Prim.Native.Nat.{ℕ, ◌+◌, ◌-◌, ◌<◌, ◌≤◌}
use mathlib.Core.Path.{◌≡◌, refl, sym, ◌∙◌, ap, subst, subst⁻¹}
use mathlib.Core.Bool.{Bool, true, false, ◌&&◌}
use mathlib.Core.List.{List}
use mathlib.Core.Logic.{by_cases}
use native.Mathlib.Omega.{arith}
use native.Mathlib.Decide.{dec_lt}
use borrow.Author.Tests.{eq-eqb, eqb-true}
use lib.Dec.{T}
use lib.ListN.{length, get_or, take}
use lib.Seq.{length-take-le, get_or-take}
use Rattle.base.specs.Lists.{every}
use Rattle.base.proofs.Bools.{is, is_true, is_false, and_in, and_left}
use Rattle.base.proofs.Choose.{pick_true, pick-false}
use Rattle.base.proofs.Lists.{In, every_in, in-every}
use Rattle.job.specs.Format.{claims, workers, job_of}
use Rattle.parts.specs.Part.{Numbered, Alone}
use Rattle.parts.specs.Written.{Lent}
use Rattle.table.specs.Layout.{mark, cursor, owned}
use Rattle.table.specs.Newest.{newest, sought, NewestKept, Older, NewestOf, none, some}
use Rattle.table.proofs.NewestOf.{newest_one, newest_like, newest_of}
use Rattle.table.proofs.Sizes.{sizes}
use Rattle.turn.specs.Turn.{Turned, lits, reached, all_passed, completed_mark, mark_all, pass_turn, work_turn, keeping}
use Rattle.turn.specs.Ready.{Ready, Made, Renewed}
use Rattle.turn.specs.KeptSet.{Member, Left, free, FoundBy, Keeps, OwnsAll, Completes}
use Rattle.turn.specs.declared.Chosen.{Chosen}
use Rattle.turn.specs.declared.Kept.{Kept}
use Rattle.std.proofs.Common.{Some}
use Rattle.turn.specs.declared.Kind.{Kind}
use Rattle.turn.specs.declared.Kind.TheVariants.{Idle, Completed}
use Rattle.turn.proofs.Completing.{to_pass, J, within, free_left, left-free, to-pass, of_pass, passes}
use Rattle.turn.proofs.KeptLaws.{member-low, top-low, reached-on}
use Rattle.turn.proofs.KeptMembers.{there_member, kept_is, member-reached, reached_member}
use Rattle.turn.proofs.Members.{part_member, member-part}
use Rattle.turn.proofs.Making.{made_as, made_kept, made-renewed}
use Rattle.turn.proofs.Marked.{marked_all}
use Rattle.turn.proofs.Range.{mark_range}
use Rattle.turn.proofs.StandsAlone.{stands-alone}
use Rattle.turn.proofs.ThirdWords.{complete-kept}
use Rattle.turn.proofs.Worklist.{place-some}

module _ (s index t : List ℕ) (r : Ready s index t) (k : Kept) (place members : List ℕ) (p : Keeps (job_of s) t k place members) where
  member-claim : (d : ℕ) → Member members k.count d → d < claims s
  member-claim d m = omega (arith, subst (λ (x : ℕ). x < (job_of s).claims) m.is (member-low p.gathered m.at m.before), (sizes s).claims_are)

  pub found-by : FoundBy index t k members
  found-by =
      record {
        inside = p.found.inside;
        newest = λ x z d m h. p.found.newest x z d m (free_left s index t r x.worker d (member-claim d m) h);
      }

  short : k.count ≤ length members
  short = omega (arith, top-low p.gathered, p.gathered.wide)

  long : length (take k.count members) ≡ k.count
  long = length-take-le k.count members short

  at : (i : ℕ) → i < k.count → get_or (take k.count members) i 0 ≡ get_or members i 0
  at i l = get_or-take k.count members i 0 l

  pub numbered-part : Numbered place (take k.count members)
  numbered-part =
      record {
        placed = λ i l.
            let h : i < k.count = omega (arith, long) in
            ap (λ (x : ℕ). get_or place x 0) (at i h) ∙ p.gathered.placed i h;
        listed = λ c h.
            let x = p.gathered.listed c h in
            (omega (arith, x.0, long), at (get_or place c 0 - 1) (omega (arith, x.0, place-some place c h)) ∙ x.1);
      }

  pub lent-part : Lent s index t place (take k.count members)
  lent-part = record { job = r.job; indexed = r.indexed; table = r.table; long = p.gathered.long ∙ (sizes s).claims_are; numbered = numbered-part }

  module _ (w n : ℕ) (l : n < claims s) (e : k.from ≡ Some n) where
    kept_in : {d : ℕ} → Member members k.count d → In d (reached (job_of s) t n)
    kept_in m = member-reached (job_of s) (J s index t r w) t k place members p n e m

    in_kept : {d : ℕ} → In d (reached (job_of s) t n) → Member members k.count d
    in_kept i = reached_member (job_of s) (J s index t r w) t k place members p n e i

    module _ {left : ℕ} (x : NewestOf t (λ d. Member members k.count d × T (free index t w d)) left) where
      chosen_is : left ≡ newest t (to_pass (job_of s) t w n)
      chosen_is =
          newest_one
          (newest_like (λ d m. of_pass s index t r w n l d (kept_in m.0) (free_left s index t r w d (member-claim d m.0) m.1))
          (λ d i. let y = to-pass s index t r w n l d i in (in_kept y.0, left-free s index t r w d (member-claim d (in_kept y.0)) y.1)) (λ d m. refl) x)
          (newest_of t (to_pass (job_of s) t w n))

      module _ (claim : ℕ) (h : left ≡ claim + 1) where
        its : Member members k.count claim × T (free index t w claim)
        its = go x
          where
            go : NewestOf t (λ d. Member members k.count d × T (free index t w d)) left → Member members k.count claim × T (free index t w claim)
            go (none z f) = absurd (omega arith)
            go (some c z m f) = let q : claim ≡ c = omega arith in subst⁻¹ (λ (y : ℕ). Member members k.count y × T (free index t w y)) q m

        pub chosen-low : claim < claims s
        chosen-low = member-claim claim its.0

        pub chosen_left : Left (job_of s) t w claim
        chosen_left = free_left s index t r w claim chosen-low its.1

        pub chosen-own : owned t w claim ≡ true
        chosen-own = eq-eqb (mark t claim) (w + 1) chosen_left.own

        -- it may be kept
        pub chosen-keeps : Keeps (job_of s) t (record { from = k.from; count = k.count; chosen = Some (record { worker = w; claim = claim }) }) place members
        chosen-keeps =
            record {
              gathered = p.gathered;
              nothing = p.nothing;
              low = p.low;
              reaches = p.reaches;
              found = record {
                inside = λ y z. subst (λ (v : Chosen). Member members k.count v.claim) (is-chosen z) its.0;
                newest = λ y z. subst (λ (v : Chosen). (d : ℕ) → Member members k.count d → Left (job_of s) t v.worker d → Older t d v.claim) (is-chosen z)
                    (λ d m y. older d (m, left-free s index t r w d (member-claim d m) y) x);
              };
            }
          where
            older : (d : ℕ) → Member members k.count d × T (free index t w d) → NewestOf t (λ d. Member members k.count d × T (free index t w d)) left → Older t d claim
            older d m (none q f) = absurd (omega arith)
            older d m (some c' q o f) = let y : c' ≡ claim = omega arith in subst (Older t d) y (f d m)

            is-chosen : {x y : Chosen} → Some x ≡ Some y → x ≡ y
            is-chosen e = cc

        pub work-passes : {y : Kind} {u : List ℕ} → Made (keeping (job_of s) (pass_turn (job_of s) t w claim)) y u → Made (keeping (job_of s) (work_turn (job_of s) t w n)) y u
        work-passes {y} {u} m =
            let q : left - 1 ≡ claim = omega arith in
            subst⁻¹ (λ (v : Turned). Made (keeping (job_of s) v) y u) (passes s index t r w n l chosen_is (λ z. omega arith) claim (kept_in its.0) chosen_left ∙ ap (pass_turn (job_of s) t w) q) m

      -- none was chosen
      module _ (z : left ≡ 0) where
        none_left : (d : ℕ) → Member members k.count d → Left (job_of s) t w d → ⊥
        none_left d m y = go x
          where
            go : NewestOf t (λ d. Member members k.count d × T (free index t w d)) left → ⊥
            go (none q f) = f d (m, left-free s index t r w d (member-claim d m) y)
            go (some c q o f) = omega arith

        module _ {b : Bool} (o : OwnsAll t w members k.count b) where
          pub work_idle : b ≡ false → Made (keeping (job_of s) (work_turn (job_of s) t w n)) Idle t
          unfolding work_turn
          work_idle q =
              let y = o.no q in
              let f : every (λ d. owned t w d && all_passed (job_of s) t d) (reached (job_of s) t n) ≡ false =
              is_false _ (λ v. y.2 (eqb-true (mark t y.0) (w + 1) (is_true (owned t w y.0) (and_left (owned t w y.0) (all_passed (job_of s) t y.0) (every_in _ (reached (job_of s) t n) v y.0 (kept_in y.1)))))) in
              made_kept (job_of s) r.newests (made_as _ _ (pick-false _ _ _ f ∙ pick_true _ _ _ (eq-eqb _ _ (sym chosen_is ∙ z))))

          module _ (q : b ≡ true) where
            mine : (d : ℕ) → Member members k.count d → mark t d ≡ w + 1
            mine = o.yes q

            all-passed : (d : ℕ) → Member members k.count d → cursor t d ≡ length (lits (job_of s) d)
            all-passed d m =
                by_cases (dec_lt (cursor t d) (length (lits (job_of s) d))) (λ v. absurd (none_left d m (record { own = mine d m; some = v })))
                (λ v. omega (arith, within s index t r w d (member-claim d m)))

            all_done : every (λ d. owned t w d && all_passed (job_of s) t d) (reached (job_of s) t n) ≡ true
            unfolding all_passed
            all_done =
                is_true _ (in-every (λ d. owned t w d && all_passed (job_of s) t d) (reached (job_of s) t n)
                (λ d i.
                let m = in_kept i in
                and_in (owned t w d) (all_passed (job_of s) t d) (is (owned t w d) (eq-eqb (mark t d) (w + 1) (mine d m))) (is (all_passed (job_of s) t d) (eq-eqb (cursor t d) (length (lits (job_of s) d)) (all-passed d m)))))

            module _ (small : w < workers s) where
              small-job : w < (job_of s).workers
              small-job = omega (arith, (sizes s).workers_are)

              pub alone-part : Alone (job_of s) t place
              alone-part =
                  stands-alone (job_of s) (J s index t r w) t place
                  (λ c d h y. subst⁻¹ T (kept_is (job_of s) (J s index t r w) t k place members p n e d) (reached-on (job_of s) (J s index t r w) t n (omega (arith, (sizes s).claims_are)) c d (subst T (kept_is (job_of s) (J s index t r w) t k place members p n e c) h) y.leads_in))
                  (λ c h. omega (arith, mine c (there_member (job_of s) (J s index t r w) t k place members p h), r.job.sized.workers_most))
                  (λ c h. all-passed c (there_member (job_of s) (J s index t r w) t k place members p h))

              pub work-completed : {u : List ℕ} → Completes (job_of s) t w (take k.count members) u → Made (keeping (job_of s) (work_turn (job_of s) t w n)) Completed u
              unfolding work_turn
              work-completed {u} y =
                  let m : y.marks ≡ mark_all (completed_mark (job_of s) t) (reached (job_of s) t n) t =
                  marked_all (completed_mark (job_of s) t) (reached (job_of s) t n) _ t y.marks (λ d i. omega (arith, member-claim d (in_kept i), r.table.room, (sizes s).claims_are)) (λ d v. kept_in (part_member short v)) (λ d i. member-part short (in_kept i)) y.marked in
                  let g : Renewed (job_of s) w (mark_all (completed_mark (job_of s) t) (reached (job_of s) t n) t) u = subst (λ (v : List ℕ). Renewed (job_of s) w v u) m y.renewed in
                  made-renewed (job_of s) w (sought (job_of s).claims (mark_all (completed_mark (job_of s) t) (reached (job_of s) t n) t) w) small-job
                  (subst⁻¹ (NewestKept (job_of s)) g.is
                  (complete-kept r.newests small-job (completed_mark (job_of s) t) (reached (job_of s) t n) (λ d i. omega (arith, (sizes s).claims_are, member-claim d (in_kept i))) (λ d i. mine d (in_kept i))
                  (λ d. omega (arith, (mark_range (job_of s) t d).0, r.job.sized.workers_most, (sizes s).workers_are)) r.table.room))
                  g.is (made_as _ _ (pick_true _ _ _ all_done))

-- The search for the newest claim of each worker at once, over the claims in falling order. Assumes nothing.
--   Sweeping t c m ns    the search over m claims is down to claim c: ns has what it found, for each worker
--   sweeping_none, _best, _more, _same, _all   nothing searched; what one claim more makes of its owner's entry, and of all; one that
--                        no worker owns; all
--   kept_none, kept_one  no third word is kept yet; one more becomes what the search found
use Prim.Native.Nat.{ℕ, ◌+◌, ◌-◌, ◌<◌, ◌≤◌}
use mathlib.Core.Path.{◌≡◌, refl, sym, ◌∙◌, ap, ap₂, subst}
use mathlib.Core.List.{List}
use mathlib.Core.Logic.{by_cases}
use native.Mathlib.Omega.{arith}
use native.Mathlib.Decide.{ℕ_discrete}
use native.Mathlib.Numerals.{add-one}
use lib.ListN.{length, get_or, set, length-set}
use lib.Seq.{get_or-set_same, get_or-set_other}
use Rattle.job.specs.Job.{most_workers}
use Rattle.table.specs.Layout.{mark, owned, newest_at}
use Rattle.table.specs.Newest.{newer, Searched, with_newest}
use Rattle.table.proofs.Searching.{Swept, swept_none, swept_more, swept_same, swept_all, owned-yes, owned-no}

pub record Sweeping (t : List ℕ) (c m : ℕ) (ns : List ℕ) : Type 0 where
  pub size : length ns ≡ most_workers
  pub within : c ≤ m
  pub each : (w : ℕ) → w < most_workers → Swept t (owned t w) c m (get_or ns w 0)

pub sweeping_none : (t ns : List ℕ) (m : ℕ) → length ns ≡ most_workers → ((w : ℕ) → get_or ns w 0 ≡ 0) → Sweeping t m m ns
sweeping_none t ns m e h =
    record {
      size = e;
      within = omega arith;
      each = λ w l. subst (Swept t (owned t w) m m) (sym (h w)) (swept_none t (owned t w) m);
    }

-- claim c - 1 has mark k
module _ {t : List ℕ} {c m : ℕ} {ns : List ℕ} (s : Sweeping t c m ns) (some : 0 < c) {k : ℕ} (read : k ≡ mark t (c - 1)) where
  pub sweeping_same : ((w : ℕ) → w < most_workers → k ≡ w + 1 → ⊥) → Sweeping t (c - 1) m ns
  sweeping_same n =
      record {
        size = s.size;
        within = omega (arith, s.within);
        each = λ w l. swept_same (s.each w l) some (owned-no t w (c - 1) read (n w l));
      }

  -- it is that of a worker, whose entry was b
  module _ (low : 0 < k) (high : k ≤ most_workers) {b r : ℕ} (was : b ≡ get_or ns (k - 1) 0) (is : r ≡ newer t (c - 1) b) where
    pub sweeping_best : Swept t (owned t (k - 1)) (c - 1) m r
    sweeping_best =
        swept_more (s.each (k - 1) (omega arith)) some (owned-yes t (k - 1) (c - 1) read (omega arith)) (is ∙ ap (newer t (c - 1)) was)

    pub sweeping_more : Sweeping t (c - 1) m (set ns (k - 1) r)
    sweeping_more =
        record {
          size = length-set ns (k - 1) r ∙ s.size;
          within = omega (arith, s.within);
          each = λ w l.
              by_cases (ℕ_discrete w (k - 1))
              (λ e. subst (λ (v : ℕ). Swept t (owned t v) (c - 1) m (get_or (set ns (k - 1) r) v 0)) (sym e) (subst (Swept t (owned t (k - 1)) (c - 1) m) (sym (get_or-set_same ns (k - 1) r 0 (omega (arith, s.size)))) sweeping_best))
              (λ d. subst (Swept t (owned t w) (c - 1) m) (sym (get_or-set_other ns (k - 1) w r 0 d)) (swept_same (s.each w l) some (owned-no t w (c - 1) read (λ e. d (omega arith)))));
        }

pub sweeping_all : {t : List ℕ} {c m : ℕ} {ns : List ℕ} → Sweeping t c m ns → c ≤ 0 → Searched m t ns
sweeping_all s h = record { size = s.size; all = λ w l. swept_all (s.each w l) h; most = λ w l. (s.each w l).most }

pub kept_none : (a : ℕ) (t : List ℕ) → t ≡ with_newest a 0 t
unfolding with_newest
kept_none a t = refl

-- the third word of worker w, when those before it are kept
pub kept_one : (a w : ℕ) {t u v ns : List ℕ} {x : ℕ} → Searched a t ns → w < most_workers → u ≡ with_newest a w t → x ≡ get_or ns w 0 → v ≡ set u (newest_at a w) x → v ≡ with_newest a (w + 1) t
unfolding with_newest
kept_one a w {t} s l was read is =
    is ∙ (ap₂ (λ (y : List ℕ) (n : ℕ). set y (newest_at a w) n) was (read ∙ s.all w l) ∙ ap (λ (n : ℕ). with_newest a n t) (sym (add-one w)))

-- The literals passed in a turn of w: none (links_stay, links_skip), or one of a claim of w, of claim b (links_pass); and what was passed before
-- the last move leads back. Assumes nothing.
use mathlib.Core.Path.{◌≡◌}
use Prim.Native.Nat.{ℕ, ◌<◌}
use native.Mathlib.Omega.{arith}
use Rattle.base.specs.Graph.{Reach, Plus, old, new}
use Rattle.waiting.specs.State.{State, Own, Done, Edge, Inv}
use Rattle.waiting.specs.Steps.{Stays, Left, ago, now as just, Passes, Skips, AtLiteral}
use Rattle.waiting.proofs.Basics.{literal-back}

pub data Linked (s : State) (w b : ℕ) : ℕ → ℕ → Type 0 where
  before : {x y : ℕ} → s.Passed x y → Linked s w b x y
  now : {x : ℕ} → Own s w x → Linked s w b x b

pub record Links (s s' : State) (w b : ℕ) : Type 0 where
  pub more : {x y : ℕ} → s'.Passed x y → Linked s w b x y
  pub less : {x y : ℕ} → s.Passed x y → s'.Passed x y
  pub nexts : {x : ℕ} → Done s x → s'.next x ≡ s.next x
  pub back : {x y : ℕ} → s'.Earlier x y → s.mark y < 256 → Reach (Edge s) y x

linked : {s : State} {w b c : ℕ} → Own s w c → {x y : ℕ} → Plus s.Passed c b x y → Linked s w b x y
linked o (old p) = before p
linked o new = now o

module _ {s : State} {T w : ℕ} (I : Inv s T) where
  pub links_stay : {s' : State} (b : ℕ) → Stays s s' → Links s s' w b
  links_stay b l =
      record { more = λ p. before (l.more p); less = λ p. l.less p; nexts = λ {x = x} d. l.nexts x; back = λ p m. I.back (l.earlier p) m }

  module _ {c b : ℕ} (k : AtLiteral s w c b) where
    open_c : {x : ℕ} → x ≡ c → Done s x → ⊥
    open_c e d = let h : Done s c = rw e at d in omega (arith, k.its)

    left_back : {x y : ℕ} → Left s c x y → s.mark y < 256 → Reach (Edge s) y x
    left_back (ago p) m = I.back p m
    left_back (just e p) m = rw e (literal-back I k p m)

    pub links_pass : {s' : State} → Passes s s' c b → Links s s' w b
    links_pass l =
        record {
          more = λ p. linked k.its (l.more p);
          less = λ p. l.less (old p);
          nexts = λ {x = x} d. l.nexts x (λ e. open_c e d);
          back = λ p m. left_back (l.earlier p) m;
        }

    -- no literal is passed, and b may be any
    pub links_skip : {s' : State} (d : ℕ) → Skips s s' c → Links s s' w d
    links_skip d l =
        record {
          more = λ p. before (l.more p);
          less = λ p. l.less p;
          nexts = λ {x = x} d. l.nexts x (λ e. open_c e d);
          back = λ p m. left_back (l.earlier p) m;
        }

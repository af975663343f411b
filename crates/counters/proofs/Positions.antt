-- Positions and their literals (specs/Counters: lacking). Assumes nothing.
--   holds_wider              a literal that holds in a smaller set
--   lacking-..               literals that hold, and those of a claim that joins a set or leaves it
--   key-plain                a literal by its key
use Prim.Native.Nat.{ℕ, ◌+◌, ◌*◌}
use mathlib.Core.Path.{◌≡◌, refl, ap}
use mathlib.Core.Bool.{Bool, true, false, not, true≢false}
use mathlib.Core.List.{List}
use native.Mathlib.Omega.{arith}
use lib.Dec.{T}
use Rattle.base.specs.Sets.{Claims, ◌⊆◌}
use Rattle.base.proofs.Bools.{is_true}
use Rattle.job.specs.Format.{rules, literal_at}
use Rattle.job.specs.declared.Literal.{Literal}
use Rattle.job.specs.declared.Literal.TheVariants.{Plain, Negated}
use Rattle.semantics.specs.Model.{holds}
use Rattle.counters.specs.Positions.{key_of, key_at}
use Rattle.counters.specs.Counters.{lacking}

-- a literal by its key
key-plain : (l : Literal) (c : ℕ) → key_of l ≡ 2 * c → l ≡ Plain c
unfolding key_of
key-plain (Plain d) c e = let q : d ≡ c = omega arith in ap Plain q
key-plain (Negated d) c e = absurd (omega arith)

not-lacking : (b : Bool) → not b ≡ false → T b
not-lacking true e = tt
not-lacking false e = absurd (true≢false e)

pub holds_wider : (S W X : Claims) → W ⊆ X → (l : Literal) → T (holds S W l) → T (holds S X l)
holds_wider S W X h (Plain c) t = h c t
holds_wider S W X h (Negated c) t = t

module _ (s : List ℕ) (S W : Claims) (p : ℕ) where
  pub lacking-no : lacking s S W p ≡ false → T (holds S W (literal_at s (rules s) p))
  unfolding lacking
  lacking-no e = not-lacking (holds S W (literal_at s (rules s) p)) e

  pub lacking_wider : (X : Claims) → W ⊆ X → lacking s S W p ≡ false → T (holds S X (literal_at s (rules s) p))
  lacking_wider X h e = holds_wider S W X h (literal_at s (rules s) p) (lacking-no e)

  -- a position whose key is one of a plain claim
  pub lacking-plain : (c : ℕ) → key_at s p ≡ 2 * c → lacking s S W p ≡ not (W c)
  unfolding lacking key_at
  lacking-plain c e = ap (λ (l : Literal). not (holds S W l)) (key-plain (literal_at s (rules s) p) c e)

  -- where the sets differ at claim c alone, of W
  pub lacking_same : (X : Claims) (c : ℕ) → ((d : ℕ) → (d ≡ c → ⊥) → X d ≡ W d) → (key_at s p ≡ 2 * c → ⊥) → lacking s S X p ≡ lacking s S W p
  unfolding lacking key_at key_of
  lacking_same X c f n = ap not (go (literal_at s (rules s) p) n)
    where
      go : (l : Literal) → (key_of l ≡ 2 * c → ⊥) → holds S X l ≡ holds S W l
      go (Plain d) m = f d (λ e. m (ap (λ (x : ℕ). 2 * x) e))
      go (Negated d) m = refl

-- the positions of a set of keys all of whose literals hold, or none
module _ (s : List ℕ) (S W : Claims) (has : ℕ → Bool) where
  pub lacking-held :
      ((c : ℕ) → T (has (2 * c)) → T (W c)) → ((c : ℕ) → T (has (2 * c + 1)) → T (S c) → ⊥) → (p : ℕ) → T (has (key_at s p)) → lacking s S W p ≡ false
  unfolding lacking key_at key_of
  lacking-held f g p = go (literal_at s (rules s) p)
    where
      go : (l : Literal) → T (has (key_of l)) → not (holds S W l) ≡ false
      go (Plain c) t = ap not (is_true (W c) (f c t))
      go (Negated c) t = off (S c) (g c t)
        where
          off : (b : Bool) → (T b → ⊥) → not (not b) ≡ false
          off true n = absurd (n tt)
          off false n = refl

  pub lacking-gone :
      ((c : ℕ) → T (has (2 * c)) → T (W c) → ⊥) → ((c : ℕ) → T (has (2 * c + 1)) → T (S c)) → (p : ℕ) → T (has (key_at s p)) → lacking s S W p ≡ true
  unfolding lacking key_at key_of
  lacking-gone f g p = go (literal_at s (rules s) p)
    where
      go : (l : Literal) → T (has (key_of l)) → not (holds S W l) ≡ true
      go (Plain c) t = off (W c) (f c t)
        where
          off : (b : Bool) → (T b → ⊥) → not b ≡ true
          off true n = absurd (n tt)
          off false n = refl
      go (Negated c) t = rw (is_true (S c) (g c t))

-- U_P(I) is the greatest unfounded set (specs/Textbook: GreatestUnfounded): what is founded is the least set that rules without a witness
-- reach. Assumes nothing.
--   witness_more                     more literals in I, more claims in X: more witnesses
--   founded-closed, founded-least    the laws of what is founded
--   greatest_unfounded               the theorem
--   unfounded_more                   U_P rises with I
use Prim.Native.Nat.{ℕ, ◌<◌}
use mathlib.Core.Bool.{Bool, not}
use lib.Dec.{T, T_not, not_T}
use Rattle.base.specs.Sets.{Claims, ◌⊆◌}
use Rattle.base.proofs.Bools.{or_map, twice-not}
use Rattle.base.proofs.Sets.{iterate-closed, iterate-least}
use Rattle.job.specs.declared.Literal.{Literal}
use Rattle.job.specs.declared.Literal.TheVariants.{Plain, Negated}
use Rattle.semantics.specs.Model.{Program, heads}
use Rattle.semantics.specs.Unfounded.{Interpretation, complement, is_false, plain_in, witness, Unfounded, usable, founded, unfounded, ◌⊑◌}
use Rattle.semantics.specs.Textbook.{GreatestUnfounded}
use Rattle.semantics.proofs.Heads.{pass-each, one-fails, heads_of, heads-by, heads-inside, heads_more}

-- outside more is less
outside : (S S' : Claims) → S ⊆ S' → (c : ℕ) → T (not (S' c)) → T (not (S c))
outside S S' h c t = not_T (S c) (λ s. T_not (S' c) t (h c s))

module _ (I J : Interpretation) (X Y : Claims) (below : I ⊑ J) (more : X ⊆ Y) where
  plain_more : (l : Literal) → T (plain_in X l) → T (plain_in Y l)
  plain_more (Plain c) t = more c t
  plain_more (Negated c) t = t

  witness_more : (l : Literal) → T (witness I X l) → T (witness J Y l)
  witness_more l t = or_map (is_false I l) (is_false J l) (plain_in X l) (plain_in Y l) (below (complement l)) (plain_more l) t

module _ (P : Program) (I : Interpretation) where
  supported : Claims → Claims
  supported Z = heads P (usable I Z)

  usable_more : (Z Z' : Claims) → Z ⊆ Z' → (l : Literal) → T (usable I Z l) → T (usable I Z' l)
  usable_more Z Z' h l t =
      not_T (witness I (λ c. not (Z' c)) l)
      (λ w. T_not (witness I (λ c. not (Z c)) l) t (witness_more I I (λ c. not (Z' c)) (λ c. not (Z c)) (λ k u. u) (outside Z Z' h) l w))

  supported_mono : (Z Z' : Claims) → Z ⊆ Z' → supported Z ⊆ supported Z'
  unfolding supported
  supported_mono Z Z' h = heads_more P (usable I Z) (usable I Z') (usable_more Z Z' h)

  supported-inside : (Z : Claims) (c : ℕ) → T (supported Z c) → c < P.claims
  unfolding supported
  supported-inside Z c t = heads-inside (usable I Z) P c t

  founded-closed : heads P (usable I (founded P I)) ⊆ founded P I
  unfolding founded supported
  founded-closed = iterate-closed P.claims supported supported_mono supported-inside

  founded-least : (Z : Claims) → heads P (usable I Z) ⊆ Z → founded P I ⊆ Z
  unfolding founded supported
  founded-least Z h = iterate-least P.claims supported supported_mono supported-inside Z h P.claims

  is-unfounded : Unfounded P I (unfounded P I)
  unfolding unfounded
  is-unfounded c b t r =
      let test : Literal → Bool = usable I (founded P I) in
      let f = one-fails test b (λ a. T_not (founded P I c) t (founded-closed c (heads_of test P c b r (pass-each test b a)))) in
      (f.0, f.1, twice-not (witness I (λ d. not (founded P I d)) f.0) f.2)

  -- all that is not in an unfounded set holds what is founded
  module _ (X : Claims) (is : Unfounded P I X) where
    rest : Claims
    rest c = not (X c)

    rest-closed : heads P (usable I rest) ⊆ rest
    unfolding rest
    rest-closed c t =
        let r = heads-by (usable I rest) P c t in
        not_T (X c)
        (λ x.
        let f = is c r.0 x r.1 in
        T_not (witness I (λ d. not (not (X d))) f.0) (r.2 f.0 f.1)
        (witness_more I I X (λ d. not (not (X d))) (λ k u. u) (λ d u. not_T (not (X d)) (λ n. T_not (X d) n u)) f.0 f.2))

    is-greatest : X ⊆ unfounded P I
    unfolding unfounded rest
    is-greatest c x = not_T (founded P I c) (λ f. T_not (X c) (founded-least rest rest-closed c f) x)

  pub greatest_unfounded : GreatestUnfounded P I
  greatest_unfounded =
      record {
        is_unfounded = is-unfounded;
        greatest = is-greatest;
        union = λ c. (λ t. (unfounded P I, is-unfounded, t), λ x. is-greatest x.0 x.1 c x.2);
      }

-- an unfounded set stays one in a larger interpretation
pub unfounded_more : (P : Program) (I J : Interpretation) → I ⊑ J → unfounded P I ⊆ unfounded P J
unfounded_more P I J below =
    (greatest_unfounded P J).greatest (unfounded P I)
    (λ c b t r.
    let w = (greatest_unfounded P I).is_unfounded c b t r in
    (w.0, w.1, witness_more I J (unfounded P I) (unfounded P I) below (λ d u. u) w.0 w.2))

-- The well-founded model by greatest unfounded sets (02, order 9: "Our reference text gives the 1991 model by greatest unfounded sets"), as
-- Van Gelder, Ross and Schlipf define it, 'The well-founded semantics for general logic programs', Journal of the ACM 38 (1991), for any
-- program (specs/Model) and as functions that compute. An atom of the paper is a claim, a subgoal a literal of a body.
--   paper                     here
--   partial interpretation    Interpretation       a set of literals; consistent: no claim and its negation are in it
--   true in I, false in I     I l, is_false I l    the literal is in I; its complement is
--   witness of unusability    witness I X l        literal l is false in I, or it is plain and its claim is in X
--   unfounded set             Unfounded P I X      each rule of each member of X has a witness of unusability
--   greatest unfounded set    AnyUnfounded P I c   claim c is in the union of all unfounded sets
--                             unfounded P I        the same set, computed (specs/Textbook: GreatestUnfounded)
--   T_P(I)                    AnyTrue P I c        claim c has a rule all of whose literals are true in I
--                             consequences P I     the same set, computed
--   U_P(I)                    the greatest unfounded set
--   W_P(I)                    W P I                T_P(I), and the negations of U_P(I)
--   I_0, I_1, ..              after P n            W_P applied n times, from the empty set on
--   well-founded model        well_founded P       the least fixpoint of W_P (specs/Textbook: LeastFixpoint)
--   I ⊑ J                     inclusion of interpretations
--   verdict_by I c            the verdict of claim c by I: true, false, or else undefined
--   unfounded_verdicts P      the verdicts of all claims in order, by well_founded P
use Rattle.std.specs.Prelude.{ℕ, zero, suc, Bool, false, not, cond, ◌||◌, List, T}
use Rattle.base.specs.Sets.{Claims, iterate}
use Rattle.base.specs.Span.{span}
use Rattle.job.specs.Encoding.{◌∈◌}
use Rattle.job.specs.declared.Literal.{Literal}
use Rattle.job.specs.declared.Literal.TheVariants.{Plain, Negated}
use Rattle.semantics.specs.Model.{Body, Program, RuleOf, heads, Verdict, True, False, Undefined}

abbrev pub Interpretation : Type 0
Interpretation = Literal → Bool

abbrev pub Consistent : Interpretation → Type 0
Consistent I = (c : ℕ) → T (I (Plain c)) → T (I (Negated c)) → ⊥

abbrev pub complement : Literal → Literal
complement (Plain c) = Negated c
complement (Negated c) = Plain c

abbrev pub is_false : Interpretation → Literal → Bool
is_false I l = I (complement l)

abbrev pub plain_in : Claims → Literal → Bool
plain_in X (Plain c) = X c
plain_in X (Negated c) = false

-- the paper's two conditions: a subgoal, positive or negative, that is false in I; or a positive one that is in the set
abbrev pub witness : Interpretation → Claims → Literal → Bool
witness I X l = is_false I l || plain_in X l

abbrev pub Unfounded : Program → Interpretation → Claims → Type 0
Unfounded P I X = (c : ℕ) (b : Body) → T (X c) → RuleOf P c b → (l : Literal) × l ∈ b × T (witness I X l)

-- the union of all sets that are unfounded with respect to I
abbrev pub AnyUnfounded : Program → Interpretation → ℕ → Type 0
AnyUnfounded P I c = (X : Claims) × Unfounded P I X × T (X c)

-- what is founded: the least set Z that holds the head of each rule without a witness, where all that is not in Z is taken to be unfounded
abbrev pub usable : Interpretation → Claims → Literal → Bool
usable I Z l = not (witness I (λ c. not (Z c)) l)

unfoldable pub founded : Program → Interpretation → Claims
founded P I = iterate (λ (Z : Claims). heads P (usable I Z)) P.claims

unfoldable pub unfounded : Program → Interpretation → Claims
unfounded P I c = not (founded P I c)

abbrev pub AnyTrue : Program → Interpretation → ℕ → Type 0
AnyTrue P I c = (b : Body) × RuleOf P c b × ((l : Literal) → l ∈ b → T (I l))

abbrev pub consequences : Program → Interpretation → Claims
consequences P I = heads P I

abbrev pub W : Program → Interpretation → Interpretation
W P I (Plain c) = consequences P I c
W P I (Negated c) = unfounded P I c

unfoldable pub after : Program → ℕ → Interpretation
after P zero l = false
after P (suc n) l = W P (after P n) l

-- each step up to the fixpoint settles a claim, but for the first, which may settle only the numbers that are none
unfoldable pub well_founded : Program → Interpretation
well_founded P = after P (suc P.claims)

infix 4 ◌⊑◌
abbrev pub ◌⊑◌ : Interpretation → Interpretation → Type 0
I ⊑ J = (l : Literal) → T (I l) → T (J l)

-- an atom of which neither it nor its negation is in the interpretation is undefined
abbrev pub verdict_by : Interpretation → ℕ → Verdict
verdict_by I c = cond (I (Plain c)) True (cond (I (Negated c)) False Undefined)

unfoldable pub unfounded_verdicts : Program → List Verdict
unfounded_verdicts P = span (verdict_by (well_founded P)) 0 P.claims

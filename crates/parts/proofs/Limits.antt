-- A part of a job within the limits is a job within the limits, and its bytes are no more than the job's. Assumes nothing.
--   rising-block, rising_blocks   heads that never fall
--   part-valid                    the part is within the limits
--   part-shorter                  the part has no more bytes
use Prim.Native.Nat.{ℕ, zero, suc, ◌<◌, ◌≤◌}
use mathlib.Core.Path.{◌≡◌, refl, sym, ◌∙◌, ap, subst, subst⁻¹}
use mathlib.Core.Bool.{true, false, true≢false}
use mathlib.Core.List.Memᴰ
use mathlib.Core.List.{List, [], ◌∷◌, ◌++◌, flat_map}
use mathlib.Core.Logic.{⊎_elim}
use native.Mathlib.Omega.{arith}
use lib.ListN.{length, get_or}
use Rattle.base.specs.Span.{span}
use Rattle.job.specs.Job.{Rule, ◌if◌, missing_record, Job, claim_of}
use Rattle.job.specs.Encoding.{◌∈◌, encode, Rising, Valid}
use Rattle.job.specs.declared.Literal.{Literal}
use Rattle.job.proofs.Fields.{encode-length}
use Rattle.semantics.specs.Model.{Body}
use Rattle.parts.specs.Part.{Numbered, part_body, claim_rules, part}
use Rattle.parts.proofs.Rules.{body_out, Made, missing, stood, made-head, claim-head, part_out, number-below}
use Rattle.parts.proofs.Sizes.{fewer-rules, fewer-literals, fewer-claims}

rising-block :
    (xs rest : List Rule) (b a : ℕ) → b ≤ a → ((r : Rule) → r ∈ xs → r.head ≡ a) → ((c : ℕ) → c ≤ a → Rising c rest) → Rising b (xs ++ rest)
rising-block [] rest b a h e next = next b h
rising-block (x ∷ xs) rest b a h e next =
    let q : x.head ≡ a = e x (Memᴰ.head refl) in
    (omega arith, rising-block xs rest x.head a (omega arith) (λ r m. e r (Memᴰ.tail m)) next)

rising_blocks : (f : ℕ → List Rule) → ((i : ℕ) (r : Rule) → r ∈ f i → r.head ≡ i) → (n a b : ℕ) → b ≤ a → Rising b (flat_map f (span (λ k. k) a n))
unfolding span flat_map
rising_blocks f e zero a b h = tt
rising_blocks f e (suc n) a b h =
    rising-block (f a) (flat_map f (span (λ k. k) (suc a) n)) b a h (e a) (λ c l. rising_blocks f e n (suc a) c (omega arith))

module _ (j : Job) (t place ms : List ℕ) (valid : Valid j) (numbered : Numbered place ms) (long : length place ≡ j.claims) where
  heads-rise : Rising 0 (part j t place ms).rules
  unfolding part
  heads-rise =
      rising_blocks (λ i. claim_rules t place i (get_or ms i 0) j.rules) (λ i. claim-head t place i (get_or ms i 0) j.rules) (length ms) 0 0 (omega arith)

  made-empty : (i : ℕ) (r r' : Rule) → Made t place i r r' → r'.missing ≡ true → r'.body ≡ []
  made-empty i r r' (missing e q) h = ap (λ (x : Rule). x.body) {x = r'} {y = missing_record i} q
  made-empty i r r' (stood e s q) h =
      let f : r'.missing ≡ false = ap (λ (x : Rule). x.missing) {x = r'} {y = i if part_body t place i r.body} q in
      absurd (true≢false (sym h ∙ f))

  made-below : (i : ℕ) (r r' : Rule) → i < length ms → Made t place i r r' → (l : Literal) → l ∈ r'.body → claim_of l < length ms
  made-below i r r' h (missing e q) l k =
      absurd (Memᴰ.not-nil (subst (λ (b : Body). l ∈ b) (ap (λ (x : Rule). x.body) {x = r'} {y = missing_record i} q) k))
  made-below i r r' h (stood e s q) l k =
      ⊎_elim (λ f. subst⁻¹ (λ (y : Literal). claim_of y < length ms) f.3 (number-below place ms numbered f.0 f.2))
      (λ o. subst⁻¹ (λ (y : Literal). claim_of y < length ms) o.0 h)
      (body_out t place i r.body l (subst (λ (b : Body). l ∈ b) (ap (λ (x : Rule). x.body) {x = r'} {y = i if part_body t place i r.body} q) k))

  valid-part : Valid (part j t place ms)
  unfolding part
  valid-part =
      record {
        claims_most = omega (arith, fewer-claims j t place ms numbered long, valid.claims_most);
        rules_most = omega (arith, fewer-rules j t place ms numbered, valid.rules_most);
        literals_most = omega (arith, fewer-literals j t place ms numbered, valid.literals_most);
        workers_least = omega arith;
        workers_most = omega arith;
        questions_most = omega arith;
        heads_rise = heads-rise;
        heads = λ r m. let s = part_out j t place ms r m in omega (arith, made-head t place s.i s.r r s.made, s.below);
        missing = λ r m. let s = part_out j t place ms r m in made-empty s.i s.r r s.made;
        literals = λ r m. let s = part_out j t place ms r m in made-below s.i s.r r s.below s.made;
        askers = λ q m. absurd (Memᴰ.not-nil m);
        asked = λ q m. absurd (Memᴰ.not-nil m);
      }

pub part-valid : (j : Job) → Valid j → (t place ms : List ℕ) → length place ≡ j.claims → Numbered place ms → Valid (part j t place ms)
part-valid j valid t place ms long numbered = valid-part j t place ms valid numbered long

pub part-shorter :
    (j : Job) → Valid j → (t place ms : List ℕ) → length place ≡ j.claims → Numbered place ms → length (encode (part j t place ms)) ≤ length (encode j)
unfolding part
part-shorter j valid t place ms long numbered =
    omega (arith, encode-length (part j t place ms) (part-valid j valid t place ms long numbered), encode-length j valid, fewer-rules j t place ms numbered, fewer-literals j t place ms numbered)

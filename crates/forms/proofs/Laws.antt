-- The theorems of specs/Laws. Assumes nothing.
--   one_form       OneForm, of every accepted job
--   byte-order     ByteOrder
use Prim.Native.Nat.{ℕ, ◌<◌, ◌≤◌}
use mathlib.Core.Path.{◌≡◌, sym, ◌∙◌, ap, subst}
use mathlib.Core.List.{List, ◌∷◌, ◌++◌}
use mathlib.Core.Logic.{◌⊎◌, inl, inr, ⊎_elim}
use native.Mathlib.Omega.{arith}
use lib.Dec.{T, ltb, lt→ltb, T_not, not_T}
use lib.ListN.{length}
use Rattle.base.proofs.Choose.{t?}
use Rattle.job.specs.Job.{Job}
use Rattle.job.specs.Format.{job_of}
use Rattle.job.specs.Accepted.{WellFormed}
use Rattle.job.specs.Checks.{check_job}
use Rattle.job.specs.Encoding.{encode, Valid}
use Rattle.job.specs.Check.{Accepted}
use Rattle.job.proofs.Accepted.{well_formed, accepted}
use Rattle.job.proofs.Fields.{encode-length}
use Rattle.job.proofs.Written.{rules_count, questions_count, literals_count}
use Rattle.job.proofs.Valid.{well_formed-valid}
use Rattle.job.proofs.Encoding.{decoded, encoded_well_formed}
use Rattle.semantics.specs.Model.{program_of, verdict}
use Rattle.forms.specs.Order.{lex, Strict}
use Rattle.forms.specs.Form.{form, form_bytes, SameRules, earlier}
use Rattle.forms.specs.Laws.{OneForm, ByteOrder, at_most}
use Rattle.forms.proofs.Keyed.{ltb_strict}
use Rattle.forms.proofs.Lexic.{lex_strict, lex-decides, lex-begins}
use Rattle.forms.proofs.Keys.{form_key, key-form, form_same, key-sym}
use Rattle.forms.proofs.Verdicts.{verdict_same}
use Rattle.forms.proofs.FormValid.{form-valid, form-length}
use Rattle.forms.proofs.OneWay.{one_way}
use Rattle.forms.proofs.Worked.{forms_right}

-- the form of a form is itself
form-again : (j : Job) → form (form j) ≡ form j
form-again j = sym (key-form j (form j) (form_key j))

valid : (s : List ℕ) → Accepted ≡ check_job s → Valid (job_of s)
valid s a = well_formed-valid s (well_formed s a)

-- equal bytes are equal forms
same_bytes : (j k : Job) → Valid j → Valid k → encode (form j) ≡ encode (form k) → form j ≡ form k
same_bytes j k v w e = sym (decoded (form j) (form-valid j v)) ∙ (ap job_of e ∙ decoded (form k) (form-valid k w))

-- an accepted job has as many bytes as the encoding of what it holds
whole : (s : List ℕ) → WellFormed s → length (encode (job_of s)) ≡ length s
whole s w =
    omega (arith, encode-length (job_of s) (well_formed-valid s w), w.sized.size, rules_count s, questions_count s, literals_count s, w.bodies)

module _ (s : List ℕ) (a : Accepted ≡ check_job s) where
  held : job_of (form_bytes s) ≡ form (job_of s)
  unfolding form_bytes
  held = decoded (form (job_of s)) (form-valid (job_of s) (valid s a))

  form-accepted : Accepted ≡ check_job (form_bytes s)
  unfolding form_bytes
  form-accepted = accepted (form_bytes s) (encoded_well_formed (form (job_of s)) (form-valid (job_of s) (valid s a)))

  no_longer : length (form_bytes s) ≤ length s
  unfolding form_bytes
  no_longer = omega (arith, form-length (job_of s) (valid s a), whole s (well_formed s a))

  equal-to : (t : List ℕ) → Accepted ≡ check_job t → form_bytes s ≡ form_bytes t → SameRules (job_of s) (job_of t)
  unfolding form_bytes
  equal-to t b e = form_same (job_of s) (job_of t) (same_bytes (job_of s) (job_of t) (valid s a) (valid t b) e)

  equal_of : (t : List ℕ) → SameRules (job_of s) (job_of t) → form_bytes s ≡ form_bytes t
  unfolding form_bytes
  equal_of t h = ap encode (key-form (job_of s) (job_of t) h)

  again : form_bytes (form_bytes s) ≡ form_bytes s
  unfolding form_bytes
  again = ap (λ (j : Job). encode (form j)) held ∙ ap encode (form-again (job_of s))

  verdicts : (c : ℕ) → verdict (program_of (job_of (form_bytes s))) c ≡ verdict (program_of (job_of s)) c
  verdicts =
      verdict_same (job_of (form_bytes s)) (job_of s) (subst (λ (j : Job). SameRules j (job_of s)) (sym held) (key-sym (form_key (job_of s))))

  pub one_form : OneForm s
  one_form =
      record {
        accepted = form-accepted;
        holds = held;
        one_way = one_way (job_of s) (valid s a);
        shorter = no_longer;
        equal = λ t b. (equal-to t b, equal_of t);
        again = again;
        verdicts = verdicts;
        worked = forms_right;
      }

bytes_strict : Strict (lex ltb)
bytes_strict = lex_strict ltb ltb_strict

-- one of three, for any two byte strings
three : (s t : List ℕ) → T (lex ltb s t) ⊎ T (lex ltb t s) ⊎ (s ≡ t)
three s t = go (t? (lex ltb s t)) (t? (lex ltb t s))
  where
    go : Dec (T (lex ltb s t)) → Dec (T (lex ltb t s)) → T (lex ltb s t) ⊎ T (lex ltb t s) ⊎ (s ≡ t)
    go (yes a) d = inl a
    go (no a) (yes b) = inr (inl b)
    go (no a) (no b) = inr (inr (bytes_strict.tie s t a b))

-- what comes first isn't behind
before : (s t : List ℕ) → T (lex ltb s t) → T (at_most s t)
before s t a = not_T (lex ltb t s) (λ b. bytes_strict.never s (bytes_strict.on s t s a b))

itself : (s : List ℕ) → T (at_most s s)
itself s = not_T (lex ltb s s) (bytes_strict.never s)

most-on : (s t u : List ℕ) → T (at_most s t) → T (at_most t u) → T (at_most s u)
most-on s t u p q = go (three s t)
  where
    go : T (lex ltb s t) ⊎ T (lex ltb t s) ⊎ (s ≡ t) → T (at_most s u)
    go (inl a) = not_T (lex ltb u s) (λ b. T_not (lex ltb u t) q (bytes_strict.on u s t b a))
    go (inr (inl a)) = absurd (T_not (lex ltb t s) p a)
    go (inr (inr e)) = subst (λ (z : List ℕ). T (at_most z u)) (sym e) q

-- what comes first is another, and of others what isn't behind comes first
strictly-to : (s t : List ℕ) → T (lex ltb s t) → T (at_most s t) × (s ≡ t → ⊥)
strictly-to s t a = (before s t a, λ e. bytes_strict.never t (subst (λ (z : List ℕ). T (lex ltb z t)) e a))

strictly_of : (s t : List ℕ) → T (at_most s t) → (s ≡ t → ⊥) → T (lex ltb s t)
strictly_of s t p n = go (three s t)
  where
    go : T (lex ltb s t) ⊎ T (lex ltb t s) ⊎ (s ≡ t) → T (lex ltb s t)
    go (inl a) = a
    go (inr (inl a)) = absurd (T_not (lex ltb t s) p a)
    go (inr (inr e)) = absurd (n e)

decided : (p s t : List ℕ) (x y : ℕ) → x < y → T (lex ltb (p ++ x ∷ s) (p ++ y ∷ t))
decided p s t x y h = lex-decides ltb ltb_strict p s t x y (lt→ltb x y h)

pub byte-order : ByteOrder
unfolding earlier
byte-order =
    record {
      reflexive = itself;
      antisymmetric = λ s t p q. bytes_strict.tie s t (T_not (lex ltb s t) q) (T_not (lex ltb t s) p);
      transitive = most-on;
      total = λ s t.
          ⊎_elim (λ a. inl (before s t a))
          (λ r. ⊎_elim (λ b. inr (before t s b)) (λ e. inl (subst (λ (z : List ℕ). T (at_most s z)) e (itself s))) r) (three s t);
      decides = decided;
      begins = lex-begins ltb ltb_strict;
      strictly = λ s t. (strictly-to s t, λ h. strictly_of s t h.0 h.1);
      jobs = λ j k p s t x y e f h. rw (e, f) (decided p s t x y h);
      forms = λ j k v w.
          ⊎_elim (λ a. inl a) (λ r. inr (⊎_elim (λ b. inl b) (λ e. inr (form_same j k (same_bytes j k v w e))) r))
          (three (encode (form j)) (encode (form k)));
      not_both = λ j k a h. bytes_strict.never (encode (form k)) (subst (λ (x : Job). T (lex ltb (encode x) (encode (form k)))) (key-form j k h) a);
    }

-- Where the rules of one claim stand and end among its literals. Assumes nothing.
--   end_most, end_more, end_same   past the literal, within the claim's literals, and one for all literals of a rule
--   RuleAt, rule-at                where one rule stands among the literals of its head;    Holding, rule_holding   which rule has a literal
--   append_first, append-later     the ends of some rules and more rules
use Prim.Native.Nat.{ℕ, ◌+◌, ◌-◌, ◌≤◌, ◌<◌}
use mathlib.Core.Path.{◌≡◌, refl, sym, ◌∙◌, ap, subst}
use mathlib.Core.Logic.{by_cases, ⊎_elim}
use mathlib.Core.Bool.{Bool, cond}
use mathlib.Core.List.Memᴰ
use mathlib.Core.List.{List, [], ◌∷◌, ◌++◌}
use native.Mathlib.Omega.{arith}
use native.Mathlib.Decide.{ℕ_discrete, dec_lt}
use borrow.Author.Tests.{eq-eqb, ne_eqb}
use lib.ListN.{length, get_or, length-append, get_or-append}
use lib.Seq.{get_or-append-add}
use lib.Dec.{eqb, ltb, ltb→lt, lt→ltb}
use Rattle.base.proofs.Choose.{pick_yes, pick_no}
use Rattle.job.specs.Job.{Rule, literals_of, rule_end}
use Rattle.job.specs.Encoding.{◌∈◌}
use Rattle.job.specs.declared.Literal.{Literal}
use Rattle.job.specs.declared.Literal.TheVariants.{Plain}

-- the literals of c in one rule
abbrev pub own-part : ℕ → Rule → List Literal
own-part c r = cond (eqb r.head c) r.body []

module _ (c : ℕ) (r : Rule) (rs : List Rule) where
  abbrev n : ℕ
  n = length (own-part c r)

  pub end_here : (k : ℕ) → k < n → rule_end c (r ∷ rs) k ≡ n
  unfolding rule_end
  end_here k l = pick_yes (ltb k n) n (n + rule_end c rs (k - n)) (lt→ltb k n l)

  end_later : (k : ℕ) → n ≤ k → rule_end c (r ∷ rs) k ≡ n + rule_end c rs (k - n)
  unfolding rule_end
  end_later k l = pick_no (ltb k n) n (n + rule_end c rs (k - n)) (λ h. omega (arith, ltb→lt k n h))

  part_length : length (literals_of c (r ∷ rs)) ≡ n + length (literals_of c rs)
  unfolding literals_of
  part_length = length-append (own-part c r) (literals_of c rs)

none-length : (c : ℕ) → length (literals_of c []) ≡ 0
unfolding literals_of
none-length c = refl

end_none : (c k : ℕ) → rule_end c [] k ≡ 0
unfolding rule_end
end_none c k = refl

pub end_most : (c : ℕ) (rs : List Rule) (k : ℕ) → k < length (literals_of c rs) → rule_end c rs k ≤ length (literals_of c rs)
end_most c [] k l = absurd (omega (arith, none-length c))
end_most c (r ∷ rs) k l =
    by_cases (dec_lt k (length (own-part c r))) (λ h. omega (arith, end_here c r rs k h, part_length c r rs))
    (λ h.
    omega
    (arith, end_later c r rs k (omega arith), part_length c r rs, end_most c rs (k - length (own-part c r)) (omega (arith, part_length c r rs))))

pub end_more : (c : ℕ) (rs : List Rule) (k : ℕ) → k < length (literals_of c rs) → k < rule_end c rs k
end_more c [] k l = absurd (omega (arith, none-length c))
end_more c (r ∷ rs) k l =
    by_cases (dec_lt k (length (own-part c r))) (λ h. omega (arith, end_here c r rs k h))
    (λ h.
    omega
    (arith, end_later c r rs k (omega arith), end_more c rs (k - length (own-part c r)) (omega (arith, part_length c r rs))))

pub end_same : (c : ℕ) (rs : List Rule) (i k : ℕ) → i ≤ k → k < rule_end c rs i → rule_end c rs k ≡ rule_end c rs i
end_same c [] i k l h = absurd (omega (arith, end_none c i))
end_same c (r ∷ rs) i k l h =
    by_cases (dec_lt i (length (own-part c r)))
    (λ g. omega (arith, end_here c r rs i g, end_here c r rs k (omega (arith, end_here c r rs i g))))
    (λ g.
    omega
    (arith, end_later c r rs i (omega arith), end_later c r rs k (omega arith), end_same c rs (i - length (own-part c r)) (k - length (own-part c r)) (omega arith) (omega (arith, end_later c r rs i (omega arith)))))

-- where rule r of c stands among c's literals
pub record RuleAt (c : ℕ) (rs : List Rule) (r : Rule) : Type 0 where
  pub from : ℕ
  pub most : from + length r.body ≤ length (literals_of c rs)
  pub literal : (i : ℕ) → i < length r.body → get_or (literals_of c rs) (from + i) (Plain 0) ≡ get_or r.body i (Plain 0)
  pub end : (i : ℕ) → i < length r.body → rule_end c rs (from + i) ≡ from + length r.body
  pub before : (k : ℕ) → k < from → rule_end c rs k ≤ from

own-whole : (c : ℕ) (r : Rule) → r.head ≡ c → own-part c r ≡ r.body
own-whole c r h = ap (λ (b : Bool). cond b r.body []) (eq-eqb r.head c h)

module _ (c : ℕ) (x : Rule) (rs : List Rule) where
  at_first : x.head ≡ c → RuleAt c (x ∷ rs) x
  unfolding literals_of
  at_first h =
      let e : length (own-part c x) ≡ length x.body = ap length (own-whole c x h) in
      let z : (i : ℕ) → 0 + i ≡ i = λ i. omega arith in
      record {
        from = 0;
        most = omega (arith, part_length c x rs);
        literal = λ i l.
            ap (λ (k : ℕ). get_or (own-part c x ++ literals_of c rs) k (Plain 0)) (z i)
            ∙ (get_or-append (own-part c x) (literals_of c rs) (Plain 0) i (omega arith)
            ∙ ap (λ (ls : List Literal). get_or ls i (Plain 0)) (own-whole c x h));
        end = λ i l. omega (arith, ap (rule_end c (x ∷ rs)) (z i), end_here c x rs i (omega arith));
        before = λ k l. absurd (omega arith);
      }

  at-later : {r : Rule} → RuleAt c rs r → RuleAt c (x ∷ rs) r
  unfolding literals_of
  at-later {r} p =
      let n = length (own-part c x) in
      let back : (i : ℕ) → length (own-part c x) + (p.from + i) - length (own-part c x) ≡ p.from + i = λ i. omega arith in
      let same : (i : ℕ) → length (own-part c x) + p.from + i ≡ length (own-part c x) + (p.from + i) = λ i. omega arith in
      record {
        from = length (own-part c x) + p.from;
        most = omega (arith, part_length c x rs, p.most);
        literal = λ i l.
            ap (λ (k : ℕ). get_or (own-part c x ++ literals_of c rs) k (Plain 0)) (same i)
            ∙ (get_or-append-add (own-part c x) (literals_of c rs) (p.from + i) (Plain 0) ∙ p.literal i l);
        end = λ i l.
            omega
            (arith, ap (rule_end c (x ∷ rs)) (same i), end_later c x rs (length (own-part c x) + (p.from + i)) (omega arith), ap (rule_end c rs) (back i), p.end i l);
        before = λ k l.
            by_cases (dec_lt k (length (own-part c x))) (λ h. omega (arith, end_here c x rs k h))
            (λ h. omega (arith, end_later c x rs k (omega arith), p.before (k - length (own-part c x)) (omega arith)));
      }

pub rule-at : (c : ℕ) (rs : List Rule) (r : Rule) → r ∈ rs → r.head ≡ c → RuleAt c rs r
rule-at c [] r i h = absurd (Memᴰ.not-nil i)
rule-at c (x ∷ rs) r i h =
    ⊎_elim (λ e. subst (RuleAt c (x ∷ rs)) (sym e) (at_first c x rs (ap (λ (y : Rule). y.head) (sym e) ∙ h)))
    (λ m. at-later c x rs (rule-at c rs r m h)) (Memᴰ.cases_cons i)

-- the rule that has literal k of c
pub record Holding (c : ℕ) (rs : List Rule) (k : ℕ) : Type 0 where
  pub rule : Rule
  pub is : rule ∈ rs
  pub headed : rule.head ≡ c
  pub at : RuleAt c rs rule
  pub from : at.from ≤ k
  pub to : k < at.from + length rule.body

own-head : (c : ℕ) (r : Rule) → 0 < length (own-part c r) → r.head ≡ c
own-head c r l =
    by_cases (ℕ_discrete r.head c) (λ e. e)
    (λ n. absurd (omega (arith, ap (λ (b : Bool). length (cond b r.body [])) (ne_eqb r.head c n))))

pub rule_holding : (c : ℕ) (rs : List Rule) (k : ℕ) → k < length (literals_of c rs) → Holding c rs k
unfolding at_first at-later
rule_holding c [] k l = absurd (omega (arith, none-length c))
rule_holding c (x ∷ rs) k l =
    by_cases (dec_lt k (length (own-part c x)))
    (λ h.
    let e = own-head c x (omega arith) in
    record { rule = x; is = Memᴰ.head refl; headed = e; at = at_first c x rs e; from = omega arith; to = omega (arith, ap length (own-whole c x e)) })
    (λ h.
    let p = rule_holding c rs (k - length (own-part c x)) (omega (arith, part_length c x rs)) in
    record {
      rule = p.rule;
      is = Memᴰ.tail p.is;
      headed = p.headed;
      at = at-later c x rs p.at;
      from = omega (arith, p.from);
      to = omega (arith, p.to);
    })

-- rules, and more rules
pub append_first : (c : ℕ) (x y : List Rule) (k : ℕ) → k < length (literals_of c x) → rule_end c (x ++ y) k ≡ rule_end c x k
append_first c [] y k l = absurd (omega (arith, none-length c))
append_first c (r ∷ x) y k l =
    by_cases (dec_lt k (length (own-part c r))) (λ h. end_here c r (x ++ y) k h ∙ sym (end_here c r x k h))
    (λ h.
    let g : length (own-part c r) ≤ k = omega arith in
    end_later c r (x ++ y) k g ∙ ap (λ (e : ℕ). length (own-part c r) + e) (append_first c x y (k - length (own-part c r)) (omega (arith, part_length c r x))) ∙ sym (end_later c r x k g))

pub append-later : (c : ℕ) (x y : List Rule) (k : ℕ) → length (literals_of c x) ≤ k → rule_end c (x ++ y) k ≡ length (literals_of c x) + rule_end c y (k - length (literals_of c x))
append-later c [] y k l =
    let z : k - length (literals_of c []) ≡ k = omega (arith, none-length c) in
    omega (arith, none-length c, ap (rule_end c y) z)
append-later c (r ∷ x) y k l =
    let p = part_length c r x in
    let z : k - length (own-part c r) - length (literals_of c x) ≡ k - length (literals_of c (r ∷ x)) = omega arith in
    omega
    (arith, end_later c r (x ++ y) k (omega arith), append-later c x y (k - length (own-part c r)) (omega arith), ap (rule_end c y) z)

-- The rules of a constructor, and what is so of each.
use Rattle.std.proofs.Common.{ℕ, zero, suc, ◌≡◌, ◌<◌, ◌≤◌, ◌+◌, ◌==◌, ◌&&◌, ◌||◌, ◌++◌, Bool, true, false, cond, List, [], ◌∷◌, All, map, get_or, length, Vec, refl, sym, ap, ap₂, subst, ◌∙◌, arith, append_assoc, eq-eqb}
use Rattle.std.specs.List.{list_any}
use Rattle.std.proofs.lemmas.Bool.{ne_eqb}
use Rattle.std.proofs.lemmas.List.{get_or-map, get_or_past, length-map}
use Rattle.std.proofs.lemmas.List.Elements.{All-nil, All-cons, All-append}
use Rattle.std.proofs.lemmas.List.Folds.{list_any-append}
use Rattle.sta_core.specs.Fits.{RuleFits}
use Rattle.model_tree.specs.Formula.{EveryAtom}
use Rattle.sta_core.specs.Machine.{Machine, PlainRule, plain_rule}
use Rattle.sta_core.specs.declared.StaRule.{StaRule}
use Rattle.sta_marks.specs.declared.rules.Owned.{Owned}
use Rattle.sta_marks.specs.Rules.{plain_rules, owned_one, owned_of, owned_from, plain_owned, AreGrouped}

and_or : (a x y : Bool) → ((a && x) || (a && y)) ≡ (a && (x || y))
and_or true x y = refl
and_or false x y = refl

-- a rule of the state that passes the test, and one with the constructor
abbrev pub of_state : {A : Type 0} → ℕ → (PlainRule A → Bool) → ℕ × PlainRule A → Bool
of_state s test p = (p.0 == s) && test p.1

abbrev pub of_constructor : {A : Type 0} → ℕ → (PlainRule A → Bool) → PlainRule A → Bool
of_constructor c test r = (r.constructor == c) && test r

module _ {A : Type 0} (c s : ℕ) (test : PlainRule A → Bool) where
  or_false : (b : Bool) → (b || false) ≡ b
  or_false true = refl
  or_false false = refl

  and_false : (d : Bool) → false ≡ (d && false)
  and_false true = refl
  and_false false = refl

  any_one : (k : ℕ) (r : PlainRule A) → list_any (of_state s test) (owned_one c k r) ≡ (k == s) && (of_constructor c test r)
  any_one k r = by (r.constructor == c)
    where
      by : (b : Bool) → list_any (of_state s test) (cond b ((k, r) ∷ []) []) ≡ ((k == s) && (b && test r))
      by true = or_false ((k == s) && test r)
      by false = and_false (k == s)

  any_of : (k : ℕ) (rs : List (PlainRule A)) → list_any (of_state s test) (owned_of c k rs) ≡ (k == s) && list_any (of_constructor c test) rs
  any_of k [] = and_false (k == s)
  any_of k (r ∷ rs) =
      list_any-append (of_state s test) (owned_one c k r) (owned_of c k rs) ∙ ap₂ (λ x y. x || y) (any_one k r) (any_of k rs) ∙ and_or (k == s) (of_constructor c test r) (list_any (of_constructor c test) rs)

  any_before : (k : ℕ) (rules : List (List (PlainRule A))) → s < k → list_any (of_state s test) (owned_from c k rules) ≡ false
  any_before k [] low = refl
  any_before k (rs ∷ rules) low =
      list_any-append (of_state s test) (owned_of c k rs) (owned_from c (suc k) rules) ∙ ap₂ (λ x y. x || y) (any_of k rs) (any_before (suc k) rules (omega arith))
      ∙ ap (λ d. (d && list_any (of_constructor c test) rs) || false) (ne_eqb k s (λ e. omega (arith, e, low)))

  any_from : (k j : ℕ) (rules : List (List (PlainRule A))) → s ≡ k + j → list_any (of_state s test) (owned_from c k rules) ≡ list_any (of_constructor c test) (get_or rules j [])
  any_from k j [] e = refl
  any_from k zero (rs ∷ rules) e =
      list_any-append (of_state s test) (owned_of c k rs) (owned_from c (suc k) rules) ∙ ap₂ (λ x y. x || y) (any_of k rs) (any_before (suc k) rules (omega (arith, e)))
      ∙ or_false ((k == s) && list_any (of_constructor c test) rs) ∙ ap (λ d. d && list_any (of_constructor c test) rs) (eq-eqb k s (omega (arith, e)))
  any_from k (suc j) (rs ∷ rules) e =
      list_any-append (of_state s test) (owned_of c k rs) (owned_from c (suc k) rules) ∙ ap₂ (λ x y. x || y) (any_of k rs) (any_from (suc k) j rules (omega (arith, e)))
      ∙ ap (λ d. (d && list_any (of_constructor c test) rs) || list_any (of_constructor c test) (get_or rules j [])) (ne_eqb k s (λ same. omega (arith, e, same)))

  -- a constructor's list has the rules of each state
  pub grouped_any : (rules : List (List (PlainRule A))) → list_any (of_state s test) (owned_from c 0 rules) ≡ list_any (of_constructor c test) (get_or rules s [])
  grouped_any rules = any_from 0 s rules (omega arith)

-- ---- what is so of each rule

tail_of : {X : Type 0} (P : X → Type 0) (x : X) (xs : List X) → All P (x ∷ xs) → All P xs
tail_of P x xs h k d low = h (suc k) d (omega arith)

module _ {A : Type 0} (c : ℕ) (P : ℕ × PlainRule A → Type 0) where
  all_one : (k : ℕ) (r : PlainRule A) → P (k, r) → All P (owned_one c k r)
  all_one k r p = by (r.constructor == c)
    where
      by : (b : Bool) → All P (cond b ((k, r) ∷ []) [])
      by true = All-cons P (k, r) [] p (All-nil P)
      by false = All-nil P

  all_of : (k : ℕ) (rs : List (PlainRule A)) → All (λ r. P (k, r)) rs → All P (owned_of c k rs)
  all_of k [] h = All-nil P
  all_of k (r ∷ rs) h = All-append P (owned_one c k r) (owned_of c k rs) (all_one k r (h 0 r (omega arith))) (all_of k rs (tail_of (λ q. P (k, q)) r rs h))

  pub all_from : (k : ℕ) (rules : List (List (PlainRule A))) → ((j : ℕ) → j < length rules → All (λ r. P (k + j, r)) (get_or rules j [])) → All P (owned_from c k rules)
  all_from k [] h = All-nil P
  all_from k (rs ∷ rules) h =
      All-append P (owned_of c k rs) (owned_from c (suc k) rules)
      (all_of k rs (let e : k + 0 ≡ k = omega arith in subst (λ n. All (λ r. P (n, r)) rs) e (h 0 (omega arith))))
      (all_from (suc k) rules (λ j low. let e : k + suc j ≡ suc k + j = omega arith in subst (λ n. All (λ r. P (n, r)) (get_or rules j [])) e (h (suc j) (omega arith))))

-- ---- a constructor that there isn't

module _ {A : Type 0} (ranks : List ℕ) (states c : ℕ) (out : length ranks ≤ c) where
  none_one : (k : ℕ) (r : StaRule A) → RuleFits ranks states r → owned_one c k (plain_rule r) ≡ []
  none_one k r fits = ap (λ b. cond b ((k, plain_rule r) ∷ []) []) (ne_eqb r.constructor c (λ e. omega (arith, e, fits.0, out)))

  none_of : (k : ℕ) (rs : List (StaRule A)) → All (RuleFits ranks states) rs → owned_of c k (map plain_rule rs) ≡ []
  none_of k [] h = refl
  none_of k (r ∷ rs) h = ap₂ (λ x y. x ++ y) (none_one k r (h 0 r (omega arith))) (none_of k rs (tail_of (RuleFits ranks states) r rs h))

  pub none_from : {G : Type 0} (k : ℕ) (rules : List (Vec (StaRule A) G)) → All (λ those. All (RuleFits ranks states) those.items) rules → owned_from c k (plain_rules rules) ≡ []
  none_from k [] h = refl
  none_from {G} k (those ∷ rules) h =
      ap₂ (λ x y. x ++ y) (none_of k those.items (h 0 those (omega arith))) (none_from (suc k) rules (tail_of (λ (v : Vec (StaRule A) G). All (RuleFits ranks states) v.items) those rules h))

-- ---- one more in a loop

pub of_push : {A : Type 0} (c k : ℕ) (r : PlainRule A) (rs : List (PlainRule A)) (old new whole : List (ℕ × PlainRule A)) → new ≡ old ++ owned_one c k r → old ++ owned_of c k (r ∷ rs) ≡ whole → new ++ owned_of c k rs ≡ whole
of_push c k r rs old new whole is h = ap (λ l. l ++ owned_of c k rs) is ∙ append_assoc old (owned_one c k r) (owned_of c k rs) ∙ h

pub from_push : {A : Type 0} (c k : ℕ) (rs : List (PlainRule A)) (rules : List (List (PlainRule A))) (old new whole : List (ℕ × PlainRule A)) → new ≡ old ++ owned_of c k rs → old ++ owned_from c k (rs ∷ rules) ≡ whole → new ++ owned_from c (suc k) rules ≡ whole
from_push c k rs rules old new whole is h = ap (λ l. l ++ owned_from c (suc k) rules) is ∙ append_assoc old (owned_of c k rs) (owned_from c (suc k) rules) ∙ h

-- ---- the list of a constructor

module _ {A : Type 0} (c : ℕ) (rules : List (List (PlainRule A))) where
  pub owned_low : All (λ p. p.0 < length rules) (owned_from c 0 rules)
  owned_low = all_from c (λ p. p.0 < length rules) 0 rules (λ j low k d h. omega (arith, low))

  pub owned_fit : (fits : A → Type 0) → All (λ those. All (λ r. EveryAtom fits r.guard) those) rules → All (λ p. EveryAtom fits p.1.guard) (owned_from c 0 rules)
  owned_fit fits all = all_from c (λ p. EveryAtom fits p.1.guard) 0 rules (λ j low. all j [] low)

pub list_there : {A G : Type 0} (m : Machine A) (lists : List (Vec (Owned A) G)) (c : ℕ) (v : Vec (Owned A) G) → AreGrouped m lists → c < length lists → v ≡ get_or lists c v → map plain_owned v.items ≡ owned_from c 0 m.rules
list_there m lists c v grouped low is = ap (λ w. map plain_owned w.items) is ∙ ap (map plain_owned) (sym (get_or-map (λ w. w.items) lists c v [] low)) ∙ grouped c

pub list_past : {A G : Type 0} (m : Machine A) (lists : List (Vec (Owned A) G)) (c : ℕ) → AreGrouped m lists → length lists ≤ c → [] ≡ owned_from c 0 m.rules
list_past {A} {G} m lists c grouped past =
    let n = length-map lists (λ (w : Vec (Owned A) G). w.items) in
    ap (map plain_owned) (sym (get_or_past (map (λ (w : Vec (Owned A) G). w.items) lists) c [] (omega (arith, n, past)))) ∙ grouped c

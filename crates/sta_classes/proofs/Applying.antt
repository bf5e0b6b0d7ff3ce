-- The rules of a constructor that fire, by their numbers.
use Rattle.std.proofs.Common.{ℕ, zero, suc, Vec, ◌≡◌, ◌<◌, ◌==◌, ◌&&◌, ◌||◌, not, Bool, true, false, true≢false, List, [], ◌∷◌, get_or, length, map, All, refl, sym, ap, ap₂, subst, ◌∙◌, arith, inl, inr, eqb-true, eq-eqb, ◌↔◌}
use Rattle.std.specs.List.{list_any}
use Rattle.std.proofs.lemmas.Bool.{cases_lt, and_parts, and_from}
use Rattle.std.proofs.lemmas.List.{get_or_past, get_or-map, length-map}
use Rattle.model_tree.specs.Label.{Label}
use Rattle.model_tree.specs.Formula.{Formula, yes, no, atom, negation, all_of, some_of, Formulas, no_formulas, formula, formula_holds, all_hold, some_hold}
use Rattle.model_sta.specs.Automaton.{Rule}
use Rattle.model_sta.specs.Sets.{Row, has, rows_meet, fires, step}
use Rattle.model_sta.proofs.Reached.{same_default}
use Rattle.sta_core.specs.Machine.{plain_rule}
use Rattle.sta_core.specs.Sta.{rule_meaning}
use Rattle.sta_core.specs.declared.StaRule.{StaRule}
use Rattle.sta_classes.specs.Applying.{plain_owned, is_fixed, are_fixed, truth_at, AreOwned, IsFired}
use Rattle.sta_classes.specs.Bits.{both}
use Rattle.sta_classes.specs.Rules.{plain_rules, meaning_of}
use Rattle.sta_classes.specs.declared.rules.Owned.{Owned}
use Rattle.sta_theory.proofs.Lists.{bool_same, any_member, any_true, map_member, in_map}

-- rows of one length that have the same numbers are one
pub rows_equal : (p q : Row) → length p ≡ length q → ((s : ℕ) → has p s ≡ true ↔ has q s ≡ true) → p ≡ q
rows_equal [] [] e h = refl
rows_equal [] (d ∷ q) e h = absurd (omega (arith, e))
rows_equal (b ∷ p) [] e h = absurd (omega (arith, e))
rows_equal (b ∷ p) (d ∷ q) e h = ap₂ (λ x xs. x ∷ xs) (bool_same b d (λ k. (h 0).0 k) (λ k. (h 0).1 k)) (rows_equal p q (omega (arith, e)) (λ s. h (suc s)))

not_false : (b : Bool) → not b ≡ false → b ≡ true
not_false true e = refl
not_false false e = absurd (true≢false e)

pub element : {X : Type 0} (xs : List X) (i : ℕ) → i < length xs → (x : X) × (get_or xs i x ≡ x)
element [] i low = absurd (omega arith)
element (x ∷ xs) zero low = (x, refl)
element (x ∷ xs) (suc i) low = element xs i (omega arith)

module _ {A : Type 0} where
  -- rules whose guards are told apart by no label fire alike
  module _ (w k t u : Owned A → Bool) where
    pub told_apart : (list : List (Owned A)) → ((x : Owned A) → w x ≡ false → t x ≡ u x) → both (both (map w list) (map k list)) (map t list) ≡ both (both (map w list) (map k list)) (map u list) → both (map k list) (map t list) ≡ both (map k list) (map u list)
    told_apart [] h e = refl
    told_apart (x ∷ xs) h e = ap₂ (λ b bs. b ∷ bs) (one (w x) (k x) (t x) (u x) (λ f. h x f) (let first : ((w x && k x) && t x) ≡ ((w x && k x) && u x) = cc in first)) (told_apart xs h (let rest : both (both (map w xs) (map k xs)) (map t xs) ≡ both (both (map w xs) (map k xs)) (map u xs) = cc in rest))
      where
        one : (w k t u : Bool) → (w ≡ false → t ≡ u) → ((w && k) && t) ≡ ((w && k) && u) → (k && t) ≡ (k && u)
        one true k t u h e = e
        one false k t u h e = ap (λ z. k && z) (h refl)

  module _ (first second : A → Bool) where
    mutual
      fixed_holds : (f : Formula A) → is_fixed f ≡ true → formula_holds first f ≡ formula_holds second f
      fixed_holds yes e = refl
      fixed_holds no e = refl
      fixed_holds (atom a) e = absurd (true≢false (sym e))
      fixed_holds (negation f) e = ap not (fixed_holds f e)
      fixed_holds (all_of fs) e = all_fixed fs e
      fixed_holds (some_of fs) e = some_fixed fs e

      all_fixed : (fs : Formulas A) → are_fixed fs ≡ true → all_hold first fs ≡ all_hold second fs
      all_fixed no_formulas e = refl
      all_fixed (formula f fs) e = let both = and_parts (is_fixed f) (are_fixed fs) e in ap₂ (λ a b. a && b) (fixed_holds f both.0) (all_fixed fs both.1)

      some_fixed : (fs : Formulas A) → are_fixed fs ≡ true → some_hold first fs ≡ some_hold second fs
      some_fixed no_formulas e = refl
      some_fixed (formula f fs) e = let both = and_parts (is_fixed f) (are_fixed fs) e in ap₂ (λ a b. a || b) (fixed_holds f both.0) (some_fixed fs both.1)

  -- a guard without atoms has one truth value at all labels
  pub same_everywhere : (holds : A → Label → Bool) (l m : Label) (x : Owned A) → not (is_fixed (plain_rule x.rule.now).guard) ≡ false → truth_at holds l x ≡ truth_at holds m x
  same_everywhere holds l m x e = fixed_holds (λ a. holds a l) (λ a. holds a m) (plain_rule x.rule.now).guard (not_false (is_fixed (plain_rule x.rule.now).guard) e)

module _ {A G : Type 0} (holds : A → Label → Bool) (rules : List (Vec (StaRule A) G)) (c : ℕ) (list : List (Owned A)) (own : AreOwned rules c list) (qs : List Row) (l : Label) where
  -- the demands are met and the guard holds
  abbrev pub fires_here : Owned A → Bool
  fires_here x = rows_meet qs (plain_rule x.rule.now).demands && truth_at holds l x

  abbrev here : Row
  here = step (meaning_of holds (plain_rules rules)) c l qs

  abbrev those_of : Vec (StaRule A) G → List (Rule Label)
  those_of v = map (rule_meaning holds) (map plain_rule v.items)

  step_at : (s : ℕ) (v : Vec (StaRule A) G) → s < length rules → get_or rules s v ≡ v → has here s ≡ list_any (fires c l qs) (those_of v)
  step_at s v low at =
      let plain_low : s < length (plain_rules rules) = omega (arith, low, length-map rules (λ z. map plain_rule z.items)) in
      let meant_low : s < length (meaning_of holds (plain_rules rules)) = omega (arith, plain_low, length-map (plain_rules rules) (map (rule_meaning holds))) in
      get_or-map (list_any (fires c l qs)) (meaning_of holds (plain_rules rules)) s [] false meant_low
      ∙ ap (list_any (fires c l qs)) (get_or-map (map (rule_meaning holds)) (plain_rules rules) s [] [] plain_low ∙ ap (map (rule_meaning holds)) (get_or-map (λ z. map plain_rule z.items) rules s v [] low ∙ ap (λ z. map plain_rule z.items) at))

  length_here : length here ≡ length rules
  length_here =
      length-map (meaning_of holds (plain_rules rules)) (list_any (fires c l qs)) ∙ length-map (plain_rules rules) (map (rule_meaning holds)) ∙ length-map rules (λ z. map plain_rule z.items)

  three_parts : (a b d : Bool) → (a && (b && d)) ≡ true → (a ≡ true) × ((b ≡ true) × (d ≡ true))
  three_parts a b d h = let (x, y) = and_parts a (b && d) h in (x, and_parts b d y)

  -- a state of the set has a rule that fires
  fired_of : (s : ℕ) → has here s ≡ true → IsFired list (map fires_here list) s
  fired_of s h = elim (cases_lt s (length rules)) [
    | inr past ↦ absurd (true≢false (sym h ∙ get_or_past here s false (omega (arith, past, length_here))))
    | inl low ↦
        let (v, at) = element rules s low in
        let (rule, inside, fire) = any_member (fires c l qs) (those_of v) (sym (step_at s v low at) ∙ h) in
        let (plain, plain_in, is) = map_member (rule_meaning holds) (map plain_rule v.items) rule inside in
        let (r, r_in, r_is) = map_member plain_rule v.items plain plain_in in
        let meant : fires c l qs (rule_meaning holds (plain_rule r)) ≡ true = ap (λ z. fires c l qs (rule_meaning holds z)) r_is ∙ ap (fires c l qs) is ∙ fire in
        let (same, (guard, meets)) = three_parts (r.constructor == c) (formula_holds (λ a. holds a l) (plain_rule r).guard) (rows_meet qs (plain_rule r).demands) meant in
        let there = (own (s, plain_rule r)).1 (s, low, v, at, r, r_in, (eqb-true r.constructor c same, refl)) in
        let (x, (i, i_low, i_at), x_is) = map_member plain_owned list (s, plain_rule r) there in
        let fire_x : fires_here x ≡ true = ap (λ p. rows_meet qs p.1.demands && formula_holds (λ a. holds a l) p.1.guard) x_is ∙ and_from (rows_meet qs (plain_rule r).demands) (formula_holds (λ a. holds a l) (plain_rule r).guard) meets guard in
        (i, i_low, get_or-map fires_here list i x false i_low ∙ ap fires_here i_at ∙ fire_x, x, i_at, ap (λ p. p.0) x_is)
  ]

  -- and the other way round
  has_fired : (s : ℕ) → IsFired list (map fires_here list) s → has here s ≡ true
  has_fired s (i, i_low, fired, x, i_at, state_is) =
      let (s', low, v, at, r, r_in, (same, is)) = (own (plain_owned x)).0 (in_map plain_owned list x (i, i_low, i_at)) in
      let (meets, guard) = and_parts (rows_meet qs (plain_rule x.rule.now).demands) (truth_at holds l x) (sym (get_or-map fires_here list i x false i_low ∙ ap fires_here i_at) ∙ fired) in
      let state : s' ≡ s = ap (λ p. p.0) is ∙ state_is in
      let rule_is : plain_rule r ≡ plain_rule x.rule.now = ap (λ p. p.1) is in
      let fire : fires c l qs (rule_meaning holds (plain_rule r)) ≡ true =
      and_from (r.constructor == c) (formula_holds (λ a. holds a l) (plain_rule r).guard && rows_meet qs (plain_rule r).demands) (eq-eqb r.constructor c same)
      (and_from (formula_holds (λ a. holds a l) (plain_rule r).guard) (rows_meet qs (plain_rule r).demands) (ap (λ z. formula_holds (λ a. holds a l) z.guard) rule_is ∙ guard) (ap (λ z. rows_meet qs z.demands) rule_is ∙ meets)) in
      subst (λ k. has here k ≡ true) state
      (step_at s' v low at ∙ any_true (fires c l qs) (those_of v) (rule_meaning holds (plain_rule r)) (in_map (rule_meaning holds) (map plain_rule v.items) (plain_rule r) (in_map plain_rule v.items r r_in)) fire)

  -- the row with exactly the states of rules that fire is the set
  pub row_is_step : (row : Row) → length row ≡ length rules → ((s : ℕ) → has row s ≡ true ↔ IsFired list (map fires_here list) s) → row ≡ here
  row_is_step row wide h = rows_equal row here (wide ∙ sym length_here) (λ s. (λ k. has_fired s ((h s).0 k), λ k. (h s).1 (fired_of s k)))

module _ {A G : Type 0} (holds : A → Label → Bool) (rules : List (Vec (StaRule A) G)) (c : ℕ) (list : List (Owned A)) (own : AreOwned rules c list) (qs : List Row) (l m : Label) where
  -- labels at which the same rules fire make one set
  pub same_step : map (fires_here holds rules c list own qs l) list ≡ map (fires_here holds rules c list own qs m) list → step (meaning_of holds (plain_rules rules)) c l qs ≡ step (meaning_of holds (plain_rules rules)) c m qs
  same_step e =
      row_is_step holds rules c list own qs m (step (meaning_of holds (plain_rules rules)) c l qs) (length_here holds rules c list own qs l) (λ s. (
        (λ k. subst (λ z. IsFired list z s) e (fired_of holds rules c list own qs l s k)),
        (λ k. has_fired holds rules c list own qs l s (subst (λ z. IsFired list z s) (sym e) k)),
      ))

-- each rule's state is one
pub states_low : {A G : Type 0} (rules : List (Vec (StaRule A) G)) (c : ℕ) (list : List (Owned A)) → AreOwned rules c list → All (λ x. x.state < length rules) list
states_low rules c list own k d low =
    let x = get_or list k d in
    let (s, s_low, v, at, r, r_in, (same, is)) = (own (plain_owned x)).0 (in_map plain_owned list x (k, low, same_default list k x d low)) in
    subst (λ n. n < length rules) (ap (λ p. p.0) is) s_low

-- The rules for nodes are those of "not s".
use Rattle.std.proofs.Common.{ℕ, suc, ◌≡◌, ◌<◌, ◌==◌, ◌&&◌, ◌||◌, inl, inr, not, Bool, true, false, List, [], ◌∷◌, ◌++◌, map, filter, get_or, length, Contains, refl, sym, ap, subst, ◌∙◌, arith}
use Rattle.std.proofs.lemmas.Bool.{cases_lt, or_left, or_right}
use Rattle.std.proofs.lemmas.Bool.Decides.{nat_tests}
use Rattle.std.proofs.lemmas.List.{map-append}
use Rattle.std.specs.List.{list_any}
use Rattle.model_tree.specs.Label.{Label}
use Rattle.model_tree.specs.Formula.{Formula, yes, no, atom, negation, all_of, some_of, no_formulas, formula, formulas_of, formula_holds, some_hold, EveryAtom}
use Rattle.model_sta.specs.Automaton.{Rule}
use Rattle.model_sta.specs.Sets.{Row, Each, has, rows_meet}
use Rattle.label_core.specs.Formula.{plain_formula}
use Rattle.label_core.specs.declared.formula.Formula as code
use Rattle.sta_core.specs.Machine.{PlainRule}
use Rattle.sta_core.specs.Sta.{rule_meaning}
use Rattle.sta_classes.specs.Guards.{firing_guards}
use Rattle.sta_classes.proofs.Atoms.{of_each_formula}
use Rattle.sta_classes.proofs.Fired.{fires_where}
use Rattle.sta_classes.proofs.Kept.{each_kept}
use Rattle.sta_theory.specs.Made.{AreBegun, IsRuleOf, HasRule, AreMade}
use Rattle.sta_theory.proofs.Lists.{none_in, append_member, map_member, in_map, in_left, in_right, filter_member, in_filter}
use Rattle.sta_theory.proofs.Made.{are_opposites}
use Rattle.sta_ops.specs.Opposites.{PlainBegun, demands_in, opposite_in, is_no, is_yes, rows_in, AreAllBegun, not_rule, may_hold, rules_for, IsNotRule, AreNotRules}

-- a disjunction of none never holds, and of others may
pub no_parts : {A : Type 0} (fs : List (code.Formula A)) → (length fs == 0) ≡ is_no (some_of (formulas_of (map plain_formula fs)))
no_parts [] = refl
no_parts (f ∷ fs) = let more : (suc (length fs) == 0) ≡ false = grind (arith, nat_tests) in more

-- where one of the formulas always holds, one of them holds
module _ {A : Type 0} (holds : A → Bool) where
  no_holds : (f : Formula A) → is_no f ≡ true → formula_holds holds f ≡ false
  no_holds yes e = absurd (cc)
  no_holds no e = refl
  no_holds (atom a) e = absurd (cc)
  no_holds (negation f) e = absurd (cc)
  no_holds (all_of fs) e = absurd (cc)
  no_holds (some_of no_formulas) e = refl
  no_holds (some_of (formula f fs)) e = absurd (cc)

  yes_holds : (f : Formula A) → is_yes f ≡ true → formula_holds holds f ≡ true
  yes_holds yes e = refl
  yes_holds no e = absurd (cc)
  yes_holds (atom a) e = absurd (cc)
  yes_holds (negation f) e = ap not (no_holds f e)
  yes_holds (all_of fs) e = absurd (cc)
  yes_holds (some_of fs) e = absurd (cc)

  pub some_yes : (gs : List (Formula A)) → list_any is_yes gs ≡ true → some_hold holds (formulas_of gs) ≡ true
  some_yes [] e = absurd (cc)
  some_yes (g ∷ gs) e = by (λ h. some_yes gs h) (is_yes g) refl
    where
      by : (list_any is_yes gs ≡ true → some_hold holds (formulas_of gs) ≡ true) → (b : Bool) → is_yes g ≡ b → (formula_holds holds g || some_hold holds (formulas_of gs)) ≡ true
      by rest true is = or_left (formula_holds holds g) (some_hold holds (formulas_of gs)) (yes_holds g is)
      by rest false is = or_right (formula_holds holds g) (some_hold holds (formulas_of gs)) (rest (sym (ap (λ b. b || list_any is_yes gs) is) ∙ e))

-- the rules for the nodes with the first n constructors
pub record AreMadeBelow {A : Type 0} (opposites ranks : List ℕ) (rows : List Row) (rs : List (PlainRule A)) (n : ℕ) (those : List (PlainRule A)) : Type 0 where
  pub made : (holds : A → Label → Bool) → AreMade (opposite_in opposites) (map (rule_meaning holds) rs) (rows_in rows) demands_in ranks rows n (map (rule_meaning holds) those)
  pub each : (r : PlainRule A) → Contains those r → IsNotRule ranks rs r

module _ {A : Type 0} (opposites ranks : List ℕ) (rows : List Row) (rs : List (PlainRule A)) where
  pub none_made : (n : ℕ) → n ≡ 0 → AreMadeBelow opposites ranks rows rs n []
  none_made n e = record { made = λ holds. record { sound = λ r at. absurd (none_in r at); complete = λ c low. absurd (omega (arith, low, e)) }; each = λ r at. absurd (none_in r at) }

  module _ (c rank : ℕ) (nodes : List PlainBegun) (rank_is : rank ≡ get_or ranks c 0) (are : AreAllBegun rows rs c opposites rank nodes) where
    made_of : (r : PlainRule A) → Contains (rules_for rows rs c nodes) r → (x : PlainBegun) × Contains nodes x × (not_rule rows rs c x ≡ r)
    made_of r at =
        let (x, at_x, is) = map_member (not_rule rows rs c) (filter (may_hold rows rs c) nodes) r at in
        (x, (filter_member (may_hold rows rs c) nodes x at_x).0, is)

    not_is : c < length ranks → (x : PlainBegun) → Contains nodes x → IsNotRule ranks rs (not_rule rows rs c x)
    not_is low x at =
        let (wide, h) = (are (λ a l. false)).sound x at in
        record { low = low; wide = h.many ∙ wide ∙ rank_is; sets = rows_in rows x; guard_is = refl }

    module _ (holds : A → Label → Bool) where
      abbrev meant : PlainRule A → Rule Label
      meant = rule_meaning holds

      abbrev Is : PlainBegun → Rule Label → Type 0
      Is = IsRuleOf (opposite_in opposites) (map meant rs) (rows_in rows) demands_in c

      rule_is : (x : PlainBegun) → Is x (meant (not_rule rows rs c x))
      rule_is x = record { constructor_is = refl; demands_are = refl; guard_is = λ l. ap not (sym (fires_where c (rows_in rows x) holds l rs)) }

      has_rule : (x : PlainBegun) → Contains nodes x → HasRule (opposite_in opposites) (map meant rs) (rows_in rows) demands_in c (map meant (rules_for rows rs c nodes)) x
      has_rule x at = by (list_any is_yes (firing_guards c (rows_in rows x) rs)) refl
        where
          by : (b : Bool) → list_any is_yes (firing_guards c (rows_in rows x) rs) ≡ b → HasRule (opposite_in opposites) (map meant rs) (rows_in rows) demands_in c (map meant (rules_for rows rs c nodes)) x
          by true e = inr (λ l. fires_where c (rows_in rows x) holds l rs ∙ some_yes (λ a. holds a l) (firing_guards c (rows_in rows x) rs) e)
          by false e = inl (
            meant (not_rule rows rs c x),
            in_map meant (rules_for rows rs c nodes) (not_rule rows rs c x) (in_map (not_rule rows rs c) (filter (may_hold rows rs c) nodes) x (in_filter (may_hold rows rs c) nodes x at (ap not e))),
            rule_is x,
          )

    -- and those for the nodes with one more
    pub made_more : c < length ranks → (m : ℕ) → m ≡ suc c → (old new : List (PlainRule A)) → new ≡ old ++ rules_for rows rs c nodes → AreMadeBelow opposites ranks rows rs c old → AreMadeBelow opposites ranks rows rs m new
    made_more low m next old new is h = record {
      made = λ holds. record {
        sound = λ r at.
            let (p, at_p, is_p) = map_member (rule_meaning holds) new r at in
            elim (append_member old (rules_for rows rs c nodes) p (subst (λ l. Contains l p) is at_p)) [
              | inl before ↦ (
                  let (b, b_low, x, wide, x_begun, x_is) = (h.made holds).sound r (subst (Contains (map (rule_meaning holds) old)) is_p (in_map (rule_meaning holds) old p before)) in
                  (b, omega (arith, b_low, next), x, wide, x_begun, x_is))
              | inr now ↦ (
                  let (x, at_x, x_is) = made_of p now in
                  let (wide, x_begun) = (are holds).sound x at_x in
                  (c, omega (arith, next), x, wide ∙ rank_is, x_begun, subst (Is holds x) (ap (rule_meaning holds) x_is ∙ is_p) (rule_is holds x)))
            ];
        complete = λ b b_low. elim (cases_lt b c) [
          | inl before ↦ (
              let (xs, begun, ruled) = (h.made holds).complete b before in (
                xs,
                begun,
                λ x at. elim (ruled x at) [
                  | inl has ↦ inl (has.0, subst (λ l. Contains l has.0) (sym (ap (map (rule_meaning holds)) is ∙ map-append (rule_meaning holds) old (rules_for rows rs c nodes))) (in_left (map (rule_meaning holds) old) (map (rule_meaning holds) (rules_for rows rs c nodes)) has.0 has.1), has.2)
                  | inr always ↦ inr always
                ],
              ))
          | inr past ↦ (
              let same : c ≡ b = omega (arith, past, b_low, next) in
              subst (λ k. (xs : List PlainBegun) × AreBegun (opposite_in opposites) (map (rule_meaning holds) rs) (rows_in rows) demands_in k rows (get_or ranks k 0) xs × ((x : PlainBegun) → Contains xs x → HasRule (opposite_in opposites) (map (rule_meaning holds) rs) (rows_in rows) demands_in k (map (rule_meaning holds) new) x)) same (
                nodes,
                subst (λ n. AreBegun (opposite_in opposites) (map (rule_meaning holds) rs) (rows_in rows) demands_in c rows n nodes) rank_is (are holds),
                λ x at. elim (has_rule holds x at) [
                  | inl has ↦ inl (has.0, subst (λ l. Contains l has.0) (sym (ap (map (rule_meaning holds)) is ∙ map-append (rule_meaning holds) old (rules_for rows rs c nodes))) (in_right (map (rule_meaning holds) old) (map (rule_meaning holds) (rules_for rows rs c nodes)) has.0 has.1), has.2)
                  | inr always ↦ inr always
                ],
              ))
        ];
      };
      each = λ r at. elim (append_member old (rules_for rows rs c nodes) r (subst (λ l. Contains l r) is at)) [
        | inl before ↦ h.each r before
        | inr now ↦ (let (x, at_x, x_is) = made_of r now in subst (IsNotRule ranks rs) x_is (not_is low x at_x))
      ];
    }

  pub all_made : (n : ℕ) (those : List (PlainRule A)) → n ≡ length ranks → AreMadeBelow opposites ranks rows rs n those → AreNotRules opposites ranks rows rs those
  all_made n those e h = record {
    are_opposites = λ holds. are_opposites (opposite_in opposites) (map (rule_meaning holds) rs) (rows_in rows) demands_in ranks rows (map (rule_meaning holds) those)
        (subst (λ k. AreMade (opposite_in opposites) (map (rule_meaning holds) rs) (rows_in rows) demands_in ranks rows k (map (rule_meaning holds) those)) e (h.made holds));
    each = h.each;
  }

-- the atoms of such a rule are those of the state's rules
pub not_guarded : {A : Type 0} (P : A → Type 0) (ranks : List ℕ) (rs : List (PlainRule A)) (r : PlainRule A) → IsNotRule ranks rs r → Each (EveryAtom P) (map (λ x. x.guard) rs) → EveryAtom P r.guard
not_guarded P ranks rs r is h = subst (EveryAtom P) (sym is.guard_is) (of_each_formula P (firing_guards r.constructor is.sets rs) (each_kept (EveryAtom P) (λ x. (x.constructor == r.constructor) && rows_meet is.sets x.demands) rs h))

-- The rules of a block, parents by parents.
use Rattle.std.proofs.Common.{ℕ, ◌+◌, ◌≡◌, ◌<◌, ◌==◌, inl, inr, Bool, Option, Some, None, map, List, [], ◌∷◌, ◌++◌, take, get_or, length, All, Contains, true, refl, sym, ap, subst, ◌∙◌, arith, eqb-true, eq-eqb}
use Rattle.std.specs.Prelude.{MatchOption}
use Rattle.std.proofs.lemmas.List.{take_more, map-append}
use Rattle.std.proofs.lemmas.List.Elements.{Contains-append_left, Contains-push, Contains-push_cases}
use Rattle.model_tree.specs.Label.{Label}
use Rattle.sta_core.specs.Machine.{PlainRule, plain_rule}
use Rattle.sta_core.specs.declared.StaRule.{StaRule}
use Rattle.sta_classes.specs.Plain.{PlainTable}
use Rattle.sta_theory.proofs.Lists.{none_in, in_filter, filter_member}
use Rattle.sta_ops.proofs.EachRule.{all_in, in_all}
use Rattle.sta_min.specs.Parents.{PlainParents}
use Rattle.sta_min.specs.Written.{classes_in, IsRuleFor, NoneIsIn, AreRulesFor}

pub none_is_in : (dense : List ℕ) (block : ℕ) (p : PlainParents) → classes_in dense block p.targets ≡ [] → NoneIsIn dense block p
none_is_in dense block p none k at same = none_in k (subst (λ l. Contains l k) none (in_filter (λ m. get_or dense m 0 == block) p.targets k at (eq-eqb (get_or dense k 0) block same)))

pub known_in : (dense : List ℕ) (block n : ℕ) (classes : List ℕ) → All (λ k. k < n) classes → All (λ k. k < n) (classes_in dense block classes)
known_in dense block n classes known = in_all (λ k. k < n) (classes_in dense block classes) (λ k at. all_in (λ k. k < n) classes known k (filter_member (λ m. get_or dense m 0 == block) classes k at).0)

pub empty_list : (xs : List ℕ) (n : ℕ) → n ≡ length xs → (n == 0) ≡ true → xs ≡ []
empty_list [] n e h = refl
empty_list (x ∷ xs) n e h = absurd (omega (arith, e, eqb-true n 0 h))

module _ {A V : Type 0} (eq : A → A → Bool) (holds : A → Label → Bool) (t : PlainTable A V) (dense : List ℕ) (block : ℕ) where
  pub no_rules : (all : List PlainParents) (rules : List (PlainRule A)) → rules ≡ [] → AreRulesFor eq holds t dense block (take 0 all) rules
  no_rules all rules is = record { sound = λ r at. absurd (none_in r (subst (λ l. Contains l r) is at)); complete = λ p at. absurd (none_in p at) }

  module _ (all : List PlainParents) (i : ℕ) (p : PlainParents) (low : i < length all) (at : p ≡ get_or all i p) (old : List (PlainRule A)) (are : AreRulesFor eq holds t dense block (take i all) old) where
    next : take (i + 1) all ≡ take i all ++ p ∷ []
    next = take_more all i p low ∙ ap (λ x. take i all ++ x ∷ []) (sym at)

    -- parents none of which is in the block have no rule
    pub pass_rule : NoneIsIn dense block p → AreRulesFor eq holds t dense block (take (i + 1) all) old
    pass_rule none = subst (λ l. AreRulesFor eq holds t dense block l old) (sym next) (record {
      sound = λ r at_r. (let (q, at_q, is) = are.sound r at_r in (q, Contains-append_left (take i all) (p ∷ []) q at_q, is));
      complete = λ q at_q k at_k same. elim (Contains-push_cases (take i all) p q at_q) [
        | inl before ↦ are.complete q before k at_k same
        | inr here ↦ absurd (none k (subst (λ z. Contains z.targets k) (sym here) at_k) same)
      ];
    })

    pub put_rule : (new : List (PlainRule A)) (r : PlainRule A) → IsRuleFor eq holds t dense block p r → new ≡ old ++ r ∷ [] → AreRulesFor eq holds t dense block (take (i + 1) all) new
    put_rule new r is put = subst (λ l. AreRulesFor eq holds t dense block l new) (sym next) (subst (AreRulesFor eq holds t dense block (take i all ++ p ∷ [])) (sym put) (record {
      sound = λ s at_s. elim (Contains-push_cases old r s at_s) [
        | inl before ↦ (let (q, at_q, of_q) = are.sound s before in (q, Contains-append_left (take i all) (p ∷ []) q at_q, of_q))
        | inr here ↦ (p, Contains-push (take i all) p, subst (IsRuleFor eq holds t dense block p) here is)
      ];
      complete = λ q at_q k at_k same. elim (Contains-push_cases (take i all) p q at_q) [
        | inl before ↦ (let (s, at_s, of_s) = are.complete q before k at_k same in (s, Contains-append_left old (r ∷ []) s at_s, of_s))
        | inr here ↦ (r, Contains-push old r, subst (λ z. IsRuleFor eq holds t dense block z r) here is)
      ];
    }))

    -- the rule that is made, if one is
    pub made_rule : (made : Option (StaRule A)) → MatchOption made (NoneIsIn dense block p) (λ r. IsRuleFor eq holds t dense block p (plain_rule r)) → (those new : List (StaRule A)) → old ≡ map plain_rule those → MatchOption made (new ≡ those) (λ r. new ≡ those ++ r ∷ [])
        → AreRulesFor eq holds t dense block (take (i + 1) all) (map plain_rule new)
    made_rule None none those new is same = subst (AreRulesFor eq holds t dense block (take (i + 1) all)) (is ∙ sym (ap (map plain_rule) same)) (pass_rule none)
    made_rule (Some r) rule those new is put = put_rule (map plain_rule new) (plain_rule r) rule (ap (map plain_rule) put ∙ map-append plain_rule those (r ∷ []) ∙ ap (λ l. l ++ plain_rule r ∷ []) (sym is))

-- Names that are no definitions mean what their rules say; and where no rule demands a definition, a test tells it.
use Rattle.std.proofs.Common.{◌≡◌, ◌↔◌, inl, inr, ℕ, suc, Bool, true, false, not, ◌&&◌, ◌||◌, cond, List, [], ◌∷◌, Some, None, Contains, refl, sym, subst, arith}
use Rattle.std.proofs.lemmas.Bool.{and_parts, and_from, or_right}
use Rattle.std.specs.List.{list_any, list_all}
use Rattle.model_tree.specs.Label.{Label}
use Rattle.model_tree.specs.Tree.{node, Trees, no_trees, tree, LabelTree}
use Rattle.model_tree.specs.Signature.{PlainSignature}
use Rattle.model_program.specs.Syntax.{Name, Demand}
use Rattle.model_grammar.specs.Syntax.{Out, child, call, Outs, no_out, and_out, named, Rule, OutRule, Item}
use Rattle.model_grammar.specs.Syntax as syntax
use Rattle.model_names.specs.Declared.{same_text, rules_of, out_rules_of}
use Rattle.model_meaning.specs.Types.{input_of, output_of}
use Rattle.model_meaning.specs.Languages.{heads, is_in, are_in, applies}
use Rattle.model_meaning.specs.Outputs.{Use, unchanged, output_by, IsInstance, AreInstances}
use Rattle.model_meaning.specs.Reached.{definition_of}
use Rattle.model_meaning.specs.Names.{Definitions, If, IsIn, AreIn, AppliesBy, Gives, ChildGives}
use Rattle.model_meaning.specs.Meaning.{meaning, IsInLanguage, IsRelated, Applies}
use Rattle.model_meaning.specs.Laws.{AreDemanded, child_named, IsUse, AreByRules, DemandNoDefinition, TestsAgreeWithMeaning}
use Rattle.model_meaning.proofs.Members.{one_of, none_of}

-- ---- instances over two oracles that agree

module _ (from into : PlainSignature) (O P : Use → List ℕ → LabelTree → Type 0) (l : Label) (all : (how : Use) (y : List ℕ) (v : LabelTree) → O how y v → P how y v) where
  mutual
    instance_of : (out : Out) (u : LabelTree) → IsInstance from into O l out u → IsInstance from into P l out u
    instance_of (child y) u h = all unchanged y.text u h
    instance_of (call q y) u h = all (output_by q.text) y.text u h
    instance_of (syntax.node name labels outs) (node c m us) h = (h.0, h.1, instances_of outs us h.2)

    instances_of : (outs : Outs) (us : Trees Label) → AreInstances from into O l outs us → AreInstances from into P l outs us
    instances_of no_out no_trees h = h
    instances_of no_out (tree u us) h = h
    instances_of (and_out out outs) no_trees h = h
    instances_of (and_out out outs) (tree u us) h = (instance_of out u h.0, instances_of outs us h.1)

-- ---- rules

module _ (items : List Item) where
  demanded : (ts : Trees Label) (vars : List Name) (given : List Demand) → AreIn items (meaning items) ts vars given ↔ AreDemanded items ts vars given
  demanded no_trees vars given = (λ h. h, λ h. h)
  demanded (tree t ts) [] given = (λ h. h, λ h. h)
  demanded (tree t ts) (v ∷ vars) given = (λ h. (h.0, (demanded ts vars given).0 h.1), λ h. (h.0, (demanded ts vars given).1 h.1))

  use_of : (how : Use) (t u : LabelTree) → Gives items (meaning items) how t u ↔ IsUse items how t u
  use_of unchanged (node c l ts) u = (λ h. h, λ h. h)
  use_of (output_by q) t u = (λ h. h, λ h. h)

  child_gives : (how : Use) (y : List ℕ) (vars : List Name) (ts : Trees Label) (u : LabelTree) → ChildGives items (meaning items) how y vars ts u ↔ ((t : LabelTree) × (child_named items y vars ts ≡ Some t) × IsUse items how t u)
  child_gives how y vars no_trees u = (λ h. absurd h, λ h. absurd (none_is h.1))
    where
      none_is : {t : LabelTree} → None ≡ Some t → ⊥
      none_is e = cc
  child_gives how y [] (tree t ts) u = (λ h. absurd h, λ h. absurd (none_is h.1))
    where
      none_is : {t : LabelTree} → None ≡ Some t → ⊥
      none_is e = cc
  child_gives how y (v ∷ vars) (tree t ts) u = by (same_text v.text y) (child_gives how y vars ts u)
    where
      one : {s : LabelTree} → Some t ≡ Some s → t ≡ s
      one e = cc

      by : (b : Bool) → (ChildGives items (meaning items) how y vars ts u ↔ ((s : LabelTree) × (child_named items y vars ts ≡ Some s) × IsUse items how s u))
          → If b (Gives items (meaning items) how t u) (ChildGives items (meaning items) how y vars ts u) ↔ ((s : LabelTree) × (cond b (Some t) (child_named items y vars ts) ≡ Some s) × IsUse items how s u)
      by true later = (λ h. (t, refl, (use_of how t u).0 h), λ h. subst (λ s. Gives items (meaning items) how s u) (sym (one h.1)) ((use_of how h.0 u).1 h.2))
      by false later = later

  by_rule : (n : Name) → definition_of items n.text ≡ None → (t : LabelTree) → IsInLanguage items (named n) t ↔ ((r : Rule) × Contains (rules_of items n.text) r × Applies items (input_of items n.text) r t)
  by_rule n none (node c l ts) = let e = none in rw e (λ h. (h.0, h.1, (h.2, h.3)), λ h. (h.0, h.1, h.2.0, h.2.1))

  by_output_rule : (n : Name) → definition_of items n.text ≡ None → (c : ℕ) (l : Label) (ts : Trees Label) (u : LabelTree)
      → IsRelated items (named n) (node c l ts) u
      ↔ ((r : OutRule) × Contains (out_rules_of items n.text) r × Applies items (input_of items n.text) r.rule (node c l ts)
      × IsInstance (input_of items n.text) (output_of items n.text) (λ how y v. (t : LabelTree) × (child_named items y r.rule.vars ts ≡ Some t) × IsUse items how t v) l r.out u)
  by_output_rule n none c l ts u =
      let e = none in rw e (
        λ h. (h.0, h.1, h.2, instance_of (input_of items n.text) (output_of items n.text) _ _ l (λ how y v. (child_gives how y h.0.rule.vars ts v).0) h.0.out u h.3),
        λ h. (h.0, h.1, h.2, instance_of (input_of items n.text) (output_of items n.text) _ _ l (λ how y v. (child_gives how y h.0.rule.vars ts v).1) h.0.out u h.3),
      )

  pub by_rules : AreByRules items
  by_rules = record {
    applies = λ signature r c l ts. (λ h. (h.0, (demanded ts r.vars r.given).0 h.1), λ h. (h.0, (demanded ts r.vars r.given).1 h.1));
    by_rules = by_rule;
    by_output_rules = by_output_rule;
  }

-- ---- tests

one_passes : {A : Type 0} (p : A → Bool) (xs : List A) → list_any p xs ≡ true → (x : A) × Contains xs x × (p x ≡ true)
one_passes p [] e = absurd (cc)
one_passes p (x ∷ xs) e = by (p x) refl e (one_passes p xs)
  where
    by : (b : Bool) → p x ≡ b → (b || list_any p xs) ≡ true → (list_any p xs ≡ true → (y : _) × Contains xs y × (p y ≡ true)) → (y : _) × Contains (x ∷ xs) y × (p y ≡ true)
    by true is any later = (x, (0, omega arith, refl), is)
    by false is any later = let y = later any in (y.0, (suc y.1.0, omega (arith, y.1.1), y.1.2), y.2)

passes_one : {A : Type 0} (p : A → Bool) (xs : List A) (x : A) → Contains xs x → p x ≡ true → list_any p xs ≡ true
passes_one p [] x at e = absurd (none_of x at)
passes_one p (y ∷ ys) x at e =
    elim (one_of y x ys at) [
      | inl same ↦ (let first : p y ≡ true = subst (λ z. p z ≡ true) (sym same) e in rw first refl)
      | inr later ↦ or_right (p y) (list_any p ys) (passes_one p ys x later e)
    ]

pub each_passes : {A : Type 0} (p : A → Bool) (xs : List A) (x : A) → list_all p xs ≡ true → Contains xs x → p x ≡ true
each_passes p [] x all at = absurd (none_of x at)
each_passes p (y ∷ ys) x all at =
    let two = and_parts (p y) (list_all p ys) all in
    elim (one_of y x ys at) [ inl same ↦ subst (λ z. p z ≡ true) same two.0 | inr later ↦ each_passes p ys x two.1 later ]

pub all_pass : {A : Type 0} (p : A → Bool) (xs : List A) → ((x : A) → Contains xs x → p x ≡ true) → list_all p xs ≡ true
all_pass p [] each = refl
all_pass p (y ∷ ys) each =
    let first = each y (0, omega arith, refl) in
    let rest = all_pass p ys (λ x at. each x (suc at.0, omega (arith, at.1), at.2)) in
    rw first rest

module _ (items : List Item) (D : Definitions) (rules : DemandNoDefinition items) where
  abbrev Plain : List Demand → Type 0
  Plain given = (d : Demand) → Contains given d → definition_of items d.language.text ≡ None

  if_demanded : (a b : Bool) → (not a || b) ≡ true → a ≡ true → b ≡ true
  if_demanded true b e same = e
  if_demanded false b e same = absurd (cc)

  where_demanded : (a b : Bool) → (a ≡ true → b ≡ true) → (not a || b) ≡ true
  where_demanded true b f = f refl
  where_demanded false b f = refl

  mutual
    in_test : (t : LabelTree) (n : List ℕ) → definition_of items n ≡ None → IsIn items D n t ↔ is_in items t n ≡ true
    in_test (node c l ts) n none =
        let e = none in rw e (
          λ h. passes_one (λ r. heads (input_of items n) r c l && are_in items ts r.vars r.given) (rules_of items n) h.0 h.1
              (and_from (heads (input_of items n) h.0 c l) (are_in items ts h.0.vars h.0.given) h.2 ((are_test ts h.0.vars h.0.given (λ d at. rules.in_languages n h.0 d h.1 at)).0 h.3)),
          λ h. (let r = one_passes (λ r. heads (input_of items n) r c l && are_in items ts r.vars r.given) (rules_of items n) h in
              let two = and_parts (heads (input_of items n) r.0 c l) (are_in items ts r.0.vars r.0.given) r.2 in
              (r.0, r.1, two.0, (are_test ts r.0.vars r.0.given (λ d at. rules.in_languages n r.0 d r.1 at)).1 two.1)),
        )

    are_test : (ts : Trees Label) (vars : List Name) (given : List Demand) → Plain given → AreIn items D ts vars given ↔ are_in items ts vars given ≡ true
    are_test no_trees vars given plain = (λ h. refl, λ h. tt)
    are_test (tree t ts) [] given plain = (λ h. refl, λ h. tt)
    are_test (tree t ts) (v ∷ vars) given plain = (
      λ h. and_from (list_all (λ d. not (same_text d.child.text v.text) || is_in items t d.language.text) given) (are_in items ts vars given)
          (all_pass (λ d. not (same_text d.child.text v.text) || is_in items t d.language.text) given (λ d at. (
          where_demanded (same_text d.child.text v.text) (is_in items t d.language.text) (λ same. (in_test t d.language.text (plain d at)).0 (h.0 d at same)))))
          ((are_test ts vars given plain).0 h.1),
      λ h. (let two = and_parts (list_all (λ d. not (same_text d.child.text v.text) || is_in items t d.language.text) given) (are_in items ts vars given) h in (
        λ d at same. (in_test t d.language.text (plain d at)).1 (if_demanded (same_text d.child.text v.text) (is_in items t d.language.text) (each_passes (λ d. not (same_text d.child.text v.text) || is_in items t d.language.text) given d two.0 at) same),
        (are_test ts vars given plain).1 two.1,
      )),
    )

  rule_test : (signature : PlainSignature) (r : Rule) → Plain r.given → (t : LabelTree) → AppliesBy items D signature r t ↔ applies items signature r t ≡ true
  rule_test signature r plain (node c l ts) = (
    λ h. and_from (heads signature r c l) (are_in items ts r.vars r.given) h.0 ((are_test ts r.vars r.given plain).0 h.1),
    λ h. (let two = and_parts (heads signature r c l) (are_in items ts r.vars r.given) h in (two.0, (are_test ts r.vars r.given plain).1 two.1)),
  )

pub tests_agree : TestsAgreeWithMeaning
tests_agree items rules = record {
  is_in = λ n none t. in_test items (meaning items) rules t n.text none;
  applies = rule_test items (meaning items) rules;
}

-- What no legal report has.
use Rattle.std.proofs.Common.{◌≡◌, ◌<◌, ◌⊎◌, ℕ, ℤ, zero, suc, pos, Bool, true, false, cond, List, [], ◌∷◌, Option, Some, None, All, Contains, inl, inr, codes, length, get_or, refl, sym, ap, ◌∙◌, subst, arith}
use Rattle.std.specs.Prelude.{slice_get}
use Rattle.std.specs.Option.{option_map_or, option_and_then, option_map}
use Rattle.model_tree.specs.Label.{text, row}
use Rattle.model_tree.specs.Tree.{LabelTree}
use Rattle.model_tree.specs.Tree as trees
use Rattle.model_tree.specs.Signature.{PlainSignature, PlainField}
use Rattle.model_program.specs.Syntax.{Name}
use Rattle.model_grammar.specs.declared.Op1.TheVariants.{Complement, Domain}
use Rattle.model_grammar.specs.declared.Op2.TheVariants.{PreImage, Compose}
use Rattle.model_grammar.specs.Syntax.{Expr, X, named, one, two, OutRule, Item}
use Rattle.model_form.specs.Form.{Form, form, no_remainders}
use Rattle.model_form.specs.Ranges.{IsCoefficient, IsOutside}
use Rattle.model_tree.specs.Range.{IsLabelNumber}
use Rattle.model_chain.specs.Literals.{Compare}
use Rattle.model_sta.specs.EachTwo.{EachTwo}
use Rattle.std.proofs.lemmas.List.Elements.{All-head}
use Rattle.model_names.specs.Declared.{same_text, find_type, own_out_rules, own_rules, out_rules_of, rules_of}
use Rattle.model_names.specs.Kinds.{language, own_kind, own_type, own_output, declared_type, kind_of}
use Rattle.model_meaning.specs.Values.{Printed}
use Rattle.model_meaning.specs.Programs.{here, name, x, trans_item}
use Rattle.model_meaning.proofs.Members.{one_of, none_of}
use Rattle.model_run.specs.Parts.{LanguagePart, LanguageParts, class, IsOn, IsFrom, AreTwoRules, IsPart, own_language, reached_language, two_rules, opened_language, language_of_operand, of_classes, all_sources, some_sources, one_class, AreClassesOf, AreApart}
use Rattle.model_run.specs.Seen.{AreLabelsIn, LabelList, listed, list_forms, fields_at, IsTest, of_language, of_transformation, AreLabels, IsLabelList, list_of_rule, list_opened, list_of_operand, list_of_both, IsCompare, IsCompareIn, compare_of_guard, compare_of_label, compare_opened, compare_of_operand, compare_put, IsFormIn, IsFormInList, IsFormOf, form_of_compare, form_of_list, form_opened, form_of_operand, put_in_compare, put_in_list}
use Rattle.model_run.specs.Printable.{IsPrintable}
use Rattle.model_run.specs.Causes.{more_classes, form_number, no_output, HasCause}
use Rattle.model_run.specs.Examples.{number_item, number_rule, product, z}
use Rattle.model_run.specs.Borders.{growing, back, back_body, single, same_body, leaf_alone, silencing, far_argument, mixed, mixed_complement, AreNotLegal}
use Rattle.model_run.proofs.Undefined.{DefineNothing, opens_nothing}
use Rattle.model_run.proofs.Uncomposed.{uncomposed, not_given, not_held}
use Rattle.model_run.proofs.Large.{each_output, together}

-- ---- forms of a pre-image

abbrev big_rule : OutRule
big_rule = number_rule product

no_definitions : DefineNothing growing
no_definitions = (refl, (refl, tt))

-- each rule of a transformation is this one, of one between N and N
record IsOurs (from : List ℕ) (r : OutRule) : Type 0 where
  type : codes "N" ≡ from
  rule : big_rule ≡ r

the_only : (k : Name) (from into : List ℕ) (r : OutRule) → IsFrom growing (named k) from into → Contains (out_rules_of growing k.text) r → IsOurs from r
the_only k from into r goes at = by (same_text (codes "big") k.text) goes.1 at
  where
    by : (b : Bool) → option_and_then (declared_type growing) (option_and_then (λ (item : Item). own_type item.body) (cond b (Some (number_item (codes "big") product)) None)) ≡ Some from
        → Contains (option_map_or (λ (item : Item). own_out_rules item.body) (cond b (Some (number_item (codes "big") product)) None) []) r → IsOurs from r
    by true type at = record { type = (let e : Some (codes "N") ≡ Some from = type in cc); rule = elim (one_of big_rule r [] at) [ inl same ↦ same | inr other ↦ absurd (none_of r other) ] }
    by false type at = absurd (none_of r at)

-- and none has a guard
no_guard : (k : List ℕ) (r : OutRule) (e : Expr) → Contains (out_rules_of growing k) r → r.rule.guard ≡ Some e → ⊥
no_guard k r e at guard = by (same_text (codes "big") k) at
  where
    by : (b : Bool) → Contains (option_map_or (λ (item : Item). own_out_rules item.body) (cond b (Some (number_item (codes "big") product)) None) []) r → ⊥
    by true at = elim (one_of big_rule r [] at) [ inl same ↦ (let bad : None ≡ Some e = ap (λ (s : OutRule). s.rule.guard) same ∙ guard in cc) | inr other ↦ absurd (none_of r other) ]
    by false at = absurd (none_of r at)

no_language : (k : List ℕ) (r : _) → Contains (rules_of growing k) r → ⊥
no_language k r at = by (same_text (codes "big") k) at
  where
    by : (b : Bool) → Contains (option_map_or (λ (item : Item). own_rules item.body) (cond b (Some (number_item (codes "big") product)) None) []) r → ⊥
    by true at = absurd (none_of r at)
    by false at = absurd (none_of r at)

no_test : (n : Name) (type : List ℕ) (e : Expr) → IsTest growing n type e → ⊥
no_test n type e (of_language _ k _ r _ reached on at is) = no_language k.text r at
no_test n type e (of_transformation _ k _ r _ reached on at is) = no_guard k.text r e at is

-- the labels of the one rule
the_labels : (n : Name) (from into : List ℕ) (labels : List Expr) → AreLabels growing n from into labels → (product ∷ [] ≡ labels) × (codes "N" ≡ from)
the_labels n from into labels are = by (the_only are.transformation from into are.rule are.goes are.there) are.stand
  where
    by : IsOurs from are.rule → AreLabelsIn are.rule.out labels → (product ∷ [] ≡ labels) × (codes "N" ≡ from)
    by ours stand = elim (subst (λ (r : OutRule). AreLabelsIn r.out labels) (sym ours.rule) stand) [ inl same ↦ (sym same, ours.type) | inr none ↦ absurd none ]

not_in_product : (fields : List PlainField) (c : Compare) → IsCompareIn fields product c → ⊥
not_in_product fields c (inl it) = it
not_in_product fields c (inr (inl it)) = it
not_in_product fields c (inr (inr it)) = it

no_compare : (e : X) (type : List ℕ) (c : Compare) → IsCompare growing e type c → ⊥
no_compare e type c (compare_of_guard n _ g _ test in_guard) = no_test n type g test
no_compare e type c (compare_of_label n _ into labels g _ are at in_label) = by (the_labels n type into labels are).0 at
  where
    by : product ∷ [] ≡ labels → Contains labels g → ⊥
    by same at = elim (one_of product g [] (subst (λ ls. Contains ls g) (sym same) at)) [
      | inl is ↦ not_in_product (fields_at growing type) c (subst (λ h. IsCompareIn (fields_at growing type) h c) (sym is) in_label)
      | inr other ↦ none_of g other
    ]
no_compare e type c (compare_opened n y _ _ opens is) = opens_nothing growing no_definitions n.text y opens
no_compare e type c (compare_of_operand _ y _ _ at is) = no_compare y type c is
no_compare e type c (compare_put _ y _ into m d put is) = no_compare y into d is

-- the form of the one label
abbrev big_form : Form
big_form = form (pos 0) (record { field = 0; coefficient = pos 2000000000 } ∷ []) no_remainders

abbrev IsBig : LabelList → Type 0
IsBig m = list_forms m ≡ big_form ∷ []

written_list : (n : Name) (from into : List ℕ) (labels : List Expr) → AreLabels growing n from into labels → IsBig (listed (fields_at growing from) (fields_at growing into) labels)
written_list n from into labels are =
    let same = the_labels n from into labels are in
    subst (λ ls. IsBig (listed (fields_at growing from) (fields_at growing into) ls)) same.0 (subst (λ f. IsBig (listed (fields_at growing f) (fields_at growing into) (product ∷ []))) same.1 refl)

big_lists : (from into : List ℕ) (m : LabelList) → IsLabelList growing (x (codes "big")) from into m → IsBig m
big_lists from into m (list_of_rule n _ _ labels are) = written_list n from into labels are
big_lists from into m (list_opened n y _ _ _ opens is) = absurd (opens_nothing growing no_definitions n.text y opens)
big_lists from into m (list_of_operand _ y _ _ _ at is) = absurd (none_of y at)

abbrev domain_of : X
domain_of = one Domain here (x (codes "big"))

domain_lists : (from into : List ℕ) (m : LabelList) → IsLabelList growing domain_of from into m → IsBig m
domain_lists from into m (list_of_operand _ y _ _ _ at is) =
    elim (one_of (x (codes "big")) y [] at) [ inl same ↦ big_lists from into m (subst (λ w. IsLabelList growing w from into m) (sym same) is) | inr other ↦ absurd (none_of y other) ]

back_lists : (from into : List ℕ) (m : LabelList) → IsLabelList growing back from into m → IsBig m
back_lists from into m (list_of_operand _ y _ _ _ at is) =
    elim (one_of (x (codes "big")) y (domain_of ∷ []) at) [
      | inl same ↦ big_lists from into m (subst (λ w. IsLabelList growing w from into m) (sym same) is)
      | inr later ↦ elim (one_of domain_of y [] later) [
        | inl same ↦ domain_lists from into m (subst (λ w. IsLabelList growing w from into m) (sym same) is)
        | inr other ↦ absurd (none_of y other)
      ]
    ]

of_list : (m : LabelList) (f : Form) → IsBig m → IsFormInList m f → f ≡ big_form
of_list m f big (g, at, within) = elim (one_of big_form g [] (subst (λ fs. Contains fs g) big at)) [
  | inl same ↦ by (subst (λ h. IsFormIn h f) (sym same) within)
  | inr other ↦ absurd (none_of g other)
]
  where
    by : IsFormIn big_form f → f ≡ big_form
    by (inl is) = is
    by (inr none) = absurd none

big_forms : (f : Form) → IsFormOf growing (x (codes "big")) f → f ≡ big_form
big_forms f (form_of_compare _ type c _ is within) = absurd (no_compare _ type c is)
big_forms f (form_of_list _ from into m _ is within) = of_list m f (big_lists from into m is) within
big_forms f (form_opened n y _ opens is) = absurd (opens_nothing growing no_definitions n.text y opens)
big_forms f (form_of_operand _ y _ at is) = absurd (none_of y at)
big_forms f (put_in_compare _ y type into m c g put is within) = absurd (no_compare y into c is)

domain_forms : (f : Form) → IsFormOf growing domain_of f → f ≡ big_form
domain_forms f (form_of_compare _ type c _ is within) = absurd (no_compare _ type c is)
domain_forms f (form_of_list _ from into m _ is within) = of_list m f (domain_lists from into m is) within
domain_forms f (form_of_operand _ y _ at is) =
    elim (one_of (x (codes "big")) y [] at) [ inl same ↦ big_forms f (subst (λ w. IsFormOf growing w f) (sym same) is) | inr other ↦ absurd (none_of y other) ]
domain_forms f (put_in_compare _ y type into m c g put is within) = absurd (no_compare y into c is)

back_forms : (f : Form) → IsFormOf growing back f → f ≡ big_form
back_forms f (form_of_compare _ type c _ is within) = absurd (no_compare _ type c is)
back_forms f (form_of_list _ from into m _ is within) = of_list m f (back_lists from into m is) within
back_forms f (form_of_operand _ y _ at is) =
    elim (one_of (x (codes "big")) y (domain_of ∷ []) at) [
      | inl same ↦ big_forms f (subst (λ w. IsFormOf growing w f) (sym same) is)
      | inr later ↦ elim (one_of domain_of y [] later) [
        | inl same ↦ domain_forms f (subst (λ w. IsFormOf growing w f) (sym same) is)
        | inr other ↦ absurd (none_of y other)
      ]
    ]
back_forms f (put_in_compare _ y type into m c g put is within) = absurd (no_compare y into c is)

in_range : (n : ℤ) → IsOutside big_form n → ⊥
in_range n (inl (is, far)) = far (subst IsLabelNumber (sym is) (omega arith))
in_range n (inr (inl (inl is), far)) = far (subst IsCoefficient (sym is) (omega arith))
in_range n (inr (inl (inr none), far)) = none
in_range n (inr (inr none, far)) = none

no_put : (limit : ℕ) (printed : List Printed) (n : ℤ) → ¬ (HasCause growing limit printed back_body (form_number n))
no_put limit printed n (e, at, f, is, out) = elim (one_of back e [] at) [
  | inl same ↦ in_range n (subst (λ g. IsOutside g n) (back_forms f (subst (λ w. IsFormOf growing w f) (sym same) is)) out)
  | inr other ↦ none_of e other
]

-- ---- a transformation of one rule

single_defines_nothing : DefineNothing single
single_defines_nothing = (refl, (refl, tt))

abbrev only_item : Item
only_item = trans_item (codes "only") (leaf_alone ∷ [])

no_kind : (m : Name) → kind_of single (named m) ≡ Some language → ⊥
no_kind m e = by (same_text (codes "only") m.text) e
  where
    by : (b : Bool) → option_and_then (λ (item : Item). own_kind item.body) (cond b (Some only_item) None) ≡ Some language → ⊥
    by true e = cc
    by false e = cc

-- a list of one rule, or of none, has no two
no_second : (i j : ℕ) (r : OutRule) (b : Bool) → i < j → slice_get (option_map_or (λ (item : Item). own_out_rules item.body) (cond b (Some only_item) None) []) j ≡ Some r → ⊥
no_second i zero r b low e = omega (arith, low)
no_second i (suc j) r true low e = cc
no_second i (suc j) r false low e = cc

no_part : (type : List ℕ) (d : LanguagePart) → IsPart single (x (codes "only")) type d → ⊥
no_part type d (own_language _ _ on) = let e : kind_of single (x (codes "only")) ≡ Some language = on.0 in cc
no_part type d (reached_language _ m _ reached on) = no_kind m on.0
no_part type d (two_rules _ m _ into r s reached goes pair) = no_second pair.first pair.second s (same_text (codes "only") m.text) pair.in_order pair.is_second
no_part type d (opened_language n y _ _ opens is) = opens_nothing single single_defines_nothing n.text y opens
no_part type d (language_of_operand _ y _ _ at is) = none_of y at
no_part type d (of_classes _ _ _ joins on are) = cc
no_part type d (some_sources _ y w _ into r ds looks from are) = looks

no_two : (type : List ℕ) (ts : List LabelTree) → 1 < length ts → EachTwo (AreApart single (x (codes "only") ∷ []) type) ts → ⊥
no_two type [] more apart = omega (arith, more)
no_two type (s ∷ []) more apart = omega (arith, more)
no_two type (s ∷ u ∷ ts) more apart = by (All-head (AreApart single (x (codes "only") ∷ []) type s) u ts apart.0)
  where
    by : AreApart single (x (codes "only") ∷ []) type s u → ⊥
    by (e, at, d, part, told) = elim (one_of (x (codes "only")) e [] at) [
      | inl same ↦ no_part type d (subst (λ w. IsPart single w type d) (sym same) part)
      | inr other ↦ none_of e other
    ]

one_rule : (printed : List Printed) → ¬ (HasCause single 1 printed same_body (more_classes 1))
one_rule printed (limit, tells, more) = no_two more.type more.trees more.more more.apart

-- ---- trees that can't be shown

no_scalar : ¬ (IsPrintable (trees.node 0 (row (text (55296 ∷ []) ∷ [])) trees.no_trees))
no_scalar printable = let bad : false ≡ true = printable.scalars in cc

far_input : (limit : ℕ) (printed : List Printed) (signature : PlainSignature) → ¬ (HasCause silencing limit printed far_argument (no_output signature (z 9223372036854775808)))
far_input limit printed signature (inl (t, value, cause)) = let bad : false ≡ true = cause.3.kept in cc
far_input limit printed signature (inr (inl none)) = none
far_input limit printed signature (inr (inr none)) = none

-- ---- classes on another type

mixed_defines_nothing : DefineNothing mixed
mixed_defines_nothing = (refl, (refl, (refl, (refl, tt))))

abbrev mixed_back : X
mixed_back = two PreImage here (x (codes "f")) (x (codes "l"))

module _ (ds es : LanguageParts) where
  of_name : (n : Name) (type : List ℕ) → IsPart mixed (named n) type (class ds es) → ⊥
  of_name n type (opened_language _ y _ _ opens is) = opens_nothing mixed mixed_defines_nothing n.text y opens
  of_name n type (language_of_operand _ y _ _ at is) = none_of y at
  of_name n type (of_classes _ _ _ joins on are) = cc

  of_back : (type : List ℕ) → IsPart mixed mixed_back type (class ds es) → ⊥
  of_back type (language_of_operand _ y _ _ at is) =
      elim (one_of (x (codes "f")) y (x (codes "l") ∷ []) at) [
        | inl same ↦ of_name (name (codes "f")) type (subst (λ w. IsPart mixed w type (class ds es)) (sym same) is)
        | inr later ↦ elim (one_of (x (codes "l")) y [] later) [
          | inl same ↦ of_name (name (codes "l")) type (subst (λ w. IsPart mixed w type (class ds es)) (sym same) is)
          | inr other ↦ none_of y other
        ]
      ]
  of_back type (of_classes _ _ _ joins on are) = cc

  other_type : ¬ (IsPart mixed mixed_complement (codes "A") (class ds es))
  other_type (language_of_operand _ y _ _ at is) =
      elim (one_of mixed_back y [] at) [ inl same ↦ of_back (codes "A") (subst (λ w. IsPart mixed w (codes "A") (class ds es)) (sym same) is) | inr other ↦ none_of y other ]
  other_type (of_classes _ _ _ joins on are) = let bad : 66 ≡ 65 = ap (λ o. option_map_or (λ w. get_or w 0 0) o 0) on.1 in omega (arith, bad)

pub are_not_legal : AreNotLegal
are_not_legal = record {
  uncomposed = uncomposed;
  not_given = not_given;
  not_held = not_held;
  each_output = each_output;
  together = together;
  no_put = no_put;
  one_rule = one_rule;
  no_scalar = no_scalar;
  far_input = far_input;
  other_type = other_type;
}

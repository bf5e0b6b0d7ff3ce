-- Items of which a refusal is owed, and items of which it isn't.
use Rattle.std.proofs.Common.{◌≡◌, ℕ, zero, suc, ℤ, pos, Bool, true, false, cond, List, [], ◌∷◌, Some, None, All, Contains, inl, inr, codes, refl, sym, ap, ◌∙◌, subst, arith}
use Rattle.std.specs.Prelude.{slice_get}
use Rattle.std.specs.Option.{option_map_or}
use Rattle.std.proofs.lemmas.List.Elements.{All-head, All-tail}
use Rattle.fast_fault.specs.declared.code.Code.TheVariants.{LabelRange, NotComposable, EmptyLanguage, OutputCount, Outputs, TreeSize}
use Rattle.model_tree.specs.Label.{Label, whole, row}
use Rattle.model_tree.specs.Tree.{node, Trees, no_trees, tree, LabelTree, label_of, node_count, depth}
use Rattle.model_tree.specs.Signature.{PlainSignature, names_of}
use Rattle.model_tree.specs.Kept.{is_kept_field}
use Rattle.model_program.specs.Syntax.{Name}
use Rattle.model_grammar.specs.Syntax.{X, named, number, literal, no_x, OutRule, Item}
use Rattle.model_sta.specs.EachTwo.{EachTwo}
use Rattle.model_names.specs.Declared.{same_text, own_out_rules}
use Rattle.model_meaning.specs.Types.{input_of, output_of}
use Rattle.model_meaning.specs.Outputs.{number_named, IsInstance}
use Rattle.model_meaning.specs.Names.{ChildGives}
use Rattle.model_meaning.specs.Meaning.{meaning, IsRelated, IsTreeOf, input_type}
use Rattle.model_meaning.specs.Values.{IsValue}
use Rattle.model_meaning.specs.Programs.{here, name, x, t, to, rule, make}
use Rattle.model_meaning.specs.Related.{looking, demanding}
use Rattle.model_meaning.proofs.Related.{one_rule}
use Rattle.model_meaning.proofs.Members.{one_of, none_of}
use Rattle.model_sta.specs.Loads.{Load, outputs, nodes, depths, IsTooMuch}
use Rattle.model_run.specs.Loads.{IsNumberOf, IsFarNumberOf}
use Rattle.model_run.specs.Plain.{NamesTwice, IsLinear, Copies}
use Rattle.model_run.specs.Causes.{HasFarOutput}
use Rattle.model_run.specs.Owed.{IsOwedAt, IsOwed, HasNotOneOutput}
use Rattle.model_run.specs.Examples.{adding, multiplying, square_body, copying_items, both_body, pick_and_copy, number_rule, number_item, product, sum, z}
use Rattle.model_run.specs.Borders.{deep}
use Rattle.model_run.specs.OwedExamples.{increased, applied, witness, nested_term, deepening, AreOwed}
use Rattle.model_run.proofs.Laws.{one_reached, shown_are_not_composable}
use Rattle.model_run.proofs.Told.{not_both}
use Rattle.model_run.proofs.Composed.{none_composed}
use Rattle.model_run.proofs.Shown.{no_output_of_b, have_causes}
use Rattle.model_run.proofs.Ordered.{before_none}
use Rattle.model_run.proofs.Towers.{all_large}

-- ---- the values of literals, and the outputs of inc

-- `(z [..])` has one value
z_value : (n : ℕ) (u : LabelTree) → IsValue adding [] (input_type adding (x (codes "inc"))) (literal (name (codes "z")) (number here (pos n) ∷ []) no_x) u → u ≡ z n
z_value n (node c l no_trees) (own_name, label, none) = let same : c ≡ 0 = cc in λ i. node (same i) (label i) no_trees
z_value n (node c l (tree v vs)) (own_name, label, none) = absurd none

z_is : (n : ℕ) → IsValue adding [] (input_type adding (x (codes "inc"))) (literal (name (codes "z")) (number here (pos n) ∷ []) no_x) (z n)
z_is n = (refl, refl, tt)

-- inc makes 1 of 0
inc_of_zero : (u : LabelTree) → IsRelated adding (x (codes "inc")) (z 0) u → u ≡ z 1
inc_of_zero (node d m us) (r, at, applies, made) = by us (one_rule adding (meaning adding) (codes "inc") 0 (row (whole (pos 0) ∷ [])) no_trees (node d m us) r (number_rule sum) at (applies, made)).1
  where
    by : (us : Trees Label)
        → IsInstance (input_of adding (codes "inc")) (output_of adding (codes "inc")) (λ how y v. ChildGives adding (meaning adding) how y [] no_trees v) (row (whole (pos 0) ∷ [])) (number_rule sum).out (node d m us)
        → node d m us ≡ z 1
    by no_trees (own_name, label, none) = let same : d ≡ 0 = cc in λ i. node (same i) (label i) no_trees
    by (tree v vs) (own_name, label, none) = absurd none

zero_related : IsRelated adding (x (codes "inc")) (z 0) (z 1)
zero_related = (number_rule sum, (0, omega arith, refl), (refl, tt), (refl, refl, tt))

-- ---- numbers of outputs

far : IsOwed adding [] (increased 9223372036854775807) LabelRange
far = inl (
  (z 9223372036854775807, z_is 9223372036854775807),
  λ u value.
      (pos 9223372036854775808, subst (HasFarOutput adding (pos 9223372036854775808) (x (codes "inc"))) (sym (z_value 9223372036854775807 u value)) have_causes.label_range),
)

number_one : (k : ℤ) → IsFarNumberOf k (z 1) → ⊥
number_one k (is_far, (c, l, ts, inl part, held)) =
    elim (one_of (whole (pos 1)) (whole k) [] (subst (IsNumberOf k) (ap label_of part) held)) [
      | inl same ↦ (let bad : true ≡ false = ap is_kept_field same ∙ is_far in cc)
      | inr other ↦ none_of (whole k) other
    ]
number_one k (is_far, (c, l, ts, inr none, held)) = none

near : ¬ (IsOwed adding [] (increased 0) LabelRange)
near (inl each) = let asked = each.1 (z 0) (z_is 0) in number_one asked.0 (subst (IsFarNumberOf asked.0) (inc_of_zero asked.1.0 asked.1.1) asked.1.2)
near (inr (inl none)) = none
near (inr (inr none)) = none

-- ---- compositions

no_twice : (q : List ℕ) (i : ℕ) (r : OutRule) → Copies multiplying q i r → ⊥
no_twice q i r (at, (v, twice)) = by (same_text (codes "big") q) (same_text (codes "sq") q) i at
  where
    by : (b c : Bool) (i : ℕ)
        → slice_get (option_map_or (λ (item : Item). own_out_rules item.body) (cond b (Some (number_item (codes "big") product)) (cond c (Some (record { place = here; body = square_body })) None)) []) i ≡ Some r → ⊥
    by true c zero at = let same : number_rule product ≡ r = cc in subst (λ (s : OutRule). NamesTwice s.out v) (sym same) twice
    by true c (suc i) at = cc
    by false true i at = cc
    by false false i at = cc

all_linear : (y : X) → IsLinear multiplying y
all_linear y some = let one = one_reached multiplying (λ q. (i : ℕ) × (r : OutRule) × Copies multiplying q i r) y some in no_twice one.0 one.1.0 one.1.1 one.1.2

linear : ¬ (IsOwed multiplying [] square_body NotComposable)
linear (a, b, composed, not_plain, not_linear) = not_linear (all_linear b)

-- ---- witnesses

pa_tree : IsTreeOf demanding (x (codes "pa")) (t 0 [])
pa_tree = record { typed = (omega arith, refl, refl, tt); inside = (rule (codes "a") [] [], (0, omega arith, refl), refl, tt) }

found : ¬ (IsOwed demanding [] (witness (codes "pa")) EmptyLanguage)
found none = none (t 0 []) pa_tree

witness_names : (e : X) → Contains (x (codes "pa") ∷ []) e → (n : Name) × (e ≡ named n)
witness_names e at = elim (one_of (x (codes "pa")) e [] at) [ inl same ↦ (name (codes "pa"), sym same) | inr other ↦ absurd (none_of e other) ]

small : ¬ (IsOwed demanding [] (witness (codes "pa")) TreeSize)
small (inl all) = let much = all.large (t 0 []) pa_tree in omega (arith, much)
small (inr (inl none)) = none
small (inr (inr meetings)) = none_composed demanding (witness (codes "pa")) witness_names meetings.first meetings.second meetings.composed

-- ---- how many outputs

-- a literal without labels and children has one value
leaf_value : (items : List Item) (signature : PlainSignature) (leaf : List ℕ) (k : ℕ) → number_named (names_of signature) leaf ≡ Some k → (u : LabelTree) → IsValue items [] signature (literal (name leaf) [] no_x) u → u ≡ t k []
leaf_value items signature leaf k is (node c l no_trees) (own_name, label, none) = let same : c ≡ k = cc in λ i. node (same i) (label i) no_trees
leaf_value items signature leaf k is (node c l (tree v vs)) (own_name, label, none) = absurd none

two_of_a : HasNotOneOutput looking (x (codes "p")) (t 0 [])
two_of_a = inr (
  t 0 [],
  t 1 [],
  (
    (to (rule (codes "a") [] []) (make (codes "a") []), (0, omega arith, refl), (refl, tt), (refl, refl, tt)),
    (to (rule (codes "a") [] []) (make (codes "b") []), (1, omega arith, refl), (refl, tt), (refl, refl, tt)),
    refl,
  ),
)

two_outputs : IsOwed looking [] (applied (codes "p") (codes "a")) OutputCount
two_outputs = inl ((t 0 [], (refl, refl, tt)), λ u value. subst (HasNotOneOutput looking (x (codes "p"))) (sym (leaf_value looking (input_type looking (x (codes "p"))) (codes "a") 0 refl u value)) two_of_a)

none_of_b : HasNotOneOutput looking (x (codes "p")) (t 1 [])
none_of_b = inl no_output_of_b

no_output : IsOwed looking [] (applied (codes "p") (codes "b")) OutputCount
no_output = inl ((t 1 [], (refl, refl, tt)), λ u value. subst (HasNotOneOutput looking (x (codes "p"))) (sym (leaf_value looking (input_type looking (x (codes "p"))) (codes "b") 1 refl u value)) none_of_b)

one_output : ¬ (IsOwed adding [] (increased 0) OutputCount)
one_output (inl each) = by (each.1 (z 0) (z_is 0))
  where
    by : HasNotOneOutput adding (x (codes "inc")) (z 0) → ⊥
    by (inl none) = none (z 1) zero_related
    by (inr (u, w, two)) = before_none u w two.2 (inc_of_zero u two.0 ∙ sym (inc_of_zero w two.1))
one_output (inr (inl none)) = none
one_output (inr (inr none)) = none

-- ---- how much outputs are

depth_is : (n : ℕ) → depth (deep n) ≡ suc n
unfolding deep
depth_is zero = refl
depth_is (suc n) = let e = depth_is n in grind (arith, e)

nested_gives : (n : ℕ)
    → IsInstance (input_of deepening (codes "grow")) (output_of deepening (codes "grow")) (λ how y v. ChildGives deepening (meaning deepening) how y [] no_trees v) (row []) (nested_term n) (deep n)
unfolding deep nested_term
nested_gives zero = (refl, refl, tt)
nested_gives (suc n) = (refl, refl, (nested_gives n, tt))

deep_related : IsRelated deepening (x (codes "grow")) (t 0 []) (deep 2000)
deep_related = (to (rule (codes "a") [] []) (nested_term 2000), (0, omega arith, refl), (refl, tt), nested_gives 2000)

too_deep : IsOwedAt deepening Outputs (x (codes "grow")) (t 0 [])
too_deep = (depths, (deep 2000, deep_related, (let e = depth_is 2000 in omega (arith, e))))

deep_output : IsOwed deepening [] (applied (codes "grow") (codes "a")) Outputs
deep_output = inl ((t 0 [], (refl, refl, tt)), λ u value. subst (IsOwedAt deepening Outputs (x (codes "grow"))) (sym (leaf_value deepening (input_type deepening (x (codes "grow"))) (codes "a") 0 refl u value)) too_deep)

abbrev FromZero : LabelTree → Type 0
FromZero = IsRelated adding (x (codes "inc")) (z 0)

-- two of them are one tree
not_two : (u w : LabelTree) (us : List LabelTree) → All FromZero (u ∷ w ∷ us) → EachTwo (λ s v. ¬ (s ≡ v)) (u ∷ w ∷ us) → ⊥
not_two u w us all differ =
    All-head (λ v. ¬ (u ≡ v)) w us differ.0 (inc_of_zero u (All-head FromZero u (w ∷ us) all) ∙ sym (inc_of_zero w (All-head FromZero w us (All-tail FromZero u (w ∷ us) all))))

not_much : (load : Load) → IsTooMuch load (IsRelated adding (x (codes "inc"))) (z 0) → ⊥
not_much outputs ([], all, differ, more) = omega (arith, more)
not_much outputs (u ∷ [], all, differ, more) = omega (arith, more)
not_much outputs (u ∷ w ∷ us, all, differ, more) = not_two u w us all differ
not_much nodes ([], all, differ, more) = omega (arith, more)
not_much nodes (u ∷ [], all, differ, more) = let one : node_count u ≡ 1 = ap node_count (inc_of_zero u (All-head FromZero u [] all)) in omega (arith, more, one)
not_much nodes (u ∷ w ∷ us, all, differ, more) = not_two u w us all differ
not_much depths (u, related, much) = let one : depth u ≡ 1 = ap depth (inc_of_zero u related) in omega (arith, much, one)

small_output : ¬ (IsOwed adding [] (increased 0) Outputs)
small_output (inl each) = let much = each.1 (z 0) (z_is 0) in not_much much.0 much.1
small_output (inr (inl none)) = none
small_output (inr (inr none)) = none

pub are_owed : AreOwed
are_owed = record {
  far = far;
  near = near;
  copied = shown_are_not_composable copying_items 1000 [] both_body pick_and_copy not_both;
  linear = linear;
  none_found = have_causes.language;
  found = found;
  two_outputs = two_outputs;
  no_output = no_output;
  one_output = one_output;
  deep_output = deep_output;
  small_output = small_output;
  large = inl all_large;
  small = small;
}

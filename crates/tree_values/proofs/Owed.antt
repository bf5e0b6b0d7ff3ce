-- No refusal is owed of a tree expression where each language that it finds a tree of has a least one within the limits, and each
-- transformation that it applies one output within the limits.
use Rattle.std.proofs.Common.{◌≡◌, ◌∙◌, inl, inr, ◌⊎◌, ℤ, true, false, List, [], ◌∷◌, All, sym, ap, subst, arith}
use Rattle.std.proofs.lemmas.Bool.{and_parts}
use Rattle.std.proofs.lemmas.List.Elements.{All-head, All-tail}
use Rattle.fast_fault.specs.declared.place.Pos.{Pos}
use Rattle.fast_fault.specs.declared.code.Code.{Code}
use Rattle.fast_fault.specs.declared.code.Code.TheVariants.{LabelRange, EmptyLanguage, OutputCount, Outputs, TreeSize}
use Rattle.model_tree.specs.Label.{Label, whole, row, pair}
use Rattle.model_tree.specs.Tree.{node, Trees, no_trees, tree, LabelTree, node_count, depth}
use Rattle.model_tree.specs.Kept.{is_kept_field, is_kept_label, is_kept, are_kept}
use Rattle.model_tree.specs.Signature.{PlainSignature}
use Rattle.model_program.specs.Syntax.{Name}
use Rattle.model_grammar.specs.declared.Op1.TheVariants.{GetWitness}
use Rattle.model_grammar.specs.declared.Op2.TheVariants.{Apply}
use Rattle.model_grammar.specs.Syntax.{Expr, X, named, one, two, literal, Xs, no_x, and_x, Item}
use Rattle.model_meaning.specs.Meaning.{IsRelated, input_type}
use Rattle.model_meaning.specs.Values.{Printed, IsValue, IsLeastOf, IsOnlyOutput}
use Rattle.model_meaning.proofs.Rules.{each_passes}
use Rattle.model_sta.specs.EachTwo.{AreDifferent}
use Rattle.model_sta.specs.Loads.{Load, outputs, nodes, depths, IsTooMuch, IsSubtree, IsSubtreeOfOne}
use Rattle.model_run.specs.Items.{OfSomeTree}
use Rattle.model_run.specs.Loads.{IsNumberOf, IsFarNumberOf}
use Rattle.model_run.specs.Causes.{HasFarOutput}
use Rattle.model_run.specs.Owed.{HasNotOneOutput}
use Rattle.model_run.proofs.Ordered.{before_none}
use Rattle.fast_eval.specs.Found.{IsInLimits}
use Rattle.tree_values.specs.Owed.{IsOwedFor, OwesNothing, OweNothing}

-- ---- a tree that is kept has no number outside 64 bits

number_kept : (n : ℤ) (l : Label) → IsNumberOf n l → is_kept_label l ≡ true → is_kept_field (whole n) ≡ true
number_kept n (row values) at kept = each_passes is_kept_field values (whole n) kept at
number_kept n (pair left right) (inl at) kept = number_kept n left at (and_parts (is_kept_label left) (is_kept_label right) kept).0
number_kept n (pair left right) (inr at) kept = number_kept n right at (and_parts (is_kept_label left) (is_kept_label right) kept).1

mutual
  part_kept : (s t : LabelTree) → IsSubtree s t → is_kept t ≡ true → is_kept s ≡ true
  part_kept s (node c l ts) (inl same) kept = ap is_kept same ∙ kept
  part_kept s (node c l ts) (inr part) kept = part_kept_in s ts part (and_parts (is_kept_label l) (are_kept ts) kept).1

  part_kept_in : (s : LabelTree) (ts : Trees Label) → IsSubtreeOfOne s ts → are_kept ts ≡ true → is_kept s ≡ true
  part_kept_in s no_trees part kept = absurd part
  part_kept_in s (tree t ts) (inl part) kept = part_kept s t part (and_parts (is_kept t) (are_kept ts) kept).0
  part_kept_in s (tree t ts) (inr part) kept = part_kept_in s ts part (and_parts (is_kept t) (are_kept ts) kept).1

not_far : (n : ℤ) (t : LabelTree) → is_kept t ≡ true → ¬ (IsFarNumberOf n t)
not_far n t kept (far, (c, l, ts, part, at)) =
    let near = number_kept n l at (and_parts (is_kept_label l) (are_kept ts) (part_kept (node c l ts) t part kept)).0 in
    let bad : true ≡ false = sym near ∙ far in
    cc

-- ---- one output within the limits is neither far nor too much

has_one : (items : List Item) (f : X) (t u : LabelTree) → IsOnlyOutput items f t u → ¬ (HasNotOneOutput items f t)
has_one items f t u only (inl none) = none u only.is
has_one items f t u only (inr (v, w, both)) = before_none v w both.2 (only.only v both.0 ∙ sym (only.only w both.1))

module _ (items : List Item) (f : X) (t u : LabelTree) (only : IsOnlyOutput items f t u) (limits : IsInLimits u) where
  no_far : (n : ℤ) → ¬ (HasFarOutput items n f t)
  no_far n (w, related, far) = not_far n u limits.kept (subst (IsFarNumberOf n) (only.only w related) far)

  abbrev IsOutput : LabelTree → Type 0
  IsOutput = IsRelated items f t

  -- two of them are one tree
  not_two : (v w : LabelTree) (us : List LabelTree) → All IsOutput (v ∷ w ∷ us) → ¬ (AreDifferent (v ∷ w ∷ us))
  not_two v w us all differ =
      All-head (λ s. ¬ (v ≡ s)) w us differ.0 (only.only v (All-head IsOutput v (w ∷ us) all) ∙ sym (only.only w (All-head IsOutput w us (All-tail IsOutput v (w ∷ us) all))))

  not_much : (load : Load) → ¬ (IsTooMuch load (IsRelated items f) t)
  not_much outputs ([], all, differ, more) = omega (arith, more)
  not_much outputs (v ∷ [], all, differ, more) = omega (arith, more)
  not_much outputs (v ∷ w ∷ us, all, differ, more) = not_two v w us all differ
  not_much nodes ([], all, differ, more) = omega (arith, more)
  not_much nodes (v ∷ [], all, differ, more) = let size = ap node_count (only.only v (All-head IsOutput v [] all)) in omega (arith, more, size, limits.small)
  not_much nodes (v ∷ w ∷ us, all, differ, more) = not_two v w us all differ
  not_much depths (v, related, much) = let deep = ap depth (only.only v related) in omega (arith, much, deep, limits.shallow)

-- ---- expressions

-- neither holds
neither : {A B : Type 0} → ¬ A → ¬ B → ¬ (A ⊎ B)
neither a b (inl x) = a x
neither a b (inr y) = b y

module _ (items : List Item) (printed : List Printed) (signature : PlainSignature) where
  pub name_owes : (n : Name) → OwesNothing items printed signature (named n)
  name_owes n = record { none = none }
    where
      none : (code : Code) → ¬ (OfSomeTree items (IsOwedFor items printed code) signature (named n))
      none LabelRange owed = owed
      none EmptyLanguage owed = owed
      none OutputCount owed = owed
      none Outputs owed = owed
      none TreeSize owed = owed
      none code owed = owed

  -- a language that has a least tree within the limits
  pub find_owes : (place : Pos) (x : X) (t : LabelTree) → IsLeastOf items x t → IsInLimits t → OwesNothing items printed signature (one GetWitness place x)
  find_owes place x t least limits = record { none = none }
    where
      none : (code : Code) → ¬ (OfSomeTree items (IsOwedFor items printed code) signature (one GetWitness place x))
      none LabelRange owed = owed
      none EmptyLanguage empty = empty t least.is
      none OutputCount owed = owed
      none Outputs owed = owed
      none TreeSize all = let large = all.large t least.is in omega (arith, large, limits.small)
      none code owed = owed

  -- a transformation that is applied to an expression with such a value
  pub application_owes : (place : Pos) (f x : X) (t u : LabelTree) → IsValue items printed (input_type items f) x t → OwesNothing items printed (input_type items f) x → IsOnlyOutput items f t u → IsInLimits u → OwesNothing items printed signature (two Apply place f x)
  application_owes place f x t u is inside only limits = record { none = none }
    where
      none : (code : Code) → ¬ (OfSomeTree items (IsOwedFor items printed code) signature (two Apply place f x))
      none LabelRange = neither (λ each. let own = each.1 t is in no_far items f t u only limits own.0 own.1) (inside.none LabelRange)
      none EmptyLanguage = neither (λ owed. owed) (inside.none EmptyLanguage)
      none OutputCount = neither (λ each. has_one items f t u only (each.1 t is)) (inside.none OutputCount)
      none Outputs = neither (λ each. let own = each.1 t is in not_much items f t u only limits own.0 own.1) (inside.none Outputs)
      none TreeSize = neither (λ owed. owed) (inside.none TreeSize)
      none code = neither (λ owed. owed) (inside.none code)

  pub none_owe : OweNothing items printed signature no_x
  none_owe = record { none = λ code owed. owed }

  pub more_owe : (x : X) (xs : Xs) → OwesNothing items printed signature x → OweNothing items printed signature xs → OweNothing items printed signature (and_x x xs)
  more_owe x xs first others = record { none = λ code. neither (first.none code) (others.none code) }

  pub literal_owes : (name : Name) (labels : List Expr) (xs : Xs) → OweNothing items printed signature xs → OwesNothing items printed signature (literal name labels xs)
  literal_owes name labels xs children = record { none = none }
    where
      none : (code : Code) → ¬ (OfSomeTree items (IsOwedFor items printed code) signature (literal name labels xs))
      none LabelRange = neither (λ owed. owed) (children.none LabelRange)
      none EmptyLanguage = neither (λ owed. owed) (children.none EmptyLanguage)
      none OutputCount = neither (λ owed. owed) (children.none OutputCount)
      none Outputs = neither (λ owed. owed) (children.none Outputs)
      none TreeSize = neither (λ owed. owed) (children.none TreeSize)
      none code = neither (λ owed. owed) (children.none code)

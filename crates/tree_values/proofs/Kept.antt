-- What is in a table of trees once one is added.
use Rattle.std.proofs.Common.{◌≡◌, inl, inr, ℕ, Bool, true, false, cond, List, [], ◌∷◌, ◌++◌, Some, None, refl, sym, ap, subst, ◌∙◌}
use Rattle.std.specs.Prelude.{is_some}
use Rattle.std.proofs.lemmas.List.Elements.{Contains-append_cases}
use Rattle.model_tree.specs.Tree.{LabelTree}
use Rattle.model_tree.specs.Signature.{HasType}
use Rattle.model_grammar.specs.Syntax.{TreeItem, tree, Item}
use Rattle.model_names.specs.Declared.{same_text}
use Rattle.model_meaning.specs.Types.{input_of}
use Rattle.model_meaning.specs.Values.{Printed}
use Rattle.model_checks.proofs.Soundness.{same_from_test, same_itself}
use Rattle.model_layers.proofs.Sight.{the_only}
use Rattle.fast_eval.specs.Found.{IsInLimits}
use Rattle.tree_values.specs.declared.trees.Trees.{Trees}
use Rattle.tree_values.specs.Trees.{tree_at, Adds, Keeps, Tells, AreTypedTrees, ArePrinted}

-- no trees are those of nothing that was printed
pub told_at_start : (items : List Item) (ts : Trees) → ((name : List ℕ) → tree_at ts name ≡ None) → Tells ts [] × AreTypedTrees items ts
told_at_start items ts none = (none, λ name t e. absurd (bad t (sym (none name) ∙ e)))
  where
    bad : (t : LabelTree) → None ≡ Some t → ⊥
    bad t e = cc

-- one more tree that was printed
pub told_by_adding : (old new : Trees) (printed : List Printed) (name : List ℕ) (t : LabelTree) → Tells old printed → Adds old new name t → Tells new (record { name = name; tree = t } ∷ printed)
told_by_adding old new printed name t told adds other = adds other ∙ ap (λ o. cond (same_text name other) (Some t) o) (told other)

pub told_by_keeping : (old new : Trees) (printed : List Printed) → Tells old printed → Keeps old new → Tells new printed
told_by_keeping old new printed told keeps other = keeps other ∙ told other

module _ (items : List Item) (old new : Trees) (typed : AreTypedTrees items old) where
  pub typed_by_adding : (name : List ℕ) (t : LabelTree) → HasType (input_of items name) t → IsInLimits t → Adds old new name t → AreTypedTrees items new
  typed_by_adding name t has small adds other u e = by (same_text name other) refl (sym (adds other) ∙ e)
    where
      same_tree : (v w : LabelTree) → Some v ≡ Some w → v ≡ w
      same_tree v w e = cc

      by : (b : Bool) → same_text name other ≡ b → cond b (Some t) (tree_at old other) ≡ Some u → HasType (input_of items other) u × IsInLimits u
      by true same is =
          let one = same_tree t u is in
          let name_is = same_from_test name other same in
          (subst (λ v. HasType (input_of items other) v) one (subst (λ n. HasType (input_of items n) t) name_is has), subst IsInLimits one small)
      by false same is = typed other u is

  pub typed_by_keeping : Keeps old new → AreTypedTrees items new
  typed_by_keeping keeps name t e = typed name t (sym (keeps name) ∙ e)

-- each name that had a tree has one
pub grown_by_adding : (old new : Trees) (name : List ℕ) (t : LabelTree) → Adds old new name t → (other : List ℕ) → is_some (tree_at old other) ≡ true → is_some (tree_at new other) ≡ true
grown_by_adding old new name t adds other had = ap is_some (adds other) ∙ by (same_text name other)
  where
    by : (b : Bool) → is_some (cond b (Some t) (tree_at old other)) ≡ true
    by true = refl
    by false = had

pub there_by_adding : (old new : Trees) (name : List ℕ) (t : LabelTree) → Adds old new name t → same_text name name ≡ true → is_some (tree_at new name) ≡ true
there_by_adding old new name t adds same = ap is_some (adds name) ∙ ap (λ b. is_some (cond b (Some t) (tree_at old name))) same

-- ---- the trees among items

-- once the tree of an item is added
pub printed_by_adding : (old new : Trees) (name : List ℕ) (u : LabelTree) → Adds old new name u → (before : List Item) → ArePrinted old before → (item : Item) → ((t : TreeItem) → item.body ≡ tree t → t.name.text ≡ name) → ArePrinted new (before ++ item ∷ [])
printed_by_adding old new name u adds before printed item own other t at is = elim (Contains-append_cases before (item ∷ []) other at) [
  | inl early ↦ grown_by_adding old new name u adds t.name.text (printed other t early is)
  | inr last ↦ (let same = own t (ap (λ (i : Item). i.body) (the_only item other last) ∙ is) in subst (λ n. is_some (tree_at new n) ≡ true) (sym same) (there_by_adding old new name u adds (same_itself name)))
]

-- an item that is no tree
pub printed_by_passing : (ts : Trees) (before : List Item) → ArePrinted ts before → (item : Item) → ((t : TreeItem) → item.body ≡ tree t → ⊥) → ArePrinted ts (before ++ item ∷ [])
printed_by_passing ts before printed item none other t at is = elim (Contains-append_cases before (item ∷ []) other at) [
  | inl early ↦ printed other t early is
  | inr last ↦ absurd (none t (ap (λ (i : Item). i.body) (the_only item other last) ∙ is))
]

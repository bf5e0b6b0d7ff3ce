-- What is kept of one more item that is done.
use Rattle.std.proofs.Common.{◌≡◌, ◌⊎◌, inl, inr, ℕ, Bool, true, false, List, [], ◌∷◌, ◌++◌, Option, Some, cond, Contains, refl, sym, ap, subst, ◌∙◌}
use Rattle.std.specs.Prelude.{is_some}
use Rattle.model_tree.specs.Tree.{LabelTree}
use Rattle.model_tree.specs.Signature.{HasType}
use Rattle.model_grammar.specs.Syntax.{DefItem, def, TreeItem, tree, Item}
use Rattle.model_names.specs.Declared.{same_text}
use Rattle.model_names.specs.Kinds.{defined_kind}
use Rattle.model_meaning.specs.Types.{input_of}
use Rattle.model_meaning.proofs.Members.{one_of, none_of}
use Rattle.sta_theory.proofs.Lists.{append_member}
use Rattle.fast_eval.specs.Found.{IsInLimits}
use Rattle.fast_eval.specs.Defined.{IsDefined, AreDefined}
use Rattle.fast_eval.specs.Table.{IsGrown}
use Rattle.fast_eval.specs.declared.built.Built.{Built}
use Rattle.fast_eval.proofs.Keeping.{built_grown}
use Rattle.tree_values.specs.Trees.{tree_at, Adds, AreTypedTrees, ArePrinted}
use Rattle.tree_values.specs.declared.trees.Trees.{Trees}
use Rattle.fast_session.specs.declared.items.Kept.{Kept}
use Rattle.fast_session.specs.Kept.{IsKept}
use Rattle.fast_session.specs.Items.{IsBuiltMore}

module _ (before : List Item) (item : Item) where
  -- an item of these, or the one behind them
  last : (other : Item) → Contains (before ++ item ∷ []) other → Contains before other ⊎ (item ≡ other)
  last other at = elim (append_member before (item ∷ []) other at) [
    | inl here ↦ inl here
    | inr there ↦ elim (one_of item other [] there) [ inl same ↦ inr same | inr none ↦ absurd (none_of other none) ]
  ]

  pub defined_more : (old new : Built) → IsGrown old new → AreDefined old before → ((d : DefItem) → item.body ≡ def d → IsDefined new d) → AreDefined new (before ++ item ∷ [])
  defined_more old new grown was own other d at is = elim (last other at) [
    | inl here ↦ built_grown old new grown (defined_kind d.into) d.name.text (was other d here is)
    | inr same ↦ own d (ap (λ (i : Item). i.body) same ∙ is)
  ]

  pub printed_more : (old new : Trees) → ((name : List ℕ) → is_some (tree_at old name) ≡ true → is_some (tree_at new name) ≡ true) → ArePrinted old before
      → ((t : TreeItem) → item.body ≡ tree t → is_some (tree_at new t.name.text) ≡ true) → ArePrinted new (before ++ item ∷ [])
  printed_more old new grown was own other t at is = elim (last other at) [
    | inl here ↦ grown t.name.text (was other t here is)
    | inr same ↦ own t (ap (λ (i : Item). i.body) same ∙ is)
  ]

  module _ (items : List Item) (old new : Kept) (more : IsBuiltMore items old new) (was : IsKept items before old) where
    -- an item that has no tree
    pub kept_built : ((d : DefItem) → item.body ≡ def d → IsDefined new.built d) → ((t : TreeItem) → ¬ (item.body ≡ tree t)) → IsKept items (before ++ item ∷ []) new
    kept_built own none = record {
      built = more.built;
      typed = subst (AreTypedTrees items) (sym more.trees) was.typed;
      defined = defined_more old.built new.built more.grown was.defined own;
      printed = printed_more old.trees new.trees (λ name e. subst (λ (ts : Trees). is_some (tree_at ts name) ≡ true) (sym more.trees) e) was.printed (λ t is. absurd (none t is));
    }

-- ---- a tree that is kept for its name

module _ (old new : Trees) (name : List ℕ) (t : LabelTree) (added : Adds old new name t) where
  some_if : (b : Bool) (o : Option LabelTree) → is_some o ≡ true → is_some (cond b (Some t) o) ≡ true
  some_if true o e = refl
  some_if false o e = e

  pub still_there : (other : List ℕ) → is_some (tree_at old other) ≡ true → is_some (tree_at new other) ≡ true
  still_there other e = ap is_some (added other) ∙ some_if (same_text name other) (tree_at old other) e

  -- a text is the same as itself
  pub own_there : same_text name name ≡ true → is_some (tree_at new name) ≡ true
  own_there same = ap is_some (added name) ∙ ap (λ b. is_some (cond b (Some t) (tree_at old name))) same

  -- a tree that is found is the one that was added, under its name, or was there
  either : (b : Bool) (o : Option LabelTree) (u : LabelTree) → cond b (Some t) o ≡ Some u → ((b ≡ true) × (t ≡ u)) ⊎ (o ≡ Some u)
  either true o u e = inl (refl, cc)
  either false o u e = inr e

  pub typed_more : (items : List Item) → ((other : List ℕ) → same_text name other ≡ true → name ≡ other) → HasType (input_of items name) t → IsInLimits t → AreTypedTrees items old → AreTypedTrees items new
  typed_more items exact typed limits was other u e = elim (either (same_text name other) (tree_at old other) u (sym (added other) ∙ e)) [
    | inl own ↦ (subst (λ n. HasType (input_of items n) u) (exact other own.0) (subst (HasType (input_of items name)) own.1 typed), subst IsInLimits own.1 limits)
    | inr there ↦ was other u there
  ]

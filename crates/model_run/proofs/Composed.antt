-- Items without compositions.
use Rattle.std.proofs.Common.{◌≡◌, List, subst}
use Rattle.std.specs.List.{Contains}
use Rattle.model_program.specs.Syntax.{Name}
use Rattle.model_grammar.specs.Syntax.{X, named, Body, Item}
use Rattle.model_run.specs.Items.{expressions_in, IsComposedIn, IsComposedInItem, in_expression, IsComposable}

module _ (items : List Item) (body : Body) (names : (e : X) → Contains (expressions_in body) e → (n : Name) × (e ≡ named n)) where
  -- where each expression of the item is a name, there is nothing to compose
  pub none_composed : (x y : X) → IsComposedInItem items x y body → ⊥
  none_composed x y (in_expression _ e at is) = let n = names e at in subst (λ z. IsComposedIn x y z) n.1 is

  pub only_names : IsComposable items body
  only_names x y composed = absurd (none_composed x y composed)

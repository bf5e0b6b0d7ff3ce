-- Trees that are asked to be in languages.
use Rattle.std.specs.Prelude.{◌≡◌, ◌↔◌, ℕ, true, List}
use Rattle.model_grammar.specs.Syntax.{X, member, Item}
use Rattle.model_meaning.specs.Meaning.{IsInLanguage, input_type}
use Rattle.model_meaning.specs.Values.{Printed, IsValue}
use Rattle.model_run.specs.Items.{judged_claim, claim_has_classes, OfSomeTreeOf}
use Rattle.tree_values.specs.declared.members.Membership.{Membership}
use Rattle.tree_values.specs.declared.stops.ValueStop.{ValueStop}
use Rattle.tree_values.specs.Stops.{IsStopBy}
use Rattle.tree_values.specs.Trees.{meant}

-- the tree is a value of the first, and it is told whether it is in the second
pub record IsMember (items : List Item) (printed : List Printed) (x y : X) (m : Membership) : Type 0 where
  pub is : IsValue items printed (input_type items y) x (meant m.tree)
  pub told : (m.inside ≡ true) ↔ IsInLanguage items y (meant m.tree)

-- the cause of a stop
abbrev pub IsMemberStop : List Item → List Printed → ℕ → X → X → ValueStop → Type 0
IsMemberStop items printed most x y = IsStopBy items printed most (claim_has_classes (member x y)) (judged_claim items (member x y)) (λ P. OfSomeTreeOf items P (member x y))

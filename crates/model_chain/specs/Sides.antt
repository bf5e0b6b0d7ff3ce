-- What literals say with a side for each negated equality.
use Rattle.std.specs.Prelude.{ℤ, ◌<ℤ◌, ◌≤ℤ◌, ◌≡◌, Bool, true, false, List, [], ◌∷◌}
use Rattle.model_form.specs.Form.{value}
use Rattle.model_chain.specs.Literals.{Relation, less, at_most, equal, Literal, own_side, later_sides}

-- x and y are related, or not; of an inequality the side says which is greater, and true that x is
abbrev pub HoldsOn : Relation → Bool → Bool → ℤ → ℤ → Type 0
HoldsOn less true side x y = x <ℤ y
HoldsOn at_most true side x y = x ≤ℤ y
HoldsOn equal true side x y = x ≡ y
HoldsOn less false side x y = y ≤ℤ x
HoldsOn at_most false side x y = y <ℤ x
HoldsOn equal false true x y = y <ℤ x
HoldsOn equal false false x y = x <ℤ y

abbrev pub HoldWith : List Literal → List Bool → List ℤ → Type 0
HoldWith [] sides values = Unit {0}
HoldWith (l ∷ ls) sides values =
    HoldsOn l.compare.relation l.positive (own_side l sides) (value l.compare.left values) (value l.compare.right values) × HoldWith ls (later_sides l sides) values

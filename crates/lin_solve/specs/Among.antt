-- Lists of which some element is so.
use Rattle.std.specs.Prelude.{List}
use Rattle.std.specs.List.{Contains}

pub record SomeOf {X : Type 0} (P : X → Type 0) (xs : List X) : Type 0 where
  pub own : X
  pub among : Contains xs own
  pub has : P own

-- What the automaton of a name shows of the name.
use Rattle.std.specs.Prelude.{ℕ, List}
use Rattle.model_grammar.specs.Syntax.{named, Item}
use Rattle.model_program.specs.Syntax.{Name}
use Rattle.sta_core.specs.Machine.{Machine}
use Rattle.sta_core.specs.Sta.{automaton_of}
use Rattle.record_label.specs.Rows.{RowAtom, row_holds}
use Rattle.model_layers.specs.Carries.{Carries}
use Rattle.model_layers.specs.Seen.{IsSeen}

-- Its language is that of the name, each of its states has a language of which the name is made, and labels that agree on
-- the guards of the name agree on its guards.
pub record IsBuiltFor (items : List Item) (n : Name) (type : List ℕ) (m : Machine RowAtom) (start : ℕ) : Type 0 where
  pub carries : Carries items (named n) type (record { rules = automaton_of row_holds m; start = start })
  pub seen : IsSeen items (named n) type (automaton_of row_holds m)

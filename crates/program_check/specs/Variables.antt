-- The child variables of a rule, and what fails in a rule with or without an output term.
use Rattle.std.specs.Prelude.{◌≡◌, ℕ, List, [], ◌++◌, Option, Some, None, map, is_some}
use Rattle.fast_fault.specs.declared.refusal.Refusal.{Refusal}
use Rattle.model_program.specs.Syntax.{Name}
use Rattle.model_grammar.specs.Syntax.{Rule, Out, Item}
use Rattle.model_checks.specs.Types.{is_among}
use Rattle.model_checks.specs.Rules.{rule_failures, out_failures}
use Rattle.fast_syntax.specs.View.{plain_name}
use Rattle.program_check.specs.declared.checker.Checker.{Checker}
use Rattle.program_check.specs.declared.vars.Vars.{Vars}
use Rattle.program_check.specs.Notes.{HasMemory}
use Rattle.program_check.specs.Naming.{place_in}

abbrev pub plain_vars : Vars → List Name
plain_vars vars = map plain_name vars.all.now

-- the names are those of the variables
abbrev pub AreKept : Vars → Type 0
AreKept vars = (text : List ℕ) → is_some (place_in vars.names text) ≡ is_among (plain_vars vars) text

-- so they are, unless memory ran out
abbrev pub Kept : Checker → Vars → Type 0
Kept c vars = HasMemory c → AreKept vars

-- what fails in an output term, where there is one
abbrev pub made_failures : List Item → Name → Name → List Name → Option Out → List Refusal
made_failures items from into vars None = []
made_failures items from into vars (Some out) = out_failures items from into vars out

abbrev pub whole_rule_failures : List Item → Name → Name → Rule → Option Out → List Refusal
whole_rule_failures items from into r out = rule_failures items from r ++ made_failures items from into r.vars out

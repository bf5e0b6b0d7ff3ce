use Rattle.std.proofs.Common.{◌≡◌, ℕ, List, map, take}
use Rattle.fast_syntax.specs.View.{plain_ctor}
use Rattle.program_check.specs.Naming.{place_in}
use Rattle.program_check.specs.Numbered.{place_by, is_ctor}
use Rattle.program_check.proofs.declarations.number_ctors.Given as goal

abbrev pub invariant-ctors : goal.invariant-ctors
invariant-ctors l = (name : List ℕ) → place_in l.names name ≡ place_by (is_ctor name) (take l.place (map plain_ctor l.ctors))

use Rattle.std.proofs.Common.{◌≡◌, map, drop}
use Rattle.std.specs.List.{list_any}
use Rattle.fast_syntax.specs.View.{plain_ctor}
use Rattle.model_checks.specs.Types.{is_leaf, has_leaf}
use Rattle.program_check.specs.Numbered.{HasCtors}
use Rattle.program_check.proofs.ctors.has_leaf.Given as goal

abbrev pub invariant-ctors : goal.invariant-ctors
invariant-ctors l =
    let all = map plain_ctor l.ctors in
    HasCtors all l.numbers → list_any (λ c. is_leaf all c.name.text) (map plain_ctor (drop l.ctor-index l.ctors)) ≡ has_leaf all

use Rattle.std.proofs.Common.{◌≡◌, ◌++◌, map, drop}
use Rattle.std.specs.Prelude.{codes}
use Rattle.std.specs.Str.{encode_utf8_all}
use Rattle.std.specs.List.{flat_map}
use Rattle.model_tree.specs.Printed.{printed_field}
use Rattle.fast_tree.specs.Entries.{field_of}
use Rattle.fast_tree.proofs.Scalars.{values_have}
use Rattle.fast_tree.proofs.print.append_label.Given as goal

abbrev pub invariant-loop-value : goal.invariant-loop-value
invariant-loop-value l =
    (l.out.items ++ encode_utf8_all (flat_map (λ p. codes ", " ++ p) (map printed_field (map field_of (drop l.value-index l.later)))) ≡ l.initial.out.items ++ encode_utf8_all (flat_map (λ p. codes ", " ++ p) (map printed_field (map field_of l.later))))
    × (values_have (drop l.value-index l.later) → values_have l.later)

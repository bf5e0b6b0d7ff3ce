use Rattle.std.specs.Prelude.{◌≡◌, ◌++◌, codes, true, drop, map}
use Rattle.std.specs.List.{flat_map, AllWithin}
use Rattle.model_tree.specs.Scalars.{has_scalars}
use Rattle.fast_tree.specs.Signatures.{plain_signature}
use Rattle.model_run.specs.Lines.{outputs_lines}
use Rattle.model_run.specs.Outcomes.{shown_tree}
use Rattle.fast_eval.specs.Outputs.{cut_tree}
use Rattle.fast_tool.proofs.applied.outputs_text.Given as goal

abbrev pub invariant-cuts : goal.invariant-cuts
invariant-cuts l =
    (l.text.items ++ flat_map (λ u. codes "output" ++ (shown_tree (plain_signature l.of) u ++ codes "\n")) (map cut_tree (drop l.cut-index l.cuts)) ≡ outputs_lines (plain_signature l.of) l.fn.number (map cut_tree l.cuts))
    × AllWithin (λ c. has_scalars (cut_tree c) ≡ true) l.cuts 0 l.cut-index

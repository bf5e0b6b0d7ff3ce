use Rattle.std.proofs.Common.{◌≡◌, true, arith}
use Rattle.std.proofs.lemmas.List.Elements.{All-map}
use Rattle.model_tree.specs.Scalars.{has_scalars}
use Rattle.fast_tree.specs.Signatures.{plain_signature}
use Rattle.fast_eval.specs.Outputs.{cut_tree}
use Rattle.fast_tool.proofs.Listing.{typed_at}
use Rattle.fast_tool.proofs.applied.outputs_text.Goals as goal

pub append_output-requires : goal.append_output-requires
append_output-requires c = record { typed = typed_at (plain_signature c.args.of.now) c.args.cuts.now c.cuts.cut-index c.cut-item.result (omega arith) c.cut-item.is c.requires.typed }

pub returns-clause-scalars : goal.returns-clause-scalars
returns-clause-scalars c = λ k d low. All-map (λ u. has_scalars u ≡ true) cut_tree c.args.cuts.now (λ i e below. c.cuts.invariant.1 i e (omega arith) (omega (arith, below, c.cuts-test.false))) k d low

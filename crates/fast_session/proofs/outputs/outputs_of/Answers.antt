use Rattle.std.proofs.Common.{map, sym, subst}
use Rattle.std.specs.Str.{chars}
use Rattle.model_tree.specs.Signature.{HasType}
use Rattle.model_checks.proofs.SoundWhole.{sound}
use Rattle.model_meaning.specs.Meaning.{input_type}
use Rattle.fast_eval.specs.Forms.{IsMadeFrom, IsTransKnown}
use Rattle.fast_eval.specs.Outputs.{cut_tree, AreOutputsOf, StopsOutputs}
use Rattle.tree_values.specs.Trees.{meant}
use Rattle.fast_session.specs.Kept.{items_in}
use Rattle.fast_session.specs.Needed.{IsTreeStopped}
use Rattle.fast_session.proofs.Building.{trans_name_made, tree_stopped}
use Rattle.fast_session.proofs.Silent.{nothing_more}
use Rattle.fast_session.proofs.outputs.outputs_of.Goals as goal

pub returns-in_err-x-clause-more : goal.returns-in_err-x-clause-more
returns-in_err-x-clause-more c = nothing_more (items_in c.args.around.now) c.args.kept.now c.requires.built

pub outputs-requires-clause-made : goal.outputs-requires-clause-made
outputs-requires-clause-made c =
    let items = items_in c.args.around.now in
    let m = trans_name_made items (sound items c.args.around.now.checked.now.well_formed) (chars c.args.name.now) c.requires.named in
    (m.0, m.1, subst (IsMadeFrom items m.0 m.1) (sym c.in_ok-x.ensures) m.2)

pub outputs-requires-clause-known : goal.outputs-requires-clause-known
outputs-requires-clause-known c = subst (IsTransKnown (items_in c.args.around.now) c.args.kept.now.built) (sym c.in_ok-x.ensures) c.requires.known

pub outputs-requires-clause-typed : goal.outputs-requires-clause-typed
outputs-requires-clause-typed c = subst (λ y. HasType (input_type (items_in c.args.around.now) y) (meant c.args.tree.now)) (sym c.in_ok-x.ensures) c.requires.typed

pub returns-in-Ok-clause-outputs : goal.returns-in-Ok-clause-outputs
returns-in-Ok-clause-outputs c = subst (λ y. AreOutputsOf (items_in c.args.around.now) y (meant c.args.tree.now) (map cut_tree c.in-Ok.cuts.items)) c.in_ok-x.ensures c.in-Ok.ensures.outputs

pub returns-clause-stopped : goal.returns-clause-stopped
returns-clause-stopped c =
    let items = items_in c.args.around.now in
    let name = chars c.args.name.now in
    let limit = c.args.around.now.limit in
    let t = meant c.args.tree.now in
    subst (IsTreeStopped items name t) (sym c.unlisted.ensures)
    (tree_stopped items name limit t c.in-Err.stop (subst (λ y. StopsOutputs items y limit t c.in-Err.stop) c.in_ok-x.ensures c.in-Err.ensures.stop))

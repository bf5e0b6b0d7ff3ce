use Rattle.std.proofs.Common.{refl}
use Rattle.model_tree.specs.Tree.{relabel}
use Rattle.fast_tree.specs.Entries.{label_meaning}
use Rattle.fast_syntax.specs.Plain.{plain_x}
use Rattle.fast_eval.specs.Outputs.{StopsOutputs, by_outputs}
use Rattle.fast_eval.specs.declared.stops.OutputStop.TheVariants.{Stopped}
use Rattle.fast_eval.specs.Scopes.{items_in, type_in}
use Rattle.fast_eval.proofs.Applying.{outputs_are, refused, label_order, labels_kept}
use Rattle.fast_eval.proofs.Imaged.{trans_labels}
use Rattle.fast_eval.proofs.Keeping.{on_err}
use Rattle.fast_eval.proofs.Ready.{trans_operand_built}
use Rattle.fast_eval.proofs.applied.listed.Goals as goal

pub trans_of-own-requires : goal.trans_of-own-requires
trans_of-own-requires c = let (into, made) = c.requires.made in (c.in_ok-own.ensures.built into made).low

pub outputs-requires-clause-fits : goal.outputs-requires-clause-fits
outputs-requires-clause-fits c =
    let s = c.args.scope.now in
    let x = plain_x c.args.x.now in
    let (into, made) = c.requires.made in
    let own = trans_operand_built (items_in s) x (type_in s) into s.built.now c.in_ok-own.own c.trans_of-own.result.now (c.in_ok-own.ensures.built into made) c.trans_of-own.ensures in
    trans_labels (items_in s) (type_in s) s.theory.now c.requires.scope.labels x into c.trans_of-own.result.now own

pub outputs-requires-clause-labels : goal.outputs-requires-clause-labels
outputs-requires-clause-labels c =
    let s = c.args.scope.now in
    let x = plain_x c.args.x.now in
    let (into, made) = c.requires.made in
    let own = trans_operand_built (items_in s) x (type_in s) into s.built.now c.in_ok-own.own c.trans_of-own.result.now (c.in_ok-own.ensures.built into made) c.trans_of-own.ensures in
    labels_kept (items_in s) x (type_in s) into c.trans_of-own.result.now own s.theory.now c.requires.scope.labels c.args.tree.now c.requires.typed c.requires.kept

pub returns-in_err-own-clause-stop : goal.returns-in_err-own-clause-stop
returns-in_err-own-clause-stop c =
    let s = c.args.scope.now in
    let x = plain_x c.args.x.now in
    on_err (StopsOutputs (items_in s) x s.limit (relabel label_meaning c.args.tree.now)) c.from_residual.result (Stopped c.in_err-own.field-0.0) c.from_residual.ensures.1 c.in_err-own.ensures.stop

pub returns-clause-outputs : goal.returns-clause-outputs
returns-clause-outputs c =
    let s = c.args.scope.now in
    let x = plain_x c.args.x.now in
    let (into, made) = c.requires.made in
    let own = trans_operand_built (items_in s) x (type_in s) into s.built.now c.in_ok-own.own c.trans_of-own.result.now (c.in_ok-own.ensures.built into made) c.trans_of-own.ensures in
    outputs_are (items_in s) x (type_in s) into c.trans_of-own.result.now own _ (λ l m. label_order _ (record { numbers = λ _ _. refl; truths = λ _ _. refl; texts = λ _ _. refl; number_truth = λ _ _. refl; number_text = λ _ _. refl; truth_number = λ _ _. refl; truth_text = λ _ _. refl; text_number = λ _ _. refl; text_truth = λ _ _. refl }) l m) c.args.tree.now c.requires.typed c.in_ok-outputs.field-0.items c.in_ok-outputs.ensures.outputs

pub returns-in_err-outputs-clause-stop : goal.returns-in_err-outputs-clause-stop
returns-in_err-outputs-clause-stop c =
    let s = c.args.scope.now in
    let x = plain_x c.args.x.now in
    let t = relabel label_meaning c.args.tree.now in
    let e = c.in_err-outputs.field-0.0 in
    let (into, made) = c.requires.made in
    let own = trans_operand_built (items_in s) x (type_in s) into s.built.now c.in_ok-own.own c.trans_of-own.result.now (c.in_ok-own.ensures.built into made) c.trans_of-own.ensures in
    on_err (StopsOutputs (items_in s) x s.limit t) c.from_residual-in_err-outputs.result (by_outputs e) c.from_residual-in_err-outputs.ensures.1 (refused (items_in s) x (type_in s) into c.trans_of-own.result.now own s.limit t c.requires.typed e c.in_err-outputs.ensures.stop)

use Rattle.std.proofs.Common.{inr, map}
use Rattle.std.proofs.lemmas.Result.{IfOk-weaker, IfErr-weaker}
use Rattle.model_names.specs.Kinds.{transformation}
use Rattle.model_tree.specs.Tree.{relabel}
use Rattle.fast_tree.specs.Entries.{label_meaning}
use Rattle.fast_syntax.specs.Plain.{plain_x}
use Rattle.fast_build.specs.Items.{items_of}
use Rattle.fast_eval.specs.Outputs.{cut_tree, AreOutputsOf, StopsOutputs}
use Rattle.fast_eval.specs.Scopes.{items_in}
use Rattle.fast_eval.proofs.Scoped.{made_from_there, named_there, typed_in, outputs_back, output_stop_back}
use Rattle.fast_eval.proofs.applied.outputs.Goals as goal

pub returns-in_err-build_names-clause-built : goal.returns-in_err-build_names-clause-built
returns-in_err-build_names-clause-built c = c.build_names.ensures.built c.requires.built

pub scope_of-scope-requires : goal.scope_of-scope-requires
scope_of-scope-requires c =
    let (from, into, made) = c.requires.made in
    record { built = c.build_names.ensures.built c.requires.built; shallow = c.requires.shallow; made = (from, inr (into, made)) }

pub listed-requires : goal.listed-requires
listed-requires c =
    let k = c.args.checked.now in
    let b = c.build_names.new.built in
    let x = plain_x c.args.x.now in
    let s = c.scope_of-scope.result in
    let is = c.scope_of-scope.ensures.of in
    let (from, into, made) = c.requires.made in
    record {
      scope = c.scope_of-scope.ensures.scope;
      made = (into, made_from_there k b c.args.limit x s is from into (inr (into, made)) x made);
      named = named_there k b c.args.limit x s is transformation x (c.in_ok-build_names.ensures {u = tt}).named;
      typed = typed_in k b c.args.limit x s is x (relabel label_meaning c.args.tree.now) c.requires.typed;
      kept = c.requires.kept;
    }

pub returns-clause-built : goal.returns-clause-built
returns-clause-built c = c.build_names.ensures.built c.requires.built

pub returns-clause-outputs : goal.returns-clause-outputs
returns-clause-outputs c =
    let k = c.args.checked.now in
    let x = plain_x c.args.x.now in
    let s = c.scope_of-scope.result in
    let t = relabel label_meaning c.args.tree.now in
    IfOk-weaker c.listed.result (λ cuts. AreOutputsOf (items_in s) x t (map cut_tree cuts.items)) (λ cuts. AreOutputsOf (items_of k) x t (map cut_tree cuts.items))
    (λ cuts h. outputs_back k c.build_names.new.built c.args.limit x s c.scope_of-scope.ensures.of x t (map cut_tree cuts.items) h) c.listed.ensures.outputs

pub returns-clause-stop : goal.returns-clause-stop
returns-clause-stop c =
    let k = c.args.checked.now in
    let x = plain_x c.args.x.now in
    let s = c.scope_of-scope.result in
    let t = relabel label_meaning c.args.tree.now in
    IfErr-weaker c.listed.result (StopsOutputs (items_in s) x s.limit t) (StopsOutputs (items_of k) x c.args.limit t) (output_stop_back k c.build_names.new.built c.args.limit x s c.scope_of-scope.ensures.of x t) c.listed.ensures.stop

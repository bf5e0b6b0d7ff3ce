use Rattle.std.proofs.Common.{inr, ℕ, List}
use Rattle.std.proofs.lemmas.Result.{IfOk-weaker, IfErr-weaker}
use Rattle.model_names.specs.Kinds.{transformation}
use Rattle.fast_syntax.specs.Plain.{plain_x}
use Rattle.fast_build.specs.Items.{items_of}
use Rattle.fast_eval.specs.Forms.{IsMadeFrom}
use Rattle.fast_eval.specs.Scopes.{items_in, type_in, IsTransOperandOf, IsTransOperandFrom}
use Rattle.fast_eval.specs.Stops.{StopsExpression}
use Rattle.fast_eval.proofs.Scoped.{made_from_there, named_there, trans_back, stop_back}
use Rattle.fast_eval.proofs.definitions.trans_value.Goals as goal

pub scope_of-scope-requires-clause-made : goal.scope_of-scope-requires-clause-made
scope_of-scope-requires-clause-made c = let (from, into, made) = c.requires.made in (from, inr (into, made))

pub transformation-requires : goal.transformation-requires
transformation-requires c =
    let k = c.args.checked.now in
    let b = c.args.built.now in
    let f = plain_x c.args.f.now in
    let s = c.scope_of-scope.result in
    let is = c.scope_of-scope.ensures.of in
    let (from, into, made) = c.requires.made in
    record {
      scope = c.scope_of-scope.ensures.scope;
      made = (into, made_from_there k b c.args.limit f s is from into (inr (into, made)) f made);
      named = named_there k b c.args.limit f s is transformation f c.requires.named;
    }

pub returns-clause-built : goal.returns-clause-built
returns-clause-built c =
    let k = c.args.checked.now in
    let b = c.args.built.now in
    let f = plain_x c.args.f.now in
    let s = c.scope_of-scope.result in
    let is = c.scope_of-scope.ensures.of in
    IfOk-weaker c.transformation.result (IsTransOperandFrom (items_in s) f (type_in s) s.built.now) (λ o. (from into : List ℕ) → IsMadeFrom (items_of k) from into f → IsTransOperandOf (items_of k) f from into b o)
    (λ o h from into made. trans_back k b c.args.limit f s is from into made o h) c.transformation.ensures.built

pub returns-clause-stop : goal.returns-clause-stop
returns-clause-stop c =
    let k = c.args.checked.now in
    let b = c.args.built.now in
    let f = plain_x c.args.f.now in
    let s = c.scope_of-scope.result in
    let is = c.scope_of-scope.ensures.of in
    IfErr-weaker c.transformation.result (StopsExpression (items_in s) f s.limit) (StopsExpression (items_of k) f c.args.limit) (stop_back k b c.args.limit f s is) c.transformation.ensures.stop

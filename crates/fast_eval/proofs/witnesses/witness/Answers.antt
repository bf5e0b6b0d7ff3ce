use Rattle.std.proofs.Common.{inl, [], ◌∷◌}
use Rattle.std.proofs.lemmas.Result.{IfOk-weaker, IfErr-weaker}
use Rattle.fast_syntax.specs.Plain.{plain_x}
use Rattle.fast_build.specs.Items.{items_of}
use Rattle.model_names.specs.Kinds.{language}
use Rattle.fast_eval.specs.Scopes.{items_in}
use Rattle.fast_eval.specs.Stops.{IsStopOf}
use Rattle.fast_eval.specs.Witnesses.{IsWitnessOf}
use Rattle.fast_eval.proofs.Scoped.{made_there, named_there, witness_back, one_back}
use Rattle.fast_eval.proofs.witnesses.witness.Goals as goal

pub returns-in_err-build_names-clause-built : goal.returns-in_err-build_names-clause-built
returns-in_err-build_names-clause-built c = c.build_names.ensures.built c.requires.built

pub scope_of-scope-requires-clause-built : goal.scope_of-scope-requires-clause-built
scope_of-scope-requires-clause-built c = c.build_names.ensures.built c.requires.built

pub least-requires : goal.least-requires
least-requires c =
    let k = c.args.checked.now in
    let b = c.build_names.new.built in
    let x = plain_x c.args.x.now in
    let s = c.scope_of-scope.result in
    let is = c.scope_of-scope.ensures.of in
    record {
      scope = c.scope_of-scope.ensures.scope;
      made = made_there k b c.args.limit x s is c.requires.made.0 (inl c.requires.made.1) x c.requires.made.1;
      named = named_there k b c.args.limit x s is language x (c.in_ok-build_names.ensures {u = tt}).named;
    }

pub returns-clause-found : goal.returns-clause-found
returns-clause-found c =
    let k = c.args.checked.now in
    let x = plain_x c.args.x.now in
    let s = c.scope_of-scope.result in
    IfOk-weaker c.least.result (IsWitnessOf (items_in s) x) (IsWitnessOf (items_of k) x) (witness_back k c.build_names.new.built c.args.limit x s c.scope_of-scope.ensures.of x) c.least.ensures.found

pub returns-clause-stop : goal.returns-clause-stop
returns-clause-stop c =
    let k = c.args.checked.now in
    let x = plain_x c.args.x.now in
    let s = c.scope_of-scope.result in
    IfErr-weaker c.least.result (IsStopOf (items_in s) (x ∷ []) s.limit) (IsStopOf (items_of k) (x ∷ []) c.args.limit)
    (one_back k c.build_names.new.built c.args.limit x s c.scope_of-scope.ensures.of x) c.least.ensures.stop

pub returns-clause-built : goal.returns-clause-built
returns-clause-built c = c.build_names.ensures.built c.requires.built

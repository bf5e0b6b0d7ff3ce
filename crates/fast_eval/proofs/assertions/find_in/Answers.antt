use Rattle.std.proofs.Common.{inl}
use Rattle.std.proofs.lemmas.Result.{IfOk-weaker, IfErr-weaker}
use Rattle.fast_syntax.specs.Plain.{plain_x}
use Rattle.model_grammar.specs.Syntax as plain
use Rattle.model_run.specs.Items.{judged_claim}
use Rattle.fast_build.specs.Items.{items_of}
use Rattle.model_names.specs.Kinds.{language}
use Rattle.fast_eval.specs.Found.{IsFoundOf}
use Rattle.fast_eval.specs.Scopes.{items_in}
use Rattle.fast_eval.specs.Stops.{IsStopOf}
use Rattle.fast_eval.proofs.Scoped.{made_there, named_there, found_back, claim_back}
use Rattle.fast_eval.proofs.assertions.find_in.Goals as goal

pub returns-in_err-build_names-clause-built : goal.returns-in_err-build_names-clause-built
returns-in_err-build_names-clause-built c = c.build_names.ensures.built c.requires.built

pub scope_of-scope-requires : goal.scope_of-scope-requires
scope_of-scope-requires c =
    let (type, made) = c.requires.made in
    record { built = c.build_names.ensures.built c.requires.built; shallow = c.requires.shallow; made = (type, inl made) }

pub judge_empty-requires : goal.judge_empty-requires
judge_empty-requires c =
    let k = c.args.checked.now in
    let b = c.build_names.new.built in
    let x = plain_x c.args.x.now in
    let s = c.scope_of-scope.result in
    let is = c.scope_of-scope.ensures.of in
    record {
      scope = c.scope_of-scope.ensures.scope;
      made = made_there k b c.args.limit x s is c.requires.made.0 (inl c.requires.made.1) x c.requires.made.1;
      named = named_there k b c.args.limit x s is language x (c.in_ok-build_names.ensures {u = tt}).named;
    }

pub returns-clause-found : goal.returns-clause-found
returns-clause-found c =
    let k = c.args.checked.now in
    let x = plain_x c.args.x.now in
    let s = c.scope_of-scope.result in
    IfOk-weaker c.judge_empty.result (IsFoundOf (items_in s) (plain.empty x)) (IsFoundOf (items_of k) (plain.empty x)) (found_back k c.build_names.new.built c.args.limit x s c.scope_of-scope.ensures.of (plain.empty x)) c.judge_empty.ensures.found

pub returns-clause-stop : goal.returns-clause-stop
returns-clause-stop c =
    let k = c.args.checked.now in
    let x = plain_x c.args.x.now in
    let s = c.scope_of-scope.result in
    IfErr-weaker c.judge_empty.result (IsStopOf (items_in s) (judged_claim (items_in s) (plain.empty x)) s.limit) (IsStopOf (items_of k) (judged_claim (items_of k) (plain.empty x)) c.args.limit)
    (claim_back k c.build_names.new.built c.args.limit x s c.scope_of-scope.ensures.of (plain.empty x)) c.judge_empty.ensures.stop

pub returns-clause-built : goal.returns-clause-built
returns-clause-built c = c.build_names.ensures.built c.requires.built

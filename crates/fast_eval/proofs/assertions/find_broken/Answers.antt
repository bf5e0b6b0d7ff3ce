use Rattle.std.proofs.Common.{inl}
use Rattle.std.proofs.lemmas.Result.{IfOk-weaker, IfErr-weaker}
use Rattle.fast_syntax.specs.Plain.{plain_x}
use Rattle.model_grammar.specs.Syntax as plain
use Rattle.model_run.specs.Items.{judged_claim}
use Rattle.fast_build.specs.Items.{items_of}
use Rattle.model_names.specs.Kinds.{language, transformation}
use Rattle.fast_eval.specs.Found.{IsFoundOf}
use Rattle.fast_eval.specs.Scopes.{items_in}
use Rattle.fast_eval.specs.Stops.{IsStopOf}
use Rattle.fast_eval.proofs.Keeping.{named_grown, known_grown, trans_known_grown}
use Rattle.fast_eval.proofs.Scoped.{made_there, made_from_there, made_into_there, named_there, found_back, claim_back}
use Rattle.fast_eval.proofs.assertions.find_broken.Goals as goal

pub returns-in_err-build_names-clause-built : goal.returns-in_err-build_names-clause-built
returns-in_err-build_names-clause-built c = c.build_names.ensures.built c.requires.built

pub build_names-requires-2 : goal.build_names-requires-2
build_names-requires-2 c = record { known = trans_known_grown (items_of c.args.checked.now) c.args.built.now c.build_names.new.built c.build_names.ensures.grown (plain_x c.args.check.now.f.now) c.requires.known.1 }

pub returns-in_err-build_names-2-clause-built : goal.returns-in_err-build_names-2-clause-built
returns-in_err-build_names-2-clause-built c = c.build_names-2.ensures.built (c.build_names.ensures.built c.requires.built)

pub build_names-requires-3 : goal.build_names-requires-3
build_names-requires-3 c =
    let items = items_of c.args.checked.now in
    let y = plain_x c.args.check.now.y.now in
    let first = known_grown items c.args.built.now c.build_names.new.built c.build_names.ensures.grown y c.requires.known.2 in
    record { known = known_grown items c.build_names.new.built c.build_names-2.new.built c.build_names-2.ensures.grown y first }

pub returns-in_err-build_names-3-clause-built : goal.returns-in_err-build_names-3-clause-built
returns-in_err-build_names-3-clause-built c = c.build_names-3.ensures.built (c.build_names-2.ensures.built (c.build_names.ensures.built c.requires.built))

pub scope_of-scope-requires : goal.scope_of-scope-requires
scope_of-scope-requires c =
    record {
      built = c.build_names-3.ensures.built (c.build_names-2.ensures.built (c.build_names.ensures.built c.requires.built));
      shallow = c.requires.shallow;
      made = (c.requires.made.0, inl c.requires.made.1.1);
    }

pub judge_types-requires : goal.judge_types-requires
judge_types-requires c =
    let k = c.args.checked.now in
    let b = c.build_names-3.new.built in
    let x = plain_x c.args.check.now.x.now in
    let f = plain_x c.args.check.now.f.now in
    let y = plain_x c.args.check.now.y.now in
    let s = c.scope_of-scope.result in
    let is = c.scope_of-scope.ensures.of in
    let type = c.requires.made.0 in
    let on = c.requires.made.1 in
    record {
      scope = c.scope_of-scope.ensures.scope;
      made = (on.0, made_there k b c.args.limit x s is type (inl on.1) x on.1, made_from_there k b c.args.limit x s is type on.0 (inl on.1) f on.2, made_into_there k b c.args.limit x s is on.0 y on.3);
      first_named =
          named_there k b c.args.limit x s is language x
          (named_grown language c.build_names-2.new.built b c.build_names-3.ensures.grown x
          (named_grown language c.build_names.new.built c.build_names-2.new.built c.build_names-2.ensures.grown x (c.in_ok-build_names.ensures {u = tt}).named));
      named =
          named_there k b c.args.limit x s is transformation f
          (named_grown transformation c.build_names-2.new.built b c.build_names-3.ensures.grown f (c.in_ok-build_names-2.ensures {u = tt}).named);
      second_named = named_there k b c.args.limit x s is language y (c.in_ok-build_names-3.ensures {u = tt}).named;
    }

pub returns-clause-found : goal.returns-clause-found
returns-clause-found c =
    let k = c.args.checked.now in
    let x = plain_x c.args.check.now.x.now in
    let claim = plain.type_check x (plain_x c.args.check.now.f.now) (plain_x c.args.check.now.y.now) in
    let s = c.scope_of-scope.result in
    IfOk-weaker c.judge_types.result (IsFoundOf (items_in s) claim) (IsFoundOf (items_of k) claim) (found_back k c.build_names-3.new.built c.args.limit x s c.scope_of-scope.ensures.of claim) c.judge_types.ensures.found

pub returns-clause-stop : goal.returns-clause-stop
returns-clause-stop c =
    let k = c.args.checked.now in
    let x = plain_x c.args.check.now.x.now in
    let claim = plain.type_check x (plain_x c.args.check.now.f.now) (plain_x c.args.check.now.y.now) in
    let s = c.scope_of-scope.result in
    IfErr-weaker c.judge_types.result (IsStopOf (items_in s) (judged_claim (items_in s) claim) s.limit) (IsStopOf (items_of k) (judged_claim (items_of k) claim) c.args.limit)
    (claim_back k c.build_names-3.new.built c.args.limit x s c.scope_of-scope.ensures.of claim) c.judge_types.ensures.stop

pub returns-clause-built : goal.returns-clause-built
returns-clause-built c = c.build_names-3.ensures.built (c.build_names-2.ensures.built (c.build_names.ensures.built c.requires.built))

use Rattle.std.proofs.Common.{inl}
use Rattle.fast_syntax.specs.Plain.{plain_x}
use Rattle.fast_build.specs.Items.{items_of}
use Rattle.model_names.specs.Kinds.{language}
use Rattle.fast_eval.proofs.Keeping.{named_grown, known_grown}
use Rattle.fast_eval.proofs.Scoped.{made_there, named_there}
use Rattle.fast_eval.proofs.assertions.find_between.Goals as goal

pub returns-in_err-build_names-clause-built : goal.returns-in_err-build_names-clause-built
returns-in_err-build_names-clause-built c = c.build_names.ensures.built c.requires.built

pub build_names-requires-2 : goal.build_names-requires-2
build_names-requires-2 c = record { known = known_grown (items_of c.args.checked.now) c.args.built.now c.build_names.new.built c.build_names.ensures.grown (plain_x c.args.y.now) c.requires.also_known }

pub returns-in_err-build_names-2-clause-built : goal.returns-in_err-build_names-2-clause-built
returns-in_err-build_names-2-clause-built c = c.build_names-2.ensures.built (c.build_names.ensures.built c.requires.built)

pub scope_of-scope-requires : goal.scope_of-scope-requires
scope_of-scope-requires c =
    let (type, made, also) = c.requires.made in
    record { built = c.build_names-2.ensures.built (c.build_names.ensures.built c.requires.built); shallow = c.requires.shallow; made = (type, inl made) }

pub judge_equal-requires-clause-first : goal.judge_equal-requires-clause-first
judge_equal-requires-clause-first c =
    let x = plain_x c.args.x.now in
    made_there c.args.checked.now c.build_names-2.new.built c.args.limit x c.scope_of-scope.result c.scope_of-scope.ensures.of c.requires.made.0 (inl c.requires.made.1) x c.requires.made.1

pub judge_equal-requires-clause-second : goal.judge_equal-requires-clause-second
judge_equal-requires-clause-second c =
    made_there c.args.checked.now c.build_names-2.new.built c.args.limit (plain_x c.args.x.now) c.scope_of-scope.result c.scope_of-scope.ensures.of c.requires.made.0 (inl c.requires.made.1) (plain_x c.args.y.now) c.requires.made.2

pub judge_equal-requires-clause-first_named : goal.judge_equal-requires-clause-first_named
judge_equal-requires-clause-first_named c =
    let x = plain_x c.args.x.now in
    named_there c.args.checked.now c.build_names-2.new.built c.args.limit x c.scope_of-scope.result c.scope_of-scope.ensures.of language x
    (named_grown language c.build_names.new.built c.build_names-2.new.built c.build_names-2.ensures.grown x (c.in_ok-build_names.ensures {u = tt}).named)

pub returns-clause-built : goal.returns-clause-built
returns-clause-built c = c.build_names-2.ensures.built (c.build_names.ensures.built c.requires.built)

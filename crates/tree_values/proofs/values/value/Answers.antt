use Rattle.std.proofs.Common.{subst}
use Rattle.model_tree.specs.Limits.{most_nodes}
use Rattle.fast_syntax.specs.Plain.{plain_x}
use Rattle.tree_values.specs.Values.{items_in, type_in, HasValue}
use Rattle.tree_values.proofs.Evaluated.{value_is, value_typed, value_in_limits}
use Rattle.tree_values.proofs.Stopped.{stop_large}
use Rattle.tree_values.proofs.values.value.Goals as goal

pub returns-in-Some-clause-value : goal.returns-in-Some-clause-value
returns-in-Some-clause-value c = λ printed told.
    (let items = items_in c.args.given.now in
    let signature = type_in c.args.given.now c.args.of.now in
    let x = plain_x c.args.x.now in
    value_is items printed signature x c.in-Some.found (subst (HasValue items printed signature x most_nodes) c.in-Some.is (c.in_ok-found.ensures.value printed told)))

pub returns-in-Some-clause-owed : goal.returns-in-Some-clause-owed
returns-in-Some-clause-owed c = λ printed told.
    (let items = items_in c.args.given.now in
    let signature = type_in c.args.given.now c.args.of.now in
    let x = plain_x c.args.x.now in
    (subst (HasValue items printed signature x most_nodes) c.in-Some.is (c.in_ok-found.ensures.value printed told)).unowed)

pub returns-in-Some-clause-typed : goal.returns-in-Some-clause-typed
returns-in-Some-clause-typed c =
    let g = c.requires.given in
    let items = items_in c.args.given.now in
    let signature = type_in c.args.given.now c.args.of.now in
    let x = plain_x c.args.x.now in
    value_typed items g.printed signature x c.in-Some.found (subst (HasValue items g.printed signature x most_nodes) c.in-Some.is (c.in_ok-found.ensures.value g.printed g.told))

pub returns-in-Some-clause-limits : goal.returns-in-Some-clause-limits
returns-in-Some-clause-limits c =
    let g = c.requires.given in
    let items = items_in c.args.given.now in
    let signature = type_in c.args.given.now c.args.of.now in
    let x = plain_x c.args.x.now in
    value_in_limits items g.printed signature x c.in-Some.found (subst (HasValue items g.printed signature x most_nodes) c.in-Some.is (c.in_ok-found.ensures.value g.printed g.told))

pub returns-in-None-clause-stop : goal.returns-in-None-clause-stop
returns-in-None-clause-stop c = λ printed told.
    (let items = items_in c.args.given.now in
    let signature = type_in c.args.given.now c.args.of.now in
    let x = plain_x c.args.x.now in
    let has = subst (HasValue items printed signature x most_nodes) c.in-None.is (c.in_ok-found.ensures.value printed told) in
    stop_large items printed c.args.given.now.limit signature x has.tree has.is has.held)

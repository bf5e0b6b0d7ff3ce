use Rattle.std.proofs.Common.{◌+◌, ◌++◌, map, get_or, sym, ap, subst, refl, ◌∙◌, arith}
use Rattle.model_sta.specs.Least.{rows_of}
use Rattle.sta_core.specs.Machine.{plain_rule}
use Rattle.sta_ops.specs.Opposites.{plain_begun, rules_for, AreOfClasses}
use Rattle.sta_ops.proofs.NotRules.{made_more, all_made}
use Rattle.sta_ops.proofs.opposites.opposite_rules.Goals as goal

pub add_rules-requires : goal.add_rules-requires
add_rules-requires g c = subst (λ l. AreOfClasses (rows_of c.args.table.now.found) (map plain_begun l)) (sym c.deref.ensures.value) c.in_ok-nodes.ensures.classes

pub constructors-preserved : goal.constructors-preserved
constructors-preserved g c =
    let rows = rows_of c.args.table.now.found in
    let rs = map plain_rule c.args.rules.now in
    made_more c.args.opposites.now c.args.ranks.now rows rs c.constructors.constructor (get_or c.args.ranks.now c.constructors.constructor 0) (map plain_begun c.in_ok-nodes.nodes.items) refl c.in_ok-nodes.ensures.begun c.constructors-test.true (c.constructors.constructor + 1) (omega arith)
    (map plain_rule c.constructors.made.items) (map plain_rule c.add_rules.new.made.items)
    (c.in_ok-add_rules.ensures ∙ ap (λ l. map plain_rule c.constructors.made.items ++ rules_for rows rs c.constructors.constructor (map plain_begun l)) c.deref.ensures.value) c.constructors.invariant

pub returns : goal.returns
returns g c = all_made c.args.opposites.now c.args.ranks.now (rows_of c.args.table.now.found) (map plain_rule c.args.rules.now) c.constructors.constructor (map plain_rule c.constructors.made.items) (omega (arith, c.constructors-test.false)) c.constructors.invariant

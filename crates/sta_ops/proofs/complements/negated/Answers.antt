use Rattle.std.proofs.Common.{length, map, ap, arith}
use Rattle.std.proofs.lemmas.List.{length-map}
use Rattle.model_sta.specs.Least.{rows_of}
use Rattle.sta_core.specs.Machine.{plain_rule}
use Rattle.sta_classes.specs.Rules.{plain_rules}
use Rattle.sta_ops.proofs.Doubling.{known_double, complement_is, complement_owed}
use Rattle.sta_ops.proofs.Fitting.{machine_fits, known_fit}
use Rattle.sta_ops.proofs.complements.negated.Goals as goal

pub opposite_of-requires : goal.opposite_of-requires
opposite_of-requires g c = record {
  fit = known_fit c.args.a.now.sta c.ranks.result.now c.rules.result.now c.ranks.ensures c.rules.ensures.rules c.rules.ensures.fit;
  state = omega (arith, c.requires.state, ap length c.rules.ensures.rules, length-map c.rules.result.now (λ those. map plain_rule those.items));
}

pub returns-clause-language : goal.returns-clause-language
returns-clause-language g c =
    let a = c.args.a.now in
    let rows = rows_of c.in_ok-table.table.found in
    complement_is (g.T.Theory.meaning c.args.theory.now) g.T.Atom.PartialEq.eq (g.met.T.Theory.equal_is_own c.args.theory.now) g.met.T.Atom.Eq.laws (g.T.Theory.atom_fits c.args.theory.now) rows a c.in_ok-made.made
    (machine_fits a.sta c.rules.result.now c.rules.ensures.rules c.rules.ensures.fit) c.requires.state (known_double rows a.sta c.ranks.result.now (plain_rules c.rules.result.now) a.state c.in_ok-made.made c.ranks.ensures c.rules.ensures.rules c.in_ok-made.ensures) c.in_ok-table.ensures.table.complete

pub returns-clause-made : goal.returns-clause-made
returns-clause-made g c =
    let a = c.args.a.now in
    let rows = rows_of c.in_ok-table.table.found in
    complement_owed (g.T.Theory.meaning c.args.theory.now) g.T.Atom.PartialEq.eq (g.met.T.Theory.equal_is_own c.args.theory.now) g.met.T.Atom.Eq.laws (g.T.Theory.atom_fits c.args.theory.now) rows a c.in_ok-made.made
    (machine_fits a.sta c.rules.result.now c.rules.ensures.rules c.rules.ensures.fit) c.requires.state (known_double rows a.sta c.ranks.result.now (plain_rules c.rules.result.now) a.state c.in_ok-made.made c.ranks.ensures c.rules.ensures.rules c.in_ok-made.ensures) c.requires.fit

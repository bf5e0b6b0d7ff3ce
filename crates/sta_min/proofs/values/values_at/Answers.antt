use Rattle.std.proofs.Common.{IfErr, map, sym, subst}
use Rattle.std.proofs.lemmas.Result.{err_from_is_err_and}
use Rattle.label_core.specs.Formula.{plain_formula}
use Rattle.sta_classes.specs.Guards.{all_guards}
use Rattle.sta_classes.specs.Rules.{plain_rules}
use Rattle.sta_classes.specs.Stop.{ClassStopsFor}
use Rattle.sta_min.specs.Values.{AreGuardsAt}
use Rattle.sta_min.proofs.Telling.{formulas_fit, stops_all, tell_apart}
use Rattle.sta_min.proofs.values.values_at.Goals as goal

pub rows_at-requires : goal.rows_at-requires
rows_at-requires g c = record {
  fit = formulas_fit (plain_rules c.args.rules.now) c.args.constructor c.deref.result.now (subst (λ l. AreGuardsAt (plain_rules c.args.rules.now) c.args.constructor (map plain_formula l)) (sym c.deref.ensures.value) c.in_ok-guards.ensures) (g.T.Theory.atom_fits c.args.theory.now) c.requires.fit;
}

pub returns-clause-tell : goal.returns-clause-tell
returns-clause-tell g c =
    tell_apart (plain_rules c.args.rules.now) c.args.constructor c.deref.result.now (subst (λ l. AreGuardsAt (plain_rules c.args.rules.now) c.args.constructor (map plain_formula l)) (sym c.deref.ensures.value) c.in_ok-guards.ensures) (g.T.Theory.meaning c.args.theory.now)
    c.in_ok-rows.rows.items c.in_ok-rows.ensures.rows c.in_ok-values_in.field-0.items c.in_ok-values_in.ensures

pub returns-in_err-rows-clause-stop : goal.returns-in_err-rows-clause-stop
returns-in_err-rows-clause-stop g c =
    let M = g.T.Theory.meaning c.args.theory.now in
    let p = err_from_is_err_and c.from_residual-in_err-rows.result c.from_residual-in_err-rows.ensures.1 in
    let stop = (c.in_err-rows.ensures {u = tt}).stop in
    subst (λ r. IfErr r (ClassStopsFor M ⊥ (all_guards (plain_rules c.args.rules.now)))) (sym p.1)
    (subst (ClassStopsFor M ⊥ (all_guards (plain_rules c.args.rules.now))) (sym p.2)
    (stops_all (plain_rules c.args.rules.now) c.args.constructor c.deref.result.now (subst (λ l. AreGuardsAt (plain_rules c.args.rules.now) c.args.constructor (map plain_formula l)) (sym c.deref.ensures.value) c.in_ok-guards.ensures) M
    g.T.Atom.PartialEq.eq (g.met.T.Theory.equal_is_own c.args.theory.now) g.met.T.Atom.Eq.laws c.in_err-rows.field-0.0 stop))

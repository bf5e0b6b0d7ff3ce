use Rattle.std.proofs.Common.{IfErr, sym, ap, subst, ◌∙◌}
use Rattle.std.proofs.lemmas.Result.{err_from_is_err_and}
use Rattle.sta_core.specs.Sta.{AtomsFit}
use Rattle.sta_classes.specs.declared.class.TheConstants.{CAP}
use Rattle.sta_classes.specs.Guards.{all_guards}
use Rattle.sta_classes.specs.Meant.{HasMoreClasses, StopsClasses, IsBuilt}
use Rattle.sta_classes.specs.Plain.{HasKinds}
use Rattle.sta_classes.specs.Rules.{plain_rules}
use Rattle.sta_classes.specs.Stop.{ClassStopsFor}
use Rattle.sta_min.specs.Least.{IsMinimalOf}
use Rattle.sta_min.proofs.Stopping.{any_stop}
use Rattle.sta_min.proofs.least.minimize.Goals as goal

pub returns-in_err-steps-clause-stop : goal.returns-in_err-steps-clause-stop
returns-in_err-steps-clause-stop g c =
    let M = g.T.Theory.meaning c.args.theory.now in
    let p = err_from_is_err_and c.from_residual-in_err-steps.result c.from_residual-in_err-steps.ensures.1 in
    let stop = (c.in_err-steps.ensures {u = tt}).stop in
    subst (λ r. IfErr r (StopsClasses M c.args.a.now.sta c.args.most)) (sym p.1)
    (subst (StopsClasses M c.args.a.now.sta c.args.most) (sym p.2)
    (subst (λ rules. ClassStopsFor M (HasMoreClasses M c.args.a.now.sta c.args.most) (all_guards rules) c.in_err-steps.field-0.0) c.rules.ensures.rules
    (any_stop M (HasMoreClasses M c.args.a.now.sta c.args.most) (all_guards (plain_rules c.rules.result.now)) c.in_err-steps.field-0.0 stop)))

pub least_of-requires-clause-ranks : goal.least_of-requires-clause-ranks
least_of-requires-clause-ranks g c = c.ranks-3.ensures ∙ ap (λ m. m.ranks) (sym c.in_ok-table.ensures.machine) ∙ ap (λ t. t.machine.ranks) (sym c.in_ok-steps.ensures.table)

pub least_of-requires-clause-built : goal.least_of-requires-clause-built
least_of-requires-clause-built g c = subst (IsBuilt (g.T.Theory.meaning c.args.theory.now) CAP) (sym c.in_ok-steps.ensures.table) c.in_ok-table.ensures.built

pub least_of-requires-clause-kinds : goal.least_of-requires-clause-kinds
least_of-requires-clause-kinds g c = subst (HasKinds g.T.Theory.atom_holds) (sym c.in_ok-steps.ensures.table) c.in_ok-table.ensures.kinds

pub least_of-requires-clause-atoms : goal.least_of-requires-clause-atoms
least_of-requires-clause-atoms g c =
    subst (λ t. AtomsFit (g.T.Theory.atom_fits c.args.theory.now) t.machine) (sym c.in_ok-steps.ensures.table) (subst (AtomsFit (g.T.Theory.atom_fits c.args.theory.now)) (sym c.in_ok-table.ensures.machine) c.requires.fit)

pub returns-clause-least : goal.returns-clause-least
returns-clause-least g c =
    (subst (λ m. IsMinimalOf (g.T.Theory.meaning c.args.theory.now) (g.T.Theory.atom_fits c.args.theory.now) (record { sta = m; state = c.args.a.now.state }) c.in_ok-made.made) (ap (λ t. t.machine) c.in_ok-steps.ensures.table ∙ c.in_ok-table.ensures.machine) c.in_ok-made.ensures).least

pub returns-clause-little : goal.returns-clause-little
returns-clause-little g c =
    (subst (λ m. IsMinimalOf (g.T.Theory.meaning c.args.theory.now) (g.T.Theory.atom_fits c.args.theory.now) (record { sta = m; state = c.args.a.now.state }) c.in_ok-made.made) (ap (λ t. t.machine) c.in_ok-steps.ensures.table ∙ c.in_ok-table.ensures.machine) c.in_ok-made.ensures).little

pub returns-clause-made : goal.returns-clause-made
returns-clause-made g c =
    (subst (λ m. IsMinimalOf (g.T.Theory.meaning c.args.theory.now) (g.T.Theory.atom_fits c.args.theory.now) (record { sta = m; state = c.args.a.now.state }) c.in_ok-made.made) (ap (λ t. t.machine) c.in_ok-steps.ensures.table ∙ c.in_ok-table.ensures.machine) c.in_ok-made.ensures).made

pub returns-clause-finals : goal.returns-clause-finals
returns-clause-finals g c = c.in_ok-made.ensures.finals

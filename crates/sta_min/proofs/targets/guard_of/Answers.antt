use Rattle.std.proofs.Common.{◌≡◌, map, get_or, length, refl, sym, subst, arith}
use Rattle.label_core.specs.Formula.{plain_formula}
use Rattle.sta_min.specs.Targets.{IsGuardOfAny}
use Rattle.sta_min.proofs.Guarding.{Guards, more_guards, any_guard}
use Rattle.sta_min.proofs.targets.guard_of.Goals as goal

pub classes-preserved : goal.classes-preserved
classes-preserved g c =
    more_guards g.T.Atom.PartialEq.eq g.T.Theory.atom_holds c.args.table.now c.args.constructor c.args.children.now c.args.classes.now c.classes.class-index (get_or c.args.classes.now c.classes.class-index 0) refl
    c.classes.guards.items c.push.new.self.items c.in_ok-guard.field-0 c.classes.invariant (record { holds_there = c.in_ok-guard.ensures.holds; atoms = c.in_ok-guard.ensures.atoms }) c.in_ok-push.ensures.items

pub returns : goal.returns
returns g c =
    let all : c.classes.class-index ≡ length c.args.classes.now = omega (arith, c.classes-test.false, c.classes.auto.class-index-end) in
    subst (IsGuardOfAny g.T.Atom.PartialEq.eq g.T.Theory.atom_holds c.args.table.now c.args.constructor c.args.children.now c.args.classes.now) (sym c.disjunction.ensures)
    (any_guard g.T.Atom.PartialEq.eq g.T.Theory.atom_holds c.args.table.now c.args.constructor c.args.children.now c.args.classes.now (map plain_formula c.classes.guards.items)
    (subst (λ n. Guards g.T.Atom.PartialEq.eq g.T.Theory.atom_holds c.args.table.now c.args.constructor c.args.children.now c.args.classes.now n (map plain_formula c.classes.guards.items)) all c.classes.invariant))

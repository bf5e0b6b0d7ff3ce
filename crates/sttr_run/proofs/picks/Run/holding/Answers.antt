use Rattle.std.proofs.Common.{◌≡◌, false, map, subst, sym, arith}
use Rattle.std.proofs.lemmas.List.{nil_from_length}
use Rattle.model_tree.specs.Formula.{EveryAtom}
use Rattle.label_core.specs.Formula.{plain_formula}
use Rattle.label_split.specs.Signs.{FormulasFit}
use Rattle.sttr_core.specs.Terms.{plain_term}
use Rattle.sttr_run.specs.Drafts.{all_say}
use Rattle.sttr_run.specs.Found.{PickStands}
use Rattle.sttr_run.specs.Plain.{plain_second, plain_triple}
use Rattle.sttr_run.specs.Runs.{IsPutAtom}
use Rattle.sttr_run.proofs.Members.{all_at}
use Rattle.sttr_run.proofs.Popping.{HoldSoFar, hold_start, hold_skip, hold_more, hold_end, hold_in}
use Rattle.sttr_run.proofs.Standing.{guards_fit}
use Rattle.sttr_run.proofs.picks.Run.holding.Goals as goal

pub picks-init : goal.picks-init
picks-init g c = subst (HoldSoFar g.T.Theory.atom_holds g.T.Labels.make (g.T.Theory.meaning c.args.self.now.theory.now).has c.args.picks.items c.args.picks.items) (sym c.new-kept.ensures.items) (hold_start g.T.Theory.atom_holds g.T.Labels.make (g.T.Theory.meaning c.args.self.now.theory.now).has c.args.picks.items)

pub may_hold-requires : goal.may_hold-requires
may_hold-requires g c =
    let at = hold_in g.T.Theory.atom_holds g.T.Labels.make (g.T.Theory.meaning c.args.self.now.theory.now).has c.args.picks.items c.picks.picks.items c.pop.new.self.items c.picks.kept.items c.in-Some.pick c.in-Some.ensures.items c.picks.invariant in
    subst (FormulasFit (g.T.Theory.atom_fits c.args.self.now.theory.now)) (sym c.deref.ensures.value)
    (guards_fit (EveryAtom (g.T.Theory.atom_fits c.args.self.now.theory.now)) (EveryAtom (IsPutAtom g.T.Map.PartialEq.eq g.T.Labels.is_put g.T.Labels.is_chained (g.T.Theory.atom_fits c.args.self.now.theory.now) (g.T.Labels.map_fits c.args.self.now.theory.now) g.T.Labels.map_makes (plain_second c.args.self.now.second.now) (plain_term c.args.self.now.term.now))) c.in-Some.pick.guards.items (all_at (PickStands g.T.Map.PartialEq.eq g.T.Labels.is_put g.T.Labels.is_chained (g.T.Theory.atom_fits c.args.self.now.theory.now) (g.T.Labels.map_fits c.args.self.now.theory.now) g.T.Labels.map_makes (plain_second c.args.self.now.second.now) (plain_term c.args.self.now.term.now) (plain_triple c.args.self.now.triple.now).second) c.args.picks.items c.in-Some.pick c.requires.stand at).guards)

pub picks-preserved-then-not-branch : goal.picks-preserved-then-not-branch
picks-preserved-then-not-branch g c =
    hold_skip g.T.Theory.atom_holds g.T.Labels.make (g.T.Theory.meaning c.args.self.now.theory.now).has c.args.picks.items c.picks.picks.items c.pop.new.self.items c.picks.kept.items c.in-Some.pick c.in-Some.ensures.items c.picks.invariant
    (λ l d. subst (λ gs. all_say g.T.Theory.atom_holds (map plain_formula gs) l ≡ false) c.deref.ensures.value (c.in_ok-may_hold.ensures c.if-not-branch.true l d))

pub picks-preserved : goal.picks-preserved
picks-preserved g c = hold_more g.T.Theory.atom_holds g.T.Labels.make (g.T.Theory.meaning c.args.self.now.theory.now).has c.args.picks.items c.picks.picks.items c.pop.new.self.items c.picks.kept.items c.push.new.self.items c.in-Some.pick c.in-Some.ensures.items c.in_ok-push.ensures.items c.picks.invariant

pub returns : goal.returns
returns g c = record { kept = hold_end g.T.Theory.atom_holds g.T.Labels.make (g.T.Theory.meaning c.args.self.now.theory.now).has c.args.picks.items c.picks.picks.items c.picks.kept.items (nil_from_length c.picks.picks.items (omega (arith, c.in_default.ensures.cases.0, c.picks.picks.ok.0))) c.picks.invariant }

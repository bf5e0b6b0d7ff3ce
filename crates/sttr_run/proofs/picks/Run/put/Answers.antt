use Rattle.std.proofs.Common.{inl, subst, sym, rules}
use Rattle.std.proofs.lemmas.Int.{to_z-of_z}
use Rattle.std.specs.Prelude.{FitsSigned}
use Rattle.std.specs.Int.{w128}
use Rattle.std.proofs.lemmas.Int.{to_z-of_z}
use Rattle.std.specs.Prelude.{FitsSigned}
use Rattle.std.specs.Int.{w128}
use Rattle.model_tree.specs.Formula.{formula_holds}
use Rattle.label_core.specs.Formula.{plain_formula}
use Rattle.label_core.specs.Maps.{IsPut}
use Rattle.label_core.specs.Puts.{OfSome}
use Rattle.sttr_core.specs.Terms.{plain_term}
use Rattle.sttr_run.specs.Plain.{plain_second}
use Rattle.sttr_run.specs.Runs.{IsPutAtom}
use Rattle.sttr_run.proofs.Standing.{every_from, atom_in}
use Rattle.sttr_run.proofs.picks.Run.put.Goals as goal

pub returns-in-Formula-clause-stands : goal.returns-in-Formula-clause-stands
returns-in-Formula-clause-stands g c =
    let (holds, fit, kind, none) = subst (IsPut (g.T.Theory.meaning c.args.self.now.theory.now) (g.T.Theory.atom_fits c.args.self.now.theory.now) (OfSome (g.T.Labels.is_put c.args.map.now) (plain_formula c.args.guard.now)) (OfSome (g.T.Labels.put_outside c.args.map.now) (plain_formula c.args.guard.now)) (λ l. formula_holds (λ a. g.T.Theory.atom_holds a (g.T.Labels.make c.args.map.now l)) (plain_formula c.args.guard.now))) c.in-Formula.is c.in_ok-formula.ensures in (
      fit,
      every_from (OfSome (g.T.Labels.is_put c.args.map.now) (plain_formula c.args.guard.now)) (IsPutAtom g.T.Map.PartialEq.eq g.T.Labels.is_put g.T.Labels.is_chained (g.T.Theory.atom_fits c.args.self.now.theory.now) (g.T.Labels.map_fits c.args.self.now.theory.now) g.T.Labels.map_makes (plain_second c.args.self.now.second.now) (plain_term c.args.self.now.term.now)) (plain_formula c.in-Formula.formula)
          (λ b in_made some. (let (a, at, is) = some in (c.args.map.now, c.requires.map, a, atom_in (plain_second c.args.self.now.second.now) (plain_formula c.args.guard.now) a c.requires.guard at, is))) kind,
    )

pub returns-in-Range-clause-stop : goal.returns-in-Range-clause-stop
returns-in-Range-clause-stop g c =
    let fits : FitsSigned w128 c.in-Range.number = search rules in
    let outside : OfSome (g.T.Labels.put_outside c.args.map.now) (plain_formula c.args.guard.now) c.in-Range.number = subst (IsPut (g.T.Theory.meaning c.args.self.now.theory.now) (g.T.Theory.atom_fits c.args.self.now.theory.now) (OfSome (g.T.Labels.is_put c.args.map.now) (plain_formula c.args.guard.now)) (OfSome (g.T.Labels.put_outside c.args.map.now) (plain_formula c.args.guard.now)) (λ l. formula_holds (λ a. g.T.Theory.atom_holds a (g.T.Labels.make c.args.map.now l)) (plain_formula c.args.guard.now))) c.in-Range.is c.in_ok-formula.ensures in
    let some = subst (OfSome (g.T.Labels.put_outside c.args.map.now) (plain_formula c.args.guard.now)) (sym (to_z-of_z w128 c.in-Range.number fits)) outside in
    (c.args.map.now, c.requires.map, inl (some.0, atom_in (plain_second c.args.self.now.second.now) (plain_formula c.args.guard.now) some.0 c.requires.guard some.1, some.2))

use Rattle.std.proofs.Common.{rules, arith, [], take_all, sym, ap, subst}
use Rattle.std.specs.Prelude.{FitsSigned, IfOk}
use Rattle.std.specs.Int.{w128}
use Rattle.std.proofs.lemmas.Int.{to_z-of_z}
use Rattle.std.proofs.lemmas.Result.{IfOk-weaker}
use Rattle.model_tree.specs.Formula.{atom, negation}
use Rattle.label_core.specs.Formula.{plain_formula, joined}
use Rattle.label_core.specs.Maps.{IsPut}
use Rattle.label_core.specs.Puts.{OfSome, AreEachPut, IsPutFor, IsDenied}
use Rattle.label_core.proofs.Formulas.{not_of, and_of, or_of}
use Rattle.label_core.proofs.Joined.{over_part, over_not, over_and, over_or, none_put, more_put, outside_part, put_joined, put_denied, put_atom}
use Rattle.label_core.proofs.puts.+puts.Goals as goal

pub put_each-loop-part-init : goal.put_each-loop-part-init
put_each-loop-part-init g t c =
    subst (AreEachPut (g.L.Theory.meaning c.args.labels.now) (g.L.Theory.atom_fits c.args.labels.now) (g.L.Labels.is_put c.args.map.now) (g.L.Labels.put_outside c.args.map.now) (λ a l. g.L.Theory.atom_holds a (g.L.Labels.make c.args.map.now l)) c.args.parts.now []) (sym c.new-made.ensures.items) (none_put (g.L.Theory.meaning c.args.labels.now) (g.L.Theory.atom_fits c.args.labels.now) (g.L.Labels.is_put c.args.map.now) (g.L.Labels.put_outside c.args.map.now) (λ a l. g.L.Theory.atom_holds a (g.L.Labels.make c.args.map.now l)) c.args.parts.now)

pub put_each-put_within-requires : goal.put_each-put_within-requires
put_each-put_within-requires g t c κs within =
    let before = c.decreases in
    (omega arith, (within.0, (within.1.0, (within.1.1.0, (within.1.1.1.0, (within.1.1.1.1, (c.requires.map_fits, over_part (λ made. g.L.Labels.map_makes made c.args.map.now) g.L.Theory.atom_fits c.args.parts.now c.loop-part.part-index c.part-item.result c.loop-part-test.true c.part-item.is c.requires.parts_fit)))))))

pub put_each-loop-part-preserved : goal.put_each-loop-part-preserved
put_each-loop-part-preserved g t c =
    more_put (g.L.Theory.meaning c.args.labels.now) (g.L.Theory.atom_fits c.args.labels.now) (g.L.Labels.is_put c.args.map.now) (g.L.Labels.put_outside c.args.map.now) (λ a l. g.L.Theory.atom_holds a (g.L.Labels.make c.args.map.now l))
    c.args.parts.now c.loop-part.part-index c.part-item.result c.loop-part-test.true c.part-item.is c.loop-part.made.items c.push.new.self.items c.in-Formula.formula c.in_ok-push-in-Formula.ensures.items c.loop-part.invariant (rw c.in-Formula.is at c.in_ok-formula.ensures)

pub put_each-returns-in-Range : goal.put_each-returns-in-Range
put_each-returns-in-Range g t c =
    let fits : FitsSigned w128 c.in-Range.number = search rules in
    subst (OfSome (g.L.Labels.put_outside c.args.map.now) (joined c.args.every c.args.parts.now)) (sym (to_z-of_z w128 c.in-Range.number fits))
    (outside_part (g.L.Theory.meaning c.args.labels.now) (g.L.Theory.atom_fits c.args.labels.now) (g.L.Labels.is_put c.args.map.now) (g.L.Labels.put_outside c.args.map.now) (λ a l. g.L.Theory.atom_holds a (g.L.Labels.make c.args.map.now l)) c.args.parts.now c.loop-part.part-index c.part-item.result c.loop-part-test.true c.part-item.is c.args.every c.in-Range.number (rw c.in-Range.is at c.in_ok-formula.ensures))

pub put_each-returns : goal.put_each-returns
put_each-returns g t c =
    put_joined (g.L.Theory.meaning c.args.labels.now) (g.L.Theory.atom_fits c.args.labels.now) (g.L.Labels.is_put c.args.map.now) (g.L.Labels.put_outside c.args.map.now) (λ a l. g.L.Theory.atom_holds a (g.L.Labels.make c.args.map.now l)) c.args.parts.now c.loop-part.made.items
    (subst (λ fs. AreEachPut (g.L.Theory.meaning c.args.labels.now) (g.L.Theory.atom_fits c.args.labels.now) (g.L.Labels.is_put c.args.map.now) (g.L.Labels.put_outside c.args.map.now) (λ a l. g.L.Theory.atom_holds a (g.L.Labels.make c.args.map.now l)) c.args.parts.now fs c.loop-part.made.items) (take_all c.loop-part.part-index c.args.parts.now c.loop-part-test.false) c.loop-part.invariant)
    c.args.every c.joined.result c.joined.ensures

pub put_within-put_within-requires : goal.put_within-put_within-requires
put_within-put_within-requires g t c κs within =
    let before = c.decreases in
    (omega arith, (within.0, (within.1.0, (within.1.1.0, (within.1.1.1.0, (within.1.1.1.1, (c.requires.map_fits, over_not (λ made. g.L.Labels.map_makes made c.args.map.now) g.L.Theory.atom_fits c.args.formula.now c.in-Not.inner c.deref.result.now c.in-Not.is c.deref.ensures c.requires.formula_fits)))))))

pub put_within-put_each-requires : goal.put_within-put_each-requires
put_within-put_each-requires g t c κs within =
    let before = c.decreases in
    (omega arith, (within.0, (within.1.0, (within.1.1.0, (within.1.1.1.0, (within.1.1.1.1, (c.requires.map_fits, over_and (λ made. g.L.Labels.map_makes made c.args.map.now) g.L.Theory.atom_fits c.args.formula.now c.in-And.parts c.deref-in-And.result.now c.in-And.is c.deref-in-And.ensures.value c.requires.formula_fits)))))))

pub put_within-put_each-requires-in-Or : goal.put_within-put_each-requires-in-Or
put_within-put_each-requires-in-Or g t c κs within =
    let before = c.decreases in
    (omega arith, (within.0, (within.1.0, (within.1.1.0, (within.1.1.1.0, (within.1.1.1.1, (c.requires.map_fits, over_or (λ made. g.L.Labels.map_makes made c.args.map.now) g.L.Theory.atom_fits c.args.formula.now c.in-Or.parts c.deref-in-Or.result.now c.in-Or.is c.deref-in-Or.ensures.value c.requires.formula_fits)))))))

pub put_within-returns-in-Atom : goal.put_within-returns-in-Atom
put_within-returns-in-Atom g t c =
    subst (λ f. IfOk c.subst.result (IsPutFor (g.L.Theory.meaning c.args.labels.now) (g.L.Theory.atom_fits c.args.labels.now) (g.L.Labels.is_put c.args.map.now) (g.L.Labels.put_outside c.args.map.now) (λ a l. g.L.Theory.atom_holds a (g.L.Labels.make c.args.map.now l)) f)) (sym (ap plain_formula c.in-Atom.is))
    (IfOk-weaker c.subst.result (IsPut (g.L.Theory.meaning c.args.labels.now) (g.L.Theory.atom_fits c.args.labels.now) (g.L.Labels.is_put c.args.map.now c.in-Atom.atom) (g.L.Labels.put_outside c.args.map.now c.in-Atom.atom) (λ l. g.L.Theory.atom_holds c.in-Atom.atom (g.L.Labels.make c.args.map.now l)))
    (IsPutFor (g.L.Theory.meaning c.args.labels.now) (g.L.Theory.atom_fits c.args.labels.now) (g.L.Labels.is_put c.args.map.now) (g.L.Labels.put_outside c.args.map.now) (λ a l. g.L.Theory.atom_holds a (g.L.Labels.make c.args.map.now l)) (atom c.in-Atom.atom)) (put_atom (g.L.Theory.meaning c.args.labels.now) (g.L.Theory.atom_fits c.args.labels.now) (g.L.Labels.is_put c.args.map.now) (g.L.Labels.put_outside c.args.map.now) (λ a l. g.L.Theory.atom_holds a (g.L.Labels.make c.args.map.now l)) c.in-Atom.atom) c.subst.ensures)

pub put_within-returns-in_ok-put_within-in-Not : goal.put_within-returns-in_ok-put_within-in-Not
put_within-returns-in_ok-put_within-in-Not g t c =
    subst (λ f. IfOk c.denied.result (IsPutFor (g.L.Theory.meaning c.args.labels.now) (g.L.Theory.atom_fits c.args.labels.now) (g.L.Labels.is_put c.args.map.now) (g.L.Labels.put_outside c.args.map.now) (λ a l. g.L.Theory.atom_holds a (g.L.Labels.make c.args.map.now l)) f)) (not_of c.args.formula.now c.in-Not.inner c.deref.result.now c.in-Not.is c.deref.ensures)
    (IfOk-weaker c.denied.result (IsDenied c.in_ok-put_within-in-Not.field-0) (IsPutFor (g.L.Theory.meaning c.args.labels.now) (g.L.Theory.atom_fits c.args.labels.now) (g.L.Labels.is_put c.args.map.now) (g.L.Labels.put_outside c.args.map.now) (λ a l. g.L.Theory.atom_holds a (g.L.Labels.make c.args.map.now l)) (negation (plain_formula c.deref.result.now))) (λ r is. put_denied (g.L.Theory.meaning c.args.labels.now) (g.L.Theory.atom_fits c.args.labels.now) (g.L.Labels.is_put c.args.map.now) (g.L.Labels.put_outside c.args.map.now) (λ a l. g.L.Theory.atom_holds a (g.L.Labels.make c.args.map.now l)) (plain_formula c.deref.result.now) c.in_ok-put_within-in-Not.field-0 r c.in_ok-put_within-in-Not.ensures is) c.denied.ensures)

pub put_within-returns-in-And : goal.put_within-returns-in-And
put_within-returns-in-And g t c =
    subst (λ f. IfOk c.put_each.result (IsPutFor (g.L.Theory.meaning c.args.labels.now) (g.L.Theory.atom_fits c.args.labels.now) (g.L.Labels.is_put c.args.map.now) (g.L.Labels.put_outside c.args.map.now) (λ a l. g.L.Theory.atom_holds a (g.L.Labels.make c.args.map.now l)) f)) (and_of c.args.formula.now c.in-And.parts c.deref-in-And.result.now c.in-And.is c.deref-in-And.ensures.value) c.put_each.ensures

pub put_within-returns-in-Or : goal.put_within-returns-in-Or
put_within-returns-in-Or g t c =
    subst (λ f. IfOk c.put_each-in-Or.result (IsPutFor (g.L.Theory.meaning c.args.labels.now) (g.L.Theory.atom_fits c.args.labels.now) (g.L.Labels.is_put c.args.map.now) (g.L.Labels.put_outside c.args.map.now) (λ a l. g.L.Theory.atom_holds a (g.L.Labels.make c.args.map.now l)) f)) (or_of c.args.formula.now c.in-Or.parts c.deref-in-Or.result.now c.in-Or.is c.deref-in-Or.ensures.value) c.put_each-in-Or.ensures

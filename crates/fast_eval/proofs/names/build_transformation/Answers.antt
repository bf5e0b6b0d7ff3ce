use Rattle.std.proofs.Common.{ap, sym, ◌∙◌}
use Rattle.std.specs.Prelude.{is_some}
use Rattle.fast_build.specs.Items.{items_of}
use Rattle.fast_eval.specs.Places.{place_in}
use Rattle.fast_eval.proofs.TransBuilt.{trans_there, trans_for_name}
use Rattle.fast_eval.proofs.names.build_transformation.Goals as goal

pub returns-clause-built : goal.returns-clause-built
returns-clause-built c = λ are.
    (let items = items_of c.args.checked.now in
    let (t, found) = trans_there items c.args.built.now c.args.name.now c.requires.known (ap (λ o. is_some (place_in o c.args.name.now)) (sym c.transformations.ensures) ∙ (ap is_some (sym c.place.ensures) ∙ (sym c.is_some.ensures ∙ c.if-is_some.false))) in
    let b = c.in_ok-trans.trans in
    c.add_transformation.ensures.built items are
    (trans_for_name items c.args.checked.now.well_formed c.args.name.now t found b.names.keys b.trans c.in_ok-trans.ensures.transducer c.in_ok-trans.ensures.carried))

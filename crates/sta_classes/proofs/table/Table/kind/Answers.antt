use Rattle.std.proofs.Common.{◌∙◌, arith}
use Rattle.model_sta.proofs.Reached.{same_default}
use Rattle.sta_classes.proofs.Shapes.{in_places, in_place, fits, class_low, kind_is}
use Rattle.sta_classes.proofs.table.Table.kind.Goals as goal

pub index-requires : goal.index-requires
index-requires g c = omega (arith, in_places c.self.inside.sta.now c.self.inside.known.classes.items c.self.inside.known.places.items c.args.self.now c.self.view_is c.self.invariant.1 c.args.constructor c.args.place c.requires.constructor c.requires.place, c.self.inside.known.places.ok.0)

pub index-requires-2 : goal.index-requires-2
index-requires-2 g c = omega (arith, in_place c.self.inside.sta.now c.self.inside.known.classes.items c.self.inside.known.places.items c.args.self.now c.self.view_is c.self.invariant.1 c.args.constructor c.args.place c.requires.constructor c.requires.place c.index.result.now c.index.ensures, c.index.result.now.ok.0)

pub index-requires-3 : goal.index-requires-3
index-requires-3 g c =
    omega (arith, (fits c.self.inside.sta.now c.self.inside.known.classes.items c.self.inside.known.places.items c.args.self.now c.self.view_is c.self.invariant.1 c.args.constructor c.args.place c.requires.constructor c.requires.place c.index.result.now c.index.ensures c.index-2.result.now c.index-2.ensures).0, class_low c.self.inside.sta.now c.self.inside.known.classes.items c.self.inside.known.places.items c.args.self.now c.self.view_is c.self.invariant.1 c.args.constructor c.args.place c.requires.constructor c.requires.place c.index.result.now c.index.ensures c.index-2.result.now c.index-2.ensures c.args.class c.requires.class, c.index-2.result.now.kind_of.ok.0)

pub overflow_cast-result : goal.overflow_cast-result
overflow_cast-result g c =
    let held = fits c.self.inside.sta.now c.self.inside.known.classes.items c.self.inside.known.places.items c.args.self.now c.self.view_is c.self.invariant.1 c.args.constructor c.args.place c.requires.constructor c.requires.place c.index.result.now c.index.ensures c.index-2.result.now c.index-2.ensures in
    omega (arith, held.2 c.args.class (class_low c.self.inside.sta.now c.self.inside.known.classes.items c.self.inside.known.places.items c.args.self.now c.self.view_is c.self.invariant.1 c.args.constructor c.args.place c.requires.constructor c.requires.place c.index.result.now c.index.ensures c.index-2.result.now c.index-2.ensures c.args.class c.requires.class), held.1, c.self.invariant.0, c.index-3.ensures ∙ same_default c.index-2.result.now.kind_of.items c.args.class c.index-3.result.now 0 (omega (arith, held.0, class_low c.self.inside.sta.now c.self.inside.known.classes.items c.self.inside.known.places.items c.args.self.now c.self.view_is c.self.invariant.1 c.args.constructor c.args.place c.requires.constructor c.requires.place c.index.result.now c.index.ensures c.index-2.result.now c.index-2.ensures c.args.class c.requires.class)))

pub returns : goal.returns
returns g c =
    let held = fits c.self.inside.sta.now c.self.inside.known.classes.items c.self.inside.known.places.items c.args.self.now c.self.view_is c.self.invariant.1 c.args.constructor c.args.place c.requires.constructor c.requires.place c.index.result.now c.index.ensures c.index-2.result.now c.index-2.ensures in
    c.index-3.ensures ∙ same_default c.index-2.result.now.kind_of.items c.args.class c.index-3.result.now 0 (omega (arith, held.0, class_low c.self.inside.sta.now c.self.inside.known.classes.items c.self.inside.known.places.items c.args.self.now c.self.view_is c.self.invariant.1 c.args.constructor c.args.place c.requires.constructor c.requires.place c.index.result.now c.index.ensures c.index-2.result.now c.index-2.ensures c.args.class c.requires.class)) ∙ kind_is c.self.inside.sta.now c.self.inside.known.classes.items c.self.inside.known.places.items c.args.self.now c.self.view_is c.self.invariant.1 c.args.constructor c.args.place c.requires.constructor c.requires.place c.index.result.now c.index.ensures c.index-2.result.now c.index-2.ensures c.args.class

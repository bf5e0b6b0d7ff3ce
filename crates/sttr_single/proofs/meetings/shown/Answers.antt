use Rattle.std.proofs.Common.{◌-◌, ◌<◌, ◌≡◌, length, get_or, refl, sym, arith}
use Rattle.model_tree.specs.Tree.{relabel}
use Rattle.model_sta.proofs.Reached.{same_default}
use Rattle.sttr_single.proofs.Marked.{none_marked, place_low, applies_there}
use Rattle.sttr_single.proofs.meetings.shown.Goals as goal

pub unreachable-requires : goal.unreachable-requires
unreachable-requires g c =
    let T = g.T.Theory in
    none_marked T.atom_holds c.args.looks.now c.requires.own c.args.joints.now c.requires.rules c.in_ok-sta.sta c.in_ok-sta.ensures (relabel T.label_of c.args.tree) c.in_ok-marks.marks.rows c.in_ok-marks.ensures c.states-own.result c.states.result c.states-own.ensures c.states.ensures (c.in_default.ensures {u = tt}) c.requires.applies

pub offset_bounds-joints-marked : goal.offset_bounds-joints-marked
offset_bounds-joints-marked g c =
    let T = g.T.Theory in
    let low = place_low T.atom_holds c.args.looks.now c.requires.own c.args.joints.now c.requires.rules c.in_ok-sta.sta c.in_ok-sta.ensures (relabel T.label_of c.args.tree) c.in_ok-marks.marks.rows c.in_ok-marks.ensures c.states-own.result c.states.result c.states-own.ensures c.states.ensures c.in-Some.marked (c.in-Some.ensures {u = tt}) in
    omega (arith, low)

pub bounds-joints-marked : goal.bounds-joints-marked
bounds-joints-marked g c =
    let T = g.T.Theory in
    place_low T.atom_holds c.args.looks.now c.requires.own c.args.joints.now c.requires.rules c.in_ok-sta.sta c.in_ok-sta.ensures (relabel T.label_of c.args.tree) c.in_ok-marks.marks.rows c.in_ok-marks.ensures c.states-own.result c.states.result c.states-own.ensures c.states.ensures c.in-Some.marked (c.in-Some.ensures {u = tt})

pub bounds-joints-marked-in-Some : goal.bounds-joints-marked-in-Some
bounds-joints-marked-in-Some g c =
    let T = g.T.Theory in
    place_low T.atom_holds c.args.looks.now c.requires.own c.args.joints.now c.requires.rules c.in_ok-sta.sta c.in_ok-sta.ensures (relabel T.label_of c.args.tree) c.in_ok-marks.marks.rows c.in_ok-marks.ensures c.states-own.result c.states.result c.states-own.ensures c.states.ensures c.in-Some.marked (c.in-Some.ensures {u = tt})

pub returns : goal.returns
returns g c =
    let T = g.T.Theory in
    let xs = c.args.joints.now in
    let k = c.in-Some.marked - c.states-own.result in
    let x = get_or xs k c.index-joints-marked.result in
    let low : k < length xs =
    place_low T.atom_holds c.args.looks.now c.requires.own c.args.joints.now c.requires.rules c.in_ok-sta.sta c.in_ok-sta.ensures (relabel T.label_of c.args.tree) c.in_ok-marks.marks.rows c.in_ok-marks.ensures c.states-own.result c.states.result c.states-own.ensures c.states.ensures c.in-Some.marked (c.in-Some.ensures {u = tt}) in
    let is : get_or xs k x ≡ x = same_default xs k x c.index-joints-marked.result low in
    record {
      joint = x;
      there = (k, low, is);
      applies = applies_there T.atom_holds c.args.looks.now c.requires.own c.args.joints.now c.requires.rules c.in_ok-sta.sta c.in_ok-sta.ensures (relabel T.label_of c.args.tree) c.in_ok-marks.marks.rows c.in_ok-marks.ensures c.states-own.result c.states.result c.states-own.ensures c.states.ensures c.in-Some.marked (c.in-Some.ensures {u = tt}) x (sym is);
      state_is = refl;
      first_is = refl;
      second_is = refl;
      tree_is = refl;
    }

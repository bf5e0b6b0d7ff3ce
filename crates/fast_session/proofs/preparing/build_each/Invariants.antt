use Rattle.std.proofs.Common.{take, Contains}
use Rattle.fast_eval.specs.Defined.{AreDefinedOf}
use Rattle.fast_session.specs.Items.{IsBuiltMore}
use Rattle.fast_session.specs.Kept.{items_in}
use Rattle.fast_session.specs.Needed.{AreComposableOf}
use Rattle.fast_session.proofs.preparing.build_each.Given as goal

abbrev pub invariant-items : goal.invariant-items
invariant-items l = record {
  more : IsBuiltMore (items_in l.around) l.initial.kept l.kept;
  composable : AreComposableOf (items_in l.around) (Contains l.names.keys) (take l.item-index (items_in l.around));
  defined : AreDefinedOf (Contains l.names.keys) l.kept.built (take l.item-index (items_in l.around));
}

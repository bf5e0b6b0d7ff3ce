use Rattle.std.proofs.Common.{sym, ap, ◌∙◌}
use Rattle.fast_tree.specs.declared.signature.CtorOf.{CtorOf}
use Rattle.tree_files.proofs.Lookup.{rank_there}
use Rattle.tree_files.proofs.types.rank_at.Goals as goal

pub returns-then-place-constructors : goal.returns-then-place-constructors
returns-then-place-constructors c =
    ap (λ (k : CtorOf). k.rank) (sym c.index-constructors-place.is) ∙ rank_there c.args.constructors.now c.args.place c.index-constructors-place.result c.if-place-constructors.true c.index-constructors-place.is

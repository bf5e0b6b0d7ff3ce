use Rattle.std.proofs.Common.{List, ap, ◌∙◌, ◌∷◌, ◌++◌, []}
use Rattle.label_reader.proofs.keep.pushed.Goals as goal

pub returns : goal.returns
returns g c = let e = c.in_ok-all.ensures in (c.in_ok-all.item, e.1, ◌∙◌ {A = List g.row.T.Denot} c.in_ok-push.ensures.items (ap (λ v. v.items ++ c.in_ok-all.item ∷ []) e.0))

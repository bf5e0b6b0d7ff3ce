use Rattle.std.proofs.Common.{ap, ◌∙◌}
use Rattle.model_sta.specs.Sets.{has}
use Rattle.sta_classes.proofs.Trees.{row_here}
use Rattle.sta_classes.proofs.table.Table.has.Goals as goal

pub returns : goal.returns
returns g c =
    c.has.ensures ∙ ap (λ q. has q c.args.state) (row_here _ c.self.inside.known.classes.items _ c.args.self.now c.self.view_is c.args.class c.index.result.now c.requires c.index.ensures)

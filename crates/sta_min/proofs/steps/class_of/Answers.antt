use Rattle.std.proofs.Common.{sym, ◌∙◌}
use Rattle.sta_min.proofs.Stepping.{class_there, class_missing}
use Rattle.sta_min.proofs.steps.class_of.Goals as goal

pub returns-in-Some : goal.returns-in-Some
returns-in-Some g c =
    class_there (g.T.Theory.meaning c.args.theory.now) c.args.steps.now.table.now c.requires.read.table (g.met.T.Theory.keeps_labels c.args.theory.now) c.args.node.now.constructor c.args.node.now.value.now c.args.node.now.children.now c.requires.node
    c.args.steps.now.classes c.requires.read.classes c.in_ok-row.row c.in_ok-row.ensures c.in-Some.class (sym c.get.ensures.value ∙ sym c.copied.ensures ∙ c.in-Some.is)

pub returns : goal.returns
returns g c =
    absurd (class_missing (g.T.Theory.meaning c.args.theory.now) c.args.steps.now.table.now c.requires.read.table (g.met.T.Theory.keeps_labels c.args.theory.now) c.args.node.now.constructor c.args.node.now.value.now c.args.node.now.children.now c.requires.node
    c.args.steps.now.classes c.requires.read.classes c.in_ok-row.row c.in_ok-row.ensures (sym c.get.ensures.value ∙ sym c.copied.ensures ∙ c.in-None.is))

use Rattle.std.proofs.Common.{ap, sym, ◌∙◌}
use Rattle.flat_label.specs.declared.texts.TextSide.TheVariants.{Constant}
use Rattle.flat_label.proofs.SideFacts.{join_at_left, join_at_right, join_at_constant, same_unless_told}
use Rattle.flat_label.proofs.classes.joined.Goals as goal

pub returns-in_ok-with_replaced-in-Field-default :
    goal.returns-in_ok-with_replaced-in-Field-default
returns-in_ok-with_replaced-in-Field-default c =
    join_at_left c.args.sides.now c.args.atom.now.left c.args.atom.now.right c.requires.fit.0 c.requires.fit.1 c.requires.rooted c.stand-left.result.now c.stand-right.result.now c.in-Field-default.field-0-0 c.in_ok-with_replaced-in-Field-default.field-0.items c.stand-left.ensures c.stand-right.ensures c.in-Field-default.is-0 c.in_ok-with_replaced-in-Field-default.ensures

pub returns-in_ok-with_replaced-in_default-Field :
    goal.returns-in_ok-with_replaced-in_default-Field
returns-in_ok-with_replaced-in_default-Field c =
    join_at_right c.args.sides.now c.args.atom.now.left c.args.atom.now.right c.requires.fit.0 c.requires.fit.1 c.requires.rooted c.stand-left.result.now c.stand-right.result.now c.in_default-Field.field-0-1 c.in_ok-with_replaced-in_default-Field.field-0.items c.stand-left.ensures c.stand-right.ensures c.in_default-Field.is-1 c.in_ok-with_replaced-in_default-Field.ensures

pub returns-in_ok-with_replaced-in-Constant-Constant :
    goal.returns-in_ok-with_replaced-in-Constant-Constant
returns-in_ok-with_replaced-in-Constant-Constant c =
    join_at_constant c.args.sides.now c.args.atom.now.left c.args.atom.now.right c.requires.fit.0 c.requires.fit.1 c.requires.rooted c.stand-left.result.now c.stand-right.result.now c.in_ok-with_replaced-in-Constant-Constant.field-0.items c.stand-left.ensures c.stand-right.ensures
    (let same = same_unless_told c.in-Constant-Constant.one c.in-Constant-Constant.other (sym c.ne.ensures ∙ c.if-ne.false) in c.in-Constant-Constant.is-0 ∙ ap Constant same ∙ sym c.in-Constant-Constant.is-1) c.in_ok-with_replaced-in-Constant-Constant.ensures

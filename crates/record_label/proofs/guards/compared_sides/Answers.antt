use Rattle.std.proofs.Common.{◌∙◌, sym}
use Rattle.fast_tree.specs.Signatures.{plain_signature}
use Rattle.fast_syntax.specs.Plain.{plain_expr}
use Rattle.record_label.proofs.Compared.{numbers_say, numbers_stop}
use Rattle.record_label.proofs.guards.compared_sides.Goals as goal

pub returns-in-Ok : goal.returns-in-Ok
returns-in-Ok c = numbers_say (plain_signature c.args.signature.now).fields c.args.rel (plain_expr c.args.left.now) (plain_expr c.args.right.now) c.form_of-first.result c.form_of-second.result c.form_of-first.ensures c.form_of-second.ensures (sym c.is_numeric.ensures ∙ c.if-is_numeric.true) c.in-Ok.first c.in-Ok.second c.in-Ok.ensures.0 c.in-Ok.ensures.1 c.compared_forms.result c.compared_forms.ensures

pub returns-in-Err : goal.returns-in-Err
returns-in-Err c = numbers_stop (plain_signature c.args.signature.now).fields c.args.rel (plain_expr c.args.left.now) (plain_expr c.args.right.now) c.form_of-first.result c.form_of-second.result c.form_of-first.ensures c.form_of-second.ensures c.in-Err.stop c.in-Err.ensures

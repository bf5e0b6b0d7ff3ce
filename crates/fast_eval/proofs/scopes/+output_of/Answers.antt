use Rattle.std.proofs.Common.{◌∙◌, ap, subst}
use Rattle.fast_syntax.specs.Plain.{plain_x}
use Rattle.fast_syntax.specs.View.{plain_name}
use Rattle.fast_build.specs.Items.{items_of}
use Rattle.fast_eval.specs.Forms.{outputs_in, IsMadeFrom}
use Rattle.fast_eval.proofs.TypeNames.{name_outputs}
use Rattle.fast_eval.proofs.scopes.+output_of.Goals as goal

pub returns-in-Named-clause-outputs : goal.returns-in-Named-clause-outputs
returns-in-Named-clause-outputs t c =
    let items = items_of c.args.checked.now in
    λ from into made.
    c.outputs_in.ensures ∙ (ap outputs_in c.kind.ensures ∙ name_outputs items from into (plain_name c.in-Named.name) (subst (IsMadeFrom items from into) (ap plain_x c.in-Named.is) made))

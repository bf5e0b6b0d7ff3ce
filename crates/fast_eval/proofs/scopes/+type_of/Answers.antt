use Rattle.std.proofs.Common.{ap, sym, subst, ◌∙◌}
use Rattle.fast_syntax.specs.View.{plain_name}
use Rattle.fast_syntax.specs.Plain.{plain_x}
use Rattle.fast_build.specs.Items.{items_of}
use Rattle.fast_eval.specs.Forms.{inputs_in, IsMadeAt}
use Rattle.fast_eval.proofs.TypeNames.{name_at, at_only, at_first}
use Rattle.fast_eval.proofs.scopes.+type_of.Goals as goal

pub returns-in-Named : goal.returns-in-Named
returns-in-Named t c = λ type made.
    (let items = items_of c.args.checked.now in
    c.inputs_in.ensures ∙ (ap inputs_in c.kind.ensures ∙ name_at items type (plain_name c.in-Named.name) (subst (IsMadeAt items type) (ap plain_x c.in-Named.is) made)))

pub returns-in-Two : goal.returns-in-Two
returns-in-Two t c = λ type made.
    (let items = items_of c.args.checked.now in
    let own = at_first items type c.in-Two.field-0 c.in-Two.field-1 (plain_x c.in-Two.first.value) (plain_x c.in-Two.field-3.value) (subst (IsMadeAt items type) (ap plain_x c.in-Two.is) made) in
    c.type_of-in-Two.ensures type (subst (λ v. IsMadeAt items type (plain_x v)) (sym c.deref-in-Two.ensures) own))

pub returns-in-One : goal.returns-in-One
returns-in-One t c = λ type made.
    (let items = items_of c.args.checked.now in
    let own = at_only items type c.in-One.field-0 c.in-One.field-1 (plain_x c.in-One.inside.value) (subst (IsMadeAt items type) (ap plain_x c.in-One.is) made) in
    c.type_of.ensures type (subst (λ v. IsMadeAt items type (plain_x v)) (sym c.deref.ensures) own))

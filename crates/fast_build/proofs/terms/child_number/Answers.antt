use Rattle.std.proofs.Common.{◌<◌, length, map, sym, subst, ◌∙◌}
use Rattle.model_names.specs.Declared.{same_text}
use Rattle.fast_syntax.specs.View.{plain_name}
use Rattle.fast_build.proofs.Naming.{mapped_place, mapped_nowhere}
use Rattle.fast_build.proofs.terms.child_number.Goals as goal

pub unreachable-requires : goal.unreachable-requires
unreachable-requires c = mapped_nowhere (λ v. same_text v.text c.args.name.now) plain_name c.args.vars.now (sym c.variable_place.ensures ∙ c.in_default.is) c.requires

pub returns-in-Ok : goal.returns-in-Ok
returns-in-Ok c =
    let found = mapped_place (λ v. same_text v.text c.args.name.now) plain_name c.args.vars.now c.in-Some.place (sym c.variable_place.ensures ∙ c.in-Some.is) in
    let is = c.in-Ok.ensures.1 ∙ sym found.1 in
    record { below = subst (λ n. n < length (map plain_name c.args.vars.now)) (sym is) found.0; is = is }

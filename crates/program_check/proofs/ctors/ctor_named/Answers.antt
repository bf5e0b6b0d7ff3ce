use Rattle.std.proofs.Common.{◌∙◌, sym, ap, map}
use Rattle.std.specs.Option.{option_and_then}
use Rattle.std.specs.Prelude.{slice_get}
use Rattle.fast_syntax.specs.View.{plain_ctor}
use Rattle.program_check.specs.Numbered.{is_ctor}
use Rattle.program_check.proofs.Found.{got}
use Rattle.program_check.proofs.Searching.{either_way, found_by}
use Rattle.program_check.proofs.ctors.ctor_named.Goals as goal

pub returns-in-Some : goal.returns-in-Some
returns-in-Some c h =
    let ctors = map plain_ctor c.args.ctors.now in
    either_way (λ o. plain_ctor o.now) c.get.result _ (got (λ o. o.now) plain_ctor c.args.ctors.now c.in-Some.place c.get.result c.get.ensures.lookup ∙ ap (option_and_then (slice_get ctors)) (sym c.in-Some.is ∙ c.place.ensures ∙ h c.args.name.now) ∙ found_by (is_ctor c.args.name.now) ctors)

pub returns-in-None : goal.returns-in-None
returns-in-None c h =
    let ctors = map plain_ctor c.args.ctors.now in
    sym (ap (option_and_then (slice_get ctors)) (sym c.in-None.is ∙ c.place.ensures ∙ h c.args.name.now) ∙ found_by (is_ctor c.args.name.now) ctors)

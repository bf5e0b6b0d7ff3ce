use Rattle.fast_syntax.specs.View.{plain_ctor, plain_type}
use Rattle.program_check.specs.Numbered.{is_ctor, ctor_place}
use Rattle.program_check.proofs.Numbering.{numbered_more, numbered_all}
use Rattle.std.proofs.Common.{[], ◌∙◌, sym, ap, map}
use Rattle.std.specs.Option.{option_map, option_map_or}
use Rattle.program_check.proofs.declarations.number_ctors.Goals as goal

pub ctors-preserved : goal.ctors-preserved
ctors-preserved c = numbered_more plain_ctor is_ctor c.deref-ctors.result.now c.ctors.place c.index-ctors-place.result c.ctors.names c.add.new.self c.ctors-test.true c.index-ctors-place.is c.in_ok-add.ensures.same c.ctors.invariant

pub returns-in_default : goal.returns-in_default
returns-in_default c =
    let none = ap (λ o. option_map_or (λ t. t.ctors) o []) (sym (ap (option_map (λ t. plain_type t.now)) c.in_default.is) ∙ c.own_type.ensures) in
    λ name. c.new-names.ensures name ∙ ap (λ xs. ctor_place xs name) none

pub returns : goal.returns
returns c =
    let own = ap (λ o. option_map_or (λ t. t.ctors) o []) (sym (ap (option_map (λ t. plain_type t.now)) c.in-Some.is) ∙ c.own_type.ensures) in
    λ name. numbered_all plain_ctor is_ctor c.deref-ctors.result.now c.ctors.place c.ctors.names c.ctors-test.false c.ctors.invariant name ∙ ap (λ xs. ctor_place xs name) (ap (map plain_ctor) c.deref-ctors.ensures.value ∙ own)

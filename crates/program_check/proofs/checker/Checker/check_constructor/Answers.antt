use Rattle.std.proofs.Common.{◌≡◌, ◌∙◌, List, Option, Some, sym, ap, map, subst, not, rules}
use Rattle.std.specs.Option.{option_map, option_map_or}
use Rattle.std.specs.Prelude.{slice_get, FitsSigned}
use Rattle.std.specs.Int.{w128}
use Rattle.std.proofs.lemmas.Int.{to_z-of_z}
use Rattle.fast_fault.specs.declared.code.Code.TheVariants.{UnknownName, WrongRank}
use Rattle.fast_syntax.specs.View.{plain_name, plain_ctor, plain_type}
use Rattle.fast_syntax.specs.declared.CtorItem.{CtorItem}
use Rattle.model_program.specs.Syntax as plain
use Rattle.model_checks.specs.Failures.{failure, fails_if}
use Rattle.model_checks.specs.Types.{is_rank, find_ctor}
use Rattle.model_checks.specs.Rules.{constructor_failures}
use Rattle.program_check.specs.Contexts.{items_of}
use Rattle.program_check.specs.Naming.{place_in}
use Rattle.program_check.specs.Numbered.{HasCtors, type_there}
use Rattle.program_check.specs.Typed.{plain_option}
use Rattle.program_check.proofs.Found.{got, ctors_missing}
use Rattle.program_check.proofs.Noting.{as_same, nothing}
use Rattle.program_check.proofs.Typing.{own_numbers}
use Rattle.program_check.proofs.checker.Checker.check_constructor.Goals as goal

pub returns-in_default : goal.returns-in_default
returns-in_default c =
    as_same (ap (λ o. constructor_failures (type_there (items_of c.args.context.now) o) (plain_name c.args.name.now) c.args.count) (sym c.in_default.is)) (nothing c.args.self.now)

pub returns-in_default-type_at : goal.returns-in_default-type_at
returns-in_default-type_at c =
    as_same (ap (λ t. constructor_failures t (plain_name c.args.name.now) c.args.count) (sym (ap plain_option c.in_default-type_at.is) ∙ c.type_at.ensures ∙ ap (type_there (items_of c.args.context.now)) (sym c.in-Some.is))) (nothing c.args.self.now)

pub returns-in_default-get : goal.returns-in_default-get
returns-in_default-get c =
    let context = c.args.context.now in
    let place = c.in-Some.number in
    let none = ctors_missing place_in context.declared.now.ctors.items (items_of context) place context.numbered.ctors
    (sym (ap (option_map (λ names. place_in names.now)) c.in_default-get.is) ∙ got (λ x. x.now) place_in c.deref.result.now place c.get.result c.get.ensures.lookup ∙ ap (λ xs. slice_get (map place_in xs) place) c.deref.ensures.value) in
    as_same (ap (λ t. constructor_failures t (plain_name c.args.name.now) c.args.count) (none ∙ ap (type_there (items_of context)) (sym c.in-Some.is))) (nothing c.args.self.now)

pub returns-in_default-ctor_named : goal.returns-in_default-ctor_named
returns-in_default-ctor_named c =
    let context = c.args.context.now in
    let place = c.in-Some.number in
    let name = plain_name c.args.name.now in
    let count = c.args.count in
    let t = plain_type c.in-Some-type_at.own.now in
    let own : type_there (items_of context) (Some place) ≡ Some t = sym c.type_at.ensures ∙ ap plain_option c.in-Some-type_at.is in
    let numbered = own_numbers place_in c.in-Some-get.numbers.now context.declared.now.ctors.items (items_of context) place t context.numbered.ctors
    (sym (ap (option_map (λ names. place_in names.now)) c.in-Some-get.is) ∙ got (λ x. x.now) place_in c.deref.result.now place c.get.result c.get.ensures.lookup ∙ ap (λ xs. slice_get (map place_in xs) place) c.deref.ensures.value) own in
    let has : HasCtors t.ctors c.in-Some-get.numbers.now = λ name i. numbered i name in
    let none = c.in_default-ctor_named.ensures (subst (λ (xs : List CtorItem). HasCtors (map plain_ctor xs) c.in-Some-get.numbers.now) (sym c.deref-2.ensures.value) has) in
    let fault = λ (o : Option plain.CtorItem). option_map_or (λ (k : plain.CtorItem). fails_if (not (is_rank count k.rank)) WrongRank name.place) o (failure UnknownName name.place) in
    as_same (ap fault (sym none ∙ ap (λ (xs : List CtorItem). find_ctor (map plain_ctor xs) name.text) c.deref-2.ensures.value)
    ∙ ap (λ t. constructor_failures t name count) (sym own ∙ ap (type_there (items_of context)) (sym c.in-Some.is))) c.note.ensures

pub returns : goal.returns
returns c =
    let context = c.args.context.now in
    let place = c.in-Some.number in
    let name = plain_name c.args.name.now in
    let count = c.args.count in
    let t = plain_type c.in-Some-type_at.own.now in
    let own : type_there (items_of context) (Some place) ≡ Some t = sym c.type_at.ensures ∙ ap plain_option c.in-Some-type_at.is in
    let numbered = own_numbers place_in c.in-Some-get.numbers.now context.declared.now.ctors.items (items_of context) place t context.numbered.ctors
    (sym (ap (option_map (λ names. place_in names.now)) c.in-Some-get.is) ∙ got (λ x. x.now) place_in c.deref.result.now place c.get.result c.get.ensures.lookup ∙ ap (λ xs. slice_get (map place_in xs) place) c.deref.ensures.value) own in
    let has : HasCtors t.ctors c.in-Some-get.numbers.now = λ name i. numbered i name in
    let found = c.in-Some-ctor_named.ensures (subst (λ (xs : List CtorItem). HasCtors (map plain_ctor xs) c.in-Some-get.numbers.now) (sym c.deref-2.ensures.value) has) in
    let fault = λ (o : Option plain.CtorItem). option_map_or (λ (k : plain.CtorItem). fails_if (not (is_rank count k.rank)) WrongRank name.place) o (failure UnknownName name.place) in
    let fits : FitsSigned w128 c.in-Some-ctor_named.ctor.now.rank = search rules in
    as_same (ap (λ b. fails_if (not b) WrongRank name.place) (c.is_rank.ensures ∙ ap (is_rank count) (to_z-of_z w128 c.in-Some-ctor_named.ctor.now.rank fits))
    ∙ ap fault (sym found ∙ ap (λ (xs : List CtorItem). find_ctor (map plain_ctor xs) name.text) c.deref-2.ensures.value)
    ∙ ap (λ t. constructor_failures t name count) (sym own ∙ ap (type_there (items_of context)) (sym c.in-Some.is))) c.note_if.ensures

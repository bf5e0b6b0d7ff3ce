use Rattle.std.proofs.Common.{List, ◌∙◌, sym, ap, map, subst}
use Rattle.std.specs.Prelude.{not}
use Rattle.fast_syntax.specs.View.{plain_name, plain_ctor}
use Rattle.fast_syntax.specs.declared.CtorItem.{CtorItem}
use Rattle.model_checks.specs.Failures.{fails_if}
use Rattle.model_checks.specs.Types.{repeated, has_leaf}
use Rattle.program_check.proofs.Noting.{next, same}
use Rattle.std.proofs.lemmas.Simd.{map-map}
use Rattle.fast_fault.specs.declared.code.Code.TheVariants.{DuplicateName, NoLeaf}
use Rattle.model_program.specs.Syntax as plain
use Rattle.program_check.specs.Numbered.{name_place, HasCtors}
use Rattle.program_check.proofs.Repeating.{placed_ctors}
use Rattle.program_check.proofs.checker.Checker.check_ctors.Goals as goal

pub returns : goal.returns
returns c h =
    let last = c.note_if.ensures h in
    let item = c.args.item.now in
    let ctors = map plain_ctor item.ctors.items in
    let named = ap (map (λ c. plain_name c.name)) c.deref.ensures.value ∙ sym (map-map (λ (c : plain.CtorItem). c.name) plain_ctor item.ctors.items) in
    let numbered : HasCtors ctors c.check_repeated-numbers.result = λ name. c.check_repeated-numbers.ensures.places last.had name ∙ ap (λ names. name_place names name) named ∙ placed_ctors ctors name in
    let leaf = c.has_leaf-leaf.ensures (subst (λ (xs : List CtorItem). HasCtors (map plain_ctor xs) c.check_repeated-numbers.result) (sym c.deref-2.ensures.value) numbered) in
    next (same (ap (repeated DuplicateName) named) (c.check_repeated-numbers.ensures.noted last.had))
    (same (ap (λ b. fails_if (not b) NoLeaf item.name.place) (leaf ∙ ap (λ (xs : List CtorItem). has_leaf (map plain_ctor xs)) c.deref-2.ensures.value)) last)

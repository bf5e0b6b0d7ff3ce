use Rattle.std.proofs.Common.{◌≡◌, ◌∙◌, Option, sym, ap, map, length, arith}
use Rattle.std.specs.Borrow.{Bor}
use Rattle.std.specs.Option.{option_map}
use Rattle.std.proofs.lemmas.List.{length-map}
use Rattle.fast_fault.specs.declared.code.Code.TheVariants.{DuplicateVariable}
use Rattle.fast_syntax.specs.View.{plain_name, plain_demand}
use Rattle.fast_syntax.specs.Plain.{plain_guard, plain_rule, plain_out}
use Rattle.model_checks.specs.Types.{is_among, repeated}
use Rattle.fast_syntax.specs.declared.items.Out.{Out}
use Rattle.program_check.specs.Contexts.{items_of}
use Rattle.program_check.specs.Typed.{plain_option}
use Rattle.program_check.specs.declared.vars.Vars.{Vars}
use Rattle.program_check.specs.Variables.{plain_vars, Kept, made_failures}
use Rattle.model_checks.specs.Rules.{constructor_failures, guard_failures}
use Rattle.program_check.proofs.Noting.{same, nothing}
use Rattle.program_check.proofs.Typing.{type_found_at}
use Rattle.std.specs.Prelude.{is_some}
use Rattle.program_check.proofs.Repeating.{placed_among}
use Rattle.program_check.proofs.Searching.{rule_noted}
use Rattle.program_check.proofs.checker.Checker.check_rule.Goals as goal

pub returns-in-Some : goal.returns-in-Some
returns-in-Some c from into found h =
    let rule = c.args.rule.now in
    let items = items_of c.args.context.now in
    let of = c.type_at.ensures ∙ type_found_at items from c.args.types.inputs found.inputs in
    let vars_are = c.deref.ensures.value ∙ sym c.deref-2.ensures.value in
    let vars : Vars = record { all = c.deref.result; names = c.check_repeated.result } in
    let kept : Kept c.check_repeated.new.self vars = λ m text. ap is_some (c.check_repeated.ensures.places m text) ∙ placed_among (map plain_name c.deref-2.result.now) text ∙ ap (λ xs. is_among (map plain_name xs) text) (sym vars_are) in
    let kept_given : Kept c.check_guard.new.self vars = λ m. kept (c.check_guard.ensures m).had in
    let kept_made : Kept c.check_given.new.self vars = λ m. kept_given (c.check_given.ensures from found.inputs kept_given m).had in
    let made = λ (o : Option (Bor Out)). made_failures items from into (plain_vars vars) (option_map (λ o. plain_out o.now) o) in
    let five = same (ap made (sym c.in-Some.is)) (c.check_out.ensures from into found kept_made h) in
    let four = c.check_given.ensures from found.inputs kept_given five.had in
    let three = same (ap (λ s. guard_failures s (plain_guard rule.guard)) c.scope_of-scope.ensures) (c.check_guard.ensures four.had) in
    let two = c.check_repeated.ensures.noted three.had in
    let held = rule.vars.ok in
    let many : c.len.result ≡ length rule.vars.items = omega arith in
    rule_noted items from into (plain_rule rule) (option_map (λ o. plain_out o.now) c.args.out)
    (plain_option c.type_at.result) (map plain_name c.deref.result.now) (map plain_demand c.deref-3.result.now) c.len.result _ _ _ _ _ _
    of (ap (map plain_name) c.deref.ensures.value) (ap (map plain_demand) c.deref-3.ensures.value) (many ∙ sym (length-map rule.vars.items plain_name))
    (same (ap (λ t. constructor_failures t (plain_name rule.ctor) c.len.result) (sym c.type_at.ensures)) (c.check_constructor.ensures two.had)) (same (ap (λ xs. repeated DuplicateVariable (map plain_name xs)) (sym vars_are)) two) three four five

pub returns : goal.returns
returns c from into found h =
    let rule = c.args.rule.now in
    let items = items_of c.args.context.now in
    let of = c.type_at.ensures ∙ type_found_at items from c.args.types.inputs found.inputs in
    let vars_are = c.deref.ensures.value ∙ sym c.deref-2.ensures.value in
    let vars : Vars = record { all = c.deref.result; names = c.check_repeated.result } in
    let kept : Kept c.check_repeated.new.self vars = λ m text. ap is_some (c.check_repeated.ensures.places m text) ∙ placed_among (map plain_name c.deref-2.result.now) text ∙ ap (λ xs. is_among (map plain_name xs) text) (sym vars_are) in
    let kept_given : Kept c.check_guard.new.self vars = λ m. kept (c.check_guard.ensures m).had in
    let made = λ (o : Option (Bor Out)). made_failures items from into (plain_vars vars) (option_map (λ o. plain_out o.now) o) in
    let five = same (ap made (sym c.in_default.is)) (nothing c.check_given.new.self h) in
    let four = c.check_given.ensures from found.inputs kept_given five.had in
    let three = same (ap (λ s. guard_failures s (plain_guard rule.guard)) c.scope_of-scope.ensures) (c.check_guard.ensures four.had) in
    let two = c.check_repeated.ensures.noted three.had in
    let held = rule.vars.ok in
    let many : c.len.result ≡ length rule.vars.items = omega arith in
    rule_noted items from into (plain_rule rule) (option_map (λ o. plain_out o.now) c.args.out)
    (plain_option c.type_at.result) (map plain_name c.deref.result.now) (map plain_demand c.deref-3.result.now) c.len.result _ _ _ _ _ _
    of (ap (map plain_name) c.deref.ensures.value) (ap (map plain_demand) c.deref-3.ensures.value) (many ∙ sym (length-map rule.vars.items plain_name))
    (same (ap (λ t. constructor_failures t (plain_name rule.ctor) c.len.result) (sym c.type_at.ensures)) (c.check_constructor.ensures two.had)) (same (ap (λ xs. repeated DuplicateVariable (map plain_name xs)) (sym vars_are)) two) three four five

use Rattle.std.proofs.Common.{ℕ, List, Option, ◌++◌, ◌∙◌, sym, ap, map, subst}
use Rattle.fast_fault.specs.declared.code.Code.TheVariants.{WrongType}
use Rattle.std.specs.List.{flat_map}
use Rattle.std.proofs.lemmas.Simd.{map-map}
use Rattle.fast_syntax.specs.View.{plain_name}
use Rattle.fast_syntax.specs.Plain.{plain_rule, plain_out_rule, plain_def, plain_body}
use Rattle.fast_syntax.specs.declared.items.Rule.{Rule}
use Rattle.fast_syntax.specs.declared.items.OutRule.{OutRule}
use Rattle.model_grammar.specs.Syntax as plain
use Rattle.model_checks.specs.Rules.{rule_limit, rule_failures, out_rule_failures}
use Rattle.program_check.specs.Contexts.{items_of, before_of}
use Rattle.model_names.specs.Kinds.{declared_type, transformation}
use Rattle.model_checks.specs.Failures.{fails_if}
use Rattle.model_checks.specs.Expressions.{output_as, whole_failures}
use Rattle.program_check.specs.declared.expressions.Kind.TheVariants.{Transformation}
use Rattle.program_check.specs.Typed.{IsType}
use Rattle.program_check.specs.Heads.{head_of, head_of_def}
use Rattle.program_check.proofs.ByHead.{item_noted}
use Rattle.program_check.proofs.Typing.{stands_input, stands_output, only_is, differ_is}
use Rattle.program_check.proofs.Noting.{as_same, and_next}
use Rattle.program_check.proofs.checker.Checker.check_item.Goals as goal

pub returns-in-Sorts : goal.returns-in-Sorts
returns-in-Sorts c = item_noted (items_of c.args.context.now) (before_of c.args.context.now) _ _ _ _ _ (ap plain_body (sym c.in-Sorts.is)) c.check_head-wanted.ensures.noted c.check_type.ensures

pub returns-in-Tree : goal.returns-in-Tree
returns-in-Tree c =
    let items = items_of c.args.context.now in
    let stands = c.check_head-wanted.ensures.standing _ (ap (λ b. head_of (plain_body b)) c.in-Tree.is) in
    item_noted items (before_of c.args.context.now) _ _ _ _ _ (ap plain_body (sym c.in-Tree.is)) c.check_head-wanted.ensures.noted (c.check_as.ensures.noted _ (stands_input items _ _ stands))

pub returns-in-Lang : goal.returns-in-Lang
returns-in-Lang c =
    let items = items_of c.args.context.now in
    let of = plain_name c.in-Lang.own.of in
    let each = rule_failures items of in
    let stands = c.check_head-wanted.ensures.standing _ (ap (λ b. head_of (plain_body b)) c.in-Lang.is) in
    item_noted items (before_of c.args.context.now) _ _ _ _ _ (ap plain_body (sym c.in-Lang.is)) c.check_head-wanted.ensures.noted
    (as_same (ap (λ (xs : List Rule). rule_limit (map plain_rule xs) ++ flat_map each (map plain_rule xs)) c.deref.ensures.value) (c.check_rules.ensures of (record { inputs = stands.input; outputs = stands.input })))

pub returns-in-Trans : goal.returns-in-Trans
returns-in-Trans c =
    let items = items_of c.args.context.now in
    let own = c.in-Trans.own in
    let from = plain_name own.from in
    let into = plain_name own.into in
    let each = out_rule_failures items from into in
    let stands = c.check_head-wanted.ensures.standing _ (ap (λ b. head_of (plain_body b)) c.in-Trans.is) in
    item_noted items (before_of c.args.context.now) _ _ _ _ _ (ap plain_body (sym c.in-Trans.is)) c.check_head-wanted.ensures.noted
    (as_same (ap (λ (xs : List OutRule). rule_limit (map (λ (r : OutRule). plain_rule r.rule) xs) ++ flat_map each (map plain_out_rule xs)) c.deref-in-Trans.ensures.value
    ∙ ap (λ rs. rule_limit rs ++ flat_map each (map plain_out_rule own.rules.items)) (sym (map-map (λ (r : plain.OutRule). r.rule) plain_out_rule own.rules.items)))
    (c.check_out_rules.ensures from into (record { inputs = stands.input; outputs = stands.output })))

pub returns-in-Def : goal.returns-in-Def
returns-in-Def c =
    let items = items_of c.args.context.now in
    let before = before_of c.args.context.now in
    let stands = c.check_head-wanted.ensures.standing _ (ap (λ b. head_of (plain_body b)) c.in-Def.is) in
    let d = plain_def c.in-Def.own in
    let head = head_of_def d in
    let w = c.check_head-wanted.result in
    let s = c.check_as-found.result in
    let is = c.check_as-found.ensures.standing in
    let found = subst (λ (p : Option ℕ). IsType items p (output_as items before transformation d.value)) (sym c.only_as-output.ensures) (only_is items Transformation s.kind s.output _ _ is.kind is.output) in
    item_noted items before _ _ _ _ _ (ap plain_body (sym c.in-Def.is)) c.check_head-wanted.ensures.noted
    (and_next (as_same (ap (λ k. whole_failures items before (declared_type items d.from) k d.value) c.defined_kind-kind.ensures) (c.check_as-found.ensures.noted (declared_type items d.from) (stands_input items head w stands)))
    (as_same (λ i. fails_if ((c.differ-other.ensures ∙ differ_is items _ _ _ _ (stands_output items head w stands) found) i) WrongType (c.place_of.ensures i)) c.note_if.ensures))

pub returns-in-Assert : goal.returns-in-Assert
returns-in-Assert c = item_noted (items_of c.args.context.now) (before_of c.args.context.now) _ _ _ _ _ (ap plain_body (sym c.in-Assert.is)) c.check_head-wanted.ensures.noted c.check_claim.ensures

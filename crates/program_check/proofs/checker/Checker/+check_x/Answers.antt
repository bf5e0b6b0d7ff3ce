use Rattle.std.proofs.Common.{◌≡◌, ◌∙◌, ℕ, ◌+◌, ◌<◌, suc, ◌++◌, Option, Some, None, refl, sym, ap, ap₂, map, subst, length, arith}
use Rattle.fast_syntax.specs.View.{plain_name}
use Rattle.fast_syntax.specs.Plain.{plain_x, plain_expr}
use Rattle.fast_syntax.specs.Slices.{plain_children}
use Rattle.model_checks.specs.Expressions.{expected_as, wanted_second, x_failures, xs_failures}
use Rattle.program_check.specs.Contexts.{items_of, before_of}
use Rattle.program_check.specs.Typed.{IsType}
use Rattle.program_check.specs.Numbered.{type_there}
use Rattle.program_check.specs.declared.expressions.Kind.TheVariants.{Tree}
use Rattle.program_check.specs.Standings.{plain_kind, IsStanding}
use Rattle.program_check.proofs.Noting.{next, same, and_none, left_then, done, was_done, either_way}
use Rattle.program_check.proofs.Typing.{untyped, expected_is, type_is}
use Rattle.program_check.proofs.Standing.{be_is, wanted_is, one_stands, two_stands, kind_is}
use Rattle.fast_syntax.proofs.Rows.{plain_literal}
use Rattle.model_grammar.specs.Syntax.{X}
use Rattle.program_check.specs.Standings.{literal_failures}
use Rattle.program_check.proofs.XParts.{xs_counted, one_noted, two_noted, literal_noted, literal_child, other_child}
use Rattle.program_check.proofs.Stands.{as_deep}
use Rattle.program_check.specs.Waiting.{those_of, plain_waiting, weight, weights}
use Rattle.program_check.proofs.Weights.{weights-append, some_weight}
use Rattle.program_check.proofs.checker.Checker.+check_x.Goals as goal

pub check_as-returns-clause-noted : goal.check_as-returns-clause-noted
check_as-returns-clause-noted t c type of h =
    let last = c.check_be.ensures h in
    let is = c.check_x-standing.ensures.standing in
    let items = items_of c.args.context.now in
    let before = before_of c.args.context.now in
    let x = plain_x c.args.x.now in
    let k = plain_kind c.args.kind in
    let expected = subst (λ (p : Option ℕ). IsType items p (expected_as k type)) (sym c.expected_as-expected.ensures) (expected_is items c.args.kind c.args.of type of) in
    next (c.check_x-standing.ensures.noted (expected_as k type) expected last.had)
    (same (be_is items before c.args.of type c.args.kind x c.place_of.result c.check_x-standing.result of is c.place_of.ensures) last)

pub check_as-returns-clause-standing : goal.check_as-returns-clause-standing
check_as-returns-clause-standing t c = c.check_x-standing.ensures.standing

pub check_x-returns-in-One-clause-noted : goal.check_x-returns-in-One-clause-noted
check_x-returns-in-One-clause-noted t c e of h =
    let items = items_of c.args.context.now in
    let before = before_of c.args.context.now in
    let last = c.check_as-operand.ensures.noted None (untyped items) h in
    let deep = c.check_nested-deep in
    same (ap (x_failures items before c.args.around e) (sym (ap plain_x c.in-One.is)))
    (one_noted items before c.in-One.op c.in-One.place c.args.around deep.result e (plain_x c.in-One.inside.value) _ (plain_kind c.taken_by_one-kind.result) _ _ _ (ap plain_x c.deref.ensures) (ap plain_kind c.taken_by_one-kind.ensures ∙ kind_is c.in-One.op)
    (λ n z. as_deep items before c.args.around deep.result n z deep.ensures.few deep.ensures.many) (deep.ensures.noted last.had) last)

pub check_x-returns-in-One-clause-standing : goal.check_x-returns-in-One-clause-standing
check_x-returns-in-One-clause-standing t c =
    let items = items_of c.args.context.now in
    let here = subst (λ (z : X). IsStanding items z c.check_as-operand.result) (ap plain_x c.deref.ensures) c.check_as-operand.ensures.standing in
    subst (λ (z : X). IsStanding items z c.of_one.result) (sym (ap plain_x c.in-One.is))
    (rw c.of_one.ensures (one_stands items (before_of c.args.context.now) c.in-One.op c.in-One.place (plain_x c.in-One.inside.value) c.check_as-operand.result here))

pub check_x-returns-in-Two-clause-noted : goal.check_x-returns-in-Two-clause-noted
check_x-returns-in-Two-clause-noted t c e of h =
    let items = items_of c.args.context.now in
    let before = before_of c.args.context.now in
    let left = c.check_as-left.result in
    let x = plain_x c.deref-in-Two.result.now in
    let want = wanted_second items before c.in-Two.op x in
    let wanted = subst (λ (p : Option ℕ). IsType items p want) (sym c.wanted_second-wanted.ensures) (wanted_is items before c.in-Two.op x left c.check_as-left.ensures.standing) in
    let last = c.check_as-right.ensures.noted want wanted h in
    let middle = c.check_as-left.ensures.noted None (untyped items) last.had in
    let deep = c.check_nested-deep-in-Two in
    same (ap (x_failures items before c.args.around e) (sym (ap plain_x c.in-Two.is)))
    (two_noted items before c.in-Two.op c.in-Two.place c.args.around deep.result e want (plain_x c.in-Two.first.value) _ x (plain_x c.in-Two.second.value) _
    (plain_kind c.taken_first-kind.result) (plain_kind c.taken_second-kind.result) _ _ _ _ (ap plain_x c.deref-in-Two.ensures) (ap plain_x c.deref-in-Two.ensures) (ap plain_x c.deref-in-Two-2.ensures)
    c.taken_first-kind.ensures c.taken_second-kind.ensures refl (λ n z. as_deep items before c.args.around deep.result n z deep.ensures.few deep.ensures.many)
    (deep.ensures.noted middle.had) middle last)

pub check_x-returns-in-Two-clause-standing : goal.check_x-returns-in-Two-clause-standing
check_x-returns-in-Two-clause-standing t c =
    let items = items_of c.args.context.now in
    let left = c.check_as-left.result in
    let right = c.check_as-right.result in
    let first = subst (λ (z : X). IsStanding items z left) (ap plain_x c.deref-in-Two.ensures) c.check_as-left.ensures.standing in
    let second = subst (λ (z : X). IsStanding items z right) (ap plain_x c.deref-in-Two-2.ensures) c.check_as-right.ensures.standing in
    subst (λ (z : X). IsStanding items z c.of_two.result) (sym (ap plain_x c.in-Two.is))
    (rw c.of_two.ensures (two_stands items (before_of c.args.context.now) c.in-Two.op c.in-Two.place (plain_x c.in-Two.first.value) (plain_x c.in-Two.second.value) left right first second))

pub check_x-returns-in-Literal-clause-noted : goal.check_x-returns-in-Literal-clause-noted
check_x-returns-in-Literal-clause-noted t c e of h =
    let items = items_of c.args.context.now in
    let before = before_of c.args.context.now in
    let last = c.check_children.ensures e of h in
    let each = x_failures items before c.args.around e in
    let name = plain_name c.in-Literal.name in
    let t = type_there items c.args.expected in
    let xs = c.in-Literal.children.items in
    let one = same (ap₂ (λ ls n. literal_failures t name (map plain_expr ls) n) c.deref-in-Literal.ensures.value (c.len.ensures ∙ sym c.deref-in-Literal-2.ensures.len ∙ ap length c.deref-in-Literal-2.ensures.value)) (c.check_literal.ensures last.had) in
    let two = same (ap (λ l. xs_failures items before c.args.around e (plain_children l)) c.deref-in-Literal-2.ensures.value) last in
    same (sym (ap each (ap plain_x c.in-Literal.is ∙ plain_literal c.in-Literal.name c.in-Literal.labels c.in-Literal.children)))
    (literal_noted items before c.args.around (length xs) e t name (map plain_expr c.in-Literal.labels.items) (plain_children xs) _ _ _
    (type_is items c.args.expected e of) (xs_counted xs) one two)

pub check_x-check_children-requires : goal.check_x-check_children-requires
check_x-check_children-requires t c =
    let xs = c.in-Literal.children.items in
    let is : weight (plain_x c.args.x.now) ≡ suc (suc (suc (suc (weights (plain_children xs))))) = ap weight (ap plain_x c.in-Literal.is ∙ plain_literal c.in-Literal.name c.in-Literal.labels c.in-Literal.children) in
    let inside = ap (λ l. weights (plain_children l)) c.deref-in-Literal-2.ensures.value in
    omega (arith, is, inside, c.decreases)

pub check_x-check_as-operand-requires : goal.check_x-check_as-operand-requires
check_x-check_as-operand-requires t c =
    let is : weight (plain_x c.args.x.now) ≡ suc (suc (weight (plain_x c.in-One.inside.value))) = ap weight (ap plain_x c.in-One.is) in
    let inside = ap weight (ap plain_x c.deref.ensures) in
    omega (arith, is, inside, c.decreases)

pub check_x-check_as-left-requires : goal.check_x-check_as-left-requires
check_x-check_as-left-requires t c =
    let is : weight (plain_x c.args.x.now) ≡ suc (suc (weight (plain_x c.in-Two.first.value) + weight (plain_x c.in-Two.second.value))) = ap weight (ap plain_x c.in-Two.is) in
    let inside = ap weight (ap plain_x c.deref-in-Two.ensures) in
    omega (arith, is, inside, c.decreases)

pub check_x-check_as-right-requires : goal.check_x-check_as-right-requires
check_x-check_as-right-requires t c =
    let is : weight (plain_x c.args.x.now) ≡ suc (suc (weight (plain_x c.in-Two.first.value) + weight (plain_x c.in-Two.second.value))) = ap weight (ap plain_x c.in-Two.is) in
    let inside = ap weight (ap plain_x c.deref-in-Two-2.ensures) in
    omega (arith, is, inside, c.decreases)

pub check_as-check_x-standing-requires : goal.check_as-check_x-standing-requires
check_as-check_x-standing-requires t c = omega (arith, c.decreases)

pub check_x-returns-in-Named-clause-noted : goal.check_x-returns-in-Named-clause-noted
check_x-returns-in-Named-clause-noted t c e of h = same (ap (x_failures (items_of c.args.context.now) (before_of c.args.context.now) c.args.around e) (sym (ap plain_x c.in-Named.is))) (c.check_word.ensures.noted h)

pub check_x-returns-in-Named-clause-standing : goal.check_x-returns-in-Named-clause-standing
check_x-returns-in-Named-clause-standing t c = subst (λ (z : X). IsStanding (items_of c.args.context.now) z c.check_word.result) (sym (ap plain_x c.in-Named.is)) c.check_word.ensures.standing

pub check_x-returns-in-Literal-clause-standing : goal.check_x-returns-in-Literal-clause-standing
check_x-returns-in-Literal-clause-standing t c =
    let items = items_of c.args.context.now in
    let is = ap plain_x c.in-Literal.is ∙ plain_literal c.in-Literal.name c.in-Literal.labels c.in-Literal.children in
    subst (λ (z : X). IsStanding items z (record { kind = Some Tree; input = None; output = None })) (sym is) (record { kind = refl; input = untyped items; output = untyped items })

pub check_children-returns : goal.check_children-returns
check_children-returns t c e of h =
    let each = xs_failures (items_of c.args.context.now) (before_of c.args.context.now) c.args.around e in
    done (ap (λ l. each (plain_children l)) c.in_default.ensures) (c.children.invariant.noted e of h)

pub check_children-children-smaller-in-Literal : goal.check_children-children-smaller-in-Literal
check_children-children-smaller-in-Literal t c =
    let xs = c.in-Literal.inside.items in
    let old = those_of c.next.new.self in
    let is : weight (plain_x c.in-Some.child.now) ≡ suc (suc (suc (suc (weights (plain_children xs))))) = ap weight (ap plain_x c.in-Literal.is ∙ plain_literal c.in-Literal.name c.in-Literal.labels c.in-Literal.inside) in
    let row = ap (λ l. weights (plain_children l)) c.in-Some.ensures in
    let less : weights (plain_waiting c.add-added.new.self) < weights (plain_waiting c.children.waiting) = either_way c.add-added.result
    (λ more. let now = ap (λ l. weights (plain_children l)) (more ∙ ap (λ l. l ++ old) c.deref-in-Literal.ensures.value) ∙ weights-append xs old in omega (arith, is, row, now))
    (λ same. let now = ap (λ l. weights (plain_children l)) same in omega (arith, is, row, now)) c.add-added.ensures in
    less

pub check_children-children-preserved-in-Literal : goal.check_children-children-preserved-in-Literal
check_children-children-preserved-in-Literal t c =
    let items = items_of c.args.context.now in
    let before = before_of c.args.context.now in
    let name = plain_name c.in-Literal.name in
    let type = type_there items c.args.expected in
    let xs = c.in-Literal.inside.items in
    let old = those_of c.next.new.self in
    let whole = ap plain_x c.in-Literal.is ∙ plain_literal c.in-Literal.name c.in-Literal.labels c.in-Literal.inside in
    let is : weight (plain_x c.in-Some.child.now) ≡ suc (suc (suc (suc (weights (plain_children xs))))) = ap weight whole in
    let row = ap (λ l. weights (plain_children l)) c.in-Some.ensures in
    record {
      noted = λ e of h.
          let each = xs_failures items before c.args.around e in
          let none = c.note_want.ensures.noted h in
          let more = was_done _ _ c.add-added.result (c.note_want.ensures.done h) c.add-added.ensures in
          let one = and_none (same (ap₂ (λ ls n. literal_failures type name (map plain_expr ls) n) c.deref.ensures.value (c.len.ensures ∙ sym c.deref-in-Literal.ensures.len ∙ ap length c.deref-in-Literal.ensures.value)) (c.check_literal.ensures none.had)) none in
          left_then (ap (λ l. each (plain_children l)) c.in-Some.ensures)
          (literal_child items before c.args.around (length xs) e type (plain_x c.in-Some.child.now) name (map plain_expr c.in-Literal.labels.items) xs old (those_of c.add-added.new.self) _ _
          (type_is items c.args.expected e of) (xs_counted xs) whole (more ∙ ap (λ l. l ++ old) c.deref-in-Literal.ensures.value) one) (c.children.invariant.noted e of one.had);
      few = either_way c.add-added.result
          (λ more. let now = ap (λ l. weights (plain_children l)) (more ∙ ap (λ l. l ++ old) c.deref-in-Literal.ensures.value) ∙ weights-append xs old in omega (arith, is, row, now, c.children.invariant.few))
          (λ same. let now = ap (λ l. weights (plain_children l)) same in omega (arith, is, row, now, c.children.invariant.few)) c.add-added.ensures;
    }

pub check_children-check_as-requires : goal.check_children-check_as-requires
check_children-check_as-requires t c =
    let row = ap (λ l. weights (plain_children l)) c.in-Some.ensures in
    omega (arith, row, c.children.invariant.few, c.decreases)

pub check_children-children-smaller : goal.check_children-children-smaller
check_children-children-smaller t c =
    let row = ap (λ l. weights (plain_children l)) c.in-Some.ensures in
    let some = some_weight (plain_x c.in-Some.child.now) in
    omega (arith, row, some)

pub check_children-children-preserved : goal.check_children-children-preserved
check_children-children-preserved t c =
    let items = items_of c.args.context.now in
    let before = before_of c.args.context.now in
    let row = ap (λ l. weights (plain_children l)) c.in-Some.ensures in
    record {
      noted = λ e of h.
          let each = xs_failures items before c.args.around e in
          let one = c.check_as.ensures.noted e of h in
          left_then (ap (λ l. each (plain_children l)) c.in-Some.ensures) (other_child items before c.args.around e (plain_x c.in-Some.child.now) (plain_waiting c.next.new.self) _ _ one) (c.children.invariant.noted e of one.had);
      few = omega (arith, row, c.children.invariant.few);
    }

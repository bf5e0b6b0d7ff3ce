use Rattle.std.proofs.Common.{◌+◌, ◌∷◌, ◌++◌, map, drop, ap, ◌∙◌, subst, arith}
use Rattle.std.proofs.lemmas.List.{drop_all}
use Rattle.model_program.specs.declared.Word.TheVariants.{RoundOpen}
use Rattle.model_grammar.specs.Printed.{blank, token, name, labels_of, term, terms}
use Rattle.fast_syntax.specs.Adds.{Adds}
use Rattle.fast_syntax.specs.View.{plain_name}
use Rattle.fast_syntax.specs.Plain.{plain_expr, plain_x}
use Rattle.fast_syntax.specs.Slices.{plain_children}
use Rattle.fast_syntax.proofs.Characters.{if_ok}
use Rattle.fast_syntax.proofs.Appending.{drop_at, adds_then, left_more, left_all}
use Rattle.fast_syntax.proofs.AppendingTerms.{adds_term, adds_one, adds_two}
use Rattle.fast_syntax.proofs.Rows.{plain_literal}
use Rattle.fast_syntax.proofs.print_terms.+print_term.Goals as goal

pub append_children-loop-child-preserved : goal.append_children-loop-child-preserved
append_children-loop-child-preserved t c =
    let items = c.args.children.now in
    let i = c.loop-child.child-index in
    let x = c.child-item.result in
    let first = drop_at items i x (omega arith) c.child-item.is in
    left_more c.loop-child.page c.append_term.new.page _ (blank ∷ term (plain_x x)) (terms (plain_children (drop (i + 1) items))) (terms (plain_children (drop i items))) (adds_then c.in_ok-blank.ensures c.in_ok-append_term.ensures) (ap (λ l. terms (plain_children l)) first) c.loop-child.invariant

pub append_children-returns : goal.append_children-returns
append_children-returns t c =
    let items = c.args.children.now in
    left_all c.args.page.now c.loop-child.page (terms (plain_children items)) (terms (plain_children (drop c.loop-child.child-index items))) (ap (λ l. terms (plain_children l)) (drop_all c.loop-child.child-index items c.loop-child-test.false)) c.loop-child.invariant

pub append_term-returns-in_ok-append_term-in-One : goal.append_term-returns-in_ok-append_term-in-One
append_term-returns-in_ok-append_term-in-One t c =
    if_ok c.word-in-One-2.result (λ x last. adds_term (ap plain_x c.in-One.is)
    (adds_one c.in-One.op c.in-One.field-1 c.op1_word.result (plain_x c.in-One.inside.value) (plain_x c.deref.result.now) c.args.page.now c.word-in-One-2.new.self c.op1_word.ensures (ap plain_x c.deref.ensures)
    (adds_then c.in_ok-word-in-One.ensures (adds_then c.in_ok-word-in-One-2.ensures (adds_then c.in_ok-blank-in-One.ensures (adds_then c.in_ok-append_term-in-One.ensures last)))))) c.word-in-One-2.ensures

pub append_term-returns-in_ok-append_term-in-Two-2 : goal.append_term-returns-in_ok-append_term-in-Two-2
append_term-returns-in_ok-append_term-in-Two-2 t c =
    if_ok c.word-in-Two-3.result (λ x last. adds_term (ap plain_x c.in-Two.is)
    (adds_two c.in-Two.op c.in-Two.field-1 c.op2_word.result (plain_x c.in-Two.first.value) (plain_x c.in-Two.second.value) (plain_x c.deref-in-Two.result.now) (plain_x c.deref-in-Two-2.result.now) c.args.page.now c.word-in-Two-3.new.self c.op2_word.ensures (ap plain_x c.deref-in-Two.ensures) (ap plain_x c.deref-in-Two-2.ensures)
    (adds_then c.in_ok-word-in-Two.ensures (adds_then c.in_ok-word-in-Two-2.ensures (adds_then c.in_ok-blank-in-Two.ensures (adds_then (adds_then c.in_ok-append_term-in-Two.ensures (adds_then c.in_ok-blank-in-Two-2.ensures c.in_ok-append_term-in-Two-2.ensures)) last)))))) c.word-in-Two-3.ensures

pub append_term-returns-in_ok-append_children-in-Literal : goal.append_term-returns-in_ok-append_children-in-Literal
append_term-returns-in_ok-append_children-in-Literal t c =
    let ctor = c.in-Literal.ctor in
    let head = subst (λ l. Adds c.args.page.now c.append_constructor.new.page (token RoundOpen ∷ (name (plain_name ctor) ++ blank ∷ labels_of (map plain_expr l)))) c.deref-in-Literal.ensures.value c.in_ok-append_constructor-in-Literal.ensures in
    let below = subst (λ l. Adds c.append_constructor.new.page c.append_children.new.page (terms (plain_children l))) c.deref-in-Literal-2.ensures.value c.in_ok-append_children-in-Literal.ensures in
    if_ok c.word-in-Literal.result (λ x last. adds_term (ap plain_x c.in-Literal.is ∙ plain_literal ctor c.in-Literal.labels c.in-Literal.children) (adds_then (adds_then head below) last)) c.word-in-Literal.ensures

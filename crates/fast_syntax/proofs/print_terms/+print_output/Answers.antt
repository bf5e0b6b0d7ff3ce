use Rattle.std.proofs.Common.{◌+◌, ◌∷◌, ◌++◌, map, drop, ap, ◌∙◌, subst, arith}
use Rattle.std.proofs.lemmas.List.{drop_all}
use Rattle.model_program.specs.declared.Word.TheVariants.{RoundOpen}
use Rattle.model_grammar.specs.Printed.{blank, token, name, labels_of, output, outputs}
use Rattle.fast_syntax.specs.Adds.{Adds}
use Rattle.fast_syntax.specs.View.{plain_name}
use Rattle.fast_syntax.specs.Plain.{plain_expr, plain_out}
use Rattle.fast_syntax.specs.Slices.{plain_outputs}
use Rattle.fast_syntax.proofs.Characters.{if_ok}
use Rattle.fast_syntax.proofs.Appending.{drop_at, adds_then, left_more, left_all}
use Rattle.fast_syntax.proofs.AppendingTerms.{adds_output}
use Rattle.fast_syntax.proofs.Rows.{plain_made}
use Rattle.fast_syntax.proofs.print_terms.+print_output.Goals as goal

pub append_outputs-loop-out-preserved : goal.append_outputs-loop-out-preserved
append_outputs-loop-out-preserved t c =
    let items = c.args.outs.now in
    let i = c.loop-out.out-index in
    let x = c.out-item.result in
    let first = drop_at items i x (omega arith) c.out-item.is in
    left_more c.loop-out.page c.append_output.new.page _ (blank ∷ output (plain_out x)) (outputs (plain_outputs (drop (i + 1) items))) (outputs (plain_outputs (drop i items))) (adds_then c.in_ok-blank.ensures c.in_ok-append_output.ensures) (ap (λ l. outputs (plain_outputs l)) first) c.loop-out.invariant

pub append_outputs-returns : goal.append_outputs-returns
append_outputs-returns t c =
    let items = c.args.outs.now in
    left_all c.args.page.now c.loop-out.page (outputs (plain_outputs items)) (outputs (plain_outputs (drop c.loop-out.out-index items))) (ap (λ l. outputs (plain_outputs l)) (drop_all c.loop-out.out-index items c.loop-out-test.false)) c.loop-out.invariant

pub append_output-returns-in_ok-append_outputs-in-Node : goal.append_output-returns-in_ok-append_outputs-in-Node
append_output-returns-in_ok-append_outputs-in-Node t c =
    let ctor = c.in-Node.ctor in
    let head = subst (λ l. Adds c.args.page.now c.append_constructor.new.page (token RoundOpen ∷ (name (plain_name ctor) ++ blank ∷ labels_of (map plain_expr l)))) c.deref.ensures.value c.in_ok-append_constructor-in-Node.ensures in
    let below = subst (λ l. Adds c.append_constructor.new.page c.append_outputs.new.page (outputs (plain_outputs l))) c.deref-in-Node.ensures.value c.in_ok-append_outputs-in-Node.ensures in
    if_ok c.word-in-Node.result (λ x last. adds_output (ap plain_out c.in-Node.is ∙ plain_made ctor c.in-Node.labels c.in-Node.children) (adds_then (adds_then head below) last)) c.word-in-Node.ensures

use Rattle.std.proofs.Common.{◌≡◌, false, ◌++◌, sym, ap, subst, ◌∙◌, take_all}
use Rattle.fast_syntax.specs.Plain.{plain_out}
use Rattle.fast_syntax.specs.Slices.{plain_outputs}
use Rattle.fast_syntax.proofs.Rows.{plain_made}
use Rattle.fast_compose.specs.Copying.{uses_in, uses_in_all, HasRepeat, Repeats}
use Rattle.fast_compose.proofs.Repeating.{repeats_next, repeats_part}
use Rattle.fast_compose.proofs.copying.+repeats.Goals as goal

pub returns-then-branch : goal.returns-then-branch
returns-then-branch t c =
    let outs = c.deref-part-items.result.now in
    let old = c.args.seen.now.keys in
    let again = subst (λ b. Repeats b c.parts.seen.keys c.repeats.new.seen.keys (uses_in (plain_out c.part-item.result))) c.if-branch.true c.in_ok-repeats-in-Node.ensures in
    let whole : uses_in_all (plain_outputs outs) ≡ uses_in (plain_out c.args.out.now) =
    ap (λ os. uses_in_all (plain_outputs os)) c.deref-part-items.ensures.value ∙ ap uses_in (sym (plain_made c.in-Node.field-0 c.in-Node.field-1 c.in-Node.parts)) ∙ ap (λ o. uses_in (plain_out o)) (sym c.in-Node.is) in
    subst (λ us. HasRepeat (old ++ us)) whole (repeats_part outs c.parts.part-index c.part-item.result c.parts-test.true c.part-item.is old c.parts.seen.keys c.repeats.new.seen.keys c.parts.invariant again)

pub parts-preserved : goal.parts-preserved
parts-preserved t c =
    let none = subst (λ b. Repeats b c.parts.seen.keys c.repeats.new.seen.keys (uses_in (plain_out c.part-item.result))) c.if-branch.false c.in_ok-repeats-in-Node.ensures in
    repeats_next c.deref-part-items.result.now c.parts.part-index c.part-item.result c.parts-test.true c.part-item.is c.args.seen.now.keys c.parts.seen.keys c.repeats.new.seen.keys c.parts.invariant none

pub returns-after-parts : goal.returns-after-parts
returns-after-parts t c =
    let all = take_all c.parts.part-index c.deref-part-items.result.now c.parts-test.false ∙ c.deref-part-items.ensures.value in
    subst (Repeats false c.args.seen.now.keys c.parts.seen.keys) (ap (λ os. uses_in_all (plain_outputs os)) all ∙ ap uses_in (sym (plain_made c.in-Node.field-0 c.in-Node.field-1 c.in-Node.parts)) ∙ ap (λ o. uses_in (plain_out o)) (sym c.in-Node.is)) c.parts.invariant

use Rattle.std.proofs.Common.{[], false, ap, ◌∙◌, subst, Ok}
use Rattle.model_chain.specs.Literals.{AreLiteralsOver, remainders_in}
use Rattle.model_chain.specs.Chains.{first_system, count_variables}
use Rattle.lin_reduce.specs.declared.nodes.Explored.TheVariants.{Never}
use Rattle.lin_reduce.specs.Parts.{TellsClash}
use Rattle.lin_solve.specs.Plain.{plain_literals}
use Rattle.lin_solve.proofs.Pushed.{positives}
use Rattle.lin_solve.proofs.Seeking.{explored_told}
use Rattle.lin_solve.proofs.branches.explore_loosely.Goals as goal

pub returns-in_default : goal.returns-in_default
returns-in_default c =
    let own = plain_literals c.in_ok-own.own.items in
    let known = c.in_ok-known.ensures {u = tt} in
    let made = c.in_ok-system.ensures {u = tt} in
    let some = positives c.in_ok-known.known.items (remainders_in own) (known.0 ∙ ap (λ ls. remainders_in (plain_literals ls)) c.deref-2.ensures.value) known.1 in
    let all = c.in_ok-system.system.conditions.items in
    explored_told (plain_literals c.args.literals.now) own all _ (Ok c.in_ok-found.found) (subst (λ ls. AreLiteralsOver 8 (plain_literals ls)) c.deref.ensures.value c.are_over.ensures) some (c.in_ok-own.ensures {u = tt}).none (c.in_ok-own.ensures {u = tt}).hold
    (made.0 ∙ ap (λ ls. first_system (plain_literals ls) false []) c.deref-3.ensures.value) (made.1 ∙ ap (λ ls. count_variables (plain_literals ls)) c.deref-3.ensures.value) (c.in_ok-found.ensures {u = tt})

pub returns-then-branch : goal.returns-then-branch
returns-then-branch c =
    let own = plain_literals c.in_ok-own.own.items in
    let known = c.in_ok-known.ensures {u = tt} in
    let made = c.in_ok-whole.ensures {u = tt} in
    let some = positives c.in_ok-known.known.items (remainders_in own) (known.0 ∙ ap (λ ls. remainders_in (plain_literals ls)) c.deref-2.ensures.value) known.1 in
    let all = c.in_ok-whole.whole.conditions.items in
    let told = subst (λ S. TellsClash c.in_ok-whole.whole.count S c.in_ok-clashes.field-0) c.deref-7.ensures.value (c.in_ok-clashes.ensures {u = tt}) in
    explored_told (plain_literals c.args.literals.now) own all _ (Ok Never) (subst (λ ls. AreLiteralsOver 8 (plain_literals ls)) c.deref.ensures.value c.are_over.ensures) some (c.in_ok-own.ensures {u = tt}).none (c.in_ok-own.ensures {u = tt}).hold
    (made.0 ∙ ap (λ ls. first_system (plain_literals ls) false []) c.deref-5.ensures.value) (made.1 ∙ ap (λ ls. count_variables (plain_literals ls)) c.deref-5.ensures.value) (told c.if-branch.true)

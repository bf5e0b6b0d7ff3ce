use Rattle.std.proofs.Common.{◌≡◌, ◌<◌, ⊎_elim, List, length, get_or, subst, true}
use Rattle.model_chain.specs.Literals.{needs_side}
use Rattle.label_core.specs.declared.theory.Lit.{Lit}
use Rattle.lin_solve.specs.declared.compare.Compare.{Compare}
use Rattle.lin_solve.specs.Plain.{plain_literal}
use Rattle.lin_solve.proofs.Seeking.{one_side}
use Rattle.lin_solve.proofs.branches.Branch.push_sides.Goals as goal

pub returns-clause-sides : goal.returns-clause-sides
returns-clause-sides c = λ _ held.
    let ls = c.args.self.now.literals.items in
    let found = c.in-Some.ensures {u = tt} in
    let low = subst (λ (xs : List (Lit Compare)). c.in-Some.place < length xs) c.deref.ensures.value found.0 in
    let needs = subst (λ (xs : List (Lit Compare)). (d : Lit Compare) → needs_side (plain_literal (get_or xs c.in-Some.place d)) ≡ true) c.deref.ensures.value found.1 in
    ⊎_elim (λ l. (c.in_ok-push_side-2.ensures {u = tt}).kept ((c.in_ok-push_side.ensures {u = tt}).side held.values held.eight held.hold l)) (λ r. (c.in_ok-push_side-2.ensures {u = tt}).side held.values held.eight held.hold r)
    (one_side ls c.in-Some.place held.values low needs held.hold)

pub returns-clause-kept : goal.returns-clause-kept
returns-clause-kept c = λ s. (c.in_ok-push_side-2.ensures {u = tt}).kept ((c.in_ok-push_side.ensures {u = tt}).kept s)

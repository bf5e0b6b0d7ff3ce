use Rattle.std.proofs.Common.{◌≡◌, Bool, true, false, ap, ◌∙◌, subst}
use Rattle.cooper_solve.specs.Told.{puts_of}
use Rattle.model_chain.specs.Literals.{remainders_in}
use Rattle.lin_solve.specs.Plain.{plain_literals}
use Rattle.lin_solve.specs.Shown.{bits_of, is_bounded}
use Rattle.lin_solve.proofs.Pushed.{positives}
use Rattle.lin_solve.specs.Tried.{TellsSides}
use Rattle.lin_solve.proofs.Decided.{sat_told, wide_told, unsat_told, unsat_for, wide_for}
use Rattle.lin_solve.proofs.decision.decide_all.Goals as goal

pub returns-in-Solved : goal.returns-in-Solved
returns-in-Solved c =
    let ls = plain_literals c.args.literals.now in
    let h = c.in_ok-values.ensures {u = tt} in
    let ss = c.deref-2.result.now in
    let e = c.deref-2.ensures.value ∙ c.new-none.ensures.items in
    let t = subst (TellsSides ls false ss c.count_needed-count.result) c.in-Solved.is h in
    sat_told ls false ss c.count_needed-count.result c.in-Solved.values.items e c.are_over.ensures t

pub returns-in-Wide : goal.returns-in-Wide
returns-in-Wide c =
    let ls = plain_literals c.args.literals.now in
    let h = c.in_ok-values.ensures {u = tt} in
    let ss = c.deref-2.result.now in
    let e = c.deref-2.ensures.value ∙ c.new-none.ensures.items in
    let t = subst (TellsSides ls false ss c.count_needed-count.result) c.in-Wide.is h in
    let w = wide_told ls false ss c.count_needed-count.result c.in-Wide.wide e c.count_needed-count.ensures t in
    let m = c.in_ok-chain_of-in-Wide.ensures {u = tt} in
    wide_for c.args.literals.now c.in_ok-chain_of-in-Wide.field-0 false c.in-Wide.wide.sides.items (puts_of c.in-Wide.wide.puts.items) m.0 m.1 (ap is_bounded m.2) (ap bits_of m.2) w.0 w.1 (λ f. absurd (no_false f))
  where
    no_false : false ≡ true → ⊥
    no_false f = subst (λ (b : Bool). is_false b) f tt
      where
        is_false : Bool → Type 0
        is_false true = ⊥
        is_false false = Unit {0}

pub returns-in-Unsat : goal.returns-in-Unsat
returns-in-Unsat c =
    let ls = plain_literals c.args.literals.now in
    let h = c.in_ok-values.ensures {u = tt} in
    let ss = c.deref-2.result.now in
    let e = c.deref-2.ensures.value ∙ c.new-none.ensures.items in
    let t = subst (TellsSides ls false ss c.count_needed-count.result) c.in-Unsat.is h in
    let none = unsat_told ls false ss c.count_needed-count.result e c.count_needed-count.ensures t in
    λ us l holds. unsat_for ls false us c.are_over.ensures (positives c.in_ok-known.known.items (remainders_in ls) (c.in_ok-known.ensures {u = tt}).0 (c.in_ok-known.ensures {u = tt}).1) none l (λ f. absurd (no_false f)) holds
  where
    no_false : false ≡ true → ⊥
    no_false f = subst (λ (b : Bool). is_false b) f tt
      where
        is_false : Bool → Type 0
        is_false true = ⊥
        is_false false = Unit {0}

use Rattle.std.proofs.Common.{true, false, refl, ap, ◌∙◌, subst}
use Rattle.model_chain.proofs.Made.{made}
use Rattle.cooper_solve.specs.Told.{puts_of}
use Rattle.model_chain.specs.Literals.{remainders_in}
use Rattle.lin_solve.specs.Plain.{plain_literals}
use Rattle.lin_solve.specs.Shown.{bits_of, is_bounded}
use Rattle.lin_solve.proofs.Pushed.{positives}
use Rattle.lin_solve.specs.Tried.{TellsSides}
use Rattle.lin_solve.proofs.Decided.{sat_told, wide_told, unsat_told, unsat_for, kept_at, wide_for, far_for, far_of, far_told}
use Rattle.lin_solve.proofs.decision.decide_bounded.Goals as goal

pub returns-in-Solved : goal.returns-in-Solved
returns-in-Solved c =
    let ls = plain_literals c.args.literals.now in
    let h = c.in_ok-values.ensures {u = tt} in
    let ss = c.deref.result.now in
    let e = c.deref.ensures.value ∙ c.new-none.ensures.items in
    let t = subst (TellsSides ls true ss c.args.count) c.in-Solved.is h in
    sat_told ls true ss c.args.count c.in-Solved.values.items e c.requires.over t

pub returns-in-Wide : goal.returns-in-Wide
returns-in-Wide c =
    let ls = plain_literals c.args.literals.now in
    let h = c.in_ok-values.ensures {u = tt} in
    let ss = c.deref.result.now in
    let e = c.deref.ensures.value ∙ c.new-none.ensures.items in
    let t = subst (TellsSides ls true ss c.args.count) c.in-Wide.is h in
    let w = wide_told ls true ss c.args.count c.in-Wide.wide e c.requires.count t in
    let m = c.in_ok-chain_of-in-Wide.ensures {u = tt} in
    let far = c.args.far.now in
    let D = made ls false far.sides.items (puts_of far.puts.items) in
    let is = far_of ls far.sides.items (puts_of far.puts.items) (c.requires.sides ∙ c.requires.count) c.requires.far in
    wide_for c.args.literals.now c.in_ok-chain_of-in-Wide.field-0 true c.in-Wide.wide.sides.items (puts_of c.in-Wide.wide.puts.items) m.0 m.1 (ap is_bounded m.2) (ap bits_of m.2) w.0 w.1 (λ f. (D, refl, is))

pub returns-in-Unsat : goal.returns-in-Unsat
returns-in-Unsat c =
    let ls = plain_literals c.args.literals.now in
    let h = c.in_ok-values.ensures {u = tt} in
    let ss = c.deref.result.now in
    let e = c.deref.ensures.value ∙ c.new-none.ensures.items in
    let t = subst (TellsSides ls true ss c.args.count) c.in-Unsat.is h in
    let none = unsat_told ls true ss c.args.count e c.requires.count t in
    let m = c.in_ok-chain_of-in-Unsat.ensures {u = tt} in
    let far = c.args.far.now in
    far_for c.args.literals.now c.in_ok-chain_of-in-Unsat.field-0 far.sides.items (puts_of far.puts.items) m.0 m.1 (ap is_bounded m.2) (ap bits_of m.2) (c.requires.sides ∙ c.requires.count) c.requires.far
    (λ us l kept holds. unsat_for ls true us c.requires.over (positives c.args.known.now (remainders_in ls) c.requires.known.0 c.requires.known.1) none l (λ f. kept_at us l kept) holds)

pub unreachable-requires : goal.unreachable-requires
unreachable-requires c =
    let ls = plain_literals c.args.literals.now in
    let h = c.in_ok-values.ensures {u = tt} in
    far_told ls c.deref.result.now c.args.count c.in-Far._far c.requires.over (subst (TellsSides ls true c.deref.result.now c.args.count) c.in-Far.is h)

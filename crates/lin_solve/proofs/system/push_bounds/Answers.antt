use Rattle.std.proofs.Common.{◌+◌, ◌-◌, ◌++◌, [], cond, ap, sym, ◌∙◌, arith}
use Rattle.model_chain.specs.Literals.{field_in, bound_conditions, bounds_conditions}
use Rattle.model_chain.specs.Chains.{least, greatest}
use Rattle.lin_solve.specs.Plain.{plain_known, plain_literals}
use Rattle.lin_solve.proofs.Pushed.{bounds_step, carried}
use Rattle.lin_solve.proofs.system.push_bounds.Goals as goal

pub loop-field-preserved : goal.loop-field-preserved
loop-field-preserved c =
    let R = plain_known c.args.known.now in
    let ls = plain_literals c.args.literals.now in
    let n = c.loop-field.field in
    let lt = c.loop-field-test.true in
    let own = cond (field_in n ls) (bound_conditions R least greatest n) [] in
    let rest = bounds_conditions R least greatest ls (n + 1) (8 - (n + 1)) in
    let step = bounds_step R least greatest ls n (omega arith) in
    carried (c.args.out.now.items ++ bounds_conditions R least greatest ls 0 8) c.loop-field.out.items own rest c.push_bound.new.out.items
    (sym (ap (λ l. c.loop-field.out.items ++ l) step) ∙ c.loop-field.invariant) (c.in_ok-push_bound.ensures {u = tt})

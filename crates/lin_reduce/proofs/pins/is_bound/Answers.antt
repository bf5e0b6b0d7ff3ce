use Rattle.std.proofs.Common.{◌≡◌, ap, sym, ◌∙◌, subst, rules, get_or}
use Rattle.std.proofs.Math.IntN.{pos, ◌*ℤ◌}
use Rattle.std.specs.Prelude.{FitsSigned}
use Rattle.std.specs.Int.{w128}
use Rattle.std.proofs.lemmas.Int.{to_z-of_z}
use Rattle.math_cooper.specs.System.{Condition, Holds, dot}
use Rattle.cooper_solve.specs.Kinds.{kind_of}
use Rattle.lin_reduce.proofs.Cutting.{bound_of}
use Rattle.lin_reduce.proofs.pins.is_bound.Goals as goal

pub returns : goal.returns
returns c = λ yes vs many h.
    let x : Condition = record { kind = kind_of c.condition.inside.relation; constant = c.condition.inside.constant; coefficients = c.condition.inside.coefficients.items } in
    let ft : FitsSigned w128 c.args.bound.times = search rules in
    let constant : x.constant ≡ c.args.bound.constant = search rules in
    let rows : x.coefficients ≡ c.in_ok-row.row.items = sym c.deref-2.ensures.value ∙ c.same_rows.ensures yes ∙ c.deref-3.ensures.value in
    let single : dot c.in_ok-row.row.items vs ≡ c.args.bound.times *ℤ get_or vs c.args.bound.of (pos 0) = simp to_z-of_z at (c.in_ok-row.ensures {u = tt} vs many) in
    bound_of x vs c.args.bound.times c.args.bound.constant (get_or vs c.args.bound.of (pos 0)) c.in_ok-row.row.items (ap kind_of c.in-AtLeast.is) constant rows single (subst (Holds vs) (sym c.condition.view_is) h)

use Rattle.std.proofs.Common.{◌≡◌, sym, ◌∙◌, rules, arith}
use Rattle.std.proofs.Math.IntN.{pos}
use Rattle.std.specs.Prelude.{FitsSigned}
use Rattle.std.specs.Int.{w128}
use Rattle.std.proofs.lemmas.Int.{ints}
use Rattle.cooper_solve.proofs.Putting.{put_absent}
use Rattle.cooper_solve.proofs.put.put_one.Goals as goal

pub returns-in_ok-cut : goal.returns-in_ok-cut
returns-in_ok-cut c =
    let fl : FitsSigned w128 c.lead-lead.result = search rules in
    let zero : c.lead-lead.result ≡ pos 0 = omega (arith, ints, c.if-lead-eq0.true) in
    c.in_ok-cut.ensures {u = tt} ∙ put_absent c.args.last c.args.form.now c.args.constraint.now (sym c.lead-lead.ensures ∙ zero)

use Rattle.std.proofs.Common.{rules, ◌≡◌, ◌<◌, ◌*◌, ◌∙◌, ap, get_or, length, to_z, of_z}
use Rattle.std.proofs.Math.ListN.{set}
use Rattle.std.specs.Prelude.{FitsSigned, pos, ◌+ℤ◌}
use Rattle.std.specs.Int.{w64}
use Rattle.std.proofs.lemmas.Int.{to_z-of_z}
use Rattle.lin_solve.proofs.Cased.{part_in}
use Rattle.lin_solve.proofs.cases.Case.part.Goals as goal

pub returns : goal.returns
returns c = λ us h.
    let low : c.args.turn.field < length c.args.self.now.rests = search rules in
    let few : c.args.turn.field < length c.args.self.now.steps = search rules in
    let here : FitsSigned w64 c.rest_at.result = search rules in
    let far = c.in_ok-rest.ensures {u = tt} in
    let is : to_z w64 (of_z w64 c.in_ok-rest.rest) ≡ get_or c.args.self.now.rests c.args.turn.field (pos 0) +ℤ pos (get_or c.args.self.now.steps c.args.turn.field 0 * c.args.number) =
    to_z-of_z w64 c.in_ok-rest.rest far.fits ∙ far.value ∙ ap (λ z. z +ℤ pos (get_or c.args.self.now.steps c.args.turn.field 0 * c.args.number)) (to_z-of_z w64 c.rest_at.result here ∙ c.rest_at.ensures) in
    part_in c.args.self.now _ c.args.turn c.args.number us low few (ap (set c.args.self.now.rests c.args.turn.field) is) (ap (set c.args.self.now.steps c.args.turn.field) (c.in_ok-part.ensures {u = tt}).1) h

use Rattle.std.proofs.Common.{map, ap, ◌∙◌}
use Rattle.std.specs.Prelude.{slice_get}
use Rattle.fast_syntax.specs.Plain.{plain_item, plain_program}
use Rattle.program_check.proofs.Found.{got, item_found, item_missing}
use Rattle.program_check.proofs.programs.Checked.item.Goals as goal

pub returns-in-Some : goal.returns-in-Some
returns-in-Some c =
    item_found c.args.name.now (plain_program c.args.self.now.program) c.place.result c.in-Some.place _ (c.place.ensures ∙ c.args.self.now.numbered.names c.args.name.now) c.in-Some.is
    (got (λ x. x.now) plain_item c.deref.result.now c.in-Some.place c.get.result c.get.ensures.lookup ∙ ap (λ xs. slice_get (map plain_item xs) c.in-Some.place) c.deref.ensures.value)

pub returns-in-None : goal.returns-in-None
returns-in-None c = item_missing c.args.name.now (plain_program c.args.self.now.program) c.place.result (c.place.ensures ∙ c.args.self.now.numbered.names c.args.name.now) c.in-None.is

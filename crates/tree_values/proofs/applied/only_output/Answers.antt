use Rattle.std.proofs.Common.{refl, ◌∙◌}
use Rattle.fast_syntax.specs.Plain.{plain_x}
use Rattle.tree_values.specs.Trees.{meant}
use Rattle.tree_values.specs.Values.{items_in}
use Rattle.tree_values.proofs.Choices.{chosen_output, chosen_none, chosen_two, input_is, output_is}
use Rattle.tree_values.proofs.applied.only_output.Goals as goal

pub returns-in-Only-clause-output : goal.returns-in-Only-clause-output
returns-in-Only-clause-output c = chosen_output (items_in c.args.given.now) c.args.given.now.limit (plain_x c.args.f.now) (meant c.args.tree) c.args.room c.in_ok-value.field-0 c.in_ok-value.ensures.choice c.in-Only.value c.in-Only.is

pub returns-in_ok-of-in-Nothing-clause-stop : goal.returns-in_ok-of-in-Nothing-clause-stop
returns-in_ok-of-in-Nothing-clause-stop c =
    let items = items_in c.args.given.now in
    let f = plain_x c.args.f.now in
    let made = c.requires.made in
    let ends = c.ends_of-ends.ensures made.0 made.1 made.2 in
    let of = c.in_ok-of-in-Nothing.of in
    chosen_none items c.args.given.now.limit f (meant c.args.tree) c.args.room c.in_ok-value.field-0 c.in_ok-value.ensures.choice (record { of = of; tree = c.args.tree }) c.in-Nothing.is refl (input_is items f made.0 made.1 made.2 of (c.in_ok-of-in-Nothing.ensures ∙ ends.input))

pub returns-in_ok-into-in-Two-clause-stop : goal.returns-in_ok-into-in-Two-clause-stop
returns-in_ok-into-in-Two-clause-stop c =
    let items = items_in c.args.given.now in
    let f = plain_x c.args.f.now in
    let made = c.requires.made in
    let ends = c.ends_of-ends.ensures made.0 made.1 made.2 in
    let of = c.in_ok-of-in-Two.of in
    let into = c.in_ok-into-in-Two.into in
    chosen_two items c.args.given.now.limit f (meant c.args.tree) c.args.room c.in_ok-value.field-0 c.in_ok-value.ensures.choice (record { input = record { of = of; tree = c.args.tree }; into = into; first = c.in-Two.first; second = c.in-Two.second }) c.in-Two.is refl
    (input_is items f made.0 made.1 made.2 of (c.in_ok-of-in-Two.ensures ∙ ends.input)) (output_is items f made.0 made.1 made.2 into (c.in_ok-into-in-Two.ensures ∙ ends.output))

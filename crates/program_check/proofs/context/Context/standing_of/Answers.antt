use Rattle.std.proofs.Common.{◌∙◌, refl, sym, ap}
use Rattle.std.specs.Option.{option_map, option_and_then}
use Rattle.fast_syntax.specs.View.{plain_name}
use Rattle.model_program.specs.Syntax.{Name}
use Rattle.program_check.specs.Contexts.{items_of}
use Rattle.program_check.specs.Typed.{type_number}
use Rattle.program_check.proofs.context.Context.standing_of.Goals as goal

pub returns-in-Some : goal.returns-in-Some
returns-in-Some c =
    let types = c.args.self.now.numbered.types in
    record {
      kind = refl;
      input = c.place-input.ensures ∙ types c.args.head.now.input.now.text;
      output = c.place.ensures ∙ types c.in-Some.output.now.text ∙ ap (λ o. option_and_then (λ (n : Name). type_number (items_of c.args.self.now) n.text) (option_map (λ n. plain_name n.now) o)) (sym c.in-Some.is);
    }

pub returns-in-None : goal.returns-in-None
returns-in-None c =
    record {
      kind = refl;
      input = c.place-input.ensures ∙ c.args.self.now.numbered.types c.args.head.now.input.now.text;
      output = ap (λ o. option_and_then (λ (n : Name). type_number (items_of c.args.self.now) n.text) (option_map (λ n. plain_name n.now) o)) (sym c.in-None.is);
    }

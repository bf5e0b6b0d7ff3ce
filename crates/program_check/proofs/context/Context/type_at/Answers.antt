use Rattle.std.proofs.Common.{◌∙◌, sym, ap}
use Rattle.std.specs.Option.{option_map, option_and_then}
use Rattle.fast_syntax.specs.Plain.{plain_item}
use Rattle.model_grammar.specs.Syntax as plain
use Rattle.program_check.specs.Contexts.{items_of}
use Rattle.program_check.specs.Numbered.{own_type_item, type_there}
use Rattle.program_check.proofs.Found.{got}
use Rattle.program_check.proofs.context.Context.type_at.Goals as goal

pub returns-in-Some-get : goal.returns-in-Some-get
returns-in-Some-get c =
    let there = got (λ x. x.now) plain_item c.args.self.now.items.now c.in-Some.number c.get.result c.get.ensures.lookup in
    c.own_type.ensures ∙ ap (option_and_then (λ (item : plain.Item). own_type_item item.body)) (sym (ap (option_map (λ x. plain_item x.now)) c.in-Some-get.is) ∙ there) ∙ ap (type_there (items_of c.args.self.now)) (sym c.in-Some.is)

pub returns-in-None-get : goal.returns-in-None-get
returns-in-None-get c =
    let there = got (λ x. x.now) plain_item c.args.self.now.items.now c.in-Some.number c.get.result c.get.ensures.lookup in
    ap (option_and_then (λ (item : plain.Item). own_type_item item.body)) (sym (ap (option_map (λ x. plain_item x.now)) c.in-None-get.is) ∙ there) ∙ ap (type_there (items_of c.args.self.now)) (sym c.in-Some.is)

pub returns-in-None : goal.returns-in-None
returns-in-None c = ap (type_there (items_of c.args.self.now)) (sym c.in-None.is)

use Rattle.std.proofs.Common.{◌∙◌, refl, sym, ap}
use Rattle.std.specs.Option.{option_map, option_and_then}
use Rattle.fast_syntax.specs.Plain.{plain_item}
use Rattle.model_grammar.specs.Syntax as plain
use Rattle.program_check.specs.Contexts.{items_of}
use Rattle.program_check.specs.Heads.{plain_head, head_of}
use Rattle.program_check.proofs.Found.{got, item_found, item_missing}
use Rattle.program_check.proofs.context.Context.find.Goals as goal

pub returns : goal.returns
returns c =
    let there = item_found c.args.name.now (items_of c.args.self.now) c.place.result c.in-Some.place _ (c.place.ensures ∙ c.args.self.now.numbered.names c.args.name.now) c.in-Some.is (got (λ x. x.now) plain_item c.args.self.now.items.now c.in-Some.place c.get.result c.get.ensures.lookup) in
    let of = ap (option_and_then (λ (item : plain.Item). head_of item.body)) (sym (ap (option_map (λ x. plain_item x.now)) c.in-Some-get.is) ∙ there) in
    record { head = plain_head c.in-Some-head_of.head; is = sym of ∙ sym c.head_of.ensures ∙ ap (option_map plain_head) c.in-Some-head_of.is; stands = c.standing_of.ensures; rules = refl }

pub returns-in_default-head_of : goal.returns-in_default-head_of
returns-in_default-head_of c =
    let there = item_found c.args.name.now (items_of c.args.self.now) c.place.result c.in-Some.place _ (c.place.ensures ∙ c.args.self.now.numbered.names c.args.name.now) c.in-Some.is (got (λ x. x.now) plain_item c.args.self.now.items.now c.in-Some.place c.get.result c.get.ensures.lookup) in
    let of = ap (option_and_then (λ (item : plain.Item). head_of item.body)) (sym (ap (option_map (λ x. plain_item x.now)) c.in-Some-get.is) ∙ there) in
    sym of ∙ sym c.head_of.ensures ∙ ap (option_map plain_head) c.in_default-head_of.is

pub returns-in_default-get : goal.returns-in_default-get
returns-in_default-get c =
    let there = item_found c.args.name.now (items_of c.args.self.now) c.place.result c.in-Some.place _ (c.place.ensures ∙ c.args.self.now.numbered.names c.args.name.now) c.in-Some.is (got (λ x. x.now) plain_item c.args.self.now.items.now c.in-Some.place c.get.result c.get.ensures.lookup) in
    sym (ap (option_and_then (λ (item : plain.Item). head_of item.body)) (sym (ap (option_map (λ x. plain_item x.now)) c.in_default-get.is) ∙ there))

pub returns-in_default : goal.returns-in_default
returns-in_default c = sym (ap (option_and_then (λ (item : plain.Item). head_of item.body)) (item_missing c.args.name.now (items_of c.args.self.now) c.place.result (c.place.ensures ∙ c.args.self.now.numbered.names c.args.name.now) c.in_default.is))

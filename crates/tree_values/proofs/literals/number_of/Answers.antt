use Rattle.std.proofs.Common.{◌≡◌, true, false, Some, sym, ap, ◌∙◌}
use Rattle.std.specs.Prelude.{position, is_some}
use Rattle.model_names.specs.Declared.{same_text}
use Rattle.fast_tree.specs.declared.signature.CtorOf as code
use Rattle.tree_values.proofs.Numbers.{number_is_place}
use Rattle.tree_values.proofs.literals.number_of.Goals as goal

pub unreachable-requires : goal.unreachable-requires
unreachable-requires c =
    let is = number_is_place c.args.name.now c.args.signature.now.constructors.items ∙ (ap (position (λ (k : code.CtorOf). same_text k.name c.args.name.now)) (sym c.deref.ensures.value) ∙ (sym c.place_of.ensures ∙ c.in_default.is)) in
    let no : false ≡ true = sym (ap is_some is) ∙ c.requires in absurd (cc)

pub returns-in-Ok : goal.returns-in-Ok
returns-in-Ok c =
    number_is_place c.args.name.now c.args.signature.now.constructors.items
    ∙ (ap (position (λ (k : code.CtorOf). same_text k.name c.args.name.now)) (sym c.deref.ensures.value) ∙ (sym c.place_of.ensures ∙ (c.in-Some.is ∙ ap Some (sym c.in-Ok.ensures.1))))

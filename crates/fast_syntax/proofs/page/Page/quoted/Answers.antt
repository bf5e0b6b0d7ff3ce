use Rattle.std.proofs.Common.{◌∷◌, [], ◌++◌, ap, sym, ◌∙◌, map-id}
use Rattle.std.specs.List.{flat_map}
use Rattle.std.proofs.lemmas.Iterator.{YieldsList-from_chars}
use Rattle.std.proofs.lemmas.Iterator.Consumers.{YieldsList-end}
use Rattle.model_tree.specs.Printed.{escaped}
use Rattle.fast_syntax.proofs.Characters.{if_ok, quoted_text, escaped_more}
use Rattle.fast_syntax.proofs.page.Page.quoted.Goals as goal

pub loop-character-preserved : goal.loop-character-preserved
loop-character-preserved c = c.in_ok-push_escaped.ensures ∙ ap (λ l. l ++ escaped c.in-Some.character) c.loop-character.invariant ∙ escaped_more c.push_character.new.self c.loop-character.yielded c.in-Some.character

pub returns : goal.returns
returns c =
    let end = YieldsList-end (YieldsList-from_chars c.as_str.result.now c.as_str.utf8 cc) c.loop-character.yielded _ c.loop-character.yielded_by _ _ c.in-None.is c.next.ensures.steps in
    let all = sym (map-id c.loop-character.yielded) ∙ end.0 ∙ c.as_str.ensures.characters in
    if_ok c.push_character-2.result (λ x is. record { is = is ∙ ap (λ l. l ++ 34 ∷ []) (c.loop-character.invariant ∙ (λ i. c.in_ok-push_character.ensures i ++ flat_map escaped (all i))) ∙ quoted_text c.args.self.now c.args.text.now }) c.push_character-2.ensures

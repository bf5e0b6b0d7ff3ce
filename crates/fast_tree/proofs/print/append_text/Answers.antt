use Rattle.std.proofs.Common.{◌≡◌, true, ◌∷◌, [], ◌++◌, ap, sym, subst, ◌∙◌, map-id}
use Rattle.std.specs.Str.{encode_utf8_all, all_scalars}
use Rattle.std.proofs.lemmas.Str.{scalars-chars}
use Rattle.std.specs.List.{flat_map}
use Rattle.std.proofs.lemmas.Iterator.{YieldsList-from_chars}
use Rattle.std.proofs.lemmas.Iterator.Consumers.{YieldsList-end}
use Rattle.model_tree.specs.Printed.{escaped}
use Rattle.fast_tree.proofs.Printing.{character_more, quoted}
use Rattle.fast_tree.proofs.print.append_text.Goals as goal

pub loop-character-preserved : goal.loop-character-preserved
loop-character-preserved c = c.in_ok-append_character.ensures ∙ ap (λ xs. xs ++ encode_utf8_all (escaped c.in-Some.character)) c.loop-character.invariant ∙ character_more c.push.new.self.items c.loop-character.yielded c.in-Some.character

pub returns-clause-text : goal.returns-clause-text
returns-clause-text c =
    let end = YieldsList-end (YieldsList-from_chars c.as_str.result.now c.as_str.utf8 cc) c.loop-character.yielded _ c.loop-character.yielded_by _ _ c.in-None.is c.next.ensures.steps in
    let all = sym (map-id c.loop-character.yielded) ∙ end.0 ∙ c.as_str.ensures.characters in
    c.in_ok-push-2.ensures.items ∙ ap (λ xs. xs ++ 34 ∷ []) c.loop-character.invariant ∙ (λ i. (c.in_ok-push.ensures.items i ++ encode_utf8_all (flat_map escaped (all i))) ++ 34 ∷ []) ∙ quoted c.args.out.now.items (flat_map escaped c.args.text.now)

pub returns-clause-scalars : goal.returns-clause-scalars
returns-clause-scalars c = subst (λ cs. all_scalars cs ≡ true) c.as_str.ensures.characters (scalars-chars c.as_str.result.now c.as_str.utf8)

use Rattle.std.proofs.Common.{◌≡◌, Some, None, sym, ap, subst, ◌∙◌}
use Rattle.std.specs.Option.{option_map}
use Rattle.fast_syntax.specs.Plain.{plain_lang}
use Rattle.model_meaning.specs.Types.{signature_of}
use Rattle.fast_build.specs.Automaton.{IsAutomatonOf}
use Rattle.fast_build.specs.Items.{items_of}
use Rattle.fast_build.proofs.WellFormed.{all_stand}
use Rattle.fast_build.proofs.Carried.{is_built_for}
use Rattle.fast_build.proofs.automaton.languages.Goals as goal

pub unreachable-requires-in_default-signature : goal.unreachable-requires-in_default-signature
unreachable-requires-in_default-signature c =
    let stands = all_stand (items_of c.args.checked.now) c.args.checked.now.well_formed c.args.name.now (plain_lang c.in-Some.own.now) c.in-Some.ensures in
    let no : None ≡ Some (signature_of stands.type) = c.in_default-signature.ensures ∙ ap (option_map signature_of) stands.found in
    absurd (cc)

pub returns-clause-carried : goal.returns-clause-carried
returns-clause-carried c = λ n type same on. is_built_for (items_of c.args.checked.now) n type c.in_ok-sta.sta on (subst (λ text. IsAutomatonOf (items_of c.args.checked.now) text c.in_ok-sta.sta) (sym same) c.in_ok-sta.ensures)

use Rattle.std.proofs.Common.{◌≡◌, ◌↔◌, true, sym, subst}
use Rattle.std.specs.Str.{chars}
use Rattle.model_tree.specs.Signature.{HasType}
use Rattle.model_checks.proofs.SoundWhole.{sound}
use Rattle.model_meaning.specs.Meaning.{IsInLanguage, input_type}
use Rattle.fast_eval.specs.Forms.{IsMadeOn, AreKnown}
use Rattle.fast_eval.specs.Stops.{StopsExpression}
use Rattle.tree_values.specs.Trees.{meant}
use Rattle.fast_session.specs.Kept.{items_in}
use Rattle.fast_session.proofs.Building.{name_made, name_stops}
use Rattle.fast_session.proofs.Silent.{nothing_more}
use Rattle.fast_session.proofs.inside.is_member.Goals as goal

pub returns-in_err-x-clause-more : goal.returns-in_err-x-clause-more
returns-in_err-x-clause-more c = nothing_more (items_in c.args.around.now) c.args.kept.now c.requires.built

pub belongs-requires-clause-made : goal.belongs-requires-clause-made
belongs-requires-clause-made c =
    let items = items_in c.args.around.now in
    let m = name_made items (sound items c.args.around.now.checked.now.well_formed) (chars c.args.name.now) c.requires.language in
    (m.0, subst (IsMadeOn items m.0) (sym c.in_ok-x.ensures) m.1)

pub belongs-requires-clause-known : goal.belongs-requires-clause-known
belongs-requires-clause-known c = subst (AreKnown (items_in c.args.around.now) c.args.kept.now.built) (sym c.in_ok-x.ensures) c.requires.known

pub belongs-requires-clause-typed : goal.belongs-requires-clause-typed
belongs-requires-clause-typed c = subst (λ y. HasType (input_type (items_in c.args.around.now) y) (meant c.args.tree.now)) (sym c.in_ok-x.ensures) c.requires.typed

pub returns-in-Ok-clause-inside : goal.returns-in-Ok-clause-inside
returns-in-Ok-clause-inside c = subst (λ y. (c.in-Ok.inside ≡ true) ↔ IsInLanguage (items_in c.args.around.now) y (meant c.args.tree.now)) c.in_ok-x.ensures c.in-Ok.ensures.inside

pub memory_of-requires : goal.memory_of-requires
memory_of-requires c =
    let items = items_in c.args.around.now in
    name_stops items (chars c.args.name.now) c.args.around.now.limit c.in-Err.stop (subst (λ y. StopsExpression items y c.args.around.now.limit c.in-Err.stop) c.in_ok-x.ensures c.in-Err.ensures.stop)

use Rattle.std.proofs.Common.{sym, refl, ap, ◌∙◌}
use Rattle.fast_syntax.specs.View.{plain_name}
use Rattle.fast_eval.specs.Places.{place_in}
use Rattle.fast_eval.specs.Scopes.{type_in}
use Rattle.fast_eval.proofs.evaluation.named_trans.Goals as goal

pub returns : goal.returns
returns c = λ into goes.
    (let name = c.args.name.now.text in
    let place_is = ap (λ t. place_in t name) (sym c.transformations.ensures) ∙ sym c.in-Some.ensures in
    let there = c.requires.scope.built.transformations name c.in-Some.place place_is in
    record { low = there.low; built = λ d. there.is d (plain_name c.args.name.now) (type_in c.args.scope.now) into refl goes })

use Rattle.std.proofs.Common.{sym, refl, ap, ◌∙◌}
use Rattle.fast_syntax.specs.View.{plain_name}
use Rattle.fast_eval.specs.Places.{place_in}
use Rattle.fast_eval.specs.Scopes.{type_in}
use Rattle.fast_eval.proofs.evaluation.named.Goals as goal

pub returns-clause-operand : goal.returns-clause-operand
returns-clause-operand c =
    let name = c.args.name.now.text in
    let place_is = ap (λ t. place_in t name) (sym c.languages.ensures) ∙ sym c.in-Some.ensures in
    let there = c.requires.scope.built.languages name c.in-Some.place place_is in
    record { low = there.low; built = λ d. there.is d (plain_name c.args.name.now) (type_in c.args.scope.now) refl c.requires.on.1 }

use Rattle.std.proofs.Common.{◌≡◌, ◌∷◌, sym, subst, rules}
use Rattle.model_grammar.specs.Printed.{with_bars}
use Rattle.fast_syntax.specs.Adds.{Adds}
use Rattle.fast_syntax.proofs.Characters.{if_ok}
use Rattle.fast_syntax.proofs.Appending.{adds_then}
use Rattle.fast_syntax.proofs.print_lists.append_with_bars.Goals as goal

pub returns : goal.returns
returns g c =
    let all : c.args.items.now ≡ c.in-Some.first.now ∷ c.in-Some.later.now = search rules in
    if_ok c.append_behind_bars.result (λ x last. subst (λ l. Adds c.args.page.now c.append_behind_bars.new.page (with_bars g.T.Printed.pieces l)) (sym all) (adds_then c.in_ok-append.ensures last)) c.append_behind_bars.ensures

use Rattle.std.proofs.Common.{◌≡◌, sym, ap, ap₂, subst, ◌∙◌}
use Rattle.std.proofs.lemmas.Result.{on_ok_weaker}
use Rattle.model_grammar.specs.declared.Op2.TheVariants.{Compose}
use Rattle.model_grammar.specs.Syntax.{two}
use Rattle.fast_syntax.specs.Plain.{plain_x}
use Rattle.fast_syntax.specs.declared.items.X as written
use Rattle.fast_build.specs.Reached.{IsGrown}
use Rattle.fast_build.proofs.Grown.{grown_twice}
use Rattle.fast_compose.specs.Sources.{sources_in}
use Rattle.fast_compose.proofs.sources.+add_sources.Goals as goal

pub returns-in_ok-add_sources-in-Two-Compose-default-default-default : goal.returns-in_ok-add_sources-in-Two-Compose-default-default-default
unfolding written.out-X denote.Hole.Carrier.out
returns-in_ok-add_sources-in-Two-Compose-default-default-default t c =
    let one = plain_x c.deref.result.now in
    let other = plain_x c.deref-in-Two-Compose-default-default-default.result.now in
    let place = c.in-Two-Compose-default-default-default.field-1 in
    let at : two Compose place one other ≡ plain_x c.args.x.now =
    ap₂ (λ v w. two Compose place (plain_x v) (plain_x w)) c.deref.ensures c.deref-in-Two-Compose-default-default-default.ensures ∙ (ap (λ op. two op place (plain_x c.in-Two-Compose-default-default-default.first.value) (plain_x c.in-Two-Compose-default-default-default.second.value)) (sym (rw c.in-Two-Compose-default-default-default.is at c.in-Two-Compose-default-default-default.field-0-is)) ∙ sym (ap plain_x c.in-Two-Compose-default-default-default.is)) in
    on_ok_weaker c.add_sources-in-Two-Compose-default-default-default.result
    (λ more. subst (IsGrown c.args.names.now.keys c.add_sources-in-Two-Compose-default-default-default.new.names.keys) (ap sources_in at)
    (grown_twice c.args.names.now.keys c.add_sources.new.names.keys c.add_sources-in-Two-Compose-default-default-default.new.names.keys (sources_in one) (sources_in other) c.in_ok-add_sources-in-Two-Compose-default-default-default.ensures more))
    c.add_sources-in-Two-Compose-default-default-default.ensures

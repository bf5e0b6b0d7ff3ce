use Rattle.std.proofs.Common.{◌≡◌, [], get_or, sym, ap, subst, ◌∙◌}
use Rattle.std.specs.Option.{option_map_or}
use Rattle.std.proofs.lemmas.List.{get_or_default}
use Rattle.std.proofs.lemmas.Result.{on_ok_weaker}
use Rattle.fast_syntax.specs.Plain.{plain_x}
use Rattle.fast_build.specs.Items.{items_of}
use Rattle.fast_build.specs.Reached.{IsGrown}
use Rattle.fast_compose.specs.Sources.{sources_in, opened_by}
use Rattle.fast_compose.proofs.sources.open.Goals as goal

pub returns-in-Some : goal.returns-in-Some
returns-in-Some c =
    let items = items_of c.args.checked.now in
    let old = c.args.names.now.keys in
    let n = c.index-as_slice-place.result in
    let at : n ≡ get_or old c.args.place n = c.index-as_slice-place.is ∙ (λ i. get_or (c.as_slice.ensures.keys i) c.args.place n) in
    let same : get_or old c.args.place [] ≡ n = get_or_default old c.args.place [] n c.requires.low ∙ sym at in
    let own : opened_by items (get_or old c.args.place []) ≡ sources_in (plain_x c.in-Some.own.now) = ap (opened_by items) same ∙ ap (λ o. option_map_or sources_in o []) c.in-Some.ensures in
    on_ok_weaker c.add_sources.result (subst (IsGrown old c.add_sources.new.names.keys) (sym own)) c.add_sources.ensures

use Rattle.std.proofs.Common.{◌≡◌, ◌<◌, true, [], length, get_or, take, Contains, ap, subst, ◌∙◌, arith, length-append, take_all}
use Rattle.std.specs.Prelude.{is_some}
use Rattle.std.specs.Cmp.Lexicographic.{nat_list_eq_equiv}
use Rattle.std.proofs.lemmas.List.{get_or_default}
use Rattle.std.proofs.lemmas.List.Elements.{All-nil, Contains-get_or, All-contains}
use Rattle.fast_syntax.specs.Plain.{plain_x}
use Rattle.model_names.specs.Declared.{find_item}
use Rattle.fast_build.specs.Items.{items_of}
use Rattle.fast_build.specs.Reached.{IsGrown}
use Rattle.fast_build.proofs.Closing.{IsClosedBy, closed_more, all_grown, still_there, not_more_than_items}
use Rattle.fast_compose.specs.Sources.{sources_in, opened_by, IsSource, stands, opened}
use Rattle.fast_compose.proofs.Named.{opened_declared}
use Rattle.fast_compose.proofs.sources.all_sources.Goals as goal

pub open-init : goal.open-init
open-init c =
    let items = items_of c.args.checked.now in
    let x = plain_x c.args.x.now in
    let keys = c.add_sources.new.names.keys in
    let grown : IsGrown [] keys (sources_in x) = subst (λ ks. IsGrown ks keys (sources_in x)) c.new-names.ensures.empty c.in_ok-add_sources.ensures in
    record {
      declared = all_grown (λ n. is_some (find_item items n) ≡ true) [] keys (sources_in x) grown (All-nil _) (λ n at. All-contains (λ m. is_some (find_item items m) ≡ true) (sources_in x) n c.requires.declared at);
      all = grown.all;
      closed = All-nil _;
      only = all_grown (IsSource items x) [] keys (sources_in x) grown (All-nil _) (λ n at. stands n at);
      count = omega arith;
    }

pub open-smaller : goal.open-smaller
open-smaller c =
    let items = items_of c.args.checked.now in
    let most = not_more_than_items items nat_list_eq_equiv c.open.names.keys c.open.invariant.declared c.len.ensures.unique in
    omega (arith, c.open-test.true, c.len.ensures.len, most)

pub open-preserved : goal.open-preserved
open-preserved c =
    let items = items_of c.args.checked.now in
    let x = plain_x c.args.x.now in
    let old = c.open.names.keys in
    let new = c.open-in-open.new.names.keys in
    let k = c.open.done in
    let low : k < length old = omega (arith, c.open-test.true, c.len.ensures.len) in
    let n = get_or old k [] in
    let at : Contains old n = Contains-get_or old k [] low in
    let more = opened_by items n in
    let grown : IsGrown old new more = c.in_ok-open.ensures in
    record {
      declared = all_grown (λ m. is_some (find_item items m) ≡ true) old new more grown c.open.invariant.declared (λ m by. opened_declared items c.args.checked.now.well_formed n m by);
      all = still_there old new more (sources_in x) grown c.open.invariant.all;
      closed = closed_more (opened_by items) old new k n low (get_or_default old k [] n low) c.open.invariant.closed grown;
      only = all_grown (IsSource items x) old new more grown c.open.invariant.only (λ m by. opened n m (All-contains (IsSource items x) old n c.open.invariant.only at) by);
      count = let longer = ap length grown.is ∙ length-append old grown.added in omega (arith, low, longer);
    }

pub returns : goal.returns
returns c =
    let items = items_of c.args.checked.now in
    let keys = c.open.names.keys in
    let whole : take c.open.done keys ≡ keys = take_all c.open.done keys (omega (arith, c.open-test.false, c.len.ensures.len)) in
    record {
      all = c.open.invariant.all;
      closed = subst (IsClosedBy (opened_by items) keys) whole c.open.invariant.closed;
      only = c.open.invariant.only;
    }

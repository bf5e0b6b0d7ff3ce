use Rattle.std.proofs.Common.{◌≡◌, ℕ, List, ◌<◌, ◌≤◌, take, length, get_or, Contains, sym, subst, take_all}
use Rattle.model_meaning.specs.Reached.{Reaches}
use Rattle.fast_build.specs.Items.{items_of}
use Rattle.fast_compose.specs.Copying.{IsFirst}
use Rattle.fast_compose.proofs.First.{first_of_both}
use Rattle.fast_compose.proofs.Rounds.{Before, After, before_after, last_after, after_either}
use Rattle.fast_compose.proofs.copying.first_copying.Goals as goal

pub names-preserved : goal.names-preserved
names-preserved c =
    let items = items_of c.args.checked.now in
    let names = c.args.names.now.keys in
    let k = c.names.name-index in
    let x = c.name-item.result in
    let keys = c.as_slice-name-items.ensures.keys in
    let low : k < length names = subst (λ ns. k < length ns) keys c.names-test.true in
    let is : x ≡ get_or names k x = subst (λ ns. x ≡ get_or ns k x) keys c.name-item.is in
    subst (IsFirst items (λ q i. After names k x low is items q)) (sym c.earlier-first.ensures)
    (first_of_both items (λ q i. Before names k x low is items q) (λ q i. Reaches items x q) (λ q i. After names k x low is items q)
    (λ q i. before_after names k x low is items q) (λ q i. last_after names k x low is items q) (λ q i. after_either names k x low is items q)
    c.names.first c.in_ok-found.found c.names.invariant c.in_ok-found.ensures)

pub returns : goal.returns
returns c =
    let items = items_of c.args.checked.now in
    let names = c.args.names.now.keys in
    let all : take c.names.name-index names ≡ names = take_all c.names.name-index names (subst (λ ns. length ns ≤ c.names.name-index) c.as_slice-name-items.ensures.keys c.names-test.false) in
    subst (λ ns. IsFirst items (λ q i. (n : List ℕ) × Contains ns n × Reaches items n q) c.names.first) all c.names.invariant

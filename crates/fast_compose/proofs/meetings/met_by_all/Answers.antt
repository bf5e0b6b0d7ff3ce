use Rattle.std.proofs.Common.{◌≡◌, ℕ, List, ◌<◌, ◌≤◌, take, length, get_or, Contains, sym, subst, ◌∙◌, take_all}
use Rattle.model_meaning.specs.Reached.{Reaches}
use Rattle.fast_build.specs.Items.{items_of}
use Rattle.fast_compose.specs.Meetings.{IsMet}
use Rattle.fast_compose.proofs.Rounds.{Before, After, before_after, last_after, after_either, after_all, graver_met, shown_more}
use Rattle.fast_compose.proofs.meetings.met_by_all.Goals as goal

pub names-preserved : goal.names-preserved
names-preserved c =
    let items = items_of c.args.checked.now in
    let names = c.args.names.now.keys in
    let k = c.names.name-index in
    let x = c.name-item.result in
    let keys = c.as_slice-name-items.ensures.keys in
    let low : k < length names = subst (λ ns. k < length ns) keys c.names-test.true in
    let is : x ≡ get_or names k x = subst (λ ns. x ≡ get_or ns k x) keys c.name-item.is in
    subst (IsMet items (After names k x low is items)) (sym c.graver-found.ensures)
    (graver_met items (Before names k x low is items) (Reaches items x) (After names k x low is items) (before_after names k x low is items) (last_after names k x low is items) (after_either names k x low is items)
    c.names.found c.in_ok-other.other c.names.invariant c.in_ok-other.ensures.met)

pub returns-then-is_shown-clause-met : goal.returns-then-is_shown-clause-met
returns-then-is_shown-clause-met c =
    let items = items_of c.args.checked.now in
    let names = c.args.names.now.keys in
    let k = c.names.name-index in
    let x = c.name-item.result in
    let keys = c.as_slice-name-items.ensures.keys in
    let low : k < length names = subst (λ ns. k < length ns) keys c.names-test.true in
    let is : x ≡ get_or names k x = subst (λ ns. x ≡ get_or ns k x) keys c.name-item.is in
    let after = subst (IsMet items (After names k x low is items)) (sym c.graver-found.ensures)
    (graver_met items (Before names k x low is items) (Reaches items x) (After names k x low is items) (before_after names k x low is items) (last_after names k x low is items) (after_either names k x low is items)
    c.names.found c.in_ok-other.other c.names.invariant c.in_ok-other.ensures.met) in
    shown_more items (After names k x low is items) (λ q. (n : List ℕ) × Contains names n × Reaches items n q) (after_all names k x low is items) c.graver-found.result (sym c.is_shown.ensures ∙ c.if-is_shown.true) after

pub returns-clause-met : goal.returns-clause-met
returns-clause-met c =
    let items = items_of c.args.checked.now in
    let names = c.args.names.now.keys in
    let all : take c.names.name-index names ≡ names = take_all c.names.name-index names (subst (λ ns. length ns ≤ c.names.name-index) c.as_slice-name-items.ensures.keys c.names-test.false) in
    subst (λ ns. IsMet items (λ q. (n : List ℕ) × Contains ns n × Reaches items n q) c.names.found) all c.names.invariant

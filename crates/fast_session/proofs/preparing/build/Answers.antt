use Rattle.std.proofs.Common.{◌≡◌, ℕ, true, List, Some, Contains, sym, ap, subst, ◌∙◌}
use Rattle.std.specs.List.{list_any}
use Rattle.std.specs.Option.{option_map}
use Rattle.fast_syntax.specs.Plain.{plain_item, plain_def}
use Rattle.model_grammar.specs.Syntax.{Body, DefItem, def}
use Rattle.model_names.specs.Declared.{same_text, own_name}
use Rattle.model_program.specs.Syntax.{Name}
use Rattle.fast_build.proofs.Grown.{there_by_test}
use Rattle.fast_session.specs.Kept.{items_in}
use Rattle.fast_session.specs.Needed.{IsHaltAmong}
use Rattle.fast_session.specs.Answers.{halt_at}
use Rattle.fast_session.proofs.Following.{is_def}
use Rattle.fast_session.proofs.Building.{value_is, value_made, value_known, def_always, halts_among, named_as, stands_there}
use Rattle.fast_session.proofs.preparing.build.Goals as goal

-- the text of a definition's name is that of the item's
def_text : (b : Body) (d : DefItem) (text : List ℕ) → b ≡ def d → Some text ≡ option_map (λ (n : Name). n.text) (own_name b) → text ≡ d.name.text
def_text b d text is named = let same : Some text ≡ Some d.name.text = named ∙ ap (λ c. option_map (λ (n : Name). n.text) (own_name c)) is in cc

-- a definition whose name was found
def_there : (names : List (List ℕ)) (b : Body) (d : DefItem) (text : List ℕ) → b ≡ def d → Some text ≡ option_map (λ (n : Name). n.text) (own_name b) → list_any (same_text text) names ≡ true → Contains names d.name.text
def_there names b d text is named found = subst (Contains names) (def_text b d text is named) (there_by_test names text found)

pub can_compose-requires-clause-there : goal.can_compose-requires-clause-there
can_compose-requires-clause-there c = stands_there (items_in c.args.around.now) (plain_item c.args.item.now) c.requires.at

pub returns-in-Err-clause-halt : goal.returns-in-Err-clause-halt
returns-in-Err-clause-halt c =
    let item = plain_item c.args.item.now in
    let keys = c.args.names.now.keys in
    let items = items_in c.args.around.now in
    let limit = c.args.around.now.limit in
    let text = c.in-Some.name.now in
    let n = named_as (own_name item.body) text c.in-Some.ensures in
    subst (IsHaltAmong items limit keys) (sym c.halt_at.ensures)
    (halts_among items limit keys item (stands_there items item c.requires.at) n.0 n.1 (subst (Contains keys) (sym n.2) (there_by_test keys text (sym c.contains.ensures ∙ c.if-not-contains.false))) c.in-Err.stop c.in-Err.ensures.stopped)

pub define-requires-clause-defined : goal.define-requires-clause-defined
define-requires-clause-defined c =
    let item = plain_item c.args.item.now in
    let own = plain_def c.in-Some-own_def.own.now in
    value_is c.args.around.now c.args.names.now.keys item c.args.kept.now c.requires own (is_def item.body own c.in-Some-own_def.ensures)

pub define-requires-clause-made : goal.define-requires-clause-made
define-requires-clause-made c =
    let item = plain_item c.args.item.now in
    let own = plain_def c.in-Some-own_def.own.now in
    value_made c.args.around.now c.args.names.now.keys item c.args.kept.now c.requires own (is_def item.body own c.in-Some-own_def.ensures) c.in_default-can_compose.ensures.composable

pub define-requires-clause-known : goal.define-requires-clause-known
define-requires-clause-known c =
    let item = plain_item c.args.item.now in
    let own = plain_def c.in-Some-own_def.own.now in
    let keys = c.args.names.now.keys in
    let is = is_def item.body own c.in-Some-own_def.ensures in
    value_known c.args.around.now keys item c.args.kept.now c.requires own is c.in_default-can_compose.ensures.composable (def_there keys item.body own c.in-Some.name.now is c.in-Some.ensures (sym c.contains.ensures ∙ c.if-not-contains.false))

pub returns-in-Err-define-clause-halt : goal.returns-in-Err-define-clause-halt
returns-in-Err-define-clause-halt c =
    let item = plain_item c.args.item.now in
    let own = plain_def c.in-Some-own_def.own.now in
    let keys = c.args.names.now.keys in
    let items = items_in c.args.around.now in
    let limit = c.args.around.now.limit in
    let is = is_def item.body own c.in-Some-own_def.ensures in
    subst (IsHaltAmong items limit keys) (sym (c.halt_at-in-Err-define.ensures ∙ ap (halt_at c.args.item.now.place) c.stopped.ensures))
    (halts_among items limit keys item (stands_there items item c.requires.at) own.name (ap own_name is) (def_there keys item.body own c.in-Some.name.now is c.in-Some.ensures (sym c.contains.ensures ∙ c.if-not-contains.false)) _ (def_always items limit item own is c.in-Err-define.stop c.in-Err-define.ensures.stop))

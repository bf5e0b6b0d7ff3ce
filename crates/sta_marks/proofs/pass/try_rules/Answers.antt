use Rattle.std.proofs.Common.{◌≡◌, ◌<◌, ◌+◌, ◌∷◌, [], map, drop, get_or, refl, sym, ap, subst, ◌∙◌, arith}
use Rattle.std.proofs.lemmas.List.{drop_more, drop_all}
use Rattle.sta_marks.specs.Filled.{tried_each}
use Rattle.sta_marks.specs.Rows.{rows_at}
use Rattle.sta_marks.specs.Rules.{plain_owned}
use Rattle.sta_marks.proofs.Tried.{IsTried, none_tried, tried_more, all_tried, tried_low, tried_states}
use Rattle.sta_marks.proofs.pass.try_rules.Goals as goal

pub rules-init : goal.rules-init
rules-init g c = none_tried g.T.Theory.atom_holds (g.T.Theory.label_of c.args.value.now) c.args.marks.now c.args.node c.args.children.now _ (map plain_owned (drop 0 c.args.list.now)) refl

pub try_rule-requires-clause-node : goal.try_rule-requires-clause-node
try_rule-requires-clause-node g c = tried_low g.T.Theory.atom_holds (g.T.Theory.label_of c.args.value.now) c.args.marks.now c.args.node c.args.children.now c.rules.marks _ _ c.rules.invariant c.requires.node

pub try_rule-requires-clause-state : goal.try_rule-requires-clause-state
try_rule-requires-clause-state g c =
    let same = tried_states g.T.Theory.atom_holds (g.T.Theory.label_of c.args.value.now) c.args.marks.now c.args.node c.args.children.now c.rules.marks _ _ c.rules.invariant in
    let low = subst (λ x. x.state < c.args.marks.now.states) (sym c.own-item.is) (c.requires.low c.rules.own-index c.own-item.result (omega (arith, c.rules-test.true))) in
    omega (arith, same, low)

pub rules-preserved : goal.rules-preserved
rules-preserved g c =
    let i = c.rules.own-index in
    let list = c.args.list.now in
    let own = c.own-item.result in
    let holds = g.T.Theory.atom_holds in
    let label = g.T.Theory.label_of c.args.value.now in
    let start = c.args.marks.now in
    let whole = tried_each holds label (rows_at start c.args.children.now) (get_or start.rows c.args.node []) (map plain_owned list) in
    let next : map plain_owned (drop i list) ≡ plain_owned own ∷ map plain_owned (drop (i + 1) list) = ap (map plain_owned) (drop_more list i own (omega (arith, c.rules-test.true)) ∙ ap (λ x. x ∷ drop (i + 1) list) (sym c.own-item.is)) in
    tried_more holds label start c.args.node c.args.children.now c.requires.node c.requires.apart c.rules.marks c.try_rule.new.marks (plain_owned own) (map plain_owned (drop (i + 1) list)) whole
    (subst (λ left. IsTried holds label start c.args.node c.args.children.now c.rules.marks left whole) next c.rules.invariant) c.try_rule.ensures

pub returns : goal.returns
returns g c =
    all_tried g.T.Theory.atom_holds (g.T.Theory.label_of c.args.value.now) c.args.marks.now c.args.node c.args.children.now c.rules.marks _ _ (ap (map plain_owned) (drop_all c.rules.own-index c.args.list.now (omega (arith, c.rules-test.false)))) c.rules.invariant

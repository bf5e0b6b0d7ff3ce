use Rattle.std.proofs.Common.{◌≡◌, ◌<◌, ◌≤◌, ℕ, [], All, map, get_or, length, sym, ap, subst, ◌∙◌, arith}
use Rattle.model_tree.specs.Formula.{EveryAtom}
use Rattle.model_tree.specs.Tree.{constructor_of, label_of}
use Rattle.sta_core.proofs.Meaning.{All_from_map}
use Rattle.sta_marks.specs.Filled.{tried_each}
use Rattle.sta_marks.specs.Rows.{with_row, rows_at}
use Rattle.sta_marks.specs.Rules.{owned_from, plain_owned}
use Rattle.sta_marks.proofs.Grouped.{owned_low, owned_fit, list_there, list_past}
use Rattle.sta_marks.proofs.Tried.{root_tried, root_alone}
use Rattle.sta_marks.proofs.pass.mark_root.Goals as goal

pub returns-then-constructor-len : goal.returns-then-constructor-len
returns-then-constructor-len g c =
    let m = c.args.table.now.sta.now in
    let lists = c.args.table.now.lists in
    let past : length lists.items ≤ constructor_of c.args.tree.now = omega (arith, c.if-constructor-len.true, c.len.ensures, lists.ok.0, c.constructor-constructor.ensures) in
    root_alone g.T.Theory.atom_holds (g.T.Theory.label_of (label_of c.args.tree.now)) m (constructor_of c.args.tree.now) c.args.marks.now c.args.node c.args.children.now c.requires.states c.requires.blank (list_past m lists.items (constructor_of c.args.tree.now) c.requires.grouped past)

pub try_rules-requires-clause-fit : goal.try_rules-requires-clause-fit
try_rules-requires-clause-fit g c =
    let m = c.args.table.now.sta.now in
    let lists = c.args.table.now.lists in
    let fits = g.T.Theory.atom_fits c.args.theory.now in
    let con = c.constructor-constructor.result in
    let low : con < length lists.items = omega (arith, c.if-constructor-len.false, c.len.ensures, lists.ok.0) in
    let list_is : map plain_owned c.deref.result.now ≡ owned_from con 0 m.rules = ap (map plain_owned) c.deref.ensures.value ∙ list_there m lists.items con c.index.result.now c.requires.grouped low c.index.ensures in
    All_from_map (λ p. EveryAtom fits p.1.guard) plain_owned c.deref.result.now (subst (All (λ p. EveryAtom fits p.1.guard)) (sym list_is) (owned_fit con m.rules fits c.requires.fits))

pub try_rules-requires-clause-low : goal.try_rules-requires-clause-low
try_rules-requires-clause-low g c =
    let m = c.args.table.now.sta.now in
    let lists = c.args.table.now.lists in
    let con = c.constructor-constructor.result in
    let low : con < length lists.items = omega (arith, c.if-constructor-len.false, c.len.ensures, lists.ok.0) in
    let list_is : map plain_owned c.deref.result.now ≡ owned_from con 0 m.rules = ap (map plain_owned) c.deref.ensures.value ∙ list_there m lists.items con c.index.result.now c.requires.grouped low c.index.ensures in
    All_from_map (λ p. p.0 < c.args.marks.now.states) plain_owned c.deref.result.now (subst (λ n. All (λ p. p.0 < n) (map plain_owned c.deref.result.now)) (sym c.requires.states) (subst (All (λ p. p.0 < length m.rules)) (sym list_is) (owned_low con m.rules)))

pub returns : goal.returns
returns g c =
    let m = c.args.table.now.sta.now in
    let lists = c.args.table.now.lists in
    let marks = c.args.marks.now in
    let con = c.constructor-constructor.result in
    let holds = g.T.Theory.atom_holds in
    let label = g.T.Theory.label_of in
    let low : con < length lists.items = omega (arith, c.if-constructor-len.false, c.len.ensures, lists.ok.0) in
    let list_is : map plain_owned c.deref.result.now ≡ owned_from (constructor_of c.args.tree.now) 0 m.rules =
    ap (map plain_owned) c.deref.ensures.value ∙ list_there m lists.items con c.index.result.now c.requires.grouped low c.index.ensures ∙ ap (λ k. owned_from k 0 m.rules) c.constructor-constructor.ensures
    in
    c.try_rules.ensures
    ∙ ap (λ v. with_row marks c.args.node (tried_each holds (label v) (rows_at marks c.args.children.now) (get_or marks.rows c.args.node []) (map plain_owned c.deref.result.now))) c.label.ensures
    ∙ ap (with_row marks c.args.node) (root_tried holds (label (label_of c.args.tree.now)) m (constructor_of c.args.tree.now) marks c.args.node c.args.children.now c.requires.states c.requires.blank (map plain_owned c.deref.result.now) list_is)

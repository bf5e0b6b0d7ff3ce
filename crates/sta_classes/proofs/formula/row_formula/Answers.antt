use Rattle.std.proofs.lemmas.Result.{IfOk-from_err, IfOk-at_ok}
use Rattle.std.proofs.Common.{arith, ap, ap₂, sym, map, get_or, false, length, ◌<◌, ◌≤◌, ◌∙◌, ◌++◌, ◌∷◌, [], take_all}
use Rattle.std.proofs.lemmas.List.{map-append}
use Rattle.model_tree.specs.Formula.{all_of, formulas_of}
use Rattle.label_core.specs.Formula.{plain_formula}
use Rattle.sta_core.specs.Machine.{plain_rule}
use Rattle.model_sta.proofs.Reached.{same_default}
use Rattle.sta_classes.specs.RowFormula.{signed, some_fires, state_formulas}
use Rattle.sta_classes.specs.Rules.{plain_rules}
use Rattle.sta_classes.specs.Rows.{class_rows_at}
use Rattle.sta_classes.proofs.Fired.{formulas_taken}
use Rattle.sta_classes.proofs.formula.row_formula.Goals as goal

pub loop-i-preserved : goal.loop-i-preserved
loop-i-preserved g c =
    let (part, made, items) = c.in_ok-added.ensures in
    let low : c.loop-i.i < length c.args.row.now = omega (arith, c.loop-i-test.true, c.requires.row) in
    let qs = class_rows_at c.args.found.now c.args.children.now in
    ap (map plain_formula) items ∙ map-append plain_formula c.loop-i.parts.items (part ∷ [])
    ∙ ap₂ (λ fs f. fs ++ f ∷ []) c.loop-i.invariant (IfOk-at_ok _ made c.state_formula-part.ensures ∙ ap (λ b. signed b (some_fires c.args.constructor qs (map plain_rule c.deref.result.now))) c.has.ensures ∙ ap (λ rs. signed (get_or c.args.row.now c.loop-i.i false) (some_fires c.args.constructor qs (map plain_rule rs))) c.deref.ensures.value)
    ∙ sym (formulas_taken c.args.constructor qs (λ those. map plain_rule those.items) c.args.rules.now c.args.row.now c.loop-i.i c.index-rules-i.result (get_or c.args.row.now c.loop-i.i false) c.loop-i-test.true c.requires.row c.index-rules-i.is (same_default c.args.row.now c.loop-i.i false _ low))

pub returns : goal.returns
returns g c =
    let high : length c.args.row.now ≤ c.loop-i.i = omega (arith, c.loop-i-test.false, c.requires.row) in
    c.conjunction.ensures
    ∙ ap (λ fs. all_of (formulas_of fs)) (c.loop-i.invariant ∙ ap₂ (λ rs bs. state_formulas c.args.constructor (class_rows_at c.args.found.now c.args.children.now) (plain_rules rs) bs) (take_all c.loop-i.i c.args.rules.now c.loop-i-test.false) (take_all c.loop-i.i c.args.row.now high))

pub returns-in_err-added : goal.returns-in_err-added
returns-in_err-added g c = IfOk-from_err c.from_residual.result _ c.from_residual.ensures.0

pub state_formula-part-requires : goal.state_formula-part-requires
state_formula-part-requires g c = record { children = c.requires.children }

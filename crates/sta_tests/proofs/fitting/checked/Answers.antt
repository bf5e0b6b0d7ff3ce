use Rattle.std.proofs.Common.{◌<◌, All, get_or, map, subst, sym}
use Rattle.model_tree.specs.Formula.{EveryAtom}
use Rattle.label_core.specs.Formula.{plain_formula}
use Rattle.sta_core.specs.Machine.{plain_rule}
use Rattle.sta_core.specs.Sta.{AtomsFit}
use Rattle.sta_classes.proofs.Told.{all_to_map}
use Rattle.sta_tests.proofs.fitting.checked.Goals as goal

pub returns : goal.returns
returns c =
    let fit = subst (All (λ those. All (λ r. EveryAtom (λ a. a.field < c.args.fields) (plain_formula r.guard)) those.items)) c.deref-3.ensures.value (c.all_guards_fit.ensures c.if-not-all_guards_fit.false) in
    subst (AtomsFit (λ a. a.field < c.args.fields)) (sym c.new.ensures)
    (all_to_map (λ rs. All (λ r. EveryAtom (λ a. a.field < c.args.fields) r.guard) rs) (λ those. map plain_rule those.items) c.args.rules.items
    (λ k d l. all_to_map (λ r. EveryAtom (λ a. a.field < c.args.fields) r.guard) plain_rule (get_or c.args.rules.items k d).items (fit k d l)))

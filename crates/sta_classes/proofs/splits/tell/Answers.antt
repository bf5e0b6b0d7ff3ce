use Rattle.std.proofs.Common.{◌≡◌, ◌∙◌, ap, map}
use Rattle.std.proofs.lemmas.Result.{IfOk-at_ok}
use Rattle.std.proofs.lemmas.List.Elements.{All-weaker}
use Rattle.label_core.specs.Formula.{plain_formula}
use Rattle.sta_classes.specs.Applying.{chosen, guards_in}
use Rattle.sta_classes.specs.Guards.{truths}
use Rattle.label_split.specs.Split.{IsRow}
use Rattle.sta_classes.proofs.Keeping.{stopped}
use Rattle.sta_classes.proofs.Told.{formulas_fit, split_told, wide_told, told_by}
use Rattle.sta_classes.proofs.splits.tell.Goals as goal

pub split-rows-requires : goal.split-rows-requires
split-rows-requires g c = record {
  fit = formulas_fit c.args.list.now c.args.numbers.now c.deref.result.now (ap (map plain_formula) c.deref.ensures.value ∙ c.in_ok-guards_of.ensures) (g.T.Theory.atom_fits c.args.theory.now) c.requires.fit;
}

pub tell_each-requires : goal.tell_each-requires
tell_each-requires g c = record {
  fit = c.requires.fit;
  kept = All-weaker (IsRow (g.T.Theory.meaning c.args.theory.now) (truths g.T.Theory.atom_holds (chosen c.args.numbers.now (guards_in c.args.list.now)))) (λ r. (g.T.Theory.meaning c.args.theory.now).keeps (g.T.Theory.label_of r.value)) (λ r h. h.0) c.in-Ok.rows.items
      (split_told c.args.list.now c.args.numbers.now c.deref.result.now (ap (map plain_formula) c.deref.ensures.value ∙ c.in_ok-guards_of.ensures) (g.T.Theory.meaning c.args.theory.now) c.in-Ok.rows.items c.in-Ok.ensures.rows).sound;
}

pub returns-in_ok-added-in-Ok : goal.returns-in_ok-added-in-Ok
returns-in_ok-added-in-Ok g c =
    let (labels, made, items) = c.in_ok-added-in-Ok.ensures in (
      labels,
      told_by c.args.list.now c.args.numbers.now (g.T.Theory.meaning c.args.theory.now) c.in-Ok.rows.items
          (split_told c.args.list.now c.args.numbers.now c.deref.result.now (ap (map plain_formula) c.deref.ensures.value ∙ c.in_ok-guards_of.ensures) (g.T.Theory.meaning c.args.theory.now) c.in-Ok.rows.items c.in-Ok.ensures.rows)
          labels.items (IfOk-at_ok _ made c.tell_each.ensures),
      items,
    )

pub returns-in-Err-Wide : goal.returns-in-Err-Wide
returns-in-Err-Wide g c =
    let same : map plain_formula c.deref.result.now ≡ chosen c.args.numbers.now (guards_in c.args.list.now) = ap (map plain_formula) c.deref.ensures.value ∙ c.in_ok-guards_of.ensures in
    rw c.in-Err-Wide.field-0-is (wide_told c.args.list.now c.args.numbers.now c.deref.result.now same (g.T.Theory.meaning c.args.theory.now) g.T.Atom.PartialEq.eq (g.met.T.Theory.equal_is_own c.args.theory.now) g.met.T.Atom.Eq.laws c.in-Err-Wide.chain (rw c.in-Err-Wide.field-0-is at c.in-Err-Wide.ensures.stop))

pub returns-in_err-guards_of : goal.returns-in_err-guards_of
returns-in_err-guards_of g c = stopped c.from_residual.result _ _ _ c.from_residual.ensures.1 tt

pub returns-in_err-added-in-Ok : goal.returns-in_err-added-in-Ok
returns-in_err-added-in-Ok g c = stopped c.from_residual-in_err-added-in-Ok.result _ _ _ c.from_residual-in_err-added-in-Ok.ensures.1 tt

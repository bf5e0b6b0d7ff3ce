use Rattle.std.proofs.Common.{◌≡◌, false, ap, sym, refl, ◌∙◌}
use Rattle.std.specs.List.{list_any}
use Rattle.flat_label.specs.Sides.{is_refused, AreSides, AreValues}
use Rattle.flat_label.proofs.Equalities.{none_without, none_refused, values_satisfy}
use Rattle.flat_label.proofs.texts.TextsTheory.decide.Goals as goal

pub returns-then-some_refuses : goal.returns-then-some_refuses
returns-then-some_refuses c =
    none_refused c.args.self.now.fields c.args.literals.now c.requires c.in-Some.sides.items (rw c.in-Some.is at c.in_ok-sides_of.ensures)
    (ap (λ sides. list_any (is_refused sides) c.args.literals.now) (sym c.deref.ensures.value) ∙ sym c.some_refuses.ensures ∙ c.if-some_refuses.true)

pub returns-in-None : goal.returns-in-None
returns-in-None c = none_without c.args.self.now.fields c.args.literals.now c.requires (rw c.in-None.is at c.in_ok-sides_of.ensures)

pub returns-in_ok-values_of-in-Some : goal.returns-in_ok-values_of-in-Some
returns-in_ok-values_of-in-Some c =
    let are : AreSides c.args.self.now.fields c.args.literals.now c.in-Some.sides.items = rw c.in-Some.is at c.in_ok-sides_of.ensures in
    let none : list_any (is_refused c.in-Some.sides.items) c.args.literals.now ≡ false = ap (λ sides. list_any (is_refused sides) c.args.literals.now) (sym c.deref.ensures.value) ∙ sym c.some_refuses.ensures ∙ c.if-some_refuses.false in
    let values : AreValues c.in-Some.sides.items c.in_ok-constants-in-Some.constants.keys c.in_ok-values_of-in-Some.field-0.items = rw c.deref-in-Some.ensures.value at c.in_ok-values_of-in-Some.ensures in (
      (c.in_ok-values_of-in-Some.field-0.items, values.many ∙ are.many, refl),
      values_satisfy c.args.self.now.fields c.args.literals.now c.requires c.in-Some.sides.items are c.in_ok-constants-in-Some.constants.keys c.in_ok-values_of-in-Some.field-0.items none c.in_ok-constants-in-Some.ensures values,
    )

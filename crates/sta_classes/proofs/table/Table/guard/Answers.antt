use Rattle.std.proofs.Common.{◌≡◌, ◌<◌, ◌↔◌, All, IsTrue, refl, ap, sym, subst, subst₂, ◌∙◌, length, map}
use Rattle.std.proofs.lemmas.List.{length-map}
use Rattle.std.proofs.lemmas.Result.{IfOk-from_err, IfOk-at_ok}
use Rattle.model_tree.specs.Formula.{formula_holds}
use Rattle.model_sta.specs.Sets.{step}
use Rattle.label_core.specs.Atoms.{EachHasEqual}
use Rattle.label_core.specs.Formula.{plain_formula, atoms_in}
use Rattle.sta_core.specs.Machine.{plain_rule}
use Rattle.sta_classes.specs.Rules.{plain_rules, meaning_of}
use Rattle.sta_classes.specs.Guards.{all_guards, atoms_of_all}
use Rattle.sta_classes.specs.Rows.{plain_class, class_rows_at}
use Rattle.sta_classes.specs.declared.class.TheConstants.{CAP}
use Rattle.sta_classes.proofs.Keeping.{with_value}
use Rattle.sta_classes.proofs.Trees.{row_long, guard_here}
use Rattle.sta_classes.proofs.Fired.{row_holds, row_atoms}
use Rattle.sta_classes.proofs.table.Table.guard.Goals as goal

pub row_formula-requires : goal.row_formula-requires
row_formula-requires g c = record {
  children = subst₂ (λ n ks. All (λ k. k < n) ks) (ap (λ z. length z.found) (sym c.self.view_is) ∙ length-map c.self.inside.known.classes.items plain_class ∙ sym (ap length c.deref.ensures.value)) (sym (c.deref-2.ensures.value ∙ c.in_ok-children.ensures)) c.requires.children;
  row = row_long c.self.inside.sta.now c.self.inside.known.classes.items _ c.args.self.now c.self.view_is c.args.class c.index.result.now c.requires.known c.index.ensures g.T.Theory.label_of CAP g.T.Theory.atom_holds (g.T.Theory.meaning c.args.theory.now).has (g.T.Theory.meaning c.args.theory.now).keeps c.requires.built
      ∙ sym (ap length c.rules.ensures.rules) ∙ length-map c.rules.result.now (λ those. map plain_rule those.items);
}

pub returns : goal.returns
returns g c = record {
  holds = with_value c.row_formula.result _ (λ formula e l.
      let qs = class_rows_at c.deref.result.now c.deref-2.result.now in
      let rules = plain_rules c.rules.result.now in
      let long : length c.index.result.now.row ≡ length rules =
      row_long c.self.inside.sta.now c.self.inside.known.classes.items _ c.args.self.now c.self.view_is c.args.class c.index.result.now c.requires.known c.index.ensures g.T.Theory.label_of CAP g.T.Theory.atom_holds (g.T.Theory.meaning c.args.theory.now).has (g.T.Theory.meaning c.args.theory.now).keeps c.requires.built
      ∙ sym (ap length c.rules.ensures.rules) in
      guard_here c.self.inside.sta.now c.self.inside.known.classes.items _ c.args.self.now c.self.view_is c.args.class c.index.result.now c.requires.known c.index.ensures g.T.Theory.atom_holds
      (IsTrue (formula_holds (λ a. g.T.Theory.atom_holds a l) (plain_formula formula))) rules c.deref.result.now c.args.children.now c.deref-2.result.now c.index.result.now.row c.args.constructor l
      c.rules.ensures.rules c.deref.ensures.value (c.deref-2.ensures.value ∙ c.in_ok-children.ensures) refl
      (subst (λ f. IsTrue (formula_holds (λ a. g.T.Theory.atom_holds a l) f) ↔ (step (meaning_of g.T.Theory.atom_holds rules) c.args.constructor l qs ≡ c.index.result.now.row)) (sym (IfOk-at_ok _ e c.row_formula.ensures))
      (row_holds c.args.constructor qs g.T.Theory.atom_holds l rules c.index.result.now.row long)));
  atoms = with_value c.row_formula.result _ (λ formula e.
      subst₂ (λ f rs. EachHasEqual g.A.PartialEq.eq (atoms_in f) (atoms_of_all (all_guards rs))) (sym (IfOk-at_ok _ e c.row_formula.ensures)) (c.rules.ensures.rules ∙ ap (λ z. z.machine.rules) c.self.view_is)
      (row_atoms c.args.constructor (class_rows_at c.deref.result.now c.deref-2.result.now) g.A.PartialEq.eq g.met.A.Eq.laws (plain_rules c.rules.result.now) c.index.result.now.row));
}

pub returns-in_err-children : goal.returns-in_err-children
returns-in_err-children g c = record {
  holds = IfOk-from_err c.from_residual.result _ c.from_residual.ensures.0;
  atoms = IfOk-from_err c.from_residual.result _ c.from_residual.ensures.0;
}

use Rattle.std.proofs.lemmas.Result.{IfOk-from_err}
use Rattle.std.proofs.lemmas.List.{length-map}
use Rattle.std.proofs.Common.{ℕ, ◌≡◌, ◌<◌, ◌∙◌, get_or, refl, ap, sym, subst, arith, length}
use Rattle.sta_core.specs.Sta.{automaton_of}
use Rattle.sta_classes.specs.Applying.{IsRules}
use Rattle.sta_core.specs.Machine.{Machine}
use Rattle.sta_classes.specs.Guards.{GuardsFit}
use Rattle.sta_classes.specs.Meant.{StopsClasses}
use Rattle.sta_classes.specs.Plain.{AreShaped}
use Rattle.sta_classes.specs.Rows.{plain_class}
use Rattle.sta_classes.specs.Rules.{plain_rules, meaning_of}
use Rattle.sta_classes.specs.declared.rules.Rules.{Rules}
use Rattle.sta_classes.specs.declared.class.TheConstants.{CAP}
use Rattle.sta_classes.proofs.Built.{table_is, built_is}
use Rattle.sta_classes.proofs.Shapes.{shaped, has_kinds}
use Rattle.sta_classes.proofs.Keeping.{passed}
use Rattle.sta_classes.proofs.table.classes.Goals as goal

pub run-requires : goal.run-requires
run-requires g c = record {
  ready = record {
    fit = subst (GuardsFit (g.T.Theory.atom_fits c.args.theory.now)) (sym c.rules-rules.ensures.rules) c.requires.fit;
    few = c.in_ok-own.ensures.few;
    many = ap length c.deref.ensures.value ∙ c.in_ok-own.ensures.many;
    own_are = subst (λ l. (n : ℕ) (own : Rules g.row.T-Atom.Denot) → n < length l → get_or l n own ≡ own → IsRules g.T.Atom.PartialEq.eq c.rules-rules.result.now n own) (sym c.deref.ensures.value) c.in_ok-own.ensures.are;
  };
}

pub invariant_of-result : goal.invariant_of-result
invariant_of-result g c = (
  omega (arith, c.in_ok-known.ensures.few, c.ranges.most.fits),
  subst (λ r. AreShaped r (length c.in_ok-known.known.classes.items) c.in_ok-known.known.places.items) c.ranks-ranks.ensures (shaped g.T.Theory.atom_holds c.ranks-ranks.result.now c.rules-rules.result.now c.in_ok-known.known.classes.items c.in_ok-known.known.places.items c.in_ok-known.ensures.kinds),
)

pub returns : goal.returns
returns g c = record {
  table = table_is g.T.Theory.label_of CAP (g.T.Theory.meaning c.args.theory.now).has (g.T.Theory.meaning c.args.theory.now).keeps c.in_ok-known.known.classes.items c.ranks-ranks.result.now c.args.sta.now.ranks
      (meaning_of g.T.Theory.atom_holds (plain_rules c.rules-rules.result.now)) (automaton_of g.T.Theory.atom_holds c.args.sta.now) c.ranks-ranks.ensures (ap (meaning_of g.T.Theory.atom_holds) c.rules-rules.ensures.rules) c.in_ok-known.ensures.classes c.in_ok-known.ensures.complete;
  few = omega (arith, length-map c.in_ok-known.known.classes.items plain_class, c.in_ok-known.ensures.few);
  built = built_is g.T.Theory.label_of CAP (g.T.Theory.meaning c.args.theory.now).has (g.T.Theory.meaning c.args.theory.now).keeps c.in_ok-known.known.classes.items c.ranks-ranks.result.now c.args.sta.now.ranks
      (meaning_of g.T.Theory.atom_holds (plain_rules c.rules-rules.result.now)) (automaton_of g.T.Theory.atom_holds c.args.sta.now) c.ranks-ranks.ensures (ap (meaning_of g.T.Theory.atom_holds) c.rules-rules.ensures.rules) c.in_ok-known.ensures.classes;
  kinds = has_kinds g.T.Theory.atom_holds c.ranks-ranks.result.now c.rules-rules.result.now c.in_ok-known.known.classes.items c.in_ok-known.known.places.items c.in_ok-known.ensures.kinds c.args.sta.now c.ranks-ranks.ensures c.rules-rules.ensures.rules;
  machine = refl;
  stop = tt;
}

pub returns-in_err-known : goal.returns-in_err-known
returns-in_err-known g c = record {
  table = IfOk-from_err c.from_residual-in_err-known.result _ c.from_residual-in_err-known.ensures.0;
  few = IfOk-from_err c.from_residual-in_err-known.result _ c.from_residual-in_err-known.ensures.0;
  built = IfOk-from_err c.from_residual-in_err-known.result _ c.from_residual-in_err-known.ensures.0;
  kinds = IfOk-from_err c.from_residual-in_err-known.result _ c.from_residual-in_err-known.ensures.0;
  machine = IfOk-from_err c.from_residual-in_err-known.result _ c.from_residual-in_err-known.ensures.0;
  stop = let machine : (record { ranks = c.ranks-ranks.result.now; rules = plain_rules c.rules-rules.result.now }) ≡ c.args.sta.now = λ i. record { ranks = c.ranks-ranks.ensures i; rules = c.rules-rules.ensures.rules i } in
      passed c.from_residual-in_err-known.result _ c.in_err-known.field-0.0 c.from_residual-in_err-known.ensures.1 (subst (λ (m : Machine g.row.T-Atom.Denot). StopsClasses (g.T.Theory.meaning c.args.theory.now) m c.args.most c.in_err-known.field-0.0) machine c.in_err-known.ensures);
}

pub returns-in_err-own : goal.returns-in_err-own
returns-in_err-own g c = record {
  table = IfOk-from_err c.from_residual.result _ c.from_residual.ensures.0;
  few = IfOk-from_err c.from_residual.result _ c.from_residual.ensures.0;
  built = IfOk-from_err c.from_residual.result _ c.from_residual.ensures.0;
  kinds = IfOk-from_err c.from_residual.result _ c.from_residual.ensures.0;
  machine = IfOk-from_err c.from_residual.result _ c.from_residual.ensures.0;
  stop = passed c.from_residual.result _ _ c.from_residual.ensures.1 tt;
}

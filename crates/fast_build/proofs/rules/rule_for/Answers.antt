use Rattle.std.proofs.Common.{map, subst, sym, ◌∙◌, All, Contains}
use Rattle.fast_syntax.specs.View.{plain_demand, plain_name}
use Rattle.fast_tree.specs.Signatures.{plain_constructor}
use Rattle.fast_build.specs.Numbers.{number_in, IsNumbered, numbers_for_each}
use Rattle.fast_build.specs.Reached.{demanded_by}
use Rattle.fast_build.proofs.rules.rule_for.Goals as goal

pub demands_on_each-requires : goal.demands_on_each-requires
demands_on_each-requires c = subst (λ ds. All (Contains c.args.names.now.keys) (demanded_by (map plain_demand ds))) (sym c.deref-2.ensures.value) c.requires.named

pub returns : goal.returns
returns c = record {
  numbered = subst (λ cs. IsNumbered (map plain_constructor cs) c.args.rule.now.ctor.text c.in_ok-constructor_number.field-0) c.deref.ensures.value c.in_ok-constructor_number.ensures;
  guard = c.in_ok-guard_for.ensures;
  demands = c.in_ok-demands_on_each.ensures ∙ (λ i. numbers_for_each (number_in c.args.names.now.keys) (map plain_demand (c.deref-2.ensures.value i)) (map plain_name (c.deref-3.ensures.value i)));
}

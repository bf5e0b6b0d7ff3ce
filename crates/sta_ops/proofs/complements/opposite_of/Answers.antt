use Rattle.std.proofs.Common.{map, sym, ap, subst, ◌∙◌, arith}
use Rattle.std.proofs.lemmas.List.{length-map}
use Rattle.model_sta.specs.Least.{rows_of}
use Rattle.model_sta.proofs.Reached.{same_default}
use Rattle.sta_core.specs.Machine.{plain_rule}
use Rattle.sta_classes.specs.Rules.{plain_rules}
use Rattle.sta_ops.specs.Doubled.{AddsOpposites}
use Rattle.sta_ops.specs.Numbers.{AreNumbered}
use Rattle.sta_ops.proofs.Doubling.{doubled_rules_fit}
use Rattle.sta_ops.proofs.complements.opposite_of.Goals as goal

pub new-sta-requires : goal.new-sta-requires
new-sta-requires g c =
    doubled_rules_fit c.in_ok-ranks.ranks.items c.args.ranks.now (rows_of c.args.table.now.found) c.in_ok-opposites.opposites.numbers.items c.in_ok-opposites.opposites.fresh.items c.args.rules.now c.in_ok-rules.rules.items c.in_ok-ranks.ensures.items c.requires.fit c.in_ok-opposites.ensures c.in_ok-rules.ensures

pub returns : goal.returns
returns g c =
    let numbers = c.in_ok-opposites.opposites.numbers.items in
    let fresh = c.in_ok-opposites.opposites.fresh.items in
    let rows = rows_of c.args.table.now.found in
    let plain = plain_rules c.args.rules.now in
    record {
      numbers = numbers;
      fresh = fresh;
      numbered = subst (λ n. AreNumbered rows n n numbers fresh) (sym (length-map c.args.rules.now (λ those. map plain_rule those.items))) c.in_ok-opposites.ensures;
      adds = subst (AddsOpposites numbers fresh c.args.ranks.now rows plain plain) (sym (ap (λ m. m.rules) c.new-sta.ensures)) c.in_ok-rules.ensures;
      ranks_are = ap (λ m. m.ranks) c.new-sta.ensures ∙ c.in_ok-ranks.ensures.items;
      state_is = c.index-state.ensures ∙ same_default numbers c.args.state c.index-state.result.now 0 (omega (arith, c.requires.state, c.in_ok-opposites.ensures.many));
    }

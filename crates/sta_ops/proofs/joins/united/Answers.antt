use Rattle.std.proofs.Common.{◌≡◌, ◌+◌, ◌++◌, length, map, ap, sym, ◌∙◌}
use Rattle.std.proofs.lemmas.List.{length-map}
use Rattle.sta_core.specs.Machine.{plain_rule}
use Rattle.sta_classes.specs.Rules.{plain_rules}
use Rattle.sta_ops.specs.Languages.{HasUnion, IsMadeOfBoth}
use Rattle.sta_ops.specs.Rules.{with_either}
use Rattle.sta_ops.proofs.Moved.{made_of_both}
use Rattle.sta_ops.proofs.Fitting.{machine_fits, rules_fit}
use Rattle.sta_ops.proofs.Joining.{either_long}
use Rattle.sta_ops.proofs.Owed.{either_fits, union_is, union_owed}
use Rattle.sta_ops.proofs.Results.{if_ok}
use Rattle.sta_ops.proofs.joins.united.Goals as goal

pub last_state-requires-clause-fit : goal.last_state-requires-clause-fit
last_state-requires-clause-fit g c =
    let a = c.args.a.now in
    let b = c.args.b.now in
    rules_fit c.ranks.result.now a.sta.ranks _ c.push.new.self.items (with_either a b) c.ranks.ensures
    (made_of_both (λ rs ss. rs ++ ss) a b c.rules-first.result.now c.rules-second.result.now c.in_ok-rules.rules.items c.push.new.self.items c.index-first-a.result c.index-second-b.result c.deref.result.now c.deref-2.result.now c.in_ok-either.field-0 c.rules-first.ensures.rules c.rules-second.ensures.rules c.requires.first c.requires.second c.index-first-a.is c.index-second-b.is c.deref.ensures.value c.deref-2.ensures.value c.in_ok-rules.ensures c.in_ok-either.ensures c.in_ok-push.ensures.items)
    (either_long a b) (either_fits a b c.requires.ranks (machine_fits a.sta c.rules-first.result.now c.rules-first.ensures.rules c.rules-first.ensures.fit) (machine_fits b.sta c.rules-second.result.now c.rules-second.ensures.rules c.rules-second.ensures.fit))

pub returns-clause-language : goal.returns-clause-language
returns-clause-language g c =
    let a = c.args.a.now in
    let b = c.args.b.now in
    let are : plain_rules c.push.new.self.items ≡ with_either a b = made_of_both (λ rs ss. rs ++ ss) a b c.rules-first.result.now c.rules-second.result.now c.in_ok-rules.rules.items c.push.new.self.items c.index-first-a.result c.index-second-b.result c.deref.result.now c.deref-2.result.now c.in_ok-either.field-0 c.rules-first.ensures.rules c.rules-second.ensures.rules c.requires.first c.requires.second c.index-first-a.is c.index-second-b.is c.deref.ensures.value c.deref-2.ensures.value c.in_ok-rules.ensures c.in_ok-either.ensures c.in_ok-push.ensures.items in
    if_ok c.last_state.result (λ x. x.sta.ranks ≡ c.ranks.result.now) (λ x. x.sta.rules ≡ plain_rules c.push.new.self.items) (λ x. x.state + 1 ≡ length c.push.new.self.items) (HasUnion (g.T.Theory.meaning c.args.theory.now) a b)
    (λ x ranks rules state.
    union_is (g.T.Theory.meaning c.args.theory.now) g.T.Atom.PartialEq.eq (g.met.T.Theory.equal_is_own c.args.theory.now) g.met.T.Atom.Eq.laws (g.T.Theory.atom_fits c.args.theory.now) a b x
    (machine_fits a.sta c.rules-first.result.now c.rules-first.ensures.rules c.rules-first.ensures.fit) (machine_fits b.sta c.rules-second.result.now c.rules-second.ensures.rules c.rules-second.ensures.fit) c.requires.first_fit c.requires.second_fit (ranks ∙ c.ranks.ensures) (rules ∙ are)
    (state ∙ sym (length-map c.push.new.self.items (λ those. map plain_rule those.items)) ∙ ap length are)) c.last_state.ensures.ranks c.last_state.ensures.rules c.last_state.ensures.state

pub returns-clause-made : goal.returns-clause-made
returns-clause-made g c =
    let a = c.args.a.now in
    let b = c.args.b.now in
    let are : plain_rules c.push.new.self.items ≡ with_either a b = made_of_both (λ rs ss. rs ++ ss) a b c.rules-first.result.now c.rules-second.result.now c.in_ok-rules.rules.items c.push.new.self.items c.index-first-a.result c.index-second-b.result c.deref.result.now c.deref-2.result.now c.in_ok-either.field-0 c.rules-first.ensures.rules c.rules-second.ensures.rules c.requires.first c.requires.second c.index-first-a.is c.index-second-b.is c.deref.ensures.value c.deref-2.ensures.value c.in_ok-rules.ensures c.in_ok-either.ensures c.in_ok-push.ensures.items in
    if_ok c.last_state.result (λ x. x.sta.ranks ≡ c.ranks.result.now) (λ x. x.sta.rules ≡ plain_rules c.push.new.self.items) (λ x. x.state + 1 ≡ length c.push.new.self.items) (IsMadeOfBoth (g.T.Theory.meaning c.args.theory.now) (g.T.Theory.atom_fits c.args.theory.now) a b)
    (λ x ranks rules state.
    union_owed (g.T.Theory.meaning c.args.theory.now) g.T.Atom.PartialEq.eq (g.met.T.Theory.equal_is_own c.args.theory.now) g.met.T.Atom.Eq.laws (g.T.Theory.atom_fits c.args.theory.now) a b x
    (machine_fits a.sta c.rules-first.result.now c.rules-first.ensures.rules c.rules-first.ensures.fit) (machine_fits b.sta c.rules-second.result.now c.rules-second.ensures.rules c.rules-second.ensures.fit) c.requires.first_fit c.requires.second_fit (ranks ∙ c.ranks.ensures) (rules ∙ are)
    (state ∙ sym (length-map c.push.new.self.items (λ those. map plain_rule those.items)) ∙ ap length are)) c.last_state.ensures.ranks c.last_state.ensures.rules c.last_state.ensures.state

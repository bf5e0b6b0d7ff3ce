use Rattle.std.proofs.Common.{◌≡◌, false, true, length, refl, sym, subst, ◌∙◌, arith, MatchOption, get_or, [], ap}
use Rattle.std.proofs.lemmas.List.{length-map}
use Rattle.sta_core.specs.Machine.{plain_rule}
use Rattle.sttr_core.specs.Machine.{plain_out}
use Rattle.sttr_single.specs.Joints.{NeverMeet, IsJoint}
use Rattle.sttr_single.proofs.Joining.{rule_at, guard_at, adds_alike, adds_never, adds_joint}
use Rattle.sttr_single.proofs.joints.Joining.add_joint.Goals as goal

pub returns-then-is_same : goal.returns-then-is_same
returns-then-is_same g c =
    let f = c.args.self.now.sttr.now in
    let rules = c.rules_of-rules.result.now in
    let many : length rules ≡ length (get_or f.rules c.args.place.state []) = sym (length-map rules plain_out) ∙ ap length c.rules_of-rules.ensures in
    adds_alike g.T.Theory.atom_holds g.T.Map.PartialEq.eq (g.T.Theory.meaning c.args.self.now.theory.now).has f c.args.place.state c.args.place.first c.args.place.second (plain_out c.index-rules-place.result) (plain_out c.index-rules-place-2.result) c.requires.order
    (rule_at f c.args.place.state c.args.place.first rules c.index-rules-place.result (omega (arith, many, c.requires.order, c.requires.second)) c.index-rules-place.is c.rules_of-rules.ensures)
    (rule_at f c.args.place.state c.args.place.second rules c.index-rules-place-2.result (omega (arith, many, c.requires.second)) c.index-rules-place-2.is c.rules_of-rules.ensures)
    (sym c.is_same.ensures ∙ c.if-is_same.true) c.args.joints.now.items

pub joined_rule-requires-clause-first : goal.joined_rule-requires-clause-first
joined_rule-requires-clause-first g c =
    let f = c.args.self.now.sttr.now in
    let rules = c.rules_of-rules.result.now in
    let many : length rules ≡ length (get_or f.rules c.args.place.state []) = sym (length-map rules plain_out) ∙ ap length c.rules_of-rules.ensures in
    guard_at (g.T.Theory.atom_fits c.args.self.now.theory.now) (g.T.Labels.map_fits c.args.self.now.theory.now) f c.requires.fits c.args.place.state c.args.place.first c.index-rules-place.result
    (rule_at f c.args.place.state c.args.place.first rules c.index-rules-place.result (omega (arith, many, c.requires.order, c.requires.second)) c.index-rules-place.is c.rules_of-rules.ensures)

pub joined_rule-requires-clause-second : goal.joined_rule-requires-clause-second
joined_rule-requires-clause-second g c =
    let f = c.args.self.now.sttr.now in
    let rules = c.rules_of-rules.result.now in
    let many : length rules ≡ length (get_or f.rules c.args.place.state []) = sym (length-map rules plain_out) ∙ ap length c.rules_of-rules.ensures in
    guard_at (g.T.Theory.atom_fits c.args.self.now.theory.now) (g.T.Labels.map_fits c.args.self.now.theory.now) f c.requires.fits c.args.place.state c.args.place.second c.index-rules-place-2.result
    (rule_at f c.args.place.state c.args.place.second rules c.index-rules-place-2.result (omega (arith, many, c.requires.second)) c.index-rules-place-2.is c.rules_of-rules.ensures)

pub returns : goal.returns
returns g c =
    let f = c.args.self.now.sttr.now in
    let rules = c.rules_of-rules.result.now in
    let D = (g.T.Theory.meaning c.args.self.now.theory.now).has in
    let r = plain_rule c.index-rules-place.result.rule in
    let s = plain_rule c.index-rules-place-2.result.rule in
    let many : length rules ≡ length (get_or f.rules c.args.place.state []) = sym (length-map rules plain_out) ∙ ap length c.rules_of-rules.ensures in
    let other : false ≡ true → ⊥ = λ e. absurd (cc) in
    adds_joint g.T.Theory.atom_holds g.T.Map.PartialEq.eq D f c.args.place.state c.args.place.first c.args.place.second (plain_out c.index-rules-place.result) (plain_out c.index-rules-place-2.result) c.requires.order
    (rule_at f c.args.place.state c.args.place.first rules c.index-rules-place.result (omega (arith, many, c.requires.order, c.requires.second)) c.index-rules-place.is c.rules_of-rules.ensures)
    (rule_at f c.args.place.state c.args.place.second rules c.index-rules-place-2.result (omega (arith, many, c.requires.second)) c.index-rules-place-2.is c.rules_of-rules.ensures)
    (λ e. other (sym c.if-is_same.false ∙ c.is_same.ensures ∙ e)) (record { place = c.args.place; rule = c.in-Some.rule }) refl refl refl
    (subst (λ l. IsJoint r s l (plain_rule c.in-Some.rule)) c.lookahead-looks.ensures
    (subst (λ o. MatchOption o (NeverMeet r s c.lookahead-looks.result.now g.T.Theory.atom_holds D) (λ p. IsJoint r s c.lookahead-looks.result.now (plain_rule p))) c.in-Some.is c.in_ok-rule.ensures))
    c.args.joints.now.items c.push.new.self.items c.in_ok-push.ensures.items

pub returns-in_default : goal.returns-in_default
returns-in_default g c =
    let f = c.args.self.now.sttr.now in
    let rules = c.rules_of-rules.result.now in
    let D = (g.T.Theory.meaning c.args.self.now.theory.now).has in
    let r = plain_rule c.index-rules-place.result.rule in
    let s = plain_rule c.index-rules-place-2.result.rule in
    let many : length rules ≡ length (get_or f.rules c.args.place.state []) = sym (length-map rules plain_out) ∙ ap length c.rules_of-rules.ensures in
    adds_never g.T.Theory.atom_holds g.T.Map.PartialEq.eq D f c.args.place.state c.args.place.first c.args.place.second (plain_out c.index-rules-place.result) (plain_out c.index-rules-place-2.result) c.requires.order
    (rule_at f c.args.place.state c.args.place.first rules c.index-rules-place.result (omega (arith, many, c.requires.order, c.requires.second)) c.index-rules-place.is c.rules_of-rules.ensures)
    (rule_at f c.args.place.state c.args.place.second rules c.index-rules-place-2.result (omega (arith, many, c.requires.second)) c.index-rules-place-2.is c.rules_of-rules.ensures)
    (subst (λ l. NeverMeet r s l g.T.Theory.atom_holds D) c.lookahead-looks.ensures
    (subst (λ o. MatchOption o (NeverMeet r s c.lookahead-looks.result.now g.T.Theory.atom_holds D) (λ p. IsJoint r s c.lookahead-looks.result.now (plain_rule p))) c.in_default.is c.in_ok-rule.ensures))
    c.args.joints.now.items

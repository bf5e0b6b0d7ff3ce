use Rattle.std.proofs.Common.{map, refl, true, ◌≡◌, ap, subst, sym, ◌∙◌}
use Rattle.sta_core.specs.Machine.{plain_rule}
use Rattle.sttr_core.specs.Machine.{plain_out}
use Rattle.sttr_preimage.specs.Names.{names_in}
use Rattle.sttr_preimage.specs.Images.{HasOne, IsSecond, IsMiddle}
use Rattle.sttr_preimage.specs.Through.{nothing_of}
use Rattle.sttr_preimage.proofs.Finished.{rows_fit}
use Rattle.sttr_preimage.proofs.Restricted.{is_over}
use Rattle.sttr_preimage.proofs.Selecting.{all_added, no_middle, sides_known, sides_can, restriction_relation, restriction_fitting, restriction_over, restriction_low}
use Rattle.sttr_preimage.proofs.restrictions.restrict.Goals as goal

pub side_rows-requires-clause-sides : goal.side_rows-requires-clause-sides
side_rows-requires-clause-sides g c =
    let T = g.T in
    let f = c.args.trans.now.sttr in
    let a = c.args.lang.now.sta in
    let empty = names_in c.new-names.result.keys in
    let old = names_in c.restricted_rules.new.names.keys in
    no_middle T.Labels.is_put T.Labels.make (T.Theory.meaning c.args.theory.now) (T.Theory.atom_fits c.args.theory.now) f a empty old (ap names_in c.new-names.ensures.empty) (all_added c.in_ok-rules.ensures.rules)

pub side_rows-requires-clause-known : goal.side_rows-requires-clause-known
side_rows-requires-clause-known g c =
    let T = g.T in
    let f = c.args.trans.now.sttr in
    let a = c.args.lang.now.sta in
    let empty = names_in c.new-names.result.keys in
    let old = names_in c.restricted_rules.new.names.keys in
    sides_known T.Labels.is_put T.Labels.make (T.Theory.meaning c.args.theory.now) (T.Theory.atom_fits c.args.theory.now) f a empty old (ap names_in c.new-names.ensures.empty) (all_added c.in_ok-rules.ensures.rules)

pub side_rows-requires-clause-can : goal.side_rows-requires-clause-can
side_rows-requires-clause-can g c =
    let T = g.T in
    let f = c.args.trans.now.sttr in
    let a = c.args.lang.now.sta in
    let empty = names_in c.new-names.result.keys in
    let old = names_in c.restricted_rules.new.names.keys in
    sides_can T.Labels.is_put T.Labels.make (T.Theory.meaning c.args.theory.now) (T.Theory.atom_fits c.args.theory.now) f a empty old (ap names_in c.new-names.ensures.empty) (all_added c.in_ok-rules.ensures.rules)
    T.Theory.atom_fits T.Labels.map_fits T.Labels.map_makes c.args.theory.now c.looks_of-looks.ensures.stand c.requires.stands c.requires.labels c.rules_stand.ensures c.requires.ranks c.requires.fit

pub new-looks-requires : goal.new-looks-requires
new-looks-requires g c =
    let T = g.T in
    let old = names_in c.restricted_rules.new.names.keys in
    rows_fit T.Labels.is_put T.Labels.make (T.Theory.meaning c.args.theory.now) (T.Theory.atom_fits c.args.theory.now) c.args.trans.now.sttr (nothing_of c.args.lang.now.sta) (HasOne IsSecond old) (HasOne IsMiddle old) old (names_in c.side_rows.new.names.keys)
    (map (λ those. map plain_rule those.items) c.in_ok-rows.rows.items) c.in_ok-rows.ensures.rows c.in_ok-copied_ranks.field-0.items c.in_ok-rows.rows.items (c.in_ok-copied_ranks.ensures ∙ ap (λ m. m.ranks) c.looks_of-looks.ensures.looks) refl

pub returns-clause-relation : goal.returns-clause-relation
returns-clause-relation g c =
    let T = g.T in
    let N = T.Theory.meaning c.args.theory.now in
    let fits = T.Theory.atom_fits c.args.theory.now in
    let f = c.args.trans.now.sttr in
    let a = c.args.lang.now.sta in
    let empty = names_in c.new-names.result.keys in
    let old = names_in c.restricted_rules.new.names.keys in
    let looks = ap (λ d. d.looks) c.new.ensures ∙ c.new-looks.ensures in
    let reflexive = subst (λ eq. (b : _) → eq b b ≡ true) (sym (g.met.T.Theory.equal_is_own c.args.theory.now)) (λ b. g.met.T.Atom.Eq.laws.refl b) in
    let none = no_middle T.Labels.is_put T.Labels.make N fits f a empty old (ap names_in c.new-names.ensures.empty) (all_added c.in_ok-rules.ensures.rules) in
    restriction_relation T.Labels.is_put T.Labels.make N fits c.args.trans.now c.args.lang.now T.Map.PartialEq.eq c.looks_of-looks.ensures.stand c.requires.stands c.requires.start c.requires.state c.requires.ranks c.requires.labels.guards c.requires.fit reflexive c.in_ok-rules.ensures.others
    empty old (names_in c.side_rows.new.names.keys) (ap names_in c.new-names.ensures.empty) (map (λ those. map plain_out those.items) c.in_ok-rules.rules.items) c.in_ok-rules.ensures.rules (map (λ those. map plain_rule those.items) c.in_ok-rows.rows.items) c.in_ok-rows.ensures.rows c.new.result
    (ap (λ m. m.ranks) looks ∙ c.in_ok-copied_ranks.ensures ∙ ap (λ m. m.ranks) c.looks_of-looks.ensures.looks) (ap (λ m. m.rules) looks) (ap (λ d. d.rules) c.new.ensures) c.states.result c.states.ensures none

pub returns-clause-made : goal.returns-clause-made
returns-clause-made g c =
    let T = g.T in
    let N = T.Theory.meaning c.args.theory.now in
    let fits = T.Theory.atom_fits c.args.theory.now in
    let f = c.args.trans.now.sttr in
    let a = c.args.lang.now.sta in
    let empty = names_in c.new-names.result.keys in
    let old = names_in c.restricted_rules.new.names.keys in
    let names = names_in c.side_rows.new.names.keys in
    let made = map (λ those. map plain_out those.items) c.in_ok-rules.rules.items in
    let rows = map (λ those. map plain_rule those.items) c.in_ok-rows.rows.items in
    let looks = ap (λ d. d.looks) c.new.ensures ∙ c.new-looks.ensures in
    let ranks = ap (λ m. m.ranks) looks ∙ c.in_ok-copied_ranks.ensures ∙ ap (λ m. m.ranks) c.looks_of-looks.ensures.looks in
    let reflexive = subst (λ eq. (b : _) → eq b b ≡ true) (sym (g.met.T.Theory.equal_is_own c.args.theory.now)) (λ b. g.met.T.Atom.Eq.laws.refl b) in
    let none = no_middle T.Labels.is_put T.Labels.make N fits f a empty old (ap names_in c.new-names.ensures.empty) (all_added c.in_ok-rules.ensures.rules) in
    let fitting = restriction_fitting T.Labels.is_put T.Labels.make N fits c.args.trans.now c.args.lang.now T.Map.PartialEq.eq c.looks_of-looks.ensures.stand c.requires.stands c.requires.start c.requires.state c.requires.ranks c.requires.labels.guards c.requires.fit reflexive c.in_ok-rules.ensures.others
    empty old names (ap names_in c.new-names.ensures.empty) made c.in_ok-rules.ensures.rules rows c.in_ok-rows.ensures.rows c.new.result ranks (ap (λ m. m.rules) looks) (ap (λ d. d.rules) c.new.ensures) c.states.result c.states.ensures none in
    let over = restriction_over T.Labels.is_put T.Labels.make N fits c.args.trans.now c.args.lang.now T.Map.PartialEq.eq c.looks_of-looks.ensures.stand c.requires.stands c.requires.start c.requires.state c.requires.ranks c.requires.labels.guards c.requires.fit reflexive c.in_ok-rules.ensures.others
    empty old names (ap names_in c.new-names.ensures.empty) made c.in_ok-rules.ensures.rules rows c.in_ok-rows.ensures.rows c.new.result ranks (ap (λ m. m.rules) looks) (ap (λ d. d.rules) c.new.ensures) c.states.result c.states.ensures none in
    let low = restriction_low T.Labels.is_put T.Labels.make N fits c.args.trans.now c.args.lang.now T.Map.PartialEq.eq c.looks_of-looks.ensures.stand c.requires.stands c.requires.start c.requires.state c.requires.ranks c.requires.labels.guards c.requires.fit reflexive c.in_ok-rules.ensures.others
    empty old names (ap names_in c.new-names.ensures.empty) made c.in_ok-rules.ensures.rules rows c.in_ok-rows.ensures.rows c.new.result ranks (ap (λ m. m.rules) looks) (ap (λ d. d.rules) c.new.ensures) c.states.result c.states.ensures none in
    is_over T.Labels.make N fits _ T.Map.PartialEq.eq (T.Labels.map_fits c.args.theory.now) T.Labels.map_makes f c.requires.labels.maps (λ m n e k. g.met.T.Labels.equal_maps_fit c.args.theory.now m n e k) (λ made m n e k. g.met.T.Labels.equal_maps_make made m n e k) c.new.result over fitting c.states.result low

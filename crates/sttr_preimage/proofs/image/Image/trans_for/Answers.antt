use Rattle.std.proofs.Common.{map, refl, ap, ◌∙◌, inl}
use Rattle.sta_core.specs.Machine.{plain_rule}
use Rattle.sttr_core.specs.Machine.{plain_out}
use Rattle.sttr_run.specs.Plain.{plain_second}
use Rattle.sttr_preimage.specs.Names.{names_in}
use Rattle.sttr_preimage.specs.Called.{called_in, plain_called, KeepsOutput}
use Rattle.sttr_preimage.specs.Images.{HasOne, IsSecond, IsMiddle}
use Rattle.sttr_preimage.specs.Through.{IsThroughMap}
use Rattle.sttr_preimage.proofs.Chained.{map_wide}
use Rattle.sttr_preimage.proofs.Finished.{rows_fit}
use Rattle.sttr_preimage.proofs.Starting.{keeps, states_known, rows_can, rows_known, trans_done}
use Rattle.sttr_preimage.proofs.image.Image.trans_for.Goals as goal

pub out_rows-requires-clause-known : goal.out_rows-requires-clause-known
out_rows-requires-clause-known g c =
    let T = g.T in
    let N = T.Theory.meaning c.args.self.now.theory.now in
    let fits = T.Theory.atom_fits c.args.self.now.theory.now in
    let f = c.args.self.now.sttr.now in
    let s = plain_second c.args.self.now.second in
    let Q = (IsThroughMap T.Map.PartialEq.eq T.Labels.is_chained (T.Labels.map_fits c.args.self.now.theory.now) T.Labels.map_makes f s) in
    let x = plain_called c.args.start in
    let empty = called_in c.new-called.result.keys in
    let before = called_in c.number_called.new.called.keys in
    let none = ap called_in c.new-called.ensures.empty in
    let is = c.in_ok-state.ensures in
    states_known T.Labels.is_put T.Labels.make N fits f s Q x empty before none c.in_ok-state.state is c.requires.known

pub rows-requires-clause-can : goal.rows-requires-clause-can
rows-requires-clause-can g c =
    let T = g.T in
    let N = T.Theory.meaning c.args.self.now.theory.now in
    let fits = T.Theory.atom_fits c.args.self.now.theory.now in
    let f = c.args.self.now.sttr.now in
    let s = plain_second c.args.self.now.second in
    let Q = (IsThroughMap T.Map.PartialEq.eq T.Labels.is_chained (T.Labels.map_fits c.args.self.now.theory.now) T.Labels.map_makes f s) in
    let x = plain_called c.args.start in
    let empty = called_in c.new-called.result.keys in
    let before = called_in c.number_called.new.called.keys in
    let none = ap called_in c.new-called.ensures.empty in
    let is = c.in_ok-state.ensures in
    let after = called_in c.out_rows.new.called.keys in
    let none_asked = ap names_in c.new-names.ensures.empty in
    let names = names_in c.out_rows.new.names.keys in
    let rules = map (λ those. map plain_out those.items) c.in_ok-rules.rules.items in
    rows_can T.Labels.is_put T.Labels.make N fits f s Q x empty before none c.in_ok-state.state is after (names_in c.new-names.result.keys) names none_asked rules c.in_ok-rules.ensures.rows T.Theory.atom_fits T.Labels.map_fits T.Labels.map_makes c.args.self.now.theory.now c.requires.can

pub rows-requires-clause-known : goal.rows-requires-clause-known
rows-requires-clause-known g c =
    let T = g.T in
    let N = T.Theory.meaning c.args.self.now.theory.now in
    let fits = T.Theory.atom_fits c.args.self.now.theory.now in
    let f = c.args.self.now.sttr.now in
    let s = plain_second c.args.self.now.second in
    let Q = (IsThroughMap T.Map.PartialEq.eq T.Labels.is_chained (T.Labels.map_fits c.args.self.now.theory.now) T.Labels.map_makes f s) in
    let x = plain_called c.args.start in
    let empty = called_in c.new-called.result.keys in
    let before = called_in c.number_called.new.called.keys in
    let none = ap called_in c.new-called.ensures.empty in
    let is = c.in_ok-state.ensures in
    let after = called_in c.out_rows.new.called.keys in
    let none_asked = ap names_in c.new-names.ensures.empty in
    let names = names_in c.out_rows.new.names.keys in
    let rules = map (λ those. map plain_out those.items) c.in_ok-rules.rules.items in
    rows_known T.Labels.is_put T.Labels.make N fits f s Q x empty before none c.in_ok-state.state is after (names_in c.new-names.result.keys) names none_asked rules c.in_ok-rules.ensures.rows

pub new-looks-requires : goal.new-looks-requires
new-looks-requires g c =
    let T = g.T in
    let N = T.Theory.meaning c.args.self.now.theory.now in
    let fits = T.Theory.atom_fits c.args.self.now.theory.now in
    let f = c.args.self.now.sttr.now in
    let s = plain_second c.args.self.now.second in
    let Q = (IsThroughMap T.Map.PartialEq.eq T.Labels.is_chained (T.Labels.map_fits c.args.self.now.theory.now) T.Labels.map_makes f s) in
    let x = plain_called c.args.start in
    let empty = called_in c.new-called.result.keys in
    let before = called_in c.number_called.new.called.keys in
    let none = ap called_in c.new-called.ensures.empty in
    let is = c.in_ok-state.ensures in
    let after = called_in c.out_rows.new.called.keys in
    let none_asked = ap names_in c.new-names.ensures.empty in
    let names = names_in c.out_rows.new.names.keys in
    let rules = map (λ those. map plain_out those.items) c.in_ok-rules.rules.items in
    rows_fit T.Labels.is_put T.Labels.make N fits f s (HasOne IsSecond names) (HasOne IsMiddle names) names (names_in c.rows.new.names.keys) (map (λ those. map plain_rule those.items) c.in_ok-rows.rows.items) c.in_ok-rows.ensures.rows c.in_ok-ranks.ranks.items c.in_ok-rows.rows.items (c.in_ok-ranks.ensures ∙ ap (λ m. m.ranks) c.lookahead.ensures) refl

pub returns-clause-trans : goal.returns-clause-trans
returns-clause-trans g c =
    let T = g.T in
    let N = T.Theory.meaning c.args.self.now.theory.now in
    let fits = T.Theory.atom_fits c.args.self.now.theory.now in
    let f = c.args.self.now.sttr.now in
    let s = plain_second c.args.self.now.second in
    let Q = (IsThroughMap T.Map.PartialEq.eq T.Labels.is_chained (T.Labels.map_fits c.args.self.now.theory.now) T.Labels.map_makes f s) in
    let x = plain_called c.args.start in
    let empty = called_in c.new-called.result.keys in
    let before = called_in c.number_called.new.called.keys in
    let none = ap called_in c.new-called.ensures.empty in
    let is = c.in_ok-state.ensures in
    let after = called_in c.out_rows.new.called.keys in
    let none_asked = ap names_in c.new-names.ensures.empty in
    let names = names_in c.out_rows.new.names.keys in
    let rules = map (λ those. map plain_out those.items) c.in_ok-rules.rules.items in
    let looks = ap (λ d. d.looks) c.new-sttr.ensures in
    let K = HasOne KeepsOutput before in
    let wide : (m : g.row.T-Map.Denot) → Q K m → Q (KeepsOutput x) m = λ m is. map_wide T.Map.PartialEq.eq T.Labels.is_chained (T.Labels.map_fits c.args.self.now.theory.now) T.Labels.map_makes f s K (KeepsOutput x) (λ k. inl (keeps T.Labels.is_put T.Labels.make N fits f s Q x empty before none c.in_ok-state.state c.in_ok-state.ensures k)) m is in
    trans_done T.Labels.is_put T.Labels.make N fits f s Q x empty before none c.in_ok-state.state is after (names_in c.new-names.result.keys) names none_asked rules c.in_ok-rules.ensures.rows wide (names_in c.rows.new.names.keys) (map (λ those. map plain_rule those.items) c.in_ok-rows.rows.items) c.in_ok-rows.ensures.rows
    (record { sttr = c.new-sttr.result; state = c.in_ok-state.state }) (ap (λ m. m.ranks) (looks ∙ c.new-looks.ensures) ∙ c.in_ok-ranks.ensures ∙ ap (λ m. m.ranks) c.lookahead.ensures) (ap (λ m. m.rules) (looks ∙ c.new-looks.ensures)) (ap (λ d. d.rules) c.new-sttr.ensures) refl

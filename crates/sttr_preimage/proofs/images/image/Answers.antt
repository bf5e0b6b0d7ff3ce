use Rattle.std.specs.Result.{IfErr}
use Rattle.std.proofs.Common.{rules, map, refl, ap, ◌∙◌}
use Rattle.sta_core.specs.Machine.{plain_rule}
use Rattle.sttr_preimage.specs.Names.{names_in}
use Rattle.sttr_preimage.specs.Images.{HasOne, IsSecond, IsMiddle}
use Rattle.sttr_preimage.specs.Through.{nothing_of, IsThroughStop}
use Rattle.sttr_preimage.specs.Results.{IsImageStop}
use Rattle.sttr_preimage.proofs.Atoms.{err_map}
use Rattle.sttr_preimage.proofs.Finished.{stop_asked, start_known, start_can, rows_fit, preimage_built, language_made, with_ranks}
use Rattle.sttr_preimage.proofs.Standing.{sttr_fits}
use Rattle.sttr_preimage.proofs.images.image.Goals as goal

pub rows-requires-clause-can : goal.rows-requires-clause-can
rows-requires-clause-can g c =
    let T = g.T in
    start_can T.Labels.is_put T.Labels.make (T.Theory.meaning c.args.theory.now) (T.Theory.atom_fits c.args.theory.now) c.args.trans.now c.args.asked.now c.args.all.items (names_in c.new-names.result.keys) (names_in c.number.new.names.keys) (ap names_in c.new-names.ensures.empty) c.in_ok-state.state c.in_ok-state.ensures
    T.Theory.atom_fits T.Labels.map_fits T.Labels.map_makes c.args.theory.now c.looks_of-looks.ensures.stand c.requires.stands c.requires.labels c.rules_stand.ensures c.requires.makes c.requires.unchanged

pub rows-requires-clause-known : goal.rows-requires-clause-known
rows-requires-clause-known g c =
    let T = g.T in
    start_known T.Labels.is_put T.Labels.make (T.Theory.meaning c.args.theory.now) (T.Theory.atom_fits c.args.theory.now) c.args.trans.now c.args.asked.now c.args.all.items (names_in c.new-names.result.keys) (names_in c.number.new.names.keys) (ap names_in c.new-names.ensures.empty) c.in_ok-state.state c.in_ok-state.ensures
    c.requires.start c.requires.states

pub new-sta-requires : goal.new-sta-requires
new-sta-requires g c =
    let T = g.T in
    let names = names_in c.number.new.names.keys in
    rows_fit T.Labels.is_put T.Labels.make (T.Theory.meaning c.args.theory.now) (T.Theory.atom_fits c.args.theory.now) c.args.trans.now.sttr (nothing_of c.args.asked.now) (HasOne IsSecond names) (HasOne IsMiddle names) names (names_in c.rows.new.names.keys)
    (map (λ those. map plain_rule those.items) c.in_ok-rules.rules.items) c.in_ok-rules.ensures.rows c.in_ok-ranks.ranks.items c.in_ok-rules.rules.items (c.in_ok-ranks.ensures ∙ ap (λ m. m.ranks) c.looks_of-looks.ensures.looks) (λ i. map (λ those. map plain_rule those.items) c.in_ok-rules.rules.items)

pub returns-clause-fits : goal.returns-clause-fits
returns-clause-fits g c = sttr_fits g.T.Theory.atom_holds g.T.Labels.make c.args.trans.now.sttr c.looks_of-looks.ensures.stand c.requires.stands

pub returns-clause-built : goal.returns-clause-built
returns-clause-built g c =
    let T = g.T in
    let rows = map (λ those. map plain_rule those.items) c.in_ok-rules.rules.items in
    let ranks = c.in_ok-ranks.ensures ∙ ap (λ m. m.ranks) c.looks_of-looks.ensures.looks in
    preimage_built T.Labels.is_put T.Labels.make (T.Theory.meaning c.args.theory.now) (T.Theory.atom_fits c.args.theory.now) c.args.trans.now c.args.asked.now c.args.all.items (names_in c.new-names.result.keys) (names_in c.number.new.names.keys) (ap names_in c.new-names.ensures.empty) c.in_ok-state.state c.in_ok-state.ensures
    (names_in c.rows.new.names.keys) rows c.in_ok-rules.ensures.rows (record { sta = c.new-sta.result; state = c.in_ok-state.state }) (c.new-sta.ensures ∙ with_ranks rows c.in_ok-ranks.ranks.items c.args.trans.now.sttr.looks.ranks ranks) refl

pub returns-clause-made : goal.returns-clause-made
returns-clause-made g c =
    let T = g.T in
    let rows = map (λ those. map plain_rule those.items) c.in_ok-rules.rules.items in
    let ranks = c.in_ok-ranks.ensures ∙ ap (λ m. m.ranks) c.looks_of-looks.ensures.looks in
    language_made T.Labels.is_put T.Labels.make (T.Theory.meaning c.args.theory.now) (T.Theory.atom_fits c.args.theory.now) c.args.trans.now c.args.asked.now c.args.all.items (names_in c.new-names.result.keys) (names_in c.number.new.names.keys) (ap names_in c.new-names.ensures.empty) c.in_ok-state.state c.in_ok-state.ensures
    (names_in c.rows.new.names.keys) rows c.in_ok-rules.ensures.rows (record { sta = c.new-sta.result; state = c.in_ok-state.state }) (c.new-sta.ensures ∙ with_ranks rows c.in_ok-ranks.ranks.items c.args.trans.now.sttr.looks.ranks ranks) refl

pub returns-in_err-rules-clause-stop : goal.returns-in_err-rules-clause-stop
returns-in_err-rules-clause-stop g c =
    let T = g.T in
    let told : IfErr c.from_residual-in_err-rules.result (IsThroughStop T.Labels.put_outside T.Labels.chain_outside c.args.trans.now.sttr (nothing_of c.args.asked.now)) = search rules in
    err_map _ (IsImageStop T.Labels.put_outside c.args.trans.now.sttr c.args.asked.now.rules) c.from_residual-in_err-rules.result (λ e h. stop_asked c.args.asked.now T.Labels.put_outside T.Labels.chain_outside c.args.trans.now.sttr e h) told

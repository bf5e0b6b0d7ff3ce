use Rattle.std.proofs.Common.{◌≡◌, ◌≤◌, true, map, sym, ap, ◌∙◌, subst, All, Contains}
use Rattle.std.specs.List.{list_all}
use Rattle.std.proofs.lemmas.List.{length-map}
use Rattle.std.proofs.lemmas.Simd.{map-map}
use Rattle.model_tree.specs.Limits.{most_fields}
use Rattle.fast_tree.specs.Signatures.{plain_signature, plain_constructor, plain_field}
use Rattle.fast_syntax.specs.Plain.{plain_lang, plain_trans}
use Rattle.sta_core.specs.Fits.{RulesFit}
use Rattle.sta_core.specs.Machine.{plain_rule}
use Rattle.sta_core.proofs.Meaning.{All_from_map}
use Rattle.sttr_core.specs.Machine.{plain_out}
use Rattle.fast_build.specs.Items.{items_of}
use Rattle.fast_build.specs.Called.{AreLooked}
use Rattle.fast_build.specs.Numbers.{number_in, has_ctor}
use Rattle.fast_build.specs.Reached.{demanded_in}
use Rattle.fast_build.specs.Rules.{AreStatesFor}
use Rattle.fast_build.specs.OutRules.{AreOutStatesFor, OutRuleStands}
use Rattle.fast_build.specs.Stands.{GuardStands}
use Rattle.fast_build.specs.Transducer.{IsTransducerOf}
use Rattle.fast_build.proofs.CalledFacts.{seeds_known}
use Rattle.fast_build.proofs.Gathering.{transformations_of, langs_of, own_trans, own_found, founds_of, gathered}
use Rattle.fast_build.proofs.WholeTrans.{few, outs_stand, look_ctors, look_guards, look_demands, all_fit, is_transducer}
use Rattle.fast_build.proofs.transducer.transducer.Goals as goal

pub gather-requires : goal.gather-requires
gather-requires c =
    let items = items_of c.args.checked.now in
    let well = c.args.checked.now.well_formed in
    let name = c.args.name.now in
    let called = c.in_ok-called.called in
    let seeds = c.in_ok-seeds.seeds.keys in
    let seeded = subst (λ xs. AreLooked (map (λ x. plain_trans x.now) xs) seeds) c.deref.ensures.value c.in_ok-seeds.ensures in
    let is = c.in_ok-called.ensures in
    record { known = seeds_known items well name (own_trans items name c.requires.there) (own_found items name c.requires.there) called.names.keys (transformations_of called) is.reached is.closed is.once (founds_of items name called is) seeds seeded }

pub states_for-requires-clause-few : goal.states_for-requires-clause-few
states_for-requires-clause-few c =
    let items = items_of c.args.checked.now in
    let well = c.args.checked.now.well_formed in
    let name = c.args.name.now in
    let called = c.in_ok-called.called in
    let seeds = c.in_ok-seeds.seeds.keys in
    let seeded = subst (λ xs. AreLooked (map (λ x. plain_trans x.now) xs) seeds) c.deref.ensures.value c.in_ok-seeds.ensures in
    let t = own_trans items name c.requires.there in
    let reached = c.in_ok-looks.looks in
    let ts = transformations_of called in
    let ls = langs_of reached in
    let s = plain_signature c.args.from.now in
    let o = plain_signature c.args.into.now in
    let g = gathered items name c.requires.there called seeds reached c.in_ok-called.ensures seeded c.in_ok-looks.ensures in
    subst (λ n. n ≤ most_fields) (length-map c.args.from.now.fields.items plain_field) (few items well name t called.names.keys ts seeds reached.names.keys ls g s o c.requires.begins c.requires.ends)

pub states_for-requires-clause-ctors : goal.states_for-requires-clause-ctors
states_for-requires-clause-ctors c =
    let items = items_of c.args.checked.now in
    let well = c.args.checked.now.well_formed in
    let name = c.args.name.now in
    let called = c.in_ok-called.called in
    let seeds = c.in_ok-seeds.seeds.keys in
    let seeded = subst (λ xs. AreLooked (map (λ x. plain_trans x.now) xs) seeds) c.deref.ensures.value c.in_ok-seeds.ensures in
    let t = own_trans items name c.requires.there in
    let reached = c.in_ok-looks.looks in
    let ts = transformations_of called in
    let ls = langs_of reached in
    let s = plain_signature c.args.from.now in
    let o = plain_signature c.args.into.now in
    let g = gathered items name c.requires.there called seeds reached c.in_ok-called.ensures seeded c.in_ok-looks.ensures in
    All_from_map (λ l. list_all (has_ctor s) l.rules ≡ true) (λ l. plain_lang l.now) reached.langs.items (look_ctors items well name t called.names.keys ts seeds reached.names.keys ls g s o c.requires.begins c.requires.ends)

pub states_for-requires-clause-guarded : goal.states_for-requires-clause-guarded
states_for-requires-clause-guarded c =
    let items = items_of c.args.checked.now in
    let well = c.args.checked.now.well_formed in
    let name = c.args.name.now in
    let called = c.in_ok-called.called in
    let seeds = c.in_ok-seeds.seeds.keys in
    let seeded = subst (λ xs. AreLooked (map (λ x. plain_trans x.now) xs) seeds) c.deref.ensures.value c.in_ok-seeds.ensures in
    let t = own_trans items name c.requires.there in
    let reached = c.in_ok-looks.looks in
    let ts = transformations_of called in
    let ls = langs_of reached in
    let s = plain_signature c.args.from.now in
    let o = plain_signature c.args.into.now in
    let g = gathered items name c.requires.there called seeds reached c.in_ok-called.ensures seeded c.in_ok-looks.ensures in
    All_from_map (λ l. All (λ r. GuardStands s.fields r.guard) l.rules) (λ l. plain_lang l.now) reached.langs.items (look_guards items well name t called.names.keys ts seeds reached.names.keys ls g s o c.requires.begins c.requires.ends)

pub states_for-requires-clause-named : goal.states_for-requires-clause-named
states_for-requires-clause-named c =
    let items = items_of c.args.checked.now in
    let well = c.args.checked.now.well_formed in
    let name = c.args.name.now in
    let called = c.in_ok-called.called in
    let seeds = c.in_ok-seeds.seeds.keys in
    let seeded = subst (λ xs. AreLooked (map (λ x. plain_trans x.now) xs) seeds) c.deref.ensures.value c.in_ok-seeds.ensures in
    let t = own_trans items name c.requires.there in
    let reached = c.in_ok-looks.looks in
    let ts = transformations_of called in
    let ls = langs_of reached in
    let s = plain_signature c.args.from.now in
    let o = plain_signature c.args.into.now in
    let g = gathered items name c.requires.there called seeds reached c.in_ok-called.ensures seeded c.in_ok-looks.ensures in
    All_from_map (λ l. All (Contains reached.names.keys) (demanded_in l.rules)) (λ l. plain_lang l.now) reached.langs.items (look_demands items well name t called.names.keys ts seeds reached.names.keys ls g s o c.requires.begins c.requires.ends)

pub out_states_for-requires-clause-few : goal.out_states_for-requires-clause-few
out_states_for-requires-clause-few c =
    let items = items_of c.args.checked.now in
    let well = c.args.checked.now.well_formed in
    let name = c.args.name.now in
    let called = c.in_ok-called.called in
    let seeds = c.in_ok-seeds.seeds.keys in
    let seeded = subst (λ xs. AreLooked (map (λ x. plain_trans x.now) xs) seeds) c.deref.ensures.value c.in_ok-seeds.ensures in
    let t = own_trans items name c.requires.there in
    let reached = c.in_ok-looks.looks in
    let ts = transformations_of called in
    let ls = langs_of reached in
    let s = plain_signature c.args.from.now in
    let o = plain_signature c.args.into.now in
    let g = gathered items name c.requires.there called seeds reached c.in_ok-called.ensures seeded c.in_ok-looks.ensures in
    subst (λ n. n ≤ most_fields) (length-map c.args.from.now.fields.items plain_field) (few items well name t called.names.keys ts seeds reached.names.keys ls g s o c.requires.begins c.requires.ends)

pub out_states_for-requires-clause-stand : goal.out_states_for-requires-clause-stand
out_states_for-requires-clause-stand c =
    let items = items_of c.args.checked.now in
    let well = c.args.checked.now.well_formed in
    let name = c.args.name.now in
    let called = c.in_ok-called.called in
    let seeds = c.in_ok-seeds.seeds.keys in
    let seeded = subst (λ xs. AreLooked (map (λ x. plain_trans x.now) xs) seeds) c.deref.ensures.value c.in_ok-seeds.ensures in
    let t = own_trans items name c.requires.there in
    let reached = c.in_ok-looks.looks in
    let ts = transformations_of called in
    let ls = langs_of reached in
    let s = plain_signature c.args.from.now in
    let o = plain_signature c.args.into.now in
    let g = gathered items name c.requires.there called seeds reached c.in_ok-called.ensures seeded c.in_ok-looks.ensures in
    All_from_map (λ x. All (OutRuleStands s o reached.names.keys called.names.keys) x.rules) (λ x. plain_trans x.now) called.transformations.items (outs_stand items well name t called.names.keys ts seeds reached.names.keys ls g s o c.requires.begins c.requires.ends)

pub new-requires : goal.new-requires
new-requires c =
    let items = items_of c.args.checked.now in
    let well = c.args.checked.now.well_formed in
    let name = c.args.name.now in
    let called = c.in_ok-called.called in
    let seeds = c.in_ok-seeds.seeds.keys in
    let seeded = subst (λ xs. AreLooked (map (λ x. plain_trans x.now) xs) seeds) c.deref.ensures.value c.in_ok-seeds.ensures in
    let t = own_trans items name c.requires.there in
    let reached = c.in_ok-looks.looks in
    let ts = transformations_of called in
    let ls = langs_of reached in
    let s = plain_signature c.args.from.now in
    let o = plain_signature c.args.into.now in
    let g = gathered items name c.requires.there called seeds reached c.in_ok-called.ensures seeded c.in_ok-looks.ensures in
    let looks = subst (AreStatesFor s (number_in reached.names.keys) (map (λ those. map plain_rule those.items) c.in_ok-states.states.items)) (sym (map-map (λ l. l.rules) (λ l. plain_lang l.now) reached.langs.items)) c.in_ok-states.ensures in
    let outs = subst (AreOutStatesFor s o (number_in reached.names.keys) (number_in called.names.keys) (map (λ those. map plain_out those.items) c.in_ok-rules.rules.items)) (sym (map-map (λ x. x.rules) (λ x. plain_trans x.now) called.transformations.items)) c.in_ok-rules.ensures in
    let ranks = c.in_ok-ranks.ensures ∙ ap (map (λ x. x.rank)) c.deref-2.ensures.value ∙ sym (map-map (λ x. x.rank) plain_constructor c.args.from.now.constructors.items) in
    subst (λ ks. RulesFit ks c.in_ok-states.states.items) (sym ranks) (all_fit items well name t called.names.keys ts seeds reached.names.keys ls g s o c.requires.begins c.requires.ends c.in_ok-states.states.items c.in_ok-rules.rules.items looks outs)

pub returns-clause-transducer : goal.returns-clause-transducer
returns-clause-transducer c =
    let items = items_of c.args.checked.now in
    let well = c.args.checked.now.well_formed in
    let name = c.args.name.now in
    let called = c.in_ok-called.called in
    let seeds = c.in_ok-seeds.seeds.keys in
    let seeded = subst (λ xs. AreLooked (map (λ x. plain_trans x.now) xs) seeds) c.deref.ensures.value c.in_ok-seeds.ensures in
    let t = own_trans items name c.requires.there in
    let reached = c.in_ok-looks.looks in
    let ts = transformations_of called in
    let ls = langs_of reached in
    let s = plain_signature c.args.from.now in
    let o = plain_signature c.args.into.now in
    let g = gathered items name c.requires.there called seeds reached c.in_ok-called.ensures seeded c.in_ok-looks.ensures in
    let looks = subst (AreStatesFor s (number_in reached.names.keys) (map (λ those. map plain_rule those.items) c.in_ok-states.states.items)) (sym (map-map (λ l. l.rules) (λ l. plain_lang l.now) reached.langs.items)) c.in_ok-states.ensures in
    let outs = subst (AreOutStatesFor s o (number_in reached.names.keys) (number_in called.names.keys) (map (λ those. map plain_out those.items) c.in_ok-rules.rules.items)) (sym (map-map (λ x. x.rules) (λ x. plain_trans x.now) called.transformations.items)) c.in_ok-rules.ensures in
    let ranks = c.in_ok-ranks.ensures ∙ ap (map (λ x. x.rank)) c.deref-2.ensures.value ∙ sym (map-map (λ x. x.rank) plain_constructor c.args.from.now.constructors.items) in
    let made = c.new-sttr.ensures ∙ ap (λ m. record { looks = m; rules = map (λ those. map plain_out those.items) c.in_ok-rules.rules.items }) (c.new.ensures ∙ ap (λ ks. record { ranks = ks; rules = map (λ those. map plain_rule those.items) c.in_ok-states.states.items }) ranks) in
    subst (IsTransducerOf items name called.names.keys) (sym made) (is_transducer items well name t called.names.keys ts seeds reached.names.keys ls g s o c.requires.begins c.requires.ends c.in_ok-states.states.items c.in_ok-rules.rules.items looks outs)

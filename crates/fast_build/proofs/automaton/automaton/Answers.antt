use Rattle.std.proofs.Common.{◌≡◌, ◌≤◌, true, map, sym, ap, ◌∙◌, subst, Some, All, Contains}
use Rattle.std.specs.List.{list_all}
use Rattle.std.proofs.lemmas.List.{length-map}
use Rattle.std.proofs.lemmas.Simd.{map-map}
use Rattle.model_tree.specs.Limits.{most_fields}
use Rattle.fast_tree.specs.Signatures.{plain_signature, plain_constructor, plain_field}
use Rattle.fast_syntax.specs.Plain.{plain_lang}
use Rattle.sta_core.specs.Fits.{RulesFit}
use Rattle.sta_core.specs.Machine.{plain_rule}
use Rattle.sta_core.proofs.Meaning.{All_from_map}
use Rattle.fast_build.specs.Numbers.{number_in, has_ctor}
use Rattle.fast_build.specs.Reached.{demanded_in}
use Rattle.fast_build.specs.Rules.{AreStatesFor}
use Rattle.fast_build.specs.Stands.{GuardStands}
use Rattle.fast_build.specs.Automaton.{IsAutomatonOf}
use Rattle.fast_build.specs.Items.{items_of}
use Rattle.fast_build.proofs.Whole.{few_fields, ctors_stand, guards_stand, demands_stand, all_fit, is_automaton}
use Rattle.fast_build.proofs.automaton.automaton.Goals as goal

pub states_for-requires-clause-few : goal.states_for-requires-clause-few
states_for-requires-clause-few c =
    let r = c.in_ok-reached.reached in
    let is = c.in_ok-reached.ensures in
    let t = plain_signature c.args.signature.now in
    let ls = map (λ l. plain_lang l.now) r.langs.items in
    let found = is.langs ∙ sym (map-map (λ l. Some l) (λ l. plain_lang l.now) r.langs.items) in
    subst (λ n. n ≤ most_fields) (length-map c.args.signature.now.fields.items plain_field) (few_fields (items_of c.args.checked.now) c.args.checked.now.well_formed c.args.name.now r.names.keys ls c.requires.there is.reached is.closed is.once found t c.requires.typed)

pub states_for-requires-clause-ctors : goal.states_for-requires-clause-ctors
states_for-requires-clause-ctors c =
    let r = c.in_ok-reached.reached in
    let is = c.in_ok-reached.ensures in
    let t = plain_signature c.args.signature.now in
    let ls = map (λ l. plain_lang l.now) r.langs.items in
    let found = is.langs ∙ sym (map-map (λ l. Some l) (λ l. plain_lang l.now) r.langs.items) in
    All_from_map (λ l. list_all (has_ctor t) l.rules ≡ true) (λ l. plain_lang l.now) r.langs.items (ctors_stand (items_of c.args.checked.now) c.args.checked.now.well_formed c.args.name.now r.names.keys ls c.requires.there is.reached is.closed is.once found t c.requires.typed)

pub states_for-requires-clause-guarded : goal.states_for-requires-clause-guarded
states_for-requires-clause-guarded c =
    let r = c.in_ok-reached.reached in
    let is = c.in_ok-reached.ensures in
    let t = plain_signature c.args.signature.now in
    let ls = map (λ l. plain_lang l.now) r.langs.items in
    let found = is.langs ∙ sym (map-map (λ l. Some l) (λ l. plain_lang l.now) r.langs.items) in
    All_from_map (λ l. All (λ r. GuardStands t.fields r.guard) l.rules) (λ l. plain_lang l.now) r.langs.items (guards_stand (items_of c.args.checked.now) c.args.checked.now.well_formed c.args.name.now r.names.keys ls c.requires.there is.reached is.closed is.once found t c.requires.typed)

pub states_for-requires-clause-named : goal.states_for-requires-clause-named
states_for-requires-clause-named c =
    let r = c.in_ok-reached.reached in
    let is = c.in_ok-reached.ensures in
    let t = plain_signature c.args.signature.now in
    let ls = map (λ l. plain_lang l.now) r.langs.items in
    let found = is.langs ∙ sym (map-map (λ l. Some l) (λ l. plain_lang l.now) r.langs.items) in
    All_from_map (λ l. All (Contains r.names.keys) (demanded_in l.rules)) (λ l. plain_lang l.now) r.langs.items (demands_stand (items_of c.args.checked.now) c.args.checked.now.well_formed c.args.name.now r.names.keys ls c.requires.there is.reached is.closed is.once found t c.requires.typed)

pub new-requires : goal.new-requires
new-requires c =
    let r = c.in_ok-reached.reached in
    let is = c.in_ok-reached.ensures in
    let t = plain_signature c.args.signature.now in
    let ls = map (λ l. plain_lang l.now) r.langs.items in
    let found = is.langs ∙ sym (map-map (λ l. Some l) (λ l. plain_lang l.now) r.langs.items) in
    let are = subst (AreStatesFor t (number_in r.names.keys) (map (λ those. map plain_rule those.items) c.in_ok-states.states.items)) (sym (map-map (λ l. l.rules) (λ l. plain_lang l.now) r.langs.items)) c.in_ok-states.ensures in
    let ranks = c.in_ok-ranks.ensures ∙ ap (map (λ x. x.rank)) c.deref.ensures.value ∙ sym (map-map (λ x. x.rank) plain_constructor c.args.signature.now.constructors.items) in
    subst (λ ks. RulesFit ks c.in_ok-states.states.items) (sym ranks) (all_fit (items_of c.args.checked.now) c.args.checked.now.well_formed c.args.name.now r.names.keys ls c.requires.there is.reached is.closed is.once found t c.requires.typed c.in_ok-states.states.items are)

pub returns : goal.returns
returns c =
    let r = c.in_ok-reached.reached in
    let is = c.in_ok-reached.ensures in
    let t = plain_signature c.args.signature.now in
    let ls = map (λ l. plain_lang l.now) r.langs.items in
    let found = is.langs ∙ sym (map-map (λ l. Some l) (λ l. plain_lang l.now) r.langs.items) in
    let are = subst (AreStatesFor t (number_in r.names.keys) (map (λ those. map plain_rule those.items) c.in_ok-states.states.items)) (sym (map-map (λ l. l.rules) (λ l. plain_lang l.now) r.langs.items)) c.in_ok-states.ensures in
    let ranks = c.in_ok-ranks.ensures ∙ ap (map (λ x. x.rank)) c.deref.ensures.value ∙ sym (map-map (λ x. x.rank) plain_constructor c.args.signature.now.constructors.items) in
    subst (IsAutomatonOf (items_of c.args.checked.now) c.args.name.now)
    (sym (c.new.ensures ∙ ap (λ ks. record { ranks = ks; rules = map (λ those. map plain_rule those.items) c.in_ok-states.states.items }) ranks))
    (is_automaton (items_of c.args.checked.now) c.args.checked.now.well_formed c.args.name.now r.names.keys ls c.requires.there is.reached is.closed is.once found t c.requires.typed c.in_ok-states.states.items are)

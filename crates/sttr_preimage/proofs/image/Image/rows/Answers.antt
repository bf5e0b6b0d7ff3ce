use Rattle.sttr_run.specs.Plain.{plain_second}
use Rattle.std.specs.Prelude.{MatchOption}
use Rattle.std.specs.Result.{IfErr}
use Rattle.sttr_preimage.proofs.Atoms.{err_map}
use Rattle.std.proofs.Common.{rules, map, Option, length, ◌≤◌, subst, ap}
use Rattle.sta_core.specs.Machine.{plain_rule}
use Rattle.sttr_theory.specs.Lists.{IsAt}
use Rattle.sttr_preimage.specs.Names.{names_in, plain_name}
use Rattle.sttr_preimage.specs.declared.names.Name.{Name}
use Rattle.sttr_preimage.specs.Images.{HasOne, IsSecond, IsMiddle, IsRange, IsLookName}
use Rattle.sttr_preimage.proofs.Copying.{push_mapped}
use Rattle.sttr_preimage.proofs.Sides.{rows_none, rows_next, can_next, own_known, middle_there}
use Rattle.sttr_preimage.proofs.image.Image.rows.Goals as goal

pub places-init : goal.places-init
places-init g c =
    let T = g.T in
    let names = names_in c.args.names.now.keys in
    rows_none T.Labels.is_put T.Labels.make (T.Theory.meaning c.args.self.now.theory.now) (T.Theory.atom_fits c.args.self.now.theory.now) c.args.self.now.sttr.now (plain_second c.args.self.now.second) (HasOne IsSecond names) (HasOne IsMiddle names) names
    (map (λ those. map plain_rule those.items) c.new-rows.result.items) c.requires.known (ap (map (λ those. map plain_rule those.items)) c.new-rows.ensures.items)

name_there : goal.rules_for-requires-clause-name
name_there g c =
    let T = g.T in
    let names = names_in c.args.names.now.keys in
    let mid = names_in c.places.names.keys in
    let x = plain_name c.in-Some.name in
    let at : IsAt mid c.places.place x = subst (λ (o : Option Name). MatchOption o (length c.places.names.keys ≤ c.places.place) (λ name. IsAt mid c.places.place (plain_name name))) c.in-Some.is c.in_ok-name.ensures in
    let known : IsLookName T.Theory.atom_holds T.Labels.make c.args.self.now.sttr.now (plain_second c.args.self.now.second) (HasOne IsSecond names) (HasOne IsMiddle names) x = c.places.invariant.built.known x (c.places.place, at.0, at.1) in
    own_known T.Labels.is_put T.Labels.make (T.Theory.meaning c.args.self.now.theory.now) (T.Theory.atom_fits c.args.self.now.theory.now) c.args.self.now.sttr.now (plain_second c.args.self.now.second) (HasOne IsSecond names) (HasOne IsMiddle names) x known

pub rules_for-requires-clause-name : goal.rules_for-requires-clause-name
rules_for-requires-clause-name g c = name_there g c

pub rules_for-requires-clause-can : goal.rules_for-requires-clause-can
rules_for-requires-clause-can g c =
    let T = g.T in
    let names = names_in c.args.names.now.keys in
    let mid = names_in c.places.names.keys in
    let x = plain_name c.in-Some.name in
    let at : IsAt mid c.places.place x = subst (λ (o : Option Name). MatchOption o (length c.places.names.keys ≤ c.places.place) (λ name. IsAt mid c.places.place (plain_name name))) c.in-Some.is c.in_ok-name.ensures in
    can_next T.Labels.is_put T.Labels.make (T.Theory.meaning c.args.self.now.theory.now) (T.Theory.atom_fits c.args.self.now.theory.now) c.args.self.now.sttr.now (plain_second c.args.self.now.second) (HasOne IsSecond names) (HasOne IsMiddle names)
    T.Theory.atom_fits T.Labels.map_fits T.Labels.map_makes c.args.self.now.theory.now c.requires.can x (c.places.invariant.built.known x (c.places.place, at.0, at.1))

pub places-preserved : goal.places-preserved
places-preserved g c =
    let T = g.T in
    let names = names_in c.args.names.now.keys in
    let mid = names_in c.places.names.keys in
    let new = names_in c.rules_for.new.names.keys in
    let x = plain_name c.in-Some.name in
    let at : IsAt mid c.places.place x = subst (λ (o : Option Name). MatchOption o (length c.places.names.keys ≤ c.places.place) (λ name. IsAt mid c.places.place (plain_name name))) c.in-Some.is c.in_ok-name.ensures in
    rows_next T.Labels.is_put T.Labels.make (T.Theory.meaning c.args.self.now.theory.now) (T.Theory.atom_fits c.args.self.now.theory.now) c.args.self.now.sttr.now (plain_second c.args.self.now.second) (HasOne IsSecond names) (HasOne IsMiddle names)
    names mid new x (map (λ those. map plain_rule those.items) c.places.rows.items) (map (λ those. map plain_rule those.items) c.push.new.self.items) (map plain_rule c.in_ok-rules_for.field-0.items) c.places.place c.places.invariant at c.in_ok-rules_for.ensures.rules
    (push_mapped (λ those. map plain_rule those.items) c.places.rows.items c.push.new.self.items c.in_ok-rules_for.field-0 c.in_ok-push.ensures.items)

pub returns-in_err-rules_for-clause-between : goal.returns-in_err-rules_for-clause-between
returns-in_err-rules_for-clause-between g c =
    let T = g.T in
    let names = names_in c.args.names.now.keys in
    let mid = names_in c.places.names.keys in
    let x = plain_name c.in-Some.name in
    let at : IsAt mid c.places.place x = subst (λ (o : Option Name). MatchOption o (length c.places.names.keys ≤ c.places.place) (λ name. IsAt mid c.places.place (plain_name name))) c.in-Some.is c.in_ok-name.ensures in
    let known : IsLookName T.Theory.atom_holds T.Labels.make c.args.self.now.sttr.now (plain_second c.args.self.now.second) (HasOne IsSecond names) (HasOne IsMiddle names) x = c.places.invariant.built.known x (c.places.place, at.0, at.1) in
    let told : IfErr c.from_residual-in_err-rules_for.result (λ e. IsRange e → IsMiddle x) = search rules in
    err_map (λ e. IsRange e → IsMiddle x) (λ e. IsRange e → HasOne IsMiddle names) c.from_residual-in_err-rules_for.result
    (λ e is range. middle_there T.Labels.is_put T.Labels.make (T.Theory.meaning c.args.self.now.theory.now) (T.Theory.atom_fits c.args.self.now.theory.now) c.args.self.now.sttr.now (plain_second c.args.self.now.second) (HasOne IsSecond names) (HasOne IsMiddle names) x known (is range)) told

use Rattle.sttr_run.specs.Plain.{plain_second}
use Rattle.std.proofs.Common.{map, get_or, length, [], ◌≡◌, ◌⊎◌, inr, true, sym, subst, ap, ◌∙◌}
use Rattle.sta_core.specs.Machine.{plain_rule}
use Rattle.sttr_preimage.specs.Names.{names_in, plain_name}
use Rattle.sttr_preimage.specs.declared.names.Name.{Name}
use Rattle.sttr_preimage.specs.declared.names.Name.TheVariants as name
use Rattle.sttr_preimage.specs.Images.{HasRules, IsSecond, IsMiddle, IsLookName}
use Rattle.sttr_run.specs.Sources.{GivesChild}
use Rattle.sttr_core.specs.Fits.{LabelsFit}
use Rattle.sttr_preimage.proofs.Sides.{first_done, second_done, all_stand}
use Rattle.sttr_preimage.proofs.image.Image.rules_for.Goals as goal

pub returns-in_ok-copied_rules-in-First-clause-rules : goal.returns-in_ok-copied_rules-in-First-clause-rules
returns-in_ok-copied_rules-in-First-clause-rules g c =
    let T = g.T in
    let N = T.Theory.meaning c.args.self.now.theory.now in
    let fits = T.Theory.atom_fits c.args.self.now.theory.now in
    let f = c.args.self.now.sttr.now in
    let a = (plain_second c.args.self.now.second) in
    let old = names_in c.args.names.now.keys in
    let new = names_in c.copied_rules.new.names.keys in
    let made = map plain_rule c.in_ok-copied_rules-in-First.field-0.items in
    let s = c.in-First.state in
    let reflexive = subst (λ eq. (b : _) → eq b b ≡ true) (sym (g.met.T.Theory.equal_is_own c.args.self.now.theory.now)) (λ b. g.met.T.Atom.Eq.laws.refl b) in
    let known : IsLookName T.Theory.atom_holds T.Labels.make f a (IsSecond (plain_name (name.First s))) (IsMiddle (plain_name (name.First s))) (plain_name (name.First s)) = subst (λ (n : Name). IsLookName T.Theory.atom_holds T.Labels.make f a (IsSecond (plain_name n)) (IsMiddle (plain_name n)) (plain_name n)) c.in-First.is c.requires.name in
    let rules : map plain_rule c.rules_of-rules.result.now ≡ get_or f.looks.rules s [] = c.rules_of-rules.ensures.rules ∙ ap (λ m. get_or m.rules s []) c.lookahead.ensures in
    subst (λ (n : Name). HasRules T.Labels.is_put T.Labels.make N fits f a old new (plain_name n) made) (sym c.in-First.is)
    (first_done T.Labels.is_put T.Labels.make N fits f a reflexive old new (map plain_rule c.rules_of-rules.result.now) made s known c.requires.can.looks c.requires.can.labels.looks rules c.in_ok-copied_rules-in-First.ensures)

pub returns-in_ok-copied_rules-in-Second-clause-rules : goal.returns-in_ok-copied_rules-in-Second-clause-rules
returns-in_ok-copied_rules-in-Second-clause-rules g c =
    let T = g.T in
    let N = T.Theory.meaning c.args.self.now.theory.now in
    let fits = T.Theory.atom_fits c.args.self.now.theory.now in
    let f = c.args.self.now.sttr.now in
    let a = (plain_second c.args.self.now.second) in
    let old = names_in c.args.names.now.keys in
    let new = names_in c.copied_rules-in-Second.new.names.keys in
    let made = map plain_rule c.in_ok-copied_rules-in-Second.field-0.items in
    let s = c.in-Second.state in
    let reflexive = subst (λ eq. (b : _) → eq b b ≡ true) (sym (g.met.T.Theory.equal_is_own c.args.self.now.theory.now)) (λ b. g.met.T.Atom.Eq.laws.refl b) in
    let known : IsLookName T.Theory.atom_holds T.Labels.make f a (IsSecond (plain_name (name.Second s))) (IsMiddle (plain_name (name.Second s))) (plain_name (name.Second s)) = subst (λ (n : Name). IsLookName T.Theory.atom_holds T.Labels.make f a (IsSecond (plain_name n)) (IsMiddle (plain_name n)) (plain_name n)) c.in-Second.is c.requires.name in
    let ranks = subst (λ (n : Name). GivesChild f ⊎ IsSecond (plain_name n) → a.looks.ranks ≡ f.looks.ranks) c.in-Second.is c.requires.can.ranks (inr tt) in
    let speaks = subst (λ (n : Name). GivesChild f ⊎ IsSecond (plain_name n) → LabelsFit fits (T.Labels.map_fits c.args.self.now.theory.now) a) c.in-Second.is c.requires.can.speaks (inr tt) in
    subst (λ (n : Name). HasRules T.Labels.is_put T.Labels.make N fits f a old new (plain_name n) made) (sym c.in-Second.is)
    (second_done T.Labels.is_put T.Labels.make N fits f a reflexive old new (map plain_rule c.rules_of-rules-in-Second.result.now) made s known.0 ranks speaks.looks (all_stand a.looks.ranks (length a.looks.rules) c.rules_of-rules-in-Second.result.now c.rules_of-rules-in-Second.ensures.fit) c.rules_of-rules-in-Second.ensures.rules c.in_ok-copied_rules-in-Second.ensures)

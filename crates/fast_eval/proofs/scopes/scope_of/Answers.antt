use Rattle.std.proofs.Common.{◌≡◌, Some, None, refl, ◌∙◌}
use Rattle.fast_syntax.specs.Plain.{plain_x}
use Rattle.fast_build.specs.Items.{items_of}
use Rattle.fast_eval.proofs.TypeNames.{of_is, told_labels}
use Rattle.fast_eval.proofs.scopes.scope_of.Goals as goal

pub unreachable-requires : goal.unreachable-requires
unreachable-requires c = let no : None ≡ Some c.requires.made.0 = c.in_default.ensures c.requires.made.0 c.requires.made.1 in absurd (cc)

pub unreachable-requires-in_default-labels : goal.unreachable-requires-in_default-labels
unreachable-requires-in_default-labels c =
    let no : None ≡ Some _ = c.in_default-labels.ensures ∙ told_labels (items_of c.args.checked.now) (plain_x c.args.x.now) c.in-Some.of.now c.in-Some.ensures c.requires.made c.args.built.now.labels c.requires.built.labels in absurd (cc)

pub returns-clause-scope : goal.returns-clause-scope
returns-clause-scope c =
    let told = told_labels (items_of c.args.checked.now) (plain_x c.args.x.now) c.in-Some.of.now c.in-Some.ensures c.requires.made c.args.built.now.labels c.requires.built.labels in
    record {
      built = c.requires.built;
      labels = let same : Some c.in-Some-labels.theory.now ≡ Some _ = c.in-Some-labels.ensures ∙ told in cc;
      shallow = c.requires.shallow;
    }

pub returns-clause-of : goal.returns-clause-of
returns-clause-of c = record { program = refl; table = refl; most = refl; on = of_is (items_of c.args.checked.now) (plain_x c.args.x.now) c.in-Some.of.now c.in-Some.ensures c.requires.made }

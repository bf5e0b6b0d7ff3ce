use Rattle.fast_eval.specs.Table.{IsTransBuiltNamed}
use Rattle.fast_eval.proofs.Places.{on_both, on_ok, names_after, named_after, names_kept, right_named, right_kept}
use Rattle.fast_eval.proofs.built.Built.name_transformation.Goals as goal

pub returns-clause-built : goal.returns-clause-built
returns-clause-built c = λ items are at.
    (let old = c.args.self.now.transformations in
    let new = c.put.new.self in
    record {
      transformations = on_both c.put.result c.put.ensures.named c.put.ensures.refused (right_named (IsTransBuiltNamed items) old new are.transformations c.args.name.now c.args.place at) (right_kept (IsTransBuiltNamed items) old new are.transformations);
      languages = are.languages;
      labels = are.labels;
    })

pub returns-clause-grown : goal.returns-clause-grown
returns-clause-grown c =
    let old = c.args.self.now.transformations in
    let new = c.put.new.self in
    record {
      transformations = on_both c.put.result c.put.ensures.named c.put.ensures.refused (λ done. names_after old new c.args.name.now _ done.names) (names_kept old new);
      languages = λ name had. had;
    }

pub returns-clause-named : goal.returns-clause-named
returns-clause-named c = on_ok c.put.result (λ done. named_after c.args.self.now.transformations c.put.new.self c.args.name.now _ done.names) c.put.ensures.named

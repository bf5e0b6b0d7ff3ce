use Rattle.fast_eval.specs.Table.{IsBuiltNamed}
use Rattle.fast_eval.proofs.Places.{on_both, on_ok, names_after, named_after, names_kept, right_named, right_kept}
use Rattle.fast_eval.proofs.built.Built.name_language.Goals as goal

pub returns-clause-built : goal.returns-clause-built
returns-clause-built c = λ items are at.
    (let old = c.args.self.now.languages in
    let new = c.put.new.self in
    record {
      languages = on_both c.put.result c.put.ensures.named c.put.ensures.refused (right_named (IsBuiltNamed items) old new are.languages c.args.name.now c.args.place at) (right_kept (IsBuiltNamed items) old new are.languages);
      transformations = are.transformations;
      labels = are.labels;
    })

pub returns-clause-grown : goal.returns-clause-grown
returns-clause-grown c =
    let old = c.args.self.now.languages in
    let new = c.put.new.self in
    record {
      languages = on_both c.put.result c.put.ensures.named c.put.ensures.refused (λ done. names_after old new c.args.name.now _ done.names) (names_kept old new);
      transformations = λ name had. had;
    }

pub returns-clause-named : goal.returns-clause-named
returns-clause-named c = on_ok c.put.result (λ done. named_after c.args.self.now.languages c.put.new.self c.args.name.now _ done.names) c.put.ensures.named

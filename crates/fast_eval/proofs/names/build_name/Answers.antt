use Rattle.fast_build.specs.Items.{items_of}
use Rattle.fast_eval.proofs.Keeping.{built_for_name}
use Rattle.fast_eval.proofs.names.build_name.Goals as goal

pub returns-clause-built : goal.returns-clause-built
returns-clause-built c = λ are. c.add_language.ensures.built (items_of c.args.checked.now) are (built_for_name (items_of c.args.checked.now) c.args.name.now c.in_ok-lang.lang c.in_ok-lang.ensures.automaton c.in_ok-lang.ensures.carried)

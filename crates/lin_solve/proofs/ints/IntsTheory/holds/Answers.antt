use Rattle.std.proofs.Common.{ap, sym, ◌∙◌}
use Rattle.model_chain.specs.Literals.{compare_holds}
use Rattle.lin_solve.specs.Plain.{plain_compare}
use Rattle.lin_solve.specs.Equal.{wholes_back}
use Rattle.lin_solve.proofs.ints.IntsTheory.holds.Goals as goal

pub returns : goal.returns
returns c = c.holds.ensures ∙ ap (compare_holds (plain_compare c.args.atom.now)) (c.deref.ensures.value ∙ sym (wholes_back c.args.value.now.items))

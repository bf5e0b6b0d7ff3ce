use Rattle.fast_eval.proofs.Defined.{trans_there_of, trans_made_of}
use Rattle.fast_eval.proofs.definitions.keep_trans.Goals as goal

pub returns-in-Kept-clause-built : goal.returns-in-Kept-clause-built
returns-in-Kept-clause-built c = λ items are own. c.name_transformation.ensures.built items are (trans_there_of items c.args.name.now c.args.built.now c.args.operand c.in-Kept.place c.in-Kept.is own)

pub returns-in-Made-clause-built : goal.returns-in-Made-clause-built
returns-in-Made-clause-built c = λ items are own. c.add_transformation.ensures.built items are (trans_made_of items c.args.name.now c.args.built.now c.args.operand c.in-Made.trans c.in-Made.is own)

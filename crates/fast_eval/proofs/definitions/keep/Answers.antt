use Rattle.fast_eval.proofs.Defined.{there_of, made_of, least_of}
use Rattle.fast_eval.proofs.definitions.keep.Goals as goal

pub returns-in_err-name_language-in-Kept-clause-built : goal.returns-in_err-name_language-in-Kept-clause-built
returns-in_err-name_language-in-Kept-clause-built c = λ items are own. c.name_language.ensures.built items are (there_of items c.args.name.now c.args.built.now c.args.operand c.in-Kept.place c.in-Kept.is own)

pub returns-in_err-add_language-in-Made-clause-built : goal.returns-in_err-add_language-in-Made-clause-built
returns-in_err-add_language-in-Made-clause-built c = λ items are own. c.add_language.ensures.built items are (made_of items c.args.name.now c.args.built.now c.args.operand c.in-Made.lang c.in-Made.is own)

pub returns-in_err-add_language-in-Least-clause-built : goal.returns-in_err-add_language-in-Least-clause-built
returns-in_err-add_language-in-Least-clause-built c = λ items are own. c.add_language-in-Least.ensures.built items are (least_of items c.args.name.now c.args.built.now c.args.operand c.in-Least.minimal c.in-Least.is own)

pub returns-in_ok-name_language-in-Kept-clause-built : goal.returns-in_ok-name_language-in-Kept-clause-built
returns-in_ok-name_language-in-Kept-clause-built c = λ items are own. c.name_language.ensures.built items are (there_of items c.args.name.now c.args.built.now c.args.operand c.in-Kept.place c.in-Kept.is own)

pub returns-in_ok-add_language-in-Made-clause-built : goal.returns-in_ok-add_language-in-Made-clause-built
returns-in_ok-add_language-in-Made-clause-built c = λ items are own. c.add_language.ensures.built items are (made_of items c.args.name.now c.args.built.now c.args.operand c.in-Made.lang c.in-Made.is own)

pub returns-in_ok-add_language-in-Least-clause-built : goal.returns-in_ok-add_language-in-Least-clause-built
returns-in_ok-add_language-in-Least-clause-built c = λ items are own. c.add_language-in-Least.ensures.built items are (least_of items c.args.name.now c.args.built.now c.args.operand c.in-Least.minimal c.in-Least.is own)

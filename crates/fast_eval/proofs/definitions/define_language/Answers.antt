use Rattle.fast_syntax.specs.Plain.{plain_x}
use Rattle.fast_build.specs.Items.{items_of}
use Rattle.fast_eval.proofs.Defined.{operand_by_definition}
use Rattle.fast_eval.proofs.definitions.define_language.Goals as goal

pub returns-in_err-build_names-clause-built : goal.returns-in_err-build_names-clause-built
returns-in_err-build_names-clause-built c = c.build_names.ensures.built c.requires.built

pub value-requires-clause-built : goal.value-requires-clause-built
value-requires-clause-built c = c.build_names.ensures.built c.requires.built

pub returns-in_err-operand-clause-built : goal.returns-in_err-operand-clause-built
returns-in_err-operand-clause-built c = c.build_names.ensures.built c.requires.built

pub returns-in_err-keep-clause-built : goal.returns-in_err-keep-clause-built
returns-in_err-keep-clause-built c =
    let items = items_of c.args.checked.now in
    let x = plain_x c.args.def.now.value in
    c.keep.ensures.built items (c.build_names.ensures.built c.requires.built)
    (operand_by_definition items c.args.checked.now.well_formed c.args.def.now.name.text x c.requires.defined c.requires.made.0 c.requires.made.1 c.build_names.new.built c.in_ok-operand.operand (c.in_ok-operand.ensures.built c.requires.made.0 c.requires.made.1))

pub returns-clause-built : goal.returns-clause-built
returns-clause-built c =
    let items = items_of c.args.checked.now in
    let x = plain_x c.args.def.now.value in
    c.keep.ensures.built items (c.build_names.ensures.built c.requires.built)
    (operand_by_definition items c.args.checked.now.well_formed c.args.def.now.name.text x c.requires.defined c.requires.made.0 c.requires.made.1 c.build_names.new.built c.in_ok-operand.operand (c.in_ok-operand.ensures.built c.requires.made.0 c.requires.made.1))

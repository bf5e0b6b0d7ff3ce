use Rattle.fast_syntax.specs.Plain.{plain_x}
use Rattle.fast_build.specs.Items.{items_of}
use Rattle.fast_eval.proofs.Defined.{trans_operand_by_definition}
use Rattle.fast_eval.proofs.definitions.define_transformation.Goals as goal

pub returns-in_err-build_names-clause-built : goal.returns-in_err-build_names-clause-built
returns-in_err-build_names-clause-built c = c.build_names.ensures.built c.requires.built

pub trans_value-requires-clause-built : goal.trans_value-requires-clause-built
trans_value-requires-clause-built c = c.build_names.ensures.built c.requires.built

pub returns-in_err-operand-clause-built : goal.returns-in_err-operand-clause-built
returns-in_err-operand-clause-built c = c.build_names.ensures.built c.requires.built

pub returns-in_err-keep_trans-clause-built : goal.returns-in_err-keep_trans-clause-built
returns-in_err-keep_trans-clause-built c =
    let items = items_of c.args.checked.now in
    let (from, into, made) = c.requires.made in
    c.keep_trans.ensures.built items (c.build_names.ensures.built c.requires.built)
    (trans_operand_by_definition items c.args.checked.now.well_formed c.args.def.now.name.text (plain_x c.args.def.now.value) c.requires.defined from into made c.build_names.new.built c.in_ok-operand.operand (c.in_ok-operand.ensures.built from into made))

pub returns-clause-built : goal.returns-clause-built
returns-clause-built c =
    let items = items_of c.args.checked.now in
    let (from, into, made) = c.requires.made in
    c.keep_trans.ensures.built items (c.build_names.ensures.built c.requires.built)
    (trans_operand_by_definition items c.args.checked.now.well_formed c.args.def.now.name.text (plain_x c.args.def.now.value) c.requires.defined from into made c.build_names.new.built c.in_ok-operand.operand (c.in_ok-operand.ensures.built from into made))

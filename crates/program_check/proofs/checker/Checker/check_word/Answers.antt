use Rattle.std.proofs.Common.{◌||◌, ap₂}
use Rattle.fast_syntax.specs.View.{plain_name}
use Rattle.program_check.specs.Contexts.{items_of, before_of}
use Rattle.program_check.proofs.ByHead.{none_stands, some_stands, none_named, some_named}
use Rattle.program_check.proofs.Noting.{as_same}
use Rattle.program_check.proofs.checker.Checker.check_word.Goals as goal

pub returns-clause-standing : goal.returns-clause-standing
returns-clause-standing c = let found = c.in-Some.ensures in some_stands (items_of c.args.context.now) (plain_name c.args.name.now) found.head c.in-Some.standing found.is found.stands

pub returns-in_default-clause-standing : goal.returns-in_default-clause-standing
returns-in_default-clause-standing c = none_stands (items_of c.args.context.now) (plain_name c.args.name.now) c.in_default.ensures

pub returns-in_default-clause-noted : goal.returns-in_default-clause-noted
returns-in_default-clause-noted c = as_same (none_named (items_of c.args.context.now) (before_of c.args.context.now) (plain_name c.args.name.now) c.in_default.ensures) c.note.ensures

pub returns-clause-noted : goal.returns-clause-noted
returns-clause-noted c =
    let found = c.in-Some.ensures in
    as_same (some_named (items_of c.args.context.now) (before_of c.args.context.now) (plain_name c.args.name.now) found.head (c.in-Some.has_rules || c.has_item_before.result) found.is
    (ap₂ (λ r k. r || k) found.rules c.has_item_before.ensures)) c.note_if.ensures

use Rattle.std.proofs.Common.{sym, map}
use Rattle.fast_syntax.specs.View.{plain_name}
use Rattle.fast_syntax.specs.Plain.{plain_expr, plain_x}
use Rattle.label_reader.proofs.Exits.{sign_next}
use Rattle.program_reader.proofs.Rows.{plain_literal}
use Rattle.program_reader.proofs.Growing.{row_closes, row_further, done_as}
use Rattle.program_reader.proofs.terms.begin_child.Goals as goal

pub returns-then-is_next : goal.returns-then-is_next
returns-then-is_next c = let next = c.is_next.ensures.yes c.if-is_next.true in
    done_as (sym (plain_literal c.args.name c.args.labels c.args.children)) (row_closes (plain_name c.args.name) (map plain_expr c.args.labels.items) (map plain_x c.args.children.items) next (sign_next c.args.reader.now next c.advance.ensures))

pub returns : goal.returns
returns c = row_further (plain_name c.args.name) (map plain_expr c.args.labels.items) (map plain_x c.args.children.items) (c.is_next.ensures.no c.if-is_next.false)

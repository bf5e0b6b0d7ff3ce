use Rattle.std.proofs.Common.{sym}
use Rattle.fast_build.specs.Items.{items_of}
use Rattle.fast_tool.proofs.Typed.{typed_signature}
use Rattle.fast_tool.proofs.lines.append_tree.Goals as goal

pub unreachable-requires : goal.unreachable-requires
unreachable-requires c = typed_signature (items_of c.args.checked.now) c.args.of.now _ c.requires.typed (sym c.in_default.ensures)

use Rattle.fast_session.specs.Kept.{items_in}
use Rattle.fast_session.proofs.Printing.{done_tree}
use Rattle.fast_session.proofs.trees.do_tree.Goals as goal

pub returns-in_ok-print-in-Ok-clause-done : goal.returns-in_ok-print-in-Ok-clause-done
returns-in_ok-print-in-Ok-clause-done c =
    done_tree _ _ _ c.requires.ready c.requires.composable _ c.requires.is _ _ _ (record { more = c.value_of.ensures.more; added = c.in_ok-print-in-Ok.ensures.added; built = c.print.ensures.built }) _
    (c.in_ok-print-in-Ok.ensures.line (items_in c.args.around.now)) c.in-Ok.ensures.value c.in-Ok.ensures.owed c.in-Ok.ensures.typed c.in-Ok.ensures.limits

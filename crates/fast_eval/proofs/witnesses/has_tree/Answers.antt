use Rattle.std.proofs.Common.{[], get_or, ap, ◌∙◌}
use Rattle.model_tree.specs.Tree.{relabel}
use Rattle.model_sta.specs.Sets.{has}
use Rattle.fast_tree.specs.Entries.{label_meaning}
use Rattle.record_label.specs.Rows.{row_holds}
use Rattle.sta_core.specs.Sta.{automaton_of}
use Rattle.sta_marks.proofs.Passed.{root_mark}
use Rattle.fast_eval.proofs.witnesses.has_tree.Goals as goal

pub returns : goal.returns
returns c =
    let l = c.args.lang.now in
    c.has.ensures ∙ ap (λ rows. has (get_or rows 0 []) l.state) c.in_ok-marks.ensures ∙ root_mark (automaton_of row_holds l.sta) (relabel label_meaning c.args.tree.now) l.state

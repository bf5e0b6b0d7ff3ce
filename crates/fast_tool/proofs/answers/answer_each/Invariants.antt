use Rattle.std.proofs.Common.{◌≡◌, ℕ, List, map}
use Rattle.fast_session.specs.Sessions.{items_in, IsSameProgram}
use Rattle.tree_files.specs.Placed.{plain_placed}
use Rattle.fast_tool.specs.Answers.{Answered, IsPrepared}
use Rattle.fast_tool.specs.Commands.{kind_asked}
use Rattle.fast_tool.proofs.answers.answer_each.Given as goal

abbrev pub invariant-trees : goal.invariant-trees
invariant-trees g l =
    ((file : List ℕ) → Answered (items_in l.initial.session) file l.inquiry.name.now l.inquiry.trees.now (kind_asked l.inquiry.question) (map plain_placed l.placed) l.before (g.K.Sink.written l.initial.sink) (g.K.Sink.written l.sink))
    × IsPrepared (kind_asked l.inquiry.question) l.session l.inquiry.name.now × IsSameProgram l.initial.session l.session × (g.K.Sink.faults l.sink ≡ g.K.Sink.faults l.initial.sink)

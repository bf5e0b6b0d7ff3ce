use Rattle.std.proofs.Common.{◌≡◌, ◌+◌, map, length, refl, subst, sym, ◌∙◌, arith}
use Rattle.std.proofs.lemmas.List.{length-map}
use Rattle.fast_build.specs.Items.{items_of}
use Rattle.model_meaning.specs.Meaning.{input_type}
use Rattle.model_run.specs.Report.{named_x}
use Rattle.tree_files.specs.Placed.{plain_placed, IsOfType}
use Rattle.fast_session.specs.Sessions.{items_in}
use Rattle.fast_tool.specs.Answers.{Answered, IsAnswered, IsUnanswered}
use Rattle.fast_tool.specs.Commands.{kind_asked}
use Rattle.fast_tool.proofs.Answering.{begin, answered_more, answer_stopped, all_answered, placed_at, placed_low, of_type_at}
use Rattle.fast_tool.proofs.answers.answer_each.Goals as goal

pub trees-init : goal.trees-init
trees-init g c =
    let asked = c.args.inquiry.now in (
      λ file. begin (items_in c.args.session.now) file asked.name.now asked.trees.now (kind_asked asked.question) c.requires.prepared.composable (map plain_placed c.args.placed.now) (g.K.Sink.written c.args.sink.now),
      c.requires.prepared,
      record { program = refl; limit = refl },
      refl,
    )

pub answer-requires : goal.answer-requires
answer-requires g c =
    let name = c.args.inquiry.now.name.now in
    let given = c.index-placed-before.result in
    let own = of_type_at (input_type (items_in c.args.session.now) (named_x name)) c.args.placed.now c.trees.before given c.trees-test.true c.index-placed-before.is c.requires.typed in
    record {
      prepared = c.trees.invariant.1;
      typed = subst (λ k. IsOfType (input_type (items_of k) (named_x name)) (plain_placed given)) (sym c.trees.invariant.2.program) own;
    }

pub trees-preserved : goal.trees-preserved
trees-preserved g c =
    let items = items_in c.args.session.now in
    let asked = c.args.inquiry.now in
    let kind = kind_asked asked.question in
    let placed = map plain_placed c.args.placed.now in
    let k = c.trees.before in
    let given = c.index-placed-before.result in
    let low = placed_low c.args.placed.now k c.trees-test.true in
    let is = placed_at c.args.placed.now k given c.trees-test.true c.index-placed-before.is in
    let start = g.K.Sink.written c.args.sink.now in
    let now = g.K.Sink.written c.trees.sink in
    let after = g.K.Sink.written c.answer.new.sink in
    let done = c.in-Ok.ensures {u = tt} in
    let answered = subst (λ s. IsAnswered (items_of s) kind asked.name.now (k + 1) (plain_placed given) now after) c.trees.invariant.2.program done.answered in (
      λ file. answered_more items file asked.name.now asked.trees.now kind c.requires.prepared.composable placed k start now (c.trees.invariant.0 file) (plain_placed given) after low is answered,
      done.prepared,
      record { program = c.answer.ensures.program.program ∙ c.trees.invariant.2.program; limit = c.answer.ensures.program.limit ∙ c.trees.invariant.2.limit },
      done.faults.same (λ e. cc) ∙ c.trees.invariant.3,
    )

pub returns-in-Err-clause-report : goal.returns-in-Err-clause-report
returns-in-Err-clause-report g c = λ file.
    (let asked = c.args.inquiry.now in
    let kind = kind_asked asked.question in
    let k = c.trees.before in
    let given = c.index-placed-before.result in
    let now = g.K.Sink.written c.trees.sink in
    let after = g.K.Sink.written c.answer.new.sink in
    let stopped = subst (λ s. IsUnanswered (items_of s) kind asked.name.now asked.trees.now (k + 1) (plain_placed given) now after c.in-Err.status) c.trees.invariant.2.program c.in-Err.ensures.stopped in
    answer_stopped (items_in c.args.session.now) file asked.name.now asked.trees.now kind c.requires.prepared.composable (map plain_placed c.args.placed.now) k (g.K.Sink.written c.args.sink.now) now (c.trees.invariant.0 file) (plain_placed given) after c.in-Err.status
    (placed_low c.args.placed.now k c.trees-test.true) (placed_at c.args.placed.now k given c.trees-test.true c.index-placed-before.is) stopped)

pub returns-clause-report : goal.returns-clause-report
returns-clause-report g c = λ file.
    (let items = items_in c.args.session.now in
    let asked = c.args.inquiry.now in
    let kind = kind_asked asked.question in
    let placed = map plain_placed c.args.placed.now in
    let start = g.K.Sink.written c.args.sink.now in
    let now = g.K.Sink.written c.trees.sink in
    let all : c.trees.before ≡ length placed = omega (arith, c.trees-test.false, c.trees.auto.before-end, length-map c.args.placed.now plain_placed) in
    all_answered items file asked.name.now asked.trees.now kind c.requires.prepared.composable placed start now (subst (λ n. Answered items file asked.name.now asked.trees.now kind placed n start now) all (c.trees.invariant.0 file)))

use Rattle.std.proofs.Common.{ap, subst, ◌∙◌}
use Rattle.model_run.specs.Lines.{stop_line}
use Rattle.model_run.specs.Report.{self_name}
use Rattle.fast_build.specs.Items.{items_of}
use Rattle.fast_session.specs.Answers.{plain_cause, CanBeShown}
use Rattle.fast_session.specs.Sessions.{items_in, IsHalt}
use Rattle.fast_tool.specs.Runs.{IsRefusal}
use Rattle.fast_tool.proofs.Runs.{item_ended}
use Rattle.fast_tool.proofs.counted.do_next.Goals as goal

pub returns-in-Err-Refused-clause-halted : goal.returns-in-Err-Refused-clause-halted
returns-in-Err-Refused-clause-halted g c = λ done at.
    (let s = c.args.session.now in
    let cause = c.in-Err-Refused.cause in
    let before = g.K.Sink.written c.args.sink.now in
    let after = g.K.Sink.written c.refuse_item.new.sink in
    let same = ap items_of (c.checked-checked.ensures ∙ c.in-Err-Refused.ensures.program.program) in
    let own = subst (IsHalt s done) c.in-Err-Refused.field-0-is (c.in-Err-Refused.ensures.halt done at) in
    item_ended self_name s done (CanBeShown cause) c.in-Err-Refused.place (plain_cause (items_in s) cause) before after c.refuse_item.result own.0 own.1 own.2 own.3
    (subst (λ items. IsRefusal (CanBeShown cause) before after (stop_line (plain_cause items cause) self_name c.in-Err-Refused.place) c.refuse_item.result) same c.refuse_item.ensures.ends))

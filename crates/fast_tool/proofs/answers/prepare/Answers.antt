use Rattle.std.proofs.Common.{OnOk, ap, subst, ◌∙◌}
use Rattle.model_run.specs.Lines.{stop_line}
use Rattle.fast_build.specs.Items.{items_of}
use Rattle.fast_session.specs.Answers.{plain_cause, CanBeShown}
use Rattle.fast_session.specs.Needed.{IsHaltNeeded}
use Rattle.fast_session.specs.Sessions.{items_in}
use Rattle.fast_tool.specs.Answers.{IsPrepared}
use Rattle.fast_tool.specs.Runs.{IsRefusal}
use Rattle.fast_tool.proofs.Answering.{needed_refused}
use Rattle.fast_tool.proofs.answers.prepare.Goals as goal

pub returns-in-Ok-clause-prepared : goal.returns-in-Ok-clause-prepared
returns-in-Ok-clause-prepared g c = λ kind named. subst (λ r. OnOk r (IsPrepared kind c.prepared.new.session c.args.name.now)) c.in-Ok.is (c.prepared.ensures.prepared kind named)

pub returns-in-Err-Refused-clause-stopped : goal.returns-in-Err-Refused-clause-stopped
returns-in-Err-Refused-clause-stopped g c =
    let s = c.args.session.now in
    let cause = c.in-Err-Refused.cause in
    let before = g.K.Sink.written c.args.sink.now in
    let after = g.K.Sink.written c.refuse_item.new.sink in
    let told = subst (IsHaltNeeded (items_in s) s.limit c.args.name.now) c.in-Err-Refused.field-0-is c.in-Err-Refused.ensures.halt in
    let same = ap items_of (c.checked-checked.ensures ∙ c.in-Err-Refused.ensures.program.program) in
    needed_refused (items_in s) s.limit c.args.file.now c.args.name.now (CanBeShown cause) c.in-Err-Refused.place (plain_cause (items_in s) cause) before after c.refuse_item.result told.0 told.1 told.2 told.3
    (subst (λ items. IsRefusal (CanBeShown cause) before after (stop_line (plain_cause items cause) c.args.file.now c.in-Err-Refused.place) c.refuse_item.result) same c.refuse_item.ensures.ends)

pub unreachable-requires : goal.unreachable-requires
unreachable-requires g c =
    let s = c.args.session.now in
    subst (IsHaltNeeded (items_in s) s.limit c.args.name.now) c.in-Err-Ended.field-0-is c.in-Err-Ended.ensures.halt

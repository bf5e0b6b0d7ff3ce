use Rattle.std.proofs.Common.{◌≡◌, ◌∙◌, length, vec_len, ap, sym, subst, refl, true, false, arith}
use Rattle.std.proofs.lemmas.List.{length-map}
use Rattle.fast_syntax.specs.declared.items.Program.{Program}
use Rattle.fast_syntax.specs.Plain.{plain_item}
use Rattle.program_check.specs.declared.programs.Checked.{Checked}
use Rattle.fast_session.specs.Sessions.{items_in}
use Rattle.model_run.specs.Report.{SelfReport, StatusReport, Reports}
use Rattle.fast_tool.proofs.Tallies.{begin_count, few_verdicts, counted_more, halted_report, all_told}
use Rattle.fast_tool.proofs.counted.count_items.Goals as goal

pub items-init : goal.items-init
items-init g c = (begin_count (items_in c.args.session.now) c.args.session.now _ refl c.requires.limit c.requires.at refl refl, refl)

pub count-requires-clause-passed : goal.count-requires-clause-passed
count-requires-clause-passed g c =
    let past = c.items.invariant.0 in
    omega (arith, past.tally.passed, past.counted, few_verdicts true past.outcomes)

pub count-requires-clause-failed : goal.count-requires-clause-failed
count-requires-clause-failed g c =
    let past = c.items.invariant.0 in
    omega (arith, past.tally.failed, past.counted, few_verdicts false past.outcomes)

pub items-preserved : goal.items-preserved
items-preserved g c =
    let past = c.items.invariant.0 in
    let done = c.in-Ok.ensures.done past.outcomes past.at in (
      counted_more (items_in c.args.session.now) c.items.counter c.items.session c.items.tally past c.do_next.new.session c.in-Ok.verdict c.count.new.self c.do_next.ensures.program done (c.count.ensures past.outcomes done.outcome past.tally done.verdict_is),
      c.in-Ok.ensures.untouched ∙ c.items.invariant.1,
    )

pub returns-in-Err-clause-report : goal.returns-in-Err-clause-report
returns-in-Err-clause-report g c =
    let past = c.items.invariant.0 in
    subst (λ k. Reports (StatusReport (SelfReport c.args.number (items_in c.args.session.now))) c.in-Err.status (g.K.Sink.written k) (g.K.Sink.written c.do_next.new.sink)) c.items.invariant.1
    (halted_report (items_in c.args.session.now) c.items.counter c.items.session c.items.tally past c.args.number _ _ c.in-Err.status (c.in-Err.ensures.halted past.outcomes past.at))

pub returns-clause-report : goal.returns-clause-report
returns-clause-report g c =
    let items = items_in c.args.session.now in
    let count : c.len-count.result ≡ length items =
    c.len-count.ensures
    ∙ (ap (λ (p : Program). vec_len p.items) (c.program.ensures ∙ ap (λ (k : Checked). k.program) c.checked.ensures) ∙ (c.args.session.now.checked.program.items.ok.0 ∙ sym (length-map c.args.session.now.checked.program.items.items plain_item))) in
    let at_end : c.items.counter ≡ length items = omega (arith, count, c.items.auto.counter-end, c.items-test.false) in
    subst (λ k. Reports (StatusReport (SelfReport c.args.number items)) c.tell_tally.result (g.K.Sink.written k) (g.K.Sink.written c.tell_tally.new.sink)) c.items.invariant.1
    (all_told c.args.number c.len-count.result c.items.counter items c.items.session c.items.tally _ _ c.tell_tally.result c.items.invariant.0 at_end count c.tell_tally.ensures.told)

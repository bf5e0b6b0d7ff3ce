use Rattle.std.proofs.Common.{inl, inr, subst}
use Rattle.model_checks.proofs.SoundWhole.{sound}
use Rattle.fast_syntax.specs.Plain.{plain_x}
use Rattle.fast_build.specs.Items.{items_of}
use Rattle.fast_eval.proofs.Keeping.{on_err}
use Rattle.fast_compose.specs.Composed.{by_classes, StopsPair}
use Rattle.fast_compose.specs.Copying.{IsFirst}
use Rattle.fast_compose.specs.Meetings.{IsMet}
use Rattle.fast_compose.proofs.First.{OfSources, linear_by_none}
use Rattle.fast_compose.proofs.Named.{sources_declared}
use Rattle.fast_compose.proofs.Pairs.{Own, plain_by_nowhere, pair_stops, uncomposable, large_pair}
use Rattle.fast_compose.proofs.checks.pair.Goals as goal

pub all_sources-requires : goal.all_sources-requires
all_sources-requires c = record { declared = sources_declared (items_of c.args.checked.now) (plain_x c.args.second.now) c.requires.second_declared }

pub returns-in_default-clause-composable : goal.returns-in_default-clause-composable
returns-in_default-clause-composable c =
    let items = items_of c.args.checked.now in
    let whole = sound items c.args.checked.now.well_formed in
    let y = plain_x c.args.second.now in
    inr (linear_by_none items whole y c.in_ok-seconds.seconds.keys c.in_ok-seconds.ensures (subst (IsFirst items (OfSources items whole y c.in_ok-seconds.seconds.keys c.in_ok-seconds.ensures)) c.in_default.is c.in_ok-copying.ensures))

pub all_sources-requires-2 : goal.all_sources-requires-2
all_sources-requires-2 c = record { declared = sources_declared (items_of c.args.checked.now) (plain_x c.args.first.now) c.requires.first_declared }

pub returns-in_err-met-clause-stop : goal.returns-in_err-met-clause-stop
returns-in_err-met-clause-stop c =
    let items = items_of c.args.checked.now in
    let x = plain_x c.args.first.now in
    let y = plain_x c.args.second.now in
    let e = c.in_err-met.field-0.0 in
    let (n, at, stop) = c.in_err-met.ensures.stop in
    on_err (StopsPair items c.args.limit x y) c.from_residual-in_err-met.result (by_classes e) c.from_residual-in_err-met.ensures.1
    (pair_stops items (sound items c.args.checked.now.well_formed) x c.in_ok-firsts.firsts.keys c.in_ok-firsts.ensures y c.args.limit n at e stop)

pub returns-in-Nowhere-clause-composable : goal.returns-in-Nowhere-clause-composable
returns-in-Nowhere-clause-composable c =
    let items = items_of c.args.checked.now in
    let whole = sound items c.args.checked.now.well_formed in
    let x = plain_x c.args.first.now in
    inl (plain_by_nowhere items whole x c.in_ok-firsts.firsts.keys c.in_ok-firsts.ensures (subst (IsMet items (Own items whole x c.in_ok-firsts.firsts.keys c.in_ok-firsts.ensures)) c.in-Nowhere.is c.in_ok-met.ensures.met))

pub returns-in-At-clause-stop : goal.returns-in-At-clause-stop
returns-in-At-clause-stop c =
    let items = items_of c.args.checked.now in
    let whole = sound items c.args.checked.now.well_formed in
    let x = plain_x c.args.first.now in
    let y = plain_x c.args.second.now in
    let first = subst (IsFirst items (OfSources items whole y c.in_ok-seconds.seconds.keys c.in_ok-seconds.ensures)) c.in-Some.is c.in_ok-copying.ensures in
    uncomposable items whole x c.in_ok-firsts.firsts.keys c.in_ok-firsts.ensures y c.in_ok-seconds.seconds.keys c.in_ok-seconds.ensures c.in-Some.placed first c.in-At.meeting
    (subst (IsMet items (Own items whole x c.in_ok-firsts.firsts.keys c.in_ok-firsts.ensures)) c.in-At.is c.in_ok-met.ensures.met)

pub returns-clause-stop : goal.returns-clause-stop
returns-clause-stop c =
    let items = items_of c.args.checked.now in
    let whole = sound items c.args.checked.now.well_formed in
    let x = plain_x c.args.first.now in
    let y = plain_x c.args.second.now in
    let first = subst (IsFirst items (OfSources items whole y c.in_ok-seconds.seconds.keys c.in_ok-seconds.ensures)) c.in-Some.is c.in_ok-copying.ensures in
    large_pair items whole x c.in_ok-firsts.firsts.keys c.in_ok-firsts.ensures y c.in_ok-seconds.seconds.keys c.in_ok-seconds.ensures c.in-Some.placed first
    (subst (IsMet items (Own items whole x c.in_ok-firsts.firsts.keys c.in_ok-firsts.ensures)) c.in-TooLarge.is c.in_ok-met.ensures.met)

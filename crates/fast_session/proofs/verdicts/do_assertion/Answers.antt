use Rattle.fast_syntax.specs.Plain.{plain_item, plain_assert}
use Rattle.fast_session.proofs.Judging.{done_verdict}
use Rattle.fast_session.proofs.Members.{spoken_made}
use Rattle.fast_session.proofs.verdicts.do_assertion.Goals as goal

pub line_of-requires : goal.line_of-requires
line_of-requires c = record { made = spoken_made _ _ _ c.requires.ready c.requires.composable _ c.requires.is }

pub returns-clause-done : goal.returns-clause-done
returns-clause-done c =
    done_verdict c.args.around.now (plain_item c.args.item.now) _ _ (plain_assert c.args.own.now) c.requires.is _ c.in_ok-verdict.verdict c.in_ok-line_of.ensures c.requires.composable c.decided.ensures.more c.in_ok-verdict.ensures.verdict

use Rattle.fast_session.specs.Sessions.{items_in}
use Rattle.tree_files.specs.Placed.{plain_placed}
use Rattle.fast_eval.proofs.Applying.{if_err}
use Rattle.fast_eval.proofs.Places.{on_ok}
use Rattle.fast_tool.proofs.Answering.{answered_by, unanswered_by}
use Rattle.fast_tool.proofs.answers.tell_inside.Goals as goal

pub is_inside-requires : goal.is_inside-requires
is_inside-requires g c = record { prepared = c.requires.prepared; typed = c.requires.typed.typed; kept = c.requires.typed.kept }

pub returns-in-Ok-clause-answered : goal.returns-in-Ok-clause-answered
returns-in-Ok-clause-answered g c =
    on_ok c.put_answer.result (answered_by (items_in c.args.session.now) c.args.name.now c.args.number (plain_placed c.args.given.now) c.in-Ok.inside _ _ c.in-Ok.ensures.inside) c.put_answer.ensures.ok

pub returns-in-Ok-clause-stopped : goal.returns-in-Ok-clause-stopped
returns-in-Ok-clause-stopped g c = λ file.
    if_err c.put_answer.result (λ status cut. unanswered_by (items_in c.args.session.now) c.args.name.now file c.args.number (plain_placed c.args.given.now) c.in-Ok.inside status _ _ c.in-Ok.ensures.inside cut) c.put_answer.ensures.err

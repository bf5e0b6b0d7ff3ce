use Rattle.std.proofs.Common.{IfErr, ap, sym, subst}
use Rattle.fast_syntax.specs.Plain.{plain_claim}
use Rattle.model_run.specs.Items.{judged_claim}
use Rattle.fast_build.specs.Items.{items_of}
use Rattle.fast_eval.specs.Stops.{IsStopOf}
use Rattle.fast_eval.proofs.assertions.judge.Goals as goal

pub returns-in-Equal-clause-stop : goal.returns-in-Equal-clause-stop
returns-in-Equal-clause-stop c =
    let items = items_of c.args.checked.now in
    subst (λ k. IfErr c.find_between.result (IsStopOf items (judged_claim items k) c.args.limit)) (sym (ap plain_claim c.in-Equal.is)) c.find_between.ensures.stop

pub returns-in-TypeCheck-clause-stop : goal.returns-in-TypeCheck-clause-stop
returns-in-TypeCheck-clause-stop c =
    let items = items_of c.args.checked.now in
    subst (λ k. IfErr c.find_broken.result (IsStopOf items (judged_claim items k) c.args.limit)) (sym (ap plain_claim c.in-TypeCheck.is)) c.find_broken.ensures.stop

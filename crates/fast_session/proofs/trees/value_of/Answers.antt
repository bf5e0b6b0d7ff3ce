use Rattle.model_run.specs.Outcomes.{trees_in}
use Rattle.fast_session.proofs.Printing.{if_err_both, value_made, value_known, value_stops}
use Rattle.fast_session.proofs.trees.value_of.Goals as goal

pub value-requires-clause-given : goal.value-requires-clause-given
value-requires-clause-given c =
    let r = c.requires.ready in
    record { typed = r.kept.typed; printed = trees_in r.outcomes; told = r.told; shallow = r.shallow }

pub value-requires-clause-made : goal.value-requires-clause-made
value-requires-clause-made c = value_made _ _ _ c.requires.ready c.requires.composable _ c.requires.is

pub value-requires-clause-known : goal.value-requires-clause-known
value-requires-clause-known c = value_known _ _ _ c.requires.ready c.requires.composable _ c.requires.is

pub returns-clause-stop : goal.returns-clause-stop
returns-clause-stop c =
    if_err_both c.value.result _ _ _ (λ s stop shown. value_stops _ _ _ c.requires.ready c.requires.composable _ c.requires.is s (λ done told. stop _ told) shown) c.value.ensures.stop c.value.ensures.shown

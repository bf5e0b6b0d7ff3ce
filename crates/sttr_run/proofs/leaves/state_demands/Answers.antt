use Rattle.std.proofs.Common.{◌+◌, ◌++◌, ◌∷◌, [], get_or, take, refl, subst, sym, arith}
use Rattle.std.proofs.lemmas.List.{take_all, take_more}
use Rattle.sttr_run.proofs.Asking.{AsksStates, states_none, states_more}
use Rattle.sttr_run.specs.declared.drafts.Ask.TheVariants.{State}
use Rattle.sttr_run.proofs.leaves.state_demands.Goals as goal

pub states-init : goal.states-init
states-init c = subst (λ ds. AsksStates ds c.args.child []) (sym c.new-demands.ensures.items) (states_none c.args.child)

pub states-preserved : goal.states-preserved
states-preserved c =
    subst (λ ds. AsksStates ds c.args.child (take (c.states.state-index + 1) c.args.all.now)) (sym c.in_ok-push.ensures.items)
    (subst (AsksStates (c.states.demands.items ++ record { child = c.args.child; ask = State (get_or c.args.all.now c.states.state-index 0) } ∷ []) c.args.child) (sym (take_more c.args.all.now c.states.state-index 0 c.states-test.true))
    (states_more c.states.demands.items c.args.child (get_or c.args.all.now c.states.state-index 0) (take c.states.state-index c.args.all.now) (record { child = c.args.child; ask = State (get_or c.args.all.now c.states.state-index 0) }) c.states.invariant refl refl))

pub returns : goal.returns
returns c = subst (AsksStates c.states.demands.items c.args.child) (take_all c.states.state-index c.args.all.now (omega (arith, c.states-test.false))) c.states.invariant

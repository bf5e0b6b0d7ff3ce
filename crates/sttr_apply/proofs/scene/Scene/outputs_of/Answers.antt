use Rattle.std.proofs.Common.{refl, sym, ap, subst, arith}
use Rattle.model_tree.specs.Tree.{relabel}
use Rattle.sttr_core.specs.Machine.{transducer_of}
use Rattle.sttr_apply.specs.Calls.{used, asks_in}
use Rattle.sttr_apply.specs.Outputs.{AreOutputs, IsRefused}
use Rattle.sttr_apply.proofs.Asked.{err_exit}
use Rattle.sttr_apply.proofs.Answered.{outputs_are, far_refused, stop_refused, entry_found, one_ask, one_some}
use Rattle.sttr_apply.proofs.scene.Scene.outputs_of.Goals as goal

pub solve-requires-clause-some : goal.solve-requires-clause-some
solve-requires-clause-some g c = one_some c.deref.result.now (record { state = c.args.state; uses = 1 }) (one_ask c.deref.result.now _ _ (record { state = c.args.state; uses = 1 }) c.deref.ensures.value c.in_ok-push.ensures.items c.in_ok-asks.ensures.items) (omega arith)

pub returns-in_err-entries-clause-stop : goal.returns-in_err-entries-clause-stop
returns-in_err-entries-clause-stop g c =
    err_exit (IsRefused (transducer_of g.T.Theory.atom_holds g.T.Labels.make c.args.self.now.sttr.now) c.args.state (relabel g.T.Theory.label_of c.args.tree.now)) c.in_err-entries.field-0.0 c.from_residual-in_err-entries.result c.from_residual-in_err-entries.ensures.1
    (stop_refused (transducer_of g.T.Theory.atom_holds g.T.Labels.make c.args.self.now.sttr.now) c.args.state (relabel g.T.Theory.label_of c.args.tree.now) (used (asks_in c.deref.result.now)) (λ r. ap (λ xs. used (asks_in xs) r) (one_ask c.deref.result.now _ _ (record { state = c.args.state; uses = 1 }) c.deref.ensures.value c.in_ok-push.ensures.items c.in_ok-asks.ensures.items)) c.in_err-entries.field-0.0 c.in_err-entries.ensures.stop)

pub returns-in_err-cuts-in-Some-clause-stop : goal.returns-in_err-cuts-in-Some-clause-stop
returns-in_err-cuts-in-Some-clause-stop g c =
    err_exit (IsRefused (transducer_of g.T.Theory.atom_holds g.T.Labels.make c.args.self.now.sttr.now) c.args.state (relabel g.T.Theory.label_of c.args.tree.now)) c.in_err-cuts-in-Some.field-0.0 c.from_residual-in_err-cuts-in-Some.result c.from_residual-in_err-cuts-in-Some.ensures.1
    (far_refused g.T.Theory.label_of g.T.Value.Ord.cmp g.met.T.Value.Ord.total g.met.T.Theory.equal_values (transducer_of g.T.Theory.atom_holds g.T.Labels.make c.args.self.now.sttr.now) c.args.state c.args.tree.now c.in-Some.entry.listing c.in_err-cuts-in-Some.field-0.0 (entry_found g.T.Theory.label_of g.T.Value.Ord.cmp (transducer_of g.T.Theory.atom_holds g.T.Labels.make c.args.self.now.sttr.now) c.args.tree.now c.args.state c.in_ok-entries.entries.items _ c.in-Some.entry c.deref.result.now (record { state = c.args.state; uses = 1 }) c.in-Some.ensures.items (one_ask c.deref.result.now _ _ (record { state = c.args.state; uses = 1 }) c.deref.ensures.value c.in_ok-push.ensures.items c.in_ok-asks.ensures.items) refl c.in_ok-entries.ensures.uses c.in_ok-entries.ensures.entries) c.in_err-cuts-in-Some.ensures.stop)

pub returns-in-Some-clause-outputs : goal.returns-in-Some-clause-outputs
returns-in-Some-clause-outputs g c =
    subst (AreOutputs g.T.Theory.label_of g.T.Value.Ord.cmp (transducer_of g.T.Theory.atom_holds g.T.Labels.make c.args.self.now.sttr.now) c.args.state c.args.tree.now) (sym c.in_ok-cuts-in-Some.ensures.cuts)
    (outputs_are g.T.Theory.label_of g.T.Value.Ord.cmp g.met.T.Value.Ord.total g.met.T.Theory.equal_values (transducer_of g.T.Theory.atom_holds g.T.Labels.make c.args.self.now.sttr.now) c.args.state c.args.tree.now c.in-Some.entry.listing c.in_ok-cuts-in-Some.ensures.none (entry_found g.T.Theory.label_of g.T.Value.Ord.cmp (transducer_of g.T.Theory.atom_holds g.T.Labels.make c.args.self.now.sttr.now) c.args.tree.now c.args.state c.in_ok-entries.entries.items _ c.in-Some.entry c.deref.result.now (record { state = c.args.state; uses = 1 }) c.in-Some.ensures.items (one_ask c.deref.result.now _ _ (record { state = c.args.state; uses = 1 }) c.deref.ensures.value c.in_ok-push.ensures.items c.in_ok-asks.ensures.items) refl c.in_ok-entries.ensures.uses c.in_ok-entries.ensures.entries))

use Rattle.std.specs.Prelude.{ℕ, List}
use Rattle.fast_fault.specs.declared.place.Pos.{Pos}
use Rattle.model_grammar.specs.Syntax.{X, two}
use Rattle.model_grammar.specs.declared.Op2.TheVariants.{Compose}
use Rattle.record_label.specs.MapLaws.{both_true}
use Rattle.fast_eval.specs.Scopes.{items_in, type_in, RunsAfter}
use Rattle.fast_eval.specs.Stops.{StopsExpression, by_run}
use Rattle.fast_eval.proofs.Imaged.{trans_low, trans_labels, makes_for, speaks_of_first, can_compose, composition_built, composition_stops}
use Rattle.fast_eval.proofs.Keeping.{on_err}
use Rattle.fast_eval.proofs.images.composed.Goals as goal

pub compose-requires : goal.compose-requires
compose-requires c =
    let s = c.args.scope.now in
    let a = c.args.a.now in
    let b = c.args.b.now in
    let (f, g, into, last, runs) = c.requires.operands in
    record {
      first_stands = runs.first.stands;
      first_start = trans_low (items_in s) f (type_in s) into a runs.first;
      second_stands = runs.second.stands;
      second_start = trans_low (items_in s) g into last b runs.second;
      labels = trans_labels (items_in s) (type_in s) s.theory.now c.requires.scope.labels f into a runs.first;
      makes = makes_for (items_in s) (type_in s) s.theory.now c.requires.scope.labels f g into last a b runs;
      unchanged = speaks_of_first (items_in s) (type_in s) s.theory.now c.requires.scope.labels f g into last a b runs;
      can = can_compose (items_in s) (type_in s) s.theory.now c.requires.scope.labels f g into last a b runs;
    }

pub returns-clause-built : goal.returns-clause-built
returns-clause-built c = λ place f g into last runs.
    (let s = c.args.scope.now in
    composition_built (items_in s) (type_in s) s.theory.now c.requires.scope.labels f g into last c.args.a.now c.args.b.now runs _ (λ m n e. (both_true _ _ e).0) place c.in_ok-compose.field-0 c.in_ok-compose.ensures.relation c.in_ok-compose.ensures.made)

pub returns-in_err-compose-clause-stop : goal.returns-in_err-compose-clause-stop
returns-in_err-compose-clause-stop c =
    let s = c.args.scope.now in
    let a = c.args.a.now in
    let b = c.args.b.now in
    let e = c.in_err-compose.field-0.0 in
    on_err (λ st. (place : Pos) (f g : X) (into last : List ℕ) → RunsAfter (items_in s) f g (type_in s) into last a b → StopsExpression (items_in s) (two Compose place f g) s.limit st) c.from_residual.result (by_run e) c.from_residual.ensures.1
    (λ place f g into last runs. composition_stops (items_in s) (type_in s) s.theory.now c.requires.scope.labels f g into last a b runs place s.limit e c.in_err-compose.ensures.stop)

use Rattle.model_grammar.specs.declared.Op1.TheVariants.{Domain}
use Rattle.model_grammar.specs.Places.{nowhere}
use Rattle.model_grammar.specs.Syntax.{one}
use Rattle.model_grammar.specs.Syntax as plain
use Rattle.model_run.specs.Items.{judged_claim}
use Rattle.fast_syntax.specs.Plain.{plain_x}
use Rattle.fast_eval.specs.Scopes.{items_in, type_in}
use Rattle.fast_eval.specs.Stops.{IsStopOf, by_classes}
use Rattle.fast_eval.proofs.Claims.{made_from, giving_stops, giving_operand_stops}
use Rattle.fast_eval.proofs.Judged.{found_empty, found_giving}
use Rattle.fast_eval.proofs.Keeping.{on_err}
use Rattle.fast_eval.proofs.Ready.{trans_operand_built, atoms_fit}
use Rattle.fast_eval.proofs.Stopped.{stops_one}
use Rattle.fast_eval.proofs.statements.judge_giving.Goals as goal

pub trans_of-requires : goal.trans_of-requires
trans_of-requires c = let (into, made) = c.requires.made in (c.in_ok-a.ensures.built into made).low

pub inputs-requires : goal.inputs-requires
inputs-requires c =
    let s = c.args.scope.now in
    let f = plain_x c.args.f.now in
    let (into, made) = c.requires.made in
    record {
      scope = c.requires.scope;
      operand = (f, into, trans_operand_built (items_in s) f (type_in s) into s.built.now c.in_ok-a.a c.trans_of.result.now (c.in_ok-a.ensures.built into made) c.trans_of.ensures);
    }

pub empty-requires : goal.empty-requires
empty-requires c =
    let s = c.args.scope.now in
    let f = plain_x c.args.f.now in
    let (into, made) = c.requires.made in
    let a = trans_operand_built (items_in s) f (type_in s) into s.built.now c.in_ok-a.a c.trans_of.result.now (c.in_ok-a.ensures.built into made) c.trans_of.ensures in
    record { fit = atoms_fit (items_in s) (type_in s) (one Domain nowhere f) c.in_ok-own.own (c.in_ok-own.ensures nowhere f into a) s.theory.now c.requires.scope.labels }

pub returns-in_err-a-clause-stop : goal.returns-in_err-a-clause-stop
returns-in_err-a-clause-stop c =
    let s = c.args.scope.now in
    let f = plain_x c.args.f.now in
    let (into, made) = c.requires.made in
    on_err (IsStopOf (items_in s) (judged_claim (items_in s) (plain.empty f)) s.limit) c.from_residual.result c.in_err-a.field-0.0 c.from_residual.ensures.1
    (giving_operand_stops (items_in s) s.limit f (made_from (items_in s) (type_in s) into f made).0 c.in_err-a.field-0.0 c.in_err-a.ensures.stop)

pub returns-clause-found : goal.returns-clause-found
returns-clause-found c =
    let s = c.args.scope.now in
    let f = plain_x c.args.f.now in
    let (into, made) = c.requires.made in
    let a = trans_operand_built (items_in s) f (type_in s) into s.built.now c.in_ok-a.a c.trans_of.result.now (c.in_ok-a.ensures.built into made) c.trans_of.ensures in
    let own = c.in_ok-own.ensures nowhere f into a in
    found_giving (items_in s) f (made_from (items_in s) (type_in s) into f made).0 c.in_ok-empty.field-0
    (found_empty (items_in s) (type_in s) s.theory.now c.requires.scope.labels s.limit (one Domain nowhere f) c.in_ok-own.own own c.requires.scope.shallow c.in_ok-empty.field-0 c.in_ok-empty.ensures.found)

pub returns-in_err-empty-clause-stop : goal.returns-in_err-empty-clause-stop
returns-in_err-empty-clause-stop c =
    let s = c.args.scope.now in
    let f = plain_x c.args.f.now in
    let (into, made) = c.requires.made in
    let a = trans_operand_built (items_in s) f (type_in s) into s.built.now c.in_ok-a.a c.trans_of.result.now (c.in_ok-a.ensures.built into made) c.trans_of.ensures in
    let own = c.in_ok-own.ensures nowhere f into a in
    let e = c.in_err-empty.field-0.0 in
    on_err (IsStopOf (items_in s) (judged_claim (items_in s) (plain.empty f)) s.limit) c.from_residual-in_err-empty.result (by_classes e) c.from_residual-in_err-empty.ensures.1
    (giving_stops (items_in s) s.limit f (made_from (items_in s) (type_in s) into f made).0 (by_classes e) (stops_one (items_in s) (type_in s) s.theory.now c.requires.scope.labels (one Domain nowhere f) c.in_ok-own.own own s.limit e c.in_err-empty.ensures.stop))

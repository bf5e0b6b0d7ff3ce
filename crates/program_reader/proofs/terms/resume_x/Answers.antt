use Rattle.std.proofs.Common.{map, sym, ap, ◌∙◌, ◌∷◌, []}
use Rattle.std.proofs.lemmas.List.{map-append}
use Rattle.read_forms.specs.Reads.{Fails, closed}
use Rattle.read_forms.specs.Fronts.{Leaves, Done}
use Rattle.model_grammar.specs.Syntax.{one}
use Rattle.fast_syntax.specs.Plain.{plain_x}
use Rattle.label_reader.specs.declared.stop.Stop.TheVariants.{Memory}
use Rattle.label_reader.specs.Results.{left, bad_of}
use Rattle.label_reader.proofs.Keeping.{told_read, told_fails}
use Rattle.program_reader.specs.Growing.{IsGrown}
use Rattle.program_reader.proofs.Growing.{two_goes_on, begins_exit, grown_as, row_as, closes, closes_fails, done_as, one_closes, two_closes}
use Rattle.program_reader.proofs.terms.resume_x.Goals as goal
use Rattle.program_reader.proofs.terms.resume_x.Goals.{in-One+in_ok-x-in-One, in-Second+in_ok-whole-in-Second}

pub returns-in-First : goal.returns-in-First
returns-in-First c = grown_as _ c.in-First.is (two_goes_on _ _ _ _)

pub returns-in_err-x-in-One : goal.returns-in_err-x-in-One
returns-in_err-x-in-One c = begins_exit _ _ Memory c.from_residual.result c.from_residual.ensures.1 (record { why = tt })

pub returns-in_err-push-in-Inner : goal.returns-in_err-push-in-Inner
returns-in_err-push-in-Inner c = begins_exit _ _ Memory c.from_residual-in_err-push-in-Inner.result c.from_residual-in_err-push-in-Inner.ensures.1 (record { why = tt })

pub returns-in-Inner : goal.returns-in-Inner
returns-in-Inner c = grown_as _ c.in-Inner.is (row_as (ap (λ l. map plain_x l) c.in_ok-push-in-Inner.ensures.items ∙ map-append plain_x c.in-Inner.children.items (c.args.x ∷ [])) c.begin_child.ensures)

pub returns-in_err-whole-in-Second : goal.returns-in_err-whole-in-Second
returns-in_err-whole-in-Second c = begins_exit _ _ Memory c.from_residual-in_err-whole-in-Second.result c.from_residual-in_err-whole-in-Second.ensures.1 (record { why = tt })

pub returns-in_err-whole : goal.returns-in_err-whole
returns-in_err-whole c = let fails : Fails (IsGrown c.args.node (plain_x c.args.x)) closed (left c.args.reader.now) (bad_of c.in_err-whole.field-0.0 (left c.sign.new.self)) = elim c.match-node.branch [
  | in-One+in_ok-x-in-One w ↦ one_closes (λ f. Fails f closed (left c.args.reader.now) (bad_of c.in_err-whole.field-0.0 (left c.sign.new.self))) w.in-One.is (sym (ap plain_x w.whole-is ∙ ap (λ x. one w.in-One.op w.in-One.place (plain_x x)) w.in_ok-x-in-One.ensures.ok)) (closes_fails _ (told_fails _ _ _ c.in_err-whole.ensures c.sign.ensures))
  | in-Second+in_ok-whole-in-Second w ↦ two_closes (λ f. Fails f closed (left c.args.reader.now) (bad_of c.in_err-whole.field-0.0 (left c.sign.new.self))) w.in-Second.is (sym (ap plain_x w.whole-is ∙ w.in_ok-whole-in-Second.ensures)) (closes_fails _ (told_fails _ _ _ c.in_err-whole.ensures c.sign.ensures))
] in
    begins_exit _ _ _ c.from_residual-in_err-whole.result c.from_residual-in_err-whole.ensures.1 fails

pub returns : goal.returns
returns c = let e = c.in_ok-whole.ensures in elim c.match-node.branch [
  | in-One+in_ok-x-in-One w ↦ one_closes (λ f. Leaves f (Done (plain_x c.in_ok-whole.whole)) closed (left c.args.reader.now) (left c.sign.new.self)) w.in-One.is (sym (ap plain_x w.whole-is ∙ ap (λ x. one w.in-One.op w.in-One.place (plain_x x)) w.in_ok-x-in-One.ensures.ok)) (done_as (ap plain_x (sym e.0)) (closes (told_read _ _ _ e.1 c.sign.ensures)))
  | in-Second+in_ok-whole-in-Second w ↦ two_closes (λ f. Leaves f (Done (plain_x c.in_ok-whole.whole)) closed (left c.args.reader.now) (left c.sign.new.self)) w.in-Second.is (sym (ap plain_x w.whole-is ∙ w.in_ok-whole-in-Second.ensures)) (done_as (ap plain_x (sym e.0)) (closes (told_read _ _ _ e.1 c.sign.ensures)))
]

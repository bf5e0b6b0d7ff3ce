use Rattle.std.proofs.Common.{◌≡◌, ◌∙◌, inr, refl, arith, ap, ap₂, sym, subst}
use Rattle.std.proofs.lemmas.Result.{IfOk-weaker}
use Rattle.fast_fault.specs.declared.place.Pos.{Pos}
use Rattle.model_grammar.specs.Syntax.{X, one, two}
use Rattle.model_grammar.specs.declared.Op1.TheVariants.{Domain}
use Rattle.model_grammar.specs.declared.Op2.TheVariants.{PreImage, Compose, Restrict, RestrictOut}
use Rattle.model_names.specs.Kinds.{transformation}
use Rattle.fast_syntax.specs.Plain.{plain_x}
use Rattle.fast_syntax.specs.declared.items.X as written
use Rattle.fast_eval.specs.Built.{IsBuiltOf}
use Rattle.fast_eval.specs.Forms.{IsMadeOn}
use Rattle.fast_eval.specs.Scopes.{items_in, type_in, IsOperandOf, IsTransOperandFrom, LooksAt, RunsAfter}
use Rattle.fast_eval.specs.Stops.{StopsExpression}
use Rattle.fast_eval.specs.declared.evaluation.Operand.TheVariants.{Made}
use Rattle.fast_eval.proofs.Claims.{made_evaluated, any_stops, domain_stops, first_stops, second_stops}
use Rattle.fast_eval.proofs.Keeping.{on_err}
use Rattle.fast_eval.proofs.Ready.{operand_built, made_operand, trans_operand_built, made_trans_operand}
use Rattle.fast_eval.proofs.Scoped.{made_from_there, named_there, operand_back, trans_back, stop_back}
use Rattle.fast_eval.proofs.evaluation.+expressions.Goals as goal

pub language-returns-in_err-of-in-One-clause-stop : goal.language-returns-in_err-of-in-One-clause-stop
language-returns-in_err-of-in-One-clause-stop t c =
    let items = items_in c.args.scope.now in
    let type = type_in c.args.scope.now in
    let most = c.args.scope.now.limit in
    let e = c.in_err-of-in-One.field-0.0 in
    let made = subst (IsMadeOn items type) (ap plain_x c.in-One.is) c.requires.made in
    let stop = subst (λ v. StopsExpression items (plain_x v) most e) c.deref-in-One.ensures c.in_err-of-in-One.ensures.stop in
    on_err (StopsExpression items (plain_x c.args.x.now) most) c.from_residual.result e c.from_residual.ensures.1
    (subst (λ z. StopsExpression items z most e) (sym (ap plain_x c.in-One.is)) (any_stops items most type c.in-One.op c.in-One.field-1 (plain_x c.in-One.inside.value) made e stop))

pub language-returns-in_ok-of-in-One-clause-built : goal.language-returns-in_ok-of-in-One-clause-built
language-returns-in_ok-of-in-One-clause-built t c =
    let items = items_in c.args.scope.now in
    let type = type_in c.args.scope.now in
    let b = c.args.scope.now.built.now in
    let x = plain_x c.in-One.inside.value in
    let own = subst (λ v. IsOperandOf items (plain_x v) type b c.in_ok-of-in-One.of) c.deref-in-One.ensures c.in_ok-of-in-One.ensures.built in
    let lang = operand_built items x type b c.in_ok-of-in-One.of c.lang_of-lang.result.now own c.lang_of-lang.ensures in
    IfOk-weaker c.changed.result (λ o. (place : Pos) (y : X) → IsBuiltOf items y type c.lang_of-lang.result.now → IsOperandOf items (one c.in-One.op place y) type b o) (IsOperandOf items (plain_x c.args.x.now) type b)
    (λ o h. subst (λ z. IsOperandOf items z type b o) (sym (ap plain_x c.in-One.is)) (h c.in-One.field-1 x lang)) c.changed.ensures.built

pub language-returns-in_err-a-in-Two-clause-stop : goal.language-returns-in_err-a-in-Two-clause-stop
language-returns-in_err-a-in-Two-clause-stop t c =
    let items = items_in c.args.scope.now in
    let type = type_in c.args.scope.now in
    let most = c.args.scope.now.limit in
    let e = c.in_err-a-in-Two.field-0.0 in
    let x = plain_x c.in-Two.first.value in
    let y = plain_x c.in-Two.second.value in
    let made = subst (IsMadeOn items type) (ap plain_x c.in-Two.is) c.requires.made in
    let stop = subst (λ v. StopsExpression items (plain_x v) most e) c.deref-in-Two.ensures c.in_err-a-in-Two.ensures.stop in
    on_err (StopsExpression items (plain_x c.args.x.now) most) c.from_residual-in_err-a-in-Two.result e c.from_residual-in_err-a-in-Two.ensures.1
    (subst (λ z. StopsExpression items z most e) (sym (ap plain_x c.in-Two.is))
    (first_stops items most c.in-Two.op c.in-Two.field-1 x y (made_evaluated items type c.in-Two.op c.in-Two.field-1 x y made) e stop))

pub language-returns-in_err-b-in-Two-clause-stop : goal.language-returns-in_err-b-in-Two-clause-stop
language-returns-in_err-b-in-Two-clause-stop t c =
    let items = items_in c.args.scope.now in
    let type = type_in c.args.scope.now in
    let most = c.args.scope.now.limit in
    let e = c.in_err-b-in-Two.field-0.0 in
    let x = plain_x c.in-Two.first.value in
    let y = plain_x c.in-Two.second.value in
    let made = subst (IsMadeOn items type) (ap plain_x c.in-Two.is) c.requires.made in
    let stop = subst (λ v. StopsExpression items (plain_x v) most e) c.deref-in-Two-2.ensures c.in_err-b-in-Two.ensures.stop in
    on_err (StopsExpression items (plain_x c.args.x.now) most) c.from_residual-in_err-b-in-Two.result e c.from_residual-in_err-b-in-Two.ensures.1
    (subst (λ z. StopsExpression items z most e) (sym (ap plain_x c.in-Two.is))
    (second_stops items most c.in-Two.op c.in-Two.field-1 x y (made_evaluated items type c.in-Two.op c.in-Two.field-1 x y made) e stop))

pub language-returns-in_err-join-in-Two-clause-stop : goal.language-returns-in_err-join-in-Two-clause-stop
language-returns-in_err-join-in-Two-clause-stop t c =
    let items = items_in c.args.scope.now in
    let type = type_in c.args.scope.now in
    let most = c.args.scope.now.limit in
    let b = c.args.scope.now.built.now in
    let e = c.in_err-join-in-Two.field-0.0 in
    let x = plain_x c.in-Two.first.value in
    let y = plain_x c.in-Two.second.value in
    let first = subst (λ v. IsOperandOf items (plain_x v) type b c.in_ok-a-in-Two.a) c.deref-in-Two.ensures c.in_ok-a-in-Two.ensures.built in
    let second = subst (λ v. IsOperandOf items (plain_x v) type b c.in_ok-b-in-Two.b) c.deref-in-Two-2.ensures c.in_ok-b-in-Two.ensures.built in
    on_err (StopsExpression items (plain_x c.args.x.now) most) c.from_residual-in_err-join-in-Two.result e c.from_residual-in_err-join-in-Two.ensures.1
    (subst (λ z. StopsExpression items z most e) (sym (ap plain_x c.in-Two.is))
    (c.in_err-join-in-Two.ensures.stop c.in-Two.field-1 x y (operand_built items x type b c.in_ok-a-in-Two.a c.lang_of-a.result.now first c.lang_of-a.ensures) (operand_built items y type b c.in_ok-b-in-Two.b c.lang_of-b.result.now second c.lang_of-b.ensures)))

pub language-returns-in_ok-join-in-Two-clause-built : goal.language-returns-in_ok-join-in-Two-clause-built
language-returns-in_ok-join-in-Two-clause-built t c =
    let items = items_in c.args.scope.now in
    let type = type_in c.args.scope.now in
    let b = c.args.scope.now.built.now in
    let x = plain_x c.in-Two.first.value in
    let y = plain_x c.in-Two.second.value in
    let first = subst (λ v. IsOperandOf items (plain_x v) type b c.in_ok-a-in-Two.a) c.deref-in-Two.ensures c.in_ok-a-in-Two.ensures.built in
    let second = subst (λ v. IsOperandOf items (plain_x v) type b c.in_ok-b-in-Two.b) c.deref-in-Two-2.ensures c.in_ok-b-in-Two.ensures.built in
    subst (λ z. IsOperandOf items z type b (Made c.in_ok-join-in-Two.field-0)) (sym (ap plain_x c.in-Two.is))
    (made_operand items (two c.in-Two.op c.in-Two.field-1 x y) type b c.in_ok-join-in-Two.field-0
    (c.in_ok-join-in-Two.ensures.built c.in-Two.field-1 x y (operand_built items x type b c.in_ok-a-in-Two.a c.lang_of-a.result.now first c.lang_of-a.ensures) (operand_built items y type b c.in_ok-b-in-Two.b c.lang_of-b.result.now second c.lang_of-b.ensures)))

pub language-returns-in-One-Domain-default-default-clause-built :
    goal.language-returns-in-One-Domain-default-default-clause-built
unfolding written.out-X denote.Hole.Carrier.out
language-returns-in-One-Domain-default-default-clause-built t c =
    let items = items_in c.args.scope.now in
    let type = type_in c.args.scope.now in
    let b = c.args.scope.now.built.now in
    let place = c.in-One-Domain-default-default.field-1 in
    let at : one Domain place (plain_x c.deref.result.now) ≡ plain_x c.args.x.now =
    ap (λ v. one Domain place (plain_x v)) c.deref.ensures ∙ (ap (λ op. one op place (plain_x c.in-One-Domain-default-default.f.value)) (sym (rw c.in-One-Domain-default-default.is at c.in-One-Domain-default-default.field-0-is)) ∙ sym (ap plain_x c.in-One-Domain-default-default.is)) in
    IfOk-weaker c.domain_of.result (λ o. (at : Pos) → IsOperandOf items (one Domain at (plain_x c.deref.result.now)) type b o) (IsOperandOf items (plain_x c.args.x.now) type b)
    (λ o h. subst (λ z. IsOperandOf items z type b o) at (h place)) c.domain_of.ensures.built

pub language-returns-in-Two-PreImage-default-default-default-clause-built :
    goal.language-returns-in-Two-PreImage-default-default-default-clause-built
unfolding written.out-X denote.Hole.Carrier.out
language-returns-in-Two-PreImage-default-default-default-clause-built t c =
    let items = items_in c.args.scope.now in
    let type = type_in c.args.scope.now in
    let b = c.args.scope.now.built.now in
    let f = plain_x c.deref-in-Two-PreImage-default-default-default.result.now in
    let y = plain_x c.deref-in-Two-PreImage-default-default-default-2.result.now in
    let place = c.in-Two-PreImage-default-default-default.field-1 in
    let at : two PreImage place f y ≡ plain_x c.args.x.now =
    ap₂ (λ v w. two PreImage place (plain_x v) (plain_x w)) c.deref-in-Two-PreImage-default-default-default.ensures c.deref-in-Two-PreImage-default-default-default-2.ensures ∙ (ap (λ op. two op place (plain_x c.in-Two-PreImage-default-default-default.f.value) (plain_x c.in-Two-PreImage-default-default-default.y.value)) (sym (rw c.in-Two-PreImage-default-default-default.is at c.in-Two-PreImage-default-default-default.field-0-is)) ∙ sym (ap plain_x c.in-Two-PreImage-default-default-default.is)) in
    IfOk-weaker c.preimage_of.result (λ o. (at : Pos) → IsOperandOf items (two PreImage at f y) type b o) (IsOperandOf items (plain_x c.args.x.now) type b)
    (λ o h. subst (λ z. IsOperandOf items z type b o) at (h place)) c.preimage_of.ensures.built

pub transformation-returns-in-Named-clause-built :
    goal.transformation-returns-in-Named-clause-built
transformation-returns-in-Named-clause-built t c =
    subst (λ z. IsTransOperandFrom (items_in c.args.scope.now) z (type_in c.args.scope.now) c.args.scope.now.built.now c.named_trans.result) (sym (ap plain_x c.in-Named.is)) c.named_trans.ensures

pub transformation-returns-in-Two-Restrict-default-default-default-clause-built :
    goal.transformation-returns-in-Two-Restrict-default-default-default-clause-built
unfolding written.out-X denote.Hole.Carrier.out
transformation-returns-in-Two-Restrict-default-default-default-clause-built t c =
    let items = items_in c.args.scope.now in
    let type = type_in c.args.scope.now in
    let b = c.args.scope.now.built.now in
    let f = plain_x c.deref.result.now in
    let y = plain_x c.deref-in-Two-Restrict-default-default-default.result.now in
    let place = c.in-Two-Restrict-default-default-default.field-1 in
    let at : two Restrict place f y ≡ plain_x c.args.f.now =
    ap₂ (λ v w. two Restrict place (plain_x v) (plain_x w)) c.deref.ensures c.deref-in-Two-Restrict-default-default-default.ensures ∙ (ap (λ op. two op place (plain_x c.in-Two-Restrict-default-default-default.inside.value) (plain_x c.in-Two-Restrict-default-default-default.y.value)) (sym (rw c.in-Two-Restrict-default-default-default.is at c.in-Two-Restrict-default-default-default.field-0-is)) ∙ sym (ap plain_x c.in-Two-Restrict-default-default-default.is)) in
    IfOk-weaker c.restrict_of.result (λ o. (at : Pos) → IsTransOperandFrom items (two Restrict at f y) type b o) (IsTransOperandFrom items (plain_x c.args.f.now) type b)
    (λ o h. subst (λ z. IsTransOperandFrom items z type b o) at (h place)) c.restrict_of.ensures.built

pub transformation-returns-in-Two-RestrictOut-default-default-default-clause-built :
    goal.transformation-returns-in-Two-RestrictOut-default-default-default-clause-built
unfolding written.out-X denote.Hole.Carrier.out
transformation-returns-in-Two-RestrictOut-default-default-default-clause-built t c =
    let items = items_in c.args.scope.now in
    let type = type_in c.args.scope.now in
    let b = c.args.scope.now.built.now in
    let f = plain_x c.deref-in-Two-RestrictOut-default-default-default.result.now in
    let y = plain_x c.deref-in-Two-RestrictOut-default-default-default-2.result.now in
    let place = c.in-Two-RestrictOut-default-default-default.field-1 in
    let at : two RestrictOut place f y ≡ plain_x c.args.f.now =
    ap₂ (λ v w. two RestrictOut place (plain_x v) (plain_x w)) c.deref-in-Two-RestrictOut-default-default-default.ensures c.deref-in-Two-RestrictOut-default-default-default-2.ensures ∙ (ap (λ op. two op place (plain_x c.in-Two-RestrictOut-default-default-default.inside.value) (plain_x c.in-Two-RestrictOut-default-default-default.y.value)) (sym (rw c.in-Two-RestrictOut-default-default-default.is at c.in-Two-RestrictOut-default-default-default.field-0-is)) ∙ sym (ap plain_x c.in-Two-RestrictOut-default-default-default.is)) in
    IfOk-weaker c.restrict_out_of.result (λ o. (at : Pos) → IsTransOperandFrom items (two RestrictOut at f y) type b o) (IsTransOperandFrom items (plain_x c.args.f.now) type b)
    (λ o h. subst (λ z. IsTransOperandFrom items z type b o) at (h place)) c.restrict_out_of.ensures.built

pub transformation-returns-in-Two-Compose-default-default-default-clause-built :
    goal.transformation-returns-in-Two-Compose-default-default-default-clause-built
unfolding written.out-X denote.Hole.Carrier.out
transformation-returns-in-Two-Compose-default-default-default-clause-built t c =
    let items = items_in c.args.scope.now in
    let type = type_in c.args.scope.now in
    let b = c.args.scope.now.built.now in
    let f = plain_x c.deref-in-Two-Compose-default-default-default.result.now in
    let y = plain_x c.deref-in-Two-Compose-default-default-default-2.result.now in
    let place = c.in-Two-Compose-default-default-default.field-1 in
    let at : two Compose place f y ≡ plain_x c.args.f.now =
    ap₂ (λ v w. two Compose place (plain_x v) (plain_x w)) c.deref-in-Two-Compose-default-default-default.ensures c.deref-in-Two-Compose-default-default-default-2.ensures ∙ (ap (λ op. two op place (plain_x c.in-Two-Compose-default-default-default.inside.value) (plain_x c.in-Two-Compose-default-default-default.other.value)) (sym (rw c.in-Two-Compose-default-default-default.is at c.in-Two-Compose-default-default-default.field-0-is)) ∙ sym (ap plain_x c.in-Two-Compose-default-default-default.is)) in
    IfOk-weaker c.compose_of.result (λ o. (at : Pos) → IsTransOperandFrom items (two Compose at f y) type b o) (IsTransOperandFrom items (plain_x c.args.f.now) type b)
    (λ o h. subst (λ z. IsTransOperandFrom items z type b o) at (h place)) c.compose_of.ensures.built

pub domain_of-returns-in_err-a-clause-stop : goal.domain_of-returns-in_err-a-clause-stop
domain_of-returns-in_err-a-clause-stop t c =
    let items = items_in c.args.scope.now in
    let most = c.args.scope.now.limit in
    let f = plain_x c.args.f.now in
    let e = c.in_err-a.field-0.0 in
    on_err (λ s. (place : Pos) → StopsExpression items (one Domain place f) most s) c.from_residual.result e c.from_residual.ensures.1
    (λ place. domain_stops items most place f e c.in_err-a.ensures.stop)

pub domain_of-returns-clause-built : goal.domain_of-returns-clause-built
domain_of-returns-clause-built t c =
    let items = items_in c.args.scope.now in
    let type = type_in c.args.scope.now in
    let b = c.args.scope.now.built.now in
    let f = plain_x c.args.f.now in
    let (into, made) = c.requires.made in
    let a = trans_operand_built items f type into b c.in_ok-a.a c.trans_of-a.result.now (c.in_ok-a.ensures.built into made) c.trans_of-a.ensures in
    λ place. made_operand items (one Domain place f) type b c.in_ok-inputs.field-0 (c.in_ok-inputs.ensures place f into a)

pub preimage_of-returns-in_err-b-clause-stop : goal.preimage_of-returns-in_err-b-clause-stop
preimage_of-returns-in_err-b-clause-stop t c =
    let items = items_in c.args.scope.now in
    let most = c.args.scope.now.limit in
    let f = plain_x c.args.f.now in
    let y = plain_x c.args.y.now in
    let e = c.in_err-b.field-0.0 in
    let own = stop_back c.args.scope.now.checked.now c.args.scope.now.built.now most y c.scope_of-other.result c.scope_of-other.ensures.of e c.in_err-b.ensures.stop in
    on_err (λ s. (place : Pos) → StopsExpression items (two PreImage place f y) most s) c.from_residual.result e c.from_residual.ensures.1
    (λ place. second_stops items most PreImage place f y refl e own)

pub preimage_of-returns-in_err-a-clause-stop : goal.preimage_of-returns-in_err-a-clause-stop
preimage_of-returns-in_err-a-clause-stop t c =
    let items = items_in c.args.scope.now in
    let most = c.args.scope.now.limit in
    let f = plain_x c.args.f.now in
    let y = plain_x c.args.y.now in
    let e = c.in_err-a.field-0.0 in
    on_err (λ s. (place : Pos) → StopsExpression items (two PreImage place f y) most s) c.from_residual-in_err-a.result e c.from_residual-in_err-a.ensures.1
    (λ place. first_stops items most PreImage place f y refl e c.in_err-a.ensures.stop)

pub preimage_of-returns-in_err-sources-clause-stop :
    goal.preimage_of-returns-in_err-sources-clause-stop
preimage_of-returns-in_err-sources-clause-stop t c =
    let items = items_in c.args.scope.now in
    let type = type_in c.args.scope.now in
    let most = c.args.scope.now.limit in
    let b = c.args.scope.now.built.now in
    let f = plain_x c.args.f.now in
    let y = plain_x c.args.y.now in
    let e = c.in_err-sources.field-0.0 in
    let (into, made, inside) = c.requires.made in
    let own = operand_back c.args.scope.now.checked.now b most y c.scope_of-other.result c.scope_of-other.ensures.of into inside c.in_ok-b.b c.in_ok-b.ensures.built in
    let looks : LooksAt items f y type into c.trans_of-a.result.now c.lang_of-b.result.now = record {
      first = trans_operand_built items f type into b c.in_ok-a.a c.trans_of-a.result.now (c.in_ok-a.ensures.built into made) c.trans_of-a.ensures;
      second = operand_built items y into b c.in_ok-b.b c.lang_of-b.result.now own c.lang_of-b.ensures;
    } in
    on_err (λ s. (place : Pos) → StopsExpression items (two PreImage place f y) most s) c.from_residual-in_err-sources.result e c.from_residual-in_err-sources.ensures.1
    (λ place. c.in_err-sources.ensures.stop place f y into looks)

pub preimage_of-returns-clause-built : goal.preimage_of-returns-clause-built
preimage_of-returns-clause-built t c =
    let items = items_in c.args.scope.now in
    let type = type_in c.args.scope.now in
    let most = c.args.scope.now.limit in
    let b = c.args.scope.now.built.now in
    let f = plain_x c.args.f.now in
    let y = plain_x c.args.y.now in
    let (into, made, inside) = c.requires.made in
    let own = operand_back c.args.scope.now.checked.now b most y c.scope_of-other.result c.scope_of-other.ensures.of into inside c.in_ok-b.b c.in_ok-b.ensures.built in
    let looks : LooksAt items f y type into c.trans_of-a.result.now c.lang_of-b.result.now = record {
      first = trans_operand_built items f type into b c.in_ok-a.a c.trans_of-a.result.now (c.in_ok-a.ensures.built into made) c.trans_of-a.ensures;
      second = operand_built items y into b c.in_ok-b.b c.lang_of-b.result.now own c.lang_of-b.ensures;
    } in
    λ place. made_operand items (two PreImage place f y) type b c.in_ok-sources.field-0 (c.in_ok-sources.ensures.built place f y into looks)

pub restrict_of-returns-in_err-b-clause-stop : goal.restrict_of-returns-in_err-b-clause-stop
restrict_of-returns-in_err-b-clause-stop t c =
    let items = items_in c.args.scope.now in
    let most = c.args.scope.now.limit in
    let f = plain_x c.args.f.now in
    let y = plain_x c.args.y.now in
    let e = c.in_err-b.field-0.0 in
    on_err (λ s. (place : Pos) → StopsExpression items (two Restrict place f y) most s) c.from_residual.result e c.from_residual.ensures.1
    (λ place. second_stops items most Restrict place f y refl e c.in_err-b.ensures.stop)

pub restrict_of-returns-in_err-a-clause-stop : goal.restrict_of-returns-in_err-a-clause-stop
restrict_of-returns-in_err-a-clause-stop t c =
    let items = items_in c.args.scope.now in
    let most = c.args.scope.now.limit in
    let f = plain_x c.args.f.now in
    let y = plain_x c.args.y.now in
    let e = c.in_err-a.field-0.0 in
    on_err (λ s. (place : Pos) → StopsExpression items (two Restrict place f y) most s) c.from_residual-in_err-a.result e c.from_residual-in_err-a.ensures.1
    (λ place. first_stops items most Restrict place f y refl e c.in_err-a.ensures.stop)

pub restrict_of-returns-clause-built : goal.restrict_of-returns-clause-built
restrict_of-returns-clause-built t c =
    let items = items_in c.args.scope.now in
    let type = type_in c.args.scope.now in
    let b = c.args.scope.now.built.now in
    let f = plain_x c.args.f.now in
    let y = plain_x c.args.y.now in
    let second = operand_built items y type b c.in_ok-b.b c.lang_of-b.result.now c.in_ok-b.ensures.built c.lang_of-b.ensures in
    λ place into made.
    made_trans_operand items (two Restrict place f y) type into b c.in_ok-restricted.field-0
    (c.in_ok-restricted.ensures place f y into (trans_operand_built items f type into b c.in_ok-a.a c.trans_of-a.result.now (c.in_ok-a.ensures.built into made.0) c.trans_of-a.ensures) second)

pub restrict_out_of-returns-in_err-b-clause-stop : goal.restrict_out_of-returns-in_err-b-clause-stop
restrict_out_of-returns-in_err-b-clause-stop t c =
    let items = items_in c.args.scope.now in
    let most = c.args.scope.now.limit in
    let f = plain_x c.args.f.now in
    let y = plain_x c.args.y.now in
    let e = c.in_err-b.field-0.0 in
    let own = stop_back c.args.scope.now.checked.now c.args.scope.now.built.now most y c.scope_of-other.result c.scope_of-other.ensures.of e c.in_err-b.ensures.stop in
    on_err (λ s. (place : Pos) → StopsExpression items (two RestrictOut place f y) most s) c.from_residual.result e c.from_residual.ensures.1
    (λ place. second_stops items most RestrictOut place f y refl e own)

pub restrict_out_of-returns-in_err-a-clause-stop : goal.restrict_out_of-returns-in_err-a-clause-stop
restrict_out_of-returns-in_err-a-clause-stop t c =
    let items = items_in c.args.scope.now in
    let most = c.args.scope.now.limit in
    let f = plain_x c.args.f.now in
    let y = plain_x c.args.y.now in
    let e = c.in_err-a.field-0.0 in
    on_err (λ s. (place : Pos) → StopsExpression items (two RestrictOut place f y) most s) c.from_residual-in_err-a.result e c.from_residual-in_err-a.ensures.1
    (λ place. first_stops items most RestrictOut place f y refl e c.in_err-a.ensures.stop)

pub restrict_out_of-returns-in_err-restricted_out-clause-stop :
    goal.restrict_out_of-returns-in_err-restricted_out-clause-stop
restrict_out_of-returns-in_err-restricted_out-clause-stop t c =
    let items = items_in c.args.scope.now in
    let type = type_in c.args.scope.now in
    let most = c.args.scope.now.limit in
    let b = c.args.scope.now.built.now in
    let f = plain_x c.args.f.now in
    let y = plain_x c.args.y.now in
    let e = c.in_err-restricted_out.field-0.0 in
    let (into, made, inside) = c.requires.made in
    let own = operand_back c.args.scope.now.checked.now b most y c.scope_of-other.result c.scope_of-other.ensures.of into inside c.in_ok-b.b c.in_ok-b.ensures.built in
    let looks : LooksAt items f y type into c.trans_of-a.result.now c.lang_of-b.result.now = record {
      first = trans_operand_built items f type into b c.in_ok-a.a c.trans_of-a.result.now (c.in_ok-a.ensures.built into made) c.trans_of-a.ensures;
      second = operand_built items y into b c.in_ok-b.b c.lang_of-b.result.now own c.lang_of-b.ensures;
    } in
    on_err (λ s. (place : Pos) → StopsExpression items (two RestrictOut place f y) most s) c.from_residual-in_err-restricted_out.result e c.from_residual-in_err-restricted_out.ensures.1
    (λ place. c.in_err-restricted_out.ensures.stop place f y into looks)

pub restrict_out_of-returns-clause-built : goal.restrict_out_of-returns-clause-built
restrict_out_of-returns-clause-built t c =
    let items = items_in c.args.scope.now in
    let type = type_in c.args.scope.now in
    let most = c.args.scope.now.limit in
    let b = c.args.scope.now.built.now in
    let f = plain_x c.args.f.now in
    let y = plain_x c.args.y.now in
    λ place into made.
    let own = operand_back c.args.scope.now.checked.now b most y c.scope_of-other.result c.scope_of-other.ensures.of into made.1 c.in_ok-b.b c.in_ok-b.ensures.built in
    let looks : LooksAt items f y type into c.trans_of-a.result.now c.lang_of-b.result.now = record {
      first = trans_operand_built items f type into b c.in_ok-a.a c.trans_of-a.result.now (c.in_ok-a.ensures.built into made.0) c.trans_of-a.ensures;
      second = operand_built items y into b c.in_ok-b.b c.lang_of-b.result.now own c.lang_of-b.ensures;
    } in
    made_trans_operand items (two RestrictOut place f y) type into b c.in_ok-restricted_out.field-0 (c.in_ok-restricted_out.ensures.built place f y into looks)

pub compose_of-transformation-requires : goal.compose_of-transformation-requires
compose_of-transformation-requires t c =
    let s = c.args.scope.now in
    let g = plain_x c.args.g.now in
    let of = c.scope_of-other.ensures.of in
    let (into, middle, first, second, can) = c.requires.made in
    let made = made_from_there s.checked.now s.built.now s.limit g c.scope_of-other.result of middle into (inr (into, second)) g second in
    let named = named_there s.checked.now s.built.now s.limit g c.scope_of-other.result of transformation g c.requires.second_named in
    (omega (arith, c.decreases), (c.scope_of-other.ensures.scope, ((into, made), named)))

pub compose_of-trans_of-b-requires : goal.compose_of-trans_of-b-requires
compose_of-trans_of-b-requires t c =
    let s = c.args.scope.now in
    let g = plain_x c.args.g.now in
    let (into, middle, first, second, can) = c.requires.made in
    (trans_back s.checked.now s.built.now s.limit g c.scope_of-other.result c.scope_of-other.ensures.of middle into second c.in_ok-b.b c.in_ok-b.ensures.built).low

pub compose_of-composed-requires-clause-operands :
    goal.compose_of-composed-requires-clause-operands
compose_of-composed-requires-clause-operands t c =
    let items = items_in c.args.scope.now in
    let type = type_in c.args.scope.now in
    let most = c.args.scope.now.limit in
    let b = c.args.scope.now.built.now in
    let f = plain_x c.args.f.now in
    let g = plain_x c.args.g.now in
    let (into, middle, first, second, can) = c.requires.made in
    let own = trans_back c.args.scope.now.checked.now b most g c.scope_of-other.result c.scope_of-other.ensures.of middle into second c.in_ok-b.b c.in_ok-b.ensures.built in (
      f,
      g,
      middle,
      into,
      record {
        first = trans_operand_built items f type middle b c.in_ok-a.a c.trans_of-a.result.now (c.in_ok-a.ensures.built middle first) c.trans_of-a.ensures;
        second = trans_operand_built items g middle into b c.in_ok-b.b c.trans_of-b.result.now own c.trans_of-b.ensures;
        can = can;
      },
    )

pub compose_of-returns-in_err-b-clause-stop : goal.compose_of-returns-in_err-b-clause-stop
compose_of-returns-in_err-b-clause-stop t c =
    let items = items_in c.args.scope.now in
    let most = c.args.scope.now.limit in
    let f = plain_x c.args.f.now in
    let g = plain_x c.args.g.now in
    let e = c.in_err-b.field-0.0 in
    let own = stop_back c.args.scope.now.checked.now c.args.scope.now.built.now most g c.scope_of-other.result c.scope_of-other.ensures.of e c.in_err-b.ensures.stop in
    on_err (λ s. (place : Pos) → StopsExpression items (two Compose place f g) most s) c.from_residual.result e c.from_residual.ensures.1
    (λ place. second_stops items most Compose place f g refl e own)

pub compose_of-returns-in_err-a-clause-stop : goal.compose_of-returns-in_err-a-clause-stop
compose_of-returns-in_err-a-clause-stop t c =
    let items = items_in c.args.scope.now in
    let most = c.args.scope.now.limit in
    let f = plain_x c.args.f.now in
    let g = plain_x c.args.g.now in
    let e = c.in_err-a.field-0.0 in
    on_err (λ s. (place : Pos) → StopsExpression items (two Compose place f g) most s) c.from_residual-in_err-a.result e c.from_residual-in_err-a.ensures.1
    (λ place. first_stops items most Compose place f g refl e c.in_err-a.ensures.stop)

pub compose_of-returns-in_err-composed-clause-stop :
    goal.compose_of-returns-in_err-composed-clause-stop
compose_of-returns-in_err-composed-clause-stop t c =
    let items = items_in c.args.scope.now in
    let type = type_in c.args.scope.now in
    let most = c.args.scope.now.limit in
    let b = c.args.scope.now.built.now in
    let f = plain_x c.args.f.now in
    let g = plain_x c.args.g.now in
    let e = c.in_err-composed.field-0.0 in
    let (into, middle, first, second, can) = c.requires.made in
    let own = trans_back c.args.scope.now.checked.now b most g c.scope_of-other.result c.scope_of-other.ensures.of middle into second c.in_ok-b.b c.in_ok-b.ensures.built in
    let runs : RunsAfter items f g type middle into c.trans_of-a.result.now c.trans_of-b.result.now = record {
      first = trans_operand_built items f type middle b c.in_ok-a.a c.trans_of-a.result.now (c.in_ok-a.ensures.built middle first) c.trans_of-a.ensures;
      second = trans_operand_built items g middle into b c.in_ok-b.b c.trans_of-b.result.now own c.trans_of-b.ensures;
      can = can;
    } in
    on_err (λ s. (place : Pos) → StopsExpression items (two Compose place f g) most s) c.from_residual-in_err-composed.result e c.from_residual-in_err-composed.ensures.1
    (λ place. c.in_err-composed.ensures.stop place f g middle into runs)

pub compose_of-returns-clause-built : goal.compose_of-returns-clause-built
compose_of-returns-clause-built t c =
    let items = items_in c.args.scope.now in
    let type = type_in c.args.scope.now in
    let most = c.args.scope.now.limit in
    let b = c.args.scope.now.built.now in
    let f = plain_x c.args.f.now in
    let g = plain_x c.args.g.now in
    λ place into made.
    let (middle, first, second, can) = made in
    let own = trans_back c.args.scope.now.checked.now b most g c.scope_of-other.result c.scope_of-other.ensures.of middle into second c.in_ok-b.b c.in_ok-b.ensures.built in
    let runs : RunsAfter items f g type middle into c.trans_of-a.result.now c.trans_of-b.result.now = record {
      first = trans_operand_built items f type middle b c.in_ok-a.a c.trans_of-a.result.now (c.in_ok-a.ensures.built middle first) c.trans_of-a.ensures;
      second = trans_operand_built items g middle into b c.in_ok-b.b c.trans_of-b.result.now own c.trans_of-b.ensures;
      can = can;
    } in
    made_trans_operand items (two Compose place f g) type into b c.in_ok-composed.field-0 (c.in_ok-composed.ensures.built place f g middle into runs)

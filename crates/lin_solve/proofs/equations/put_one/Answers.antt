use Rattle.std.proofs.Common.{◌≡◌, ◌<◌, ◌∙◌, ap, subst, length, Option, arith}
use Rattle.std.specs.Prelude.{IfSome}
use Rattle.std.proofs.Math.ListN.{set}
use Rattle.model_form.specs.Meaning.{values_of}
use Rattle.lin_solve.specs.declared.equations.Own.{Own}
use Rattle.lin_solve.specs.Equations.{Gives}
use Rattle.lin_solve.proofs.Branched.{set_same}
use Rattle.lin_solve.proofs.Gapped.{literal_here}
use Rattle.lin_solve.proofs.equations.put_one.Goals as goal

pub returns : goal.returns
returns c = λ us eight h.
    let ls = c.args.literals.now in
    let x = c.index-literals-place.result in
    let low : c.args.place < length ls = (let l = c.if-place-literals.false in omega arith) in
    let found = subst (λ (o : Option Own). IfSome o (λ own. (own.field < 8) × Gives x own.form own.field)) c.in-Some.is (c.in_ok-own.ensures {u = tt}) in
    let own = literal_here ls c.args.place x us c.index-literals-place.is low h in
    let same : values_of c.deref.result.now us ≡ us =
    ap (λ gs. values_of gs us) c.deref.ensures.value ∙ (c.in_ok-forms.ensures {u = tt}).forms us eight ∙ ap (set us c.in-Some.own.field) (found.1 us own) ∙ set_same us c.in-Some.own.field in
    c.in_ok-put_others.ensures {u = tt} us same h

use Rattle.std.proofs.Common.{refl, map, sym, subst, ◌∙◌, ap}
use Rattle.std.proofs.lemmas.List.{get_or-map, length-map, take_all}
use Rattle.std.proofs.lemmas.List.Elements.{All-more}
use Rattle.std.proofs.lemmas.Option.{slice_get_read}
use Rattle.model_sttr.specs.Terms.{IsLinear}
use Rattle.sttr_core.specs.Terms.{plain_term}
use Rattle.sttr_core.specs.Machine.{plain_out}
use Rattle.sttr_core.specs.Linear.{AreAllLinear, UsesTwice}
use Rattle.sttr_core.proofs.Linearity.{linear_if}
use Rattle.sttr_core.proofs.linear.first_copying.Goals as goal

pub returns-then-uses_some_twice : goal.returns-then-uses_some_twice
returns-then-uses_some_twice g c =
    let x = c.index-rules-i.result in
    let here = get_or-map plain_out c.args.rules.now c.loop-i.i x (plain_out x) c.loop-i-test.true ∙ ap plain_out (sym c.index-rules-i.is) in
    record {
      rule = plain_out x;
      is = slice_get_read (map plain_out c.args.rules.now) _ c.loop-i.i (plain_out x) (sym (length-map c.args.rules.now plain_out)) c.loop-i-test.true (sym here);
      twice = subst (λ r. UsesTwice (plain_term r.term)) (sym c.index-rules-i.is) (c.if-uses_some_twice.ensures.0 refl);
      before = c.loop-i.invariant;
    }

pub loop-i-preserved : goal.loop-i-preserved
loop-i-preserved g c =
    let x = c.index-rules-i.result in
    let here = get_or-map plain_out c.args.rules.now c.loop-i.i x (plain_out x) c.loop-i-test.true in
    let one = linear_if _ c.if-uses_some_twice.ensures.1 in
    All-more (λ r. IsLinear r.term) (map plain_out c.args.rules.now) c.loop-i.i (plain_out x) (rw length-map c.loop-i-test.true) c.loop-i.invariant (subst (λ r. IsLinear r.term) (sym here) one)

pub returns : goal.returns
returns g c = subst AreAllLinear (take_all c.loop-i.i (map plain_out c.args.rules.now) (rw length-map c.loop-i-test.false)) c.loop-i.invariant

use Rattle.std.proofs.Common.{◌+◌, take, map, subst, sym, arith}
use Rattle.std.proofs.lemmas.List.{take_all}
use Rattle.sttr_run.specs.Drafts.{AddsCopies}
use Rattle.sttr_run.specs.Plain.{plain_way_term}
use Rattle.sttr_run.proofs.Members.{taken}
use Rattle.sttr_run.proofs.Copies.{added_none, added_more}
use Rattle.sttr_run.proofs.picks.Run.add_terms.Goals as goal

pub terms-init : goal.terms-init
terms-init g c = added_none g.T.Map.PartialEq.eq c.args.to.now.items

pub terms-preserved : goal.terms-preserved
terms-preserved g c =
    subst (λ ws. AddsCopies g.T.Map.PartialEq.eq (map plain_way_term ws) (map plain_way_term c.args.to.now.items) (map plain_way_term (take (c.terms.term-index + 1) c.args.terms.now))) (sym c.in_ok-push.ensures.items)
    (added_more g.T.Map.PartialEq.eq c.terms.to.items c.args.to.now.items c.args.terms.now c.terms.term-index c.in_ok-copy_term.field-0 c.term-item.result (taken c.args.terms.now c.terms.term-index c.term-item.result c.terms-test.true c.term-item.is) c.terms.invariant c.in_ok-copy_term.ensures)

pub returns : goal.returns
returns g c = subst (λ vs. AddsCopies g.T.Map.PartialEq.eq (map plain_way_term c.terms.to.items) (map plain_way_term c.args.to.now.items) (map plain_way_term vs)) (take_all c.terms.term-index c.args.terms.now (omega (arith, c.terms-test.false))) c.terms.invariant

use Rattle.std.proofs.Common.{◌++◌, map, ap, ap₂, subst, ◌∙◌}
use Rattle.label_core.specs.Formula.{plain_formula}
use Rattle.sttr_run.specs.Drafts.{Asks, AddsCopies, terms_of}
use Rattle.sttr_run.specs.Plain.{plain_way_term}
use Rattle.sttr_run.proofs.Asking.{asked_both}
use Rattle.sttr_run.proofs.Copies.{added_both}
use Rattle.sttr_run.proofs.picks.Run.both.Goals as goal

pub returns : goal.returns
returns g c = record {
  guards = c.in_ok-add_guards-2.ensures ∙ ap₂ (λ xs ys. xs ++ ys) (c.in_ok-add_guards.ensures ∙ ap₂ (λ xs ys. map plain_formula xs ++ map plain_formula ys) c.new-guards.ensures.items c.deref.ensures.value) (ap (map plain_formula) c.deref-2.ensures.value);
  asks = asked_both c.add_demands-2.new.to.items c.add_demands.new.to.items c.args.first.now.demands.items c.args.second.now.demands.items
      (subst (λ o. Asks c.add_demands.new.to.items o c.args.first.now.demands.items) c.new-demands.ensures.items (subst (λ ds. Asks c.add_demands.new.to.items c.new-demands.result.items ds) c.deref-3.ensures.value c.in_ok-add_demands.ensures))
      (subst (λ ds. Asks c.add_demands-2.new.to.items c.add_demands.new.to.items ds) c.deref-4.ensures.value c.in_ok-add_demands-2.ensures);
  copies = added_both g.T.Map.PartialEq.eq (map plain_way_term c.add_terms-2.new.to.items) (map plain_way_term c.add_terms.new.to.items) (terms_of c.args.first.now) (terms_of c.args.second.now)
      (subst (λ o. AddsCopies g.T.Map.PartialEq.eq (map plain_way_term c.add_terms.new.to.items) (map plain_way_term o) (terms_of c.args.first.now)) c.new-terms.ensures.items (subst (λ ts. AddsCopies g.T.Map.PartialEq.eq (map plain_way_term c.add_terms.new.to.items) (map plain_way_term c.new-terms.result.items) (map plain_way_term ts)) c.deref-5.ensures.value c.in_ok-add_terms.ensures))
      (subst (λ ts. AddsCopies g.T.Map.PartialEq.eq (map plain_way_term c.add_terms-2.new.to.items) (map plain_way_term c.add_terms.new.to.items) (map plain_way_term ts)) c.deref-6.ensures.value c.in_ok-add_terms-2.ensures);
}

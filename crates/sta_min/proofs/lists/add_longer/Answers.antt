use Rattle.std.proofs.Common.{◌≡◌, ◌∷◌, ◌++◌, [], get_or, sym, ap, subst, ◌∙◌, arith}
use Rattle.model_sta.proofs.Reached.{same_default}
use Rattle.sta_classes.specs.Grow.{Grown}
use Rattle.sta_classes.specs.Rows.{lists_of}
use Rattle.sta_classes.proofs.Rows.{lists_push}
use Rattle.sta_classes.proofs.Grown.{grown_push, grown_more, grown_all}
use Rattle.sta_min.proofs.lists.add_longer.Goals as goal

pub classes-preserved : goal.classes-preserved
classes-preserved c =
    grown_more (λ k ks. c.args.list.now ++ k ∷ [] ≡ ks) c.args.numbers.now (lists_of c.args.lists.now.items) (lists_of c.classes.lists.items) (lists_of c.push.new.self.items) c.classes.number-index (get_or c.args.numbers.now c.classes.number-index 0) c.classes-test.true
    (same_default c.args.numbers.now c.classes.number-index 0 _ c.classes-test.true) c.classes.invariant
    (subst (λ l. Grown (lists_of c.classes.lists.items) l (λ ks. c.args.list.now ++ get_or c.args.numbers.now c.classes.number-index 0 ∷ [] ≡ ks))
    (sym (ap lists_of c.in_ok-push.ensures.items ∙ lists_push c.classes.lists.items c.in_ok-with_last.field-0 ∙ ap (λ l. lists_of c.classes.lists.items ++ l ∷ []) c.in_ok-with_last.ensures))
    (grown_push (lists_of c.classes.lists.items) (c.args.list.now ++ get_or c.args.numbers.now c.classes.number-index 0 ∷ [])))

pub returns : goal.returns
returns c = grown_all (λ k ks. c.args.list.now ++ k ∷ [] ≡ ks) c.args.numbers.now (lists_of c.args.lists.now.items) (lists_of c.classes.lists.items) c.classes.number-index (omega (arith, c.classes-test.false)) c.classes.invariant

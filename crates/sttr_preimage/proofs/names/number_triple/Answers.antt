use Rattle.std.proofs.Common.{ap, sym, subst, ◌∙◌, [], ◌∷◌}
use Rattle.sttr_run.specs.Plain.{plain_head}
use Rattle.sttr_theory.specs.Triples.{asked_by, middle}
use Rattle.sttr_preimage.specs.Names.{names_in, Numbers, tidy_all}
use Rattle.sttr_preimage.specs.Sets.{ascending}
use Rattle.sttr_preimage.proofs.Numbered.{numbers_one}
use Rattle.sttr_preimage.proofs.names.number_triple.Goals as goal

pub returns-in_ok-push-in-Run : goal.returns-in_ok-push-in-Run
returns-in_ok-push-in-Run c =
    let old = names_in c.args.names.now.keys in
    let new = names_in c.number.new.names.keys in
    let before = c.args.numbers.now.items in
    let after = c.push.new.self.items in
    let all = c.args.triple.now.all.items in
    subst (λ h. Numbers old new before after (asked_by (plain_head h) (tidy_all (plain_head h) all))) (sym c.in-Run.is)
    (subst (λ z. Numbers old new before after (middle c.in-Run.state z ∷ [])) (c.in_ok-all-in-Run.ensures ∙ ap ascending c.deref-in-Run.ensures.value) (numbers_one old new before after _ c.in_ok-number-in-Run.field-0 c.in_ok-number-in-Run.ensures c.in_ok-push-in-Run.ensures.items))

use Rattle.std.proofs.Common.{◌≡◌, nat_eq, subst, sym}
use Rattle.std.specs.Option.{option_map}
use Rattle.model_sttr.specs.Terms.{with_maps}
use Rattle.sttr_core.specs.Terms.{plain_term}
use Rattle.sttr_run.specs.Found.{used_by}
use Rattle.sttr_run.proofs.Using.{used}
use Rattle.sttr_run.proofs.over.is_used.Goals as goal

pub returns-in-Some : goal.returns-in-Some
returns-in-Some g c = λ make.
    subst (λ o. nat_eq c.uses_up_to.result 1 ≡ used_by (option_map (λ t. with_maps make (plain_term t.now)) o) c.args.child) (sym c.in-Some.is) (used make c.args.child (plain_term c.in-Some.term.now) c.uses_up_to.result c.uses_up_to.ensures)

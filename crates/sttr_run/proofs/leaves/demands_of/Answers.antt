use Rattle.std.proofs.Common.{◌≡◌, ◌∷◌, ◌++◌, ◌↔◌, ℕ, [], Contains, refl, ap, subst, sym, ◌∙◌}
use Rattle.sttr_theory.specs.Triples.{LookName, middle, asked_by}
use Rattle.sttr_run.specs.Drafts.{IsAskedIn}
use Rattle.sttr_run.specs.Plain.{plain_head}
use Rattle.sttr_run.specs.declared.drafts.Ask.TheVariants.{Output}
use Rattle.sttr_run.proofs.Asking.{AsksStates, output_asked, ok_map}
use Rattle.sttr_run.proofs.leaves.demands_of.Goals as goal

pub returns-in-Same : goal.returns-in-Same
returns-in-Same c =
    ok_map (λ demands. AsksStates demands.items c.args.child c.as_slice.result.now) (λ demands. (j : ℕ) (n : LookName) → IsAskedIn demands.items j n ↔ ((c.args.child ≡ j) × Contains (asked_by (plain_head c.args.first) c.args.all.now.states.items) n)) c.state_demands.result
    (λ demands asks. subst (λ h. (j : ℕ) (n : LookName) → IsAskedIn demands.items j n ↔ ((c.args.child ≡ j) × Contains (asked_by (plain_head h) c.args.all.now.states.items) n)) (sym c.in-Same.is) (subst (AsksStates demands.items c.args.child) c.as_slice.ensures.states asks)) c.state_demands.ensures

pub returns-in_ok-push-in-Run : goal.returns-in_ok-push-in-Run
returns-in_ok-push-in-Run c =
    subst (λ h. (j : ℕ) (n : LookName) → IsAskedIn c.push.new.self.items j n ↔ ((c.args.child ≡ j) × Contains (asked_by (plain_head h) c.args.all.now.states.items) n)) (sym c.in-Run.is)
    (output_asked c.args.child c.in-Run.state c.args.all.now.states.items c.push.new.self.items (record { child = c.args.child; ask = Output c.in-Run.state c.in_ok-from_slice-in-Run.field-0 })
    (c.in_ok-push-in-Run.ensures.items ∙ ap (λ xs. xs ++ record { child = c.args.child; ask = Output c.in-Run.state c.in_ok-from_slice-in-Run.field-0 } ∷ []) c.new-demands.ensures.items) refl (ap (middle c.in-Run.state) (c.in_ok-from_slice-in-Run.ensures.items ∙ c.as_slice-in-Run.ensures.states)))

use Rattle.std.proofs.Common.{◌≡◌, ◌⊎◌, ◌↔◌, Contains, subst}
use Rattle.std.specs.Prelude.{slice_set}
use Rattle.sttr_theory.specs.Triples.{asked}
use Rattle.sttr_run.specs.Drafts.{name_of}
use Rattle.sttr_run.specs.Finished.{triples_at}
use Rattle.sttr_run.proofs.Placing.{placed_one}
use Rattle.sttr_run.proofs.finish.place.Goals as goal

pub returns : goal.returns
returns c = λ j n.
    subst (λ ts. Contains (asked (triples_at (slice_set c.fill.new.lists.items c.args.demand.child c.push.new.self) j)) n ↔ (Contains (asked ts) n ⊎ ((c.args.demand.child ≡ j) × (name_of c.args.demand.ask ≡ n)))) (c.in_ok-fill.ensures.same j)
    (placed_one c.fill.new.lists.items c.args.demand.child c.index_mut.result.now c.push.new.self c.in_ok-triple.triple (name_of c.args.demand.ask) c.in_ok-fill.ensures.room c.index_mut.ensures.value c.in_ok-push.ensures.items c.in_ok-triple.ensures j n)

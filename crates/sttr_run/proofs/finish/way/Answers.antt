use Rattle.sttr_run.specs.Plain.{plain_way_term}
use Rattle.sttr_run.proofs.Placing.{popped_only}
use Rattle.sttr_run.proofs.finish.way.Goals as goal

pub returns : goal.returns
returns g c = record {
  guard = c.conjunction-guard.ensures;
  asks = c.in_ok-demands.ensures;
  same_term = popped_only plain_way_term c.args.draft.terms.items c.pop-term.new.self.items c.pop-term.result _ _ c.pop-term.ensures.items c.args.draft.terms.ok.0 c.pop-term.ensures.cases;
}

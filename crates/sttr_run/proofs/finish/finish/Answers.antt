use Rattle.std.proofs.Common.{subst, sym, arith}
use Rattle.std.proofs.lemmas.List.{nil_from_length}
use Rattle.sttr_run.specs.Finished.{IsFinished}
use Rattle.sttr_run.proofs.Popping.{EachSoFar, so_far_start, so_far_more, so_far_end}
use Rattle.sttr_run.proofs.finish.finish.Goals as goal

pub drafts-init : goal.drafts-init
drafts-init g c = subst (EachSoFar IsFinished c.args.drafts.items c.args.drafts.items) (sym c.new-ways.ensures.items) (so_far_start IsFinished c.args.drafts.items)

pub drafts-preserved : goal.drafts-preserved
drafts-preserved g c = so_far_more IsFinished c.args.drafts.items c.drafts.drafts.items c.pop.new.self.items c.drafts.ways.items c.push.new.self.items c.in-Some.draft c.in_ok-way.field-0 c.in-Some.ensures.items c.in_ok-push.ensures.items c.drafts.invariant c.in_ok-way.ensures

pub returns : goal.returns
returns g c = so_far_end IsFinished c.args.drafts.items c.drafts.drafts.items c.drafts.ways.items (nil_from_length c.drafts.drafts.items (omega (arith, c.in_default.ensures.cases.0, c.drafts.drafts.ok.0))) c.drafts.invariant

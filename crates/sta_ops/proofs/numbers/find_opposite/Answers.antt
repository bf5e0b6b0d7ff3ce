use Rattle.std.proofs.Common.{true≢false, sym, ◌∙◌}
use borrow.Author.Count.{below_more}
use Rattle.model_sta.specs.Least.{rows_of}
use Rattle.sta_ops.specs.Numbers.{AreOpposite}
use Rattle.sta_ops.proofs.numbers.find_opposite.Goals as goal

pub others-preserved : goal.others-preserved
others-preserved g c = below_more (λ t. ¬ (AreOpposite (rows_of c.args.table.now.found) c.args.state t)) c.others.other c.others.invariant (λ h. true≢false (sym (c.are_opposite.ensures.1 h) ∙ c.if-are_opposite.false))

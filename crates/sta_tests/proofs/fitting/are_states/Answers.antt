use Rattle.std.proofs.Common.{◌<◌, arith}
use Rattle.std.proofs.lemmas.List.Elements.{All-more}
use Rattle.label_split.proofs.Truths.{all_taken}
use Rattle.sta_tests.proofs.fitting.are_states.Goals as goal

pub loop-state-preserved : goal.loop-state-preserved
loop-state-preserved c = All-more (λ s. s < c.args.states) c.args.list.now c.loop-state.state-index 0 c.loop-state-test.true c.loop-state.invariant (omega arith)

pub returns : goal.returns
returns c = λ _. all_taken (λ s. s < c.args.states) c.args.list.now c.loop-state.state-index c.loop-state-test.false c.loop-state.invariant

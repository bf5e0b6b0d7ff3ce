use Rattle.std.proofs.Common.{◌+◌, false, List, ◌∷◌, drop, map, get_or, ap, sym, ◌∙◌}
use Rattle.fast_tree.specs.declared.label.Value.{Value}
use Rattle.fast_tree.specs.Entries.{field_of}
use Rattle.record_label.specs.Rows.{truths_in}
use Rattle.record_label.proofs.RowFacts.{no_truth}
use Rattle.record_label.proofs.Looking.{one_there, none_there, past_one}
use Rattle.record_label.proofs.reads.truth_at.Goals as goal
use Rattle.record_label.proofs.reads.truth_at.Goals.{in-Bool+else-before-eq0, in_default}

pub loop-value-preserved : goal.loop-value-preserved
loop-value-preserved c =
    let values = c.args.values.now in
    let i = c.loop-value.value-index in
    let v = c.value-item.result in
    let truths = λ (vs : List Value). truths_in (map field_of vs) in
    let left = truths (drop (i + 1) values) in
    elim c.match-value.branch [
      | in-Bool+else-before-eq0 w ↦
          ap (λ k. get_or left k false) w.before-is ∙ sym (past_one left w.in-Bool.truth false c.loop-value.before w.if-before-eq0.false) ∙ sym (ap (λ bs. get_or bs c.loop-value.before false) (one_there truths values i v c.loop-value-test.true c.value-item.is w.in-Bool.truth (λ rest. ap (λ u. truths (u ∷ rest)) w.in-Bool.is))) ∙ c.loop-value.invariant
      | in_default w ↦
          ap (λ k. get_or left k false) w.before-is ∙ sym (ap (λ bs. get_or bs c.loop-value.before false) (none_there truths values i v c.loop-value-test.true c.value-item.is (λ rest. no_truth v rest w.in_default.not-Bool))) ∙ c.loop-value.invariant
    ]

pub returns-then-before-eq0 : goal.returns-then-before-eq0
returns-then-before-eq0 c =
    let truths = λ (vs : List Value). truths_in (map field_of vs) in
    sym (ap (λ k. get_or (truths (drop c.loop-value.value-index c.args.values.now)) k false) c.if-before-eq0.true ∙ ap (λ bs. get_or bs 0 false) (one_there truths c.args.values.now c.loop-value.value-index c.value-item.result c.loop-value-test.true c.value-item.is c.in-Bool.truth (λ rest. ap (λ u. truths (u ∷ rest)) c.in-Bool.is))) ∙ c.loop-value.invariant

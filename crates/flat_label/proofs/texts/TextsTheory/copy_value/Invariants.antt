use Rattle.std.proofs.Common.{◌≡◌, take}
use Rattle.flat_label.proofs.texts.TextsTheory.copy_value.Given as goal

abbrev pub invariant-loop-text : goal.invariant-loop-text
invariant-loop-text l = l.copy.items ≡ take l.text-index l.value.items

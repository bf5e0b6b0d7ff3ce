use Rattle.std.proofs.Common.{◌≡◌, take, map}
use Rattle.flat_label.specs.Texts.{side_text, texts_label}
use Rattle.flat_label.proofs.classes.values_of.Given as goal

abbrev pub invariant-loop-side : goal.invariant-loop-side
invariant-loop-side l = l.values.items ≡ map (λ s. side_text s (texts_label l.fresh.items)) (take l.side-index l.sides)

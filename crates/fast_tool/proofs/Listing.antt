-- Outputs at their places.
use Rattle.std.proofs.Common.{ℕ, ◌≡◌, ◌<◌, List, length, map, get_or, sym, ap, ◌∙◌, subst, arith}
use Rattle.std.specs.List.{All}
use Rattle.std.proofs.lemmas.List.{get_or-map, length-map}
use Rattle.std.proofs.lemmas.List.Elements.{All-get_or}
use Rattle.model_tree.specs.Signature.{PlainSignature, HasType}
use Rattle.fast_tree.specs.declared.label.Label.{Label}
use Rattle.fast_cut.specs.declared.Cut.{Cut}
use Rattle.fast_eval.specs.Outputs.{cut_tree}

pub typed_at : (s : PlainSignature) (cs : List (Cut Label)) (k : ℕ) (c : Cut Label) → k < length cs → c ≡ get_or cs k c → All (HasType s) (map cut_tree cs) → HasType s (cut_tree c)
typed_at s cs k c low is all =
    subst (HasType s) (sym (ap cut_tree is ∙ sym (get_or-map cut_tree cs k c (cut_tree c) low))) (All-get_or (HasType s) (map cut_tree cs) k (cut_tree c) (omega (arith, low, length-map cs cut_tree)) all)

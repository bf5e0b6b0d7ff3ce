-- What is known of a table that is built.
use Rattle.std.proofs.Common.{ℕ, ◌≡◌, List, map, sym, subst, subst₂, ◌∙◌}
use Rattle.std.proofs.lemmas.Simd.{map-map}
use Rattle.model_tree.specs.Label.{Label}
use Rattle.model_sta.specs.Automaton.{Rule}
use Rattle.model_sta.specs.Reached.{IsTable, IsComplete}
use Rattle.model_sta.specs.Least.{rows_of, relabel_found, AreClasses}
use Rattle.sta_classes.specs.Rows.{plain_class, founds}
use Rattle.sta_classes.specs.declared.class.Class.{Class}
use Rattle.sta_classes.proofs.Rows.{rows_are}

module _ {V : Type 0} (label : V → Label) (cap : ℕ) (has keeps : Label → Type 0) (cs : List (Class V)) where
  rows_plain : rows_of (founds label cs) ≡ rows_of (map plain_class cs)
  rows_plain = rows_are label cs ∙ sym (map-map (λ f. f.row) plain_class cs)

  pub table_is : (ranks ranks' : List ℕ) (rules rules' : List (List (Rule Label))) → ranks ≡ ranks' → rules ≡ rules' → AreClasses cap ranks has keeps rules (founds label cs) → IsComplete ranks has rules (rows_of (founds label cs))
      → IsTable ranks' has keeps rules' (rows_of (map plain_class cs))
  table_is ranks ranks' rules rules' r m classes complete =
      subst (IsTable ranks' has keeps rules') rows_plain (subst₂ (λ x y. IsTable x has keeps y (rows_of (founds label cs))) r m (record { sets = classes.sets; complete = complete }))

  pub built_is : (ranks ranks' : List ℕ) (rules rules' : List (List (Rule Label))) → ranks ≡ ranks' → rules ≡ rules' → AreClasses cap ranks has keeps rules (founds label cs)
      → AreClasses cap ranks' has keeps rules' (map (relabel_found label) (map plain_class cs))
  built_is ranks ranks' rules rules' r m classes =
      subst (AreClasses cap ranks' has keeps rules') (sym (map-map (relabel_found label) plain_class cs)) (subst₂ (λ x y. AreClasses cap x has keeps y (founds label cs)) r m classes)

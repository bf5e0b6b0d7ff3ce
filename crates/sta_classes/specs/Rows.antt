-- Classes in the code, and their rows by number.
use Rattle.std.specs.Prelude.{ℕ, List, [], map, get_or, Vec}
use Rattle.model_tree.specs.Label.{Label}
use Rattle.model_sta.specs.Sets.{Row}
use Rattle.model_sta.specs.Least.{Found, relabel_found}
use Rattle.sta_classes.specs.declared.class.Class.{Class}

module _ {V : Type 0} where
  abbrev pub plain_class : Class V → Found V
  plain_class c = record { row = c.row; nodes = c.nodes; constructor = c.constructor; label = c.value; children = c.children.items }

  -- the class over labels that it is
  abbrev pub found_of : (V → Label) → Class V → Found Label
  found_of label c = relabel_found label (plain_class c)

  abbrev pub founds : (V → Label) → List (Class V) → List (Found Label)
  founds label cs = map (found_of label) cs

  abbrev pub class_rows : List (Class V) → List Row
  class_rows cs = map (λ c. c.row) cs

  abbrev pub class_rows_at : List (Class V) → List ℕ → List Row
  class_rows_at cs ks = map (λ k. get_or (class_rows cs) k []) ks

  abbrev pub class_counts_at : List (Class V) → List ℕ → List ℕ
  class_counts_at cs ks = map (λ k. get_or (map (λ c. c.nodes) cs) k 0) ks

abbrev pub lists_of : {X A : Type 0} → List (Vec X A) → List (List X)
lists_of vs = map (λ v. v.items) vs

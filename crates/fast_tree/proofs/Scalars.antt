-- Texts of trees, piece by piece.
use Rattle.std.proofs.Common.{◌≡◌, ℕ, ◌+◌, ◌<◌, true, List, [], ◌∷◌, drop, length, get_or, map, refl, sym, subst}
use Rattle.std.proofs.lemmas.Bool.{and_from}
use Rattle.std.specs.List.{list_all}
use Rattle.model_tree.specs.Label.{Label}
use Rattle.model_tree.specs.Tree.{Tree, node, label_of, children_of, list_of, trees_of, relabel, relabel_all}
use Rattle.model_tree.specs.TreeCode.{trees_of-list_of}
use Rattle.model_tree.specs.Scalars.{is_of_scalars, label_has_scalars, has_scalars, have_scalars}
use Rattle.fast_tree.specs.declared.label.Value.{Value}
use Rattle.fast_tree.specs.Entries.{field_of}

-- of values, and of trees
abbrev pub values_have : List Value → Type 0
values_have values = list_all is_of_scalars (map field_of values) ≡ true

module _ {A : Type 0} (f : A → Label) where
  abbrev pub children_have : List (Tree A) → Type 0
  children_have ts = have_scalars (relabel_all f (trees_of ts)) ≡ true

  pub tree_has : (t : Tree A) → label_has_scalars (f (label_of t)) ≡ true → children_have (list_of (children_of t)) → has_scalars (relabel f t) ≡ true
  tree_has (node c l ts) own below = and_from (label_has_scalars (f l)) (have_scalars (relabel_all f ts)) own (subst (λ us. have_scalars (relabel_all f us) ≡ true) (trees_of-list_of ts) below)

-- one more in front of those that have scalars
pub value_more : (rest all : List Value) (v : Value) (later : List Value) → all ≡ v ∷ later → is_of_scalars (field_of v) ≡ true → (values_have all → values_have rest) → values_have later → values_have rest
value_more rest all v later is one so_far have = so_far (subst values_have (sym is) (and_from (is_of_scalars (field_of v)) (list_all is_of_scalars (map field_of later)) one have))

pub child_more : {A : Type 0} (f : A → Label) (rest all : List (Tree A)) (t : Tree A) (later : List (Tree A)) → all ≡ t ∷ later → has_scalars (relabel f t) ≡ true → (children_have f all → children_have f rest) → children_have f later → children_have f rest
child_more f rest all t later is one so_far have = so_far (subst (children_have f) (sym is) (and_from (has_scalars (relabel f t)) (have_scalars (relabel_all f (trees_of later))) one have))

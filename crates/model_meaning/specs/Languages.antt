-- Rules of languages, and a test for the languages of a program in whose rules no definition is demanded.
use Rattle.std.specs.Prelude.{ℕ, Bool, true, not, ◌&&◌, ◌||◌, List, [], ◌∷◌, Option, get_or}
use Rattle.std.specs.List.{list_any, list_all}
use Rattle.std.specs.Option.{option_map_or}
use Rattle.model_tree.specs.Label.{Label}
use Rattle.model_tree.specs.Tree.{node, Trees, no_trees, tree, LabelTree}
use Rattle.model_tree.specs.Signature.{PlainField, PlainSignature, names_of}
use Rattle.model_program.specs.Syntax.{Name, Demand}
use Rattle.model_grammar.specs.Syntax.{Expr, Rule, Item}
use Rattle.model_label.specs.Meaning.{is_true}
use Rattle.model_names.specs.Declared.{same_text, rules_of}
use Rattle.model_meaning.specs.Types.{values_of, input_of}

-- A guard that isn't written always holds.
abbrev pub guard_holds : List PlainField → Option Expr → Label → Bool
guard_holds fields guard l = option_map_or (is_true fields (values_of l)) guard true

-- the rule has the constructor, and its guard holds of the label
abbrev pub heads : PlainSignature → Rule → ℕ → Label → Bool
heads signature r c l = same_text (get_or (names_of signature) c []) r.ctor.text && guard_holds signature.fields r.guard l

module _ (items : List Item) where
  abbrev mutual
    -- whether some rule of the name has the tree's constructor, its guard holds of the label, and the children are in what
    -- it demands of them
    pub is_in : LabelTree → List ℕ → Bool
    is_in (node c l ts) name = list_any (λ r. heads (input_of items name) r c l && are_in ts r.vars r.given) (rules_of items name)

    -- whether each child is in every language that is demanded of its variable
    pub are_in : Trees Label → List Name → List Demand → Bool
    are_in no_trees vars given = true
    are_in (tree t ts) [] given = true
    are_in (tree t ts) (v ∷ vars) given = list_all (λ d. not (same_text d.child.text v.text) || is_in t d.language.text) given && are_in ts vars given

  -- whether a rule applies to a tree of this type
  abbrev pub applies : PlainSignature → Rule → LabelTree → Bool
  applies signature r (node c l ts) = heads signature r c l && are_in ts r.vars r.given

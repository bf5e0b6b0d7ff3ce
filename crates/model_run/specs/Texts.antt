-- Why and where a text, a name or a file of trees is refused.
use Rattle.std.specs.Prelude.{◌≡◌, ◌⊎◌, ◌==◌, ℕ, suc, true, not, nat_lt, List, [], ◌∷◌, ◌++◌, Option, Some, None, length, get_or, encode_utf8_all}
use Rattle.std.specs.Option.{option_and_then}
use Rattle.fast_fault.specs.declared.place.Pos.{Pos}
use Rattle.fast_fault.specs.declared.code.Code.{Code}
use Rattle.fast_fault.specs.declared.code.Code.TheVariants.{UnknownName, WrongKind, WrongRank, WrongSort, NumberRange, TooMany}
use Rattle.fast_fault.specs.declared.refusal.Refusal.{Refusal}
use Rattle.model_tree.specs.Limits.{longest_text}
use Rattle.model_tree.specs.Label.{Label, whole, row}
use Rattle.model_tree.specs.Tree.{node, Trees, no_trees, tree, LabelTree}
use Rattle.model_tree.specs.Kept.{is_kept_field}
use Rattle.model_tree.specs.Signature.{PlainField, PlainSignature, names_of, ranks_of, sort_of}
use Rattle.model_program.specs.Lexeme.{Lexeme}
use Rattle.model_grammar.specs.Syntax.{Expr, number, text, Item}
use Rattle.model_grammar.specs.Grammar.{IsProgram}
use Rattle.model_grammar.specs.TreeFiles.{FileTree, FileTrees, and_tree, trees_of, IsTreeFile}
use Rattle.model_grammar.specs.TreeFiles as file
use Rattle.model_grammar.specs.Texts.{IsText}
use Rattle.model_refusals.specs.Refusals.{IsRefusal}
use Rattle.model_label.specs.Fields.{same_sort}
use Rattle.model_label.specs.Meaning.{value_of}
use Rattle.model_names.specs.Declared.{find_item}
use Rattle.model_names.specs.Kinds.{Kind, own_kind}
use Rattle.model_checks.specs.Sorts.{place_of}
use Rattle.model_checks.specs.Failures.{failure, fails_if, first_among}
use Rattle.model_checks.specs.Programs.{is_well_formed, refusal_of}
use Rattle.model_meaning.specs.Outputs.{number_named, made_label}

-- ---- reading

-- the bytes are a text of the value, and of no other one
pub record IsTheText {A : Type 0} (form : A → List Lexeme → Type 0) (bytes : List ℕ) (value : A) : Type 0 where
  pub is : IsText form bytes value
  pub only : (other : A) → IsText form bytes other → other ≡ value

-- ---- checking

-- the bytes are a text of a program that is well-formed
pub record IsChecked (bytes : List ℕ) (items : List Item) : Type 0 where
  pub text : IsTheText IsProgram bytes items
  pub well_formed : is_well_formed items ≡ true

-- the bytes are no program, or one that isn't well-formed
abbrev pub IsRefused : List ℕ → Code → Pos → Type 0
IsRefused bytes code place =
    IsRefusal IsProgram bytes code place
    ⊎ ((items : List Item) × IsTheText IsProgram bytes items × (refusal_of items ≡ Some (record { code = code; place = place })))

-- ---- a name of the command line

-- the name isn't declared, or is of another kind than the one that is needed
abbrev pub IsNameRefused : List Item → Kind → List ℕ → Code → Type 0
IsNameRefused items kind name UnknownName = find_item items name ≡ None
IsNameRefused items kind name WrongKind = (item : Item) × (find_item items name ≡ Some item) × ¬ (own_kind item.body ≡ Some kind)
IsNameRefused items kind name code = ⊥

abbrev pub IsNameOf : List Item → Kind → List ℕ → Type 0
IsNameOf items kind name = option_and_then (λ item. own_kind item.body) (find_item items name) ≡ Some kind

-- ---- files of trees, whose labels are constants

abbrev pub file_tree_count : FileTrees → ℕ
file_tree_count file.no_trees = 0
file_tree_count (and_tree t ts) = suc (file_tree_count ts)

-- of a constant: it isn't of the field's sort; it is a number outside 64 bits; it is a text of more than 4,096 bytes
abbrev pub sort_failures : PlainField → Expr → List Refusal
sort_failures f e = fails_if (not (same_sort (sort_of (value_of [] [] e)) f.sort)) WrongSort (place_of e)

abbrev pub range_failures : Expr → List Refusal
range_failures (number place n) = fails_if (not (is_kept_field (whole n))) NumberRange place
range_failures e = []

abbrev pub length_failures : Expr → List Refusal
length_failures (text place t) = fails_if (nat_lt longest_text (length (encode_utf8_all t))) TooMany place
length_failures e = []

-- of the labels of a tree
abbrev pub label_failures : List PlainField → List Expr → List Refusal
label_failures fields [] = []
label_failures [] (e ∷ es) = range_failures e ++ (length_failures e ++ label_failures [] es)
label_failures (f ∷ fields) (e ∷ es) = sort_failures f e ++ (range_failures e ++ (length_failures e ++ label_failures fields es))

module _ (signature : PlainSignature) where
  -- of a constructor: the type has none with this name; its rank isn't the number of children
  abbrev pub head_failures : Option ℕ → ℕ → Pos → List Refusal
  head_failures None children place = failure UnknownName place
  head_failures (Some c) children place = fails_if (not (get_or (ranks_of signature) c 0 == children)) WrongRank place

  -- of the trees of a file; there are as many labels as fields
  abbrev mutual
    pub tree_failures : FileTree → List Refusal
    tree_failures (file.node place name labels trees) =
        head_failures (number_named (names_of signature) name.text) (file_tree_count trees) name.place
        ++ (fails_if (not (length signature.fields == length labels)) WrongRank name.place
        ++ (label_failures signature.fields labels ++ trees_failures trees))

    pub trees_failures : FileTrees → List Refusal
    trees_failures file.no_trees = []
    trees_failures (and_tree t ts) = tree_failures t ++ trees_failures ts

  abbrev mutual
    -- the tree that one of a file stands for
    pub StandsFor : FileTree → LabelTree → Type 0
    StandsFor (file.node place name labels trees) (node c l ts) = (number_named (names_of signature) name.text ≡ Some c) × (l ≡ made_label [] signature.fields labels (row [])) × StandFor trees ts

    pub StandFor : FileTrees → Trees Label → Type 0
    StandFor file.no_trees no_trees = Unit {0}
    StandFor file.no_trees (tree t ts) = ⊥
    StandFor (and_tree f fs) no_trees = ⊥
    StandFor (and_tree f fs) (tree t ts) = StandsFor f t × StandFor fs ts

-- a tree of a file, and the place of its first token
pub record PlacedTree : Type 0 where
  pub place : Pos
  pub tree : LabelTree

abbrev pub file_place : FileTree → Pos
file_place (file.node place name labels trees) = place

abbrev pub AreTreesOf : PlainSignature → List FileTree → List PlacedTree → Type 0
AreTreesOf signature [] [] = Unit {0}
AreTreesOf signature [] (t ∷ ts) = ⊥
AreTreesOf signature (f ∷ fs) [] = ⊥
AreTreesOf signature (f ∷ fs) (t ∷ ts) = (t.place ≡ file_place f) × StandsFor signature f t.tree × AreTreesOf signature fs ts

-- the bytes are a file of these trees, and no condition on them fails
pub record IsFileOf (signature : PlainSignature) (bytes : List ℕ) (trees : List PlacedTree) : Type 0 where
  pub read : List FileTree
  pub text : IsTheText IsTreeFile bytes read
  pub sound : trees_failures signature (trees_of read) ≡ []
  pub are : AreTreesOf signature read trees

-- the bytes are no file of trees, or of trees of which a condition fails
abbrev pub IsFileRefused : PlainSignature → List ℕ → Code → Pos → Type 0
IsFileRefused signature bytes code place =
    IsRefusal IsTreeFile bytes code place
    ⊎ ((read : List FileTree) × IsTheText IsTreeFile bytes read × (first_among None (trees_failures signature (trees_of read)) ≡ Some (record { code = code; place = place })))

-- Tree types as plain data, and the trees that have a type.
use Rattle.std.specs.Prelude.{◌≡◌, ℕ, ◌<◌, Bool, true, false, ◌&&◌, List, [], ◌∷◌, map, length, get_or}
use Rattle.model_tree.specs.Label.{Field, whole, truth, text, Label, row, pair}
use Rattle.model_tree.specs.Tree.{node, Trees, no_trees, tree, list_of, LabelTree}

-- what the values of a field are
pub data Sort : Type 0 where
  wholes : Sort
  truths : Sort
  texts : Sort

-- a field of the type's labels; a name is its characters
pub record PlainField : Type 0 where
  pub name : List ℕ
  pub sort : Sort

-- a constructor, and the number of children that its trees have
pub record PlainConstructor : Type 0 where
  pub name : List ℕ
  pub rank : ℕ

pub record PlainSignature : Type 0 where
  pub name : List ℕ
  pub fields : List PlainField
  pub constructors : List PlainConstructor

abbrev pub sorts_of : PlainSignature → List Sort
sorts_of signature = map (λ f. f.sort) signature.fields

abbrev pub ranks_of : PlainSignature → List ℕ
ranks_of signature = map (λ c. c.rank) signature.constructors

abbrev pub names_of : PlainSignature → List (List ℕ)
names_of signature = map (λ c. c.name) signature.constructors

abbrev pub sort_of : Field → Sort
sort_of (whole n) = wholes
sort_of (truth b) = truths
sort_of (text t) = texts

-- whether the value may stand in a field of the sort
abbrev pub has_sort : Sort → Field → Bool
has_sort wholes (whole n) = true
has_sort wholes (truth b) = false
has_sort wholes (text t) = false
has_sort truths (whole n) = false
has_sort truths (truth b) = true
has_sort truths (text t) = false
has_sort texts (whole n) = false
has_sort texts (truth b) = false
has_sort texts (text t) = true

-- whether there is a value for each sort, which has it, and no other value
abbrev pub have_sorts : List Sort → List Field → Bool
have_sorts [] [] = true
have_sorts [] (f ∷ fs) = false
have_sorts (s ∷ ss) [] = false
have_sorts (s ∷ ss) (f ∷ fs) = has_sort s f && have_sorts ss fs

-- the label has a value of the right sort for each field, and no other values
abbrev pub HasSorts : List Sort → Label → Type 0
HasSorts sorts (row values) = have_sorts sorts values ≡ true
HasSorts sorts (pair l m) = ⊥

module _ (signature : PlainSignature) where
  abbrev mutual
    -- the constructor is one of the type's, the children are as many as its rank, the label has the sorts of the fields, and each child has the type too
    pub HasType : LabelTree → Type 0
    HasType (node c l ts) = (c < length (ranks_of signature)) × (length (list_of ts) ≡ get_or (ranks_of signature) c 0) × HasSorts (sorts_of signature) l × EachHasType ts

    pub EachHasType : Trees Label → Type 0
    EachHasType no_trees = Unit {0}
    EachHasType (tree t ts) = HasType t × EachHasType ts

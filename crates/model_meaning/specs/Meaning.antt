-- What expressions mean: of typed trees, those that are in a language, and the pairs that a transformation relates.
use Rattle.std.specs.Prelude.{◌⊎◌, ℕ, zero, suc, List, Option, Some, None, length}
use Rattle.std.specs.Option.{option_map_or}
use Rattle.model_tree.specs.Tree.{LabelTree}
use Rattle.model_tree.specs.Signature.{PlainSignature, HasType}
use Rattle.model_grammar.specs.declared.Op1.TheVariants.{Complement, Minimize, Domain, GetWitness}
use Rattle.model_grammar.specs.declared.Op2.TheVariants.{Intersect, Union, Difference, PreImage, Compose, Restrict, RestrictOut, Apply}
use Rattle.model_grammar.specs.Syntax.{X, named, one, two, literal, Rule, Item}
use Rattle.model_names.specs.Declared.{find_type}
use Rattle.model_names.specs.Kinds as names
use Rattle.model_meaning.specs.Types.{signature_of, no_signature}
use Rattle.model_meaning.specs.Reached.{definition_of}
use Rattle.model_meaning.specs.Outputs.{output_by}
use Rattle.model_meaning.specs.Names.{Definitions, IsIn, AppliesBy, Gives}

-- Where the definitions mean D. A complement has all trees of the type that its operand lacks: whoever speaks of a tree says that it has the type.
module _ (items : List Item) (D : Definitions) where
  abbrev mutual
    -- the tree is in the language
    pub IsOf : X → LabelTree → Type 0
    IsOf (named n) t = IsIn items D n.text t
    IsOf (one Complement place x) t = ¬ (IsOf x t)
    IsOf (one Minimize place x) t = IsOf x t
    IsOf (one Domain place x) t = (u : LabelTree) × Relates x t u
    IsOf (one GetWitness place x) t = ⊥
    IsOf (two Intersect place x y) t = IsOf x t × IsOf y t
    IsOf (two Union place x y) t = IsOf x t ⊎ IsOf y t
    IsOf (two Difference place x y) t = IsOf x t × ¬ (IsOf y t)
    IsOf (two PreImage place x y) t = (u : LabelTree) × Relates x t u × IsOf y u
    IsOf (two Compose place x y) t = ⊥
    IsOf (two Restrict place x y) t = ⊥
    IsOf (two RestrictOut place x y) t = ⊥
    IsOf (two Apply place x y) t = ⊥
    IsOf (literal name labels xs) t = ⊥

    -- the transformation relates the first tree to the second
    pub Relates : X → LabelTree → LabelTree → Type 0
    Relates (named n) t u = Gives items D (output_by n.text) t u
    Relates (one op place x) t u = ⊥
    Relates (two Compose place x y) t w = (u : LabelTree) × Relates x t u × Relates y u w
    Relates (two Restrict place x y) t u = Relates x t u × IsOf y t
    Relates (two RestrictOut place x y) t u = Relates x t u × IsOf y u
    Relates (two Intersect place x y) t u = ⊥
    Relates (two Union place x y) t u = ⊥
    Relates (two Difference place x y) t u = ⊥
    Relates (two PreImage place x y) t u = ⊥
    Relates (two Apply place x y) t u = ⊥
    Relates (literal name labels xs) t u = ⊥

-- what the name of a definition means by its expression, in which the definitions mean D
abbrev pub HasByValue : List Item → Definitions → Option X → LabelTree → Type 0
HasByValue items D None t = ⊥
HasByValue items D (Some x) t = IsOf items D x t

abbrev pub LinksByValue : List Item → Definitions → Option X → LabelTree → LabelTree → Type 0
LinksByValue items D None t u = ⊥
LinksByValue items D (Some x) t u = Relates items D x t u

abbrev pub nothing : Definitions
nothing = record { Has = λ d t. ⊥; Links = λ d t u. ⊥ }

-- A definition means what its expression does, followed so many definitions deep; beyond that, nothing.
abbrev pub followed : List Item → ℕ → Definitions
followed items zero = nothing
followed items (suc k) = record {
  Has = λ d t. HasByValue items (followed items k) (definition_of items d) t;
  Links = λ d t u. LinksByValue items (followed items k) (definition_of items d) t u;
}

-- As deep as the program has items: where no definition depends on itself, they are inside each other no deeper.
abbrev pub meaning : List Item → Definitions
meaning items = followed items (length items)

module _ (items : List Item) where
  abbrev pub IsInLanguage : X → LabelTree → Type 0
  IsInLanguage x t = IsOf items (meaning items) x t

  abbrev pub IsRelated : X → LabelTree → LabelTree → Type 0
  IsRelated x t u = Relates items (meaning items) x t u

  -- the transformation with this name has the output u on t
  abbrev pub HasOutput : List ℕ → LabelTree → LabelTree → Type 0
  HasOutput q t u = Gives items (meaning items) (output_by q) t u

  -- a rule applies to a tree of this type
  abbrev pub Applies : PlainSignature → Rule → LabelTree → Type 0
  Applies signature r t = AppliesBy items (meaning items) signature r t

  -- a type by its name; no tree has a type that isn't there
  abbrev pub signature_named : Option (List ℕ) → PlainSignature
  signature_named None = no_signature
  signature_named (Some name) = option_map_or signature_of (find_type items name) no_signature

  -- the type of the trees of a language, or of the inputs of a transformation, and that of its outputs
  abbrev pub input_type : X → PlainSignature
  input_type x = signature_named (names.type_of items x)

  abbrev pub output_type : X → PlainSignature
  output_type x = signature_named (names.output_of items x)

-- A tree of a language: it has the type, and is in it.
pub record IsTreeOf (items : List Item) (x : X) (t : LabelTree) : Type 0 where
  pub typed : HasType (input_type items x) t
  pub inside : IsInLanguage items x t

-- The languages and the relations that an expression is made of, and the trees that they tell apart.
use Rattle.std.specs.Prelude.{◌≡◌, ◌⊎◌, ◌<◌, ℕ, Bool, true, false, List, [], ◌∷◌, Some, length, slice_get}
use Rattle.std.specs.List.{All, Contains}
use Rattle.fast_fault.specs.declared.place.Pos.{Pos}
use Rattle.model_tree.specs.Tree.{LabelTree}
use Rattle.model_tree.specs.Signature.{HasType}
use Rattle.model_program.specs.Syntax.{Name}
use Rattle.model_grammar.specs.declared.Op1.TheVariants.{Complement, Minimize, Domain, GetWitness}
use Rattle.model_grammar.specs.declared.Op2.TheVariants.{Intersect, Union, Difference, PreImage, Compose, Restrict, RestrictOut, Apply}
use Rattle.model_grammar.specs.Syntax.{X, named, one, two, literal, OutRule, Item}
use Rattle.model_sta.specs.EachTwo.{EachTwo}
use Rattle.model_names.specs.Declared.{out_rules_of}
use Rattle.model_names.specs.Kinds.{language, transformation, kind_of, type_of, output_of}
use Rattle.model_meaning.specs.Types.{input_of}
use Rattle.model_meaning.specs.Meaning.{IsInLanguage, IsRelated, Applies, signature_named}
use Rattle.model_meaning.specs.Truth.{ExactlyOne}
use Rattle.model_meaning.specs.Reached.{Reaches, Opens}

-- ---- descriptions of languages and of relations, and what they hold of

mutual
  pub data LanguagePart : Type 0 where
    -- the meaning of an expression
    meant : X → LanguagePart
    -- the trees to which two rules of a transformation apply
    both_apply : List ℕ → OutRule → OutRule → LanguagePart
    -- the trees in all of the first and in none of the second
    class : LanguageParts → LanguageParts → LanguagePart
    -- the trees in one of these
    joined : LanguageParts → LanguagePart
    -- the trees that the relation relates to some tree in all of these
    sources : RelationPart → LanguageParts → LanguagePart

  pub data RelationPart : Type 0 where
    -- the meaning of an expression
    relation : X → RelationPart
    -- each tree and itself
    identity : RelationPart
    -- the pairs of the first and the last of three trees that the two relations relate in turn, the one between in all of these
    through : RelationPart → RelationPart → LanguageParts → RelationPart

  pub data LanguageParts : Type 0 where
    no_parts : LanguageParts
    and_part : LanguagePart → LanguageParts → LanguageParts

module _ (items : List Item) where
  abbrev mutual
    -- the tree is in the language that is described
    pub IsInPart : LanguagePart → LabelTree → Type 0
    IsInPart (meant e) t = IsInLanguage items e t
    IsInPart (both_apply q r s) t = Applies items (input_of items q) r.rule t × Applies items (input_of items q) s.rule t
    IsInPart (class ds es) t = IsInAllParts ds t × IsInNoPart es t
    IsInPart (joined ds) t = IsInSomePart ds t
    IsInPart (sources r ds) t = (u : LabelTree) × RelatesByPart r t u × IsInAllParts ds u

    -- the relation that is described relates the two trees
    pub RelatesByPart : RelationPart → LabelTree → LabelTree → Type 0
    RelatesByPart (relation e) t u = IsRelated items e t u
    RelatesByPart identity t u = t ≡ u
    RelatesByPart (through r s ds) t w = (u : LabelTree) × RelatesByPart r t u × RelatesByPart s u w × IsInAllParts ds u

    pub IsInAllParts : LanguageParts → LabelTree → Type 0
    IsInAllParts no_parts t = Unit {0}
    IsInAllParts (and_part d ds) t = IsInPart d t × IsInAllParts ds t

    pub IsInNoPart : LanguageParts → LabelTree → Type 0
    IsInNoPart no_parts t = Unit {0}
    IsInNoPart (and_part d ds) t = ¬ (IsInPart d t) × IsInNoPart ds t

    pub IsInSomePart : LanguageParts → LabelTree → Type 0
    IsInSomePart no_parts t = ⊥
    IsInSomePart (and_part d ds) t = IsInPart d t ⊎ IsInSomePart ds t

-- ---- operations

-- the languages and transformations that an operation is of
abbrev pub operands : X → List X
operands (named n) = []
operands (one op place x) = x ∷ []
operands (two Intersect place x y) = x ∷ y ∷ []
operands (two Union place x y) = x ∷ y ∷ []
operands (two Difference place x y) = x ∷ y ∷ []
operands (two PreImage place x y) = x ∷ y ∷ []
operands (two Compose place x y) = x ∷ y ∷ []
operands (two Restrict place x y) = x ∷ y ∷ []
operands (two RestrictOut place x y) = x ∷ y ∷ []
operands (two Apply place x y) = x ∷ []
operands (literal name labels xs) = []

-- the operations that join classes of their operands
abbrev pub joins_classes : X → Bool
joins_classes (named n) = false
joins_classes (one Complement place x) = true
joins_classes (one Minimize place x) = true
joins_classes (one Domain place x) = false
joins_classes (one GetWitness place x) = false
joins_classes (two Intersect place x y) = false
joins_classes (two Union place x y) = false
joins_classes (two Difference place x y) = true
joins_classes (two PreImage place x y) = false
joins_classes (two Compose place x y) = false
joins_classes (two Restrict place x y) = false
joins_classes (two RestrictOut place x y) = false
joins_classes (two Apply place x y) = false
joins_classes (literal name labels xs) = false

-- the operations that ask for outputs of a transformation: the first operand, and the second, by which they are judged
abbrev pub LooksBack : X → X → X → Type 0
LooksBack (named n) x y = ⊥
LooksBack (one op place z) x y = ⊥
LooksBack (two Intersect place f a) x y = ⊥
LooksBack (two Union place f a) x y = ⊥
LooksBack (two Difference place f a) x y = ⊥
LooksBack (two PreImage place f a) x y = (x ≡ f) × (y ≡ a)
LooksBack (two Compose place f a) x y = (x ≡ f) × (y ≡ a)
LooksBack (two Restrict place f a) x y = ⊥
LooksBack (two RestrictOut place f a) x y = (x ≡ f) × (y ≡ a)
LooksBack (two Apply place f a) x y = ⊥
LooksBack (literal name labels xs) x y = ⊥

-- ---- the parts of an expression; a type is given by its name

module _ (items : List Item) where
  -- the expression is a language on the type, or a transformation from one type to another
  abbrev pub IsOn : X → List ℕ → Type 0
  IsOn e type = (kind_of items e ≡ Some language) × (type_of items e ≡ Some type)

  abbrev pub IsFrom : X → List ℕ → List ℕ → Type 0
  IsFrom e from into = (kind_of items e ≡ Some transformation) × (type_of items e ≡ Some from) × (output_of items e ≡ Some into)

-- two rules of a transformation, the first before the second
pub record AreTwoRules (items : List Item) (q : List ℕ) (r s : OutRule) : Type 0 where
  pub first : ℕ
  pub second : ℕ
  pub in_order : first < second
  pub is_first : slice_get (out_rules_of items q) first ≡ Some r
  pub is_second : slice_get (out_rules_of items q) second ≡ Some s

mutual
  -- A language on the type of which the expression is made. Each expression is made of its own meaning and of what its operands are made of.
  -- A name is made of what it reaches, and of what the definitions that it reaches are made of.
  pub data IsPart (items : List Item) : X → List ℕ → LanguagePart → Type 0 where
    own_language : (e : X) (type : List ℕ) → IsOn items e type → IsPart items e type (meant e)
    reached_language : (n m : Name) (type : List ℕ) → Reaches items n.text m.text → IsOn items (named m) type → IsPart items (named n) type (meant (named m))
    two_rules : (n m : Name) (type into : List ℕ) (r s : OutRule) → Reaches items n.text m.text → IsFrom items (named m) type into → AreTwoRules items m.text r s → IsPart items (named n) type (both_apply m.text r s)
    opened_language : (n : Name) (x : X) (type : List ℕ) (d : LanguagePart) → Opens items n.text x → IsPart items x type d → IsPart items (named n) type d
    language_of_operand : (e x : X) (type : List ℕ) (d : LanguagePart) → Contains (operands e) x → IsPart items x type d → IsPart items e type d
    -- complement, difference and the least automaton join classes on the type of their operands
    of_classes : (e : X) (type : List ℕ) (d : LanguagePart) → joins_classes e ≡ true → IsOn items e type → AreClassesOf items (operands e) type d → IsPart items e type d
    -- the inputs of a transformation
    all_sources : (place : Pos) (x : X) (type into : List ℕ) (r : RelationPart) → IsRelationOrIdentity items x type into r → IsPart items (one Domain place x) type (sources r no_parts)
    -- the inputs with some output in all of some parts
    some_sources : (e x y : X) (type into : List ℕ) (r : RelationPart) (ds : LanguageParts) → LooksBack e x y → IsRelationOrIdentity items x type into r → ArePartsOf items (y ∷ []) into ds → IsPart items e type (sources r ds)

  -- each of these is a part of one of some expressions
  pub data ArePartsOf (items : List Item) : List X → List ℕ → LanguageParts → Type 0 where
    no_more_parts : (xs : List X) (type : List ℕ) → ArePartsOf items xs type no_parts
    one_more_part : (xs : List X) (type : List ℕ) (x : X) (d : LanguagePart) (ds : LanguageParts) → Contains xs x → IsPart items x type d → ArePartsOf items xs type ds → ArePartsOf items xs type (and_part d ds)

  -- a class of parts of some expressions, or several of these joined
  pub data AreClassesOf (items : List Item) : List X → List ℕ → LanguagePart → Type 0 where
    one_class : (xs : List X) (type : List ℕ) (ds es : LanguageParts) → ArePartsOf items xs type ds → ArePartsOf items xs type es → AreClassesOf items xs type (class ds es)
    joined_classes : (xs : List X) (type : List ℕ) (ds : LanguageParts) → AreAllClasses items xs type ds → AreClassesOf items xs type (joined ds)

  pub data AreAllClasses (items : List Item) : List X → List ℕ → LanguageParts → Type 0 where
    no_more_classes : (xs : List X) (type : List ℕ) → AreAllClasses items xs type no_parts
    one_more_class : (xs : List X) (type : List ℕ) (ds es rest : LanguageParts) → ArePartsOf items xs type ds → ArePartsOf items xs type es → AreAllClasses items xs type rest → AreAllClasses items xs type (and_part (class ds es) rest)

  -- a relation of which the expression is made, or the identity on a type
  pub data IsRelationOrIdentity (items : List Item) : X → List ℕ → List ℕ → RelationPart → Type 0 where
    the_identity : (x : X) (type : List ℕ) → IsRelationOrIdentity items x type type identity
    a_relation : (x : X) (from into : List ℕ) (r : RelationPart) → IsRelationPart items x from into r → IsRelationOrIdentity items x from into r

  -- A relation from one type to another of which the expression is made.
  pub data IsRelationPart (items : List Item) : X → List ℕ → List ℕ → RelationPart → Type 0 where
    own_relation : (e : X) (from into : List ℕ) → IsFrom items e from into → IsRelationPart items e from into (relation e)
    reached_relation : (n m : Name) (from into : List ℕ) → Reaches items n.text m.text → IsFrom items (named m) from into → IsRelationPart items (named n) from into (relation (named m))
    opened_relation : (n : Name) (x : X) (from into : List ℕ) (r : RelationPart) → Opens items n.text x → IsRelationPart items x from into r → IsRelationPart items (named n) from into r
    relation_of_operand : (e x : X) (from into : List ℕ) (r : RelationPart) → Contains (operands e) x → IsRelationPart items x from into r → IsRelationPart items e from into r
    -- the pairs whose output is in all of some parts
    some_pairs : (e x y : X) (from into : List ℕ) (r : RelationPart) (ds : LanguageParts) → LooksBack e x y → IsRelationOrIdentity items x from into r → ArePartsOf items (y ∷ []) into ds → IsRelationPart items e from into (through r identity ds)
    -- the pairs through a tree in all of some parts
    some_compositions : (place : Pos) (x y : X) (from into last : List ℕ) (r s : RelationPart) (ds : LanguageParts) → IsRelationOrIdentity items x from into r → IsRelationOrIdentity items y into last s → ArePartsOf items (y ∷ []) into ds
        → IsRelationPart items (two Compose place x y) from last (through r s ds)

-- ---- trees that are told apart

-- a part of one of the expressions holds of exactly one of two trees of the type
abbrev pub AreApart : List Item → List X → List ℕ → LabelTree → LabelTree → Type 0
AreApart items es type s t = (e : X) × Contains es e × (d : LanguagePart) × IsPart items e type d × ExactlyOne (IsInPart items d s) (IsInPart items d t)

-- more than so many trees of one type, each two of them told apart by the expressions
pub record HasMoreTrees (items : List Item) (es : List X) (most : ℕ) : Type 0 where
  pub type : List ℕ
  pub trees : List LabelTree
  pub typed : All (HasType (signature_named items (Some type))) trees
  pub apart : EachTwo (AreApart items es type) trees
  pub more : most < length trees

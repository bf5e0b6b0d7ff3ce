-- The expressions that can be evaluated.
use Rattle.std.specs.Prelude.{◌≡◌, ◌⊎◌, ℕ, Bool, true, false, List, Option, Some, None, is_some}
use Rattle.model_grammar.specs.declared.Op1.{Op1}
use Rattle.model_grammar.specs.declared.Op1.TheVariants.{Complement, Minimize, Domain, GetWitness}
use Rattle.model_grammar.specs.declared.Op2.{Op2}
use Rattle.model_grammar.specs.declared.Op2.TheVariants.{Intersect, Union, Difference, PreImage, Compose, Restrict, RestrictOut, Apply}
use Rattle.model_grammar.specs.Syntax.{X, named, one, two, literal, Claim, equal, member, empty, type_check, Item}
use Rattle.model_names.specs.Kinds.{Kind, language, transformation, a_tree, taken_by_one, taken_first, taken_second, kind_of}
use Rattle.program_check.specs.Tells.{Told}
use Rattle.model_run.specs.Parts.{IsOn, IsFrom}
use Rattle.model_run.specs.Plain.{IsPlain, IsLinear}
use Rattle.fast_build.specs.Items.{find_lang}
use Rattle.fast_build.specs.Transformations.{find_trans}
use Rattle.fast_eval.specs.declared.built.Built.{Built}
use Rattle.fast_eval.specs.declared.names.Taken.{Taken}
use Rattle.fast_eval.specs.declared.names.Taken.TheVariants as taken
use Rattle.fast_eval.specs.Table.{HasBuilt}

-- ---- names

-- P holds of each name that stands for an operand, and of the kind that is taken there; of the kind where the expression is the name
abbrev pub EachName : (Kind → List ℕ → Type 0) → Kind → X → Type 0
EachName P kind (named n) = P kind n.text
EachName P kind (one op place x) = EachName P (taken_by_one op) x
EachName P kind (two op place x y) = EachName P (taken_first op) x × EachName P (taken_second op) y
EachName P kind (literal name labels xs) = Unit {0}

abbrev pub plain_taken : Taken → Kind
plain_taken taken.Language = language
plain_taken taken.Transformation = transformation
plain_taken taken.Tree = a_tree

-- each has a language, or a transformation
abbrev pub AreNamed : Kind → Built → X → Type 0
AreNamed kind b = EachName (λ k name. HasBuilt k b name) kind

-- the name is that of a `lang`, or of a `trans`
abbrev pub has_rules : Kind → List Item → List ℕ → Bool
has_rules language items name = is_some (find_lang items name)
has_rules transformation items name = is_some (find_trans items name)
has_rules a_tree items name = false

-- it is that, or it has a language, or a transformation
abbrev pub IsReadyName : Kind → List Item → Built → List ℕ → Type 0
IsReadyName kind items b name = (has_rules kind items name ≡ true) ⊎ HasBuilt kind b name

abbrev pub AreReady : Kind → List Item → Built → X → Type 0
AreReady kind items b = EachName (λ k name. IsReadyName k items b name) kind

-- in an expression of a language, and of a transformation
abbrev pub AreKnown : List Item → Built → X → Type 0
AreKnown = AreReady language

abbrev pub IsTransKnown : List Item → Built → X → Type 0
IsTransKnown = AreReady transformation

-- ---- operations

-- the operations that give a language of one, and of two
abbrev pub changes_one : Op1 → Bool
changes_one Complement = true
changes_one Minimize = true
changes_one Domain = false
changes_one GetWitness = false

abbrev pub joins_two : Op2 → Bool
joins_two Intersect = true
joins_two Union = true
joins_two Difference = true
joins_two PreImage = false
joins_two Compose = false
joins_two Restrict = false
joins_two RestrictOut = false
joins_two Apply = false

abbrev mutual
  -- made by operations of names of languages and transformations, and a language on the type
  pub IsMadeOn : List Item → List ℕ → X → Type 0
  IsMadeOn items type (named n) = IsOn items (named n) type
  IsMadeOn items type (one Complement place x) = IsMadeOn items type x
  IsMadeOn items type (one Minimize place x) = IsMadeOn items type x
  IsMadeOn items type (one Domain place f) = (into : List ℕ) × IsMadeFrom items type into f
  IsMadeOn items type (one GetWitness place x) = ⊥
  IsMadeOn items type (two Intersect place x y) = IsMadeOn items type x × IsMadeOn items type y
  IsMadeOn items type (two Union place x y) = IsMadeOn items type x × IsMadeOn items type y
  IsMadeOn items type (two Difference place x y) = IsMadeOn items type x × IsMadeOn items type y
  IsMadeOn items type (two PreImage place f y) = (into : List ℕ) × IsMadeFrom items type into f × IsMadeOn items into y
  IsMadeOn items type (two Compose place x y) = ⊥
  IsMadeOn items type (two Restrict place x y) = ⊥
  IsMadeOn items type (two RestrictOut place x y) = ⊥
  IsMadeOn items type (two Apply place x y) = ⊥
  IsMadeOn items type (literal name labels xs) = ⊥

  -- the same, and a transformation between the types; of two that are composed the first is plain or the second linear
  pub IsMadeFrom : List Item → List ℕ → List ℕ → X → Type 0
  IsMadeFrom items from into (named n) = IsFrom items (named n) from into
  IsMadeFrom items from into (one op place x) = ⊥
  IsMadeFrom items from into (two Restrict place f y) = IsMadeFrom items from into f × IsMadeOn items from y
  IsMadeFrom items from into (two RestrictOut place f y) = IsMadeFrom items from into f × IsMadeOn items into y
  IsMadeFrom items from into (two Intersect place x y) = ⊥
  IsMadeFrom items from into (two Union place x y) = ⊥
  IsMadeFrom items from into (two Difference place x y) = ⊥
  IsMadeFrom items from into (two PreImage place x y) = ⊥
  IsMadeFrom items from into (two Compose place x y) = (middle : List ℕ) × IsMadeFrom items from middle x × IsMadeFrom items middle into y × (IsPlain items x ⊎ IsLinear items y)
  IsMadeFrom items from into (two Apply place x y) = ⊥
  IsMadeFrom items from into (literal name labels xs) = ⊥

-- a language on the type, or a transformation from it
abbrev pub IsMadeAt : List Item → List ℕ → X → Type 0
IsMadeAt items type x = IsMadeOn items type x ⊎ ((into : List ℕ) × IsMadeFrom items type into x)

-- ---- types

-- the name of the type of a language, or of the inputs of a transformation
abbrev pub if_inputs : Kind → List ℕ → Option (List ℕ)
if_inputs language type = Some type
if_inputs transformation type = Some type
if_inputs a_tree type = None

abbrev pub inputs_in : Option Told → Option (List ℕ)
inputs_in None = None
inputs_in (Some told) = if_inputs told.0 told.1.0

-- that of its outputs
abbrev pub if_outputs : Kind → Option (List ℕ) → Option (List ℕ)
if_outputs language type = None
if_outputs transformation type = type
if_outputs a_tree type = None

abbrev pub outputs_in : Option Told → Option (List ℕ)
outputs_in None = None
outputs_in (Some told) = if_outputs told.0 told.1.1

-- ---- statements

-- of languages on the type, and of transformations from it
abbrev pub IsClaimOn : List Item → List ℕ → Claim → Type 0
IsClaimOn items type (equal x y) = IsMadeOn items type x × IsMadeOn items type y
IsClaimOn items type (member x y) = ⊥
IsClaimOn items type (empty x) = IsMadeAt items type x
IsClaimOn items type (type_check x f y) = (into : List ℕ) × IsMadeOn items type x × IsMadeFrom items type into f × IsMadeOn items into y

-- the names in an expression of either kind are known
abbrev pub IsKnownAt : List Item → Built → X → Type 0
IsKnownAt items b x = (kind : Kind) → kind_of items x ≡ Some kind → AreReady kind items b x

-- whose names are known
abbrev pub IsClaimKnown : List Item → Built → Claim → Type 0
IsClaimKnown items b (equal x y) = AreKnown items b x × AreKnown items b y
IsClaimKnown items b (member x y) = Unit {0}
IsClaimKnown items b (empty x) = IsKnownAt items b x
IsClaimKnown items b (type_check x f y) = AreKnown items b x × IsTransKnown items b f × AreKnown items b y

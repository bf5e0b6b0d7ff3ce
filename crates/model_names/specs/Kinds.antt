-- What an expression stands for: a language, a transformation or a tree, and of which types.
use Rattle.std.specs.Prelude.{ℕ, Bool, true, false, List, Option, Some, None, cond}
use Rattle.std.specs.Option.{option_and_then, option_map}
use Rattle.model_program.specs.Syntax.{Name}
use Rattle.model_grammar.specs.declared.Op1.{Op1}
use Rattle.model_grammar.specs.declared.Op1.TheVariants.{Complement, Minimize, Domain, GetWitness}
use Rattle.model_grammar.specs.declared.Op2.{Op2}
use Rattle.model_grammar.specs.declared.Op2.TheVariants.{Intersect, Union, Difference, PreImage, Compose, Restrict, RestrictOut, Apply}
use Rattle.model_grammar.specs.Syntax.{X, named, one, two, literal, Body, sorts, tree, lang, trans, def, assertion, Item}
use Rattle.model_names.specs.Declared.{find_type, find_item}

pub data Kind : Type 0 where
  language : Kind
  transformation : Kind
  a_tree : Kind

abbrev pub same_kind : Kind → Kind → Bool
same_kind language language = true
same_kind language transformation = false
same_kind language a_tree = false
same_kind transformation language = false
same_kind transformation transformation = true
same_kind transformation a_tree = false
same_kind a_tree language = false
same_kind a_tree transformation = false
same_kind a_tree a_tree = true

-- a definition with an output type is a transformation
abbrev pub defined_kind : Option Name → Kind
defined_kind None = language
defined_kind (Some into) = transformation

abbrev pub own_kind : Body → Option Kind
own_kind (sorts t) = None
own_kind (tree t) = Some a_tree
own_kind (lang l) = Some language
own_kind (trans t) = Some transformation
own_kind (def d) = Some (defined_kind d.into)
own_kind (assertion a) = None

-- the type of whose trees an item speaks: those of a language, the inputs of a transformation, or a tree's own
abbrev pub own_type : Body → Option Name
own_type (sorts t) = None
own_type (tree t) = Some t.of
own_type (lang l) = Some l.of
own_type (trans t) = Some t.from
own_type (def d) = Some d.from
own_type (assertion a) = None

-- the type of the outputs of a transformation
abbrev pub own_output : Body → Option Name
own_output (sorts t) = None
own_output (tree t) = None
own_output (lang l) = None
own_output (trans t) = Some t.into
own_output (def d) = d.into
own_output (assertion a) = None

-- what an operation on one operand takes, and what it gives
abbrev pub taken_by_one : Op1 → Kind
taken_by_one Complement = language
taken_by_one Minimize = language
taken_by_one Domain = transformation
taken_by_one GetWitness = language

abbrev pub given_by_one : Op1 → Kind
given_by_one Complement = language
given_by_one Minimize = language
given_by_one Domain = language
given_by_one GetWitness = a_tree

-- what an operation takes as its first and as its second operand, and what it gives
abbrev pub taken_first : Op2 → Kind
taken_first Intersect = language
taken_first Union = language
taken_first Difference = language
taken_first PreImage = transformation
taken_first Compose = transformation
taken_first Restrict = transformation
taken_first RestrictOut = transformation
taken_first Apply = transformation

abbrev pub taken_second : Op2 → Kind
taken_second Intersect = language
taken_second Union = language
taken_second Difference = language
taken_second PreImage = language
taken_second Compose = transformation
taken_second Restrict = language
taken_second RestrictOut = language
taken_second Apply = a_tree

abbrev pub given_by_two : Op2 → Kind
given_by_two Intersect = language
given_by_two Union = language
given_by_two Difference = language
given_by_two PreImage = language
given_by_two Compose = transformation
given_by_two Restrict = transformation
given_by_two RestrictOut = transformation
given_by_two Apply = a_tree

-- what is said of an operand, where it is of the kind that is taken
abbrev pub if_kind : {A : Type 0} → Kind → Option Kind → Option A → Option A
if_kind taken None said = None
if_kind taken (Some kind) said = cond (same_kind kind taken) said None

module _ (items : List Item) where
  -- a type that is declared, by its name
  abbrev pub declared_type : Name → Option (List ℕ)
  declared_type name = option_map (λ t. t.name.text) (find_type items name.text)

  -- An operation gives its kind whatever its operands are.
  abbrev pub kind_of : X → Option Kind
  kind_of (named name) = option_and_then (λ item. own_kind item.body) (find_item items name.text)
  kind_of (one op place x) = Some (given_by_one op)
  kind_of (two op place x y) = Some (given_by_two op)
  kind_of (literal name labels xs) = Some a_tree

  -- A name has the types that its item declares, an operation those that its operands give it, where they are of the kinds
  -- that it takes. A literal has none of its own.
  abbrev mutual
    -- the type of the trees of a language, of the inputs of a transformation, or of a tree
    pub type_of : X → Option (List ℕ)
    type_of (named name) = option_and_then declared_type (option_and_then (λ item. own_type item.body) (find_item items name.text))
    type_of (one op place x) = if_kind (taken_by_one op) (kind_of x) (type_of x)
    type_of (two Apply place x y) = if_kind transformation (kind_of x) (output_of x)
    type_of (two Intersect place x y) = if_kind language (kind_of x) (type_of x)
    type_of (two Union place x y) = if_kind language (kind_of x) (type_of x)
    type_of (two Difference place x y) = if_kind language (kind_of x) (type_of x)
    type_of (two PreImage place x y) = if_kind transformation (kind_of x) (type_of x)
    type_of (two Compose place x y) = if_kind transformation (kind_of x) (type_of x)
    type_of (two Restrict place x y) = if_kind transformation (kind_of x) (type_of x)
    type_of (two RestrictOut place x y) = if_kind transformation (kind_of x) (type_of x)
    type_of (literal name labels xs) = None

    -- the type of the outputs of a transformation
    pub output_of : X → Option (List ℕ)
    output_of (named name) = option_and_then declared_type (option_and_then (λ item. own_output item.body) (find_item items name.text))
    output_of (one op place x) = None
    output_of (two Compose place x y) = if_kind transformation (kind_of y) (output_of y)
    output_of (two Restrict place x y) = if_kind transformation (kind_of x) (output_of x)
    output_of (two RestrictOut place x y) = if_kind transformation (kind_of x) (output_of x)
    output_of (two Intersect place x y) = None
    output_of (two Union place x y) = None
    output_of (two Difference place x y) = None
    output_of (two PreImage place x y) = None
    output_of (two Apply place x y) = None
    output_of (literal name labels xs) = None

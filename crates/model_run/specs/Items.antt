-- What an item speaks of: its expressions, the compositions in them, and its trees.
use Rattle.std.specs.Prelude.{◌≡◌, ◌⊎◌, ℕ, Bool, true, false, ◌||◌, List, [], ◌∷◌, ◌++◌, Option, Some, None, is_some}
use Rattle.std.specs.List.{Contains}
use Rattle.model_tree.specs.Tree.{LabelTree}
use Rattle.model_tree.specs.Signature.{PlainSignature}
use Rattle.model_grammar.specs.declared.Op1.TheVariants.{Complement, Minimize, Domain, GetWitness}
use Rattle.model_grammar.specs.declared.Op2.TheVariants.{Intersect, Union, Difference, PreImage, Compose, Restrict, RestrictOut, Apply}
use Rattle.model_grammar.specs.Syntax.{X, named, one, two, literal, Xs, no_x, and_x, Claim, equal, member, empty, type_check, Body, sorts, tree, lang, trans, def, assertion, Item}
use Rattle.model_grammar.specs.Places.{nowhere}
use Rattle.model_names.specs.Kinds.{Kind, language, transformation, a_tree, kind_of}
use Rattle.model_meaning.specs.Types.{signature_at}
use Rattle.model_meaning.specs.Meaning.{input_type}
use Rattle.model_meaning.specs.Values.{Printed, IsValue}
use Rattle.model_run.specs.Plain.{IsPlain, IsLinear}

-- ---- the expressions of an item

abbrev mutual
  -- the languages and transformations in a tree expression
  pub used_in : X → List X
  used_in (named n) = []
  used_in (one GetWitness place x) = x ∷ []
  used_in (one Complement place x) = []
  used_in (one Minimize place x) = []
  used_in (one Domain place x) = []
  used_in (two Apply place f x) = f ∷ used_in x
  used_in (two Intersect place x y) = []
  used_in (two Union place x y) = []
  used_in (two Difference place x y) = []
  used_in (two PreImage place x y) = []
  used_in (two Compose place x y) = []
  used_in (two Restrict place x y) = []
  used_in (two RestrictOut place x y) = []
  used_in (literal name labels xs) = used_in_all xs

  pub used_in_all : Xs → List X
  used_in_all no_x = []
  used_in_all (and_x x xs) = used_in x ++ used_in_all xs

abbrev pub claimed : Claim → List X
claimed (equal x y) = x ∷ y ∷ []
claimed (member x y) = used_in x ++ y ∷ []
claimed (empty x) = x ∷ []
claimed (type_check x f y) = x ∷ f ∷ y ∷ []

-- the languages and transformations of an item, as they are written
abbrev pub expressions_in : Body → List X
expressions_in (sorts t) = []
expressions_in (tree t) = used_in t.value
expressions_in (lang l) = []
expressions_in (trans t) = []
expressions_in (def d) = d.value ∷ []
expressions_in (assertion a) = claimed a.claim

-- a transformation is empty where its domain is
abbrev pub judged_empty : Option Kind → X → X
judged_empty (Some transformation) x = one Domain nowhere x
judged_empty (Some language) x = x
judged_empty (Some a_tree) x = x
judged_empty None x = x

-- the expressions by which an item is judged
abbrev pub judged_claim : List Item → Claim → List X
judged_claim items (equal x y) = x ∷ y ∷ []
judged_claim items (member x y) = used_in x ++ y ∷ []
judged_claim items (empty x) = judged_empty (kind_of items x) x ∷ []
judged_claim items (type_check x f y) = two Intersect nowhere x (two PreImage nowhere f (one Complement nowhere y)) ∷ []

abbrev pub judged : List Item → Body → List X
judged items (sorts t) = []
judged items (tree t) = used_in t.value
judged items (lang l) = []
judged items (trans t) = []
judged items (def d) = d.value ∷ []
judged items (assertion a) = judged_claim items a.claim

abbrev mutual
  -- a complement, a difference, a least automaton, a tree that is found or a composition stands in the expression
  pub has_classes : X → Bool
  has_classes (named n) = false
  has_classes (one Complement place x) = true
  has_classes (one Minimize place x) = true
  has_classes (one GetWitness place x) = true
  has_classes (one Domain place x) = has_classes x
  has_classes (two Difference place x y) = true
  has_classes (two Compose place x y) = true
  has_classes (two Intersect place x y) = has_classes x || has_classes y
  has_classes (two Union place x y) = has_classes x || has_classes y
  has_classes (two PreImage place x y) = has_classes x || has_classes y
  has_classes (two Restrict place x y) = has_classes x || has_classes y
  has_classes (two RestrictOut place x y) = has_classes x || has_classes y
  has_classes (two Apply place x y) = has_classes x || has_classes y
  has_classes (literal name labels xs) = some_has_classes xs

  pub some_has_classes : Xs → Bool
  some_has_classes no_x = false
  some_has_classes (and_x x xs) = has_classes x || some_has_classes xs

abbrev pub claim_has_classes : Claim → Bool
claim_has_classes (equal x y) = true
claim_has_classes (member x y) = has_classes x || has_classes y
claim_has_classes (empty x) = true
claim_has_classes (type_check x f y) = true

-- an assertion of equality, emptiness or types, the definition of a transformation, and an item with such an expression
abbrev pub tells_apart : Body → Bool
tells_apart (sorts t) = false
tells_apart (tree t) = has_classes t.value
tells_apart (lang l) = false
tells_apart (trans t) = false
tells_apart (def d) = is_some d.into || has_classes d.value
tells_apart (assertion a) = claim_has_classes a.claim

-- No other item tells trees apart.
pub data TellsApart (items : List Item) : Body → Type 0 where
  by_expressions : (body : Body) → tells_apart body ≡ true → TellsApart items body

-- ---- compositions

abbrev mutual
  -- (compose x y) stands in the expression
  pub IsComposedIn : X → X → X → Type 0
  IsComposedIn x y (named n) = ⊥
  IsComposedIn x y (one op place e) = IsComposedIn x y e
  IsComposedIn x y (two Compose place e f) = ((x ≡ e) × (y ≡ f)) ⊎ IsComposedIn x y e ⊎ IsComposedIn x y f
  IsComposedIn x y (two Intersect place e f) = IsComposedIn x y e ⊎ IsComposedIn x y f
  IsComposedIn x y (two Union place e f) = IsComposedIn x y e ⊎ IsComposedIn x y f
  IsComposedIn x y (two Difference place e f) = IsComposedIn x y e ⊎ IsComposedIn x y f
  IsComposedIn x y (two PreImage place e f) = IsComposedIn x y e ⊎ IsComposedIn x y f
  IsComposedIn x y (two Restrict place e f) = IsComposedIn x y e ⊎ IsComposedIn x y f
  IsComposedIn x y (two RestrictOut place e f) = IsComposedIn x y e ⊎ IsComposedIn x y f
  IsComposedIn x y (two Apply place e f) = IsComposedIn x y e ⊎ IsComposedIn x y f
  IsComposedIn x y (literal name labels xs) = IsComposedInOne x y xs

  pub IsComposedInOne : X → X → Xs → Type 0
  IsComposedInOne x y no_x = ⊥
  IsComposedInOne x y (and_x e es) = IsComposedIn x y e ⊎ IsComposedInOne x y es

-- (compose x y) stands in an expression of the item
pub data IsComposedInItem (items : List Item) (x y : X) : Body → Type 0 where
  in_expression : (body : Body) (e : X) → Contains (expressions_in body) e → IsComposedIn x y e → IsComposedInItem items x y body

-- Each composition of the item has a plain first transformation or a linear second one: only such can be composed.
abbrev pub IsComposable : List Item → Body → Type 0
IsComposable items body = (x y : X) → IsComposedInItem items x y body → IsPlain items x ⊎ IsLinear items y

-- the same of an expression, and of several
abbrev pub AreComposable : List Item → X → Type 0
AreComposable items e = (x y : X) → IsComposedIn x y e → IsPlain items x ⊎ IsLinear items y

abbrev pub AreAllComposable : List Item → List X → Type 0
AreAllComposable items es = (e : X) → Contains es e → AreComposable items e

-- ---- the trees of an item

module _ (items : List Item) (P : PlainSignature → X → Type 0) where
  abbrev mutual
    -- P holds of some tree expression in this one, and of the type that is expected of it
    pub OfSomeTree : PlainSignature → X → Type 0
    OfSomeTree signature (named n) = P signature (named n)
    OfSomeTree signature (one op place x) = P signature (one op place x)
    OfSomeTree signature (two Apply place f x) = P signature (two Apply place f x) ⊎ OfSomeTree (input_type items f) x
    OfSomeTree signature (two Intersect place x y) = ⊥
    OfSomeTree signature (two Union place x y) = ⊥
    OfSomeTree signature (two Difference place x y) = ⊥
    OfSomeTree signature (two PreImage place x y) = ⊥
    OfSomeTree signature (two Compose place x y) = ⊥
    OfSomeTree signature (two Restrict place x y) = ⊥
    OfSomeTree signature (two RestrictOut place x y) = ⊥
    OfSomeTree signature (literal name labels xs) = P signature (literal name labels xs) ⊎ OfSomeTreeIn signature xs

    pub OfSomeTreeIn : PlainSignature → Xs → Type 0
    OfSomeTreeIn signature no_x = ⊥
    OfSomeTreeIn signature (and_x x xs) = OfSomeTree signature x ⊎ OfSomeTreeIn signature xs

  -- of some tree expression in a statement, and in an item
  abbrev pub OfSomeTreeOf : Claim → Type 0
  OfSomeTreeOf (equal x y) = ⊥
  OfSomeTreeOf (member x y) = OfSomeTree (input_type items y) x
  OfSomeTreeOf (empty x) = ⊥
  OfSomeTreeOf (type_check x f y) = ⊥

  abbrev pub OfItem : Body → Type 0
  OfItem (sorts t) = ⊥
  OfItem (tree t) = OfSomeTree (signature_at items t.of) t.value
  OfItem (lang l) = ⊥
  OfItem (trans t) = ⊥
  OfItem (def d) = ⊥
  OfItem (assertion a) = OfSomeTreeOf a.claim

-- the expression finds a tree of a language of which P holds
abbrev pub Finds : (X → Type 0) → PlainSignature → X → Type 0
Finds P signature (one GetWitness place x) = P x
Finds P signature x = ⊥

-- the expression applies a transformation to a tree expression, and P holds of it and of a value of that
abbrev pub IsApplied : List Item → List Printed → (X → LabelTree → Type 0) → PlainSignature → X → Type 0
IsApplied items trees P signature (two Apply place f x) = (t : LabelTree) × IsValue items trees (input_type items f) x t × P f t
IsApplied items trees P signature x = ⊥

-- it applies one to a tree expression that has values, and P holds of it and of each of these
abbrev pub IsAppliedToEach : List Item → List Printed → (X → LabelTree → Type 0) → PlainSignature → X → Type 0
IsAppliedToEach items trees P signature (two Apply place f x) =
    ((t : LabelTree) × IsValue items trees (input_type items f) x t) × ((t : LabelTree) → IsValue items trees (input_type items f) x t → P f t)
IsAppliedToEach items trees P signature x = ⊥

-- the statement of an item
abbrev pub OfClaim : (Claim → Type 0) → Body → Type 0
OfClaim P (sorts t) = ⊥
OfClaim P (tree t) = ⊥
OfClaim P (lang l) = ⊥
OfClaim P (trans t) = ⊥
OfClaim P (def d) = ⊥
OfClaim P (assertion a) = P a.claim

-- What the meaning of a well-formed program has.
use Rattle.std.specs.Prelude.{◌≡◌, ℕ, true, List, Option, Some, None}
use Rattle.fast_fault.specs.declared.place.Pos.{Pos}
use Rattle.model_tree.specs.Tree.{LabelTree}
use Rattle.model_tree.specs.Signature.{HasType}
use Rattle.model_program.specs.Syntax.{Name}
use Rattle.model_grammar.specs.Syntax.{X, Item, named}
use Rattle.model_names.specs.Kinds.{transformation, kind_of, type_of, output_of}
use Rattle.model_checks.specs.Failures.{is_empty}
use Rattle.model_checks.specs.Expressions.{x_failures}
use Rattle.model_checks.specs.Programs.{is_well_formed}
use Rattle.model_meaning.specs.Types.{input_of}
use Rattle.model_meaning.specs.Types as types
use Rattle.model_meaning.specs.Reached.{definition_of}
use Rattle.model_meaning.specs.Meaning.{HasOutput, IsRelated, input_type, output_type}
use Rattle.model_meaning.specs.Laws.{AreOperations, AreByRules, DemandNoDefinition, TestsAgree, StandsFor, AreRulesTyped, FitTogether}
use Rattle.meaning_laws.specs.Reaching.{IsLangOn, IsTransFrom}

-- nothing fails in an expression of an item behind these, inside so many operations and where this type is expected of a literal
abbrev pub IsFine : List Item → List Item → ℕ → Option (List ℕ) → X → Type 0
IsFine items before around expected x = is_empty (x_failures items before around expected x) ≡ true

-- the expression of a definition has the kind and the types that are declared
pub record HasDeclared (items : List Item) (n : Name) (x : X) : Type 0 where
  pub kind : kind_of items x ≡ kind_of items (named n)
  pub type : type_of items x ≡ type_of items (named n)
  pub output : output_of items x ≡ output_of items (named n)

-- The terms of all rules are typed, and transformations fit together, so outputs of typed trees are typed.
pub record HasTypedOutputs (items : List Item) : Type 0 where
  pub rules : AreRulesTyped items
  pub fits : (before : List Item) (around : ℕ) (expected : Option (List ℕ)) (x : X) → IsFine items before around expected x → kind_of items x ≡ Some transformation → FitTogether items x
  pub of_names : (n : Name) → kind_of items (named n) ≡ Some transformation → (t u : LabelTree) → HasType (input_of items n.text) t → HasOutput items n.text t u → HasType (types.output_of items n.text) u
  pub of_expressions : (x : X) → FitTogether items x → (t u : LabelTree) → HasType (input_type items x) t → IsRelated items x t u → HasType (output_type items x) u

-- Names of languages and transformations mean what their rules say, those of definitions what their expressions do, and operations are those of sets.
pub record HasMeaning (items : List Item) : Type 0 where
  pub by_rules : AreByRules items
  pub languages : (n type : List ℕ) → IsLangOn items n type → definition_of items n ≡ None
  pub transformations : (n from into : List ℕ) → IsTransFrom items n from into → definition_of items n ≡ None
  pub by_expression : (n : Name) (x : X) → definition_of items n.text ≡ Some x → StandsFor items n x × HasDeclared items n x
  pub operations : (place : Pos) (x y : X) → AreOperations items place x y
  pub outputs : HasTypedOutputs items
  -- rules demand languages, and no definitions
  pub demands : DemandNoDefinition items
  pub tests : TestsAgree items

abbrev pub ProgramsHaveMeaning : Type 0
ProgramsHaveMeaning = (items : List Item) → is_well_formed items ≡ true → HasMeaning items

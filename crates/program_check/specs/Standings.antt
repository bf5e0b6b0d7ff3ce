-- What an expression stands for, as the code keeps it.
use Rattle.std.specs.Prelude.{◌≡◌, ℕ, ◌++◌, List, [], Option, Some, None, cond, length}
use Rattle.std.specs.Option.{option_map}
use Rattle.fast_fault.specs.declared.code.Code.TheVariants.{WrongKind, WrongType}
use Rattle.fast_fault.specs.declared.place.Pos.{Pos}
use Rattle.fast_fault.specs.declared.refusal.Refusal.{Refusal}
use Rattle.model_program.specs.Syntax.{Name}
use Rattle.model_program.specs.Syntax as model
use Rattle.model_grammar.specs.Syntax.{X, Item}
use Rattle.model_grammar.specs.Syntax as plain
use Rattle.model_grammar.specs.declared.Op1.{Op1}
use Rattle.model_grammar.specs.declared.Op1.TheVariants.{Complement, Minimize, GetWitness, Domain}
use Rattle.model_grammar.specs.declared.Op2.{Op2}
use Rattle.model_grammar.specs.declared.Op2.TheVariants.{Intersect, Union, Difference, PreImage, Compose, Restrict, RestrictOut, Apply}
use Rattle.model_names.specs.Kinds.{language, transformation, a_tree, same_kind, kind_of, type_of, output_of}
use Rattle.model_names.specs.Kinds as model_kinds
use Rattle.model_checks.specs.Failures.{fails_if}
use Rattle.model_checks.specs.Labels.{labels_failures}
use Rattle.model_checks.specs.Rules.{constructor_failures, label_count_failures, fields_of}
use Rattle.model_checks.specs.Expressions.{expected_as, is_other_kind, needs_be, type_as, whole_failures, x_failures}
use Rattle.program_check.specs.declared.expressions.Kind.{Kind}
use Rattle.program_check.specs.declared.expressions.Kind.TheVariants.{Language, Transformation, Tree}
use Rattle.program_check.specs.declared.expressions.Standing.{Standing}
use Rattle.program_check.specs.Typed.{IsType, apart}

abbrev pub plain_kind : Kind → model_kinds.Kind
plain_kind Language = language
plain_kind Transformation = transformation
plain_kind Tree = a_tree

-- the kind of an expression, and its types
pub record IsStanding (items : List Item) (x : X) (s : Standing) : Type 0 where
  pub kind : option_map plain_kind s.kind ≡ kind_of items x
  pub input : IsType items s.input (type_of items x)
  pub output : IsType items s.output (output_of items x)

-- the type, where something is of this kind
abbrev pub only_as : Kind → Option Kind → Option ℕ → Option ℕ
only_as kind None number = None
only_as kind (Some found) number = cond (same_kind (plain_kind found) (plain_kind kind)) number None

-- a type is expected of a tree alone
abbrev pub number_expected : Kind → Option ℕ → Option ℕ
number_expected Language number = None
number_expected Transformation number = None
number_expected Tree number = number

-- an expression, inside so many operations, that is to be of this type and this kind
abbrev pub as_failures : List Item → List Item → ℕ → Option (List ℕ) → model_kinds.Kind → X → List Refusal
as_failures items before around type kind x = x_failures items before around (expected_as kind type) x ++ needs_be items before type kind x

-- what stands for this isn't of this type and this kind
abbrev pub be_failures : Option ℕ → Kind → Pos → Standing → List Refusal
be_failures number kind place s =
    fails_if (is_other_kind (plain_kind kind) (option_map plain_kind s.kind)) WrongKind place
    ++ fails_if (apart number (only_as kind s.kind s.input)) WrongType place

-- a language, and what is to be of this kind and of the type of its trees
abbrev pub beside_failures : List Item → List Item → X → model_kinds.Kind → X → List Refusal
beside_failures items before y kind x = whole_failures items before None language y ++ whole_failures items before (type_as items before language y) kind x

-- the constructor of a literal of this type, with its labels
abbrev pub literal_failures : Option model.TypeItem → Name → List plain.Expr → ℕ → List Refusal
literal_failures t name labels count = constructor_failures t name count ++ (label_count_failures t name (length labels) ++ labels_failures (Some []) (fields_of t) labels)

-- the types of what an operation on two operands gives
abbrev pub input_of_two : Op2 → Standing → Option ℕ
input_of_two Intersect s = only_as Language s.kind s.input
input_of_two Union s = only_as Language s.kind s.input
input_of_two Difference s = only_as Language s.kind s.input
input_of_two PreImage s = only_as Transformation s.kind s.input
input_of_two Compose s = only_as Transformation s.kind s.input
input_of_two Restrict s = only_as Transformation s.kind s.input
input_of_two RestrictOut s = only_as Transformation s.kind s.input
input_of_two Apply s = only_as Transformation s.kind s.output

abbrev pub output_of_two : Op2 → Standing → Standing → Option ℕ
output_of_two Intersect s t = None
output_of_two Union s t = None
output_of_two Difference s t = None
output_of_two PreImage s t = None
output_of_two Compose s t = only_as Transformation t.kind t.output
output_of_two Restrict s t = only_as Transformation s.kind s.output
output_of_two RestrictOut s t = only_as Transformation s.kind s.output
output_of_two Apply s t = None

-- the type that the second operand is to have
abbrev pub second_wanted : Op2 → Standing → Option ℕ
second_wanted Intersect s = only_as Language s.kind s.input
second_wanted Union s = only_as Language s.kind s.input
second_wanted Difference s = only_as Language s.kind s.input
second_wanted PreImage s = only_as Transformation s.kind s.output
second_wanted Compose s = only_as Transformation s.kind s.output
second_wanted Restrict s = only_as Transformation s.kind s.input
second_wanted RestrictOut s = only_as Transformation s.kind s.output
second_wanted Apply s = only_as Transformation s.kind s.input

-- the kind that an operation takes, and the kinds that operations give
abbrev pub kind_taken : Op1 → Kind
kind_taken Complement = Language
kind_taken Minimize = Language
kind_taken GetWitness = Language
kind_taken Domain = Transformation

abbrev pub kind_given : Op1 → Kind
kind_given Complement = Language
kind_given Minimize = Language
kind_given GetWitness = Tree
kind_given Domain = Language

abbrev pub kind_given_by_two : Op2 → Kind
kind_given_by_two Intersect = Language
kind_given_by_two Union = Language
kind_given_by_two Difference = Language
kind_given_by_two PreImage = Language
kind_given_by_two Compose = Transformation
kind_given_by_two Restrict = Transformation
kind_given_by_two RestrictOut = Transformation
kind_given_by_two Apply = Tree

-- what an operation stands for, from what its operands do
abbrev pub standing_of_one : Op1 → Standing → Standing
standing_of_one op s = record { kind = Some (kind_given op); input = only_as (kind_taken op) s.kind s.input; output = None }

abbrev pub standing_of_two : Op2 → Standing → Standing → Standing
standing_of_two op s t = record { kind = Some (kind_given_by_two op); input = input_of_two op s; output = output_of_two op s t }

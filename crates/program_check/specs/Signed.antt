-- The signatures of a program's types.
use Rattle.std.specs.Prelude.{◌≡◌, ◌<◌, ℕ, true, List, Option, Some, length, map, get_or, slice_get}
use Rattle.std.specs.List.{list_all}
use Rattle.std.specs.Option.{option_map, option_and_then}
use Rattle.model_tree.specs.Signature.{PlainField, PlainConstructor, PlainSignature}
use Rattle.model_program.specs.Syntax.{FieldItem, CtorItem, TypeItem}
use Rattle.model_grammar.specs.Syntax.{Item}
use Rattle.model_names.specs.Sorts.{own_sort}
use Rattle.model_meaning.specs.Types.{rank_of, signature_of}
use Rattle.model_checks.specs.Types.{is_rank_in_range}
use Rattle.model_checks.specs.Programs.{is_well_formed}
use Rattle.fast_tree.specs.declared.signature.Signature.{Signature}
use Rattle.fast_tree.specs.Signatures.{plain_signature}
use Rattle.program_check.specs.declared.declarations.Declarations.{Declarations}
use Rattle.program_check.specs.Numbered.{own_type_item, AreNumbered}

abbrev pub field_of : FieldItem → PlainField
field_of f = record { name = f.name.text; sort = own_sort f }

abbrev pub constructor_of : CtorItem → PlainConstructor
constructor_of c = record { name = c.name.text; rank = rank_of c.rank }

-- the constructors have ranks in range
abbrev pub HaveRanks : List CtorItem → Type 0
HaveRanks ctors = list_all (λ c. is_rank_in_range c.rank) ctors ≡ true

-- so have those of an item, where it is a type
abbrev pub HasRanks : Item → Type 0
HasRanks item = (t : TypeItem) → own_type_item item.body ≡ Some t → HaveRanks t.ctors

-- each of them fits
abbrev pub EachFits : {A : Type 0} → (A → Type 0) → List A → Type 0
EachFits {A} Fits xs = (i : ℕ) (x : A) → i < length xs → x ≡ get_or xs i x → Fits x

-- the signature of an item, where it is a type
abbrev pub own_signature : Item → Option PlainSignature
own_signature item = option_map signature_of (own_type_item item.body)

-- the signature at a place
abbrev pub signature_in : List (Option PlainSignature) → ℕ → Option PlainSignature
signature_in signatures place = option_and_then (λ s. s) (slice_get signatures place)

-- the items are well-formed, with the numbers of their names and the signatures of their types
pub record Passes (items : List Item) (declared : Declarations) (signatures : List (Option Signature)) : Type 0 where
  pub well_formed : is_well_formed items ≡ true
  pub numbered : AreNumbered items declared
  pub signed : map (option_map plain_signature) signatures ≡ map own_signature items

-- A type with the numbers of its constructors, as the code keeps them.
use Rattle.std.specs.Prelude.{◌≡◌, ℕ, List, Option, Some, None, cond, map}
use Rattle.std.specs.Str.{bytes_eq}
use Rattle.indexmap.specs.IndexMap.{get}
use Rattle.model_tree.specs.Signature.{PlainConstructor, PlainSignature}
use Rattle.model_names.specs.Declared.{same_text}
use Rattle.model_meaning.specs.Outputs.{number_named}
use Rattle.fast_tree.specs.Signatures.{plain_signature}
use Rattle.tree_files.specs.declared.types.Numbers.{Numbers}
use Rattle.tree_files.specs.declared.types.TreeType.{TreeType}

-- the number under a name
abbrev pub number_in : Numbers → List ℕ → Option ℕ
number_in numbers name = get bytes_eq numbers.by_name name

abbrev pub or_else : Option ℕ → Option ℕ → Option ℕ
or_else None later = later
or_else (Some n) later = Some n

-- a name is added with its number, where it wasn't there
pub record Adds (old new : Numbers) (name : List ℕ) (number : ℕ) : Type 0 where
  pub same : (other : List ℕ) → number_in new other ≡ or_else (number_in old other) (cond (same_text name other) (Some number) None)

-- each name has the number of the first of these constructors that has it
abbrev pub AreNumbered : List PlainConstructor → Numbers → Type 0
AreNumbered constructors numbers = (name : List ℕ) → number_in numbers name ≡ number_named (map (λ c. c.name) constructors) name

abbrev pub plain_type : TreeType → PlainSignature
plain_type of = plain_signature of.signature.now

pub record IsNumbered (of : TreeType) : Type 0 where
  pub same : AreNumbered (plain_type of).constructors of.numbers

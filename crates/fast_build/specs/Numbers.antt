-- Numbers of names: of constructors in their type, of languages among those that are reached.
use Rattle.std.specs.Prelude.{◌≡◌, ℕ, ◌<◌, List, [], map, filter, find, length, get_or, Option, Some, Bool, is_some}
use Rattle.std.specs.List.{position_or_len}
use Rattle.model_tree.specs.Signature.{PlainConstructor, PlainSignature}
use Rattle.model_program.specs.Syntax.{Demand, Name}
use Rattle.model_grammar.specs.Syntax.{Rule}
use Rattle.model_names.specs.Declared.{same_text}

abbrev pub find_constructor : List PlainConstructor → List ℕ → Option PlainConstructor
find_constructor ctors name = find (λ c. same_text c.name name) ctors

-- the constructor of this number
abbrev pub ctor_at : List PlainConstructor → ℕ → PlainConstructor
ctor_at ctors n = get_or ctors n (record { name = []; rank = 0 })

-- the constructor of this name is the one with this number
pub record IsNumbered (ctors : List PlainConstructor) (name : List ℕ) (n : ℕ) : Type 0 where
  pub below : n < length ctors
  pub found : find_constructor ctors name ≡ Some (ctor_at ctors n)

-- the number of a language among the names
abbrev pub number_in : List (List ℕ) → List ℕ → ℕ
number_in names name = position_or_len (same_text name) names

module _ (place : List ℕ → ℕ) where
  -- the numbers of the languages that are demanded of a variable
  abbrev pub numbers_for : List Demand → List ℕ → List ℕ
  numbers_for given var = map (λ d. place d.language.text) (filter (λ d. same_text d.child.text var) given)

  -- the same for each variable
  abbrev pub numbers_for_each : List Demand → List Name → List (List ℕ)
  numbers_for_each given vars = map (λ v. numbers_for given v.text) vars

-- the rule has a constructor of the type
abbrev pub has_ctor : PlainSignature → Rule → Bool
has_ctor t r = is_some (find_constructor t.constructors r.ctor.text)

-- What operations stand for.
use Rattle.std.proofs.Common.{◌≡◌, ℕ, List, ◌++◌, Option, refl, ap₂, subst}
use Rattle.std.specs.Option.{option_map}
use Rattle.fast_fault.specs.declared.code.Code.TheVariants.{WrongKind, WrongType}
use Rattle.fast_fault.specs.declared.place.Pos.{Pos}
use Rattle.model_grammar.specs.declared.Op1.{Op1}
use Rattle.model_grammar.specs.declared.Op1.TheVariants.{Complement, Minimize, GetWitness, Domain}
use Rattle.model_grammar.specs.declared.Op2.{Op2}
use Rattle.model_grammar.specs.declared.Op2.TheVariants.{Intersect, Union, Difference, PreImage, Compose, Restrict, RestrictOut, Apply}
use Rattle.model_grammar.specs.Syntax.{X, one, two, Item}
use Rattle.model_names.specs.Kinds.{same_kind, if_kind, taken_by_one, kind_of, type_of, output_of}
use Rattle.model_names.specs.Kinds as model
use Rattle.model_checks.specs.Failures.{fails_if}
use Rattle.model_checks.specs.Expressions.{place_of_x, is_other_kind, needs_be, wanted_second}
use Rattle.program_check.specs.declared.expressions.Kind.{Kind}
use Rattle.program_check.specs.declared.expressions.Kind.TheVariants.{Language, Transformation}
use Rattle.program_check.specs.declared.expressions.Standing.{Standing}
use Rattle.program_check.specs.Typed.{IsType}
use Rattle.program_check.specs.Standings.{plain_kind, IsStanding, only_as, be_failures, kind_taken, second_wanted, standing_of_one, standing_of_two}
use Rattle.program_check.proofs.Typing.{untyped, differ_is, only_is}

pub kind_is : (op : Op1) → plain_kind (kind_taken op) ≡ taken_by_one op
kind_is Complement = refl
kind_is Minimize = refl
kind_is GetWitness = refl
kind_is Domain = refl

module _ (items before : List Item) where
  -- what isn't of this type and this kind
  pub be_is : (number : Option ℕ) (type : Option (List ℕ)) (k : Kind) (x : X) (place : Pos) (s : Standing) → IsType items number type → IsStanding items x s → place ≡ place_of_x x → be_failures number k place s ≡ needs_be items before type (plain_kind k) x
  be_is number type k x place s of h at =
      ap₂ (λ a b. a ++ b) (ap₂ (λ o p. fails_if (is_other_kind (plain_kind k) o) WrongKind p) h.kind at)
      (ap₂ (λ b p. fails_if b WrongType p) (differ_is items number (only_as k s.kind s.input) type _ of (only_is items k s.kind s.input _ _ h.kind h.input)) at)

  pub one_stands : (op : Op1) (place : Pos) (x : X) (s : Standing) → IsStanding items x s → IsStanding items (one op place x) (standing_of_one op s)
  one_stands op place x s h = record {
    kind = given op;
    input = subst (λ (k : model.Kind). IsType items (only_as (kind_taken op) s.kind s.input) (if_kind k (kind_of items x) (type_of items x))) (kind_is op) (only_is items (kind_taken op) s.kind s.input _ _ h.kind h.input);
    output = untyped items;
  }
    where
      given : (op : Op1) → option_map plain_kind (standing_of_one op s).kind ≡ kind_of items (one op place x)
      given Complement = refl
      given Minimize = refl
      given GetWitness = refl
      given Domain = refl

  pub wanted_is : (op : Op2) (x : X) (s : Standing) → IsStanding items x s → IsType items (second_wanted op s) (wanted_second items before op x)
  wanted_is Intersect x s h = only_is items Language s.kind s.input _ _ h.kind h.input
  wanted_is Union x s h = only_is items Language s.kind s.input _ _ h.kind h.input
  wanted_is Difference x s h = only_is items Language s.kind s.input _ _ h.kind h.input
  wanted_is PreImage x s h = only_is items Transformation s.kind s.output _ _ h.kind h.output
  wanted_is Compose x s h = only_is items Transformation s.kind s.output _ _ h.kind h.output
  wanted_is Restrict x s h = only_is items Transformation s.kind s.input _ _ h.kind h.input
  wanted_is RestrictOut x s h = only_is items Transformation s.kind s.output _ _ h.kind h.output
  wanted_is Apply x s h = only_is items Transformation s.kind s.input _ _ h.kind h.input

  pub two_stands : (op : Op2) (place : Pos) (x y : X) (s t : Standing) → IsStanding items x s → IsStanding items y t → IsStanding items (two op place x y) (standing_of_two op s t)
  two_stands Intersect place x y s t h g = record { kind = refl; input = only_is items Language s.kind s.input _ _ h.kind h.input; output = untyped items }
  two_stands Union place x y s t h g = record { kind = refl; input = only_is items Language s.kind s.input _ _ h.kind h.input; output = untyped items }
  two_stands Difference place x y s t h g = record { kind = refl; input = only_is items Language s.kind s.input _ _ h.kind h.input; output = untyped items }
  two_stands PreImage place x y s t h g = record { kind = refl; input = only_is items Transformation s.kind s.input _ _ h.kind h.input; output = untyped items }
  two_stands Compose place x y s t h g = record { kind = refl; input = only_is items Transformation s.kind s.input _ _ h.kind h.input; output = only_is items Transformation t.kind t.output _ _ g.kind g.output }
  two_stands Restrict place x y s t h g = record { kind = refl; input = only_is items Transformation s.kind s.input _ _ h.kind h.input; output = only_is items Transformation s.kind s.output _ _ h.kind h.output }
  two_stands RestrictOut place x y s t h g = record { kind = refl; input = only_is items Transformation s.kind s.input _ _ h.kind h.input; output = only_is items Transformation s.kind s.output _ _ h.kind h.output }
  two_stands Apply place x y s t h g = record { kind = refl; input = only_is items Transformation s.kind s.output _ _ h.kind h.output; output = untyped items }

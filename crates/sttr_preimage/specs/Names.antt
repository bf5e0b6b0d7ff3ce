-- Names of states as plain data, and their numbers.
use Rattle.std.specs.Prelude.{◌≡◌, ℕ, List, ◌++◌, map, Contains}
use Rattle.model_sttr.specs.Transducer.{Head, identity, run}
use Rattle.sttr_theory.specs.Triples.{Triple, LookName, of_first, of_second, middle, firsts, seconds}
use Rattle.sttr_theory.specs.Lists.{IsAt, Match}
use Rattle.sttr_preimage.specs.declared.names.Name.{Name}
use Rattle.sttr_preimage.specs.declared.names.Name.TheVariants as name
use Rattle.sttr_preimage.specs.declared.names.Side.{Side}
use Rattle.sttr_preimage.specs.declared.names.Side.TheVariants as side
use Rattle.sttr_preimage.specs.Sets.{ascending}

abbrev pub plain_name : Name → LookName
plain_name (name.First s) = of_first s
plain_name (name.Second s) = of_second s
plain_name (name.Middle q all) = middle q all.items

abbrev pub names_in : List Name → List LookName
names_in names = map plain_name names

abbrev pub side_names : Side → List ℕ → List LookName
side_names side.First states = firsts states
side_names side.Second states = seconds states

-- more are met, each of them a wanted one
pub record Adds {X : Type 0} (old new : List X) (Wanted : X → Type 0) : Type 0 where
  pub more : List X
  pub behind : new ≡ old ++ more
  pub wanted : (x : X) → Contains more x → Wanted x

-- the name has this number
pub record IsNumber {X : Type 0} (old new : List X) (x : X) (n : ℕ) : Type 0 where
  pub adds : Adds old new (λ y. x ≡ y)
  pub at : IsAt new n x

-- numbers of all the wanted names are added
pub record Numbers (old new : List LookName) (before after : List ℕ) (wanted : List LookName) : Type 0 where
  pub adds : Adds old new (Contains wanted)
  pub added : List ℕ
  pub behind : after ≡ before ++ added
  pub named : Match (IsAt new) added wanted

-- of a state behind the second's nothing is asked twice, and in one order
abbrev pub tidy_all : Head → List ℕ → List ℕ
tidy_all identity all = all
tidy_all (run q) all = ascending all

abbrev pub tidy : Triple → Triple
tidy x = record { first = x.first; all = tidy_all x.first x.all; second = x.second }

-- A program with a language, a transformation and two definitions, and what stands in it.
use Rattle.std.specs.Prelude.{◌≡◌, ℕ, List, [], ◌∷◌, Some, None, codes}
use Rattle.fast_fault.specs.declared.place.Pos.{Pos}
use Rattle.model_program.specs.Syntax.{Name}
use Rattle.model_grammar.specs.declared.Op1.TheVariants.{Domain, GetWitness}
use Rattle.model_grammar.specs.declared.Op2.TheVariants.{Compose, Apply, PreImage}
use Rattle.model_grammar.specs.Syntax.{X, named, one, two, Item, sorts, lang, trans, def}
use Rattle.model_names.specs.Kinds.{language, transformation, kind_of, type_of, output_of}

abbrev here : Pos
here = record { line = 1; column = 1 }

abbrev name : List ℕ → Name
name text = record { text = text; place = here }

abbrev type_item : List ℕ → Item
type_item text = record { place = here; body = sorts (record { name = name text; fields = []; ctors = [] }) }

-- `type B type C lang p : B trans f : B -> C trans g : C -> B lang p : C def d : D := p`
abbrev items : List Item
items =
    type_item (codes "B")
    ∷ type_item (codes "C")
    ∷ record { place = here; body = lang (record { name = name (codes "p"); of = name (codes "B"); rules = [] }) }
    ∷ record { place = here; body = trans (record { name = name (codes "f"); from = name (codes "B"); into = name (codes "C"); rules = [] }) }
    ∷ record { place = here; body = trans (record { name = name (codes "g"); from = name (codes "C"); into = name (codes "B"); rules = [] }) }
    ∷ record { place = here; body = lang (record { name = name (codes "p"); of = name (codes "C"); rules = [] }) }
    ∷ record { place = here; body = def (record { name = name (codes "d"); from = name (codes "D"); into = None; value = named (name (codes "p")) }) }
    ∷ []

abbrev word : List ℕ → X
word text = named (name text)

abbrev p : X
p = word (codes "p")

abbrev f : X
f = word (codes "f")

abbrev g : X
g = word (codes "g")

pub record HaveKinds : Type 0 where
  pub first_counts : type_of items p ≡ Some (codes "B")
  pub undeclared_type : type_of items (word (codes "d")) ≡ None
  pub unknown : kind_of items (word (codes "q")) ≡ None
  pub composed : kind_of items (two Compose here f g) ≡ Some transformation
  pub from_first : type_of items (two Compose here f f) ≡ Some (codes "B")
  pub into_second : output_of items (two Compose here f f) ≡ Some (codes "C")
  pub applied : type_of items (two Apply here f (one GetWitness here p)) ≡ Some (codes "C")
  pub pre_image : type_of items (two PreImage here f p) ≡ Some (codes "B")
  pub a_language : kind_of items (one Domain here p) ≡ Some language
  pub of_no_type : type_of items (one Domain here p) ≡ None

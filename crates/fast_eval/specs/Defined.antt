-- Which definitions have languages or transformations.
use Rattle.std.specs.Prelude.{◌≡◌, ℕ, List, Contains, Option, Some, None}
use Rattle.model_program.specs.Syntax.{Name}
use Rattle.model_grammar.specs.Syntax.{X, DefItem, def, Item}
use Rattle.model_names.specs.Kinds.{defined_kind}
use Rattle.fast_eval.specs.declared.built.Built.{Built}
use Rattle.fast_eval.specs.Forms.{IsMadeOn, IsMadeFrom, AreKnown, IsTransKnown}
use Rattle.fast_eval.specs.Table.{HasBuilt}

-- its name has what it defines
abbrev pub IsDefined : Built → DefItem → Type 0
IsDefined b d = HasBuilt (defined_kind d.into) b d.name.text

-- of these items, each definition that has one of the names; and each definition
abbrev pub AreDefinedOf : (List ℕ → Type 0) → Built → List Item → Type 0
AreDefinedOf P b items = (item : Item) (d : DefItem) → Contains items item → item.body ≡ def d → P d.name.text → IsDefined b d

abbrev pub AreDefined : Built → List Item → Type 0
AreDefined b items = (item : Item) (d : DefItem) → Contains items item → item.body ≡ def d → IsDefined b d

-- the value of a definition is a language, or a transformation if it is one into a type
abbrev pub IsMadeInto : List Item → Option Name → X → Type 0
IsMadeInto items None x = (type : List ℕ) × IsMadeOn items type x
IsMadeInto items (Some n) x = (from into : List ℕ) × IsMadeFrom items from into x

-- and the names in it are known
abbrev pub AreKnownInto : List Item → Built → Option Name → X → Type 0
AreKnownInto items b None x = AreKnown items b x
AreKnownInto items b (Some n) x = IsTransKnown items b x

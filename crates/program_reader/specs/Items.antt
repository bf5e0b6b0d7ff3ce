-- The parts of items.
use Rattle.std.specs.Prelude.{Bool, true, false, List}
use Rattle.fast_fault.specs.declared.place.Pos.{Pos}
use Rattle.model_program.specs.declared.Word.{Word}
use Rattle.model_program.specs.declared.Word.TheVariants.{TypeWord, Tree, Lang, Trans, Def, AssertTrue, AssertFalse, Colon, Assign}
use Rattle.model_program.specs.Lexeme.{Lexeme}
use Rattle.model_program.specs.Syntax.{Name}
use Rattle.model_program.specs.Joined.{◌⌢◌}
use Rattle.model_program.specs.Grammar.{sign, IsName, IsTypeItem}
use Rattle.read_forms.specs.Fronts.{Made}
use Rattle.model_grammar.specs.Syntax.{X, Claim, Body, sorts, tree, lang, trans, def, assertion, Item}
use Rattle.model_grammar.specs.Terms.{IsX}
use Rattle.model_grammar.specs.Grammar.{IsTreeItem, IsLangItem, IsTransItem, IsDefItem, IsA}
use Rattle.program_reader.specs.Names.{IsNameBehind}

-- ID : ID
abbrev pub IsTyped : Name × Name → List Lexeme → Type 0
IsTyped v = IsName v.0 ⌢ IsNameBehind Colon v.1

-- := X
abbrev pub IsAssigned : X → List Lexeme → Type 0
IsAssigned x = sign Assign ⌢ IsX x

abbrev pub item_at : Pos → Body → Item
item_at place body = record { place = place; body = body }

abbrev pub asserted : Bool → Pos → Claim → Item
asserted wanted place claim = item_at place (assertion (record { wanted = wanted; claim = claim }))

abbrev pub IsAsserted : Bool → Pos → Item → List Lexeme → Type 0
IsAsserted wanted place = Made (asserted wanted place) IsA

-- What stands behind the first word of an item, by this word and its place.
abbrev pub IsBehind : Word → Pos → Item → List Lexeme → Type 0
IsBehind TypeWord place = Made (λ t. item_at place (sorts t)) IsTypeItem
IsBehind Tree place = Made (λ t. item_at place (tree t)) IsTreeItem
IsBehind Lang place = Made (λ l. item_at place (lang l)) IsLangItem
IsBehind Trans place = Made (λ t. item_at place (trans t)) IsTransItem
IsBehind Def place = Made (λ d. item_at place (def d)) IsDefItem
IsBehind AssertTrue place = IsAsserted true place
IsBehind AssertFalse place = IsAsserted false place
IsBehind _ place = λ _ _. ⊥

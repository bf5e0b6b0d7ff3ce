-- The grammar of programs: which lists of tokens spell which items. Names, types, constructors, variables and demands are as in `model_program`.
use Rattle.std.specs.Prelude.{List, Option, Some, None, ◌⊎◌}
use Rattle.fast_fault.specs.declared.place.Pos.{Pos}
use Rattle.model_program.specs.declared.Word.TheVariants.{TypeWord, Tree, Lang, Trans, Def, Where, To, In, IsEmpty, TypeCheck, RoundOpen, RoundClose, CurlyOpen, CurlyClose, Bar, Colon, Assign, Arrow, Same, Element}
use Rattle.model_program.specs.Lexeme.{Lexeme}
use Rattle.model_program.specs.Syntax.{Name}
use Rattle.model_program.specs.Joined.{◌⌢◌, Nothing}
use Rattle.model_program.specs.Grammar.{sign, IsSign, IsAt, IsName, Items, Many, AreVars, IsGiven, IsTypeItem, assert_word}
use Rattle.model_grammar.specs.Syntax.{Expr, Rule, OutRule, TreeItem, LangItem, TransItem, DefItem, Claim, equal, member, empty, type_check, Body, sorts, tree, lang, trans, def, assertion, Item}
use Rattle.model_grammar.specs.Expressions.{IsE}
use Rattle.model_grammar.specs.Terms.{IsX, IsOut}

-- (where E)?
abbrev pub IsGuard : Option Expr → List Lexeme → Type 0
IsGuard None = Nothing
IsGuard (Some e) = sign Where ⌢ IsE e

-- LRule ::= ID ( Vars? ) (where E)? (given Demand+)?
abbrev pub IsRule : Rule → List Lexeme → Type 0
IsRule r = IsName r.ctor ⌢ AreVars r.vars ⌢ IsGuard r.guard ⌢ IsGiven r.given

-- TRule ::= LRule to Out
abbrev pub IsOutRule : OutRule → List Lexeme → Type 0
IsOutRule r = IsRule r.rule ⌢ sign To ⌢ IsOut r.out

-- { LRule (BAR LRule)* }, { TRule (BAR TRule)* }
abbrev pub InBraces : {A : Type 0} → (A → List Lexeme → Type 0) → List A → List Lexeme → Type 0
InBraces form rules = sign CurlyOpen ⌢ Items (IsSign Bar) form rules ⌢ sign CurlyClose

-- ID : ID := X
abbrev pub IsTreeItem : TreeItem → List Lexeme → Type 0
IsTreeItem t = IsName t.name ⌢ sign Colon ⌢ IsName t.of ⌢ sign Assign ⌢ IsX t.value

-- ID : ID { LRule (BAR LRule)* }
abbrev pub IsLangItem : LangItem → List Lexeme → Type 0
IsLangItem l = IsName l.name ⌢ sign Colon ⌢ IsName l.of ⌢ InBraces IsRule l.rules

-- ID : ID -> ID { TRule (BAR TRule)* }
abbrev pub IsTransItem : TransItem → List Lexeme → Type 0
IsTransItem t = IsName t.name ⌢ sign Colon ⌢ IsName t.from ⌢ sign Arrow ⌢ IsName t.into ⌢ InBraces IsOutRule t.rules

-- (-> ID)?
abbrev pub IsInto : Option Name → List Lexeme → Type 0
IsInto None = Nothing
IsInto (Some n) = sign Arrow ⌢ IsName n

-- ID : ID (-> ID)? := X
abbrev pub IsDefItem : DefItem → List Lexeme → Type 0
IsDefItem d = IsName d.name ⌢ sign Colon ⌢ IsName d.from ⌢ IsInto d.into ⌢ sign Assign ⌢ IsX d.value

-- `in`, which is also written as one sign
abbrev pub IsIn : Unit {0} → List Lexeme → Type 0
IsIn _ tokens = sign In tokens ⊎ sign Element tokens

-- B ::= X == X | X in X | ( is-empty X ) | ( type-check X X X )
abbrev pub IsB : Claim → List Lexeme → Type 0
IsB (equal x y) = IsX x ⌢ sign Same ⌢ IsX y
IsB (member x y) = IsX x ⌢ IsIn tt ⌢ IsX y
IsB (empty x) = sign RoundOpen ⌢ sign IsEmpty ⌢ IsX x ⌢ sign RoundClose
IsB (type_check x y z) = sign RoundOpen ⌢ sign TypeCheck ⌢ IsX x ⌢ IsX y ⌢ IsX z ⌢ sign RoundClose

-- A ::= B | ( B )
abbrev pub IsA : Claim → List Lexeme → Type 0
IsA claim tokens = IsB claim tokens ⊎ (sign RoundOpen ⌢ IsB claim ⌢ sign RoundClose) tokens

-- Item ::= type .. | tree .. | lang .. | trans .. | def .. | assert-true A | assert-false A
abbrev pub IsBody : Body → Pos → List Lexeme → Type 0
IsBody (sorts item) place = IsAt TypeWord place ⌢ IsTypeItem item
IsBody (tree item) place = IsAt Tree place ⌢ IsTreeItem item
IsBody (lang item) place = IsAt Lang place ⌢ IsLangItem item
IsBody (trans item) place = IsAt Trans place ⌢ IsTransItem item
IsBody (def item) place = IsAt Def place ⌢ IsDefItem item
IsBody (assertion item) place = IsAt (assert_word item.wanted) place ⌢ IsA item.claim

abbrev pub IsItem : Item → List Lexeme → Type 0
IsItem item = IsBody item.body item.place

-- Program ::= Item*
abbrev pub IsProgram : List Item → List Lexeme → Type 0
IsProgram items = Many IsItem items

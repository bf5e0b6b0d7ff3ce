-- Forms of the grammar: names, numbers, lists, demands and types, and the tokens that spell them.
use Rattle.std.specs.Prelude.{◌≡◌, ℕ, ℤ, pos, ◌+◌, ◌≤◌, ◌<◌, Bool, true, false, List, [], ◌∷◌, ◌++◌, length, take, codes, if◌then◌else◌, Option, Some, None, ◌⊎◌}
use Rattle.std.specs.Str.{bytes_eq}
use Rattle.std.specs.Str.Parse.{IsNumeral, digits_value}
use Rattle.fast_fault.specs.declared.place.Pos.{Pos}
use Rattle.model_program.specs.declared.Word.{Word}
use Rattle.model_program.specs.declared.Word.TheVariants.{TypeWord, Lang, Where, Given, Not, True, False, AssertTrue, AssertFalse, IsEmpty, Id, Number, RoundOpen, RoundClose, SquareOpen, SquareClose, CurlyOpen, CurlyClose, Comma, Bar, Colon}
use Rattle.model_program.specs.Lexeme.{Lexeme}
use Rattle.model_program.specs.Syntax.{Name, FieldItem, CtorItem, TypeItem, Demand}
use Rattle.model_program.specs.Joined.{◌⌢◌, Nothing}

-- one token
abbrev pub IsWord : Word → Lexeme → List Lexeme → Type 0
IsWord w t tokens = (tokens ≡ t ∷ []) × (t.word ≡ w)

-- a sign or a keyword, which has no value
abbrev pub IsSign : Word → Unit {0} → List Lexeme → Type 0
IsSign w _ tokens = (t : Lexeme) × IsWord w t tokens

abbrev pub sign : Word → List Lexeme → Type 0
sign w = IsSign w tt

-- a sign or a keyword at a place
abbrev pub IsAt : Word → Pos → List Lexeme → Type 0
IsAt w place tokens = (t : Lexeme) × IsWord w t tokens × (place ≡ t.place)

-- ID
abbrev pub name_of : Lexeme → Name
name_of t = record { text = t.text; place = t.place }

abbrev pub IsName : Name → List Lexeme → Type 0
IsName n tokens = (t : Lexeme) × IsWord Id t tokens × (n ≡ name_of t)

-- NUMBER
abbrev pub IsDigits : List ℕ → Type 0
IsDigits text = IsNumeral 10 text × (length text ≤ 38)

abbrev pub IsNumber : ℤ → List Lexeme → Type 0
IsNumber n tokens = (t : Lexeme) × IsWord Number t tokens × IsDigits t.text × (n ≡ pos (digits_value 10 t.text))

-- ,?
abbrev pub IsComma : Unit {0} → List Lexeme → Type 0
IsComma _ tokens = Nothing tokens ⊎ sign Comma tokens

-- the word by which a comma that may be left out goes on
abbrev pub comma : Word → Type 0
comma w = w ≡ Comma

-- further items, each behind a separator
abbrev pub Further : {A : Type 0} → (Unit {0} → List Lexeme → Type 0) → (A → List Lexeme → Type 0) → List A → List Lexeme → Type 0
Further between form [] = Nothing
Further between form (x ∷ xs) = between tt ⌢ form x ⌢ Further between form xs

-- one item or more, with a separator between two
abbrev pub Items : {A : Type 0} → (Unit {0} → List Lexeme → Type 0) → (A → List Lexeme → Type 0) → List A → List Lexeme → Type 0
Items between form [] = λ _. ⊥
Items between form (x ∷ xs) = form x ⌢ Further between form xs

-- no item, or items
abbrev pub Any : {A : Type 0} → (Unit {0} → List Lexeme → Type 0) → (A → List Lexeme → Type 0) → List A → List Lexeme → Type 0
Any between form [] = Nothing
Any between form (x ∷ xs) = Items between form (x ∷ xs)

-- items, one behind the other
abbrev pub Many : {A : Type 0} → (A → List Lexeme → Type 0) → List A → List Lexeme → Type 0
Many form [] = Nothing
Many form (x ∷ xs) = form x ⌢ Many form xs

-- Demand ::= ( ID ID )
abbrev pub IsDemand : Demand → List Lexeme → Type 0
IsDemand d = sign RoundOpen ⌢ IsName d.language ⌢ IsName d.child ⌢ sign RoundClose

-- ( Vars? )
-- Vars ::= ID (,? ID)*
abbrev pub AreVars : List Name → List Lexeme → Type 0
AreVars vars = sign RoundOpen ⌢ Any IsComma IsName vars ⌢ sign RoundClose

-- (given Demand+)?
abbrev pub IsGiven : List Demand → List Lexeme → Type 0
IsGiven [] = Nothing
IsGiven (d ∷ ds) = sign Given ⌢ Many IsDemand (d ∷ ds)

-- Ctor ::= ID ( NUMBER )
abbrev pub IsCtor : CtorItem → List Lexeme → Type 0
IsCtor c = IsName c.name ⌢ sign RoundOpen ⌢ IsNumber c.rank ⌢ sign RoundClose

-- the name of a sort, which is kept with a capital
abbrev pub sort_text : List ℕ → List ℕ
sort_text text =
    if bytes_eq text (codes "int") then codes "Int" else (
    if bytes_eq text (codes "bool") then codes "Bool" else (
    if bytes_eq text (codes "string") then codes "String" else text))

abbrev pub IsSort : Name → List Lexeme → Type 0
IsSort s tokens = (t : Lexeme) × IsWord Id t tokens × (s ≡ record { text = sort_text t.text; place = t.place })

-- Field ::= ID : ID
abbrev pub IsField : FieldItem → List Lexeme → Type 0
IsField f = IsName f.name ⌢ sign Colon ⌢ IsSort f.sort

-- Fields ::= [ ] | [ Field (,? Field)* ]
abbrev pub AreFields : List FieldItem → List Lexeme → Type 0
AreFields fields = sign SquareOpen ⌢ Any IsComma IsField fields ⌢ sign SquareClose

-- Fields?
abbrev pub AreFieldsOrNone : List FieldItem → List Lexeme → Type 0
AreFieldsOrNone fields tokens = ((fields ≡ []) × Nothing tokens) ⊎ AreFields fields tokens

-- the word by which the fields go on that may be left out
abbrev pub square_word : Word → Type 0
square_word w = w ≡ SquareOpen

-- { Ctor (,? Ctor)* }
abbrev pub AreCtors : List CtorItem → List Lexeme → Type 0
AreCtors ctors = sign CurlyOpen ⌢ Items IsComma IsCtor ctors ⌢ sign CurlyClose

-- ID Fields? { Ctor (,? Ctor)* }
abbrev pub IsTypeItem : TypeItem → List Lexeme → Type 0
IsTypeItem t = IsName t.name ⌢ AreFieldsOrNone t.fields ⌢ AreCtors t.ctors

abbrev pub assert_word : Bool → Word
assert_word true = AssertTrue
assert_word false = AssertFalse

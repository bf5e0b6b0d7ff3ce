-- How keywords and signs are spelled.
use Rattle.std.specs.Prelude.{if◌then◌else◌, ℕ, List, [], ◌∷◌, Option, Some, None, codes}
use Rattle.std.specs.Str.{bytes_eq}
use Rattle.model_program.specs.declared.Word.{Word}
use Rattle.model_program.specs.declared.Word.TheVariants.{TypeWord, Tree, Lang, Trans, Def, Where, Given, To, Intersect, Union, Complement, Difference, Minimize, Domain, Compose, Restrict, Apply, In, And, Or, Not, True, False, AssertTrue, AssertFalse, PreImage, RestrictOut, GetWitness, IsEmpty, TypeCheck, Id, Number, Quoted, RoundOpen, RoundClose, SquareOpen, SquareClose, CurlyOpen, CurlyClose, Comma, Bar, Colon, Assign, Arrow, Same, Equal, NotEqual, AtMost, AtLeast, Less, Greater, Plus, Minus, Star, Percent, Element}

-- the characters of a keyword or a sign; a name, a number and a quoted text have no spelling of their own
abbrev pub spelling : Word → List ℕ
spelling TypeWord = codes "type"
spelling Tree = codes "tree"
spelling Lang = codes "lang"
spelling Trans = codes "trans"
spelling Def = codes "def"
spelling Where = codes "where"
spelling Given = codes "given"
spelling To = codes "to"
spelling Intersect = codes "intersect"
spelling Union = codes "union"
spelling Complement = codes "complement"
spelling Difference = codes "difference"
spelling Minimize = codes "minimize"
spelling Domain = codes "domain"
spelling Compose = codes "compose"
spelling Restrict = codes "restrict"
spelling Apply = codes "apply"
spelling In = codes "in"
spelling And = codes "and"
spelling Or = codes "or"
spelling Not = codes "not"
spelling True = codes "true"
spelling False = codes "false"
spelling AssertTrue = codes "assert-true"
spelling AssertFalse = codes "assert-false"
spelling PreImage = codes "pre-image"
spelling RestrictOut = codes "restrict-out"
spelling GetWitness = codes "get-witness"
spelling IsEmpty = codes "is-empty"
spelling TypeCheck = codes "type-check"
spelling Id = []
spelling Number = []
spelling Quoted = []
spelling RoundOpen = codes "("
spelling RoundClose = codes ")"
spelling SquareOpen = codes "["
spelling SquareClose = codes "]"
spelling CurlyOpen = codes "{"
spelling CurlyClose = codes "}"
spelling Comma = codes ","
spelling Bar = codes "|"
spelling Colon = codes ":"
spelling Assign = codes ":="
spelling Arrow = codes "->"
spelling Same = codes "=="
spelling Equal = codes "="
spelling NotEqual = codes "!="
spelling AtMost = codes "<="
spelling AtLeast = codes ">="
spelling Less = codes "<"
spelling Greater = codes ">"
spelling Plus = codes "+"
spelling Minus = codes "-"
spelling Star = codes "*"
spelling Percent = codes "%"
spelling Element = 8712 ∷ []

-- the keywords that are spelled as a name could be
unfoldable pub keywords : List Word
keywords = TypeWord ∷ Tree ∷ Lang ∷ Trans ∷ Def ∷ Where ∷ Given ∷ To ∷ Intersect ∷ Union ∷ Complement ∷ Difference ∷ Minimize ∷ Domain ∷ Compose ∷ Restrict ∷ Apply ∷ In ∷ And ∷ Or ∷ Not ∷ True ∷ False ∷ []

-- those with a hyphen
unfoldable pub hyphenated : List Word
hyphenated = AssertTrue ∷ AssertFalse ∷ PreImage ∷ RestrictOut ∷ GetWitness ∷ IsEmpty ∷ TypeCheck ∷ []

unfoldable pub signs : List Word
signs = RoundOpen ∷ RoundClose ∷ SquareOpen ∷ SquareClose ∷ CurlyOpen ∷ CurlyClose ∷ Comma ∷ Bar ∷ Colon ∷ Assign ∷ Arrow ∷ Same ∷ Equal ∷ NotEqual ∷ AtMost ∷ AtLeast ∷ Less ∷ Greater ∷ Plus ∷ Minus ∷ Star ∷ Percent ∷ Element ∷ []

-- the one of these words that is spelled so
unfoldable pub spelled : List Word → List ℕ → Option Word
spelled [] cs = None
spelled (w ∷ ws) cs = if bytes_eq (spelling w) cs then Some w else spelled ws cs

-- The printed text of a program, as the list of its pieces: tokens, and the blanks between them. An item stands on a line of its own. Single blanks stand between tokens, save that none stands after `(` and `[`, before `)`, `]` and `,`, between a constructor of a head or type and its `(`, and after a `-` before one operand.
use Rattle.std.specs.Prelude.{ℕ, ℤ, pos, negsuc, suc, Bool, true, false, nat_le, if◌then◌else◌, List, [], ◌∷◌, ◌++◌, Option, Some, None}
use Rattle.std.specs.Fmt.{decimal}
use Rattle.model_tree.specs.Printed.{printed_text}
use Rattle.model_program.specs.declared.Word.{Word}
use Rattle.model_program.specs.declared.Word.TheVariants.{TypeWord, Lang, Trans, Def, Where, Given, To, In, Not, True, False, AssertTrue, AssertFalse, PreImage, RestrictOut, GetWitness, IsEmpty, TypeCheck, RoundOpen, RoundClose, SquareOpen, SquareClose, CurlyOpen, CurlyClose, Comma, Bar, Colon, Assign, Arrow, Same, Equal, NotEqual, AtMost, AtLeast, Less, Greater, Plus, Minus, Star, Percent, Element}
use Rattle.model_program.specs.declared.Word.TheVariants as word
use Rattle.model_program.specs.Pieces.{PieceKind, Name, Hyphenated, Digits, Text, Sign, Blank}
use Rattle.model_program.specs.Pieces as pieces
use Rattle.model_program.specs.Cuts.{Piece, texts_of}
use Rattle.model_program.specs.Spellings.{spelling}
use Rattle.model_program.specs.Syntax as names
use Rattle.model_program.specs.Grammar.{assert_word}
use Rattle.model_grammar.specs.declared.Chain.{Chain}
use Rattle.model_grammar.specs.declared.Chain.TheVariants.{Disjunction, Conjunction, Product}
use Rattle.model_grammar.specs.declared.Chain.TheVariants as kind
use Rattle.model_grammar.specs.declared.Level.{Level}
use Rattle.model_grammar.specs.declared.Level.TheVariants.{E, Conj, Neg, Cmp, Sum, Prod, Unary, Prim}
use Rattle.model_grammar.specs.Syntax.{Expr, field, number, text, truth, negation, compare, minus, chain, Parts, no_parts, part, X, named, one, two, literal, Xs, no_x, and_x, Out, child, call, node, Outs, no_out, and_out, Rule, OutRule, TreeItem, LangItem, TransItem, DefItem, Claim, equal, member, empty, type_check, sorts, tree, lang, trans, def, assertion, Item}
use Rattle.model_grammar.specs.Operators.{op1_word, op2_word, rel_word, chain_word}
use Rattle.model_grammar.specs.Expressions.{operand}

abbrev pub piece : PieceKind → List ℕ → Piece
piece k cs = record { kind = k; text = cs }

abbrev pub blank : Piece
blank = piece Blank (32 ∷ [])

abbrev pub line_end : Piece
line_end = piece Blank (10 ∷ [])

-- which kind of piece a keyword or a sign is
abbrev pub kind_of : Word → PieceKind
kind_of AssertTrue = Hyphenated
kind_of AssertFalse = Hyphenated
kind_of PreImage = Hyphenated
kind_of RestrictOut = Hyphenated
kind_of GetWitness = Hyphenated
kind_of IsEmpty = Hyphenated
kind_of TypeCheck = Hyphenated
kind_of RoundOpen = Sign
kind_of RoundClose = Sign
kind_of SquareOpen = Sign
kind_of SquareClose = Sign
kind_of CurlyOpen = Sign
kind_of CurlyClose = Sign
kind_of Comma = Sign
kind_of Bar = Sign
kind_of Colon = Sign
kind_of Assign = Sign
kind_of Arrow = Sign
kind_of Same = Sign
kind_of Equal = Sign
kind_of NotEqual = Sign
kind_of AtMost = Sign
kind_of AtLeast = Sign
kind_of Less = Sign
kind_of Greater = Sign
kind_of Plus = Sign
kind_of Minus = Sign
kind_of Star = Sign
kind_of Percent = Sign
kind_of Element = Sign
kind_of _ = Name

-- a keyword or a sign
abbrev pub token : Word → Piece
token w = piece (kind_of w) (spelling w)

abbrev pub name : names.Name → List Piece
name n = piece Name n.text ∷ []

-- a number is decimal, with `-` where it is negative
abbrev pub whole : ℤ → List Piece
whole (pos n) = piece Digits (decimal n) ∷ []
whole (negsuc n) = token Minus ∷ piece Digits (decimal (suc n)) ∷ []

-- `(`, these pieces and `)`
abbrev pub bracketed : List Piece → List Piece
bracketed ps = token RoundOpen ∷ (ps ++ token RoundClose ∷ [])

-- items behind another, each behind a comma
abbrev pub behind_commas : {A : Type 0} → (A → List Piece) → List A → List Piece
behind_commas printed [] = []
behind_commas printed (a ∷ others) = token Comma ∷ blank ∷ (printed a ++ behind_commas printed others)

-- items with commas between them
abbrev pub with_commas : {A : Type 0} → (A → List Piece) → List A → List Piece
with_commas printed [] = []
with_commas printed (a ∷ others) = printed a ++ behind_commas printed others

-- items, each behind a blank
abbrev pub behind_blanks : {A : Type 0} → (A → List Piece) → List A → List Piece
behind_blanks printed [] = []
behind_blanks printed (a ∷ others) = blank ∷ (printed a ++ behind_blanks printed others)

-- rules behind another, each behind a bar
abbrev pub behind_bars : {A : Type 0} → (A → List Piece) → List A → List Piece
behind_bars printed [] = []
behind_bars printed (a ∷ others) = blank ∷ token Bar ∷ blank ∷ (printed a ++ behind_bars printed others)

-- `{`, these pieces and `}`
abbrev pub in_braces : List Piece → List Piece
in_braces ps = token CurlyOpen ∷ blank ∷ (ps ++ blank ∷ token CurlyClose ∷ [])

-- rules with bars between them
abbrev pub with_bars : {A : Type 0} → (A → List Piece) → List A → List Piece
with_bars printed [] = []
with_bars printed (a ∷ others) = printed a ++ behind_bars printed others

-- rules with bars between them, in braces
abbrev pub rules_of : {A : Type 0} → (A → List Piece) → List A → List Piece
rules_of printed rules = in_braces (with_bars printed rules)

-- how tightly each level binds
abbrev pub rank : Level → ℕ
rank E = 0
rank Conj = 1
rank Neg = 2
rank Cmp = 3
rank Sum = 4
rank Prod = 5
rank Unary = 6
rank Prim = 7

abbrev pub chain_level : Chain → Level
chain_level Disjunction = E
chain_level Conjunction = Conj
chain_level kind.Sum = Sum
chain_level Product = Prod

-- the tightest level at which an expression stands without parentheses
abbrev pub own_level : Expr → Level
own_level (field p t) = Prim
own_level (number p (pos n)) = Prim
own_level (number p (negsuc n)) = Unary
own_level (text p t) = Prim
own_level (truth p b) = Prim
own_level (negation p e) = Neg
own_level (compare p r a b) = Cmp
own_level (minus p e) = Unary
own_level (chain k p parts) = chain_level k

-- whether what stands at the second level stands at the first
abbrev pub fits : Level → Level → Bool
fits level own = nat_le (rank level) (rank own)

-- an expression at a level, with parentheses where it doesn't stand there by itself
abbrev pub at_level : Level → Expr → List Piece → List Piece
at_level level e ps = if fits level (own_level e) then ps else bracketed ps

-- What stands behind `-` without parentheses: no operator, and no number, since `-` and a number are one constant.
abbrev pub stands_behind_minus : Expr → Bool
stands_behind_minus (field p t) = true
stands_behind_minus (text p t) = true
stands_behind_minus (truth p b) = true
stands_behind_minus _ = false

abbrev pub behind_minus : Expr → List Piece → List Piece
behind_minus e ps = if stands_behind_minus e then ps else bracketed ps

abbrev pub truth_word : Bool → Word
truth_word true = True
truth_word false = False

-- A label expression, operators between their operands.
abbrev mutual
  pub expression : Expr → List Piece
  expression (field p t) = piece Name t ∷ []
  expression (number p n) = whole n
  expression (text p t) = piece pieces.Text (printed_text t) ∷ []
  expression (truth p b) = token (truth_word b) ∷ []
  expression (negation p e) = token Not ∷ blank ∷ at_level Cmp e (expression e)
  expression (compare p r a b) = at_level Sum a (expression a) ++ blank ∷ token (rel_word r) ∷ blank ∷ at_level Sum b (expression b)
  expression (minus p e) = token Minus ∷ behind_minus e (expression e)
  expression (chain k p parts) = operands k parts

  pub operands : Chain → Parts → List Piece
  operands k no_parts = []
  operands k (part marked e parts) = at_level (operand k) e (expression e) ++ further k parts

  -- operands behind another, each behind its sign
  pub further : Chain → Parts → List Piece
  further k no_parts = []
  further k (part marked e parts) = blank ∷ token (chain_word k marked) ∷ blank ∷ (at_level (operand k) e (expression e) ++ further k parts)

abbrev pub labels_of : List Expr → List Piece
labels_of labels = token SquareOpen ∷ (with_commas expression labels ++ token SquareClose ∷ [])

abbrev mutual
  pub term : X → List Piece
  term (named n) = name n
  term (one op p x) = bracketed (token (op1_word op) ∷ blank ∷ term x)
  term (two op p x y) = bracketed (token (op2_word op) ∷ blank ∷ (term x ++ blank ∷ term y))
  term (literal n labels xs) = bracketed (name n ++ blank ∷ (labels_of labels ++ terms xs))

  pub terms : Xs → List Piece
  terms no_x = []
  terms (and_x x xs) = blank ∷ (term x ++ terms xs)

abbrev mutual
  pub output : Out → List Piece
  output (child n) = name n
  output (call q y) = bracketed (name q ++ blank ∷ name y)
  output (node n labels outs) = bracketed (name n ++ blank ∷ (labels_of labels ++ outputs outs))

  pub outputs : Outs → List Piece
  outputs no_out = []
  outputs (and_out out outs) = blank ∷ (output out ++ outputs outs)

abbrev pub demand : names.Demand → List Piece
demand d = bracketed (name d.language ++ blank ∷ name d.child)

abbrev pub guarded : Option Expr → List Piece
guarded None = []
guarded (Some e) = blank ∷ token Where ∷ blank ∷ expression e

abbrev pub demands : List names.Demand → List Piece
demands [] = []
demands (d ∷ others) = blank ∷ token Given ∷ behind_blanks demand (d ∷ others)

abbrev pub rule : Rule → List Piece
rule r = name r.ctor ++ (bracketed (with_commas name r.vars) ++ (guarded r.guard ++ demands r.given))

abbrev pub out_rule : OutRule → List Piece
out_rule r = rule r.rule ++ blank ∷ token To ∷ blank ∷ output r.out

abbrev pub field_of : names.FieldItem → List Piece
field_of f = name f.name ++ blank ∷ token Colon ∷ blank ∷ name f.sort

abbrev pub ctor_of : names.CtorItem → List Piece
ctor_of c = name c.name ++ bracketed (whole c.rank)

abbrev pub type_item : names.TypeItem → List Piece
type_item t = name t.name ++ blank ∷ (token SquareOpen ∷ (with_commas field_of t.fields ++ token SquareClose ∷ blank ∷ in_braces (with_commas ctor_of t.ctors)))

abbrev pub tree_item : TreeItem → List Piece
tree_item t = name t.name ++ blank ∷ token Colon ∷ blank ∷ (name t.of ++ blank ∷ token Assign ∷ blank ∷ term t.value)

abbrev pub lang_item : LangItem → List Piece
lang_item l = name l.name ++ blank ∷ token Colon ∷ blank ∷ (name l.of ++ blank ∷ rules_of rule l.rules)

abbrev pub trans_item : TransItem → List Piece
trans_item t = name t.name ++ blank ∷ token Colon ∷ blank ∷ (name t.from ++ blank ∷ token Arrow ∷ blank ∷ (name t.into ++ blank ∷ rules_of out_rule t.rules))

abbrev pub into_of : Option names.Name → List Piece
into_of None = []
into_of (Some n) = blank ∷ token Arrow ∷ blank ∷ name n

abbrev pub def_item : DefItem → List Piece
def_item d = name d.name ++ blank ∷ token Colon ∷ blank ∷ (name d.from ++ (into_of d.into ++ blank ∷ token Assign ∷ blank ∷ term d.value))

abbrev pub claim : Claim → List Piece
claim (equal x y) = term x ++ blank ∷ token Same ∷ blank ∷ term y
claim (member x y) = term x ++ blank ∷ token In ∷ blank ∷ term y
claim (empty x) = bracketed (token IsEmpty ∷ blank ∷ term x)
claim (type_check x y z) = bracketed (token TypeCheck ∷ blank ∷ (term x ++ blank ∷ (term y ++ blank ∷ term z)))

abbrev pub item : Item → List Piece
item i = elim i.body [
  | sorts t ↦ token TypeWord ∷ blank ∷ type_item t
  | tree t ↦ token word.Tree ∷ blank ∷ tree_item t
  | lang l ↦ token Lang ∷ blank ∷ lang_item l
  | trans t ↦ token Trans ∷ blank ∷ trans_item t
  | def d ↦ token Def ∷ blank ∷ def_item d
  | assertion a ↦ token (assert_word a.wanted) ∷ blank ∷ claim a.claim
]

-- each item on its line
abbrev pub lines : List Item → List Piece
lines [] = []
lines (i ∷ items) = item i ++ line_end ∷ lines items

-- the characters of the printed program
abbrev pub printed_program : List Item → List ℕ
printed_program items = texts_of (lines items)

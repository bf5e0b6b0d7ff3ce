-- A program for each condition, and its refusal. Each program stands in one line.
use Rattle.std.specs.Prelude.{◌≡◌, ℕ, ◌+◌, pos, true, false, List, [], ◌∷◌, Option, Some, None, codes}
use Rattle.fast_fault.specs.declared.code.Code.{Code}
use Rattle.fast_fault.specs.declared.code.Code.TheVariants.{DuplicateType, NoLeaf, DuplicateName, UnknownName, WrongKind, WrongType, WrongRank, DuplicateVariable, UnknownField, WrongSort, NotLinear, BadModulus, NumberRange, UsedTooEarly, TooMany}
use Rattle.fast_fault.specs.declared.place.Pos.{Pos}
use Rattle.model_program.specs.Syntax.{Name, FieldItem, CtorItem}
use Rattle.model_grammar.specs.declared.Chain.TheVariants.{Product}
use Rattle.model_grammar.specs.declared.Op1.TheVariants.{Domain}
use Rattle.model_grammar.specs.declared.Rel.TheVariants.{Equal}
use Rattle.model_grammar.specs.Syntax.{Expr, field, number, compare, chain, no_parts, part, named, one, Rule, empty, Item, sorts, lang, def, assertion}
use Rattle.model_checks.specs.Programs.{refusal_of}

abbrev column : ℕ → Pos
column n = record { line = 1; column = n }

abbrev name : List ℕ → ℕ → Name
name text n = record { text = text; place = column n }

abbrev a : List ℕ
a = codes "a"

abbrev b : List ℕ
b = codes "B"

abbrev c : List ℕ
c = codes "c"

abbrev d : List ℕ
d = codes "d"

abbrev e : List ℕ
e = codes "e"

abbrev n : List ℕ
n = codes "N"

abbrev p : List ℕ
p = codes "p"

abbrev x : List ℕ
x = codes "x"

abbrev z : List ℕ
z = codes "z"

abbrev ctor : List ℕ → ℕ → ℕ → CtorItem
ctor text at rank = record { name = name text at; rank = pos rank }

-- a type whose name stands five characters behind its keyword
abbrev type_item : ℕ → List ℕ → List FieldItem → List CtorItem → Item
type_item at text fields ctors = record { place = column at; body = sorts (record { name = name text (at + 5); fields = fields; ctors = ctors }) }

-- `type NAME[]{a(0)}`
abbrev leaves : ℕ → List ℕ → Item
leaves at text = type_item at text [] (ctor a (at + 9) 0 ∷ [])

-- `type B[]{a(0)} `
abbrev b0 : Item
b0 = leaves 1 b

-- `type N[x : Int]{z(0)} `
abbrev n0 : Item
n0 = type_item 1 n (record { name = name x 8; sort = name (codes "Int") 12 } ∷ []) (ctor z 17 0 ∷ [])

-- `CTOR(VARS) where GUARD`
abbrev rule : List ℕ → ℕ → List Name → Option Expr → List Rule
rule text at vars guard = record { ctor = name text at; vars = vars; guard = guard; given = [] } ∷ []

-- `lang p : TYPE { RULES }`, whose rules stand thirteen characters behind its keyword
abbrev p_item : ℕ → List ℕ → List Rule → Item
p_item at type rules = record { place = column at; body = lang (record { name = name p (at + 5); of = name type (at + 9); rules = rules }) }

-- `lang p : B { a() }`
abbrev p_of_leaves : ℕ → Item
p_of_leaves at = p_item at b (rule a (at + 13) [] None)

-- `lang p : N { z() where GUARD }`, behind the type N
abbrev guarded : Option Expr → List Item
guarded guard = n0 ∷ p_item 23 n (rule z 36 [] guard) ∷ []

-- `def NAME : TYPE := VALUE`
abbrev def_item : ℕ → List ℕ → List ℕ → List ℕ → Item
def_item at text type value = record { place = column at; body = def (record { name = name text (at + 4); from = name type (at + 8); into = None; value = named (name value (at + 13)) }) }

abbrev x_at : ℕ → Expr
x_at at = field (column at) x

-- the program is refused with this code at this column
abbrev pub Refused : List Item → Code → ℕ → Type 0
Refused items code at = refusal_of items ≡ Some (record { code = code; place = column at })

pub record AreRefused : Type 0 where
  -- `type B[]{a(0)} type B[]{a(0)}`
  pub duplicate_type : Refused (b0 ∷ leaves 16 b ∷ []) DuplicateType 21
  -- `type B[]{c(1)}`
  pub no_leaf : Refused (type_item 1 b [] (ctor c 10 1 ∷ []) ∷ []) NoLeaf 6
  -- `type N[x : Int]{z(0)} lang p : N { z() } lang p : N { z() }`
  pub duplicate_name : Refused (n0 ∷ p_item 23 n (rule z 36 [] None) ∷ p_item 42 n (rule z 55 [] None) ∷ []) DuplicateName 47
  -- `type B[]{a(0)} lang p : C { a() }`
  pub unknown_name : Refused (b0 ∷ p_item 16 (codes "C") (rule a 29 [] None) ∷ []) UnknownName 25
  -- `type B[]{a(0)} lang p : B { a() } assert-true (is-empty (domain p))`
  pub wrong_kind : Refused (b0 ∷ p_of_leaves 16 ∷ record { place = column 35; body = assertion (record { wanted = true; claim = empty (one Domain (column 58) (named (name p 65))) }) } ∷ []) WrongKind 65
  -- `type B[]{a(0)} type C[]{a(0)} lang p : B { a() } def d : C := p`
  pub wrong_type : Refused (b0 ∷ leaves 16 (codes "C") ∷ p_of_leaves 31 ∷ def_item 50 d (codes "C") p ∷ []) WrongType 63
  -- `type B[]{a(0)} lang p : B { a(x) }`
  pub wrong_rank : Refused (b0 ∷ p_item 16 b (rule a 29 (name x 31 ∷ []) None) ∷ []) WrongRank 29
  -- `type B[]{a(0), c(2)} lang p : B { c(x, x) }`
  pub duplicate_variable : Refused (type_item 1 b [] (ctor a 10 0 ∷ ctor c 16 2 ∷ []) ∷ p_item 22 b (rule c 35 (name x 37 ∷ name x 40 ∷ []) None) ∷ []) DuplicateVariable 40
  -- `type B[]{a(0)} lang p : B { a() where x }`
  pub unknown_field : Refused (b0 ∷ p_item 16 b (rule a 29 [] (Some (x_at 39))) ∷ []) UnknownField 39
  -- `type N[x : Int]{z(0)} lang p : N { z() where x }`
  pub wrong_sort : Refused (guarded (Some (x_at 46))) WrongSort 46
  -- `type N[x : Int]{z(0)} lang p : N { z() where x * x = 0 }`
  pub not_linear : Refused (guarded (Some (compare (column 52) Equal (chain Product (column 48) (part false (x_at 46) (part false (x_at 50) no_parts))) (number (column 54) (pos 0))))) NotLinear 48
  -- `type N[x : Int]{z(0)} lang p : N { z() where x % 0 = 1 }`
  pub bad_modulus : Refused (guarded (Some (compare (column 52) Equal (chain Product (column 48) (part false (x_at 46) (part true (number (column 50) (pos 0)) no_parts))) (number (column 54) (pos 1))))) BadModulus 50
  -- `type N[x : Int]{z(0)} lang p : N { z() where x = 9223372036854775808 }`
  pub number_range : Refused (guarded (Some (compare (column 48) Equal (x_at 46) (number (column 50) (pos 9223372036854775808))))) NumberRange 50
  -- `type B[]{a(0)} def d : B := e lang p : B { a() } def e : B := p`
  pub used_too_early : Refused (b0 ∷ def_item 16 d b e ∷ p_of_leaves 31 ∷ def_item 50 e b p ∷ []) UsedTooEarly 29
  -- `type B[]{a(0), c(9)}`
  pub too_many : Refused (type_item 1 b [] (ctor a 10 0 ∷ ctor c 16 9 ∷ []) ∷ []) TooMany 16

-- The program tree as plain data. Each name and each node has its place in the text; a text is its characters.
use Rattle.std.specs.Prelude.{ℕ, ℤ, Bool, List, [], ◌∷◌, Option}
use Rattle.fast_fault.specs.declared.place.Pos.{Pos}
use Rattle.model_program.specs.Syntax.{Name, TypeItem, Demand}
use Rattle.model_grammar.specs.declared.Op1.{Op1}
use Rattle.model_grammar.specs.declared.Op2.{Op2}
use Rattle.model_grammar.specs.declared.Rel.{Rel}
use Rattle.model_grammar.specs.declared.Chain.{Chain}

-- A label expression. Its place is that of its first operator's token, or of the name or constant that it is.
mutual
  pub data Expr : Type 0 where
    field : Pos → List ℕ → Expr
    number : Pos → ℤ → Expr
    text : Pos → List ℕ → Expr
    truth : Pos → Bool → Expr
    negation : Pos → Expr → Expr
    compare : Pos → Rel → Expr → Expr → Expr
    minus : Pos → Expr → Expr
    -- two parts at least, taken from the left
    chain : Chain → Pos → Parts → Expr

  -- The operands of a chain. Each is marked where it is subtracted, or where the remainder by it is taken; the first never is.
  pub data Parts : Type 0 where
    no_parts : Parts
    part : Bool → Expr → Parts → Parts

-- What a language, a transformation or a tree is made of. The place of an operation is its keyword.
mutual
  pub data X : Type 0 where
    named : Name → X
    one : Op1 → Pos → X → X
    two : Op2 → Pos → X → X → X
    literal : Name → List Expr → Xs → X

  pub data Xs : Type 0 where
    no_x : Xs
    and_x : X → Xs → Xs

-- An output term: a child as it is, what a transformation makes of a child, or a new node.
mutual
  pub data Out : Type 0 where
    child : Name → Out
    call : Name → Name → Out
    node : Name → List Expr → Outs → Out

  pub data Outs : Type 0 where
    no_out : Outs
    and_out : Out → Outs → Outs

pub record Rule : Type 0 where
  pub ctor : Name
  pub vars : List Name
  pub guard : Option Expr
  pub given : List Demand

pub record OutRule : Type 0 where
  pub rule : Rule
  pub out : Out

-- a tree of a type
pub record TreeItem : Type 0 where
  pub name : Name
  pub of : Name
  pub value : X

-- a language of trees of a type
pub record LangItem : Type 0 where
  pub name : Name
  pub of : Name
  pub rules : List Rule

-- a transformation of trees of one type into trees of another
pub record TransItem : Type 0 where
  pub name : Name
  pub from : Name
  pub into : Name
  pub rules : List OutRule

-- a language, or with an output type a transformation, by an expression
pub record DefItem : Type 0 where
  pub name : Name
  pub from : Name
  pub into : Option Name
  pub value : X

pub data Claim : Type 0 where
  equal : X → X → Claim
  member : X → X → Claim
  empty : X → Claim
  type_check : X → X → X → Claim

pub record AssertItem : Type 0 where
  pub wanted : Bool
  pub claim : Claim

pub data Body : Type 0 where
  sorts : TypeItem → Body
  tree : TreeItem → Body
  lang : LangItem → Body
  trans : TransItem → Body
  def : DefItem → Body
  assertion : AssertItem → Body

-- The place of an item is its first token's.
pub record Item : Type 0 where
  pub place : Pos
  pub body : Body

abbrev pub xs_of : List X → Xs
xs_of [] = no_x
xs_of (x ∷ xs) = and_x x (xs_of xs)

abbrev pub outs_of : List Out → Outs
outs_of [] = no_out
outs_of (out ∷ outs) = and_out out (outs_of outs)

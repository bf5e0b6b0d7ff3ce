-- Names, types and demands of a program as plain data. Each name has its place in the text; a text is its characters.
use Rattle.std.specs.Prelude.{ℕ, ℤ, List}
use Rattle.fast_fault.specs.declared.place.Pos.{Pos}

pub record Name : Type 0 where
  pub text : List ℕ
  pub place : Pos

pub record FieldItem : Type 0 where
  pub name : Name
  pub sort : Name

pub record CtorItem : Type 0 where
  pub name : Name
  pub rank : ℤ

pub record TypeItem : Type 0 where
  pub name : Name
  pub fields : List FieldItem
  pub ctors : List CtorItem

-- the child that a variable names is in a language
pub record Demand : Type 0 where
  pub language : Name
  pub child : Name

-- Where expressions are evaluated.
use Rattle.std.specs.Prelude.{◌≡◌, ◌⊎◌, ◌<◌, ◌≤◌, ℕ, List, Option, Some, None, get_or, length}
use Rattle.model_tree.specs.Limits.{most_classes}
use Rattle.model_tree.specs.Signature.{sorts_of}
use Rattle.model_grammar.specs.Syntax.{X, Item}
use Rattle.model_tree.specs.Tree.{LabelTree}
use Rattle.model_meaning.specs.Meaning.{IsInLanguage, IsRelated, signature_named}
use Rattle.model_run.specs.Plain.{IsPlain, IsLinear}
use Rattle.model_layers.specs.Carries.{IsTyped}
use Rattle.program_check.specs.declared.programs.Checked.{Checked}
use Rattle.sta_core.specs.declared.Lang.{Lang}
use Rattle.record_label.specs.Rows.{RowAtom}
use Rattle.fast_build.specs.Items.{items_of}
use Rattle.sttr_core.specs.declared.sttr.Trans.{Trans}
use Rattle.record_label.specs.declared.maps.RowMap.{RowMap}
use Rattle.fast_eval.specs.declared.built.Built.{Built}
use Rattle.fast_eval.specs.declared.evaluation.Scope.{Scope}
use Rattle.fast_eval.specs.declared.scopes.Ends.{Ends}
use Rattle.fast_eval.specs.declared.evaluation.Operand.{Operand}
use Rattle.fast_eval.specs.declared.evaluation.Operand.TheVariants.{Kept, Made, Least}
use Rattle.fast_eval.specs.declared.evaluation.TransOperand.{TransOperand}
use Rattle.fast_eval.specs.declared.evaluation.TransOperand.TheVariants as trans
use Rattle.fast_eval.specs.Built.{IsBuiltOf, IsTransBuiltOf}
use Rattle.fast_eval.specs.Forms.{IsMadeFrom, IsMadeAt}
use Rattle.fast_eval.specs.Table.{IsBuiltNamed, IsTransBuiltNamed, AreBuilt}

-- the items of the program
abbrev pub items_in : Scope → List Item
items_in s = items_of s.checked.now

-- the name of the type
abbrev pub type_in : Scope → List ℕ
type_in s = s.of.now

-- what was built for names is right, and the labels are those of the type
pub record IsScope (s : Scope) : Type 0 where
  pub built : AreBuilt (items_in s) s.built.now
  pub labels : s.theory.now ≡ sorts_of (signature_named (items_in s) (Some (type_in s)))
  pub shallow : s.limit ≤ most_classes

-- the automaton of an operand, among those that were built for names; d where there is none
abbrev pub lang_of : Built → Operand → Lang RowAtom → Lang RowAtom
lang_of b (Kept place) d = get_or b.languages.values.items place d
lang_of b (Made l) d = l
lang_of b (Least m) d = m.lang

abbrev pub IsLow : Built → Operand → Type 0
IsLow b (Kept place) = place < length b.languages.values.items
IsLow b (Made l) = Unit {0}
IsLow b (Least m) = Unit {0}

-- the count of a least automaton
abbrev pub count_of : Operand → Option ℕ
count_of (Kept place) = None
count_of (Made l) = None
count_of (Least m) = Some m.count

-- it was built for the expression
pub record IsOperandOf (items : List Item) (e : X) (type : List ℕ) (b : Built) (o : Operand) : Type 0 where
  pub low : IsLow b o
  pub built : (d : Lang RowAtom) → IsBuiltOf items e type (lang_of b o d)

-- it was built for the name
pub record IsOperandNamed (items : List Item) (name : List ℕ) (b : Built) (o : Operand) : Type 0 where
  pub low : IsLow b o
  pub is : (d : Lang RowAtom) → IsBuiltNamed items name (lang_of b o d)

-- the scope of an expression of the program
pub record IsScopeOf (checked : Checked) (b : Built) (limit : ℕ) (x : X) (s : Scope) : Type 0 where
  pub program : s.checked.now ≡ checked
  pub table : s.built.now ≡ b
  pub most : s.limit ≡ limit
  pub on : (type : List ℕ) → IsMadeAt (items_of checked) type x → type_in s ≡ type

-- these are the names of the types
pub record AreEnds (from into : List ℕ) (e : Ends) : Type 0 where
  pub input : e.from.now ≡ from
  pub output : e.into.now ≡ into

-- the transducer of an operand, among those that were built for names; d where there is none
abbrev pub trans_in : Built → TransOperand → Trans RowAtom RowMap → Trans RowAtom RowMap
trans_in b (trans.Kept place) d = get_or b.transformations.values.items place d
trans_in b (trans.Made f) d = f

abbrev pub IsTransLow : Built → TransOperand → Type 0
IsTransLow b (trans.Kept place) = place < length b.transformations.values.items
IsTransLow b (trans.Made f) = Unit {0}

-- it was built for the expression
pub record IsTransOperandOf (items : List Item) (e : X) (from into : List ℕ) (b : Built) (o : TransOperand) : Type 0 where
  pub low : IsTransLow b o
  pub built : (d : Trans RowAtom RowMap) → IsTransBuiltOf items e from into (trans_in b o d)

-- it was built for the name
pub record IsTransOperandNamed (items : List Item) (name : List ℕ) (b : Built) (o : TransOperand) : Type 0 where
  pub low : IsTransLow b o
  pub is : (d : Trans RowAtom RowMap) → IsTransBuiltNamed items name (trans_in b o d)

-- for an expression from the type
abbrev pub IsTransOperandFrom : List Item → X → List ℕ → Built → TransOperand → Type 0
IsTransOperandFrom items e from b o = (into : List ℕ) → IsMadeFrom items from into e → IsTransOperandOf items e from into b o

-- ---- operands of operations on transformations

-- a transformation, and a language on the type of its outputs
pub record LooksAt (items : List Item) (f y : X) (from into : List ℕ) (a : Trans RowAtom RowMap) (b : Lang RowAtom) : Type 0 where
  pub first : IsTransBuiltOf items f from into a
  pub second : IsBuiltOf items y into b

-- two transformations, one from the type of what the other gives, of which the first is plain or the second linear
pub record RunsAfter (items : List Item) (f g : X) (from into last : List ℕ) (a b : Trans RowAtom RowMap) : Type 0 where
  pub first : IsTransBuiltOf items f from into a
  pub second : IsTransBuiltOf items g into last b
  pub can : IsPlain items f ⊎ IsLinear items g

-- each tree of the type is in the language of the expression, or isn't
abbrev pub IsDecided : List Item → List ℕ → X → Type 0
IsDecided items type y = (u : LabelTree) → IsTyped items type u → IsInLanguage items y u ⊎ ¬ (IsInLanguage items y u)

-- each output of an input of the type is in the language of the expression, or isn't
abbrev pub AreDecided : List Item → List ℕ → X → X → Type 0
AreDecided items type f y = (t u : LabelTree) → IsTyped items type t → IsRelated items f t u → IsInLanguage items y u ⊎ ¬ (IsInLanguage items y u)

-- What is so of causes and verdicts, whatever the program.
use Rattle.std.specs.Prelude.{◌≡◌, ◌↔◌, ℕ, Bool, List, [], None}
use Rattle.std.specs.List.{Contains}
use Rattle.fast_fault.specs.declared.code.Code.TheVariants.{NotComposable, EmptyLanguage, OutputCount}
use Rattle.model_tree.specs.Tree.{LabelTree}
use Rattle.model_tree.specs.Signature.{PlainSignature}
use Rattle.model_program.specs.Syntax.{TypeItem}
use Rattle.model_grammar.specs.Syntax.{X, Claim, equal, member, empty, type_check, LangItem, TransItem, AssertItem, Body, sorts, lang, trans, Item}
use Rattle.model_names.specs.Kinds.{Kind}
use Rattle.model_meaning.specs.Values.{Printed}
use Rattle.model_meaning.specs.Truth.{IsTrue}
use Rattle.model_run.specs.Parts.{LanguagePart, IsInPart, IsPart, AreClassesOf}
use Rattle.model_run.specs.Plain.{IsPlain, IsLinear}
use Rattle.model_run.specs.Items.{IsComposedInItem}
use Rattle.model_run.specs.Causes.{Stop, Uncomposable, not_composable, HasCause, TreeHasCause}
use Rattle.model_run.specs.Owed.{IsOwed}
use Rattle.model_run.specs.Words.{limit_of}
use Rattle.model_run.specs.Texts.{PlacedTree}
use Rattle.model_run.specs.Report.{items_script, trees_script, named_x, IsNeeded, IsFree}
use Rattle.model_run.specs.Outcomes.{Outcome, true_verdict, tree_verdict, IsVerdict, IsOutcome}

-- Types, languages and transformations stop no run.
pub record AreQuiet : Type 0 where
  pub types : (items : List Item) (limit : ℕ) (trees : List Printed) (t : TypeItem) (stop : Stop) → ¬ (HasCause items limit trees (sorts t) stop)
  pub languages : (items : List Item) (limit : ℕ) (trees : List Printed) (l : LangItem) (stop : Stop) → ¬ (HasCause items limit trees (lang l) stop)
  pub transformations : (items : List Item) (limit : ℕ) (trees : List Printed) (t : TransItem) (stop : Stop) → ¬ (HasCause items limit trees (trans t) stop)

-- What is shown where two transformations aren't composable: the first of some composition isn't plain, and the second not linear.
abbrev pub ShownAreNotComposable : Type 0
ShownAreNotComposable =
    (items : List Item) (limit : ℕ) (trees : List Printed) (body : Body) (c : Uncomposable) → HasCause items limit trees body (not_composable c)
    → (x y : X) × IsComposedInItem items x y body × ¬ (IsPlain items x) × ¬ (IsLinear items y)

-- no language of which one of the expressions is made tells the two trees apart
abbrev pub IsUntold : List Item → List X → List ℕ → LabelTree → LabelTree → Type 0
IsUntold items es type s t = (e : X) → Contains es e → (d : LanguagePart) → IsPart items e type d → IsInPart items d s ↔ IsInPart items d t

-- A language that is described by classes has with a tree all those that are not told apart from it: it is a union of classes.
abbrev pub ClassesAreUnions : Type 0
ClassesAreUnions =
    (items : List Item) (es : List X) (type : List ℕ) (d : LanguagePart) → AreClassesOf items es type d
    → (s t : LabelTree) → IsUntold items es type s t → IsInPart items d s → IsInPart items d t

-- An item that may have an outcome owes no refusal for a composition, for a tree of an empty language, or for a number of outputs. Whether outputs that no line
-- shows are too much, or have a far number, is no matter of outcomes: reports ask beside that nothing is owed.
pub record LinesOweNothing : Type 0 where
  pub composition : (items : List Item) (trees : List Printed) (item : Item) (o : Outcome) → IsOutcome items trees item o → ¬ (IsOwed items trees item.body NotComposable)
  pub witness : (items : List Item) (trees : List Printed) (item : Item) (o : Outcome) → IsOutcome items trees item o → ¬ (IsOwed items trees item.body EmptyLanguage)
  pub count : (items : List Item) (trees : List Printed) (item : Item) (o : Outcome) → IsOutcome items trees item o → ¬ (IsOwed items trees item.body OutputCount)

-- the statement is one of equality, emptiness or types
abbrev pub IsOfLanguages : Claim → Type 0
IsOfLanguages (equal x y) = Unit {0}
IsOfLanguages (member x y) = ⊥
IsOfLanguages (empty x) = Unit {0}
IsOfLanguages (type_check x f y) = Unit {0}

-- A verdict without a tree passes exactly where truth is asserted, and the statement is true; one with a tree passes exactly where falsehood is, and it is false.
pub record AreVerdictsRight : Type 0 where
  pub without : (items : List Item) (trees : List Printed) (line n : ℕ) (a : AssertItem) (passes : Bool) → IsVerdict items trees line a (true_verdict n passes) → (passes ≡ a.wanted) × IsTrue items a.claim
  pub with_tree : (items : List Item) (trees : List Printed) (line n : ℕ) (a : AssertItem) (passes : Bool) (signature : PlainSignature) (t : LabelTree)
      → IsOfLanguages a.claim → IsVerdict items trees line a (tree_verdict n passes signature t) → ¬ (passes ≡ a.wanted) × ¬ (IsTrue items a.claim)

-- no item has a cause, whatever trees were printed before it
abbrev pub HaveNoCause : List Item → ℕ → Type 0
HaveNoCause items limit = (item : Item) → Contains items item → (trees : List Printed) (stop : Stop) → ¬ (HasCause items limit trees item.body stop)

-- no item that the name needs has a cause, and none of the trees that are given to it
pub record GivenHaveNoCause (items : List Item) (name : List ℕ) (placed : List PlacedTree) : Type 0 where
  pub needed : (item : Item) → IsNeeded items name item → (stop : Stop) → ¬ (HasCause items (limit_of None) [] item.body stop)
  pub given : (tree : PlacedTree) → Contains placed tree → (stop : Stop) → ¬ (TreeHasCause items (named_x name) tree.tree stop)

-- The work stops nowhere where no item and no tree has a cause.
pub record AreFreeWhereNoCause : Type 0 where
  pub items : (items : List Item) (limit : ℕ) (file : List ℕ) → HaveNoCause items limit → IsFree (items_script items limit file)
  pub trees : (items : List Item) (file name trees : List ℕ) (kind : Kind) (placed : List PlacedTree) → GivenHaveNoCause items name placed → IsFree (trees_script items file name trees kind placed)

-- Legal reports of each command, and with which status.
use Rattle.std.specs.Prelude.{◌≡◌, ◌⊎◌, ◌≤◌, ℕ, suc, true, false, List, [], ◌∷◌, ◌++◌, Option, None, Some, IfSome, codes, length}
use Rattle.std.specs.List.{All, Contains, sum_by}
use Rattle.std.specs.declared.cmp.Ordering.TheVariants.{Less}
use Rattle.fast_fault.specs.declared.place.Pos.{Pos}
use Rattle.fast_fault.specs.declared.code.Code.{Code}
use Rattle.fast_fault.specs.declared.status.Status.{Status}
use Rattle.fast_fault.specs.declared.status.Status.TheVariants.{Hold, Fails, Words, TextRefused, RunRefused, TextFault, SinkFault, Memory}
use Rattle.fast_fault.specs.Written.{Appends}
use Rattle.model_tree.specs.Limits.{most_nodes, most_outputs}
use Rattle.model_tree.specs.Tree.{LabelTree, node_count}
use Rattle.model_program.specs.Syntax.{Name}
use Rattle.model_grammar.specs.Syntax.{X, named, Item}
use Rattle.model_grammar.specs.Places.{nowhere}
use Rattle.model_grammar.specs.Grammar.{IsProgram}
use Rattle.model_grammar.specs.Texts.{IsText}
use Rattle.model_sta.specs.EachTwo.{EachTwo}
use Rattle.model_checks.specs.Programs.{is_well_formed}
use Rattle.model_names.specs.Declared.{own_name}
use Rattle.model_names.specs.Kinds.{Kind, language, transformation}
use Rattle.model_meaning.specs.Meaning.{IsInLanguage, IsRelated, input_type, output_type}
use Rattle.model_meaning.specs.Reached.{DependsOn}
use Rattle.model_run.specs.Order.{label_tree_cmp}
use Rattle.model_run.specs.Causes.{Stop, HasCause, TreeHasCause}
use Rattle.model_run.specs.Owed.{IsUnowed}
use Rattle.model_run.specs.Words.{CommandForm, check_form, run_form, apply_form, accepts_form, self_form, AreWordsOf, limit_of, usage_line}
use Rattle.model_run.specs.Items.{IsComposable}
use Rattle.model_run.specs.Printable.{IsPrintable}
use Rattle.model_run.specs.Outcomes.{Outcome, IsOutcome, line_of, trees_in, has_failed}
use Rattle.model_run.specs.Texts.{IsChecked, IsRefused, IsNameRefused, IsNameOf, PlacedTree, IsFileOf, IsFileRefused}
use Rattle.model_run.specs.Generator.{self_text}
use Rattle.model_run.specs.Lines.{refusal_line, name_line, stop_line, checked_line, outputs_lines, inside_line, outside_line, self_line}
use Rattle.model_run.specs.Scripts.{Script, Comes, Ending, whole, unfinished, Writes, IsLine}

-- ---- the items of a program in order

-- the items that are left, and the outcomes of those that are done, the last one first
pub record Work : Type 0 where
  pub left : List Item
  pub done : List Outcome

-- the next item has an outcome, and no refusal is owed of it; its line comes next
pub record IsItemDone (items : List Item) (before : Work) (line : List ℕ) (after : Work) : Type 0 where
  pub item : Item
  pub left : before.left ≡ item ∷ after.left
  pub outcome : Outcome
  pub done : after.done ≡ outcome ∷ before.done
  pub may : IsOutcome items (trees_in before.done) item outcome
  pub unowed : IsUnowed items (trees_in before.done) item.body
  pub is : line ≡ line_of outcome

-- the next item has a cause, and the line of its refusal comes last
pub record StopsAtItem (items : List Item) (limit : ℕ) (file : List ℕ) (work : Work) (last : List ℕ) : Type 0 where
  pub item : Item
  pub later : List Item
  pub left : work.left ≡ item ∷ later
  pub stop : Stop
  pub cause : HasCause items limit (trees_in work.done) item.body stop
  pub is : last ≡ stop_line stop file item.place

abbrev pub ItemsEnd : List Item → ℕ → List ℕ → Work → Status → List ℕ → Type 0
ItemsEnd items limit file work Hold last = (work.left ≡ []) × (has_failed work.done ≡ false) × (last ≡ [])
ItemsEnd items limit file work Fails last = (work.left ≡ []) × (has_failed work.done ≡ true) × (last ≡ [])
ItemsEnd items limit file work RunRefused last = StopsAtItem items limit file work last
ItemsEnd items limit file work status last = ⊥

abbrev pub items_script : List Item → ℕ → List ℕ → Script
items_script items limit file = record {
  State = Work;
  start = record { left = items; done = [] };
  Next = IsItemDone items;
  Ends = ItemsEnd items limit file;
}

-- ---- trees in order, that are given to a language or transformation

-- the trees that are left, and how many are done
pub record Given : Type 0 where
  pub left : List PlacedTree
  pub done : ℕ

-- Exactly the trees to which the transformation relates one, each once, in order. Each can be shown, and together they aren't too much.
pub record AreOutputs (items : List Item) (x : X) (t : LabelTree) (us : List LabelTree) : Type 0 where
  pub outputs : (u : LabelTree) → Contains us u → IsRelated items x t u
  pub all : (u : LabelTree) → IsRelated items x t u → Contains us u
  pub in_order : EachTwo (λ u w. label_tree_cmp u w ≡ Less) us
  pub printable : All IsPrintable us
  pub few : length us ≤ most_outputs
  pub small : sum_by node_count us ≤ most_nodes

-- the lines of a tree: its outputs, or whether it is in the language
abbrev pub AreLinesOf : List Item → X → Kind → ℕ → LabelTree → List ℕ → Type 0
AreLinesOf items x transformation k t lines = (us : List LabelTree) × AreOutputs items x t us × (lines ≡ outputs_lines (output_type items x) k us)
AreLinesOf items x language k t lines = (IsInLanguage items x t × (lines ≡ inside_line k)) ⊎ (¬ (IsInLanguage items x t) × (lines ≡ outside_line k))
AreLinesOf items x kind k t lines = ⊥

abbrev pub named_x : List ℕ → X
named_x name = named (record { text = name; place = nowhere })

-- the item declares a name on which this name depends
pub record IsNeeded (items : List Item) (name : List ℕ) (item : Item) : Type 0 where
  pub there : Contains items item
  pub own : Name
  pub named : own_name item.body ≡ Some own
  pub needed : DependsOn items (named_x name) own.text

-- the transformations of each item that the name needs can be composed
abbrev pub AreNeededComposable : List Item → List ℕ → Type 0
AreNeededComposable items name = (item : Item) → IsNeeded items name item → IsComposable items item.body

-- the next tree's lines come next
pub record IsTreeDone (items : List Item) (name : List ℕ) (kind : Kind) (before : Given) (lines : List ℕ) (after : Given) : Type 0 where
  pub composable : AreNeededComposable items name
  pub tree : PlacedTree
  pub left : before.left ≡ tree ∷ after.left
  pub done : after.done ≡ suc before.done
  pub are : AreLinesOf items (named_x name) kind after.done tree.tree lines

-- an item that the name needs has a cause, and the line of its refusal comes alone
pub record StopsAtNeeded (items : List Item) (limit : ℕ) (file name : List ℕ) (last : List ℕ) : Type 0 where
  pub item : Item
  pub needed : IsNeeded items name item
  pub stop : Stop
  pub cause : HasCause items limit [] item.body stop
  pub is : last ≡ stop_line stop file item.place

-- the next tree has a cause, and the line of its refusal comes last
pub record StopsAtTree (items : List Item) (name file : List ℕ) (given : Given) (last : List ℕ) : Type 0 where
  pub composable : AreNeededComposable items name
  pub tree : PlacedTree
  pub later : List PlacedTree
  pub left : given.left ≡ tree ∷ later
  pub stop : Stop
  pub cause : TreeHasCause items (named_x name) tree.tree stop
  pub is : last ≡ stop_line stop file tree.place

abbrev pub TreesEnd : List Item → List ℕ → List ℕ → List ℕ → Kind → Given → Status → List ℕ → Type 0
TreesEnd items file name trees kind given Hold last = AreNeededComposable items name × (given.left ≡ []) × (last ≡ [])
TreesEnd items file name trees transformation given RunRefused last =
    ((given.done ≡ 0) × StopsAtNeeded items (limit_of None) file name last) ⊎ StopsAtTree items name trees given last
TreesEnd items file name trees kind given RunRefused last = (given.done ≡ 0) × StopsAtNeeded items (limit_of None) file name last
TreesEnd items file name trees kind given status last = ⊥

abbrev pub trees_script : List Item → List ℕ → List ℕ → List ℕ → Kind → List PlacedTree → Script
trees_script items file name trees kind placed = record {
  State = Given;
  start = record { left = placed; done = 0 };
  Next = IsTreeDone items name kind;
  Ends = TreesEnd items file name trees kind;
}

-- ---- reports of the forms

-- a text is refused, and the line says so
pub record IsTextRefused (Refused : Code → Pos → Type 0) (file : List ℕ) (ending : Ending) (report : List ℕ) : Type 0 where
  pub code : Code
  pub place : Pos
  pub refused : Refused code place
  pub is : IsLine TextRefused (refusal_line code file place) ending report

-- a text is refused, or is a well-formed program, and what is reported of that
abbrev pub ProgramReport : List ℕ → List ℕ → (List Item → Ending → List ℕ → Type 0) → Ending → List ℕ → Type 0
ProgramReport file bytes Reported ending report = IsTextRefused (IsRefused bytes) file ending report ⊎ ((items : List Item) × IsChecked bytes items × Reported items ending report)

-- the trees of a file are refused, or are given to a name of this kind
abbrev pub TreesReport : List Item → List ℕ → List ℕ → List ℕ → Kind → List ℕ → Ending → List ℕ → Type 0
TreesReport items file name trees kind bytes ending report =
    IsTextRefused (IsFileRefused (input_type items (named_x name)) bytes) trees ending report
    ⊎ ((placed : List PlacedTree) × IsFileOf (input_type items (named_x name)) bytes placed
    × Writes (trees_script items file name trees kind placed) ending report)

-- the name is refused, or is of this kind
abbrev pub NameReport : List ℕ → List ℕ → List ℕ → Kind → Option (List ℕ) → List Item → Ending → List ℕ → Type 0
NameReport file name trees kind held items ending report =
    ((code : Code) × IsNameRefused items kind name code × IsLine TextRefused (name_line code) ending report)
    ⊎ (IsNameOf items kind name × IfSome held (λ bytes. TreesReport items file name trees kind bytes ending report))

abbrev pub CheckReport : List Item → Ending → List ℕ → Type 0
CheckReport items ending report = IsLine Hold (checked_line items) ending report

abbrev pub RunReport : List ℕ → ℕ → List Item → Ending → List ℕ → Type 0
RunReport file limit items ending report = Writes (items_script items limit file) ending report

abbrev pub self_name : List ℕ
self_name = codes "self"

-- the last line of a legal report of the program, or its summary
abbrev pub self_last : ℕ → List Item → Work → Status → List ℕ → List ℕ
self_last n items work RunRefused last = last
self_last n items work status last = self_line n items work.done

-- the program that is made from the number is run, and the last line of its report, or its summary, is all that is told
pub record SelfReport (n : ℕ) (items : List Item) (ending : Ending) (report : List ℕ) : Type 0 where
  pub work : Work
  pub before : List ℕ
  pub comes : Comes (items_script items (limit_of None) self_name) work before
  pub status : Status
  pub last : List ℕ
  pub ends : ItemsEnd items (limit_of None) self_name work status last
  pub is : IsLine status (self_last n items work status last) ending report

-- What a form of words may report over what is held under each name, where that is told.
abbrev pub CommandReport : CommandForm → (List ℕ → Option (List ℕ)) → Ending → List ℕ → Type 0
CommandReport (check_form file) held ending report = IfSome (held file) (λ bytes. ProgramReport file bytes CheckReport ending report)
CommandReport (run_form file limit) held ending report = IfSome (held file) (λ bytes. ProgramReport file bytes (RunReport file (limit_of limit)) ending report)
CommandReport (apply_form file name trees) held ending report =
    IfSome (held file) (λ bytes. ProgramReport file bytes (NameReport file name trees transformation (held trees)) ending report)
CommandReport (accepts_form file name trees) held ending report =
    IfSome (held file) (λ bytes. ProgramReport file bytes (NameReport file name trees language (held trees)) ending report)
CommandReport (self_form n) held ending report = ProgramReport self_name (self_text n) (SelfReport n) ending report

-- With each status: after a fault of the sink or for want of memory a report is nothing or an unfinished one; where a text
-- couldn't be taken nothing is written.
abbrev pub StatusReport : (Ending → List ℕ → Type 0) → Status → List ℕ → Type 0
StatusReport Reported Words report = ⊥
StatusReport Reported TextFault report = report ≡ []
StatusReport Reported SinkFault report = (report ≡ []) ⊎ Reported unfinished report
StatusReport Reported Memory report = (report ≡ []) ⊎ Reported unfinished report
StatusReport Reported status report = Reported (whole status) report

-- of words that are no form: the usage line, or a part of it
abbrev pub UsageReport : Status → List ℕ → Type 0
UsageReport Words report = report ≡ usage_line
UsageReport SinkFault report = (back : List ℕ) × (report ++ back ≡ usage_line)
UsageReport Memory report = (back : List ℕ) × (report ++ back ≡ usage_line)
UsageReport status report = ⊥

-- a legal report of these words over what is held
abbrev pub IsReport : List (List ℕ) → (List ℕ → Option (List ℕ)) → Status → List ℕ → Type 0
IsReport words held status report =
    ((form : CommandForm) × AreWordsOf words form × StatusReport (CommandReport form held) status report)
    ⊎ (((form : CommandForm) → ¬ (AreWordsOf words form)) × UsageReport status report)

-- What this call appended is, with its status, legal.
abbrev pub Reports : (Status → List ℕ → Type 0) → Status → Option (List ℕ) → Option (List ℕ) → Type 0
Reports Legal status before after = (report : List ℕ) × Legal status report × Appends before after report

-- ---- completeness

-- no item or tree at which the work may come has a cause
abbrev pub IsFree : Script → Type 0
IsFree script = (s : script.State) (before last : List ℕ) → Comes script s before → ¬ (script.Ends s RunRefused last)

-- the bytes that are held under the file's name are a well-formed program
pub record IsHeld (held : List ℕ → Option (List ℕ)) (file : List ℕ) (items : List Item) : Type 0 where
  pub bytes : List ℕ
  pub told : held file ≡ Some bytes
  pub text : IsText IsProgram bytes items
  pub well_formed : is_well_formed items ≡ true

-- and those under the name of trees are trees that may be given to a name of this kind
pub record AreHeld (held : List ℕ → Option (List ℕ)) (file name trees : List ℕ) (kind : Kind) : Type 0 where
  pub items : List Item
  pub program : IsHeld held file items
  pub named : IsNameOf items kind name
  pub bytes : List ℕ
  pub told : held trees ≡ Some bytes
  pub placed : List PlacedTree
  pub are : IsFileOf (input_type items (named_x name)) bytes placed
  pub free : IsFree (trees_script items file name trees kind placed)

-- The texts of a form are accepted, and no item or tree that it works on has a cause.
abbrev pub IsDoableOver : (List ℕ → Option (List ℕ)) → CommandForm → Type 0
IsDoableOver held (check_form file) = (items : List Item) × IsHeld held file items
IsDoableOver held (run_form file limit) = (items : List Item) × IsHeld held file items × IsFree (items_script items (limit_of limit) file)
IsDoableOver held (apply_form file name trees) = AreHeld held file name trees transformation
IsDoableOver held (accepts_form file name trees) = AreHeld held file name trees language
IsDoableOver held (self_form n) =
    (items : List Item) × IsText IsProgram (self_text n) items × (is_well_formed items ≡ true) × IsFree (items_script items (limit_of None) self_name)

-- nothing stands in the way of a whole report
pub record IsDoable (words : List (List ℕ)) (held : List ℕ → Option (List ℕ)) (form : CommandForm) : Type 0 where
  pub is : AreWordsOf words form
  pub doable : IsDoableOver held form

-- the whole report came, or a fault or want of memory stopped it
abbrev pub IsDoneOrStopped : Status → Type 0
IsDoneOrStopped Words = ⊥
IsDoneOrStopped TextRefused = ⊥
IsDoneOrStopped RunRefused = ⊥
IsDoneOrStopped status = Unit {0}

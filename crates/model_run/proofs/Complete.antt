-- Where nothing stands in the way, nothing is refused.
use Rattle.std.proofs.Common.{◌≡◌, inl, inr, ℕ, List, [], ◌∷◌, ◌++◌, Option, Some, None, IfSome, refl, sym, ap, ◌∙◌, subst}
use Rattle.std.specs.Option.{option_and_then}
use Rattle.std.specs.Prelude.{true}
use Rattle.fast_fault.specs.declared.place.Pos.{Pos}
use Rattle.fast_fault.specs.declared.code.Code.{Code}
use Rattle.fast_fault.specs.declared.code.Code.TheVariants.{UnknownName, WrongKind}
use Rattle.fast_fault.specs.declared.refusal.Refusal.{Refusal}
use Rattle.fast_fault.specs.declared.status.Status.{Status}
use Rattle.fast_fault.specs.declared.status.Status.TheVariants.{Hold, Fails, Words, TextRefused, RunRefused, TextFault, SinkFault, Memory}
use Rattle.model_tree.specs.Label.{Label}
use Rattle.model_tree.specs.Tree.{node, Trees, no_trees, tree, LabelTree}
use Rattle.model_tree.specs.Signature.{PlainSignature}
use Rattle.model_grammar.specs.Syntax.{Item}
use Rattle.model_grammar.specs.Grammar.{IsProgram}
use Rattle.model_grammar.specs.Texts.{IsText}
use Rattle.model_grammar.specs.TreeFiles.{FileTree, FileTrees, and_tree, trees_of, IsTreeFile}
use Rattle.model_grammar.specs.TreeFiles as file
use Rattle.model_names.specs.Kinds.{Kind, language, transformation, a_tree, own_kind}
use Rattle.model_checks.specs.Failures.{is_empty, first_among}
use Rattle.model_checks.specs.Programs.{failures, is_well_formed}
use Rattle.model_meaning.specs.Meaning.{input_type}
use Rattle.model_refusals.proofs.Once.{none_refused}
use Rattle.model_run.specs.Words.{CommandForm, check_form, run_form, apply_form, accepts_form, self_form, limit_of}
use Rattle.model_run.specs.Texts.{IsRefused, IsNameRefused, IsNameOf, PlacedTree, StandsFor, StandFor, AreTreesOf, IsFileOf, IsFileRefused, trees_failures}
use Rattle.model_run.specs.Generator.{self_text}
use Rattle.model_run.specs.Scripts.{Comes, Ending, whole, Writes, IsLine}
use Rattle.model_run.specs.Report.{Work, items_script, trees_script, ItemsEnd, named_x, IsTextRefused, ProgramReport, TreesReport, NameReport, CheckReport, RunReport, self_name, SelfReport, CommandReport, StatusReport, IsReport, IsFree, AreHeld, IsDoableOver, IsDoable, IsDoneOrStopped}
use Rattle.model_run.proofs.Forms.{one_form}

-- ---- texts

none_first : (fs : List Refusal) (r : Refusal) → is_empty fs ≡ true → first_among None fs ≡ Some r → ⊥
none_first [] r e f = cc
none_first (x ∷ fs) r e f = cc

accepted : (bytes : List ℕ) (items : List Item) (code : Code) (place : Pos) → IsText IsProgram bytes items → is_well_formed items ≡ true → IsRefused bytes code place → ⊥
accepted bytes items code place text well (inl unread) = none_refused IsProgram bytes items code place text unread
accepted bytes items code place text well (inr (other, the, refusal)) =
    let same : items ≡ other = the.only items text in
    none_first (failures other) _ (subst (λ xs. is_well_formed xs ≡ true) same well) refusal

-- a line that ends a report has its status
line_status : (status other : Status) (line report : List ℕ) → IsLine status line (whole other) report → other ≡ status
line_status status other line report is = is.0

not_text_refused : (bytes : List ℕ) (items : List Item) (name : List ℕ) (ending : Ending) (report : List ℕ) → IsText IsProgram bytes items → is_well_formed items ≡ true → IsTextRefused (IsRefused bytes) name ending report → ⊥
not_text_refused bytes items name ending report text well r = accepted bytes items r.code r.place text well r.refused

-- ---- scripts

items_done : (items : List Item) (limit : ℕ) (name report : List ℕ) (status : Status) → IsFree (items_script items limit name) → Writes (items_script items limit name) (whole status) report → IsDoneOrStopped status
items_done items limit name report Hold free writes = tt
items_done items limit name report Fails free writes = tt
items_done items limit name report Words free (s, before, last, come, ends, is) = ends
items_done items limit name report TextRefused free (s, before, last, come, ends, is) = ends
items_done items limit name report RunRefused free (s, before, last, come, ends, is) = absurd (free s before last come ends)
items_done items limit name report TextFault free writes = tt
items_done items limit name report SinkFault free writes = tt
items_done items limit name report Memory free writes = tt

trees_ends : (items : List Item) (name text trees : List ℕ) (kind : Kind) (placed : List PlacedTree) (report : List ℕ) (status : Status) → IsFree (trees_script items name text trees kind placed)
    → Writes (trees_script items name text trees kind placed) (whole status) report → IsDoneOrStopped status
trees_ends items name text trees kind placed report Hold free writes = tt
trees_ends items name text trees kind placed report Fails free writes = tt
trees_ends items name text trees language placed report Words free (s, before, last, come, ends, is) = ends
trees_ends items name text trees transformation placed report Words free (s, before, last, come, ends, is) = ends
trees_ends items name text trees a_tree placed report Words free (s, before, last, come, ends, is) = ends
trees_ends items name text trees language placed report TextRefused free (s, before, last, come, ends, is) = ends
trees_ends items name text trees transformation placed report TextRefused free (s, before, last, come, ends, is) = ends
trees_ends items name text trees a_tree placed report TextRefused free (s, before, last, come, ends, is) = ends
trees_ends items name text trees kind placed report RunRefused free (s, before, last, come, ends, is) = absurd (free s before last come ends)
trees_ends items name text trees kind placed report TextFault free writes = tt
trees_ends items name text trees kind placed report SinkFault free writes = tt
trees_ends items name text trees kind placed report Memory free writes = tt

-- ---- files of trees

module _ (signature : PlainSignature) where
  mutual
    same_tree : (f : FileTree) (t u : LabelTree) → StandsFor signature f t → StandsFor signature f u → t ≡ u
    same_tree (file.node place name labels fs) (node c l ts) (node d m us) (number, label, parts) (other, same, others) =
        let one : c ≡ d = cc in
        let labels_same : l ≡ m = label ∙ sym same in
        let trees_same = same_trees fs ts us parts others in
        λ i. node (one i) (labels_same i) (trees_same i)

    same_trees : (fs : FileTrees) (ts us : Trees Label) → StandFor signature fs ts → StandFor signature fs us → ts ≡ us
    same_trees file.no_trees no_trees no_trees p q = refl
    same_trees file.no_trees no_trees (tree u us) p q = absurd q
    same_trees file.no_trees (tree t ts) us p q = absurd p
    same_trees (and_tree f fs) no_trees us p q = absurd p
    same_trees (and_tree f fs) (tree t ts) no_trees p q = absurd q
    same_trees (and_tree f fs) (tree t ts) (tree u us) p q = let first = same_tree f t u p.0 q.0 in let later = same_trees fs ts us p.1 q.1 in λ i. tree (first i) (later i)

  same_placed : (fs : List FileTree) (ts us : List PlacedTree) → AreTreesOf signature fs ts → AreTreesOf signature fs us → ts ≡ us
  same_placed [] [] [] p q = refl
  same_placed [] [] (u ∷ us) p q = absurd q
  same_placed [] (t ∷ ts) us p q = absurd p
  same_placed (f ∷ fs) [] us p q = absurd p
  same_placed (f ∷ fs) (t ∷ ts) [] p q = absurd q
  same_placed (f ∷ fs) (t ∷ ts) (u ∷ us) p q =
      let place = p.0 ∙ sym q.0 in
      let one = same_tree f t.tree u.tree p.1 q.1 in
      let later = same_placed fs ts us p.2 q.2 in
      λ i. record { place = place i; tree = one i } ∷ later i

  one_file : (bytes : List ℕ) (ts us : List PlacedTree) → IsFileOf signature bytes ts → IsFileOf signature bytes us → ts ≡ us
  one_file bytes ts us p q =
      let read : p.read ≡ q.read = q.text.only p.read p.text.is in
      same_placed q.read ts us (subst (λ fs. AreTreesOf signature fs ts) read p.are) q.are

  accepted_file : (bytes : List ℕ) (ts : List PlacedTree) (code : Code) (place : Pos) → IsFileOf signature bytes ts → IsFileRefused signature bytes code place → ⊥
  accepted_file bytes ts code place p (inl unread) = none_refused IsTreeFile bytes p.read code place p.text.is unread
  accepted_file bytes ts code place p (inr (read, the, refusal)) =
      let same : p.read ≡ read = the.only p.read p.text.is in
      let none : trees_failures signature (trees_of read) ≡ [] = subst (λ fs. trees_failures signature (trees_of fs) ≡ []) same p.sound in
      none_first (trees_failures signature (trees_of read)) _ (ap is_empty none) refusal

-- ---- forms

-- the program that the text is is the one that is reported of
program_done : (name bytes : List ℕ) (items : List Item) (Reported : List Item → Ending → List ℕ → Type 0) (status : Status) (report : List ℕ) → IsText IsProgram bytes items → is_well_formed items ≡ true
    → (Reported items (whole status) report → IsDoneOrStopped status) → ProgramReport name bytes Reported (whole status) report → IsDoneOrStopped status
program_done name bytes items Reported status report text well done (inl refused) = absurd (not_text_refused bytes items name (whole status) report text well refused)
program_done name bytes items Reported status report text well done (inr (other, checked, reported)) =
    let same : items ≡ other = checked.text.only items text in
    done (subst (λ xs. Reported xs (whole status) report) (sym same) reported)

check_done : (items : List Item) (status : Status) (report : List ℕ) → CheckReport items (whole status) report → IsDoneOrStopped status
check_done items status report line = subst IsDoneOrStopped (sym line.0) tt

named_twice : (items : List Item) (kind : Kind) (name : List ℕ) (code : Code) → IsNameOf items kind name → IsNameRefused items kind name code → ⊥
named_twice items kind name UnknownName named refused = let bad : None ≡ Some kind = ap (option_and_then (λ item. own_kind item.body)) (sym refused) ∙ named in cc
named_twice items kind name WrongKind named (item, found, other) = other (ap (option_and_then (λ i. own_kind i.body)) (sym found) ∙ named)
named_twice items kind name code named refused = absurd refused

module _ (items : List Item) (name text trees : List ℕ) (kind : Kind) (named : IsNameOf items kind text) (bytes : List ℕ) (placed : List PlacedTree)
    (are : IsFileOf (input_type items (named_x text)) bytes placed) (free : IsFree (trees_script items name text trees kind placed)) where
  trees_done : (status : Status) (report : List ℕ) → TreesReport items name text trees kind bytes (whole status) report → IsDoneOrStopped status
  trees_done status report (inl refused) = absurd (accepted_file (input_type items (named_x text)) bytes placed refused.code refused.place are refused.refused)
  trees_done status report (inr (other, others, reported)) =
      let same = one_file (input_type items (named_x text)) bytes placed other are others in
      trees_ends items name text trees kind placed report status free (subst (λ ps. Writes (trees_script items name text trees kind ps) (whole status) report) (sym same) reported)

  name_done : (held : Option (List ℕ)) → held ≡ Some bytes → (status : Status) (report : List ℕ) → NameReport name text trees kind held items (whole status) report → IsDoneOrStopped status
  name_done held told status report (inl (code, refused, line)) = absurd (named_twice items kind text code named refused)
  name_done held told status report (inr (is, reported)) =
      trees_done status report (subst (λ h. IfSome h (λ bs. TreesReport items name text trees kind bs (whole status) report)) told reported)

held_done : (held : Option (List ℕ)) (bytes : List ℕ) (Reported : List ℕ → Type 0) (status : Status) → held ≡ Some bytes → (Reported bytes → IsDoneOrStopped status) → IfSome held Reported → IsDoneOrStopped status
held_done held bytes Reported status told done reported = done (subst (λ h. IfSome h Reported) told reported)

given_done : (held : List ℕ → Option (List ℕ)) (name text trees : List ℕ) (kind : Kind) (status : Status) (report : List ℕ) → AreHeld held name text trees kind
    → IfSome (held name) (λ bytes. ProgramReport name bytes (NameReport name text trees kind (held trees)) (whole status) report) → IsDoneOrStopped status
given_done held name text trees kind status report are reported =
    held_done (held name) are.program.bytes (λ bytes. ProgramReport name bytes (NameReport name text trees kind (held trees)) (whole status) report) status are.program.told
    (program_done name are.program.bytes are.items (NameReport name text trees kind (held trees)) status report are.program.text are.program.well_formed
    (name_done are.items name text trees kind are.named are.bytes are.placed are.are are.free (held trees) are.told status report)) reported

self_status : (n : ℕ) (items : List Item) (status : Status) (work : Work) (before last : List ℕ) → Comes (items_script items (limit_of None) self_name) work before → IsFree (items_script items (limit_of None) self_name)
    → ItemsEnd items (limit_of None) self_name work status last → IsDoneOrStopped status
self_status n items status work before last come free ends = items_done items (limit_of None) self_name (before ++ last) status free (work, before, last, come, ends, refl)

form_done : (form : CommandForm) (held : List ℕ → Option (List ℕ)) (status : Status) (report : List ℕ) → IsDoableOver held form → CommandReport form held (whole status) report → IsDoneOrStopped status
form_done (check_form name) held status report (items, program) reported =
    held_done (held name) program.bytes (λ bytes. ProgramReport name bytes CheckReport (whole status) report) status program.told (program_done name program.bytes items CheckReport status report program.text program.well_formed (check_done items status report)) reported
form_done (run_form name limit) held status report (items, program, free) reported =
    held_done (held name) program.bytes (λ bytes. ProgramReport name bytes (RunReport name (limit_of limit)) (whole status) report) status program.told
    (program_done name program.bytes items (RunReport name (limit_of limit)) status report program.text program.well_formed
    (items_done items (limit_of limit) name report status free)) reported
form_done (apply_form name text trees) held status report are reported = given_done held name text trees transformation status report are reported
form_done (accepts_form name text trees) held status report are reported = given_done held name text trees language status report are reported
form_done (self_form n) held status report (items, text, well, free) reported =
    program_done self_name (self_text n) items (SelfReport n) status report text well
    (λ r. subst IsDoneOrStopped (sym r.is.0) (self_status n items r.status r.work r.before r.last r.comes free r.ends)) reported

status_done : (form : CommandForm) (held : List ℕ → Option (List ℕ)) (status : Status) (report : List ℕ) → IsDoableOver held form → StatusReport (CommandReport form held) status report → IsDoneOrStopped status
status_done form held Hold report d r = tt
status_done form held Fails report d r = tt
status_done form held Words report d r = r
status_done form held TextRefused report d r = form_done form held TextRefused report d r
status_done form held RunRefused report d r = form_done form held RunRefused report d r
status_done form held TextFault report d r = tt
status_done form held SinkFault report d r = tt
status_done form held Memory report d r = tt

-- a legal report of words with which nothing stands in the way is done, or was stopped
pub completes : (words : List (List ℕ)) (held : List ℕ → Option (List ℕ)) (status : Status) (report : List ℕ) (form : CommandForm) → IsReport words held status report → IsDoable words held form → IsDoneOrStopped status
completes words held status report form (inl (other, is, reported)) d =
    let same = one_form words other form is d.is in
    status_done form held status report d.doable (subst (λ f. StatusReport (CommandReport f held) status report) same reported)
completes words held status report form (inr (none, usage)) d = absurd (none form d.is)

-- What was read and taken, and what that makes of the report.
use Rattle.std.proofs.Common.{ℕ, ◌≡◌, ◌<◌, List, [], ◌++◌, Option, Some, None, IfSome, Err, length, append_assoc, ap, ◌∙◌, sym, subst, inl, inr, refl, true}
use Rattle.std.specs.Prelude.{codes, decimal}
use Rattle.fast_fault.specs.Codes.{number_of, name_of}
use Rattle.fast_fault.specs.Taken.{IsGiven}
use Rattle.fast_fault.specs.declared.place.Pos.{Pos}
use Rattle.fast_fault.specs.declared.code.Code.{Code}
use Rattle.fast_fault.specs.declared.code.Code.TheVariants.{TooLong}
use Rattle.fast_fault.specs.declared.refusal.Refusal.{Refusal}
use Rattle.fast_fault.specs.declared.status.Status.{Status}
use Rattle.fast_fault.specs.declared.status.Status.TheVariants.{Hold, Fails, Words, TextRefused, RunRefused, TextFault, SinkFault, Memory}
use Rattle.model_tree.specs.Limits.{most_bytes}
use Rattle.model_tree.specs.Signature.{PlainSignature}
use Rattle.model_grammar.specs.Syntax.{Item}
use Rattle.model_names.specs.Kinds.{Kind}
use Rattle.model_meaning.specs.Meaning.{input_type}
use Rattle.model_grammar.specs.Grammar.{IsProgram}
use Rattle.model_grammar.specs.Texts.{IsText}
use Rattle.model_checks.specs.Programs.{is_well_formed, refusal_of}
use Rattle.model_run.specs.Words.{CommandForm, AreWordsOf, usage_line}
use Rattle.model_run.specs.Lines.{refusal_line, name_line, checked_line}
use Rattle.model_run.specs.Scripts.{Ending, whole, unfinished, Writes}
use Rattle.model_refusals.specs.Refusals.{start}
use Rattle.model_run.specs.Texts.{IsChecked, IsRefused, IsNameRefused, IsNameOf, PlacedTree, IsFileOf, IsFileRefused}
use Rattle.model_run.specs.Report.{IsTextRefused, TreesReport, NameReport, named_x, trees_script, CheckReport, RunReport, CommandReport, StatusReport, UsageReport, IsReport, Reports, items_script}
use Rattle.text_reader.specs.Answers.{IfRefused}
use Rattle.text_reader.specs.declared.texts.ReadStop.{ReadStop}
use Rattle.text_reader.specs.declared.texts.ReadStop.TheVariants.{Refused}
use Rattle.text_reader.specs.declared.texts.ReadStop.TheVariants as stops
use Rattle.fast_tool.specs.Commands.{kind_asked, asked_form}
use Rattle.fast_tool.specs.declared.words.Question.{Question}
use Rattle.fast_tool.specs.declared.words.Question.TheVariants.{Inside, Outputs}
use Rattle.fast_tool.specs.Taken.{IsProgramOf, AreTreesOf, HeldReport, TextAnswer, IsNotTaken, IsToldOf}
use Rattle.fast_session.specs.declared.session.Session.{Session}
use Rattle.fast_session.specs.Sessions.{items_in}
use Rattle.fast_tool.specs.Runs.{IsFault, EndsWith, ItemsReport}
use Rattle.fast_tool.proofs.Runs.{appends_none}

-- ---- reading and checking

pub is_checked : (bytes : List ℕ) (items own : List Item) → IsText IsProgram bytes items → ((other : List Item) → IsText IsProgram bytes other → other ≡ items) → own ≡ items → is_well_formed items ≡ true → IsChecked bytes own
is_checked bytes items own is only same ok = subst (IsChecked bytes) (sym same) (record { text = record { is = is; only = only }; well_formed = ok })

pub unchecked : (bytes : List ℕ) (items : List Item) (refusal : Refusal) → IsText IsProgram bytes items → ((other : List Item) → IsText IsProgram bytes other → other ≡ items) → refusal_of items ≡ Some refusal → IsRefused bytes refusal.code refusal.place
unchecked bytes items refusal is only refused = inr (items, record { is = is; only = only }, refused)

-- ---- what is said of the bytes is said of what is held, where that is told

pub given_program : (held : Option (List ℕ)) (bytes : List ℕ) (items : List Item) → IsGiven held bytes → IsChecked bytes items → IsProgramOf held items
given_program None bytes items given program = tt
given_program (Some text) bytes items given program = subst (λ b. IsChecked b items) given program

-- by what refuses bytes
module _ (Refuses : List ℕ → Code → Pos → Type 0) where
  given_refused : (held : Option (List ℕ)) (bytes : List ℕ) (code : Code) (place : Pos) → IsGiven held bytes → Refuses bytes code place → IfSome held (λ text. Refuses text code place)
  given_refused None bytes code place given refused = tt
  given_refused (Some text) bytes code place given refused = subst (λ b. Refuses b code place) given refused

  longer_refused : ((bytes : List ℕ) → most_bytes < length bytes → Refuses bytes TooLong start) → (held : Option (List ℕ)) → IfSome held (λ text. most_bytes < length text) → IfSome held (λ text. Refuses text TooLong start)
  longer_refused too_long None longer = tt
  longer_refused too_long (Some text) longer = too_long text longer

-- ---- reports by their status

-- what is reported with each ending is reported with each status
status_map : (R S : Ending → List ℕ → Type 0) → ((ending : Ending) (report : List ℕ) → R ending report → S ending report) → (status : Status) (report : List ℕ) → StatusReport R status report → StatusReport S status report
status_map R S f Words report r = r
status_map R S f TextFault report r = r
status_map R S f SinkFault report (inl none) = inl none
status_map R S f SinkFault report (inr r) = inr (f unfinished report r)
status_map R S f Memory report (inl none) = inl none
status_map R S f Memory report (inr r) = inr (f unfinished report r)
status_map R S f Hold report r = f (whole Hold) report r
status_map R S f Fails report r = f (whole Fails) report r
status_map R S f TextRefused report r = f (whole TextRefused) report r
status_map R S f RunRefused report r = f (whole RunRefused) report r

reports_map : (R S : Ending → List ℕ → Type 0) → ((ending : Ending) (report : List ℕ) → R ending report → S ending report) → (status : Status) (before after : Option (List ℕ)) → Reports (StatusReport R) status before after → Reports (StatusReport S) status before after
reports_map R S f status before after (report, r, a) = (report, status_map R S f status report r, a)

pub fault_of : (R : Ending → List ℕ → Type 0) (status : Status) (report : List ℕ) → IsFault status → R unfinished report → StatusReport R status report
fault_of R status report (inl e) r = rw e (inr r)
fault_of R status report (inr e) r = rw e (inr r)

-- want of memory before anything was written, and a text that couldn't be taken
pub no_memory_yet : (R : Ending → List ℕ → Type 0) (before : Option (List ℕ)) → Reports (StatusReport R) Memory before before
no_memory_yet R before = ([], inl refl, appends_none before)

pub no_text : (R : Ending → List ℕ → Type 0) (before : Option (List ℕ)) → Reports (StatusReport R) TextFault before before
no_text R before = ([], refl, appends_none before)

-- ---- refusals of a text

module _ (Refuses : List ℕ → Code → Pos → Type 0) where
  refused_held : (file : List ℕ) (held : Option (List ℕ)) (code : Code) (place : Pos) → IfSome held (λ bytes. Refuses bytes code place) → (ending : Ending) (report : List ℕ)
      → ((Refused : Code → Pos → Type 0) → Refused code place → IsTextRefused Refused file ending report) → IfSome held (λ bytes. IsTextRefused (Refuses bytes) file ending report)
  refused_held file None code place refused ending report f = tt
  refused_held file (Some bytes) code place refused ending report f = f (Refuses bytes) refused

  refused_text : (file : List ℕ) (held : Option (List ℕ)) (code : Code) (place : Pos) (status : Status) (before after : Option (List ℕ)) → IfSome held (λ bytes. Refuses bytes code place) → EndsWith before after (refusal_line code file place) TextRefused status → TextAnswer Refuses file held before after status
  refused_text file held code place status before after refused (inl (e, a)) =
      rw e (refusal_line code file place, refused_held file held code place refused (whole TextRefused) (refusal_line code file place) (λ R r. record { code = code; place = place; refused = r; is = (refl, refl) }), a)
  refused_text file held code place status before after refused (inr (fault, (front, back, joined, a))) =
      (front, fault_of (λ ending report. IfSome held (λ bytes. IsTextRefused (Refuses bytes) file ending report)) status front fault (refused_held file held code place refused unfinished front (λ R r. record { code = code; place = place; refused = r; is = (back, joined) })), a)

  -- a text that isn't taken
  pub not_taken : ((bytes : List ℕ) → most_bytes < length bytes → Refuses bytes TooLong start) → (file : List ℕ) (held : Option (List ℕ)) (status : Status) (before after : Option (List ℕ)) → IsNotTaken file held before after status → TextAnswer Refuses file held before after status
  not_taken too_long file held status before after (inl (inl fault, same)) = rw fault (subst (λ z. TextAnswer Refuses file held before z TextFault) (sym same) (no_text (λ ending report. IfSome held (λ bytes. IsTextRefused (Refuses bytes) file ending report)) before))
  not_taken too_long file held status before after (inl (inr memory, same)) = rw memory (subst (λ z. TextAnswer Refuses file held before z Memory) (sym same) (no_memory_yet (λ ending report. IfSome held (λ bytes. IsTextRefused (Refuses bytes) file ending report)) before))
  not_taken too_long file held status before after (inr (longer, ends)) = refused_text file held TooLong start status before after (longer_refused Refuses too_long held longer) ends

  -- a text that isn't read
  pub unread : (T : Type 0) (file : List ℕ) (held : Option (List ℕ)) (bytes : List ℕ) (stop : ReadStop) (status : Status) (before after : Option (List ℕ)) → IsGiven held bytes
      → IfRefused {T = T} (Err stop) (λ r. Refuses bytes r.code r.place) → IsToldOf file stop before after status → TextAnswer Refuses file held before after status
  unread T file held bytes (Refused r) status before after given refused told = refused_text file held r.code r.place status before after (given_refused Refuses held bytes r.code r.place given refused) told
  unread T file held bytes stops.Memory status before after given refused (memory, same) = rw memory (subst (λ z. TextAnswer Refuses file held before z Memory) (sym same) (no_memory_yet (λ ending report. IfSome held (λ bytes. IsTextRefused (Refuses bytes) file ending report)) before))

pub too_long_program : (bytes : List ℕ) → most_bytes < length bytes → IsRefused bytes TooLong start
too_long_program bytes longer = inl (longer, refl)

pub too_long_file : (signature : PlainSignature) (bytes : List ℕ) → most_bytes < length bytes → IsFileRefused signature bytes TooLong start
too_long_file signature bytes longer = inl (longer, refl)

held_text : (file : List ℕ) (held : Option (List ℕ)) (Reported : List Item → Ending → List ℕ → Type 0) (ending : Ending) (report : List ℕ) → IfSome held (λ bytes. IsTextRefused (IsRefused bytes) file ending report) → HeldReport file held Reported ending report
held_text file None Reported ending report r = tt
held_text file (Some bytes) Reported ending report r = inl r

-- a command that ends at its text
pub text_form : (file : List ℕ) (held : Option (List ℕ)) (Reported : List Item → Ending → List ℕ → Type 0) (status : Status) (before after : Option (List ℕ)) → TextAnswer IsRefused file held before after status → Reports (StatusReport (HeldReport file held Reported)) status before after
text_form file held Reported status before after r =
    reports_map (λ ending report. IfSome held (λ bytes. IsTextRefused (IsRefused bytes) file ending report)) (HeldReport file held Reported) (held_text file held Reported) status before after r

held_program : (file : List ℕ) (held : Option (List ℕ)) (items : List Item) (Reported : List Item → Ending → List ℕ → Type 0) → IsProgramOf held items → (ending : Ending) (report : List ℕ) → Reported items ending report → HeldReport file held Reported ending report
held_program file None items Reported program ending report r = tt
held_program file (Some bytes) items Reported program ending report r = inr (items, program, r)

-- a command that has its program
pub program_form : (file : List ℕ) (held : Option (List ℕ)) (items : List Item) (Reported : List Item → Ending → List ℕ → Type 0) (status : Status) (before after : Option (List ℕ)) → IsProgramOf held items → Reports (StatusReport (Reported items)) status before after → Reports (StatusReport (HeldReport file held Reported)) status before after
program_form file held items Reported status before after program r = reports_map (Reported items) (HeldReport file held Reported) (held_program file held items Reported program) status before after r

-- ---- one line

pub checked_report : (items : List Item) (status : Status) (before after : Option (List ℕ)) → EndsWith before after (checked_line items) Hold status → Reports (StatusReport (CheckReport items)) status before after
checked_report items status before after (inl (e, a)) = rw e (checked_line items, (refl, refl), a)
checked_report items status before after (inr (fault, (front, back, joined, a))) = (front, fault_of (CheckReport items) status front fault (back, joined), a)

-- what a session over the items reports
pub ran_report : (file : List ℕ) (limit : ℕ) (items : List Item) (s : Session) (status : Status) (before after : Option (List ℕ)) → items_in s ≡ items → s.limit ≡ limit → Reports (ItemsReport file s) status before after
    → Reports (StatusReport (RunReport file limit items)) status before after
ran_report file limit items s status before after program limited r =
    subst (λ n. Reports (StatusReport (Writes (items_script items n file))) status before after) limited (subst (λ its. Reports (StatusReport (Writes (items_script its s.limit file))) status before after) program r)

-- ---- trees that are given to a name

pub name_line_is : (code : Code) → codes "refused " ++ (decimal (number_of code) ++ (codes " " ++ (name_of code ++ codes " at word 3\n"))) ≡ name_line code
name_line_is code =
    let number = decimal (number_of code) in
    let name = name_of code in
    let behind = ap (λ z. number ++ (codes " " ++ z)) (append_assoc name (codes " at ") (codes "word 3\n")) in
    sym (append_assoc (codes "refused ") (number ++ (codes " " ++ (name ++ codes " at "))) (codes "word 3\n") ∙ ap (λ z. codes "refused " ++ z) (append_assoc number (codes " " ++ (name ++ codes " at ")) (codes "word 3\n") ∙ behind))

module _ (file name trees : List ℕ) (kind : Kind) (held : Option (List ℕ)) (items : List Item) where
  abbrev OfName : Ending → List ℕ → Type 0
  OfName = NameReport file name trees kind held items

  pub name_refused : (code : Code) (status : Status) (before after : Option (List ℕ)) → IsNameRefused items kind name code → EndsWith before after (name_line code) TextRefused status → Reports (StatusReport OfName) status before after
  name_refused code status before after refused (inl (e, a)) = rw e (name_line code, inl (code, refused, (refl, refl)), a)
  name_refused code status before after refused (inr (fault, (front, back, joined, a))) = (front, fault_of OfName status front fault (inl (code, refused, (back, joined))), a)

  module _ (signature : PlainSignature) (of : signature ≡ input_type items (named_x name)) (named : IsNameOf items kind name) where
    of_refused : (told : Option (List ℕ)) (ending : Ending) (report : List ℕ) → IfSome told (λ bytes. IsTextRefused (IsFileRefused signature bytes) trees ending report) → IfSome told (λ bytes. TreesReport items file name trees kind bytes ending report)
    of_refused None ending report r = tt
    of_refused (Some bytes) ending report r = inl (subst (λ s. IsTextRefused (IsFileRefused s bytes) trees ending report) of r)

    -- the file of trees is refused
    pub trees_refused : (status : Status) (before after : Option (List ℕ)) → TextAnswer (IsFileRefused signature) trees held before after status → Reports (StatusReport OfName) status before after
    trees_refused status before after r =
        reports_map (λ ending report. IfSome held (λ bytes. IsTextRefused (IsFileRefused signature bytes) trees ending report)) OfName (λ ending report told. inr (named, of_refused held ending report told)) status before after r

    of_given : (placed : List PlacedTree) (told : Option (List ℕ)) → AreTreesOf signature told placed → (ending : Ending) (report : List ℕ) → Writes (trees_script items file name trees kind placed) ending report
        → IfSome told (λ bytes. TreesReport items file name trees kind bytes ending report)
    of_given placed None are ending report r = tt
    of_given placed (Some bytes) are ending report r = inr (placed, subst (λ s. IsFileOf s bytes placed) of are, r)

    -- the trees are given to the name
    pub trees_given : (placed : List PlacedTree) (status : Status) (before after : Option (List ℕ)) → AreTreesOf signature held placed
        → Reports (StatusReport (Writes (trees_script items file name trees kind placed))) status before after → Reports (StatusReport OfName) status before after
    trees_given placed status before after are r =
        reports_map (Writes (trees_script items file name trees kind placed)) OfName (λ ending report given. inr (named, of_given placed held are ending report given)) status before after r

  pub answered_report : (placed : List PlacedTree) (s : Session) (status : Status) (before after : Option (List ℕ)) → items_in s ≡ items → Reports (StatusReport (Writes (trees_script (items_in s) file name trees kind placed))) status before after
      → Reports (StatusReport (Writes (trees_script items file name trees kind placed))) status before after
  answered_report placed s status before after program r =
      subst (λ its. Reports (StatusReport (Writes (trees_script its file name trees kind placed))) status before after) program r

-- ---- the words

pub with_form : (words : List (List ℕ)) (held : List ℕ → Option (List ℕ)) (form : CommandForm) (status : Status) (before after : Option (List ℕ)) → AreWordsOf words form → Reports (StatusReport (CommandReport form held)) status before after → Reports (IsReport words held) status before after
with_form words held form status before after i (report, r, a) = (report, inl (form, i, r), a)

fault_usage : (report back : List ℕ) (status : Status) → IsFault status → report ++ back ≡ usage_line → UsageReport status report
fault_usage report back status (inl f) e = rw f (back, e)
fault_usage report back status (inr f) e = rw f (back, e)

pub without_form : (words : List (List ℕ)) (held : List ℕ → Option (List ℕ)) (status : Status) (before after : Option (List ℕ)) → ((form : CommandForm) → ¬ (AreWordsOf words form)) → EndsWith before after usage_line Words status → Reports (IsReport words held) status before after
without_form words held status before after none (inl (e, b)) = rw e (usage_line, inr (none, refl), b)
without_form words held status before after none (inr (f, (front, back, e, b))) = (front, inr (none, fault_usage front back status f e), b)

pub ruleset on_words = (with_form, without_form)

-- what is asked of trees is reported as the command says
pub as_asked : (asked : Question) (file name trees : List ℕ) (held : List ℕ → Option (List ℕ)) (status : Status) (before after : Option (List ℕ)) → Reports (StatusReport (HeldReport file (held file) (NameReport file name trees (kind_asked asked) (held trees)))) status before after
    → Reports (StatusReport (CommandReport (asked_form asked file name trees) held)) status before after
as_asked Inside file name trees held status before after r = r
as_asked Outputs file name trees held status before after r = r

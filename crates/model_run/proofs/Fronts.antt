-- A front of a legal report is an unfinished report.
use Rattle.std.proofs.Common.{◌≡◌, ℕ, inl, inr, List, [], ◌∷◌, ◌++◌, Option, Some, None, IfSome, refl, sym, subst}
use Rattle.fast_fault.specs.declared.status.Status.{Status}
use Rattle.fast_fault.specs.declared.code.Code.{Code}
use Rattle.fast_fault.specs.declared.place.Pos.{Pos}
use Rattle.model_grammar.specs.Syntax.{Item}
use Rattle.model_names.specs.Kinds.{Kind, language, transformation}
use Rattle.model_run.specs.Words.{CommandForm, check_form, run_form, apply_form, accepts_form, self_form, limit_of}
use Rattle.model_run.specs.Scripts.{Script, Comes, begun, more, Ending, whole, unfinished, Writes, IsLine}
use Rattle.model_run.specs.Report.{IsTextRefused, ProgramReport, TreesReport, NameReport, items_script, trees_script, CheckReport, RunReport, self_name, SelfReport, CommandReport}
use Rattle.model_run.specs.Generator.{self_text}

-- where one list is cut in two ways
pub data IsCutAgain (front back a b : List ℕ) : Type 0 where
  within : (d : List ℕ) → a ≡ front ++ d → IsCutAgain front back a b
  behind : (d : List ℕ) → front ≡ a ++ d → d ++ back ≡ b → IsCutAgain front back a b

cut_again : (front back a b : List ℕ) → front ++ back ≡ a ++ b → IsCutAgain front back a b
cut_again [] back a b e = within a refl
cut_again (x ∷ front) back [] b e = behind (x ∷ front) refl e
cut_again (x ∷ front) back (y ∷ a) b e =
    let same : x ≡ y = cc in
    elim (cut_again front back a b (cc)) [
      | within d is ↦ within d (λ i. sym same i ∷ is i)
      | behind d is rest ↦ behind d (λ i. same i ∷ is i) rest
    ]

module _ (script : Script) where
  of_lines : (s : script.State) (written : List ℕ) → Comes script s written → (front rest : List ℕ) → front ++ rest ≡ written → Writes script unfinished front
  of_lines s written begun [] rest is = (script.start, [], [], begun, inl refl, refl)
  of_lines s written begun (x ∷ front) rest is = absurd (cc)
  of_lines s written (more before after earlier bytes come next) front rest is =
      elim (cut_again front rest earlier bytes is) [
        | within d inside ↦ of_lines before earlier come front d (sym inside)
        | behind d inside later ↦ (before, earlier, d, come, inr (inl (rest, after, subst (λ line. script.Next before line after) (sym later) next)), inside)
      ]

  front_of_whole : (status : Status) (front back : List ℕ) → Writes script (whole status) (front ++ back) → Writes script unfinished front
  front_of_whole status front back (s, before, last, come, ends, is) =
      elim (cut_again front back before last is) [
        | within d inside ↦ of_lines s before come front d (sym inside)
        | behind d inside later ↦ (s, before, d, come, inr (inr (back, status, subst (λ line. script.Ends s status line) (sym later) ends)), inside)
      ]

-- a report that keeps being legal when it is cut off
abbrev Cuts : (Ending → List ℕ → Type 0) → Type 0
Cuts Reported = (status : Status) (front back : List ℕ) → Reported (whole status) (front ++ back) → Reported unfinished front

script_cuts : (script : Script) → Cuts (Writes script)
script_cuts script = front_of_whole script

line_cuts : (status : Status) (line : List ℕ) → Cuts (IsLine status line)
line_cuts status line other front back (same, is) = (back, is)

text_cuts : (Refused : Code → Pos → Type 0) (file : List ℕ) → Cuts (IsTextRefused Refused file)
text_cuts Refused file status front back r = record { code = r.code; place = r.place; refused = r.refused; is = line_cuts _ _ status front back r.is }

program_cuts : (file bytes : List ℕ) (Reported : List Item → Ending → List ℕ → Type 0) → ((items : List Item) → Cuts (Reported items)) → Cuts (ProgramReport file bytes Reported)
program_cuts file bytes Reported cuts status front back (inl refused) = inl (text_cuts _ file status front back refused)
program_cuts file bytes Reported cuts status front back (inr (items, checked, reported)) = inr (items, checked, cuts items status front back reported)

trees_cuts : (items : List Item) (file name trees : List ℕ) (kind : Kind) (bytes : List ℕ) → Cuts (TreesReport items file name trees kind bytes)
trees_cuts items file name trees kind bytes status front back (inl refused) = inl (text_cuts _ trees status front back refused)
trees_cuts items file name trees kind bytes status front back (inr (placed, are, reported)) =
    inr (placed, are, script_cuts (trees_script items file name trees kind placed) status front back reported)

name_cuts : (file name trees : List ℕ) (kind : Kind) (held : Option (List ℕ)) (items : List Item) → Cuts (NameReport file name trees kind held items)
name_cuts file name trees kind held items status front back (inl (code, refused, line)) = inl (code, refused, line_cuts _ _ status front back line)
name_cuts file name trees kind None items status front back (inr (named, reported)) = inr (named, reported)
name_cuts file name trees kind (Some bytes) items status front back (inr (named, reported)) = inr (named, trees_cuts items file name trees kind bytes status front back reported)

told_cuts : (held : Option (List ℕ)) (Reported : List ℕ → Ending → List ℕ → Type 0) → ((bytes : List ℕ) → Cuts (Reported bytes)) → Cuts (λ ending report. IfSome held (λ bytes. Reported bytes ending report))
told_cuts None Reported cuts status front back reported = reported
told_cuts (Some bytes) Reported cuts status front back reported = cuts bytes status front back reported

self_cuts : (n : ℕ) (items : List Item) → Cuts (SelfReport n items)
self_cuts n items status front back r = record { work = r.work; before = r.before; comes = r.comes; status = r.status; last = r.last; ends = r.ends; is = line_cuts _ _ status front back r.is }

pub form_cuts : (form : CommandForm) (held : List ℕ → Option (List ℕ)) (status : Status) (front back : List ℕ) → CommandReport form held (whole status) (front ++ back) → CommandReport form held unfinished front
form_cuts (check_form file) held status front back r = told_cuts (held file) (λ bytes. ProgramReport file bytes CheckReport) (λ bytes. program_cuts file bytes CheckReport (λ items. line_cuts _ _)) status front back r
form_cuts (run_form file limit) held status front back r =
    told_cuts (held file) (λ bytes. ProgramReport file bytes (RunReport file (limit_of limit)))
    (λ bytes. program_cuts file bytes (RunReport file (limit_of limit)) (λ items. script_cuts (items_script items (limit_of limit) file))) status front back r
form_cuts (apply_form file name trees) held status front back r =
    told_cuts (held file) (λ bytes. ProgramReport file bytes (NameReport file name trees transformation (held trees)))
    (λ bytes. program_cuts file bytes (NameReport file name trees transformation (held trees)) (name_cuts file name trees transformation (held trees))) status front back r
form_cuts (accepts_form file name trees) held status front back r =
    told_cuts (held file) (λ bytes. ProgramReport file bytes (NameReport file name trees language (held trees)))
    (λ bytes. program_cuts file bytes (NameReport file name trees language (held trees)) (name_cuts file name trees language (held trees))) status front back r
form_cuts (self_form n) held status front back r = program_cuts self_name (self_text n) (SelfReport n) (self_cuts n) status front back r

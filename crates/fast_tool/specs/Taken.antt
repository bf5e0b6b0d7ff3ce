-- A text that is taken, and read and checked.
use Rattle.std.specs.Prelude.{◌≡◌, ◌⊎◌, ◌<◌, ◌++◌, ℕ, List, Option, IfSome, length, codes, decimal}
use Rattle.fast_fault.specs.declared.code.Code.{Code}
use Rattle.fast_fault.specs.declared.code.Code.TheVariants.{TooLong}
use Rattle.fast_fault.specs.declared.place.Pos.{Pos}
use Rattle.fast_fault.specs.declared.status.Status.{Status}
use Rattle.fast_fault.specs.declared.status.Status.TheVariants as ends
use Rattle.model_tree.specs.Limits.{most_bytes}
use Rattle.model_tree.specs.Signature.{PlainSignature}
use Rattle.model_grammar.specs.Syntax.{Item}
use Rattle.model_refusals.specs.Refusals.{start}
use Rattle.model_run.specs.Lines.{refused_at, refusal_line}
use Rattle.model_run.specs.Scripts.{Ending}
use Rattle.model_run.specs.Texts.{IsChecked, PlacedTree, IsFileOf}
use Rattle.model_run.specs.Report.{IsTextRefused, ProgramReport, StatusReport, Reports}
use Rattle.text_reader.specs.declared.texts.ReadStop.{ReadStop}
use Rattle.text_reader.specs.declared.texts.ReadStop.TheVariants.{Refused, Memory}
use Rattle.fast_tool.specs.Runs.{EndsWith}

-- `refused CODE NAME at FILE:LINE:COLUMN`
abbrev pub refusal_head : Code → List ℕ → Pos → List ℕ
refusal_head code file place = refused_at code ++ (file ++ (codes ":" ++ (decimal place.line ++ (codes ":" ++ decimal place.column))))

-- the items are the well-formed program that is held, where that is told
abbrev pub IsProgramOf : Option (List ℕ) → List Item → Type 0
IsProgramOf held items = IfSome held (λ bytes. IsChecked bytes items)

-- the trees are those of the type that are held, where that is told
abbrev pub AreTreesOf : PlainSignature → Option (List ℕ) → List PlacedTree → Type 0
AreTreesOf signature held placed = IfSome held (λ bytes. IsFileOf signature bytes placed)

-- what is reported of what is held, by what is reported of a well-formed program
abbrev pub HeldReport : List ℕ → Option (List ℕ) → (List Item → Ending → List ℕ → Type 0) → Ending → List ℕ → Type 0
HeldReport file held Reported ending report = IfSome held (λ bytes. ProgramReport file bytes Reported ending report)

-- what a command that ends at a text reports, by what refuses its bytes
abbrev pub TextAnswer : (List ℕ → Code → Pos → Type 0) → List ℕ → Option (List ℕ) → Option (List ℕ) → Option (List ℕ) → Status → Type 0
TextAnswer Refuses file held before after status = Reports (StatusReport (λ ending report. IfSome held (λ bytes. IsTextRefused (Refuses bytes) file ending report))) status before after

-- The text wasn't taken, and nothing was put; or it is longer than a text may be, and the line that says so was put, or a front of it.
abbrev pub IsNotTaken : List ℕ → Option (List ℕ) → Option (List ℕ) → Option (List ℕ) → Status → Type 0
IsNotTaken file held before after status =
    (((status ≡ ends.TextFault) ⊎ (status ≡ ends.Memory)) × (after ≡ before))
    ⊎ (IfSome held (λ bytes. most_bytes < length bytes) × EndsWith before after (refusal_line TooLong file start) ends.TextRefused status)

-- the line of the refusal was put, or a front of it; or nothing, for want of memory
abbrev pub IsToldOf : List ℕ → ReadStop → Option (List ℕ) → Option (List ℕ) → Status → Type 0
IsToldOf file (Refused refusal) before after status = EndsWith before after (refusal_line refusal.code file refusal.place) ends.TextRefused status
IsToldOf file Memory before after status = (status ≡ ends.Memory) × (after ≡ before)

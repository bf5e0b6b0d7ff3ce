-- What may be written line by line: scripts, and what was written by one.
use Rattle.std.specs.Prelude.{◌≡◌, ◌⊎◌, ℕ, List, [], ◌++◌}
use Rattle.fast_fault.specs.declared.status.Status.{Status}

-- How far the work is, what may come next and how far the work is then, and with what it may end: a status and the last bytes.
pub record Script : Type 1 where
  pub State : Type 0
  pub start : State
  pub Next : State → List ℕ → State → Type 0
  pub Ends : State → Status → List ℕ → Type 0

module _ (script : Script) where
  -- the work is so far, and this was written
  pub data Comes : script.State → List ℕ → Type 0 where
    begun : Comes script.start []
    more : (s after : script.State) (written bytes : List ℕ) → Comes s written → script.Next s bytes after → Comes after (written ++ bytes)

-- how a report was left: it is whole, with its status, or it was stopped by something from outside
pub data Ending : Type 0 where
  whole : Status → Ending
  unfinished : Ending

-- a front of what may come next, or of what the work may end with, or nothing
abbrev pub IsFrontOfNext : (script : Script) → script.State → List ℕ → Type 0
IsFrontOfNext script s front =
    (front ≡ [])
    ⊎ ((back : List ℕ) × (after : script.State) × script.Next s (front ++ back) after)
    ⊎ ((back : List ℕ) × (status : Status) × script.Ends s status (front ++ back))

-- A whole report is what was written, and what the work ended with. An unfinished one is what was written, and such a front.
abbrev pub Writes : Script → Ending → List ℕ → Type 0
Writes script (whole status) report = (s : script.State) × (before last : List ℕ) × Comes script s before × script.Ends s status last × (report ≡ before ++ last)
Writes script unfinished report = (s : script.State) × (before front : List ℕ) × Comes script s before × IsFrontOfNext script s front × (report ≡ before ++ front)

-- the report is one line, with its status
abbrev pub IsLine : Status → List ℕ → Ending → List ℕ → Type 0
IsLine status line (whole other) report = (other ≡ status) × (report ≡ line)
IsLine status line unfinished report = (back : List ℕ) × (report ++ back ≡ line)

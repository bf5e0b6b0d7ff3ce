-- How a run goes on, and how it ends.
use Rattle.std.specs.Prelude.{◌≡◌, ℕ, suc, Bool, List, ◌∷◌, ◌++◌, Option, ◌⊎◌, drop, length, codes, decimal, encode_utf8_all}
use Rattle.fast_fault.specs.declared.status.Status.{Status}
use Rattle.fast_fault.specs.declared.status.Status.TheVariants.{RunRefused, SinkFault, Memory}
use Rattle.fast_fault.specs.Written.{Appends, AppendsPrefix}
use Rattle.model_grammar.specs.Syntax.{Item}
use Rattle.model_run.specs.Causes.{Stop, HasCause}
use Rattle.model_run.specs.Owed.{IsUnowed}
use Rattle.model_run.specs.Outcomes.{Outcome, trees_in, IsOutcome, line_of, says_fail, has_failed}
use Rattle.model_run.specs.Lines.{stop_line}
use Rattle.model_run.specs.Scripts.{Comes, Writes}
use Rattle.model_run.specs.Report.{items_script, StatusReport}
use Rattle.fast_compose.specs.declared.stops.Uncomposable.{Uncomposable}
use Rattle.fast_session.specs.Items.{HaveScalars}
use Rattle.fast_session.specs.Sessions.{items_in, IsAt, IsItemAt}
use Rattle.fast_session.specs.declared.session.Session.{Session}

abbrev pub IsFault : Status → Type 0
IsFault status = (status ≡ SinkFault) ⊎ (status ≡ Memory)

-- a line was put whole, with the status that was to end the report, or a front of it, with a fault
abbrev pub EndsWith : Option (List ℕ) → Option (List ℕ) → List ℕ → Status → Status → Type 0
EndsWith before after line status answer = ((answer ≡ status) × Appends before after line) ⊎ (IsFault answer × AppendsPrefix before after line)

-- the rules of two transformations that aren't composed, by numbers from 1
abbrev pub rules_shown : Uncomposable → List ℕ
rules_shown u =
    codes " " ++ (encode_utf8_all u.meeting.name ++ (codes " " ++ (decimal (suc u.meeting.first) ++ (codes " " ++ (decimal (suc u.meeting.second)
    ++ (codes " " ++ (encode_utf8_all u.copying.name ++ (codes " " ++ decimal (suc u.copying.rule)))))))))

-- nothing was put, for want of memory; or the line of a refusal that can be shown, or a front of it with a fault
abbrev pub IsRefusal : Type 0 → Option (List ℕ) → Option (List ℕ) → List ℕ → Status → Type 0
IsRefusal Shown before after line status = ((status ≡ Memory) × (after ≡ before)) ⊎ (Shown × EndsWith before after line RunRefused status)

-- nothing was put, for want of memory; or a front of the line, which can be shown, with a fault
abbrev pub IsCutShort : Outcome → Option (List ℕ) → Option (List ℕ) → Status → Type 0
IsCutShort o before after status = ((status ≡ Memory) × (after ≡ before)) ⊎ (IsFault status × HaveScalars o × AppendsPrefix before after (line_of o))

-- the next item of a session whose earlier ones had these outcomes
abbrev pub IsNextItem : Session → List Outcome → Item → Type 0
IsNextItem s done item = IsItemAt (items_in s) (length done) item

-- its line was put, if it has one, and no refusal is owed of it
pub record IsDone (old new : Session) (done : List Outcome) (before after : Option (List ℕ)) (fails : Bool) : Type 0 where
  pub item : Item
  pub is : IsNextItem old done item
  pub outcome : Outcome
  pub may : IsOutcome (items_in old) (trees_in done) item outcome
  pub unowed : IsUnowed (items_in old) (trees_in done) item.body
  pub at : IsAt new (outcome ∷ done)
  pub fails_is : fails ≡ says_fail outcome
  pub appended : Appends before after (line_of outcome)

-- a fault or want of memory left a front of its line, and no refusal is owed of it
pub record IsCutOff (old : Session) (done : List Outcome) (before after : Option (List ℕ)) (status : Status) : Type 0 where
  pub item : Item
  pub is : IsNextItem old done item
  pub outcome : Outcome
  pub may : IsOutcome (items_in old) (trees_in done) item outcome
  pub unowed : IsUnowed (items_in old) (trees_in done) item.body
  pub front : AppendsPrefix before after (line_of outcome)
  pub fault : IsFault status

-- the refusal for a cause that it has was put, or a front of it with a fault
pub record IsEnded (file : List ℕ) (old : Session) (done : List Outcome) (before after : Option (List ℕ)) (status : Status) : Type 0 where
  pub item : Item
  pub is : IsNextItem old done item
  pub stop : Stop
  pub cause : HasCause (items_in old) old.limit (trees_in done) item.body stop
  pub ends : EndsWith before after (stop_line stop file item.place) RunRefused status

abbrev pub IsStopped : List ℕ → Session → List Outcome → Option (List ℕ) → Option (List ℕ) → Status → Type 0
IsStopped file old done before after status = ((status ≡ Memory) × (after ≡ before)) ⊎ IsCutOff old done before after status ⊎ IsEnded file old done before after status

-- so many items of the program are done, and their lines were appended
pub record Past (file : List ℕ) (items : List Item) (limit count : ℕ) (s : Session) (failed : Bool) (before now : Option (List ℕ)) : Type 0 where
  pub program : items_in s ≡ items
  pub limited : s.limit ≡ limit
  pub outcomes : List Outcome
  pub counted : length outcomes ≡ count
  pub at : IsAt s outcomes
  pub written : List ℕ
  pub come : Comes (items_script items limit file) (record { left = drop count items; done = outcomes }) written
  pub failed_is : has_failed outcomes ≡ failed
  pub appended : Appends before now written

-- what a run of the items of the session may report
abbrev pub ItemsReport : List ℕ → Session → Status → List ℕ → Type 0
ItemsReport file s = StatusReport (Writes (items_script (items_in s) s.limit file))

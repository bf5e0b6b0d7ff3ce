-- What was appended so far, and what that makes of the report at each end.
use Rattle.std.proofs.Common.{ℕ, ◌≡◌, ◌⊎◌, ◌+◌, List, [], ◌∷◌, ◌++◌, Option, Some, None, Bool, true, false, ◌||◌, length, drop, append_assoc, append-nil, add-one, suc, ap, ◌∙◌, sym, subst, inl, inr, refl}
use Rattle.std.proofs.Math.Seq.{drop-cons}
use Rattle.fast_fault.specs.Written.{Appends, AppendsPrefix}
use Rattle.fast_fault.specs.declared.place.Pos.{Pos}
use Rattle.fast_fault.specs.declared.status.Status.{Status}
use Rattle.fast_fault.specs.declared.status.Status.TheVariants.{Hold, Fails, RunRefused, Memory}
use Rattle.model_grammar.specs.Syntax.{Item}
use Rattle.model_run.specs.Causes.{Stop, HasCause}
use Rattle.model_run.specs.Owed.{IsUnowed}
use Rattle.model_run.specs.Outcomes.{Outcome, line_of, trees_in, IsOutcome}
use Rattle.model_run.specs.Lines.{stop_line}
use Rattle.model_run.specs.Scripts.{begun, more, unfinished, Writes}
use Rattle.model_run.specs.Report.{items_script, IsItemDone, StopsAtItem, Reports, StatusReport}
use Rattle.fast_build.specs.Items.{items_of}
use Rattle.fast_session.specs.declared.session.Session.{Session}
use Rattle.fast_session.specs.Sessions.{items_in, IsAt, IsItemAt, IsSameProgram}
use Rattle.fast_tool.specs.Runs.{IsFault, EndsWith, IsRefusal, Past, IsDone, IsCutOff, IsEnded, IsStopped}

pub appends_both : (before middle after : Option (List ℕ)) (xs ys : List ℕ) → Appends before middle xs → Appends middle after ys → Appends before after (xs ++ ys)
appends_both None middle after xs ys a b = tt
appends_both (Some z) middle after xs ys a b = rw (← append_assoc) (subst (λ m. Appends m after ys) a b)

pub appends_none : (before : Option (List ℕ)) → Appends before before []
appends_none None = tt
appends_none (Some z) = ap (λ xs. Some xs) (sym (append-nil z))

or_other : (a b : Bool) → (a || b) ≡ (b || a)
or_other true true = refl
or_other true false = refl
or_other false true = refl
or_other false false = refl

pub drop_all : (items : List Item) → drop (length items) items ≡ []
drop_all [] = refl
drop_all (x ∷ xs) = drop_all xs

-- the next item, as the session counts
pub next_at : (items : List Item) (k : ℕ) (s : Session) (outcomes : List Outcome) → items_in s ≡ items → length outcomes ≡ k → (item : Item) → IsItemAt (items_in s) (length outcomes) item → IsItemAt items k item
next_at items k s outcomes program counted item is = subst (λ n. IsItemAt items n item) counted (subst (λ its. IsItemAt its (length outcomes) item) program is)

module _ (file : List ℕ) (items : List Item) (limit : ℕ) where
  abbrev Reported : Status → List ℕ → Type 0
  Reported = StatusReport (Writes (items_script items limit file))

  left_is : (k : ℕ) (item : Item) → IsItemAt items k item → drop k items ≡ item ∷ drop (k + 1) items
  left_is k item (low, is) = drop-cons items k item low ∙ ap (λ x. x ∷ drop (suc k) items) (sym is) ∙ ap (λ j. item ∷ drop j items) (sym (add-one k))

  pub next_is : (k : ℕ) (outcomes : List Outcome) (item : Item) (outcome : Outcome) (line : List ℕ) → IsItemAt items k item → IsOutcome items (trees_in outcomes) item outcome → IsUnowed items (trees_in outcomes) item.body → line ≡ line_of outcome
      → IsItemDone items (record { left = drop k items; done = outcomes }) line (record { left = drop (k + 1) items; done = outcome ∷ outcomes })
  next_is k outcomes item outcome line is may unowed line_is = record { item = item; left = left_is k item is; outcome = outcome; done = refl; may = may; unowed = unowed; is = line_is }

  pub stops_here : (k : ℕ) (outcomes : List Outcome) (item : Item) (stop : Stop) (last : List ℕ) → IsItemAt items k item → HasCause items limit (trees_in outcomes) item.body stop → last ≡ stop_line stop file item.place
      → StopsAtItem items limit file (record { left = drop k items; done = outcomes }) last
  stops_here k outcomes item stop last is cause last_is = record { item = item; later = drop (k + 1) items; left = left_is k item is; stop = stop; cause = cause; is = last_is }

  fault_report : (status : Status) (report : List ℕ) → IsFault status → Writes (items_script items limit file) unfinished report → Reported status report
  fault_report status report (inl e) u = rw e (inr u)
  fault_report status report (inr e) u = rw e (inr u)

  module _ (k : ℕ) (s : Session) (failed : Bool) (before now : Option (List ℕ)) (past : Past file items limit k s failed before now) where
    here : (item : Item) → IsItemAt (items_in s) (length past.outcomes) item → IsItemAt items k item
    here item is = next_at items k s past.outcomes past.program past.counted item is

    -- an item more
    pub item_done : (new : Session) (fails : Bool) (after : Option (List ℕ)) → IsSameProgram s new → IsDone s new past.outcomes now after fails → Past file items limit (k + 1) new (failed || fails) before after
    item_done new fails after same done = record {
      program = ap items_of same.program ∙ past.program;
      limited = same.limit ∙ past.limited;
      outcomes = done.outcome ∷ past.outcomes;
      counted = ap suc past.counted ∙ sym (add-one k);
      at = done.at;
      written = past.written ++ line_of done.outcome;
      come = more (record { left = drop k items; done = past.outcomes }) (record { left = drop (k + 1) items; done = done.outcome ∷ past.outcomes }) past.written (line_of done.outcome) past.come
          (next_is k past.outcomes done.item done.outcome (line_of done.outcome) (here done.item done.is) (subst (λ its. IsOutcome its (trees_in past.outcomes) done.item done.outcome) past.program done.may) (subst (λ its. IsUnowed its (trees_in past.outcomes) done.item.body) past.program done.unowed) refl);
      failed_is = (λ i. sym done.fails_is i || past.failed_is i) ∙ or_other fails failed;
      appended = appends_both before now after past.written (line_of done.outcome) past.appended done.appended;
    }

    -- want of memory between two lines
    no_memory : Reports Reported Memory before now
    no_memory = (past.written, inr (record { left = drop k items; done = past.outcomes }, past.written, [], past.come, inl refl, sym (append-nil past.written)), past.appended)

    cut_off : (after : Option (List ℕ)) (status : Status) (cut : IsCutOff s past.outcomes now after status) → AppendsPrefix now after (line_of cut.outcome) → Reports Reported status before after
    cut_off after status cut (front, back, joined, a) =
        let may = subst (λ its. IsOutcome its (trees_in past.outcomes) cut.item cut.outcome) past.program cut.may in
        let unowed = subst (λ its. IsUnowed its (trees_in past.outcomes) cut.item.body) past.program cut.unowed in (
          past.written ++ front,
          fault_report status (past.written ++ front) cut.fault (
            record { left = drop k items; done = past.outcomes },
            past.written,
            front,
            past.come,
            inr (inl (back, record { left = drop (k + 1) items; done = cut.outcome ∷ past.outcomes }, next_is k past.outcomes cut.item cut.outcome (front ++ back) (here cut.item cut.is) may unowed joined)),
            refl,
          ),
          appends_both before now after past.written front past.appended a,
        )

    ended : (after : Option (List ℕ)) (status : Status) (end : IsEnded file s past.outcomes now after status) → EndsWith now after (stop_line end.stop file end.item.place) RunRefused status → Reports Reported status before after
    ended after status end by = elim by [
      | inl (refused, a) ↦ rw refused (
        past.written ++ stop_line end.stop file end.item.place,
        (record { left = drop k items; done = past.outcomes }, past.written, stop_line end.stop file end.item.place, past.come, stops_here k past.outcomes end.item end.stop _ (here end.item end.is) cause refl, refl),
        appends_both before now after past.written _ past.appended a,
      )
      | inr (fault, (front, back, joined, a)) ↦ (
        past.written ++ front,
        fault_report status (past.written ++ front) fault (
          record { left = drop k items; done = past.outcomes },
          past.written,
          front,
          past.come,
          inr (inr (back, RunRefused, stops_here k past.outcomes end.item end.stop (front ++ back) (here end.item end.is) cause joined)),
          refl,
        ),
        appends_both before now after past.written front past.appended a,
      )
    ]
      where
        cause : HasCause items limit (trees_in past.outcomes) end.item.body end.stop
        cause = subst (λ n. HasCause items n (trees_in past.outcomes) end.item.body end.stop) past.limited (subst (λ its. HasCause its s.limit (trees_in past.outcomes) end.item.body end.stop) past.program end.cause)

    -- an item at which the run stops
    pub item_stopped : (after : Option (List ℕ)) (status : Status) → IsStopped file s past.outcomes now after status → Reports Reported status before after
    item_stopped after status (inl (memory, same)) = rw memory (subst (λ z. Reports Reported Memory before z) (sym same) no_memory)
    item_stopped after status (inr (inl cut)) = cut_off after status cut cut.front
    item_stopped after status (inr (inr end)) = ended after status end end.ends

  -- over the items
  pub begin : (s : Session) (before : Option (List ℕ)) → items_in s ≡ items → s.limit ≡ limit → IsAt s [] → Past file items limit 0 s false before before
  begin s before program limited at = record { program = program; limited = limited; outcomes = []; counted = refl; at = at; written = []; come = begun; failed_is = refl; appended = appends_none before }

  pub holds : (s : Session) (before now : Option (List ℕ)) → Past file items limit (length items) s false before now → Reports Reported Hold before now
  holds s before now past = (past.written, (record { left = drop (length items) items; done = past.outcomes }, past.written, [], past.come, (drop_all items, past.failed_is, refl), sym (append-nil past.written)), past.appended)

  pub fails_some : (s : Session) (before now : Option (List ℕ)) → Past file items limit (length items) s true before now → Reports Reported Fails before now
  fails_some s before now past = (past.written, (record { left = drop (length items) items; done = past.outcomes }, past.written, [], past.come, (drop_all items, past.failed_is, refl), sym (append-nil past.written)), past.appended)

pub ruleset on_runs = (begin, holds, fails_some)

-- an item that is refused
module _ (file : List ℕ) (s : Session) (done : List Outcome) (Shown : Type 0) (place : Pos) (stop : Stop) (before after : Option (List ℕ)) (status : Status) where
  pub item_ended : (item : Item) → IsItemAt (items_in s) (length done) item → place ≡ item.place → (Shown → HasCause (items_in s) s.limit (trees_in done) item.body stop) → IsRefusal Shown before after (stop_line stop file place) status
      → ((status ≡ Memory) × (after ≡ before)) ⊎ IsEnded file s done before after status
  item_ended item is at cause (inl none) = inl none
  item_ended item is at cause (inr (shown, ends)) =
      inr (record { item = item; is = is; stop = stop; cause = cause shown; ends = subst (λ p. EndsWith before after (stop_line stop file p) RunRefused status) at ends })

  pub item_refused : (item : Item) → IsItemAt (items_in s) (length done) item → place ≡ item.place → (Shown → HasCause (items_in s) s.limit (trees_in done) item.body stop) → IsRefusal Shown before after (stop_line stop file place) status
      → IsStopped file s done before after status
  item_refused item is at cause refusal = elim (item_ended item is at cause refusal) [ inl none ↦ inl none | inr end ↦ inr (inr end) ]

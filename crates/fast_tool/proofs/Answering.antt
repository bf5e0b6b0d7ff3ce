-- The lines of trees that are answered, and what that makes of the report at each end.
use Rattle.std.proofs.Common.{ℕ, ◌≡◌, ◌<◌, ◌+◌, suc, List, [], ◌∷◌, ◌++◌, Option, Result, Ok, Err, OnOk, Bool, true, false, ◌↔◌, length, map, get_or, drop, append-nil, add-one, refl, sym, ap, ◌∙◌, subst, inl, inr, arith}
use Rattle.std.specs.Prelude.{is_some}
use Rattle.std.proofs.Math.Seq.{drop-cons}
use Rattle.std.proofs.lemmas.List.{get_or-map, length-map}
use Rattle.std.proofs.lemmas.List.Elements.{All-get_or}
use Rattle.fast_fault.specs.declared.status.Status.{Status}
use Rattle.fast_fault.specs.declared.status.Status.TheVariants.{Hold, RunRefused, Memory}
use Rattle.fast_fault.specs.Written.{Appends}
use Rattle.model_tree.specs.Limits.{usual_classes}
use Rattle.model_tree.specs.Tree.{LabelTree}
use Rattle.model_tree.specs.Signature.{PlainSignature}
use Rattle.model_grammar.specs.Syntax.{Item}
use Rattle.model_names.specs.Kinds.{Kind, language, transformation, a_tree}
use Rattle.model_meaning.specs.Meaning.{IsInLanguage}
use Rattle.fast_fault.specs.declared.place.Pos.{Pos}
use Rattle.model_run.specs.Causes.{Stop, HasCause}
use Rattle.model_run.specs.Outcomes.{Outcome}
use Rattle.model_run.specs.Lines.{stop_line}
use Rattle.model_run.specs.Report.{Given, named_x, IsNeeded, AreNeededComposable, AreLinesOf, IsTreeDone, StopsAtNeeded, StopsAtTree, TreesEnd, trees_script, StatusReport, Reports}
use Rattle.model_run.specs.Scripts.{begun, more, Writes}
use Rattle.model_run.specs.Texts.{PlacedTree}
use Rattle.fast_build.specs.Items.{items_of}
use Rattle.fast_session.specs.Sessions.{items_in, IsAt, IsReadyFor, IsSameProgram}
use Rattle.fast_session.specs.Sessions as of
use Rattle.fast_session.specs.declared.session.Session.{Session}
use Rattle.tree_files.specs.declared.PlacedTree as code
use Rattle.tree_files.specs.Placed.{plain_placed, IsOfType, AreOfType}
use Rattle.fast_tool.specs.Runs.{EndsWith, IsRefusal}
use Rattle.fast_tool.specs.Answers.{answer_line, IsPrepared, IsCutLine, IsUnprepared, IsAnswered, IsTreeCause, IsUnanswered, Answered}
use Rattle.fast_tool.proofs.Runs.{appends_both, appends_none}
use Rattle.fast_tool.proofs.Texts.{fault_of}

-- ---- the line of a tree

module _ (items : List Item) (name : List ℕ) where
  pub line_of_answer : (number : ℕ) (t : LabelTree) (inside : Bool) → (inside ≡ true) ↔ IsInLanguage items (named_x name) t → AreLinesOf items (named_x name) language number t (answer_line number inside)
  line_of_answer number t true is = inl (is.0 refl, refl)
  line_of_answer number t false is = inr (λ h. (let e : false ≡ true = is.1 h in cc), refl)

  pub answered_by : (number : ℕ) (p : PlacedTree) (inside : Bool) (before after : Option (List ℕ)) → (inside ≡ true) ↔ IsInLanguage items (named_x name) p.tree → Appends before after (answer_line number inside) → IsAnswered items language name number p before after
  answered_by number p inside before after is put = (answer_line number inside, line_of_answer number p.tree inside is, put)

  pub unanswered_by : (file : List ℕ) (number : ℕ) (p : PlacedTree) (inside : Bool) (status : Status) (before after : Option (List ℕ)) → (inside ≡ true) ↔ IsInLanguage items (named_x name) p.tree → IsCutLine (answer_line number inside) before after status
      → IsUnanswered items language name file number p before after status
  unanswered_by file number p inside status before after is (inl none) = inl none
  unanswered_by file number p inside status before after is (inr (fault, front)) = inr (inl (fault, (answer_line number inside, line_of_answer number p.tree inside is, front)))

-- ---- a session that is ready for a name

running_ready : (kind : Kind) (s : Session) (name : List ℕ) (done : List Outcome) → IsAt s done → of.IsPrepared kind s name → IsReadyFor kind s name
running_ready kind s name done at (inl ready) = ready
running_ready kind s name done at (inr ended) = (let bad : false ≡ true = sym (ap is_some at.running) ∙ ended in absurd (cc))

same_composable : (old new : Session) (name : List ℕ) → IsSameProgram old new → AreNeededComposable (items_in old) name → AreNeededComposable (items_in new) name
same_composable old new name same composable = subst (λ c. AreNeededComposable (items_of c) name) (sym same.program) composable

pub prepared_by : {T E : Type 0} (kind : Kind) (r : Result T E) (old new : Session) (name : List ℕ) → IsAt old [] → IsSameProgram old new → OnOk r ((done : List Outcome) → IsAt old done → IsAt new done) → of.IsPrepared kind new name
    → OnOk r (AreNeededComposable (items_in old) name) → OnOk r (IsPrepared kind new name)
prepared_by kind (Ok x) old new name start same at ready composable = record { ready = running_ready kind new name [] (at [] start) ready; composable = same_composable old new name same composable }
prepared_by kind (Err e) old new name start same at ready composable = tt

pub still_prepared : (old new : Session) (name : List ℕ) → IsPrepared language old name → IsSameProgram old new → ((done : List Outcome) → IsAt old done → IsAt new done) → ((kind : Kind) (other : List ℕ) → of.IsPrepared kind old other → of.IsPrepared kind new other)
    → IsPrepared language new name
still_prepared old new name was same at keeps = record { ready = running_ready language new name was.ready.done (at was.ready.done was.ready.at) (keeps language name (inl was.ready)); composable = same_composable old new name same was.composable }

pub still_ready : (old new : Session) (kind : Kind) (name : List ℕ) → IsPrepared kind old name → IsSameProgram old new → ((kind : Kind) (other : List ℕ) → IsReadyFor kind old other → IsReadyFor kind new other) → IsPrepared kind new name
still_ready old new kind name was same keeps = record { ready = keeps kind name was.ready; composable = same_composable old new name same was.composable }

-- ---- one tree after another

drop_all : (ps : List PlacedTree) → drop (length ps) ps ≡ []
drop_all [] = refl
drop_all (p ∷ ps) = drop_all ps

-- ---- how the report ends

module _ (items : List Item) (file name trees : List ℕ) (given : Given) (last : List ℕ) where
  ends_at_needed : (kind : Kind) → given.done ≡ 0 → StopsAtNeeded items usual_classes file name last → TreesEnd items file name trees kind given RunRefused last
  ends_at_needed language none stops = (none, stops)
  ends_at_needed transformation none stops = inl (none, stops)
  ends_at_needed a_tree none stops = (none, stops)

  ends_at_tree : (kind : Kind) → kind ≡ transformation → StopsAtTree items name trees given last → TreesEnd items file name trees kind given RunRefused last
  ends_at_tree kind is stops = subst (λ k. TreesEnd items file name trees k given RunRefused last) (sym is) (inr stops)

  ends_held : (kind : Kind) → AreNeededComposable items name → given.left ≡ [] → last ≡ [] → TreesEnd items file name trees kind given Hold last
  ends_held kind composable none e = (composable, none, e)

module _ (items : List Item) (file name trees : List ℕ) (kind : Kind) (composable : AreNeededComposable items name) (placed : List PlacedTree) where
  abbrev Reported : Status → List ℕ → Type 0
  Reported = StatusReport (Writes (trees_script items file name trees kind placed))

  pub begin : (before : Option (List ℕ)) → Answered items file name trees kind placed 0 before before
  begin before = record { written = []; come = begun; appended = appends_none before }

  left_is : (k : ℕ) (p : PlacedTree) → k < length placed → p ≡ get_or placed k p → drop k placed ≡ p ∷ drop (k + 1) placed
  left_is k p low is = drop-cons placed k p low ∙ ap (λ x. x ∷ drop (suc k) placed) (sym is) ∙ ap (λ j. p ∷ drop j placed) (sym (add-one k))

  next_is : (k : ℕ) (p : PlacedTree) (line : List ℕ) → k < length placed → p ≡ get_or placed k p → AreLinesOf items (named_x name) kind (k + 1) p.tree line
      → IsTreeDone items name kind (record { left = drop k placed; done = k }) line (record { left = drop (k + 1) placed; done = k + 1 })
  next_is k p line low is are = record { composable = composable; tree = p; left = left_is k p low is; done = add-one k; are = are }

  module _ (k : ℕ) (before now : Option (List ℕ)) (so_far : Answered items file name trees kind placed k before now) where
    -- a tree more
    pub answered_more : (p : PlacedTree) (after : Option (List ℕ)) → k < length placed → p ≡ get_or placed k p → IsAnswered items kind name (k + 1) p now after → Answered items file name trees kind placed (k + 1) before after
    answered_more p after low is (line, are, put) = record {
      written = so_far.written ++ line;
      come = more (record { left = drop k placed; done = k }) (record { left = drop (k + 1) placed; done = k + 1 }) so_far.written line so_far.come (next_is k p line low is are);
      appended = appends_both before now after so_far.written line so_far.appended put;
    }

    no_memory : Reports Reported Memory before now
    no_memory = (so_far.written, inr (record { left = drop k placed; done = k }, so_far.written, [], so_far.come, inl refl, sym (append-nil so_far.written)), so_far.appended)

    stops_at : (p : PlacedTree) → k < length placed → p ≡ get_or placed k p → (stop : Stop) → IsTreeCause items kind name p stop → (last : List ℕ) → last ≡ stop_line stop trees p.place → StopsAtTree items name trees (record { left = drop k placed; done = k }) last
    stops_at p low is stop cause last e = record { composable = composable; tree = p; later = drop (k + 1) placed; left = left_is k p low is; stop = stop; cause = cause.cause; is = e }

    -- a tree at which the run stops
    pub answer_stopped : (p : PlacedTree) (after : Option (List ℕ)) (status : Status) → k < length placed → p ≡ get_or placed k p → IsUnanswered items kind name trees (k + 1) p now after status → Reports Reported status before after
    answer_stopped p after status low is (inl (memory, same)) = rw memory (subst (λ z. Reports Reported Memory before z) (sym same) no_memory)
    answer_stopped p after status low is (inr (inl (fault, (line, are, (front, back, joined, put))))) = (
      so_far.written ++ front,
      fault_of (Writes (trees_script items file name trees kind placed)) status (so_far.written ++ front) fault (
        record { left = drop k placed; done = k },
        so_far.written,
        front,
        so_far.come,
        inr (inl (back, record { left = drop (k + 1) placed; done = k + 1 }, next_is k p (front ++ back) low is (subst (λ l. AreLinesOf items (named_x name) kind (k + 1) p.tree l) (sym joined) are))),
        refl,
      ),
      appends_both before now after so_far.written front so_far.appended put,
    )
    answer_stopped p after status low is (inr (inr (stop, cause, inl (refused, put)))) =
        rw refused (
          so_far.written ++ stop_line stop trees p.place,
          (record { left = drop k placed; done = k }, so_far.written, stop_line stop trees p.place, so_far.come, ends_at_tree items file name trees _ _ kind cause.asked (stops_at p low is stop cause (stop_line stop trees p.place) refl), refl),
          appends_both before now after so_far.written (stop_line stop trees p.place) so_far.appended put,
        )
    answer_stopped p after status low is (inr (inr (stop, cause, inr (fault, (front, back, joined, put))))) = (
      so_far.written ++ front,
      fault_of (Writes (trees_script items file name trees kind placed)) status (so_far.written ++ front) fault (
        record { left = drop k placed; done = k },
        so_far.written,
        front,
        so_far.come,
        inr (inr (back, RunRefused, ends_at_tree items file name trees _ _ kind cause.asked (stops_at p low is stop cause (front ++ back) joined))),
        refl,
      ),
      appends_both before now after so_far.written front so_far.appended put,
    )

  -- all are answered
  pub all_answered : (before now : Option (List ℕ)) → Answered items file name trees kind placed (length placed) before now → Reports Reported Hold before now
  all_answered before now so_far =
      (so_far.written, (record { left = drop (length placed) placed; done = length placed }, so_far.written, [], so_far.come, ends_held items file name trees (record { left = drop (length placed) placed; done = length placed }) [] kind composable (drop_all placed) refl, sym (append-nil so_far.written)), so_far.appended)

-- an item that the name needs is refused
pub needed_refused : (items : List Item) (limit : ℕ) (file name : List ℕ) (Shown : Type 0) (place : Pos) (stop : Stop) (before after : Option (List ℕ)) (status : Status) (item : Item) → IsNeeded items name item → place ≡ item.place → (Shown → HasCause items limit [] item.body stop)
    → IsRefusal Shown before after (stop_line stop file place) status → IsUnprepared items limit file name before after status
needed_refused items limit file name Shown place stop before after status item needed at cause (inl none) = inl none
needed_refused items limit file name Shown place stop before after status item needed at cause (inr (shown, ends)) =
    inr (item, stop, record { needed = needed; cause = cause shown }, subst (λ p. EndsWith before after (stop_line stop file p) RunRefused status) at ends)

-- what the name needs isn't built
pub unprepared_report : (items : List Item) (file name trees : List ℕ) (kind : Kind) (placed : List PlacedTree) (status : Status) (before after : Option (List ℕ)) → IsUnprepared items usual_classes file name before after status
    → Reports (StatusReport (Writes (trees_script items file name trees kind placed))) status before after
unprepared_report items file name trees kind placed status before after (inl (memory, same)) =
    rw memory (subst (λ z. Reports (StatusReport (Writes (trees_script items file name trees kind placed))) Memory before z) (sym same) ([], inl refl, appends_none before))
unprepared_report items file name trees kind placed status before after (inr (item, stop, cause, inl (refused, put))) =
    rw refused (
      stop_line stop file item.place,
      (record { left = placed; done = 0 }, [], stop_line stop file item.place, begun, ends_at_needed items file name trees _ _ kind refl (record { item = item; needed = cause.needed; stop = stop; cause = cause.cause; is = refl }), refl),
      put,
    )
unprepared_report items file name trees kind placed status before after (inr (item, stop, cause, inr (fault, (front, back, joined, put)))) = (
  front,
  fault_of (Writes (trees_script items file name trees kind placed)) status front fault (
    record { left = placed; done = 0 },
    [],
    front,
    begun,
    inr (inr (back, RunRefused, ends_at_needed items file name trees _ _ kind refl (record { item = item; needed = cause.needed; stop = stop; cause = cause.cause; is = joined }))),
    refl,
  ),
  put,
)

-- ---- each of the trees by its number

pub placed_at : (ps : List code.PlacedTree) (k : ℕ) (p : code.PlacedTree) → k < length ps → p ≡ get_or ps k p → plain_placed p ≡ get_or (map plain_placed ps) k (plain_placed p)
placed_at ps k p low is = ap plain_placed is ∙ sym (get_or-map plain_placed ps k p (plain_placed p) low)

pub placed_low : (ps : List code.PlacedTree) (k : ℕ) → k < length ps → k < length (map plain_placed ps)
placed_low ps k low = omega (arith, low, length-map ps plain_placed)

pub of_type_at : (signature : PlainSignature) (ps : List code.PlacedTree) (k : ℕ) (p : code.PlacedTree) → k < length ps → p ≡ get_or ps k p → AreOfType signature (map plain_placed ps) → IsOfType signature (plain_placed p)
of_type_at signature ps k p low is are = subst (IsOfType signature) (sym (placed_at ps k p low is)) (All-get_or (IsOfType signature) (map plain_placed ps) k (plain_placed p) (placed_low ps k low) are)

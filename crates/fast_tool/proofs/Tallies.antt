-- What was counted so far, and what that makes of the report at each end.
use Rattle.std.proofs.Common.{ℕ, zero, suc, ◌≡◌, ◌≤◌, ◌+◌, List, [], ◌∷◌, ◌++◌, Option, Bool, true, false, length, drop, add-one, ap, ◌∙◌, sym, subst, inl, inr, refl, arith}
use Rattle.std.specs.Prelude.{codes, decimal}
use Rattle.model_tree.specs.Limits.{usual_classes}
use Rattle.fast_fault.specs.declared.status.Status.{Status}
use Rattle.fast_fault.specs.declared.status.Status.TheVariants.{Hold, Fails, RunRefused, Memory}
use Rattle.model_grammar.specs.Syntax.{Item}
use Rattle.model_run.specs.Causes.{HasCause}
use Rattle.model_run.specs.Owed.{IsUnowed}
use Rattle.model_run.specs.Outcomes.{Outcome, silent, tree_line, minimal_line, true_verdict, tree_verdict, line_of, trees_in, IsOutcome, verdicts, has_failed}
use Rattle.model_run.specs.Lines.{stop_line, self_line}
use Rattle.model_run.specs.Scripts.{begun, more, whole}
use Rattle.model_run.specs.Report.{Work, ItemsEnd, SelfReport, self_name, self_last, StatusReport, Reports}
use Rattle.fast_build.specs.Items.{items_of}
use Rattle.fast_session.specs.declared.session.Session.{Session}
use Rattle.fast_session.specs.Sessions.{items_in, IsAt, IsSameProgram}
use Rattle.fast_tool.specs.declared.counted.Tally.{Tally}
use Rattle.fast_tool.specs.Runs.{EndsWith, IsEnded}
use Rattle.fast_tool.specs.Tallies.{IsTally, tally_line, status_for, IsTold, IsCounted, IsHalted, Counted}
use Rattle.fast_tool.proofs.Runs.{next_at, next_is, stops_here, drop_all}
use Rattle.fast_tool.proofs.Texts.{fault_of, no_memory_yet}

-- ---- counts of verdicts

one_at_most : (wanted : Bool) (o : Outcome) (outcomes : List Outcome) → verdicts wanted (o ∷ outcomes) ≤ suc (verdicts wanted outcomes)
one_at_most wanted silent outcomes = omega arith
one_at_most wanted (tree_line name signature t) outcomes = omega arith
one_at_most wanted (minimal_line name n) outcomes = omega arith
one_at_most true (true_verdict n true) outcomes = omega arith
one_at_most true (tree_verdict n true signature t) outcomes = omega arith
one_at_most true (true_verdict n false) outcomes = omega arith
one_at_most true (tree_verdict n false signature t) outcomes = omega arith
one_at_most false (true_verdict n true) outcomes = omega arith
one_at_most false (tree_verdict n true signature t) outcomes = omega arith
one_at_most false (true_verdict n false) outcomes = omega arith
one_at_most false (tree_verdict n false signature t) outcomes = omega arith

-- no more verdicts than outcomes
pub few_verdicts : (wanted : Bool) (outcomes : List Outcome) → verdicts wanted outcomes ≤ length outcomes
few_verdicts wanted [] = omega arith
few_verdicts wanted (o ∷ outcomes) = omega (arith, few_verdicts wanted outcomes, one_at_most wanted o outcomes)

-- whether there are some
abbrev is_some_of : ℕ → Bool
is_some_of zero = false
is_some_of (suc n) = true

failed_by_count : (outcomes : List Outcome) → has_failed outcomes ≡ is_some_of (verdicts false outcomes)
failed_by_count [] = refl
failed_by_count (silent ∷ outcomes) = failed_by_count outcomes
failed_by_count (tree_line name signature t ∷ outcomes) = failed_by_count outcomes
failed_by_count (minimal_line name n ∷ outcomes) = failed_by_count outcomes
failed_by_count (true_verdict n true ∷ outcomes) = failed_by_count outcomes
failed_by_count (true_verdict n false ∷ outcomes) = refl
failed_by_count (tree_verdict n true signature t ∷ outcomes) = failed_by_count outcomes
failed_by_count (tree_verdict n false signature t ∷ outcomes) = refl

-- ---- over the items

pub begin_count : (items : List Item) (s : Session) (t : Tally) → items_in s ≡ items → s.limit ≡ usual_classes → IsAt s [] → t.passed ≡ 0 → t.failed ≡ 0 → Counted items 0 s t
begin_count items s t program limited at passed failed =
    record { program = program; limited = limited; outcomes = []; counted = refl; at = at; before = []; come = begun; tally = record { passed = passed; failed = failed } }

module _ (items : List Item) (k : ℕ) (s : Session) (t : Tally) (past : Counted items k s t) where
  abbrev work : Work
  work = record { left = drop k items; done = past.outcomes }

  -- an item more
  pub counted_more : (new : Session) (verdict : Option Bool) (after : Tally) → IsSameProgram s new → (done : IsCounted s new past.outcomes verdict) → IsTally after (done.outcome ∷ past.outcomes) → Counted items (k + 1) new after
  counted_more new verdict after same done tally = record {
    program = ap items_of same.program ∙ past.program;
    limited = same.limit ∙ past.limited;
    outcomes = done.outcome ∷ past.outcomes;
    counted = ap suc past.counted ∙ sym (add-one k);
    at = done.at;
    before = past.before ++ line_of done.outcome;
    come = more work (record { left = drop (k + 1) items; done = done.outcome ∷ past.outcomes }) past.before (line_of done.outcome) past.come
        (next_is self_name items usual_classes k past.outcomes done.item done.outcome (line_of done.outcome) (next_at items k s past.outcomes past.program past.counted done.item done.is) (subst (λ its. IsOutcome its (trees_in past.outcomes) done.item done.outcome) past.program done.may)
        (subst (λ its. IsUnowed its (trees_in past.outcomes) done.item.body) past.program done.unowed) refl);
    tally = tally;
  }

  -- an item at which the run stops
  ended : (n : ℕ) (before after : Option (List ℕ)) (status : Status) (end : IsEnded self_name s past.outcomes before after status) → EndsWith before after (stop_line end.stop self_name end.item.place) RunRefused status
      → Reports (StatusReport (SelfReport n items)) status before after
  ended n before after status end by = elim by [
    | inl (refused, a) ↦ rw refused (stop_line end.stop self_name end.item.place, record { work = work; before = past.before; comes = past.come; status = RunRefused; last = stop_line end.stop self_name end.item.place; ends = stops; is = (refl, refl) }, a)
    | inr (fault, (front, back, joined, a)) ↦ (
      front,
      fault_of (SelfReport n items) status front fault (record { work = work; before = past.before; comes = past.come; status = RunRefused; last = stop_line end.stop self_name end.item.place; ends = stops; is = (back, joined) }),
      a,
    )
  ]
    where
      stops : ItemsEnd items usual_classes self_name work RunRefused (stop_line end.stop self_name end.item.place)
      stops = stops_here self_name items usual_classes k past.outcomes end.item end.stop _ (next_at items k s past.outcomes past.program past.counted end.item end.is)
          (subst (λ l. HasCause items l (trees_in past.outcomes) end.item.body end.stop) past.limited (subst (λ its. HasCause its s.limit (trees_in past.outcomes) end.item.body end.stop) past.program end.cause)) refl

  pub halted_report : (n : ℕ) (before after : Option (List ℕ)) (status : Status) → IsHalted s past.outcomes before after status → Reports (StatusReport (SelfReport n items)) status before after
  halted_report n before after status (inl (memory, same)) = rw memory (subst (λ z. Reports (StatusReport (SelfReport n items)) Memory before z) (sym same) (no_memory_yet (SelfReport n items) before))
  halted_report n before after status (inr end) = ended n before after status end end.ends

-- ---- at the end

module _ (n : ℕ) (items : List Item) (s : Session) (t : Tally) (past : Counted items (length items) s t) (before after : Option (List ℕ)) (status : Status) where
  abbrev all : Work
  all = record { left = drop (length items) items; done = past.outcomes }

  line_is : tally_line n (length items) t ≡ self_line n items past.outcomes
  line_is = λ i. codes "self " ++ (decimal n ++ (codes ": items " ++ (decimal (length items) ++ (codes ", passed " ++ (decimal (past.tally.passed i) ++ (codes ", failed " ++ (decimal (past.tally.failed i) ++ codes "\n")))))))

  with_line : (final : Status) → ItemsEnd items usual_classes self_name all final [] → self_last n items all final [] ≡ tally_line n (length items) t
      → ((report : List ℕ) → SelfReport n items (whole final) report → StatusReport (SelfReport n items) final report) → EndsWith before after (tally_line n (length items) t) final status
      → Reports (StatusReport (SelfReport n items)) status before after
  with_line final ends last whole_is (inl (e, a)) =
      rw e (tally_line n (length items) t, whole_is _ (record { work = all; before = past.before; comes = past.come; status = final; last = []; ends = ends; is = (refl, sym last) }), a)
  with_line final ends last whole_is (inr (fault, (front, back, joined, a))) =
      (front, fault_of (SelfReport n items) status front fault (record { work = all; before = past.before; comes = past.come; status = final; last = []; ends = ends; is = (back, joined ∙ sym last) }), a)

  by_count : (failed : ℕ) → failed ≡ verdicts false past.outcomes → EndsWith before after (tally_line n (length items) t) (status_for failed) status → Reports (StatusReport (SelfReport n items)) status before after
  by_count zero none ends = with_line Hold (drop_all items, failed_by_count past.outcomes ∙ ap is_some_of (sym none), refl) (sym line_is) (λ report r. r) ends
  by_count (suc k) some ends = with_line Fails (drop_all items, failed_by_count past.outcomes ∙ ap is_some_of (sym some), refl) (sym line_is) (λ report r. r) ends

  told_report : IsTold n (length items) t before after status → Reports (StatusReport (SelfReport n items)) status before after
  told_report (inl (memory, same)) = rw memory (subst (λ z. Reports (StatusReport (SelfReport n items)) Memory before z) (sym same) (no_memory_yet (SelfReport n items) before))
  told_report (inr ends) = by_count t.failed past.tally.failed ends

-- when as many are done as there are
pub all_told : (n count k : ℕ) (items : List Item) (s : Session) (t : Tally) (before after : Option (List ℕ)) (status : Status) → Counted items k s t → k ≡ length items → count ≡ length items → IsTold n count t before after status
    → Reports (StatusReport (SelfReport n items)) status before after
all_told n count k items s t before after status past at_end counted told =
    told_report n items s t (subst (λ m. Counted items m s t) at_end past) before after status (subst (λ m. IsTold n m t before after status) counted told)

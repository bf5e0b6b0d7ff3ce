-- An item of a tree, whose value is kept for its name.
use Rattle.std.proofs.Common.{◌≡◌, ℕ, true, List, [], ◌∷◌, ◌++◌, Some, cond, refl, sym, ap, subst, ◌∙◌}
use Rattle.std.specs.Prelude.{is_some, Result, Ok, Err, IfErr}
use Rattle.model_tree.specs.Tree.{LabelTree}
use Rattle.model_tree.specs.Signature.{PlainSignature, HasType}
use Rattle.model_grammar.specs.Syntax.{def, tree, TreeItem, Item}
use Rattle.model_names.specs.Declared.{same_text}
use Rattle.model_meaning.specs.Meaning.{signature_named}
use Rattle.model_meaning.specs.Values.{IsValue}
use Rattle.model_checks.proofs.Soundness.{same_from_test, same_itself}
use Rattle.meaning_laws.proofs.Shaped.{item_shape}
use Rattle.meaning_laws.specs.Shapes.{has_body_shape, has_tree_shape}
use Rattle.model_run.specs.Items.{used_in, expressions_in, AreAllComposable, IsComposable}
use Rattle.model_run.specs.Outcomes.{Outcome, tree_line, trees_in, IsOutcomeOf}
use Rattle.model_run.specs.Owed.{IsUnowed}
use Rattle.fast_eval.specs.Found.{IsInLimits}
use Rattle.fast_eval.proofs.Outcomes.{each_composable}
use Rattle.fast_eval.specs.Table.{AreBuilt, IsGrown}
use Rattle.fast_eval.specs.declared.stops.EvalStop.TheVariants.{Classes, Wide, Range, Memory}
use Rattle.tree_values.specs.declared.stops.ValueStop.{ValueStop}
use Rattle.tree_values.specs.declared.stops.ValueStop.TheVariants.{Stopped, NoTree, TooLarge, LabelRange, Outputs, NoOutput, SeveralOutputs}
use Rattle.tree_values.specs.declared.trees.Trees.{Trees}
use Rattle.tree_values.specs.Forms.{IsTreeOn, IsTreeKnown}
use Rattle.tree_values.specs.Owed.{OwesNothing}
use Rattle.tree_values.specs.Stops.{IsValueStop, IsStopTyped, IsCauseOf}
use Rattle.tree_values.specs.Trees.{tree_at, Adds, Tells}
use Rattle.tree_values.proofs.Outcomes.{tree_cause}
use Rattle.tree_values.proofs.Programs.{tree_made, tree_is_known, type_by_name}
use Rattle.fast_session.specs.declared.items.Around.{Around}
use Rattle.fast_session.specs.declared.items.Kept.{Kept}
use Rattle.fast_session.specs.Answers.{stopped_value}
use Rattle.fast_session.specs.Kept.{items_in, IsKept, IsReady}
use Rattle.fast_session.specs.Items.{IsBuiltMore, IsDone, IsStoppedAt}
use Rattle.tree_values.proofs.Stopped.{printable}
use Rattle.fast_session.proofs.Keeping.{defined_more, printed_more, still_there, own_there, typed_more}
use Rattle.fast_session.proofs.Ready.{whole}
use Rattle.fast_session.proofs.Unowed.{item_unowed}

-- two facts of a refusal together
pub if_err_both : {T E : Type 0} (r : Result T E) (P Q R : E → Type 0) → ((e : E) → P e → Q e → R e) → IfErr r P → IfErr r Q → IfErr r R
if_err_both (Ok x) P Q R f p q = tt
if_err_both (Err e) P Q R f p q = f e p q

-- what stops the evaluation of a tree expression is a cause
pub stopped_value_cause : (items : List Item) (limit : ℕ) (item : Item) (old : Kept) (s : ValueStop)
    → ((done : List Outcome) → Tells old.trees (trees_in done) → IsCauseOf items limit (trees_in done) item.body s) → IsStopTyped items s → IsStoppedAt items limit item old (stopped_value limit s)
stopped_value_cause items limit item old (Stopped Classes) cause typed = (λ done told shown. cause done told, tt)
stopped_value_cause items limit item old (Stopped (Wide c)) cause typed = (λ done told shown. cause done told, tt)
stopped_value_cause items limit item old (Stopped (Range n)) cause typed = (λ done told shown. cause done told, tt)
stopped_value_cause items limit item old (Stopped Memory) cause typed = tt
stopped_value_cause items limit item old NoTree cause typed = (λ done told shown. cause done told, tt)
stopped_value_cause items limit item old TooLarge cause typed = (λ done told shown. cause done told, tt)
stopped_value_cause items limit item old (LabelRange n) cause typed = (λ done told shown. cause done told, tt)
stopped_value_cause items limit item old (Outputs load) cause typed = (λ done told shown. cause done told, tt)
stopped_value_cause items limit item old (NoOutput t) cause typed = (cause, typed)
stopped_value_cause items limit item old (SeveralOutputs two) cause typed = (cause, typed)

-- a tree that is kept for its name is the first that was printed
told_more : (old new : Trees) (name : List ℕ) (signature : PlainSignature) (t : LabelTree) → Adds old new name t → (done : List Outcome) → Tells old (trees_in done) → Tells new (trees_in (tree_line name signature t ∷ done))
told_more old new name signature t added done told other = added other ∙ ap (cond (same_text name other) (Some t)) (told other)

module _ (a : Around) (item : Item) (old : Kept) (ready : IsReady a item old) (composable : IsComposable (items_in a) item.body) (t : TreeItem) (is : item.body ≡ tree t) where
  abbrev type : PlainSignature
  type = signature_named (items_in a) (Some t.of.text)

  tree_form : has_tree_shape t.value ≡ true
  tree_form = subst (λ b. has_body_shape b ≡ true) is (item_shape (items_in a) (whole a item old ready composable) item ready.at)

  tree_can : AreAllComposable (items_in a) (used_in t.value)
  tree_can = subst (λ b. AreAllComposable (items_in a) (expressions_in b)) is (each_composable (items_in a) item.body composable)

  pub value_made : IsTreeOn (items_in a) t.of.text t.value
  value_made = tree_made (items_in a) (whole a item old ready composable) item ready.at t is tree_form tree_can

  pub value_known : IsTreeKnown (items_in a) old.trees old.built t.value
  value_known = tree_is_known (items_in a) (whole a item old ready composable) item ready.at t is tree_form tree_can old.built old.trees ready.kept.defined ready.kept.printed

  pub value_stops : (s : ValueStop) → ((done : List Outcome) → Tells old.trees (trees_in done) → IsValueStop (items_in a) (trees_in done) a.limit type t.value s) → IsStopTyped (items_in a) s → IsStoppedAt (items_in a) a.limit item old (stopped_value a.limit s)
  value_stops s cause typed = stopped_value_cause (items_in a) a.limit item old s (λ done told. subst (λ b. IsCauseOf (items_in a) a.limit (trees_in done) b s) (sym is) (tree_cause (items_in a) a.limit (trees_in done) t s (cause done told))) typed

  -- more was built, and then the tree was kept for its name
  pub record IsPrinted (middle new : Kept) (v : LabelTree) : Type 0 where
    pub more : IsBuiltMore (items_in a) old middle
    pub added : Adds middle.trees new.trees t.name.text v
    pub built : new.built ≡ middle.built

  module _ (middle new : Kept) (v : LabelTree) (printed : IsPrinted middle new v) where
    added_to_old : Adds old.trees new.trees t.name.text v
    added_to_old = subst (λ (ts : Trees). Adds ts new.trees t.name.text v) printed.more.trees printed.added

    own_tree : (u : TreeItem) → item.body ≡ tree u → t ≡ u
    own_tree u other = let same : tree t ≡ tree u = sym is ∙ other in cc

    kept_tree : HasType type v → IsInLimits v → (before : List Item) → IsKept (items_in a) before old → IsKept (items_in a) (before ++ item ∷ []) new
    kept_tree typed limits before was = record {
      built = subst (AreBuilt (items_in a)) (sym printed.built) printed.more.built;
      typed = typed_more old.trees new.trees t.name.text v added_to_old (items_in a) (same_from_test t.name.text)
          (subst (λ s. HasType s v) (sym (type_by_name (items_in a) (whole a item old ready composable) item ready.at t is)) typed) limits was.typed;
      defined = defined_more before item old.built new.built (subst (IsGrown old.built) (sym printed.built) printed.more.grown) was.defined (λ d other. let no : tree t ≡ def d = sym is ∙ other in absurd (cc));
      printed = printed_more before item old.trees new.trees (still_there old.trees new.trees t.name.text v added_to_old) was.printed
          (λ u other. subst (λ (w : TreeItem). is_some (tree_at new.trees w.name.text) ≡ true) (own_tree u other) (own_there old.trees new.trees t.name.text v added_to_old (same_itself t.name.text)));
    }

    pub done_tree : (o : Outcome) → o ≡ tree_line t.name.text type v → ((done : List Outcome) → Tells old.trees (trees_in done) → IsValue (items_in a) (trees_in done) type t.value v)
        → ((done : List Outcome) → Tells old.trees (trees_in done) → OwesNothing (items_in a) (trees_in done) type t.value) → HasType type v → IsInLimits v → IsDone (items_in a) item old new o
    done_tree o same value owes typed limits = subst (IsDone (items_in a) item old new) (sym same) (record {
      may = λ done told scalars. record {
        composable = composable;
        is = subst (λ b. IsOutcomeOf (items_in a) (trees_in done) item.place.line b (tree_line t.name.text type v)) (sym is) (refl, refl, value done told, printable v limits scalars);
      };
      unowed = λ done told. subst (IsUnowed (items_in a) (trees_in done)) (sym is) (item_unowed (items_in a) (trees_in done) (tree t) (subst (IsComposable (items_in a)) is composable) (owes done told).none (λ large. large));
      typed = typed;
      told = told_more old.trees new.trees t.name.text type v added_to_old;
      kept = kept_tree typed limits;
    })

-- Items without a line, and statements, print no tree.
use Rattle.std.proofs.Common.{◌≡◌, ℕ, Bool, List, ◌∷◌, Option, Some, None, refl, sym, subst, ◌∙◌}
use Rattle.model_tree.specs.Tree.{Tree}
use Rattle.model_tree.specs.Signature.{PlainSignature}
use Rattle.fast_tree.specs.declared.label.Label.{Label}
use Rattle.model_grammar.specs.Syntax.{sorts, tree, lang, trans, def, DefItem, TreeItem, Item}
use Rattle.model_meaning.specs.Values.{Printed}
use Rattle.model_run.specs.Items.{IsComposable}
use Rattle.model_run.specs.Outcomes.{Outcome, silent, trees_in, IsOutcomeOf}
use Rattle.model_run.specs.Owed.{IsUnowed}
use Rattle.fast_eval.specs.Counted.{IsCounted, outcome_of}
use Rattle.fast_eval.specs.Table.{AreBuilt}
use Rattle.fast_eval.proofs.Outcomes.{def_outcome}
use Rattle.fast_eval.specs.Defined.{IsDefined}
use Rattle.fast_eval.proofs.Keeping.{none_more}
use Rattle.tree_values.specs.Trees.{Tells}
use Rattle.tree_values.specs.declared.trees.Trees.{Trees}
use Rattle.fast_session.specs.declared.items.Around.{Around}
use Rattle.fast_session.specs.declared.items.Kept.{Kept}
use Rattle.fast_session.specs.Answers.{verdict_on}
use Rattle.fast_session.specs.Kept.{items_in, IsReady}
use Rattle.fast_session.specs.Items.{IsTyped, IsBuiltMore, IsDone}
use Rattle.fast_session.proofs.Keeping.{kept_built}
use Rattle.fast_session.proofs.Unowed.{item_unowed}
use Rattle.fast_session.proofs.Ready.{def_form}

-- a verdict is no tree that has a name
pub no_tree : (done : List Outcome) (line : ℕ) (passes : Bool) (signature : PlainSignature) (shown : Option (Tree Label)) → trees_in (verdict_on line passes signature shown ∷ done) ≡ trees_in done
no_tree done line passes signature None = refl
no_tree done line passes signature (Some t) = refl

-- nothing was built
pub nothing_more : (items : List Item) (k : Kept) → AreBuilt items k.built → IsBuiltMore items k k
nothing_more items k built = record { built = built; grown = none_more k.built; trees = refl }

module _ (items : List Item) (item : Item) where
  -- an item without a line
  done_bare : (k : Kept) → IsComposable items item.body → ((trees : List Printed) → IsOutcomeOf items trees item.place.line item.body silent) → ((trees : List Printed) → IsUnowed items trees item.body)
      → ((d : DefItem) → ¬ (item.body ≡ def d)) → ((t : TreeItem) → ¬ (item.body ≡ tree t)) → IsDone items item k k silent
  done_bare k composable is unowed no_def no_tree = record {
    may = λ done told scalars. record { composable = composable; is = is (trees_in done) };
    unowed = λ done told. unowed (trees_in done);
    typed = tt;
    told = λ done told. told;
    kept = λ before was. kept_built before item items k k (nothing_more items k was.built) was (λ d is. absurd (no_def d is)) no_tree;
  }

  -- an item of a type, of a language, and of a transformation
  pub done_sorts : (k : Kept) → IsComposable items item.body → (t : _) → item.body ≡ sorts t → IsDone items item k k silent
  done_sorts k composable t is = done_bare k composable
      (λ trees. subst (λ b. IsOutcomeOf items trees item.place.line b silent) (sym is) refl)
      (λ trees. subst (IsUnowed items trees) (sym is) (item_unowed items trees (sorts t) (subst (IsComposable items) is composable) (λ code owed. owed) (λ large. large)))
      (λ d other. let no : sorts t ≡ def d = sym is ∙ other in cc)
      (λ u other. let no : sorts t ≡ tree u = sym is ∙ other in cc)

  pub done_lang : (k : Kept) → IsComposable items item.body → (l : _) → item.body ≡ lang l → IsDone items item k k silent
  done_lang k composable l is = done_bare k composable
      (λ trees. subst (λ b. IsOutcomeOf items trees item.place.line b silent) (sym is) refl)
      (λ trees. subst (IsUnowed items trees) (sym is) (item_unowed items trees (lang l) (subst (IsComposable items) is composable) (λ code owed. owed) (λ large. large)))
      (λ d other. let no : lang l ≡ def d = sym is ∙ other in cc)
      (λ u other. let no : lang l ≡ tree u = sym is ∙ other in cc)

  pub done_trans : (k : Kept) → IsComposable items item.body → (t : _) → item.body ≡ trans t → IsDone items item k k silent
  done_trans k composable t is = done_bare k composable
      (λ trees. subst (λ b. IsOutcomeOf items trees item.place.line b silent) (sym is) refl)
      (λ trees. subst (IsUnowed items trees) (sym is) (item_unowed items trees (trans t) (subst (IsComposable items) is composable) (λ code owed. owed) (λ large. large)))
      (λ d other. let no : trans t ≡ def d = sym is ∙ other in cc)
      (λ u other. let no : trans t ≡ tree u = sym is ∙ other in cc)

-- a count is no tree
counted_typed : (name : List ℕ) (count : Option ℕ) → IsTyped (outcome_of name count)
counted_typed name None = tt
counted_typed name (Some n) = tt

counted_tells : (name : List ℕ) (count : Option ℕ) (done : List Outcome) → trees_in (outcome_of name count ∷ done) ≡ trees_in done
counted_tells name None done = refl
counted_tells name (Some n) done = refl

-- a definition
module _ (a : Around) (item : Item) (old new : Kept) (ready : IsReady a item old) (composable : IsComposable (items_in a) item.body) (d : DefItem) (is : item.body ≡ def d) where
  own_def : (e : DefItem) → item.body ≡ def e → d ≡ e
  own_def e other = let same : def d ≡ def e = sym is ∙ other in cc

  pub done_def : IsBuiltMore (items_in a) old new → IsDefined new.built d → (count : Option ℕ) → IsCounted (items_in a) d.value count → IsDone (items_in a) item old new (outcome_of d.name.text count)
  done_def more named count counted = record {
    may = λ done told scalars. record {
      composable = composable;
      is = subst (λ b. IsOutcomeOf (items_in a) (trees_in done) item.place.line b (outcome_of d.name.text count)) (sym is) (def_outcome (items_in a) (trees_in done) d d.value (def_form a item old ready composable d is) count counted);
    };
    unowed = λ done told. subst (IsUnowed (items_in a) (trees_in done)) (sym is) (item_unowed (items_in a) (trees_in done) (def d) (subst (IsComposable (items_in a)) is composable) (λ code owed. owed) (λ large. large));
    typed = counted_typed d.name.text count;
    told = λ done told. subst (λ (outcomes : List Printed). Tells new.trees outcomes) (sym (counted_tells d.name.text count done)) (subst (λ (ts : Trees). Tells ts (trees_in done)) (sym more.trees) told);
    kept = λ before was. kept_built before item (items_in a) old new more was
        (λ e other. subst (λ (f : DefItem). IsDefined new.built f) (own_def e other) named)
        (λ t other. let no : def d ≡ tree t = sym is ∙ other in cc);
  }

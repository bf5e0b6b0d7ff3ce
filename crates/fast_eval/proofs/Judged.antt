-- What is found of automata, and what stops the search, says of statements of their expressions.
use Rattle.std.proofs.Common.{◌≡◌, ◌≤◌, inl, inr, ℕ, List, [], ◌∷◌, Some, sym, ap, subst}
use Rattle.model_tree.specs.Limits.{most_classes}
use Rattle.model_tree.specs.Tree.{LabelTree, relabel}
use Rattle.fast_tree.specs.Entries.{label_meaning}
use Rattle.model_tree.specs.Signature.{Sort, HasType, sorts_of}
use Rattle.fast_tree.specs.declared.label.Label.{Label}
use Rattle.fast_fault.specs.declared.place.Pos.{Pos}
use Rattle.model_grammar.specs.declared.Op1.TheVariants.{Domain}
use Rattle.model_grammar.specs.Places.{nowhere}
use Rattle.model_grammar.specs.Syntax.{X, one, empty, type_check, Item}
use Rattle.model_names.specs.Kinds.{language, transformation, kind_of, type_of}
use Rattle.model_meaning.specs.Truth.{IsAmong, IsTrue, Shows}
use Rattle.meaning_laws.proofs.Kinded.{through}
use Rattle.model_run.specs.Parts.{IsOn}
use Rattle.model_meaning.specs.Meaning.{IsRelated, input_type, signature_named}
use Rattle.model_run.specs.Items.{judged_claim}
use Rattle.lin_solve.specs.declared.chain.Chain.{Chain}
use Rattle.sta_core.specs.declared.Lang.{Lang}
use Rattle.sta_classes.specs.Meant.{StopsClasses}
use Rattle.sta_classes.specs.declared.stop.ClassStop.{ClassStop}
use Rattle.sta_ops.specs.Empty.{in_wanted, IsEmptyAnswer, IsCompared}
use Rattle.sta_ops.specs.declared.emptiness.Wanted.{Wanted}
use Rattle.sta_ops.specs.Empty.{StopsEither}
use Rattle.sta_ops.specs.declared.emptiness.Found.{Found}
use Rattle.sta_ops.specs.declared.emptiness.Found.TheVariants.{Absent, Shown, TooBig}
use Rattle.fast_eval.specs.Broken.{broken_x}
use Rattle.fast_eval.specs.Scopes.{AreDecided}
use Rattle.record_label.specs.Meaning.{row_meaning}
use Rattle.record_label.specs.Rows.{RowAtom}
use Rattle.fast_eval.specs.Built.{IsBuiltOf}
use Rattle.fast_eval.specs.Found.{IsFoundOf, wanted_claim}
use Rattle.fast_eval.specs.Stops.{IsStopOf, by_classes}
use Rattle.fast_eval.proofs.Answered.{accepts, empty_test, wanted_test, found_of}
use Rattle.fast_eval.proofs.Claims.{empty_stops}
use Rattle.fast_eval.proofs.Stopped.{stops_one, stops_two}

module _ (items : List Item) (type : List ℕ) (sorts : List Sort) (labels : sorts ≡ sorts_of (signature_named items (Some type))) (most : ℕ) (x : X) (a : Lang RowAtom) (built : IsBuiltOf items x type a) where
  pub found_empty : most ≤ most_classes → (f : Found Label) → IsEmptyAnswer (row_meaning sorts) a.sta a.state most f → IsFoundOf items (empty x) f
  found_empty low f answer = found_of items (empty x) type a.sta.ranks sorts built.ranks labels (accepts items type x a built) (empty_test items type x a built) most low f answer

  pub stopped_empty : (s : ClassStop Chain) → StopsClasses (row_meaning sorts) a.sta most s → IsStopOf items (judged_claim items (empty x)) most (by_classes s)
  stopped_empty s stop = empty_stops items most x built.carries.is_on.0 (by_classes s) (stops_one items type sorts labels x a built most s stop)

  module _ (y : X) (b : Lang RowAtom) (also : IsBuiltOf items y type b) where
    pub found_wanted : (wanted : Wanted) (place : Pos) → most ≤ most_classes → (f : Found Label) → IsCompared (row_meaning sorts) wanted a b most f → IsFoundOf items (wanted_claim wanted place x y) f
    found_wanted wanted place low f answer = found_of items (wanted_claim wanted place x y) type a.sta.ranks sorts built.ranks labels (in_wanted (row_meaning sorts) wanted a b) (wanted_test items type x y a b built also sorts wanted place) most low f answer

    pub stopped_equal : (s : ClassStop Chain) → StopsEither (row_meaning sorts) a b most s → IsStopOf items (x ∷ y ∷ []) most (by_classes s)
    stopped_equal s stop = stops_two items type sorts labels x a built y b also most s stop

-- ---- transformations

module _ (items : List Item) (f : X) (goes : kind_of items f ≡ Some transformation) where
  -- its domain has a tree of the type where it has an output
  same_type : input_type items (one Domain nowhere f) ≡ input_type items f
  same_type = ap (signature_named items) (through transformation (kind_of items f) (type_of items f) goes)

  among : (t : LabelTree) → IsAmong items (kind_of items f) f t ≡ ((u : LabelTree) × IsRelated items f t u)
  among t = ap (λ k. IsAmong items k f t) goes

  shows_from : (t : LabelTree) → Shows items (empty (one Domain nowhere f)) t → Shows items (empty f) t
  shows_from t s = (subst (λ g. HasType g t) same_type s.0, subst (λ k. IsAmong items k f t) (sym goes) s.1)

  shows_to : (t : LabelTree) → Shows items (empty f) t → Shows items (empty (one Domain nowhere f)) t
  shows_to t s = (subst (λ g. HasType g t) (sym same_type) s.0, subst (λ k. IsAmong items k f t) goes s.1)

  pub found_giving : (r : Found Label) → IsFoundOf items (empty (one Domain nowhere f)) r → IsFoundOf items (empty f) r
  found_giving Absent none = λ t h own. none t (subst (λ g. HasType g t) (sym same_type) h) (subst (λ k. IsAmong items k f t) goes own)
  found_giving (Shown tree) s = (shows_from (relabel label_meaning tree) s.0, s.1)
  found_giving TooBig big = record { tree = big.tree; right = shows_from big.tree big.right; large = λ t s. big.large t (shows_to t s) }

-- ---- type checks

module _ (items : List Item) (type : List ℕ) (x f y : X) (on : IsOn items x type) (decided : AreDecided items type f y) where
  checked_type : input_type items (broken_x x f y) ≡ input_type items x
  checked_type = ap (signature_named items) (through language (kind_of items x) (type_of items x) on.0)

  broken_from : (t : LabelTree) → Shows items (empty (broken_x x f y)) t → Shows items (type_check x f y) t
  broken_from t s = (subst (λ g. HasType g t) checked_type s.0, s.1.0, s.1.1)

  broken_to : (t : LabelTree) → Shows items (type_check x f y) t → Shows items (empty (broken_x x f y)) t
  broken_to t s = (subst (λ g. HasType g t) (sym checked_type) s.0, (s.1, s.2))

  none_broken : IsTrue items (empty (broken_x x f y)) → IsTrue items (type_check x f y)
  none_broken none t u h inside gives = elim (decided t u (subst (λ o. HasType (signature_named items o) t) on.1 h) gives) [
    | inl own ↦ own
    | inr other ↦ absurd (none t (subst (λ g. HasType g t) (sym checked_type) h) (inside, (u, gives, other)))
  ]

  pub found_broken : (r : Found Label) → IsFoundOf items (empty (broken_x x f y)) r → IsFoundOf items (type_check x f y) r
  found_broken Absent none = none_broken none
  found_broken (Shown tree) s = (broken_from (relabel label_meaning tree) s.0, s.1)
  found_broken TooBig big = record { tree = big.tree; right = broken_from big.tree big.right; large = λ t s. big.large t (broken_to t s) }

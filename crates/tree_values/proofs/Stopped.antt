-- What stops the evaluation of a part of a tree expression stops that of the whole.
use Rattle.std.proofs.Common.{◌≡◌, inl, inr, ◌||◌, ◌<◌, ℕ, Bool, true, List, [], ◌∷◌, ◌++◌, Contains, refl, sym, subst}
use Rattle.std.proofs.lemmas.Bool.{or_left, or_right}
use Rattle.std.proofs.lemmas.List.Elements.{Contains-append_left, Contains-append_right}
use Rattle.fast_fault.specs.declared.place.Pos.{Pos}
use Rattle.model_tree.specs.Limits.{most_nodes}
use Rattle.model_tree.specs.Tree.{LabelTree, node_count}
use Rattle.model_tree.specs.Scalars.{has_scalars}
use Rattle.model_tree.specs.Signature.{PlainSignature, HasType}
use Rattle.model_program.specs.Syntax.{Name}
use Rattle.model_grammar.specs.declared.Op1.TheVariants.{Complement, Minimize, Domain, GetWitness}
use Rattle.model_grammar.specs.declared.Op2.TheVariants.{Intersect, Union, Difference, PreImage, Compose, Restrict, RestrictOut, Apply}
use Rattle.model_grammar.specs.Syntax.{Expr, X, named, one, two, literal, Xs, and_x, Item}
use Rattle.model_meaning.specs.Meaning.{input_type}
use Rattle.model_meaning.specs.Values.{Printed, IsValue}
use Rattle.model_run.specs.Items.{used_in, used_in_all, has_classes, some_has_classes, OfSomeTree, OfSomeTreeIn, IsApplied}
use Rattle.model_run.specs.Causes.{HasFarOutput, HasLoad, HasNoOutput, HasTwoOutputs}
use Rattle.model_run.specs.Printable.{IsPrintable}
use Rattle.model_layers.proofs.Wider.{are_among}
use Rattle.sta_theory.proofs.Lists.{later_in}
use Rattle.fast_eval.specs.declared.stops.EvalStop.{EvalStop}
use Rattle.fast_eval.specs.declared.stops.EvalStop.TheVariants.{Classes, Wide, Range, Memory}
use Rattle.fast_eval.specs.Found.{IsInLimits}
use Rattle.sttr_apply.specs.Plain.{load_of}
use Rattle.fast_eval.specs.Stops.{StopsExpression}
use Rattle.fast_eval.proofs.Claims.{widened, of_expression}
use Rattle.tree_values.specs.declared.stops.ValueStop.{ValueStop}
use Rattle.tree_values.specs.declared.stops.ValueStop.TheVariants.{Stopped, NoTree, TooLarge, LabelRange, Outputs, NoOutput, SeveralOutputs}
use Rattle.tree_values.specs.Members.{IsMemberStop}
use Rattle.tree_values.specs.Stops.{FindsNothing, FindsLarge, HasLarge, AppliesToNone, AppliesToTwo, NeedsClasses, IsStopBy, IsStopTyped, IsValueStop, IsStopIn}
use Rattle.tree_values.specs.Applied.{IsOutputStop}
use Rattle.tree_values.specs.Trees.{meant}
use Rattle.tree_values.specs.Values.{IsFindStop}

-- a tree in limits whose texts can be shown can be shown
pub printable : (t : LabelTree) → IsInLimits t → has_scalars t ≡ true → IsPrintable t
printable t limits scalars = record { kept = limits.kept; scalars = scalars; small = limits.small; shallow = limits.shallow }

-- the trees that are shown of an input have their types
pub output_typed : (items : List Item) (most : ℕ) (f : X) (t : LabelTree) → HasType (input_type items f) t → (s : ValueStop) → IsOutputStop items most f t s → IsStopTyped items s
output_typed items most f t typed (Stopped s) h = tt
output_typed items most f t typed NoTree h = tt
output_typed items most f t typed TooLarge h = tt
output_typed items most f t typed (LabelRange n) h = tt
output_typed items most f t typed (Outputs load) h = tt
output_typed items most f t typed (NoOutput v) h = subst (λ s. HasType s (meant v.tree)) (sym h.1) (subst (HasType (input_type items f)) (sym h.0) typed)
output_typed items most f t typed (SeveralOutputs w) h = (
  subst (λ s. HasType s (meant w.input.tree)) (sym h.1) (subst (HasType (input_type items f)) (sym h.0) typed),
  subst (λ s. HasType s (meant w.first)) (sym h.2) h.4,
  subst (λ s. HasType s (meant w.second)) (sym h.2) h.5,
)

needs : (has has_too : Bool) → (has ≡ true → has_too ≡ true) → (s : EvalStop) → NeedsClasses has s → NeedsClasses has_too s
needs has has_too to Classes h = to h
needs has has_too to (Wide c) h = to h
needs has has_too to (Range n) h = tt
needs has has_too to Memory h = tt

module _ (items : List Item) (printed : List Printed) (most : ℕ) where
  -- an expression with an operation that tells trees apart
  told : (y : X) (s : EvalStop) → StopsExpression items y most s → NeedsClasses (has_classes y) s
  told y Classes h = h.0
  told y (Wide c) h = h.0
  told y (Range n) h = tt
  told y Memory h = tt

  -- what is used or holds of a part is used or holds of the whole
  goes_up : (has has_too : Bool) (used used_too : List X) (Of Of_too : (PlainSignature → X → Type 0) → Type 0)
      → (has ≡ true → has_too ≡ true) → ((e : X) → Contains used e → Contains used_too e) → ((P : PlainSignature → X → Type 0) → Of P → Of_too P)
      → (s : ValueStop) → IsStopBy items printed most has used Of s → IsStopBy items printed most has_too used_too Of_too s
  goes_up has has_too used used_too Of Of_too to within up (Stopped s) h = (needs has has_too to s h.0, widened items most used used_too (λ e at. (e, within e at, (are_among items).same e)) s h.1)
  goes_up has has_too used used_too Of Of_too to within up NoTree h = up (FindsNothing items) h
  goes_up has has_too used used_too Of Of_too to within up TooLarge (inl h) = inl (up (FindsLarge items) h)
  goes_up has has_too used used_too Of Of_too to within up TooLarge (inr h) = inr (up (HasLarge items printed) h)
  goes_up has has_too used used_too Of Of_too to within up (LabelRange n) h = up (IsApplied items printed (HasFarOutput items n)) h
  goes_up has has_too used used_too Of Of_too to within up (Outputs load) h = up (IsApplied items printed (HasLoad items (load_of load))) h
  goes_up has has_too used used_too Of Of_too to within up (NoOutput t) h = λ shown. up (AppliesToNone items printed t) (h shown)
  goes_up has has_too used used_too Of Of_too to within up (SeveralOutputs w) h = λ shown. up (AppliesToTwo items printed w) (h shown)

  module _ (signature : PlainSignature) where
    -- ---- of literals

    pub stop_first : (x : X) (xs : Xs) (s : ValueStop) → IsValueStop items printed most signature x s → IsStopIn items printed most signature (and_x x xs) s
    stop_first x xs =
        goes_up (has_classes x) (some_has_classes (and_x x xs)) (used_in x) (used_in_all (and_x x xs)) (λ P. OfSomeTree items P signature x) (λ P. OfSomeTreeIn items P signature (and_x x xs))
        (or_left (has_classes x) (some_has_classes xs)) (Contains-append_left (used_in x) (used_in_all xs)) (λ P h. inl h)

    pub stop_later : (x : X) (xs : Xs) (s : ValueStop) → IsStopIn items printed most signature xs s → IsStopIn items printed most signature (and_x x xs) s
    stop_later x xs =
        goes_up (some_has_classes xs) (some_has_classes (and_x x xs)) (used_in_all xs) (used_in_all (and_x x xs)) (λ P. OfSomeTreeIn items P signature xs) (λ P. OfSomeTreeIn items P signature (and_x x xs))
        (or_right (has_classes x) (some_has_classes xs)) (Contains-append_right (used_in x) (used_in_all xs)) (λ P h. inr h)

    pub stop_literal : (name : Name) (labels : List Expr) (xs : Xs) (s : ValueStop) → IsStopIn items printed most signature xs s → IsValueStop items printed most signature (literal name labels xs) s
    stop_literal name labels xs =
        goes_up (some_has_classes xs) (some_has_classes xs) (used_in_all xs) (used_in_all xs) (λ P. OfSomeTreeIn items P signature xs) (λ P. OfSomeTree items P signature (literal name labels xs))
        (λ e. e) (λ e at. at) (λ P h. inr h)

    -- want of memory has a cause in each expression
    pub stop_memory : (x : X) → IsValueStop items printed most signature x (Stopped Memory)
    stop_memory x = (tt, tt)

    -- ---- of trees that are found

    always : (s : EvalStop) → NeedsClasses true s
    always Classes = refl
    always (Wide c) = refl
    always (Range n) = tt
    always Memory = tt

    pub stop_found : (place : Pos) (x : X) (s : ValueStop) → IsFindStop items x most s → IsValueStop items printed most signature (one GetWitness place x) s
    stop_found place x (Stopped s) h = (always s, h)
    stop_found place x NoTree h = h
    stop_found place x TooLarge h = inl h
    stop_found place x (LabelRange n) h = absurd h
    stop_found place x (Outputs load) h = absurd h
    stop_found place x (NoOutput t) h = absurd h
    stop_found place x (SeveralOutputs w) h = absurd h

    -- ---- of transformations that are applied

    -- of the tree that one is applied to
    pub stop_inside : (place : Pos) (f x : X) (s : ValueStop) → IsValueStop items printed most (input_type items f) x s → IsValueStop items printed most signature (two Apply place f x) s
    stop_inside place f x =
        goes_up (has_classes x) (has_classes f || has_classes x) (used_in x) (f ∷ used_in x) (λ P. OfSomeTree items P (input_type items f) x) (λ P. OfSomeTree items P signature (two Apply place f x))
        (or_right (has_classes f) (has_classes x)) (λ e at. later_in f e (used_in x) at) (λ P h. inr h)

    -- of its outputs
    pub stop_output : (place : Pos) (f x : X) (t : LabelTree) → IsValue items printed (input_type items f) x t → IsInLimits t → (s : ValueStop) → IsOutputStop items most f t s → IsValueStop items printed most signature (two Apply place f x) s
    stop_output place f x t is limits (Stopped s) h = (
      needs (has_classes f) (has_classes f || has_classes x) (or_left (has_classes f) (has_classes x)) s (told f s h),
      widened items most (f ∷ []) (f ∷ used_in x) (λ e at. (e, Contains-append_left (f ∷ []) (used_in x) e at, (are_among items).same e)) s (of_expression items most f s h),
    )
    stop_output place f x t is limits NoTree h = absurd h
    stop_output place f x t is limits TooLarge h = absurd h
    stop_output place f x t is limits (LabelRange n) h = inl (t, is, h)
    stop_output place f x t is limits (Outputs load) h = inl (t, is, h)
    stop_output place f x t is limits (NoOutput v) h = λ shown. inl (
      t,
      is,
      (
        sym h.0,
        h.1,
        subst (HasNoOutput items f) (sym h.0) h.2,
        printable (meant v.tree) (subst IsInLimits (sym h.0) limits) shown,
      ),
    )
    stop_output place f x t is limits (SeveralOutputs w) h = λ shown. inl (
      t,
      is,
      (
        sym h.0,
        h.1,
        h.2,
        subst (λ s. HasTwoOutputs items f s (meant w.first) (meant w.second)) (sym h.0) h.3,
        printable (meant w.input.tree) (subst IsInLimits (sym h.0) limits) shown.0,
        printable (meant w.first) h.6 shown.1,
        printable (meant w.second) h.7 shown.2,
      ),
    )

    -- ---- of large values

    large_here : (x : X) (t : LabelTree) → IsValue items printed signature x t → most_nodes < node_count t → OfSomeTree items (HasLarge items printed) signature x
    large_here (named n) t is large = (t, is, inl large)
    large_here (one GetWitness place x) t is large = (t, is, inl large)
    large_here (one Complement place x) t is large = absurd is
    large_here (one Minimize place x) t is large = absurd is
    large_here (one Domain place x) t is large = absurd is
    large_here (two Apply place f x) t is large = inl (t, is, inl large)
    large_here (two Intersect place x y) t is large = absurd is
    large_here (two Union place x y) t is large = absurd is
    large_here (two Difference place x y) t is large = absurd is
    large_here (two PreImage place x y) t is large = absurd is
    large_here (two Compose place x y) t is large = absurd is
    large_here (two Restrict place x y) t is large = absurd is
    large_here (two RestrictOut place x y) t is large = absurd is
    large_here (literal name labels xs) t is large = inl (t, is, inl large)

    pub stop_large : (x : X) (t : LabelTree) → IsValue items printed signature x t → most_nodes < node_count t → IsValueStop items printed most signature x TooLarge
    stop_large x t is large = inr (large_here x t is large)

  -- ---- of statements

  pub stop_value : (x y : X) (s : ValueStop) → IsValueStop items printed most (input_type items y) x s → IsMemberStop items printed most x y s
  stop_value x y =
      goes_up (has_classes x) (has_classes x || has_classes y) (used_in x) (used_in x ++ y ∷ []) (λ P. OfSomeTree items P (input_type items y) x) (λ P. OfSomeTree items P (input_type items y) x)
      (or_left (has_classes x) (has_classes y)) (Contains-append_left (used_in x) (y ∷ [])) (λ P h. h)

  pub stop_language : (x y : X) (s : EvalStop) → StopsExpression items y most s → IsMemberStop items printed most x y (Stopped s)
  stop_language x y s h = (
    needs (has_classes y) (has_classes x || has_classes y) (or_right (has_classes x) (has_classes y)) s (told y s h),
    widened items most (y ∷ []) (used_in x ++ y ∷ []) (λ e at. (e, Contains-append_right (used_in x) (y ∷ []) e at, (are_among items).same e)) s (of_expression items most y s h),
  )

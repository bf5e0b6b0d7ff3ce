-- The value of a transformation that is applied to a tree.
use Rattle.std.proofs.Common.{◌≡◌, inl, inr, ap, ◌∙◌, ℕ, List, [], ◌∷◌, Option, Some, All, Contains, refl, sym, subst}
use Rattle.std.proofs.lemmas.List.Elements.{All-head, All-tail}
use Rattle.fast_fault.specs.declared.place.Pos.{Pos}
use Rattle.model_tree.specs.Tree.{LabelTree}
use Rattle.model_tree.specs.Signature.{PlainSignature, HasType}
use Rattle.model_grammar.specs.declared.Op2.{Op2}
use Rattle.model_grammar.specs.declared.Op2.TheVariants.{Intersect, Union, Difference, PreImage, Compose, Restrict, RestrictOut, Apply}
use Rattle.fast_eval.specs.Forms.{IsMadeFrom}
use Rattle.fast_eval.proofs.Claims.{made_from}
use Rattle.tree_values.specs.Forms.{IsTreeOn}
use Rattle.model_grammar.specs.Syntax.{X, two, Item}
use Rattle.model_meaning.specs.Meaning.{input_type, output_type, signature_named}
use Rattle.model_meaning.specs.Values.{Printed, IsValue}
use Rattle.model_meaning.proofs.Members.{one_of, none_of}
use Rattle.model_run.specs.Causes.{HasNoOutput, HasTwoOutputs}
use Rattle.sta_theory.proofs.Lists.{first_in, later_in}
use Rattle.std.specs.declared.cmp.Ordering.TheVariants.{Less}
use Rattle.model_sta.specs.EachTwo.{EachTwo}
use Rattle.model_run.specs.Order.{label_tree_cmp}
use Rattle.fast_eval.specs.Found.{IsInLimits}
use Rattle.fast_eval.specs.declared.stops.OutputStop.{OutputStop}
use Rattle.fast_eval.specs.declared.stops.OutputStop.TheVariants as outputs
use Rattle.fast_eval.specs.Outputs.{AreOutputsOf, StopsOutputs}
use Rattle.tree_values.specs.declared.sizes.Measured.{Measured}
use Rattle.tree_values.specs.declared.applied.Choice.{Choice}
use Rattle.tree_values.specs.declared.applied.Choice.TheVariants as choice
use Rattle.tree_values.specs.declared.stops.TypedTree.{TypedTree}
use Rattle.tree_values.specs.declared.stops.TwoOutputs.{TwoOutputs}
use Rattle.tree_values.specs.declared.stops.ValueStop.TheVariants as stops
use Rattle.tree_values.specs.Applied.{stop_of, IsChoice, IsChosen, HasOutput, IsOutputStop}
use Rattle.tree_values.specs.Owed.{OwesNothing}
use Rattle.tree_values.specs.Stops.{type_of_tree}
use Rattle.tree_values.specs.Trees.{meant}
use Rattle.tree_values.specs.Values.{IsHeld, HasValue}
use Rattle.tree_values.proofs.Owed.{application_owes}

module _ (items : List Item) (most : ℕ) (f : X) (t : LabelTree) where
  -- why there is no list of outputs
  pub unlisted : (s : OutputStop) → StopsOutputs items f most t s → IsOutputStop items most f t (stop_of s)
  unlisted (outputs.Stopped s) h = h
  unlisted (outputs.Range n) h = h
  unlisted (outputs.Load load) h = h

  module _ (us : List LabelTree) (are : AreOutputsOf items f t us) where
    none_given : us ≡ [] → HasNoOutput items f t
    none_given is u related = none_of u (subst (λ ws. Contains ws u) is (are.all u related))

    one_given : (u : LabelTree) (room : ℕ) (v : Option Measured) → us ≡ u ∷ [] → IsHeld room u v → HasOutput items f t room v
    one_given u room v is held =
        let there : Contains us u = subst (λ ws. Contains ws u) (sym is) (first_in u []) in
        record {
          tree = u;
          is = record { is = are.outputs u there; only = λ w related. alone w (subst (λ ws. Contains ws w) is (are.all w related)) };
          typed = All-head (HasType (output_type items f)) u [] (subst (All (HasType (output_type items f))) is are.typed);
          limits = All-head IsInLimits u [] (subst (All IsInLimits) is are.limits);
          held = held;
        }
      where
        alone : (w : LabelTree) → Contains (u ∷ []) w → w ≡ u
        alone w at = elim (one_of u w [] at) [ inl same ↦ sym same | inr none ↦ absurd (none_of w none) ]

    -- of more than one the first two
    record AreTwo (a b : LabelTree) : Type 0 where
      pub outputs : HasTwoOutputs items f t a b
      pub first_typed : HasType (output_type items f) a
      pub second_typed : HasType (output_type items f) b
      pub first_limits : IsInLimits a
      pub second_limits : IsInLimits b

    two_given : (a b : LabelTree) (rest : List LabelTree) → us ≡ a ∷ b ∷ rest → AreTwo a b
    two_given a b rest is =
        let typed = subst (All (HasType (output_type items f))) is are.typed in
        let limits = subst (All IsInLimits) is are.limits in
        let order = subst (EachTwo (λ u w. label_tree_cmp u w ≡ Less)) is are.in_order in
        record {
          outputs = (
            are.outputs a (subst (λ ws. Contains ws a) (sym is) (first_in a (b ∷ rest))),
            are.outputs b (subst (λ ws. Contains ws b) (sym is) (later_in a b (b ∷ rest) (first_in b rest))),
            All-head (λ w. label_tree_cmp a w ≡ Less) b rest order.0,
          );
          first_typed = All-head (HasType (output_type items f)) a (b ∷ rest) typed;
          second_typed = All-head (HasType (output_type items f)) b rest (All-tail (HasType (output_type items f)) a (b ∷ rest) typed);
          first_limits = All-head IsInLimits a (b ∷ rest) limits;
          second_limits = All-head IsInLimits b rest (All-tail IsInLimits a (b ∷ rest) limits);
        }

  module _ (room : ℕ) (c : Choice) (chosen : IsChosen items f t room c) where
    pub chosen_output : (v : Option Measured) → c ≡ choice.Only v → HasOutput items f t room v
    chosen_output v is =
        let (u, alone, held) = subst (IsChoice room chosen.trees) is chosen.choice in
        one_given chosen.trees chosen.are u room v alone held

    pub chosen_none : (v : TypedTree) → c ≡ choice.Nothing → meant v.tree ≡ t → type_of_tree items v ≡ input_type items f → IsOutputStop items most f t (stops.NoOutput v)
    chosen_none v is same of = (same, of, none_given chosen.trees chosen.are (subst (IsChoice room chosen.trees) is chosen.choice))

    pub chosen_two : (w : TwoOutputs) → c ≡ choice.Two w.first w.second → meant w.input.tree ≡ t → type_of_tree items w.input ≡ input_type items f → signature_named items (Some w.into) ≡ output_type items f → IsOutputStop items most f t (stops.SeveralOutputs w)
    chosen_two w is same of into =
        let (rest, are) = subst (IsChoice room chosen.trees) is chosen.choice in
        let both = two_given chosen.trees chosen.are (meant w.first) (meant w.second) rest are in
        (same, of, into, both.outputs, both.first_typed, both.second_typed, both.first_limits, both.second_limits)

-- the value of the whole, by one of the tree that the transformation is applied to
module _ (items : List Item) (printed : List Printed) (signature : PlainSignature) (place : Pos) (f x : X) where
  pub applied_value : (t : LabelTree) (room : ℕ) (v : Option Measured) → IsValue items printed (input_type items f) x t → OwesNothing items printed (input_type items f) x → HasOutput items f t room v → signature ≡ output_type items f → HasValue items printed signature (two Apply place f x) room v
  applied_value t room v is unowed has of = record {
    tree = has.tree;
    is = (t, is, has.is);
    unowed = application_owes items printed signature place f x t has.tree is unowed has.is has.limits;
    typed = subst (λ s. HasType s has.tree) (sym of) has.typed;
    kept = has.limits.kept;
    held = has.held;
  }

-- ---- the names of the types of a transformation

module _ (items : List Item) (f : X) (from into : List ℕ) (made : IsMadeFrom items from into f) where
  pub input_is : (of : List ℕ) → of ≡ from → signature_named items (Some of) ≡ input_type items f
  input_is of is = ap (signature_named items) (ap Some is ∙ sym (made_from items from into f made).1)

  pub output_is : (of : List ℕ) → of ≡ into → signature_named items (Some of) ≡ output_type items f
  output_is of is = ap (signature_named items) (ap Some is ∙ sym (made_from items from into f made).2)

-- the only operation on two operands that gives a tree
pub only_apply : (items : List Item) (type : List ℕ) (op : Op2) (place : Pos) (f x : X) → IsTreeOn items type (two op place f x) → (op ≡ Apply) × ((from : List ℕ) × IsMadeFrom items from type f × IsTreeOn items from x)
only_apply items type Apply place f x on = (refl, on)
only_apply items type Intersect place f x on = absurd on
only_apply items type Union place f x on = absurd on
only_apply items type Difference place f x on = absurd on
only_apply items type PreImage place f x on = absurd on
only_apply items type Compose place f x on = absurd on
only_apply items type Restrict place f x on = absurd on
only_apply items type RestrictOut place f x on = absurd on

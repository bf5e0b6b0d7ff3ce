-- What is found of the compositions in expressions is so of the item.
use Rattle.std.proofs.Common.{◌≡◌, inl, inr, ℕ, List, [], ◌∷◌, Contains, refl, sym, ap, subst, ◌∙◌}
use Rattle.std.specs.Prelude.{Some}
use Rattle.model_checks.specs.Sound.{IsSound}
use Rattle.model_tree.specs.Signature.{HasType}
use Rattle.model_meaning.specs.Types.{input_of}
use Rattle.model_meaning.specs.Meaning.{signature_named}
use Rattle.model_meaning.proofs.Members.{one_of, none_of}
use Rattle.model_grammar.specs.Syntax.{X, Claim, equal, member, empty, type_check, Body, TreeItem, tree, DefItem, def, AssertItem, assertion, Item}
use Rattle.model_run.specs.Plain.{Meet}
use Rattle.model_run.specs.Items.{used_in, claimed, expressions_in, judged, IsComposedIn, in_expression, IsComposable, AreComposable}
use Rattle.model_layers.specs.Causes.{IsAmong, CausesWiden}
use Rattle.model_layers.proofs.Wider.{are_widened}
use Rattle.lin_solve.specs.Shown.{bits_of}
use Rattle.sta_theory.proofs.Lists.{append_member, first_in, later_in}
use Rattle.model_run.proofs.Laws.{one_reached}
use Rattle.fast_compose.specs.declared.stops.ComposeStop.{ComposeStop}
use Rattle.fast_compose.specs.declared.stops.ComposeStop.TheVariants.{Classes, Wide, NotComposable, TooLarge, Memory}
use Rattle.fast_compose.specs.declared.stops.Uncomposable.{Uncomposable}
use Rattle.fast_compose.specs.Stops.{meeting_of, IsComposeCause}
use Rattle.fast_compose.specs.Composed.{stated, IsUncomposable, StopsPair}
use Rattle.fast_compose.proofs.Judging.{used_composed, IsOfItem}

-- ---- all can be made

module _ (items : List Item) where
  pub tree_composable : (t : TreeItem) → AreComposable items t.value → IsComposable items (tree t)
  tree_composable t all x y (in_expression _ e at c) = all x y (used_composed x y t.value e at c)

  pub def_composable : (d : DefItem) → AreComposable items d.value → IsComposable items (def d)
  def_composable d all x y (in_expression _ e at c) = elim (one_of d.value e [] at) [ inl same ↦ all x y (subst (IsComposedIn x y) (sym same) c) | inr none ↦ absurd (none_of e none) ]

  -- an expression of a statement as it is written is in one that is stated
  in_stated : (k : Claim) (x y e : X) → Contains (claimed k) e → IsComposedIn x y e → (z : X) × Contains (stated k) z × IsComposedIn x y z
  in_stated (equal a b) x y e at c = (e, at, c)
  in_stated (member a b) x y e at c = elim (append_member (used_in a) (b ∷ []) e at) [
    | inl here ↦ (a, first_in a (b ∷ []), used_composed x y a e here c)
    | inr there ↦ (e, later_in a e (b ∷ []) there, c)
  ]
  in_stated (empty a) x y e at c = (e, at, c)
  in_stated (type_check a f b) x y e at c = (e, at, c)

  pub claim_composable : (a : AssertItem) → ((e : X) → Contains (stated a.claim) e → AreComposable items e) → IsComposable items (assertion a)
  claim_composable a all x y (in_expression _ e at c) = let (z, there, own) = in_stated a.claim x y e at c in all z there x y own

  pub none_composable : (body : Body) → expressions_in body ≡ [] → IsComposable items body
  none_composable body none x y (in_expression _ e at c) = absurd (none_of e (subst (λ es. Contains es e) none at))

-- ---- one can't

module _ (items : List Item) (whole : IsSound items) (limit : ℕ) (x y : X) (body : Body) (own : IsOfItem items whole x y body) where
  only : (a b : X) → Contains (a ∷ []) b → a ≡ b
  only a b is = elim (one_of a b [] is) [ inl same ↦ same | inr none ↦ absurd (none_of b none) ]

  widened : CausesWiden items (x ∷ []) (judged items body)
  widened = are_widened items (x ∷ []) (judged items body) (λ e is. (own.own, own.judged_by, subst (λ z. IsAmong items z own.own) (only x e is) own.among))

  typed_by_meet : (q : List ℕ) (u : Uncomposable) → Meet items q u.meeting.first u.meeting.second (meeting_of u) → HasType (input_of items q) (meeting_of u)
  typed_by_meet q u (order, r, v, here, there, other, typed, first, second) = typed

  typed_meeting : (u : Uncomposable) → IsUncomposable items x y u → HasType (signature_named items (Some u.meeting.of)) (meeting_of u)
  typed_meeting u s =
      let (q, holds) = one_reached items (λ q. (q ≡ u.meeting.name) × Meet items q u.meeting.first u.meeting.second (meeting_of u)) x s.meet in
      subst (λ z. HasType z (meeting_of u)) (ap (input_of items) holds.0 ∙ sym s.type) (typed_by_meet q u holds.1)

  pub cause_of : (stop : ComposeStop) → StopsPair items limit x y stop → IsComposeCause items limit body stop
  cause_of Classes s = λ trees. (refl, own.tells, widened.trees limit s)
  cause_of (Wide c) s = λ trees. (own.tells, widened.wide (bits_of c.width) s)
  cause_of (NotComposable u) s = (
    λ trees scalars. record {
      first = x;
      second = y;
      composed = own.composed;
      meet = s.meet;
      copies = s.copies;
      signature = s.type;
      printable = record { kept = s.kept; scalars = scalars; small = s.small; shallow = s.shallow };
    },
    typed_meeting u s,
  )
  cause_of TooLarge s = λ trees. inl (inr (inr (record { first = x; second = y; composed = own.composed; meet = s.meet; copies = s.copies })))
  cause_of Memory s = tt

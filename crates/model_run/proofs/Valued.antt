-- What a legal line owes.
use Rattle.std.proofs.Common.{◌≡◌, ◌∙◌, ℕ, Bool, List, inl, inr, sym, subst}
use Rattle.model_tree.specs.Label.{Label}
use Rattle.model_tree.specs.Tree.{node, Trees, no_trees, tree, LabelTree}
use Rattle.model_tree.specs.Signature.{PlainSignature}
use Rattle.model_grammar.specs.declared.Op1.TheVariants.{Complement, Minimize, Domain, GetWitness}
use Rattle.model_grammar.specs.declared.Op2.TheVariants.{Intersect, Union, Difference, PreImage, Compose, Restrict, RestrictOut, Apply}
use Rattle.model_grammar.specs.Syntax.{X, named, one, two, literal, Xs, no_x, and_x, Claim, equal, member, empty, type_check, TreeItem, AssertItem, Body, sorts, lang, trans, def, assertion, Item}
use Rattle.model_grammar.specs.Syntax as syntax
use Rattle.model_meaning.specs.Types.{signature_at}
use Rattle.model_meaning.specs.Meaning.{IsTreeOf, input_type}
use Rattle.model_meaning.specs.Values.{Printed, IsValue, AreValues}
use Rattle.model_run.specs.Plain.{IsPlain, IsLinear}
use Rattle.model_run.proofs.Ordered.{before_none}
use Rattle.model_run.specs.Items.{IsComposedInItem, IsComposable, OfSomeTree, OfSomeTreeIn, OfSomeTreeOf, OfItem, Finds, IsAppliedToEach}
use Rattle.model_run.specs.Owed.{HasNotOneOutput}
use Rattle.model_run.specs.Outcomes.{Outcome, silent, tree_line, minimal_line, true_verdict, tree_verdict, IsTreeLine, IsVerdict, IsOutcomeOf, IsOutcome}
use Rattle.model_run.specs.Laws.{LinesOweNothing}

-- an expression of which P holds has no value
module _ (items : List Item) (trees : List Printed) (P : PlainSignature → X → Type 0) (none : (signature : PlainSignature) (x : X) (u : LabelTree) → P signature x → IsValue items trees signature x u → ⊥) where
  mutual
    -- nor has one in which such an expression stands
    unvalued : (signature : PlainSignature) (x : X) (u : LabelTree) → OfSomeTree items P signature x → IsValue items trees signature x u → ⊥
    unvalued signature (named n) u some value = none signature (named n) u some value
    unvalued signature (one op place x) u some value = none signature (one op place x) u some value
    unvalued signature (two Apply place f x) u (inl some) value = none signature (two Apply place f x) u some value
    unvalued signature (two Apply place f x) u (inr some) value = unvalued (input_type items f) x value.0 some value.1
    unvalued signature (two Intersect place x y) u some value = some
    unvalued signature (two Union place x y) u some value = some
    unvalued signature (two Difference place x y) u some value = some
    unvalued signature (two PreImage place x y) u some value = some
    unvalued signature (two Compose place x y) u some value = some
    unvalued signature (two Restrict place x y) u some value = some
    unvalued signature (two RestrictOut place x y) u some value = some
    unvalued signature (literal name labels xs) u (inl some) value = none signature (literal name labels xs) u some value
    unvalued signature (literal name labels xs) (node c l ts) (inr some) value = none_valued signature xs ts some value.2

    none_valued : (signature : PlainSignature) (xs : Xs) (ts : Trees Label) → OfSomeTreeIn items P signature xs → AreValues items trees signature xs ts → ⊥
    none_valued signature no_x ts some values = some
    none_valued signature (and_x x xs) no_trees some values = values
    none_valued signature (and_x x xs) (tree t ts) (inl some) values = unvalued signature x t some values.0
    none_valued signature (and_x x xs) (tree t ts) (inr some) values = none_valued signature xs ts some values.1

  in_tree : (t : TreeItem) (o : Outcome) → IsTreeLine items trees t o → OfSomeTree items P (signature_at items t.of) t.value → ⊥
  in_tree t silent line some = line
  in_tree t (tree_line name signature u) line some = unvalued (signature_at items t.of) t.value u some (subst (λ s. IsValue items trees s t.value u) line.1 line.2)
  in_tree t (minimal_line name n) line some = line
  in_tree t (true_verdict n passes) line some = line
  in_tree t (tree_verdict n passes signature u) line some = line

  in_claim : (claim : Claim) (line : ℕ) (wanted : Bool) (o : Outcome) → IsVerdict items trees line (record { wanted = wanted; claim = claim }) o → OfSomeTreeOf items P claim → ⊥
  in_claim (equal x y) line wanted o verdict some = some
  in_claim (empty x) line wanted o verdict some = some
  in_claim (type_check x f y) line wanted o verdict some = some
  in_claim (member x y) line wanted silent verdict some = verdict
  in_claim (member x y) line wanted (tree_line name signature u) verdict some = verdict
  in_claim (member x y) line wanted (minimal_line name n) verdict some = verdict
  in_claim (member x y) line wanted (true_verdict n passes) verdict some = verdict.2
  in_claim (member x y) line wanted (tree_verdict n passes signature u) verdict some = unvalued (input_type items y) x u some verdict.2.0

  in_item : (line : ℕ) (body : Body) (o : Outcome) → IsOutcomeOf items trees line body o → OfItem items P body → ⊥
  in_item line (sorts t) o is some = some
  in_item line (syntax.tree t) o is some = in_tree t o is some
  in_item line (lang l) o is some = some
  in_item line (trans t) o is some = some
  in_item line (def d) o is some = some
  in_item line (assertion a) o is some = in_claim a.claim line a.wanted o is some

module _ (items : List Item) (trees : List Printed) where
  no_witness : (signature : PlainSignature) (x : X) (u : LabelTree) → Finds (λ y. (t : LabelTree) → ¬ (IsTreeOf items y t)) signature x → IsValue items trees signature x u → ⊥
  no_witness signature (named n) u found value = found
  no_witness signature (one GetWitness place x) u found value = found u value.is
  no_witness signature (one Complement place x) u found value = found
  no_witness signature (one Minimize place x) u found value = found
  no_witness signature (one Domain place x) u found value = found
  no_witness signature (two op place x y) u found value = found
  no_witness signature (literal name labels xs) u found value = found

  no_only : (signature : PlainSignature) (x : X) (u : LabelTree) → IsAppliedToEach items trees (HasNotOneOutput items) signature x → IsValue items trees signature x u → ⊥
  no_only signature (named n) u each value = each
  no_only signature (one op place x) u each value = each
  no_only signature (two Apply place f x) u each value = by (each.1 value.0 value.1)
    where
      by : HasNotOneOutput items f value.0 → ⊥
      by (inl no_output) = no_output u value.2.is
      by (inr (v, w, outputs)) = before_none v w outputs.2 (value.2.only v outputs.0 ∙ sym (value.2.only w outputs.1))
  no_only signature (two Intersect place x y) u each value = each
  no_only signature (two Union place x y) u each value = each
  no_only signature (two Difference place x y) u each value = each
  no_only signature (two PreImage place x y) u each value = each
  no_only signature (two Compose place x y) u each value = each
  no_only signature (two Restrict place x y) u each value = each
  no_only signature (two RestrictOut place x y) u each value = each
  no_only signature (literal name labels xs) u each value = each

no_composition : (items : List Item) (body : Body) → IsComposable items body → (x y : X) → IsComposedInItem items x y body → ¬ (IsPlain items x) → ¬ (IsLinear items y) → ⊥
no_composition items body composable x y composed not_plain not_linear = elim (composable x y composed) [ inl plain ↦ not_plain plain | inr linear ↦ not_linear linear ]

pub lines_owe_nothing : LinesOweNothing
lines_owe_nothing = record {
  composition = λ items trees item o is owed. no_composition items item.body is.composable owed.0 owed.1 owed.2 owed.3 owed.4;
  witness = λ items trees item o is owed. in_item items trees (Finds (λ y. (t : LabelTree) → ¬ (IsTreeOf items y t))) (no_witness items trees) item.place.line item.body o is.is owed;
  count = λ items trees item o is owed. in_item items trees (IsAppliedToEach items trees (HasNotOneOutput items)) (no_only items trees) item.place.line item.body o is.is owed;
}

-- What is answered of trees of an automaton says of the trees of its expression.
use Rattle.std.proofs.Common.{◌≡◌, ◌↔◌, ◌≤◌, ℕ, Bool, true, List, Some, sym, subst, ◌∙◌, arith}
use Rattle.model_tree.specs.Limits.{most_classes}
use Rattle.std.proofs.lemmas.Bool.{and_parts}
use Rattle.model_tree.specs.Tree.{LabelTree, Tree, node, Trees, no_trees, tree, relabel, relabel_all, EveryLabel, EveryLabelOfAll}
use Rattle.model_tree.specs.Signature.{Sort, HasSorts, HasType, EachHasType, PlainSignature, sorts_of}
use Rattle.model_tree.specs.Kept.{is_kept, are_kept, is_kept_label}
use Rattle.fast_tree.specs.Entries.{label_meaning}
use Rattle.fast_tree.specs.declared.label.Label.{Label}
use Rattle.model_grammar.specs.Syntax.{X, Item}
use Rattle.model_meaning.specs.Meaning.{IsInLanguage, IsTreeOf, input_type, signature_named}
use Rattle.model_sta.specs.Sets.{Fits}
use Rattle.model_layers.specs.Carries.{IsTyped}
use Rattle.sta_core.specs.declared.Lang.{Lang}
use Rattle.sta_ops.specs.Asked.{IsAskedTree}
use Rattle.sta_ops.specs.Empty.{IsEmptyAnswer}
use Rattle.sta_ops.specs.declared.emptiness.Found.{Found}
use Rattle.sta_ops.specs.declared.emptiness.Found.TheVariants.{Absent, Shown, TooBig}
use Rattle.record_label.specs.Meaning.{row_meaning}
use Rattle.record_label.specs.Rows.{RowAtom, KeepsSorts}
use Rattle.label_core.specs.Meaning.{KeepsValue}
use Rattle.fast_eval.specs.Built.{IsBuiltOf}
use Rattle.fast_eval.specs.Witnesses.{IsWitnessOf}
use Rattle.fast_eval.proofs.Answered.{accepts, typed_by, type_by}
use Rattle.fast_eval.proofs.Typed.{fits_from_type, type_from_fits, fits_if_kept, kept_if_fits}

module _ (items : List Item) (type : List ℕ) (sorts : List Sort) (labels : sorts ≡ sorts_of (signature_named items (Some type))) (x : X) (a : Lang RowAtom) (built : IsBuiltOf items x type a) where
  abbrev IsAsked : LabelTree → Type 0
  IsAsked = IsAskedTree a.sta.ranks (HasSorts sorts) (KeepsSorts sorts) (accepts items type x a built)

  typed_of : (t : LabelTree) → HasType (input_type items x) t → IsTyped items type t
  typed_of t h = type_by items type x a built t _ built.carries.is_on.1 h

  asked : (t : LabelTree) → IsTreeOf items x t → IsAsked t
  asked t h =
      let typed = typed_of t h.typed in
      let own = fits_from_type (signature_named items (Some type)) t typed in
      record {
        fits = subst (λ s. Fits a.sta.ranks (HasSorts s) t) (sym labels) (subst (λ rs. Fits rs (HasSorts (sorts_of (signature_named items (Some type)))) t) (sym built.ranks) own);
        accepted = (built.carries.means t typed).1 h.inside;
      }

  tree_of : (t : LabelTree) → Fits a.sta.ranks (HasSorts sorts) t → accepts items type x a built t ≡ true → IsTreeOf items x t
  tree_of t fits own =
      let typed = type_from_fits (signature_named items (Some type)) t (subst (λ rs. Fits rs (HasSorts (sorts_of (signature_named items (Some type)))) t) built.ranks (subst (λ s. Fits a.sta.ranks (HasSorts s) t) labels fits)) in
      record { typed = typed_by items type x a built t typed _ built.carries.is_on.1; inside = (built.carries.means t typed).0 own }

  pub found_witness : (most : ℕ) → most ≤ most_classes → (f : Found Label) → IsEmptyAnswer (row_meaning sorts) a.sta a.state most f → IsWitnessOf items x f
  found_witness most low Absent none = λ t h. none t (asked t h)
  found_witness most low (Shown u) least =
      let t = relabel label_meaning u in (
        record { is = tree_of t (fits_if_kept a.sta.ranks sorts t least.fits) least.accepted; least = λ w h. least.least w (asked w h) },
        record { kept = kept_if_fits a.sta.ranks sorts t least.fits; small = least.small; shallow = omega (arith, least.shallow, low) },
      )
  found_witness most low TooBig big = record {
    tree = big.tree;
    right = tree_of big.tree big.right.fits big.right.accepted;
    large = λ t h. big.big t (asked t h);
  }

  -- acceptance is membership
  pub inside_where_accepted : (t : LabelTree) → HasType (input_type items x) t → (b : Bool) → b ≡ accepts items type x a built t → (b ≡ true) ↔ IsInLanguage items x t
  inside_where_accepted t h b e =
      let means = built.carries.means t (typed_of t h) in
      (λ own. means.0 (sym e ∙ own), λ inside. e ∙ means.1 inside)

-- the labels of a tree of the type that is kept are those that the theory keeps
module _ (s : PlainSignature) where
  mutual
    pub keeps_typed : (t : Tree Label) → HasType s (relabel label_meaning t) → is_kept (relabel label_meaning t) ≡ true → EveryLabel (KeepsValue (row_meaning (sorts_of s))) t
    keeps_typed (node c l ts) typed kept =
        let both = and_parts (is_kept_label (label_meaning l)) (are_kept (relabel_all label_meaning ts)) kept in
        ((typed.2, both.0), keeps_all ts typed.3 both.1)

    keeps_all : (ts : Trees Label) → EachHasType s (relabel_all label_meaning ts) → are_kept (relabel_all label_meaning ts) ≡ true → EveryLabelOfAll (KeepsValue (row_meaning (sorts_of s))) ts
    keeps_all no_trees typed kept = tt
    keeps_all (tree t ts) typed kept =
        let both = and_parts (is_kept (relabel label_meaning t)) (are_kept (relabel_all label_meaning ts)) kept in
        (keeps_typed t typed.0 both.0, keeps_all ts typed.1 both.1)

module _ (items : List Item) (type : List ℕ) (sorts : List Sort) (labels : sorts ≡ sorts_of (signature_named items (Some type))) (x : X) (a : Lang RowAtom) (built : IsBuiltOf items x type a) where
  pub kept_labels : (t : Tree Label) → HasType (input_type items x) (relabel label_meaning t) → is_kept (relabel label_meaning t) ≡ true → EveryLabel (KeepsValue (row_meaning sorts)) t
  kept_labels t typed kept =
      subst (λ s. EveryLabel (KeepsValue (row_meaning s)) t) (sym labels)
      (keeps_typed (signature_named items (Some type)) t (type_by items type x a built (relabel label_meaning t) _ built.carries.is_on.1 typed) kept)

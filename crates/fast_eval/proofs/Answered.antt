-- What is answered of trees says of a statement.
use Rattle.std.proofs.Common.{◌≡◌, ◌↔◌, ◌≤◌, inl, inr, ℕ, Bool, true, false, not, ◌&&◌, List, Option, Some, refl, sym, ap₂, subst, ◌∙◌, arith}
use Rattle.model_tree.specs.Limits.{most_classes}
use Rattle.model_tree.specs.Tree.{LabelTree, relabel}
use Rattle.model_tree.specs.Signature.{Sort, HasSorts, HasType, ranks_of, sorts_of}
use Rattle.fast_tree.specs.Entries.{label_meaning}
use Rattle.fast_tree.specs.declared.label.Label.{Label}
use Rattle.fast_fault.specs.declared.place.Pos.{Pos}
use Rattle.model_grammar.specs.declared.Op2.TheVariants.{Intersect, Difference}
use Rattle.model_grammar.specs.Syntax.{X, two, Claim, equal, empty, Item}
use Rattle.model_meaning.specs.Meaning.{IsInLanguage, signature_named}
use Rattle.model_meaning.specs.Truth.{ExactlyOne, IsAmong, IsTrue, Shows}
use Rattle.model_sta.specs.Automaton.{is_accepted}
use Rattle.model_sta.specs.Sets.{Fits}
use Rattle.model_run.specs.Parts.{IsOn}
use Rattle.model_layers.specs.Carries.{IsTyped}
use Rattle.model_layers.proofs.Types.{intersection_on, difference_on}
use Rattle.sta_core.specs.Sta.{automaton_of}
use Rattle.sta_core.specs.declared.Lang.{Lang}
use Rattle.sta_ops.specs.Asked.{differ, IsAskedTree, IsAnswer}
use Rattle.sta_ops.specs.declared.emptiness.Wanted.{Wanted}
use Rattle.sta_ops.specs.declared.emptiness.Wanted.TheVariants.{One, First, Both}
use Rattle.sta_ops.specs.Empty.{in_wanted}
use Rattle.sta_ops.specs.declared.emptiness.Found.{Found}
use Rattle.sta_ops.specs.declared.emptiness.Found.TheVariants.{Absent, Shown, TooBig}
use Rattle.record_label.specs.Meaning.{row_meaning}
use Rattle.record_label.specs.Rows.{RowAtom, row_holds, KeepsSorts}
use Rattle.fast_eval.specs.Built.{IsBuiltOf}
use Rattle.fast_eval.specs.Found.{IsFoundOf, wanted_claim}
use Rattle.fast_eval.proofs.Typed.{fits_from_type, type_from_fits, fits_if_kept, kept_if_fits}

no_truth : (b : Bool) → b ≡ true → b ≡ false → ⊥
no_truth b passed failed = let bad : true ≡ false = sym passed ∙ failed in cc

-- Exactly the trees of the type that pass the test show that the statement is false, and where none passes, it is true.
pub record IsTestOf (items : List Item) (claim : Claim) (type : List ℕ) (member : LabelTree → Bool) : Type 0 where
  pub typed : (t : LabelTree) → Shows items claim t → IsTyped items type t
  pub passes : (t : LabelTree) → Shows items claim t → member t ≡ true
  pub shows : (t : LabelTree) → IsTyped items type t → member t ≡ true → Shows items claim t
  pub true_if : ((t : LabelTree) → IsTyped items type t → member t ≡ false) → IsTrue items claim

module _ (items : List Item) (claim : Claim) (type ranks : List ℕ) (sorts : List Sort) (ranks_are : ranks ≡ ranks_of (signature_named items (Some type))) (sorts_are : sorts ≡ sorts_of (signature_named items (Some type)))
    (member : LabelTree → Bool) (test : IsTestOf items claim type member) where
  fits_there : (t : LabelTree) → IsTyped items type t → Fits ranks (HasSorts sorts) t
  fits_there t h =
      let signature = signature_named items (Some type) in
      subst (λ s. Fits ranks (HasSorts s) t) (sym sorts_are) (subst (λ rs. Fits rs (HasSorts (sorts_of signature)) t) (sym ranks_are) (fits_from_type signature t h))

  typed_there : (t : LabelTree) → Fits ranks (HasSorts sorts) t → IsTyped items type t
  typed_there t h =
      let signature = signature_named items (Some type) in
      type_from_fits signature t (subst (λ rs. Fits rs (HasSorts (sorts_of signature)) t) ranks_are (subst (λ s. Fits ranks (HasSorts s) t) sorts_are h))

  abbrev IsAsked : LabelTree → Type 0
  IsAsked = IsAskedTree ranks (HasSorts sorts) (KeepsSorts sorts) member

  asked : (t : LabelTree) → Shows items claim t → IsAsked t
  asked t s = record { fits = fits_there t (test.typed t s); accepted = test.passes t s }

  none_passes : ((t : LabelTree) → ¬ (IsAsked t)) → (t : LabelTree) → IsTyped items type t → member t ≡ false
  none_passes none t h = by (member t) refl
    where
      by : (b : Bool) → member t ≡ b → b ≡ false
      by true is = absurd (none t (record { fits = fits_there t h; accepted = is }))
      by false is = refl

  pub found_of : (most : ℕ) → most ≤ most_classes → (f : Found Label) → IsAnswer (row_meaning sorts) ranks member most f → IsFoundOf items claim f
  found_of most low Absent none = test.true_if (none_passes none)
  found_of most low (Shown tree) least =
      let t = relabel label_meaning tree in (
        test.shows t (typed_there t (fits_if_kept ranks sorts t least.fits)) least.accepted,
        record { kept = kept_if_fits ranks sorts t least.fits; small = least.small; shallow = omega (arith, least.shallow, low) },
      )
  found_of most low TooBig big = record {
    tree = big.tree;
    right = test.shows big.tree (typed_there big.tree big.right.fits) big.right.accepted;
    large = λ t s. big.big t (asked t s);
  }

-- ---- statements of languages

-- an expression that is empty exactly where a test is passed by no tree of its type
empty_of : (items : List Item) (type : List ℕ) (x : X) → IsOn items x type → (member : LabelTree → Bool) → ((t : LabelTree) → HasType (signature_named items (Some type)) t → (member t ≡ true) ↔ IsInLanguage items x t) → IsTestOf items (empty x) type member
empty_of items type x on member means = record {
  typed = λ t s. subst (λ o. HasType (signature_named items o) t) on.1 s.0;
  passes = λ t s. (means t (subst (λ o. HasType (signature_named items o) t) on.1 s.0)).1 (subst (λ k. IsAmong items k x t) on.0 s.1);
  shows = λ t h own. (subst (λ o. HasType (signature_named items o) t) (sym on.1) h, subst (λ k. IsAmong items k x t) (sym on.0) ((means t h).0 own));
  true_if = λ none t h among.
      let typed = subst (λ o. HasType (signature_named items o) t) on.1 h in
      no_truth (member t) ((means t typed).1 (subst (λ k. IsAmong items k x t) on.0 among)) (none t typed);
}

module _ (items : List Item) (type : List ℕ) (x : X) (a : Lang RowAtom) (built : IsBuiltOf items x type a) where
  abbrev pub accepts : LabelTree → Bool
  accepts t = is_accepted (automaton_of row_holds a.sta) t a.state

  -- the tree has the type of the expression
  pub typed_by : (t : LabelTree) → HasType (signature_named items (Some type)) t → (o : Option (List ℕ)) → o ≡ Some type → HasType (signature_named items o) t
  typed_by t h o e = subst (λ o. HasType (signature_named items o) t) (sym e) h

  pub type_by : (t : LabelTree) (o : Option (List ℕ)) → o ≡ Some type → HasType (signature_named items o) t → HasType (signature_named items (Some type)) t
  type_by t o e h = subst (λ o. HasType (signature_named items o) t) e h

  pub empty_test : IsTestOf items (empty x) type accepts
  empty_test = empty_of items type x built.carries.is_on accepts built.carries.means

-- where tests tell two facts, they differ exactly where one of them alone holds
module _ {P Q : Type 0} where
  one_where_differ : (p q : Bool) → (p ≡ true) ↔ P → (q ≡ true) ↔ Q → differ p q ≡ true → ExactlyOne P Q
  one_where_differ true true f g e = cc
  one_where_differ true false f g e = inl (f.0 refl, λ h. no_truth false (g.1 h) refl)
  one_where_differ false true f g e = inr (g.0 refl, λ h. no_truth false (f.1 h) refl)
  one_where_differ false false f g e = cc

  differ_where_one : (p q : Bool) → (p ≡ true) ↔ P → (q ≡ true) ↔ Q → ExactlyOne P Q → differ p q ≡ true
  differ_where_one true true f g (inl one) = absurd (one.1 (g.0 refl))
  differ_where_one true true f g (inr one) = absurd (one.1 (f.0 refl))
  differ_where_one true false f g one = refl
  differ_where_one false true f g one = refl
  differ_where_one false false f g (inl one) = absurd (no_truth false (f.1 one.0) refl)
  differ_where_one false false f g (inr one) = absurd (no_truth false (g.1 one.0) refl)

  same_where_none : (p q : Bool) → (p ≡ true) ↔ P → (q ≡ true) ↔ Q → differ p q ≡ false → P ↔ Q
  same_where_none true true f g e = (λ h. g.0 refl, λ h. f.0 refl)
  same_where_none true false f g e = cc
  same_where_none false true f g e = cc
  same_where_none false false f g e = (λ h. absurd (no_truth false (f.1 h) refl), λ h. absurd (no_truth false (g.1 h) refl))

  alone_where_first : (p q : Bool) → (p ≡ true) ↔ P → (q ≡ true) ↔ Q → (p && not q) ≡ true → P × (¬ Q)
  alone_where_first true true f g e = cc
  alone_where_first true false f g e = (f.0 refl, λ h. no_truth false (g.1 h) refl)
  alone_where_first false q f g e = cc

  first_where_alone : (p q : Bool) → (p ≡ true) ↔ P → (q ≡ true) ↔ Q → P × (¬ Q) → (p && not q) ≡ true
  first_where_alone true true f g alone = absurd (alone.1 (g.0 refl))
  first_where_alone true false f g alone = refl
  first_where_alone false q f g alone = absurd (no_truth false (f.1 alone.0) refl)

  each_where_both : (p q : Bool) → (p ≡ true) ↔ P → (q ≡ true) ↔ Q → (p && q) ≡ true → P × Q
  each_where_both true q f g e = (f.0 refl, g.0 e)
  each_where_both false q f g e = cc

  both_where_each : (p q : Bool) → (p ≡ true) ↔ P → (q ≡ true) ↔ Q → P × Q → (p && q) ≡ true
  both_where_each p q f g each = ap₂ (λ a b. a && b) (f.1 each.0) (g.1 each.1)

module _ (items : List Item) (type : List ℕ) (x y : X) (a b : Lang RowAtom) (first : IsBuiltOf items x type a) (second : IsBuiltOf items y type b) (sorts : List Sort) where
  abbrev tests_one : LabelTree → Bool
  tests_one t = accepts items type x a first t

  abbrev tests_other : LabelTree → Bool
  tests_other t = accepts items type y b second t

  equal_test : IsTestOf items (equal x y) type (in_wanted (row_meaning sorts) One a b)
  equal_test =
      let on = first.carries.is_on in
      let one = first.carries.means in
      let other = second.carries.means in
      record {
        typed = λ t s. type_by items type x a first t _ on.1 s.0;
        passes = λ t s. (let h = type_by items type x a first t _ on.1 s.0 in differ_where_one (tests_one t) (tests_other t) (one t h) (other t h) s.1);
        shows = λ t h e. (typed_by items type x a first t h _ on.1, one_where_differ (tests_one t) (tests_other t) (one t h) (other t h) e);
        true_if = λ none t h.
            let typed = type_by items type x a first t _ on.1 h in
            same_where_none (tests_one t) (tests_other t) (one t typed) (other t typed) (none t typed);
      }

  within_test : (place : Pos) → IsTestOf items (empty (two Difference place x y)) type (in_wanted (row_meaning sorts) First a b)
  within_test place =
      empty_of items type (two Difference place x y) (difference_on items place x y type first.carries.is_on) (in_wanted (row_meaning sorts) First a b)
      (λ t h.
      let one = first.carries.means t h in
      let other = second.carries.means t h in
      (alone_where_first (tests_one t) (tests_other t) one other, first_where_alone (tests_one t) (tests_other t) one other))

  apart_test : (place : Pos) → IsTestOf items (empty (two Intersect place x y)) type (in_wanted (row_meaning sorts) Both a b)
  apart_test place =
      empty_of items type (two Intersect place x y) (intersection_on items place x y type first.carries.is_on) (in_wanted (row_meaning sorts) Both a b)
      (λ t h.
      let one = first.carries.means t h in
      let other = second.carries.means t h in
      (each_where_both (tests_one t) (tests_other t) one other, both_where_each (tests_one t) (tests_other t) one other))

  pub wanted_test : (wanted : Wanted) (place : Pos) → IsTestOf items (wanted_claim wanted place x y) type (in_wanted (row_meaning sorts) wanted a b)
  wanted_test One place = equal_test
  wanted_test First place = within_test place
  wanted_test Both place = apart_test place

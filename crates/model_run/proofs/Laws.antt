-- Items without causes, what shows that two transformations aren't composable, classes and verdicts.
use Rattle.std.proofs.Common.{◌≡◌, ◌↔◌, ℕ, Bool, true, false, not, List, inl, inr}
use Rattle.std.specs.List.{Contains}
use Rattle.model_tree.specs.Tree.{LabelTree}
use Rattle.model_tree.specs.Signature.{PlainSignature}
use Rattle.model_program.specs.Syntax.{TypeItem}
use Rattle.model_grammar.specs.Syntax.{X, Claim, equal, member, empty, type_check, LangItem, TransItem, Body, sorts, lang, trans, Item}
use Rattle.model_meaning.specs.Meaning.{IsTreeOf, input_type, output_type}
use Rattle.model_meaning.specs.Values.{Printed, IsValue}
use Rattle.model_meaning.specs.Truth.{Shows}
use Rattle.model_meaning.proofs.Laws.{shown_is_false}
use Rattle.model_meaning.proofs.Members.{none_of}
use Rattle.model_run.specs.Parts.{LanguagePart, LanguageParts, no_parts, and_part, class, joined, IsInPart, IsInAllParts, IsInNoPart, IsInSomePart, ArePartsOf, no_more_parts, one_more_part, AreClassesOf, one_class, joined_classes, AreAllClasses, no_more_classes, one_more_class}
use Rattle.model_run.specs.Plain.{ReachesSome, at_name, at_opened, of_first, of_second, of_restricted, of_out_restricted}
use Rattle.model_run.specs.Items.{expressions_in, judged, tells_apart, TellsApart, by_expressions, IsComposedInItem, in_expression, OfItem, OfClaim, Finds, IsApplied}
use Rattle.model_run.specs.Printable.{IsPrintable}
use Rattle.model_run.specs.Causes.{HasFarOutput, HasNoOutput, HasTwoOutputs, HasLoad, AreAllLarge, IsLarge, Stop, more_classes, too_wide, form_number, label_number, not_composable, empty_language, no_output, two_outputs, too_much, too_large, HasCause}
use Rattle.model_run.specs.Outcomes.{IsShownWith}
use Rattle.model_run.specs.Laws.{AreQuiet, ShownAreNotComposable, IsUntold, ClassesAreUnions, IsOfLanguages, AreVerdictsRight}

-- ---- items without causes

no_split : ¬ (false ≡ true)
no_split e = cc

module _ (items : List Item) where
  -- the item has no expressions, no trees and no statement
  record SaysNothing (body : Body) : Type 1 where
    told : tells_apart body ≡ true → ⊥
    judges : (e : X) → Contains (judged items body) e → ⊥
    has : (e : X) → Contains (expressions_in body) e → ⊥
    finds : (P : PlainSignature → X → Type 0) → OfItem items P body → ⊥
    claims : (P : Claim → Type 0) → OfClaim P body → ⊥

  untold : (body : Body) → (tells_apart body ≡ true → ⊥) → TellsApart items body → ⊥
  untold body told (by_expressions _ is) = told is

  uncomposed : (body : Body) → ((e : X) → Contains (expressions_in body) e → ⊥) → (x y : X) → IsComposedInItem items x y body → ⊥
  uncomposed body has x y (in_expression _ e at is) = has e at

  module _ (limit : ℕ) (trees : List Printed) (body : Body) (nothing : SaysNothing body) where
    quiet : (stop : Stop) → ¬ (HasCause items limit trees body stop)
    quiet (more_classes n) cause = untold body nothing.told cause.1
    quiet (too_wide width) cause = untold body nothing.told cause.0
    quiet (form_number n) cause = nothing.judges cause.0 cause.1
    quiet (label_number n) cause = nothing.finds (IsApplied items trees (HasFarOutput items n)) cause
    quiet (not_composable c) cause = uncomposed body nothing.has cause.first cause.second cause.composed
    quiet empty_language cause = nothing.finds (Finds (λ x. (t : LabelTree) → ¬ (IsTreeOf items x t))) cause
    quiet (no_output signature u) cause = nothing.finds (IsApplied items trees (λ f s. (s ≡ u) × (signature ≡ input_type items f) × HasNoOutput items f u × IsPrintable u)) cause
    quiet (two_outputs signature u into v w) cause =
        nothing.finds (IsApplied items trees (λ f s. (s ≡ u) × (signature ≡ input_type items f) × (into ≡ output_type items f) × HasTwoOutputs items f u v w × IsPrintable u × IsPrintable v × IsPrintable w)) cause
    quiet (too_much load) cause = nothing.finds (IsApplied items trees (HasLoad items load)) cause
    quiet too_large (inl (inl cause)) = nothing.finds (Finds (λ x. AreAllLarge (IsTreeOf items x))) cause
    quiet too_large (inl (inr (inl cause))) = nothing.claims (λ claim. AreAllLarge (Shows items claim)) cause
    quiet too_large (inl (inr (inr cause))) = uncomposed body nothing.has cause.first cause.second cause.composed
    quiet too_large (inr cause) = nothing.finds (λ signature x. (t : LabelTree) × IsValue items trees signature x t × IsLarge t) cause

  of_type : (t : TypeItem) → SaysNothing (sorts t)
  of_type t = record { told = no_split; judges = λ e at. none_of e at; has = λ e at. none_of e at; finds = λ P some. some; claims = λ P some. some }

  of_language : (t : LangItem) → SaysNothing (lang t)
  of_language t = record { told = no_split; judges = λ e at. none_of e at; has = λ e at. none_of e at; finds = λ P some. some; claims = λ P some. some }

  of_transformation : (t : TransItem) → SaysNothing (trans t)
  of_transformation t = record { told = no_split; judges = λ e at. none_of e at; has = λ e at. none_of e at; finds = λ P some. some; claims = λ P some. some }

pub are_quiet : AreQuiet
are_quiet = record {
  types = λ items limit trees t. quiet items limit trees (sorts t) (of_type items t);
  languages = λ items limit trees t. quiet items limit trees (lang t) (of_language items t);
  transformations = λ items limit trees t. quiet items limit trees (trans t) (of_transformation items t);
}

-- ---- what is shown

-- what is reached is the name of some transformation
pub one_reached : (items : List Item) (P : List ℕ → Type 0) (e : X) → ReachesSome items P e → (q : List ℕ) × P q
one_reached items P e (at_name n q reached is) = (q, is)
one_reached items P e (at_opened n x opens some) = one_reached items P x some
one_reached items P e (of_first place x y some) = one_reached items P x some
one_reached items P e (of_second place x y some) = one_reached items P y some
one_reached items P e (of_restricted place x y some) = one_reached items P x some
one_reached items P e (of_out_restricted place x y some) = one_reached items P x some

pub reaches_also : (items : List Item) (P Q : List ℕ → Type 0) → ((q : List ℕ) → P q → Q q) → (e : X) → ReachesSome items P e → ReachesSome items Q e
reaches_also items P Q to e (at_name n q reached is) = at_name n q reached (to q is)
reaches_also items P Q to e (at_opened n x opens some) = at_opened n x opens (reaches_also items P Q to x some)
reaches_also items P Q to e (of_first place x y some) = of_first place x y (reaches_also items P Q to x some)
reaches_also items P Q to e (of_second place x y some) = of_second place x y (reaches_also items P Q to y some)
reaches_also items P Q to e (of_restricted place x y some) = of_restricted place x y (reaches_also items P Q to x some)
reaches_also items P Q to e (of_out_restricted place x y some) = of_out_restricted place x y (reaches_also items P Q to x some)

pub shown_are_not_composable : ShownAreNotComposable
shown_are_not_composable items limit trees body c shown = (
  shown.first,
  shown.second,
  shown.composed,
  λ plain. plain (reaches_also items _ _ (λ q is. (c.first, c.second, c.tree, is.1)) shown.first shown.meet),
  λ linear. linear (reaches_also items _ _ (λ q is. (c.copying, shown.copies.0, is.1)) shown.second shown.copies.1),
)

-- ---- classes

module _ (items : List Item) (type : List ℕ) (s t : LabelTree) where
  all_with : (es : List X) (ds : LanguageParts) → IsUntold items es type s t → ArePartsOf items es type ds → IsInAllParts items ds s → IsInAllParts items ds t
  all_with es ds same (no_more_parts _ _) all = tt
  all_with es ds same (one_more_part _ _ x d rest at is are) all = ((same x at d is).0 all.0, all_with es rest same are all.1)

  none_with : (es : List X) (ds : LanguageParts) → IsUntold items es type s t → ArePartsOf items es type ds → IsInNoPart items ds s → IsInNoPart items ds t
  none_with es ds same (no_more_parts _ _) none = tt
  none_with es ds same (one_more_part _ _ x d rest at is are) none = (λ inside. none.0 ((same x at d is).1 inside), none_with es rest same are none.1)

  some_with : (es : List X) (ds : LanguageParts) → IsUntold items es type s t → AreAllClasses items es type ds → IsInSomePart items ds s → IsInSomePart items ds t
  some_with es ds same (no_more_classes _ _) some = some
  some_with es ds same (one_more_class _ _ fs gs rest all none are) (inl inside) = inl (all_with es fs same all inside.0, none_with es gs same none inside.1)
  some_with es ds same (one_more_class _ _ fs gs rest all none are) (inr some) = inr (some_with es rest same are some)

  classes_with : (es : List X) (d : LanguagePart) → IsUntold items es type s t → AreClassesOf items es type d → IsInPart items d s → IsInPart items d t
  classes_with es d same (one_class _ _ ds fs all none) inside = (all_with es ds same all inside.0, none_with es fs same none inside.1)
  classes_with es d same (joined_classes _ _ ds are) some = some_with es ds same are some

pub classes_are_unions : ClassesAreUnions
classes_are_unions items es type d is s t same inside = classes_with items type s t es d same is inside

-- ---- verdicts

opposite : (a b : Bool) → a ≡ not b → ¬ (a ≡ b)
opposite true true e same = absurd (cc)
opposite true false e same = absurd (cc)
opposite false true e same = absurd (cc)
opposite false false e same = absurd (cc)

by_claim : (items : List Item) (trees : List Printed) (claim : Claim) (wanted passes : Bool) (t : LabelTree) → IsOfLanguages claim → IsShownWith items trees claim wanted passes t → (passes ≡ not wanted) × Shows items claim t
by_claim items trees (equal x y) wanted passes t is shown = shown
by_claim items trees (member x y) wanted passes t is shown = absurd is
by_claim items trees (empty x) wanted passes t is shown = shown
by_claim items trees (type_check x f y) wanted passes t is shown = shown

pub are_verdicts_right : AreVerdictsRight
are_verdicts_right = record {
  without = λ items trees line n a passes verdict. (verdict.1, verdict.2);
  with_tree = λ items trees line n a passes signature t is verdict.
      let shown = by_claim items trees a.claim a.wanted passes t is verdict.2 in
      (opposite passes a.wanted shown.0, shown_is_false items a.claim t shown.1);
}

-- What stops a run at an item or at a tree, and which items and trees have such a cause.
use Rattle.std.specs.Prelude.{◌≡◌, ◌⊎◌, ◌<◌, ℕ, ℤ, false, List, Some}
use Rattle.std.specs.List.{All, Contains}
use Rattle.std.specs.declared.cmp.Ordering.TheVariants.{Less}
use Rattle.model_tree.specs.Limits.{most_nodes, greatest_depth}
use Rattle.model_tree.specs.Tree.{LabelTree, node_count, depth}
use Rattle.model_tree.specs.Signature.{PlainSignature}
use Rattle.model_grammar.specs.Syntax.{X, OutRule, Body, Item}
use Rattle.model_form.specs.Form.{Form}
use Rattle.model_form.specs.Ranges.{IsOutside}
use Rattle.model_sta.specs.EachTwo.{EachTwo}
use Rattle.model_chain.specs.Literals.{Compare}
use Rattle.model_chain.specs.Chains.{Chain, Passes}
use Rattle.model_names.specs.Kinds.{type_of}
use Rattle.model_meaning.specs.Types.{input_of}
use Rattle.model_meaning.specs.Meaning.{IsRelated, IsTreeOf, input_type, output_type}
use Rattle.model_meaning.specs.Values.{Printed, IsValue}
use Rattle.model_meaning.specs.Truth.{Shows}
use Rattle.model_run.specs.Parts.{RelationPart, RelatesByPart, IsRelationPart, HasMoreTrees}
use Rattle.model_run.specs.Seen.{IsCompare, IsSameCompare, IsSameLiteral, HasFarLabel, IsFormOf}
use Rattle.model_run.specs.Plain.{ReachesSome, Meet, Copies, is_before}
use Rattle.model_run.specs.Items.{judged, TellsApart, IsComposedInItem, OfItem, OfClaim, Finds, IsApplied}
use Rattle.model_sta.specs.Loads.{Load, IsTooMuch, IsSubtree}
use Rattle.model_run.specs.Loads.{IsFarNumberOf}
use Rattle.model_run.specs.Printable.{IsPrintable}
use Rattle.model_run.specs.Order.{label_tree_cmp}

-- ---- what a refusal shows

-- The tree, to which two rules of a transformation apply, and a rule of another one that copies; rules are numbered from 0.
pub record Uncomposable : Type 0 where
  pub signature : PlainSignature
  pub tree : LabelTree
  pub name : List ℕ
  pub first : ℕ
  pub second : ℕ
  pub copier : List ℕ
  pub copying : ℕ

pub data Stop : Type 0 where
  -- more trees are told apart than the limit
  more_classes : ℕ → Stop
  -- a chain needs more bits
  too_wide : ℕ → Stop
  -- a number of a form is out of range
  form_number : ℤ → Stop
  -- a number of an output is out of range
  label_number : ℤ → Stop
  not_composable : Uncomposable → Stop
  empty_language : Stop
  -- an input without output, or with two
  no_output : PlainSignature → LabelTree → Stop
  two_outputs : PlainSignature → LabelTree → PlainSignature → LabelTree → LabelTree → Stop
  too_much : Load → Stop
  too_large : Stop

-- ---- the causes

-- A chain over comparisons of the expressions on one type, no literal twice, passes the width; where that is 64, some label agrees with no kept one on the guards.
pub record IsTooWide (items : List Item) (es : List X) (width : ℕ) : Type 0 where
  pub type : List ℕ
  pub chain : Chain
  pub over : All (λ l. (e : X) × Contains es e × (c : Compare) × IsCompare items e type c × IsSameCompare c l.compare) chain.literals
  pub once : EachTwo (λ l m. ¬ (IsSameLiteral l m)) chain.literals
  pub passes : Passes width chain
  pub far : width ≡ 64 → HasFarLabel items es type

-- there are right trees, and each of them has more nodes than a tree may have
pub record AreAllLarge (Right : LabelTree → Type 0) : Type 0 where
  pub tree : LabelTree
  pub right : Right tree
  pub large : (t : LabelTree) → Right t → most_nodes < node_count t

abbrev pub IsLarge : LabelTree → Type 0
IsLarge t = (most_nodes < node_count t) ⊎ (greatest_depth < depth t)

-- At a tree that is given to a transformation: an output has a number outside 64 bits; one of the relations of which the
-- transformation is made has too much at a part of the tree.
abbrev pub HasFarOutput : List Item → ℤ → X → LabelTree → Type 0
HasFarOutput items n f t = (u : LabelTree) × IsRelated items f t u × IsFarNumberOf n u

abbrev pub HasLoad : List Item → Load → X → LabelTree → Type 0
HasLoad items load f t =
    (from into : List ℕ) × (r : RelationPart) × (type_of items f ≡ Some from) × IsRelationPart items f from into r × (s : LabelTree) × IsSubtree s t × IsTooMuch load (RelatesByPart items r) s

-- the transformation and a rule of it that copies are of the second, and no rule of it that copies stands earlier in the text
abbrev pub IsFirstCopying : List Item → X → List ℕ → ℕ → Type 0
IsFirstCopying items y copier copying =
    (r : OutRule) × ReachesSome items (λ q. (q ≡ copier) × Copies items q copying r) y
    × ((i : ℕ) (s : OutRule) → ReachesSome items (λ q. Copies items q i s) y → is_before s.rule.ctor.place r.rule.ctor.place ≡ false)

-- Some composition in the item has a first in which two rules meet, and a second that copies.
pub record IsNotComposable (items : List Item) (body : Body) (c : Uncomposable) : Type 0 where
  pub first : X
  pub second : X
  pub composed : IsComposedInItem items first second body
  pub meet : ReachesSome items (λ q. (q ≡ c.name) × Meet items q c.first c.second c.tree) first
  pub copies : IsFirstCopying items second c.copier c.copying
  pub signature : c.signature ≡ input_of items c.name
  pub printable : IsPrintable c.tree

-- of such a composition the trees at which two rules meet are all large
pub record HasLargeMeetings (items : List Item) (body : Body) : Type 0 where
  pub first : X
  pub second : X
  pub composed : IsComposedInItem items first second body
  pub meet : AreAllLarge (λ t. ReachesSome items (λ q. (i j : ℕ) × Meet items q i j t) first)
  pub copies : ReachesSome items (λ q. (i : ℕ) × (r : OutRule) × Copies items q i r) second

-- A tree that must be found, to be a value or to show that a statement is false or that rules meet, is right and each right one is large.
abbrev pub IsFoundLarge : List Item → Body → Type 0
IsFoundLarge items body =
    OfItem items (Finds (λ x. AreAllLarge (IsTreeOf items x))) body
    ⊎ OfClaim (λ claim. AreAllLarge (Shows items claim)) body
    ⊎ HasLargeMeetings items body

-- an input without output that is shown, and one with two
abbrev pub HasNoOutput : List Item → X → LabelTree → Type 0
HasNoOutput items f t = (u : LabelTree) → ¬ (IsRelated items f t u)

abbrev pub HasTwoOutputs : List Item → X → LabelTree → LabelTree → LabelTree → Type 0
HasTwoOutputs items f t u w = IsRelated items f t u × IsRelated items f t w × (label_tree_cmp u w ≡ Less)

-- the item has the cause, where this is the limit of classes and these trees were printed before it; a tree that is shown is printable
abbrev pub HasCause : List Item → ℕ → List Printed → Body → Stop → Type 0
HasCause items limit trees body (more_classes n) = (n ≡ limit) × TellsApart items body × HasMoreTrees items (judged items body) limit
HasCause items limit trees body (too_wide width) = TellsApart items body × IsTooWide items (judged items body) width
HasCause items limit trees body (form_number n) = (e : X) × Contains (judged items body) e × (f : Form) × IsFormOf items e f × IsOutside f n
HasCause items limit trees body (label_number n) = OfItem items (IsApplied items trees (HasFarOutput items n)) body
HasCause items limit trees body (not_composable c) = IsNotComposable items body c
HasCause items limit trees body empty_language = OfItem items (Finds (λ x. (t : LabelTree) → ¬ (IsTreeOf items x t))) body
HasCause items limit trees body (no_output signature t) =
    OfItem items (IsApplied items trees (λ f s. (s ≡ t) × (signature ≡ input_type items f) × HasNoOutput items f t × IsPrintable t)) body
HasCause items limit trees body (two_outputs signature t into u w) =
    OfItem items (IsApplied items trees (λ f s. (s ≡ t) × (signature ≡ input_type items f) × (into ≡ output_type items f)
    × HasTwoOutputs items f t u w × IsPrintable t × IsPrintable u × IsPrintable w)) body
HasCause items limit trees body (too_much load) = OfItem items (IsApplied items trees (HasLoad items load)) body
HasCause items limit trees body too_large = IsFoundLarge items body ⊎ OfItem items (λ signature x. (t : LabelTree) × IsValue items trees signature x t × IsLarge t) body

-- the tree has the cause, where the transformation is asked for its outputs
abbrev pub TreeHasCause : List Item → X → LabelTree → Stop → Type 0
TreeHasCause items f t (label_number n) = HasFarOutput items n f t
TreeHasCause items f t (too_much load) = HasLoad items load f t
TreeHasCause items f t stop = ⊥

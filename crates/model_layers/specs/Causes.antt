-- What automata and transducers show of the expressions that they were built for: causes go up.
use Rattle.std.specs.Prelude.{◌≡◌, ℕ, List, [], ◌∷◌}
use Rattle.std.specs.List.{Contains}
use Rattle.model_tree.specs.Label.{Label}
use Rattle.model_tree.specs.Kept.{is_kept_label}
use Rattle.model_tree.specs.Tree.{LabelTree}
use Rattle.model_sta.specs.Automaton.{Rule, is_accepted}
use Rattle.model_sta.specs.Operations.{Auto, AgreeIn}
use Rattle.model_sta.specs.Told.{AreTold, AreToldByEither, AgreeInBoth, HasMoreApart, HasFar}
use Rattle.model_sta.specs.Contexts as contexts
use Rattle.model_sta.specs.Loads.{Load}
use Rattle.model_sttr.specs.Transducer.{Sttr, Trans}
use Rattle.model_sttr.specs.Guards.{AgreeOn}
use Rattle.model_sttr.specs.Loads.{GivesTooMuch}
use Rattle.model_grammar.specs.Syntax.{X, Item}
use Rattle.model_meaning.specs.Reached.{Opens}
use Rattle.model_program.specs.Syntax.{Name}
use Rattle.model_grammar.specs.Syntax.{named}
use Rattle.model_chain.specs.Literals.{Compare}
use Rattle.model_form.specs.Form.{Form}
use Rattle.model_run.specs.Parts.{LanguagePart, RelationPart, operands, IsPart, IsRelationPart, HasMoreTrees}
use Rattle.model_run.specs.Seen.{LabelList, Guard, IsLabelList, IsGuard, IsCompare, IsFormOf, IsLabelOf, HasFarLabel}
use Rattle.model_run.specs.Causes.{IsTooWide, HasLoad}
use Rattle.model_run.specs.Counts.{IsCount}
use Rattle.model_layers.specs.Carries.{IsTyped, AreParts, Carries, CarriesTrans}
use Rattle.model_layers.specs.Seen.{IsSeen, IsSeenTrans}

-- ---- of one automaton, or of two together

-- Trees that states tell apart are told apart by the expressions.
pub record TreesGoUp (items : List Item) (type : List ℕ) (most : ℕ) : Type 0 where
  pub of_one : (e : X) (rules : List (List (Rule Label))) → AreParts items e type rules → HasMoreApart (IsTyped items type) (AreTold rules) most → HasMoreTrees items (e ∷ []) most
  pub of_two : (x y : X) (first second : List (List (Rule Label))) → AreParts items x type first → AreParts items y type second
      → HasMoreApart (IsTyped items type) (AreToldByEither first second) most → HasMoreTrees items (x ∷ y ∷ []) most

-- A label that agrees with no kept one on the guards agrees with none on those of the expressions.
pub record FarLabelsGoUp (items : List Item) (type : List ℕ) : Type 0 where
  pub of_one : (e : X) (rules : List (List (Rule Label))) → IsSeen items e type rules → HasFar (IsLabelOf items type) is_kept_label (AgreeIn rules) → HasFarLabel items (e ∷ []) type
  pub of_two : (x y : X) (first second : List (List (Rule Label))) → IsSeen items x type first → IsSeen items y type second
      → HasFar (IsLabelOf items type) is_kept_label (AgreeInBoth first second) → HasFarLabel items (x ∷ y ∷ []) type
  pub of_transducer : (e : X) (into : List ℕ) (f : Sttr Label) → IsSeenTrans items e type into f → HasFar (IsLabelOf items type) is_kept_label (AgreeOn f) → HasFarLabel items (e ∷ []) type

-- Too much of a state at a tree in a typed one is too much of a relation of which the expression is made.
abbrev pub LoadsGoUp : Type 0
LoadsGoUp =
    (items : List Item) (e : X) (from into : List ℕ) (f : Trans Label) (load : Load) (t : LabelTree) → CarriesTrans items e from into f → IsTyped items from t → GivesTooMuch f.sttr load t → HasLoad items load e t

-- How many trees contexts tell apart for the automaton is how many they do for the expression.
abbrev pub CountsGoUp : Type 0
CountsGoUp =
    (items : List Item) (e : X) (type : List ℕ) (a : Auto Label) (n : ℕ) → Carries items e type a
    → contexts.IsCount (IsTyped items type) (λ s t. ¬ (is_accepted a.rules s a.start ≡ is_accepted a.rules t a.start)) n → IsCount items e n

-- ---- from operands to whole expressions

-- what e is made of is among what f is made of
pub record IsAmong (items : List Item) (e f : X) : Type 0 where
  pub languages : (type : List ℕ) (d : LanguagePart) → IsPart items e type d → IsPart items f type d
  pub relations : (from into : List ℕ) (r : RelationPart) → IsRelationPart items e from into r → IsRelationPart items f from into r
  pub guards : (type : List ℕ) (g : Guard) → IsGuard items e type g → IsGuard items f type g
  pub lists : (from into : List ℕ) (m : LabelList) → IsLabelList items e from into m → IsLabelList items f from into m
  pub compares : (type : List ℕ) (c : Compare) → IsCompare items e type c → IsCompare items f type c
  pub forms : (g : Form) → IsFormOf items e g → IsFormOf items f g

-- of each operand, and of the expression of each definition that a name opens; and so on
pub record AreAmong (items : List Item) : Type 0 where
  pub operand : (e x : X) → Contains (operands e) x → IsAmong items x e
  pub opened : (n : Name) (x : X) → Opens items n.text x → IsAmong items x (named n)
  pub same : (e : X) → IsAmong items e e
  pub further : (x y z : X) → IsAmong items x y → IsAmong items y z → IsAmong items x z

-- a cause of some expressions is one of all that they are among
pub record CausesWiden (items : List Item) (es fs : List X) : Type 0 where
  pub trees : (most : ℕ) → HasMoreTrees items es most → HasMoreTrees items fs most
  pub far : (type : List ℕ) → HasFarLabel items es type → HasFarLabel items fs type
  pub wide : (width : ℕ) → IsTooWide items es width → IsTooWide items fs width

abbrev pub AreWidened : Type 0
AreWidened = (items : List Item) (es fs : List X) → ((e : X) → Contains es e → (f : X) × Contains fs f × IsAmong items e f) → CausesWiden items es fs

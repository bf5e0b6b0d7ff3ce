-- What the fields of a label are by the equalities among literals: each stands for a side.
use Rattle.std.specs.Prelude.{◌≡◌, ◌≢◌, ◌<◌, ℕ, Bool, true, not, ◌&&◌, List, map, length, slice_index_or, All, Contains, if◌then◌else◌}
use Rattle.std.specs.Option.{MatchOption}
use Rattle.std.specs.Prelude.{Option}
use Rattle.model_tree.specs.Label.{Label}
use Rattle.label_core.specs.declared.theory.Lit.{Lit}
use Rattle.flat_label.specs.declared.texts.TextSide.{TextSide}
use Rattle.flat_label.specs.declared.texts.TextSide.TheVariants.{Field, Constant}
use Rattle.flat_label.specs.declared.texts.TextAtom.{TextAtom}
use Rattle.flat_label.specs.Texts.{text_at, side_text, are_one_text, same_side, texts_label}

-- each literal that is an equality holds of the label
abbrev pub EqualitiesHold : List (Lit TextAtom) → Label → Type 0
EqualitiesHold literals l = All (λ x. x.sign ≡ true → are_one_text x.atom l ≡ true) literals

-- each field of the label is the text of its side
abbrev pub Follows : List TextSide → Label → Type 0
Follows sides l = (k : ℕ) (d : TextSide) → k < length sides → text_at k l ≡ side_text (slice_index_or sides k d) l

-- what a side stands for
abbrev pub stands_for : List TextSide → TextSide → TextSide
stands_for sides (Field k) = slice_index_or sides k (Field k)
stands_for sides (Constant t) = Constant t

-- a constant stands for itself, and some fields do
abbrev pub StandsForItself : List TextSide → TextSide → Type 0
StandsForItself sides (Field k) = (k < length sides) × ((d : TextSide) → slice_index_or sides k d ≡ Field k)
StandsForItself sides (Constant t) = Unit {0}

-- a side that is a constant is one of these
abbrev pub IsAmong : List (List ℕ) → TextSide → Type 0
IsAmong constants (Field k) = Unit {0}
IsAmong constants (Constant t) = Contains constants t

abbrev pub AreAmong : List (List ℕ) → TextAtom → Type 0
AreAmong constants a = IsAmong constants a.left × IsAmong constants a.right

-- the sides that say as much as the equalities: what each field stands for stands for itself
pub record AreSides (fields : ℕ) (literals : List (Lit TextAtom)) (sides : List TextSide) : Type 0 where
  pub many : length sides ≡ fields
  pub needed : (l : Label) → EqualitiesHold literals l → Follows sides l
  pub enough : (l : Label) → Follows sides l → EqualitiesHold literals l
  pub rooted : All (StandsForItself sides) sides
  pub among : (constants : List (List ℕ)) → All (λ x. AreAmong constants x.atom) literals → All (IsAmong constants) sides

-- the sides, or that no label has all the equalities
abbrev pub SidesOf : ℕ → List (Lit TextAtom) → Option (List TextSide) → Type 0
SidesOf fields literals found = MatchOption found ((l : Label) → ¬ (EqualitiesHold literals l)) (AreSides fields literals)

-- sides that say besides that two more are one text
pub record Join (left right : TextSide) (old new : List TextSide) : Type 0 where
  pub many : length new ≡ length old
  pub needed : (l : Label) → Follows old l → side_text left l ≡ side_text right l → Follows new l
  pub enough : (l : Label) → Follows new l → Follows old l × (side_text left l ≡ side_text right l)
  pub rooted : All (StandsForItself new) new
  pub among : (constants : List (List ℕ)) → IsAmong constants left → IsAmong constants right → All (IsAmong constants) old → All (IsAmong constants) new

-- the joined sides, or that no label that follows the sides has one text at both
abbrev pub JoinOf : TextSide → TextSide → List TextSide → Option (List TextSide) → Type 0
JoinOf left right old found = MatchOption found ((l : Label) → Follows old l → side_text left l ≢ side_text right l) (Join left right old)

-- each side that is `from` becomes `to`
abbrev pub replaced : TextSide → TextSide → List TextSide → List TextSide
replaced from to sides = map (λ s. if same_side s from then to else s) sides

-- whether a literal denies the equality of sides that stand for one
abbrev pub is_refused : List TextSide → Lit TextAtom → Bool
is_refused sides x = not x.sign && same_side (stands_for sides x.atom.left) (stands_for sides x.atom.right)

-- texts of fields that follow the sides, and differ wherever the sides leave it open
pub record AreValues (sides : List TextSide) (constants : List (List ℕ)) (texts : List (List ℕ)) : Type 0 where
  pub many : length texts ≡ length sides
  pub follow : Follows sides (texts_label texts)
  pub apart : (x y : TextSide) → StandsForItself sides x → StandsForItself sides y → IsAmong constants x → IsAmong constants y → x ≢ y → side_text x (texts_label texts) ≢ side_text y (texts_label texts)

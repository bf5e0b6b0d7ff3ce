-- What is known of a constructor's rules: which of them classes meet, and labels that tell guards apart.
use Rattle.std.specs.Prelude.{ℕ, ◌≡◌, ◌<◌, ◌⊎◌, Bool, List, [], ◌∷◌, ◌++◌, map, get_or, length, All, Contains, Vec}
use Rattle.model_tree.specs.Label.{Label}
use Rattle.model_sta.specs.Sets.{Row}
use Rattle.label_core.specs.Meaning.{Meaning}
use Rattle.label_split.specs.declared.rows.SignRow.{SignRow}
use Rattle.sta_core.specs.Machine.{plain_rule}
use Rattle.sta_classes.specs.Applying.{meets_at, truth_at}
use Rattle.sta_classes.specs.Bits.{both}
use Rattle.sta_classes.specs.Rows.{lists_of}
use Rattle.sta_classes.specs.declared.rules.Owned.{Owned}
use Rattle.sta_classes.specs.declared.rules.Rules.{Rules}
use Rattle.sta_classes.specs.declared.splits.Splits.{Splits}
use Rattle.sta_classes.specs.declared.splits.Told.{Told}

module _ {A : Type 0} (list : List (Owned A)) (places : ℕ) where
  -- for each place, the rules whose demands the row meets there
  pub record IsMetBy (q : Row) (rows : List Row) : Type 0 where
    pub many : length rows ≡ places
    pub each : (j : ℕ) → j < places → get_or rows j [] ≡ map (λ x. meets_at j q (plain_rule x.rule.now)) list

  -- the same for each class
  pub record AreMet {G : Type 0} (classes : List Row) (met : List (Vec Row G)) : Type 0 where
    pub many : length met ≡ length classes
    pub each : (k : ℕ) → k < length classes → IsMetBy (get_or classes k []) (get_or (lists_of met) k [])

  -- the same with one more class of this set: labels are told as they were
  pub record IsNextSplit {V : Type 0} (q : Row) (old new : Splits V) : Type 0 where
    pub met : (rows : List Row) → AreMet rows old.met.items → AreMet (rows ++ q ∷ []) new.met.items
    pub sets_are : new.sets ≡ old.sets
    pub told_are : new.told ≡ old.told

-- so many, and nothing is known yet
pub record AreFresh {V : Type 0} (n : ℕ) (splits : List (Splits V)) : Type 0 where
  pub many : length splits ≡ n
  pub none : (c : ℕ) (s : Splits V) → c < length splits → get_or splits c s ≡ s → (s.met.items ≡ []) × ((s.sets.keys ≡ []) × (s.told.items ≡ []))

-- by the rules of this constructor
abbrev pub IsNextOf : {A V : Type 0} → List ℕ → List (Rules A) → Row → ℕ → Splits V → Splits V → Type 0
IsNextOf {A} ranks own q c s s' = (R : Rules A) → get_or own c R ≡ R → IsNextSplit R.list.items (get_or ranks c 0) q s s'

-- the same for each constructor
pub record NextSplits {A V : Type 0} (ranks : List ℕ) (own : List (Rules A)) (q : Row) (old new : List (Splits V)) : Type 0 where
  pub many : length new ≡ length old
  pub each : (c : ℕ) (s s' : Splits V) → c < length old → get_or old c s ≡ s → get_or new c s' ≡ s' → IsNextOf ranks own q c s s'

module _ {A V W : Type 0} {label_of : V → Label} {holds : A → Label → Bool} (M : Meaning label_of holds W) (list : List (Owned A)) where
  -- some of the rows of signs are left, and there is a label of each of the others, with the rules whose guards hold there
  pub record AreTelling (rows left : List (SignRow V)) (told : List (Told V)) : Type 0 where
    pub kept : All (λ t. M.keeps (label_of t.value)) told
    pub held : All (λ t. t.holds ≡ map (truth_at holds (label_of t.value)) list) told
    pub each : (r : SignRow V) → Contains rows r → Contains left r ⊎ ((t : Told V) × Contains told t × (t.value ≡ r.value))

  -- kept labels with the rules whose guards hold there; at each label the rules with these numbers have the truth values
  -- that they have at one of them
  pub record AreTold (numbers : Row) (told : List (Told V)) : Type 0 where
    pub kept : All (λ t. M.keeps (label_of t.value)) told
    pub held : All (λ t. t.holds ≡ map (truth_at holds (label_of t.value)) list) told
    pub complete : (l : Label) → M.has l → (t : Told V) × Contains told t × (both numbers (map (truth_at holds l) list) ≡ both numbers (map (truth_at holds (label_of t.value)) list))

  -- the same for each set of rules
  pub record AreAllTold (s : Splits V) : Type 0 where
    pub many : length s.told.items ≡ length s.sets.keys
    pub each : (i : ℕ) → i < length s.sets.keys → AreTold (get_or s.sets.keys i []) (get_or (lists_of s.told.items) i [])

  -- under this number are labels that tell the guards of the rules with these numbers apart, the rest is as it was
  pub record IsUnder (numbers : Row) (old new : Splits V) (number : ℕ) : Type 0 where
    pub met : new.met ≡ old.met
    pub all : AreAllTold new
    pub low : number < length new.told.items
    pub told : AreTold numbers (get_or (lists_of new.told.items) number [])

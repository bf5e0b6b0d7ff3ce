-- What is known of a formula where only some atoms have a truth value. Atoms are numbers here.
use Rattle.std.specs.Prelude.{◌≡◌, ◌<◌, ◌≢◌, ℕ, Bool, true, false, not, Option, Some, None, List, length, IsSome, slice_index_or}
use Rattle.std.specs.List.{list_all, list_any}
use Rattle.model_tree.specs.Formula as plain
use Rattle.model_tree.specs.Formula.{yes, no, atom, negation, all_of, some_of, no_formulas, formula, formula_holds, EveryAtom}
use Rattle.label_core.specs.Formula.{plain_formula}
use Rattle.label_core.specs.declared.formula.Formula.{Formula}

abbrev pub denied : Option Bool → Option Bool
denied None = None
denied (Some b) = Some (not b)

-- what is left of it where another part isn't known
abbrev pub if_false : Option Bool → Option Bool
if_false None = None
if_false (Some true) = None
if_false (Some false) = Some false

abbrev pub if_true : Option Bool → Option Bool
if_true None = None
if_true (Some true) = Some true
if_true (Some false) = None

-- both, and one of the two
abbrev pub both : Option Bool → Option Bool → Option Bool
both None y = if_false y
both (Some true) y = y
both (Some false) y = Some false

abbrev pub either : Option Bool → Option Bool → Option Bool
either None y = if_true y
either (Some true) y = Some true
either (Some false) y = y

module _ {A : Type 0} (k : A → Option Bool) where
  abbrev mutual
    -- the truth value of a formula, where it follows from those that are known
    pub formula_known : plain.Formula A → Option Bool
    formula_known yes = Some true
    formula_known no = Some false
    formula_known (atom a) = k a
    formula_known (negation f) = denied (formula_known f)
    formula_known (all_of fs) = all_known fs
    formula_known (some_of fs) = some_known fs

    pub all_known : plain.Formulas A → Option Bool
    all_known no_formulas = Some true
    all_known (formula f fs) = both (formula_known f) (all_known fs)

    pub some_known : plain.Formulas A → Option Bool
    some_known no_formulas = Some false
    some_known (formula f fs) = either (formula_known f) (some_known fs)

-- what is left to say once some part isn't known
abbrev pub while_open_all : Bool → Option Bool → Option Bool
while_open_all true y = if_false y
while_open_all false y = y

abbrev pub while_open_some : Bool → Option Bool → Option Bool
while_open_some true y = if_true y
while_open_some false y = y

-- what is known of the atom with this number, and its truth value
abbrev pub known_at : List (Option Bool) → ℕ → Option Bool
known_at known i = slice_index_or known i None

abbrev pub truth_at : List Bool → ℕ → Bool
truth_at truths i = slice_index_or truths i false

-- the truth value agrees with what is known
abbrev pub Agrees : Option Bool → Bool → Type 0
Agrees None b = Unit {0}
Agrees (Some a) b = a ≡ b

abbrev pub Follows : List (Option Bool) → List Bool → Type 0
Follows known truths = (i : ℕ) → Agrees (known_at known i) (truth_at truths i)

-- each atom is one of the first so many
abbrev pub IsWithin : ℕ → Formula ℕ → Type 0
IsWithin n f = EveryAtom (λ i. i < n) (plain_formula f)

-- whether the formula holds where the atoms have these truth values
abbrev pub holds_at : List Bool → Formula ℕ → Bool
holds_at truths f = formula_holds (truth_at truths) (plain_formula f)

-- what is known of the formula
abbrev pub settled : List (Option Bool) → Formula ℕ → Option Bool
settled known f = formula_known (known_at known) (plain_formula f)

-- whether all formulas hold, or some
abbrev pub joined : Bool → List Bool → List (Formula ℕ) → Bool
joined true truths fs = list_all (holds_at truths) fs
joined false truths fs = list_any (holds_at truths) fs

-- of no atom less is known, and what is asked of truth values has what is newly known
pub record Forces (asked : List Bool → Type 0) (old new : List (Option Bool)) : Type 0 where
  pub many : length new ≡ length old
  pub grown : (i : ℕ) → IsSome (known_at old i) → known_at new i ≡ known_at old i
  pub follow : (truths : List Bool) → asked truths → Follows old truths → Follows new truths

-- each of these but the one with this number is known to have a truth value
pub record IsOnly (known : List (Option Bool)) (value : Bool) (fs : List (Formula ℕ)) (k : ℕ) : Type 0 where
  pub low : k < length fs
  pub others : (m : ℕ) (d : Formula ℕ) → m < length fs → m ≢ k → settled known (slice_index_or fs m d) ≡ Some value

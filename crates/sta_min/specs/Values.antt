-- Labels that tell the guards of a constructor apart.
use Rattle.std.specs.Prelude.{ℕ, ◌≡◌, ◌<◌, ◌↔◌, Bool, List, [], get_or, length, All, Contains}
use Rattle.model_tree.specs.Label.{Label}
use Rattle.model_tree.specs.Formula.{Formula, formula_holds}
use Rattle.label_core.specs.Meaning.{Meaning}
use Rattle.sta_core.specs.Machine.{PlainRule}

module _ {A : Type 0} where
  -- the rule has the constructor and the guard
  abbrev pub IsGuardAt : ℕ → PlainRule A → Formula A → Type 0
  IsGuardAt c r f = (r.constructor ≡ c) × (r.guard ≡ f)

  -- exactly the guards of the rules with the constructor
  abbrev pub AreGuardsAt : List (List (PlainRule A)) → ℕ → List (Formula A) → Type 0
  AreGuardsAt rules c guards = (f : Formula A) → Contains guards f ↔ ((rs : List (PlainRule A)) × Contains rules rs × (r : PlainRule A) × Contains rs r × IsGuardAt c r f)

  -- the guards of the constructor have the same truth values at both labels
  abbrev pub AgreeAt : (A → Label → Bool) → List (List (PlainRule A)) → ℕ → Label → Label → Type 0
  AgreeAt holds rules c l m = (rs : List (PlainRule A)) → Contains rules rs → (r : PlainRule A) → Contains rs r → r.constructor ≡ c → formula_holds (λ a. holds a l) r.guard ≡ formula_holds (λ a. holds a m) r.guard

module _ {A V W : Type 0} {label_of : V → Label} {holds : A → Label → Bool} (M : Meaning label_of holds W) (rules : List (List (PlainRule A))) where
  -- values of kept labels, and each label of the meaning agrees with one of them
  pub record TellApart (c : ℕ) (values : List V) : Type 0 where
    pub kept : All (λ v. M.keeps (label_of v)) values
    pub complete : (l : Label) → M.has l → (v : V) × Contains values v × AgreeAt holds rules c l (label_of v)

  -- the same for the first n constructors
  pub record TellAllApart (n : ℕ) (values : List (List V)) : Type 0 where
    pub many : length values ≡ n
    pub each : (c : ℕ) → c < n → TellApart c (get_or values c [])

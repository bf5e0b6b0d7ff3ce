-- Which classes nodes over given classes have, and over which labels.
use Rattle.std.specs.Prelude.{ℕ, ◌≡◌, ◌↔◌, Bool, IsTrue, List, Contains}
use Rattle.model_tree.specs.Label.{Label}
use Rattle.model_tree.specs.Formula.{Formula, formula_holds}
use Rattle.model_sta.specs.Sets.{step}
use Rattle.model_sta.specs.Least.{rows_at}
use Rattle.label_core.specs.Atoms.{EachHasEqual}
use Rattle.label_core.specs.Formula.{atoms_in}
use Rattle.sta_core.specs.Sta.{automaton_of}
use Rattle.sta_classes.specs.Guards.{all_guards, atoms_of_all}
use Rattle.sta_classes.specs.Plain.{PlainTable, class_row}
use Rattle.sta_min.specs.Steps.{IsClassOf}

-- exactly the classes that the nodes with labels of these values have
pub record AreTargets {A V : Type 0} (label_of : V → Label) (holds : A → Label → Bool) (t : PlainTable A V) (c : ℕ) (children : List ℕ) (values : List V) (targets : List ℕ) : Type 0 where
  pub sound : (k : ℕ) → Contains targets k → (v : V) × Contains values v × IsClassOf holds t c (label_of v) children k
  pub complete : (v : V) → Contains values v → (k : ℕ) × Contains targets k × IsClassOf holds t c (label_of v) children k

module _ {A V : Type 0} (eq : A → A → Bool) (holds : A → Label → Bool) (t : PlainTable A V) (c : ℕ) (children : List ℕ) where
  -- the formula holds of exactly the labels over which a node over these classes has the class, by atoms of the rules
  pub record IsGuardOf (k : ℕ) (f : Formula A) : Type 0 where
    pub holds_there : (l : Label) → IsTrue (formula_holds (λ a. holds a l) f) ↔ (step (automaton_of holds t.machine) c l (rows_at t.found children) ≡ class_row t k)
    pub atoms : EachHasEqual eq (atoms_in f) (atoms_of_all (all_guards t.machine.rules))

  -- or one of several classes
  pub record IsGuardOfAny (classes : List ℕ) (f : Formula A) : Type 0 where
    pub holds_there : (l : Label) → IsTrue (formula_holds (λ a. holds a l) f) ↔ ((k : ℕ) × Contains classes k × (step (automaton_of holds t.machine) c l (rows_at t.found children) ≡ class_row t k))
    pub atoms : EachHasEqual eq (atoms_in f) (atoms_of_all (all_guards t.machine.rules))

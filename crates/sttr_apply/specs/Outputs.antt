-- The outputs of a call on a tree, and why they aren't given.
use Rattle.std.specs.Prelude.{ℕ, ℤ, ◌≡◌, true, List, Option, Some, ⊤}
use Rattle.std.specs.declared.cmp.Ordering.{Ordering}
use Rattle.std.specs.declared.cmp.Ordering.TheVariants.{Less}
use Rattle.model_tree.specs.Label.{Label}
use Rattle.model_tree.specs.Tree.{Tree, relabel}
use Rattle.model_sta.specs.Loads.{IsTooMuch}
use Rattle.model_sta.specs.Loads as model
use Rattle.model_sta.specs.Sets.{Each}
use Rattle.model_sttr.specs.Cuts.{Cut, tree_of}
use Rattle.model_sttr.specs.Transducer.{run, Sttr, Gives}
use Rattle.apply_laws.specs.Lists.{EachTwo, HasOf}
use Rattle.apply_laws.specs.Listing.{all_kept, HasOutside}
use Rattle.apply_laws.specs.Meant.{GivesCut}
use Rattle.sttr_apply.specs.Labels.{keeps, Outside}
use Rattle.sttr_apply.specs.Plain.{cut_order}
use Rattle.sttr_apply.specs.Solve.{LeadsToTooMuch}
use Rattle.sttr_apply.specs.declared.stop.ApplyStop.{ApplyStop}
use Rattle.sttr_apply.specs.declared.stop.ApplyStop.TheVariants as stop

-- the number is told, or there is no memory
abbrev pub IsFarStop : Option ℤ → ApplyStop → Type 0
IsFarStop far (stop.Range n) = far ≡ Some n
IsFarStop far (stop.Load a) = ⊥
IsFarStop far stop.Memory = ⊤

module _ {V : Type 0} (label : V → Label) (order : V → V → Ordering) (f : Sttr Label) (q : ℕ) (t : Tree V) where
  -- cuts of all the outputs, in order and each once; all are kept, and no load passes
  pub record AreOutputs (xs : List (Cut V)) : Type 0 where
    pub cuts : Each (GivesCut label f (run q) t) xs
    pub given : Each (λ x. Gives f (run q) (relabel label t) (relabel label (tree_of x))) xs
    pub all : (u : Tree Label) → Gives f (run q) (relabel label t) u → HasOf (λ x. relabel label (tree_of x)) xs u
    pub ascending : EachTwo (λ x y. cut_order order x y ≡ Less) xs
    pub kept : Each (λ x. all_kept keeps (relabel label (tree_of x)) ≡ true) xs
    pub light : (load : model.Load) → ¬ IsTooMuch load (Gives f (run q)) (relabel label t)

module _ (f : Sttr Label) (q : ℕ) (t : Tree Label) where
  -- an output has the number and isn't kept, or the call leads to one that gives too much, or there is no memory
  abbrev pub IsRefused : ApplyStop → Type 0
  IsRefused (stop.Range n) = (u : Tree Label) × Gives f (run q) t u × HasOutside Outside u n
  IsRefused (stop.Load a) = LeadsToTooMuch f a q t
  IsRefused stop.Memory = ⊤

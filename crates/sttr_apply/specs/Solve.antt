-- Why what calls give isn't given, and lists of what they give.
use Rattle.std.specs.Prelude.{ℕ, ◌<◌, map, ⊤}
use Rattle.std.specs.declared.cmp.Ordering.{Ordering}
use Rattle.model_tree.specs.Label.{Label}
use Rattle.model_tree.specs.Tree.{Tree, Trees}
use Rattle.model_sta.specs.Loads.{IsTooMuch}
use Rattle.model_sttr.specs.Transducer.{run, Sttr, Gives}
use Rattle.apply_laws.specs.Found.{listed}
use Rattle.apply_laws.specs.Reached.{Leads, LeadsAt}
use Rattle.apply_laws.specs.Terms.{IsCallFound}
use Rattle.sttr_apply.specs.Labels.{keeps, Outside}
use Rattle.sttr_apply.specs.Plain.{load_of, out_cut}
use Rattle.sttr_apply.specs.declared.calls.Entry.{Entry}
use Rattle.sttr_apply.specs.declared.outs.Load.{Load}
use Rattle.sttr_apply.specs.declared.stop.ApplyStop.{ApplyStop}
use Rattle.sttr_apply.specs.declared.stop.ApplyStop.TheVariants as stop

module _ (f : Sttr Label) where
  -- the call of the state on the tree leads to one that gives too much
  abbrev pub LeadsToTooMuch : Load → ℕ → Tree Label → Type 0
  LeadsToTooMuch a q t = (r : ℕ) × (s : Tree Label) × Leads f q t r s × IsTooMuch (load_of a) (Gives f (run r)) s

  abbrev pub LeadsToTooMuchAt : Load → ℕ → ℕ → Trees Label → Type 0
  LeadsToTooMuchAt a q k ts = (r : ℕ) × (s : Tree Label) × LeadsAt f q k ts r s × IsTooMuch (load_of a) (Gives f (run r)) s

  -- one of the calls that are made so often stops in this way, or there is no memory
  abbrev pub IsStop : (ℕ → ℕ) → Tree Label → ApplyStop → Type 0
  IsStop n t (stop.Range x) = ⊥
  IsStop n t (stop.Load a) = (q : ℕ) × (0 < n q) × LeadsToTooMuch a q t
  IsStop n t stop.Memory = ⊤

  -- the same of calls on children
  abbrev pub IsStopBelow : (ℕ → ℕ → ℕ) → Trees Label → ApplyStop → Type 0
  IsStopBelow n ts (stop.Range x) = ⊥
  IsStopBelow n ts (stop.Load a) = (q : ℕ) × (k : ℕ) × (0 < n q k) × LeadsToTooMuchAt a q k ts
  IsStopBelow n ts stop.Memory = ⊤

  -- each entry is what is found of the call on the tree
  abbrev pub IsEntry : {V : Type 0} → (V → Label) → (V → V → Ordering) → Tree V → Entry V → Type 0
  IsEntry label order t e = IsCallFound label order keeps Outside f e.state t (listed (map out_cut e.listing.outs.items) e.listing.far)

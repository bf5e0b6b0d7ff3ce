-- What is found, as plain data.
use Rattle.std.specs.Prelude.{ℤ, map}
use Rattle.std.specs.declared.cmp.Ordering.{Ordering}
use Rattle.model_tree.specs.TreeOrder.{tree_cmp}
use Rattle.model_sta.specs.Loads as model
use Rattle.model_sttr.specs.Cuts.{Cut, Cuts, tree_of}
use Rattle.fast_cut.specs.Cuts.{plain_cut}
use Rattle.apply_laws.specs.Found.{too_much, listed}
use Rattle.apply_laws.specs.Found as laws
use Rattle.sttr_apply.specs.Cuts.{cuts_in}
use Rattle.sttr_apply.specs.declared.outs.Load.{Load}
use Rattle.sttr_apply.specs.declared.outs.Load.TheVariants.{Outputs, Nodes, Depth}
use Rattle.sttr_apply.specs.declared.outs.Out.{Out}
use Rattle.sttr_apply.specs.declared.outs.Row.{Row}
use Rattle.sttr_apply.specs.declared.outs.Found.{Found}
use Rattle.sttr_apply.specs.declared.outs.Found.TheVariants as found
use Rattle.sttr_apply.specs.declared.outs.FoundRows.{FoundRows}
use Rattle.sttr_apply.specs.declared.outs.FoundRows.TheVariants as rows

abbrev pub load_of : Load → model.Load
load_of Outputs = model.outputs
load_of Nodes = model.nodes
load_of Depth = model.depths

module _ {V : Type 0} where
  abbrev pub out_cut : Out V → Cut V
  out_cut o = plain_cut o.cut

  abbrev pub row_cuts : Row V → Cuts V
  row_cuts r = cuts_in (map plain_cut r.parts.items)

  abbrev pub cut_order : (V → V → Ordering) → Cut V → Cut V → Ordering
  cut_order cmp x y = tree_cmp cmp (tree_of x) (tree_of y)

  abbrev pub found_of : Found V → laws.Found (Cut V) ℤ
  found_of (found.TooMuch load) = too_much (load_of load)
  found_of (found.Listed x) = listed (map out_cut x.outs.items) x.far

  abbrev pub rows_found : FoundRows V → laws.Found (Cuts V) ℤ
  rows_found (rows.TooMuch load) = too_much (load_of load)
  rows_found (rows.Listed x) = listed (map row_cuts x.rows.items) x.far

-- Rows of parts, and their nodes.
use Rattle.std.specs.Prelude.{ℕ, ◌+◌, List, map}
use Rattle.model_sttr.specs.Cuts.{Cuts}
use Rattle.apply_laws.specs.Lists.{sum_of}
use Rattle.apply_laws.specs.Meant.{all_meant}
use Rattle.sttr_apply.specs.Plain.{row_cuts}
use Rattle.sttr_apply.specs.declared.outs.Out.{Out}
use Rattle.sttr_apply.specs.declared.outs.Row.{Row}

module _ {V : Type 0} where
  -- the nodes of the rows that have the part before each of the parts
  abbrev pub row_nodes : Out V → List (Row V) → ℕ
  row_nodes x ys = sum_of (λ y. x.nodes + y.nodes) ys

  abbrev pub product_nodes : List (Out V) → List (Row V) → ℕ
  product_nodes xs ys = sum_of (λ x. row_nodes x ys) xs

  abbrev pub meant_rows : {L : Type 0} → (V → L) → List (Row V) → List (Cuts L)
  meant_rows label rows = map (all_meant label) (map row_cuts rows)

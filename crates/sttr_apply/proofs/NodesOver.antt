-- Nodes over rows.
use Rattle.std.proofs.Common.{ℕ, suc, ◌≡◌, ◌+◌, ◌<◌, inl, inr, Bool, List, [], ◌∷◌, ◌++◌, map, length, Option, Some, refl, sym, ap, subst, ◌∙◌, arith, append_assoc}
use Rattle.std.specs.Prelude.{ℤ}
use Rattle.std.proofs.lemmas.List.{map-append, length-map}
use Rattle.model_tree.specs.Limits.{most_nodes, greatest_depth}
use Rattle.model_tree.specs.Label.{Label}
use Rattle.model_tree.specs.Tree.{node_count_all, depth_all}
use Rattle.model_sttr.specs.Cuts.{Cut, keep, new, Cuts, trees_of_cuts}
use Rattle.apply_laws.specs.Lists.{OneOf, sum_of}
use Rattle.apply_laws.specs.Listing.{AreNodes, has_some, only_if}
use Rattle.apply_laws.specs.Found.{too_much, listed, IsNodeFound, IsFarNode}
use Rattle.apply_laws.proofs.Calls.{one_right}
use Rattle.sttr_apply.specs.Labels.{keeps, Outside}
use Rattle.sttr_apply.specs.Nodes.{IsRoomless}
use Rattle.sttr_apply.specs.Plain.{out_cut, row_cuts, load_of, rows_found}
use Rattle.sttr_apply.specs.declared.outs.Load.{Load}
use Rattle.sttr_apply.specs.declared.outs.Load.TheVariants.{Outputs, Nodes, Depth}
use Rattle.sttr_apply.specs.declared.outs.Out.{Out}
use Rattle.sttr_apply.specs.declared.outs.Row.{Row}
use Rattle.sttr_apply.specs.declared.outs.RowListing.{RowListing}
use Rattle.sttr_apply.specs.declared.outs.FoundRows.{FoundRows}
use Rattle.sttr_apply.specs.declared.outs.FoundRows.TheVariants.{Listed}
use Rattle.sttr_apply.proofs.Far.{outside_not_kept, far_node_if}
use Rattle.sttr_apply.proofs.Rows.{sum_append, sum_push, next_whole}

module _ {V L : Type 0} (label : V → L) (c : ℕ) (l : L) where
  are_push : (yss : List (Cuts V)) (zs : List (Cut V)) (ys : Cuts V) (v : V) → AreNodes label c l yss zs → l ≡ label v → AreNodes label c l (yss ++ ys ∷ []) (zs ++ new c v ys ∷ [])
  are_push [] [] ys v h e = (refl, e, refl, tt)
  are_push [] (z ∷ zs) ys v h e = absurd h
  are_push (x ∷ yss) [] ys v h e = absurd h
  are_push (x ∷ yss) (keep t ∷ zs) ys v h e = absurd h
  are_push (x ∷ yss) (new d w xs ∷ zs) ys v h e = (h.0, h.1, h.2, are_push yss zs ys v h.3 e)

  nodes_many : (yss : List (Cuts V)) (zs : List (Cut V)) → AreNodes label c l yss zs → length zs ≡ length yss
  nodes_many [] [] h = refl
  nodes_many [] (z ∷ zs) h = absurd h
  nodes_many (x ∷ yss) [] h = absurd h
  nodes_many (x ∷ yss) (keep t ∷ zs) h = absurd h
  nodes_many (x ∷ yss) (new d w xs ∷ zs) h = ap suc (nodes_many yss zs h.3)

  pub outs_many : (rows : List (Row V)) (outs : List (Out V)) → AreNodes label c l (map row_cuts rows) (map out_cut outs) → length outs ≡ length rows
  outs_many rows outs h = sym (length-map outs out_cut) ∙ (nodes_many (map row_cuts rows) (map out_cut outs) h ∙ length-map rows row_cuts)

  -- one more node
  pub node_more : (rows : List (Row V)) (row : Row V) (outs more : List (Out V)) (out : Out V) (v : V) → AreNodes label c l (map row_cuts rows) (map out_cut outs) → more ≡ outs ++ out ∷ [] → out_cut out ≡ new c v (row_cuts row) → label v ≡ l
      → AreNodes label c l (map row_cuts (rows ++ row ∷ [])) (map out_cut more)
  node_more rows row outs more out v h is e s =
      subst (λ yss. AreNodes label c l yss (map out_cut more)) (sym (map-append row_cuts rows (row ∷ [])))
      (subst (λ zs. AreNodes label c l (map row_cuts rows ++ row_cuts row ∷ []) zs) (sym (ap (map out_cut) is ∙ (map-append out_cut outs (out ∷ []) ∙ ap (λ z. map out_cut outs ++ z ∷ []) e)))
      (are_push (map row_cuts rows) (map out_cut outs) (row_cuts row) v h (sym s)))

module _ {V : Type 0} where
  row_sum : (rows : List (Row V)) → sum_of (λ y. y.nodes + 1) rows ≡ sum_of (λ ys. suc (node_count_all (trees_of_cuts ys))) (map row_cuts rows)
  row_sum [] = refl
  row_sum (y ∷ rows) = omega (arith, y.nodes_are, row_sum rows)

  -- a row for which there is no room, behind rows for which there is
  pub roomless : (label : V → Label) (c : ℕ) (l : Label) (far : Option ℤ) (left : ℕ) (before rest more last all : List (Row V)) (row : Row V) (load : Load) → before ++ (rest ++ last) ≡ all → rest ≡ row ∷ more → left + sum_of (λ y. y.nodes + 1) before ≡ most_nodes → IsRoomless left row load
      → IsNodeFound label keeps Outside c l (listed (map row_cuts all) far) (too_much (load_of load))
  roomless label c l far left before rest more last all row Outputs e is n h = absurd h
  roomless label c l far left before rest more last all row Nodes e is n h =
      let whole = ap (sum_of (λ y. y.nodes + 1)) (sym (next_whole before rest more row last all e is)) in
      omega (arith, whole, h, n, row_sum all, sum_append (λ y. y.nodes + 1) (before ++ row ∷ []) (more ++ last), sum_push (λ y. y.nodes + 1) before row)
  roomless label c l far left before rest more last all row Depth e is n h =
      subst (λ rows. OneOf (λ ys. greatest_depth < suc (depth_all (trees_of_cuts ys))) (map row_cuts rows)) (next_whole before rest more row last all e is)
      (subst (OneOf (λ ys. greatest_depth < suc (depth_all (trees_of_cuts ys)))) (sym (ap (map row_cuts) (append_assoc before (row ∷ []) (more ++ last)) ∙ map-append row_cuts before (row ∷ (more ++ last))))
      (one_right (λ ys. greatest_depth < suc (depth_all (trees_of_cuts ys))) (map row_cuts before) (row_cuts row ∷ map row_cuts (more ++ last)) (inl (omega (arith, h, row.levels_are)))))

-- where the label has a number outside
pub far_built : {V : Type 0} (label : V → Label) (c : ℕ) (l : Label) (rows : FoundRows V) (listing : RowListing V) (n : ℤ) (outs : List (Out V)) (s : Bool) (far : Option ℤ) → rows ≡ Listed listing → Outside l n → outs ≡ [] → s ≡ has_some (map row_cuts listing.rows.items) listing.far → far ≡ only_if s (Some n)
    → IsNodeFound label keeps Outside c l (rows_found rows) (listed (map out_cut outs) far)
far_built label c l rows listing n outs s far e o none some is =
    subst (λ r. IsNodeFound label keeps Outside c l (rows_found r) (listed (map out_cut outs) far)) (sym e)
    (inr (
      outside_not_kept l n o,
      ap (map out_cut) none,
      subst (IsFarNode label keeps Outside l (has_some (map row_cuts listing.rows.items) listing.far)) (sym (is ∙ ap (λ b. only_if b (Some n)) some)) (far_node_if label l n (has_some (map row_cuts listing.rows.items) listing.far) o),
    ))

-- What a transducer gives on a tree, said of the expression that it was built for.
use Rattle.std.proofs.Common.{◌≡◌, ◌≤◌, ◌<◌, ◌+◌, inl, inr, ⊎_elim, ℕ, suc, Bool, true, false, ◌&&◌, List, [], ◌∷◌, map, length, Contains, get_or, Some, Result, Ok, Err, IfErr, refl, sym, ap, ap₂, subst, ◌∙◌, arith}
use Rattle.std.specs.Prelude.{ℤ}
use Rattle.std.specs.List.{All, sum_by}
use Rattle.std.proofs.lemmas.List.Elements.{All-nil, All-cons, All-weaker, All-contains}
use Rattle.std.proofs.lemmas.Bool.{cases_lt}
use Rattle.std.proofs.lemmas.List.Sums.{sum_by-cons}
use Rattle.std.specs.declared.cmp.Ordering.{Ordering}
use Rattle.std.specs.declared.cmp.Ordering.TheVariants.{Less}
use Rattle.std.specs.Ordering.{ordering_then, nat_cmp}
use Rattle.std.specs.Cmp.Lexicographic.{slice_cmp}
use Rattle.model_tree.specs.Limits.{most_nodes, greatest_depth, most_outputs}
use Rattle.model_tree.specs.Label.{whole, row, pair}
use Rattle.model_tree.specs.Label as model
use Rattle.model_tree.specs.Tree.{Tree, node, Trees, no_trees, tree, relabel, relabel_all, LabelTree, node_count, depth, EveryLabel}
use Rattle.model_tree.specs.TreeOrder.{tree_cmp, trees_cmp}
use Rattle.model_tree.specs.Range.{IsLabelNumber}
use Rattle.model_tree.specs.Kept.{is_kept_field, is_kept_label, is_kept, are_kept}
use Rattle.model_tree.specs.Signature.{Sort, HasType, sorts_of}
use Rattle.model_sta.specs.EachTwo.{AreDifferent}
use Rattle.model_sta.specs.EachTwo as plain
use Rattle.model_sta.specs.Loads.{IsTooMuch, IsSubtree, IsSubtreeOfOne}
use Rattle.model_sta.specs.Loads as loads
use Rattle.model_sta.specs.Sets.{Each}
use Rattle.model_sttr.specs.Transducer.{run, Gives}
use Rattle.model_sttr.specs.Cuts.{tree_of}
use Rattle.model_run.specs.Order.{field_cmp, label_cmp, label_tree_cmp}
use Rattle.model_run.specs.Loads.{IsNumberOf, IsFarNumberOf}
use Rattle.model_run.proofs.Ordered.{before_none}
use Rattle.label_core.specs.Maps.{HasNumber}
use Rattle.fast_tree.specs.Entries.{entries_of, field_of, label_meaning}
use Rattle.fast_tree.specs.declared.label.Label.{Label}
use Rattle.fast_tree.specs.declared.label.Value.{Value}
use Rattle.fast_tree.specs.declared.label.Value.TheVariants as v
use Rattle.fast_cut.specs.Cuts.{plain_cut}
use Rattle.fast_cut.specs.declared.Cut.{Cut}
use Rattle.apply_laws.specs.Lists.{EachTwo, HasOf}
use Rattle.apply_laws.specs.Listing.{all_kept, each_kept, HasOutside, SomeHasOutside}
use Rattle.apply_laws.proofs.Leads.{leads_too_much}
use Rattle.record_label.specs.Equal.{IsValueOrder}
use Rattle.sttr_apply.specs.Labels.{keeps, Outside}
use Rattle.sttr_apply.specs.Outputs.{AreOutputs, IsRefused}
use Rattle.sttr_apply.specs.Plain.{load_of}
use Rattle.sttr_apply.specs.declared.stop.ApplyStop.{ApplyStop}
use Rattle.sttr_apply.specs.declared.stop.ApplyStop.TheVariants as stop
use Rattle.sttr_apply.proofs.Far.{fits_kept}
use Rattle.model_grammar.specs.Syntax.{X, Item}
use Rattle.model_meaning.specs.Meaning.{IsRelated, input_type, output_type, signature_named}
use Rattle.model_layers.specs.Carries.{IsTyped}
use Rattle.model_layers.proofs.Loads.{loads_go_up}
use Rattle.sttr_core.specs.declared.sttr.Trans.{Trans}
use Rattle.record_label.specs.declared.maps.RowMap.{RowMap}
use Rattle.fast_eval.specs.Built.{trans_of, IsTransBuiltOf}
use Rattle.fast_eval.specs.Found.{IsInLimits}
use Rattle.label_core.specs.Meaning.{KeepsValue}
use Rattle.record_label.specs.Meaning.{row_meaning}
use Rattle.record_label.specs.Rows.{RowAtom}
use Rattle.fast_eval.proofs.Witnessed.{keeps_typed}
use Rattle.fast_eval.specs.Outputs.{cut_tree, by_outputs, AreOutputsOf, StopsOutputs}

-- ---- the order of values is that of what they mean

module _ (C : Value → Value → Ordering) (is : IsValueOrder C) where
  field_order : (x y : Value) → C x y ≡ field_cmp (field_of x) (field_of y)
  field_order (v.Int m) (v.Int n) = is.numbers m n
  field_order (v.Int m) (v.Bool b) = is.number_truth m b
  field_order (v.Int m) (v.Text t) = is.number_text m t
  field_order (v.Bool b) (v.Int n) = is.truth_number b n
  field_order (v.Bool a) (v.Bool b) = is.truths a b
  field_order (v.Bool b) (v.Text t) = is.truth_text b t
  field_order (v.Text t) (v.Int n) = is.text_number t n
  field_order (v.Text t) (v.Bool b) = is.text_truth t b
  field_order (v.Text s) (v.Text t) = is.texts s t

  entries_order : (xs ys : List Value) → slice_cmp C xs ys ≡ slice_cmp field_cmp (map field_of xs) (map field_of ys)
  entries_order [] [] = refl
  entries_order [] (y ∷ ys) = refl
  entries_order (x ∷ xs) [] = refl
  entries_order (x ∷ xs) (y ∷ ys) = ap₂ ordering_then (field_order x y) (entries_order xs ys)

  pub label_order : (l m : Label) → slice_cmp C (entries_of l) (entries_of m) ≡ label_cmp (label_meaning l) (label_meaning m)
  label_order l m = entries_order (entries_of l) (entries_of m)

abbrev IsMeantOrder : (Label → Label → Ordering) → Type 0
IsMeantOrder order = (l m : Label) → order l m ≡ label_cmp (label_meaning l) (label_meaning m)

module _ (order : Label → Label → Ordering) (same : IsMeantOrder order) where
  mutual
    tree_order : (t u : Tree Label) → tree_cmp order t u ≡ label_tree_cmp (relabel label_meaning t) (relabel label_meaning u)
    tree_order (node c l ts) (node d m us) = ap₂ ordering_then (ap (ordering_then (nat_cmp c d)) (same l m)) (trees_order ts us)

    trees_order : (ts us : Trees Label) → trees_cmp order ts us ≡ trees_cmp label_cmp (relabel_all label_meaning ts) (relabel_all label_meaning us)
    trees_order no_trees no_trees = refl
    trees_order no_trees (tree u us) = refl
    trees_order (tree t ts) no_trees = refl
    trees_order (tree t ts) (tree u us) = ap₂ ordering_then (tree_order t u) (trees_order ts us)

-- ---- labels that are kept, and numbers that aren't

mutual
  pub kept_as : (t : LabelTree) → all_kept keeps t ≡ is_kept t
  kept_as (node c l ts) = ap (λ b. is_kept_label l && b) (kept_as_all ts)

  kept_as_all : (ts : Trees model.Label) → each_kept keeps ts ≡ are_kept ts
  kept_as_all no_trees = refl
  kept_as_all (tree t ts) = ap₂ (λ a b. a && b) (kept_as t) (kept_as_all ts)

far_field : (n : ℤ) → (IsLabelNumber n → ⊥) → is_kept_field (whole n) ≡ false
far_field n out = pick (is_kept_field (whole n)) (λ e. out (fits_kept n e))
  where
    pick : (b : Bool) → (b ≡ true → ⊥) → b ≡ false
    pick true f = absurd (f refl)
    pick false f = refl

number_as : (l : model.Label) (n : ℤ) → HasNumber l n → IsNumberOf n l
number_as (row fields) n h = h
number_as (pair l m) n (inl h) = inl (number_as l n h)
number_as (pair l m) n (inr h) = inr (number_as m n h)

mutual
  far_number : (u : LabelTree) (n : ℤ) → HasOutside Outside u n → IsFarNumberOf n u
  far_number (node c l ts) n (inl o) = (far_field n o.1, (c, l, ts, inl refl, number_as l n o.0))
  far_number (node c l ts) n (inr o) = let (far, (d, m, us, within, is)) = far_number_in ts n o in (far, (d, m, us, inr within, is))

  far_number_in : (ts : Trees model.Label) (n : ℤ) → SomeHasOutside Outside ts n
      → (is_kept_field (whole n) ≡ false) × ((c : ℕ) × (l : model.Label) × (us : Trees model.Label) × IsSubtreeOfOne (node c l us) ts × IsNumberOf n l)
  far_number_in no_trees n o = absurd o
  far_number_in (tree t ts) n (inl o) = let (far, (d, m, us, within, is)) = far_number t n o in (far, (d, m, us, inl within, is))
  far_number_in (tree t ts) n (inr o) = let (far, (d, m, us, within, is)) = far_number_in ts n o in (far, (d, m, us, inr within, is))

-- ---- lists of cuts, as lists of trees

module _ (P : LabelTree → Type 0) where
  all_of : (cs : List (Cut Label)) → Each (λ x. P (relabel label_meaning (tree_of x))) (map plain_cut cs) → All P (map cut_tree cs)
  all_of [] h = All-nil P
  all_of (c ∷ cs) h = All-cons P (cut_tree c) (map cut_tree cs) h.0 (all_of cs h.1)

has_of : (cs : List (Cut Label)) (u : LabelTree) → HasOf (λ x. relabel label_meaning (tree_of x)) (map plain_cut cs) u → Contains (map cut_tree cs) u
has_of [] u h = absurd h
has_of (c ∷ cs) u (inl e) = (0, omega arith, e)
has_of (c ∷ cs) u (inr h) = let (k, low, is) = has_of cs u h in (suc k, omega arith, is)

module _ (order : Label → Label → Ordering) (same : IsMeantOrder order) where
  each_after : (c : Cut Label) (cs : List (Cut Label)) → Each (λ y. tree_cmp order (tree_of (plain_cut c)) (tree_of y) ≡ Less) (map plain_cut cs) → All (λ w. label_tree_cmp (cut_tree c) w ≡ Less) (map cut_tree cs)
  each_after c [] h = All-nil (λ w. label_tree_cmp (cut_tree c) w ≡ Less)
  each_after c (d ∷ cs) h =
      All-cons (λ w. label_tree_cmp (cut_tree c) w ≡ Less) (cut_tree d) (map cut_tree cs) (sym (tree_order order same (tree_of (plain_cut c)) (tree_of (plain_cut d))) ∙ h.0) (each_after c cs h.1)

  ascending : (cs : List (Cut Label)) → EachTwo (λ x y. tree_cmp order (tree_of x) (tree_of y) ≡ Less) (map plain_cut cs) → plain.EachTwo (λ u w. label_tree_cmp u w ≡ Less) (map cut_tree cs)
  ascending [] h = tt
  ascending (c ∷ cs) h = (each_after c cs h.0, ascending cs h.1)

different : (us : List LabelTree) → plain.EachTwo (λ u w. label_tree_cmp u w ≡ Less) us → AreDifferent us
different [] h = tt
different (u ∷ us) h = (All-weaker (λ w. label_tree_cmp u w ≡ Less) (λ w. ¬ (u ≡ w)) (before_none u) us h.0, different us h.1)

-- where not more, at most
at_most : (n m : ℕ) → (m < n → ⊥) → n ≤ m
at_most n m bad = ⊎_elim (λ more. absurd (bad more)) (λ low. low) (cases_lt m n)

-- outputs that are too much by no load
module _ (R : LabelTree → LabelTree → Type 0) (t : LabelTree) (light : (load : loads.Load) → ¬ IsTooMuch load R t) where
  in_limits : (u : LabelTree) → R t u → is_kept u ≡ true → IsInLimits u
  in_limits u given kept =
      let alone : All (R t) (u ∷ []) = All-cons (R t) u [] given (All-nil (R t)) in
      let one : sum_by node_count (u ∷ []) ≡ node_count u + 0 = sum_by-cons node_count u [] in
      record {
        kept = kept;
        small = at_most (node_count u) most_nodes (λ more. light loads.nodes (u ∷ [], alone, (All-nil (λ w. ¬ (u ≡ w)), tt), omega (arith, one, more)));
        shallow = at_most (depth u) greatest_depth (λ more. light loads.depths (u, given, more));
      }

-- ---- of the expression

module _ (items : List Item) (x : X) (from into : List ℕ) (d : Trans RowAtom RowMap) (built : IsTransBuiltOf items x from into d) where
  abbrev GivesFrom : LabelTree → LabelTree → Type 0
  GivesFrom = Gives (trans_of d).sttr (run (trans_of d).start)

  pub of_type : (t : LabelTree) → HasType (input_type items x) t → IsTyped items from t
  of_type t h = subst (λ o. HasType (signature_named items o) t) built.carries.goes.1 h

  module _ (t : LabelTree) (typed : HasType (input_type items x) t) where
    related : (u : LabelTree) → GivesFrom t u → IsRelated items x t u
    related u given = (built.carries.means t u (of_type t typed)).0 given

    into_type : (u : LabelTree) → GivesFrom t u → HasType (output_type items x) u
    into_type u given = subst (λ o. HasType (signature_named items o) u) (sym built.carries.goes.2) (built.carries.typed (trans_of d).start t u built.carries.in_range (of_type t typed) given)

  pub outputs_are : (order : Label → Label → Ordering) → IsMeantOrder order → (t : Tree Label) → HasType (input_type items x) (relabel label_meaning t) → (cs : List (Cut Label))
      → AreOutputs label_meaning order (trans_of d).sttr (trans_of d).start t (map plain_cut cs) → AreOutputsOf items x (relabel label_meaning t) (map cut_tree cs)
  outputs_are order same t typed cs own =
      let s = relabel label_meaning t in
      let given = all_of (GivesFrom s) cs own.given in
      let kept = all_of (λ u. all_kept keeps u ≡ true) cs own.kept in
      let in_order = ascending order same cs own.ascending in
      let apart = different (map cut_tree cs) in_order in
      record {
        outputs = λ u at. related s typed u (All-contains (GivesFrom s) (map cut_tree cs) u given at);
        all = λ u is. has_of cs u (own.all u ((built.carries.means s u (of_type s typed)).1 is));
        in_order = in_order;
        typed = All-weaker (GivesFrom s) (HasType (output_type items x)) (into_type s typed) (map cut_tree cs) given;
        limits = λ k e low. in_limits GivesFrom s own.light (get_or (map cut_tree cs) k e) (given k e low) (sym (kept_as (get_or (map cut_tree cs) k e)) ∙ kept k e low);
        few = at_most (length (map cut_tree cs)) most_outputs (λ more. own.light loads.outputs (map cut_tree cs, given, apart, more));
        small = at_most (sum_by node_count (map cut_tree cs)) most_nodes (λ more. own.light loads.nodes (map cut_tree cs, given, apart, more));
      }

  pub refused : (most : ℕ) (t : LabelTree) → HasType (input_type items x) t → (s : ApplyStop) → IsRefused (trans_of d).sttr (trans_of d).start t s → StopsOutputs items x most t (by_outputs s)
  refused most t typed (stop.Range n) (u, given, far) = (u, related t typed u given, far_number u n far)
  refused most t typed (stop.Load load) (r, s, leads, much) =
      loads_go_up items x from into (trans_of d) (load_of load) t built.carries (of_type t typed) (leads_too_much (trans_of d).sttr (trans_of d).start t r s (load_of load) leads much)
  refused most t typed stop.Memory none = tt

module _ (items : List Item) (x : X) (from into : List ℕ) (d : Trans RowAtom RowMap) (built : IsTransBuiltOf items x from into d) (sorts : List Sort) (is : sorts ≡ sorts_of (signature_named items (Some from))) where
  pub labels_kept : (t : Tree Label) → HasType (input_type items x) (relabel label_meaning t) → is_kept (relabel label_meaning t) ≡ true → EveryLabel (KeepsValue (row_meaning sorts)) t
  labels_kept t typed kept = subst (λ s. EveryLabel (KeepsValue (row_meaning s)) t) (sym is) (keeps_typed (signature_named items (Some from)) t (of_type items x from into d built (relabel label_meaning t) typed) kept)

-- ---- what is answered

pub if_err : {T E : Type 0} {P Q : E → Type 0} (r : Result T E) → ((e : E) → P e → Q e) → IfErr r P → IfErr r Q
if_err (Ok x) f p = tt
if_err (Err e) f p = f e p

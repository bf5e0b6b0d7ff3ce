-- Lists of outputs as answers.
use Rattle.std.proofs.Common.{ℕ, ◌≡◌, ◌≤◌, ◌<◌, ◌==◌, List, [], ◌∷◌, ◌++◌, map, length, length-append, None, refl, sym, ap, subst, ◌∙◌, ◌↔◌, arith, Bool, true, false, cond}
use Rattle.std.specs.Cmp.{IsTotalOrder}
use Rattle.std.specs.declared.cmp.Ordering.{Ordering}
use Rattle.std.specs.declared.cmp.Ordering.TheVariants.{Equal}
use Rattle.std.specs.List.{All}
use Rattle.std.proofs.lemmas.List.{length-map}
use Rattle.std.proofs.lemmas.List.Elements.{All-nil, All-cons, All-head}
use Rattle.model_tree.specs.Limits.{most_nodes, greatest_depth, most_outputs}
use Rattle.model_tree.specs.Label.{Label}
use Rattle.model_tree.specs.Tree.{Tree, relabel, node_count, depth}
use Rattle.model_sta.specs.Sets.{Each}
use Rattle.model_sttr.specs.Cuts.{tree_of}
use Rattle.model_sttr.specs.Transducer.{run, Sttr, Gives}
use Rattle.apply_laws.specs.Lists.{sum_of}
use Rattle.apply_laws.specs.Meant.{GivesCut}
use Rattle.apply_laws.specs.Found.{listed}
use Rattle.apply_laws.specs.Terms.{IsCallFound}
use Rattle.apply_laws.proofs.Loads.{within, is_too_much}
use Rattle.sttr_apply.specs.Calls.{uses_in, asks_in}
use Rattle.sttr_apply.specs.Labels.{keeps, Outside}
use Rattle.sttr_apply.specs.Outputs.{AreOutputs, IsRefused, IsFarStop}
use Rattle.sttr_apply.specs.Plain.{out_cut}
use Rattle.sttr_apply.specs.Solve.{IsStop, IsEntry}
use Rattle.sttr_apply.specs.declared.calls.Ask.{Ask}
use Rattle.sttr_apply.specs.declared.calls.Entry.{Entry}
use Rattle.sttr_apply.specs.declared.outs.Out.{Out}
use Rattle.sttr_apply.specs.declared.outs.Listing.{Listing}
use Rattle.sttr_apply.specs.declared.stop.ApplyStop.{ApplyStop}
use Rattle.sttr_apply.specs.declared.stop.ApplyStop.TheVariants as stop
use Rattle.sttr_apply.proofs.Used.{number_of_test}

module _ {V : Type 0} where
  nodes_are : (outs : List (Out V)) → sum_of (λ x. node_count (tree_of x)) (map out_cut outs) ≡ sum_of (λ o. o.nodes) outs
  nodes_are [] = refl
  nodes_are (o ∷ outs) = omega (arith, o.nodes_are, nodes_are outs)

  all_shallow : (outs : List (Out V)) → Each (λ x. depth (tree_of x) ≤ greatest_depth) (map out_cut outs)
  all_shallow [] = tt
  all_shallow (o ∷ outs) = (omega (arith, o.levels_are, o.shallow), all_shallow outs)

module _ {V : Type 0} (label : V → Label) (order : V → V → Ordering) (total : IsTotalOrder order) (same : (v w : V) → (order v w ≡ Equal) ↔ (label v ≡ label w)) (f : Sttr Label) (q : ℕ) (t : Tree V) where
  pub outputs_are : (l : Listing V) → l.far ≡ None → IsCallFound label order keeps Outside f q t (listed (map out_cut l.outs.items) l.far) → AreOutputs label order f q t (map out_cut l.outs.items)
  outputs_are l e h =
      let found = subst (λ far. IsCallFound label order keeps Outside f q t (listed (map out_cut l.outs.items) far)) e h in
      let few : length (map out_cut l.outs.items) ≤ most_outputs = omega (arith, length-map l.outs.items out_cut, l.few) in
      let light : sum_of (λ x. node_count (tree_of x)) (map out_cut l.outs.items) ≤ most_nodes = omega (arith, nodes_are l.outs.items, l.light) in
      record {
        cuts = found.each;
        given = found.are;
        all = λ u g. found.all u g (found.far_is u g);
        ascending = found.ascending;
        kept = found.keeps;
        light = λ load m. within label order keeps Outside total same (GivesCut label f (run q) t) (Gives f (run q) (relabel label t)) (map out_cut l.outs.items) found few light (all_shallow l.outs.items) load (is_too_much (Gives f (run q)) (relabel label t) load m);
      }

  pub far_refused : (l : Listing V) (s : ApplyStop) → IsCallFound label order keeps Outside f q t (listed (map out_cut l.outs.items) l.far) → IsFarStop l.far s → IsRefused f q (relabel label t) s
  far_refused l (stop.Range n) h e = (subst (λ far. IsCallFound label order keeps Outside f q t (listed (map out_cut l.outs.items) far)) e h).far_is
  far_refused l (stop.Load a) h e = absurd e
  far_refused l stop.Memory h e = tt

pub stop_refused : (f : Sttr Label) (q : ℕ) (t : Tree Label) (n : ℕ → ℕ) → ((r : ℕ) → n r ≡ cond (q == r) 1 0) → (s : ApplyStop) → IsStop f n t s → IsRefused f q t s
stop_refused f q t n e (stop.Range x) h = absurd h
stop_refused f q t n e stop.Memory h = tt
stop_refused f q t n e (stop.Load a) (r, u, leads) = split (q == r) refl (subst (λ n. 0 < n) (e r) u)
  where
    split : (b : Bool) → (q == r) ≡ b → 0 < cond b 1 0 → IsRefused f q t (stop.Load a)
    split true e l = subst (λ p. IsRefused f p t (stop.Load a)) (sym (number_of_test q r e)) leads
    split false e l = absurd (omega (arith, l))

abbrev first_state : ℕ → List (ℕ × ℕ) → ℕ
first_state n [] = n
first_state n (p ∷ ps) = p.0

module _ {V : Type 0} (label : V → Label) (order : V → V → Ordering) (f : Sttr Label) (t : Tree V) (q : ℕ) where
  -- the entry of the only state that is asked
  pub entry_found : (es rest : List (Entry V)) (e : Entry V) (asks : List Ask) (a : Ask) → es ≡ rest ++ e ∷ [] → asks ≡ a ∷ [] → a.state ≡ q → uses_in es ≡ asks_in asks → All (IsEntry f label order t) es → IsCallFound label order keeps Outside f q t (listed (map out_cut e.listing.outs.items) e.listing.far)
  entry_found es [] e asks a is one s u h =
      let same = ap uses_in (sym is) ∙ (u ∙ ap asks_in one) in
      subst (λ p. IsCallFound label order keeps Outside f p t (listed (map out_cut e.listing.outs.items) e.listing.far)) (ap (first_state 0) same ∙ s) (All-head (IsEntry f label order t) e [] (subst (All (IsEntry f label order t)) is h))
  entry_found es (x ∷ rest) e asks a is one s u h =
      let same = ap length (ap uses_in (sym is) ∙ (u ∙ ap asks_in one)) in
      let long = length-map {B = ℕ × ℕ} (rest ++ e ∷ []) (λ e. (e.state, e.uses)) in
      let put = length-append rest (e ∷ []) in
      absurd (omega (arith, same, long, put))

pub one_ask : (asks pushed empty : List Ask) (a : Ask) → asks ≡ pushed → pushed ≡ empty ++ a ∷ [] → empty ≡ [] → asks ≡ a ∷ []
one_ask asks pushed empty a e f g = e ∙ (f ∙ ap (λ xs. xs ++ a ∷ []) g)

pub one_some : (asks : List Ask) (a : Ask) → asks ≡ a ∷ [] → 0 < a.uses → All (λ a. 0 < a.uses) asks
one_some asks a e l = subst (All (λ a. 0 < a.uses)) (sym e) (All-cons (λ a. 0 < a.uses) a [] l (All-nil (λ a. 0 < a.uses)))

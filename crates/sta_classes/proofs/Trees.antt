-- Least trees of classes in the code.
use Rattle.std.proofs.Common.{ℕ, zero, suc, ◌≡◌, ◌<◌, ◌≤◌, ◌+◌, ◌↔◌, Bool, List, [], ◌∷◌, ◌++◌, length, take, get_or, map, sym, ap, ap₂, subst, subst₂, ◌∙◌, arith, take_all}
use Rattle.std.proofs.lemmas.List.{take_more, length-map, get_or-map}
use Rattle.std.proofs.lemmas.Simd.{map-map}
use Rattle.model_tree.specs.Label.{Label}
use Rattle.model_tree.specs.Tree.{Tree, node, trees_of, node_count, depth, relabel}
use Rattle.model_tree.proofs.Trees.{relabel_all_of_list}
use Rattle.model_sta.specs.Automaton.{Rule}
use Rattle.model_sta.specs.Sets.{Row, Each, fires, step, set_of, sets_of}
use Rattle.std.specs.List.{list_any}
use Rattle.model_sta.specs.Least.{Found, rows_of, rows_at, counts_of, relabel_found, EachNumbered, IsMade, AreMade, IsWitness, HasNoTreeBelow, AreClasses, IsLeastTree}
use Rattle.model_sta.proofs.Least.{AreKids, no_kids, more_kids, assembled, least_at, witness_is_least}
use Rattle.sta_core.specs.Machine.{Machine, PlainRule}
use Rattle.sta_core.specs.Sta.{automaton_of, rule_meaning}
use Rattle.model_sta.specs.Pairwise.{Pairwise}
use Rattle.sta_classes.specs.Plain.{PlainTable, PlainPlace, class_row}
use Rattle.sta_classes.specs.Rules.{meaning_of}
use Rattle.sta_classes.specs.Rows.{plain_class, found_of, class_rows, class_rows_at}
use Rattle.sta_classes.specs.declared.class.Class.{Class}
use Rattle.model_sta.proofs.Pairs.{pairwise_append}

-- the classes over labels, by their plain form
abbrev pub plain_founds : {V : Type 0} → (V → Label) → List (Class V) → List (Found Label)
plain_founds label cs = map (relabel_found label) (map plain_class cs)

-- the classes are those of the automaton, with its least trees
abbrev pub BuiltBy : {A V : Type 0} → ℕ → (V → Label) → (A → Label → Bool) → (Label → Type 0) → (Label → Type 0) → PlainTable A V → Type 0
BuiltBy cap label holds has keeps t = AreClasses cap t.machine.ranks has keeps (automaton_of holds t.machine) (map (relabel_found label) t.found)

pub child_low : (js : List ℕ) (k i : ℕ) → Each (λ j. j < k) js → i < length js → get_or js i 0 < k
child_low [] k i h l = absurd (omega arith)
child_low (j ∷ js) k zero h l = h.0
child_low (j ∷ js) k (suc i) h l = child_low js k i h.1 (omega arith)

-- what holds of the class at a place
own_at : {V : Type 0} (label : V → Label) (P : ℕ → Found Label → Type 0) (found : List (Class V)) (k : ℕ) (x : Class V) → k < length found → x ≡ get_or found k x → EachNumbered P (plain_founds label found)
    → P k (found_of label x) × (get_or (rows_of (plain_founds label found)) k [] ≡ x.row) × (get_or (counts_of (plain_founds label found)) k 0 ≡ x.nodes)
own_at label P [] k x l at h = absurd (omega arith)
own_at label P (y ∷ found) zero x l at h = (subst (λ z. P 0 (found_of label z)) (sym at) h.0, ap (λ z. z.row) (sym at), ap (λ z. z.nodes) (sym at))
own_at label P (y ∷ found) (suc k) x l at h = own_at label (λ j. P (suc j)) found k x (omega arith) at h.1

module _ {V : Type 0} (label : V → Label) (cap : ℕ) (ranks : List ℕ) (D : Label → Type 0) (rules : List (List (Rule Label))) (found : List (Class V)) where
  pub own : (k : ℕ) (x : Class V) → k < length found → x ≡ get_or found k x → AreMade cap ranks D rules (plain_founds label found)
      → IsMade cap ranks D rules (plain_founds label found) k (found_of label x) × (get_or (rows_of (plain_founds label found)) k [] ≡ x.row) × (get_or (counts_of (plain_founds label found)) k 0 ≡ x.nodes)
  own k x l at h = own_at label (IsMade cap ranks D rules (plain_founds label found)) found k x l at h

  kids_of : (k : ℕ) (js : List ℕ) (ts : List (Tree Label)) → Pairwise (λ i u. (i < k) × IsWitness cap ranks D rules (plain_founds label found) i u) js ts → AreKids cap ranks D rules (plain_founds label found) k js (trees_of ts)
  kids_of k [] [] h = no_kids cap ranks D rules (plain_founds label found) k
  kids_of k [] (t ∷ ts) h = absurd h
  kids_of k (j ∷ js) [] h = absurd h
  kids_of k (j ∷ js) (t ∷ ts) h = more_kids cap ranks D rules (plain_founds label found) k j js t (trees_of ts) h.0.0 h.0.1 (kids_of k js ts h.1)

  pub built : (k : ℕ) (x : Class V) (v : V) (ts : List (Tree V)) (js : List ℕ) (i : ℕ) (result : Tree V) → k < length found → x ≡ get_or found k x → AreMade cap ranks D rules (plain_founds label found)
      → js ≡ x.children.items → length js ≤ i → Pairwise (λ i u. (i < k) × IsWitness cap ranks D rules (plain_founds label found) i u) (take i js) (map (relabel label) ts) → label v ≡ label x.value → result ≡ node x.constructor v (trees_of ts)
      → IsWitness cap ranks D rules (plain_founds label found) k (relabel label result)
  built k x v ts js i result l at made is all h same e =
      let (m, row_at, count_at) = own k x l at made in
      let kids = kids_of k x.children.items (map (relabel label) ts) (subst (λ l'. Pairwise (λ i u. (i < k) × IsWitness cap ranks D rules (plain_founds label found) i u) l' (map (relabel label) ts)) (take_all i js all ∙ is) h) in
      subst (IsWitness cap ranks D rules (plain_founds label found) k)
      (ap₂ (λ l' us. node x.constructor l' us) (sym same) (sym (relabel_all_of_list label ts)) ∙ sym (ap (relabel label) e))
      (assembled cap ranks D rules (plain_founds label found) made k (found_of label x) m row_at count_at (trees_of (map (relabel label) ts)) kids)

-- the rows over labels are those of the plain classes
pub same_rows : {V : Type 0} (label : V → Label) (cs : List (Class V)) → rows_of (plain_founds label cs) ≡ rows_of (map plain_class cs)
same_rows label cs = map-map (λ f. f.row) (relabel_found label) (map plain_class cs)

module _ {V : Type 0} (label : V → Label) (cap : ℕ) (ranks : List ℕ) (has keeps : Label → Type 0) (rules : List (List (Rule Label))) (found : List (Class V)) (k : ℕ) (x : Class V) (low : k < length found) (at : x ≡ get_or found k x)
    (classes : AreClasses cap ranks has keeps rules (plain_founds label found)) where
  many : length (plain_founds label found) ≡ length found
  many = length-map (map plain_class found) (relabel_found label) ∙ length-map found plain_class

  pub none_below : cap ≤ x.nodes → HasNoTreeBelow cap ranks has rules (get_or (rows_of (map plain_class found)) k [])
  none_below b u fits is =
      let (m, row_at, count_at) = own label cap ranks keeps rules found k x low at classes.made in
      let few : get_or (counts_of (plain_founds label found)) k 0 ≤ node_count u = least_at cap ranks has rules (plain_founds label found) k (omega (arith, many)) classes.least u fits (is ∙ ap (λ z. get_or z k []) (sym (same_rows label found))) in
      omega arith

  pub shown : x.nodes < cap → (t : Tree Label) → IsWitness cap ranks keeps rules (plain_founds label found) k t → IsLeastTree cap ranks has keeps rules (length (map plain_class found)) (get_or (rows_of (map plain_class found)) k []) t
  shown b t w =
      let (m, row_at, count_at) = own label cap ranks keeps rules found k x low at classes.made in
      let c : node_count t ≡ get_or (counts_of (plain_founds label found)) k 0 = w.count (omega arith) in
      let n : length (map plain_class found) ≡ length found = length-map found plain_class in
      record {
        fits = w.fits;
        set_is = w.set_is ∙ ap (λ z. get_or z k []) (same_rows label found);
        least = λ u fits is. witness_is_least cap ranks has keeps rules (plain_founds label found) classes.least k (omega (arith, many)) t w (omega arith) u fits (is ∙ ap (λ z. get_or z k []) (sym (same_rows label found)));
        small = omega arith;
        shallow = let d : depth t ≤ suc k = w.shallow in omega arith;
      }

-- the same of the table that holds the classes
module _ {A V : Type 0} (m : Machine A) (cs : List (Class V)) (ps : List (List PlainPlace)) (t : PlainTable A V) (is_view : record { machine = m; found = map plain_class cs; places = ps } ≡ t) (k : ℕ) (x : Class V) (known : k < length t.found) (at : x ≡ get_or cs k x) where
  low_here : k < length cs
  low_here =
      let n : length (map plain_class cs) ≡ length cs = length-map cs plain_class in
      let low : k < length (map plain_class cs) = subst (λ z. k < length z.found) (sym is_view) known in
      omega arith

  pub row_here : x.row ≡ class_row t k
  row_here =
      ap (λ z. z.row) at ∙ sym (get_or-map (λ z. z.row) cs k x [] low_here)
      ∙ ap (λ z. get_or z k []) (sym (map-map (λ f. f.row) plain_class cs)) ∙ ap (λ z. class_row z k) is_view

  pub nodes_here : x.nodes ≡ get_or (counts_of t.found) k 0
  nodes_here =
      ap (λ z. z.nodes) at ∙ sym (get_or-map (λ z. z.nodes) cs k x 0 low_here)
      ∙ ap (λ z. get_or z k 0) (sym (map-map (λ f. f.nodes) plain_class cs)) ∙ ap (λ z. get_or (counts_of z.found) k 0) is_view

  module _ (label : V → Label) (cap : ℕ) (holds : A → Label → Bool) (keeps : Label → Type 0) (made : AreMade cap t.machine.ranks keeps (automaton_of holds t.machine) (map (relabel_found label) t.found)) where
    made_here : AreMade cap m.ranks keeps (automaton_of holds m) (plain_founds label cs)
    made_here = subst (λ z. AreMade cap z.machine.ranks keeps (automaton_of holds z.machine) (map (relabel_found label) z.found)) (sym is_view) made

    pub child_here : (js : List ℕ) (i : ℕ) → js ≡ x.children.items → i < length js → get_or js i 0 < k
    child_here js i e low = child_low js k i (subst (Each (λ j. j < k)) (sym e) (own label cap m.ranks keeps (automaton_of holds m) cs k x low_here at made_here).0.earlier) low

    pub kids_here : (js : List ℕ) (i : ℕ) (before after : List (Tree Label)) (u : Tree Label) → i < length js → after ≡ before ++ u ∷ [] → get_or js i 0 < k
        → IsWitness cap t.machine.ranks keeps (automaton_of holds t.machine) (map (relabel_found label) t.found) (get_or js i 0) u
        → Pairwise (λ j v. (j < k) × IsWitness cap t.machine.ranks keeps (automaton_of holds t.machine) (map (relabel_found label) t.found) j v) (take i js) before
        → Pairwise (λ j v. (j < k) × IsWitness cap t.machine.ranks keeps (automaton_of holds t.machine) (map (relabel_found label) t.found) j v) (take (i + 1) js) after
    kids_here js i before after u l e low w h =
        subst₂ (Pairwise (λ j v. (j < k) × IsWitness cap t.machine.ranks keeps (automaton_of holds t.machine) (map (relabel_found label) t.found) j v)) (sym (take_more js i 0 l)) (sym e)
        (pairwise_append (λ j v. (j < k) × IsWitness cap t.machine.ranks keeps (automaton_of holds t.machine) (map (relabel_found label) t.found) j v) (take i js) (get_or js i 0 ∷ []) before (u ∷ []) h ((low, w), tt))

    pub built_here : (v : V) (ts : List (Tree V)) (js : List ℕ) (i : ℕ) (result : Tree V) → js ≡ x.children.items → length js ≤ i
        → Pairwise (λ j u. (j < k) × IsWitness cap t.machine.ranks keeps (automaton_of holds t.machine) (map (relabel_found label) t.found) j u) (take i js) (map (relabel label) ts) → label v ≡ label x.value → result ≡ node x.constructor v (trees_of ts)
        → IsWitness cap t.machine.ranks keeps (automaton_of holds t.machine) (map (relabel_found label) t.found) k (relabel label result)
    built_here v ts js i result e all h same r =
        subst (λ z. IsWitness cap z.machine.ranks keeps (automaton_of holds z.machine) (map (relabel_found label) z.found) k (relabel label result)) is_view
        (built label cap m.ranks keeps (automaton_of holds m) cs k x v ts js i result low_here at made_here e all
        (subst (λ z. Pairwise (λ j u. (j < k) × IsWitness cap z.machine.ranks keeps (automaton_of holds z.machine) (map (relabel_found label) z.found) j u) (take i js) (map (relabel label) ts)) (sym is_view) h) same r)

  module _ (label : V → Label) (cap : ℕ) (holds : A → Label → Bool) (has keeps : Label → Type 0) (is_built : BuiltBy cap label holds has keeps t) where
    built_view : BuiltBy cap label holds has keeps (record { machine = m; found = map plain_class cs; places = ps })
    built_view = subst (BuiltBy cap label holds has keeps) (sym is_view) is_built

    pub none_here : cap ≤ x.nodes → HasNoTreeBelow cap t.machine.ranks has (automaton_of holds t.machine) (class_row t k)
    none_here b = subst (λ z. HasNoTreeBelow cap z.machine.ranks has (automaton_of holds z.machine) (class_row z k)) is_view (none_below label cap m.ranks has keeps (automaton_of holds m) cs k x low_here at built_view b)

    pub shown_here : x.nodes < cap → (u : Tree Label) → IsWitness cap t.machine.ranks keeps (automaton_of holds t.machine) (map (relabel_found label) t.found) k u
        → IsLeastTree cap t.machine.ranks has keeps (automaton_of holds t.machine) (length t.found) (class_row t k) u
    shown_here b u w =
        subst (λ z. IsLeastTree cap z.machine.ranks has keeps (automaton_of holds z.machine) (length z.found) (class_row z k) u) is_view
        (shown label cap m.ranks has keeps (automaton_of holds m) cs k x low_here at built_view b u
        (subst (λ z. IsWitness cap z.machine.ranks keeps (automaton_of holds z.machine) (map (relabel_found label) z.found) k u) (sym is_view) w))

    -- the row has as many places as there are states
    pub row_long : length x.row ≡ length m.rules
    row_long =
        let n : length (rows_of (plain_founds label cs)) ≡ length cs = length-map (plain_founds label cs) (λ f. f.row) ∙ length-map (map plain_class cs) (relabel_found label) ∙ length-map cs plain_class in
        let (tree_of, fits, is) = built_view.sets.reached k [] (omega (arith, n, low_here)) in
        let (made, row_at, count_at) = own label cap m.ranks keeps (automaton_of holds m) cs k x low_here at built_view.made in
        sym (ap length (is ∙ row_at)) ∙ set_long (automaton_of holds m) tree_of ∙ length-map m.rules (map (rule_meaning holds))
      where
        set_long : (rules : List (List (Rule Label))) (u : Tree Label) → length (set_of rules u) ≡ length rules
        set_long rules (node c l ts) = length-map rules (list_any (fires c l (sets_of rules ts)))

  -- what is known of the labels of the row's formula
  pub guard_here : (holds : A → Label → Bool) (P : Type 0) (rules : List (List (PlainRule A))) (cs' : List (Class V)) (ks ks' : List ℕ) (row : Row) (c : ℕ) (l : Label) → rules ≡ m.rules → cs' ≡ cs → ks' ≡ ks → row ≡ x.row
      → P ↔ (step (meaning_of holds rules) c l (class_rows_at cs' ks') ≡ row) → P ↔ (step (automaton_of holds t.machine) c l (rows_at t.found ks) ≡ class_row t k)
  guard_here holds P rules cs' ks ks' row c l same classes numbers is h =
      let rows : class_rows cs' ≡ rows_of t.found = ap class_rows classes ∙ sym (map-map (λ f. f.row) plain_class cs) ∙ ap (λ z. rows_of z.found) is_view in
      let children : class_rows_at cs' ks' ≡ rows_at t.found ks = ap₂ (λ qs js. map (λ j. get_or qs j []) js) rows numbers in
      let machine : meaning_of holds rules ≡ automaton_of holds t.machine = ap (meaning_of holds) same ∙ ap (λ z. automaton_of holds z.machine) is_view in
      subst₂ (λ a b. P ↔ (a ≡ b)) (ap₂ (λ a b. step a c l b) machine children) (is ∙ row_here) h

-- What the best class says of the trees that are asked for.
use Rattle.std.proofs.Common.{◌≡◌, ℕ, suc, ◌<◌, ◌≤◌, Bool, true, false, List, [], map, get_or, length, refl, sym, ◌∙◌, ap, arith}
use Rattle.std.specs.Prelude.{nat_lt}
use Rattle.std.proofs.lemmas.Bool.Decides.{nat_tests}
use Rattle.std.proofs.lemmas.List.{length-map}
use Rattle.std.proofs.lemmas.Simd.{map-map}
use Rattle.model_tree.specs.Label.{Label}
use Rattle.model_tree.specs.Tree.{LabelTree, node_count}
use Rattle.model_sta.specs.Automaton.{Rule}
use Rattle.model_sta.specs.Sets.{Row, set_of, Fits}
use Rattle.model_sta.specs.Reached.{IsComplete}
use Rattle.model_sta.specs.Least.{Found, relabel_found, rows_of, counts_of, IsWitness, AreClasses, HasNoTreeBelow, IsLeastTree}
use Rattle.model_sta.proofs.Reached.{same_default, fits_more}
use Rattle.model_sta.proofs.Least.{least_at, witness}
use Rattle.sta_ops.specs.Asked.{IsAskedTree, IsLeastAsked, HasBigAsked}
use Rattle.sta_ops.specs.LeastClass.{has_class, HasNoClass, IsLeastClass}

module _ {V : Type 0} (label : V → Label) (found : List (Found V)) where
  pub rows_same : rows_of (map (relabel_found label) found) ≡ rows_of found
  rows_same = map-map (λ f. f.row) (relabel_found label) found

  pub counts_same : counts_of (map (relabel_found label) found) ≡ counts_of found
  counts_same = map-map (λ f. f.nodes) (relabel_found label) found

module _ (ranks : List ℕ) (has keeps : Label → Type 0) (among : (l : Label) → keeps l → has l) (rules : List (List (Rule Label))) (found : List (Found Label))
    (classes : AreClasses 1048577 ranks has keeps rules found) (complete : IsComplete ranks has rules (rows_of found)) (test : Row → Bool) where
  abbrev member : LabelTree → Bool
  member t = test (set_of rules t)

  accepted_by_set : (t : LabelTree) (k : ℕ) → get_or (rows_of found) k [] ≡ set_of rules t → has_class (rows_of found) (counts_of found) test k ≡ member t
  accepted_by_set t k same = ap test same

  rows_long : length (rows_of found) ≡ length found
  rows_long = length-map found (λ f. f.row)

  -- the class of a tree
  record HasClass (t : LabelTree) : Type 0 where
    class : ℕ
    low : class < length (rows_of found)
    is : get_or (rows_of found) class [] ≡ set_of rules t

  class_of : (t : LabelTree) → Fits ranks has t → HasClass t
  class_of t fits = let at = complete t fits in record { class = at.0; low = at.1; is = same_default (rows_of found) at.0 [] (set_of rules t) at.1 ∙ at.2 }

  -- no class has the state, so no tree is in the language
  pub none_of : HasNoClass (rows_of found) (counts_of found) test → (t : LabelTree) → ¬ (IsAskedTree ranks has keeps member t)
  none_of none t tree_of =
      let at = class_of t tree_of.fits in
      let no : true ≡ false = sym tree_of.accepted ∙ sym (accepted_by_set t at.class at.is) ∙ none at.class at.low in absurd (cc)

  -- each tree of the language has as many nodes as the best class counts
  at_least : (best : ℕ) → IsLeastClass (rows_of found) (counts_of found) test best → (t : LabelTree) → IsAskedTree ranks has keeps member t → get_or (counts_of found) best 0 ≤ node_count t
  at_least best is t tree_of =
      let at = class_of t tree_of.fits in
      let less = is.least at.class at.low (accepted_by_set t at.class at.is ∙ tree_of.accepted) in
      let many = least_at 1048577 ranks has rules found at.class (omega (arith, at.low, rows_long)) classes.least t tree_of.fits (sym at.is) in
      omega (arith, less, many)

  own : (best : ℕ) → best < length (rows_of found) → (t : LabelTree) × IsWitness 1048577 ranks keeps rules found best t
  own best low = witness 1048577 ranks keeps rules found classes.made (suc best) best (omega arith) (omega (arith, low, rows_long))

  -- a least tree of the best class is one of the language
  pub shown_of : (best : ℕ) → IsLeastClass (rows_of found) (counts_of found) test best → (deep most : ℕ) (u : LabelTree) → deep ≤ most → IsLeastTree 1048577 ranks has keeps rules deep (get_or (rows_of found) best []) u
      → IsLeastAsked ranks has keeps member most u
  shown_of best is deep most u low tree = record {
    fits = tree.fits;
    accepted = sym (accepted_by_set u best (sym tree.set_is)) ∙ is.member;
    least = λ t tree_of.
        let w = own best is.low in
        let count = by_count best is u tree w.0 w.1 in
        let many = at_least best is t tree_of in
        omega (arith, count, many);
    small = omega (arith, tree.small);
    shallow = omega (arith, tree.shallow, low);
  }
    where
      by_count : (best : ℕ) → IsLeastClass (rows_of found) (counts_of found) test best → {deep : ℕ} (u : LabelTree) → IsLeastTree 1048577 ranks has keeps rules deep (get_or (rows_of found) best []) u → (w : LabelTree) → IsWitness 1048577 ranks keeps rules found best w
          → node_count u ≤ get_or (counts_of found) best 0
      by_count best is u tree w at = by (nat_lt (get_or (counts_of found) best 0) 1048577) refl
        where
          by : (b : Bool) → nat_lt (get_or (counts_of found) best 0) 1048577 ≡ b → node_count u ≤ get_or (counts_of found) best 0
          by true e =
              let below : get_or (counts_of found) best 0 < 1048577 = grind (arith, nat_tests) in
              let more = tree.least w (fits_more ranks keeps has among w at.fits) at.set_is in
              let count = at.count below in
              omega (arith, more, count)
          by false e =
              let above : 1048577 ≤ get_or (counts_of found) best 0 = grind (arith, nat_tests) in
              omega (arith, above, tree.small)

  -- where the best class has large trees alone, so has the language
  pub big_of : (best : ℕ) → IsLeastClass (rows_of found) (counts_of found) test best → HasNoTreeBelow 1048577 ranks has rules (get_or (rows_of found) best []) → HasBigAsked ranks has keeps member
  big_of best is none =
      let w = own best is.low in
      let inside = fits_more ranks keeps has among w.0 w.1.fits in
      record {
        tree = w.0;
        right = record { fits = inside; accepted = sym (accepted_by_set w.0 best (sym w.1.set_is)) ∙ is.member };
        big = λ t tree_of. let many = at_least best is t tree_of in let count = by_count best none w.0 w.1 inside in omega (arith, many, count);
      }
    where
      by_count : (best : ℕ) → HasNoTreeBelow 1048577 ranks has rules (get_or (rows_of found) best []) → (w : LabelTree) → IsWitness 1048577 ranks keeps rules found best w → Fits ranks has w → 1048577 ≤ get_or (counts_of found) best 0
      by_count best none w at inside = by (nat_lt (get_or (counts_of found) best 0) 1048577) refl
        where
          by : (b : Bool) → nat_lt (get_or (counts_of found) best 0) 1048577 ≡ b → 1048577 ≤ get_or (counts_of found) best 0
          by true e =
              let below : get_or (counts_of found) best 0 < 1048577 = grind (arith, nat_tests) in
              let many = none w inside at.set_is in
              let count = at.count below in
              omega (arith, below, many, count)
          by false e = grind (arith, nat_tests)

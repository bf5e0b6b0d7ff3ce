-- Nodes over classes have classes.
use Rattle.std.proofs.Common.{ℕ, suc, ◌≡◌, ◌<◌, Vec, Option, Some, None, Bool, List, [], ◌∷◌, map, get_or, length, All, Contains, Decides, refl, sym, ap, subst, ◌∙◌, arith}
use Rattle.std.specs.Prelude.{MatchOption}
use Rattle.std.specs.Bool.{beq}
use Rattle.std.specs.Cmp.{booleans_Decides}
use Rattle.std.specs.Cmp.Lexicographic.{pointwise}
use Rattle.std.proofs.lemmas.List.{length-map}
use Rattle.std.proofs.lemmas.Slice.Eq.{slice_eq-Decides}
use Rattle.model_tree.specs.Label.{Label}
use Rattle.model_tree.specs.Formula.{EveryAtom}
use Rattle.model_sta.specs.Sets.{Row, Each, step}
use Rattle.model_sta.specs.Least.{rows_of, rows_at}
use Rattle.model_sta.specs.Reached.{IsReached}
use Rattle.model_sta.proofs.Reached.{step_reached, same_default, fits_more}
use Rattle.label_core.specs.Meaning.{Meaning}
use Rattle.indexmap.specs.IndexMap.{IndexMap, get}
use Rattle.sta_core.specs.Machine.{plain_rule}
use Rattle.sta_core.specs.Sta.{automaton_of}
use Rattle.sta_core.specs.declared.StaRule.{StaRule}
use Rattle.sta_core.proofs.Meaning.{All_from_map}
use Rattle.sta_classes.specs.Guards.{GuardsFit}
use Rattle.sta_classes.specs.Meant.{IsTableOf}
use Rattle.sta_classes.specs.Plain.{PlainTable, class_row}
use Rattle.sta_classes.specs.Rules.{plain_rules}
use Rattle.sta_theory.proofs.Lists.{in_map}
use Rattle.sta_theory.proofs.Rows.{set_long}
use Rattle.sta_ops.proofs.EachRule.{all_in}
use Rattle.sta_min.specs.Steps.{AreRows, IsNode, IsClassOf}
use Rattle.sta_min.proofs.FirstOnes.{IsFirstMap}

pub decides_rows : (x y : Row) → Decides (pointwise beq x y) (x ≡ y)
decides_rows x y = slice_eq-Decides booleans_Decides x y (pointwise beq x y) refl

-- the guards of one state's rules fit
pub state_fits : {A G : Type 0} (F : A → Type 0) (rules : List (Vec (StaRule A) G)) (v : Vec (StaRule A) G) (given : List (StaRule A)) (i : ℕ) → i < length rules → v ≡ get_or rules i v → given ≡ v.items → GuardsFit F (plain_rules rules) → All (λ r. EveryAtom F (plain_rule r).guard) given
state_fits F rules v given i low at is fit =
    subst (All (λ r. EveryAtom F (plain_rule r).guard)) (sym is)
    (All_from_map (λ r. EveryAtom F r.guard) plain_rule v.items (all_in (λ rs. All (λ r. EveryAtom F r.guard) rs) (plain_rules rules) fit (map plain_rule v.items) (in_map (λ those. map plain_rule those.items) rules v (i, low, sym at))))

module _ {A V W : Type 0} {label_of : V → Label} {holds : A → Label → Bool} (M : Meaning label_of holds W) (t : PlainTable A V) (table : IsTableOf M t.machine t) where
  row_reached : (k : ℕ) → k < length t.found → IsReached t.machine.ranks M.keeps (automaton_of holds t.machine) (class_row t k)
  row_reached k low = table.sets.reached k [] (omega (arith, low, length-map t.found (λ f. f.row)))

  -- as many states as the automaton has
  pub row_long : (k : ℕ) → k < length t.found → length (class_row t k) ≡ length t.machine.rules
  row_long k low = let (tree, fits, is) = row_reached k low in sym (ap length is) ∙ set_long (automaton_of holds t.machine) tree ∙ length-map t.machine.rules _

  rows_reached : (children : List ℕ) → All (λ k. k < length t.found) children → Each (IsReached t.machine.ranks M.keeps (automaton_of holds t.machine)) (rows_at t.found children)
  rows_reached [] h = tt
  rows_reached (k ∷ children) h = (row_reached k (h 0 k (omega arith)), rows_reached children (λ i d low. h (suc i) d (omega arith)))

  module _ (keeps_labels : (l : Label) → M.keeps l → M.has l) (c : ℕ) (v : V) (children : List ℕ) (node : IsNode M t c v children) where
    abbrev made : Row
    made = step (automaton_of holds t.machine) c (label_of v) (rows_at t.found children)

    -- the node's set is that of a class
    node_known : Contains (rows_of t.found) made
    node_known =
        let (tree, fits, is) = step_reached t.machine.ranks M.keeps (automaton_of holds t.machine) c node.low (label_of v) node.kept (rows_at t.found children) (length-map children _ ∙ node.wide) (rows_reached children node.known) in
        subst (Contains (rows_of t.found)) is (table.complete tree (fits_more t.machine.ranks M.keeps M.has keeps_labels tree fits))

    module _ {G S : Type 0} (m : IndexMap (Vec Bool G) ℕ S) (are : AreRows t (length t.found) m) (key : Vec Bool G) (is : key.items ≡ made) where
      abbrev found_at : Option ℕ
      found_at = get (λ x y. pointwise beq x.items y.items) m key

      pub class_there : (k : ℕ) → found_at ≡ Some k → IsClassOf holds t c (label_of v) children k
      class_there k e =
          let h : (k < length t.found) × (class_row t k ≡ key.items) = subst (λ o. MatchOption o ((k : ℕ) → k < length t.found → ¬ (class_row t k ≡ key.items)) (λ k. (k < length t.found) × (class_row t k ≡ key.items))) e (are key) in
          record { low = h.0; row_is = sym (h.1 ∙ is) }

      pub class_missing : found_at ≡ None → ⊥
      class_missing e =
          let h : (k : ℕ) → k < length t.found → ¬ (class_row t k ≡ key.items) = subst (λ o. MatchOption o ((k : ℕ) → k < length t.found → ¬ (class_row t k ≡ key.items)) (λ k. (k < length t.found) × (class_row t k ≡ key.items))) e (are key) in
          let (k, low, at) = node_known in
          h k (omega (arith, low, length-map t.found (λ f. f.row))) (same_default (rows_of t.found) k [] made low ∙ at ∙ sym is)

-- from the map of first ones
pub are_rows : {A V G S : Type 0} (t : PlainTable A V) (n : ℕ) (m : IndexMap (Vec Bool G) ℕ S) → IsFirstMap (λ v. v.items) (pointwise beq) decides_rows (class_row t) n m → AreRows t n m
are_rows t n m is key = by (get (λ x y. pointwise beq x.items y.items) m key) refl
  where
    by : (o : Option ℕ) → get (λ x y. pointwise beq x.items y.items) m key ≡ o → MatchOption o ((k : ℕ) → k < n → ¬ (class_row t k ≡ key.items)) (λ k. (k < n) × (class_row t k ≡ key.items))
    by None e = is.none key e
    by (Some k) e = (let (low, same, first) = is.told key k e in (low, same))

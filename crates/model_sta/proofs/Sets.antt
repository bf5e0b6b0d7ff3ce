-- Facts on the set of states that accept a tree.
use Rattle.std.proofs.Common.{ℕ, suc, ◌≡◌, Bool, true, false, ◌&&◌, ◌||◌, ◌==◌, List, [], ◌∷◌, get_or, length, refl, sym, ap, ap₂, ◌∙◌, eqb-true}
use Rattle.std.proofs.Math.ListN.{get_or-map}
use Rattle.std.specs.List.{list_any, list_all}
use Rattle.model_tree.specs.Tree.{Tree, node, Trees, no_trees, tree}
use Rattle.model_sta.specs.Automaton.{Rule, is_accepted, meet_demands}
use Rattle.model_sta.specs.Sets.{Row, Each, has, rows_meet, fires, step, set_of, sets_of, width, Agree}

module _ {L : Type 0} (rules : List (List (Rule L))) where
  mutual
    pub set_is_accepted : (t : Tree L) (s : ℕ) → has (set_of rules t) s ≡ is_accepted rules t s
    set_is_accepted (node c l ts) s =
        get_or-map (list_any (fires c l (sets_of rules ts))) rules s []
        ∙ (λ i. list_any (λ r. (r.constructor == c) && (r.guard l && demands_meet ts r.demands i)) (get_or rules s []))

    pub demands_meet : (ts : Trees L) (ds : List (List ℕ)) → rows_meet (sets_of rules ts) ds ≡ meet_demands rules ts ds
    demands_meet no_trees ds = refl
    demands_meet (tree t ts) [] = refl
    demands_meet (tree t ts) (d ∷ ds) = λ i. list_all (λ s. set_is_accepted t s i) d && demands_meet ts ds i

  pub width_sets : (ts : Trees L) → length (sets_of rules ts) ≡ width ts
  width_sets no_trees = refl
  width_sets (tree t ts) = ap suc (width_sets ts)

  -- the set of a node depends on its children only by their sets
  pub set_by_children : (c : ℕ) (l : L) (ts us : Trees L) → sets_of rules ts ≡ sets_of rules us → set_of rules (node c l ts) ≡ set_of rules (node c l us)
  set_by_children c l ts us e = ap (step rules c l) e

pub and_where : (b x y : Bool) → (b ≡ true → x ≡ y) → (b && x) ≡ (b && y)
and_where true x y h = h refl
and_where false x y h = refl

module _ {L : Type 0} (c : ℕ) (l m : L) (qs : List Row) where
  fires_agree : (r : Rule L) → (r.constructor ≡ c → r.guard l ≡ r.guard m) → fires c m qs r ≡ fires c l qs r
  fires_agree r h = and_where (r.constructor == c) _ _ (λ e. ap (λ g. g && rows_meet qs r.demands) (sym (h (eqb-true r.constructor c e))))

  any_agree : (rs : List (Rule L)) → Each (λ r. r.constructor ≡ c → r.guard l ≡ r.guard m) rs → list_any (fires c m qs) rs ≡ list_any (fires c l qs) rs
  any_agree [] h = refl
  any_agree (r ∷ rs) h = ap₂ (λ x y. x || y) (fires_agree r h.0) (any_agree rs h.1)

  -- the set of a node depends on the label only by the guards of its constructor
  pub step_agree : (rules : List (List (Rule L))) → Agree rules c l m → step rules c m qs ≡ step rules c l qs
  step_agree [] h = refl
  step_agree (rs ∷ rules) h = ap₂ (λ x y. x ∷ y) (any_agree rs h.0) (step_agree rules h.1)

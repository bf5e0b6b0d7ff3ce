-- Trees among the nodes of another one.
use Rattle.std.proofs.Common.{ℕ, zero, suc, ◌≡◌, ◌+◌, ◌<◌, ◌≤◌, ◌==◌, Bool, true, false, ◌&&◌, cond, List, [], ◌∷◌, ◌++◌, map, length, get_or, take, drop, refl, sym, ap, ap₂, subst, ◌∙◌, arith, append_assoc, length-append}
use Rattle.std.proofs.lemmas.List.{length-map, get_or-map, map-append, get_or_at, take_more, drop_all}
use Rattle.std.specs.List.{All}
use Rattle.std.proofs.lemmas.List.Elements.{All-push}
use Rattle.std.proofs.lemmas.Simd.{map-map}
use Rattle.model_tree.specs.Limits.{most_nodes}
use Rattle.model_tree.specs.Formula.{EveryAtom}
use Rattle.sta_core.specs.Machine.{plain_rule}
use Rattle.sta_core.proofs.Meaning.{All_from_map}
use Rattle.sttr_core.specs.Fits.{EveryMap, LabelsFit}
use Rattle.sttr_core.specs.Machine.{OutMachine, plain_out, transducer_of}
use Rattle.sttr_core.specs.Terms.{plain_term}
use Rattle.sttr_core.specs.declared.sttr.SttrRule.{SttrRule}
use Rattle.sttr_core.proofs.Meaning.{meaning_of, rules_meant}
use Rattle.model_tree.specs.Label.{Label}
use Rattle.model_tree.specs.Tree.{Tree, node, Trees, no_trees, tree, trees_of, constructor_of, label_of, children_of, relabel, relabel_all, node_count}
use Rattle.model_sta.specs.Automaton.{Rule, rule_applies, meet_demands}
use Rattle.model_sta.proofs.Sets.{demands_meet}
use Rattle.model_sttr.specs.Transducer.{OutRule, out_rules}
use Rattle.apply_laws.specs.Reached.{terms_of}
use Rattle.sttr_apply.proofs.Used.{same_number, other_number}
use Rattle.model_sta.specs.Sets.{Row, set_of, sets_of, rows_meet, has}
use Rattle.std.specs.List.{list_all}
use Rattle.sta_marks.specs.Nodes.{nodes_of, nodes_of_all}
use Rattle.sta_marks.proofs.Passed.{length-nodes_of}
use Rattle.sttr_apply.specs.Sizes.{size_of, StandsAt, IsScene}
use Rattle.sttr_apply.specs.declared.sizes.Size.{Size}

pub none_after : (a b x : Bool) → a ≡ (b && x) → b ≡ false → false ≡ a
none_after a b x e f = sym (e ∙ ap (λ c. c && x) f)

pub rest_after : (a b x : Bool) → a ≡ (b && x) → b ≡ true → x ≡ a
rest_after a b x e f = sym (e ∙ ap (λ c. c && x) f)

module _ {X : Type 0} where
  pub stands_low : (n : ℕ) (xs ys : List X) → StandsAt n xs ys → n + length xs ≤ length ys
  stands_low n xs ys (before, after, at, is) =
      let e = ap length is in
      let f = length-append before (xs ++ after) in
      let g = length-append xs after in
      omega (arith, e, f, g, at)

  pub stands_first : (n : ℕ) (xs us ys : List X) → StandsAt n (xs ++ us) ys → StandsAt n xs ys
  stands_first n xs us ys (before, after, at, is) = (before, us ++ after, at, is ∙ ap (λ zs. before ++ zs) (append_assoc xs us after))

  pub stands_rest : (n : ℕ) (xs us ys : List X) → StandsAt n (xs ++ us) ys → StandsAt (n + length xs) us ys
  stands_rest n xs us ys (before, after, at, is) =
      let long = length-append before xs in (
        before ++ xs,
        after,
        omega (arith, at, long),
        is ∙ ap (λ zs. before ++ zs) (append_assoc xs us after) ∙ sym (append_assoc before xs (us ++ after)),
      )

  pub stands_at : (n : ℕ) (x : X) (xs ys : List X) → StandsAt n (x ∷ xs) ys → (d : X) → get_or ys n d ≡ x
  stands_at n x xs ys (before, after, at, is) d = ap (λ zs. get_or zs n d) is ∙ get_or_at before x (xs ++ after) d n (sym at)

  pub stands_whole : (xs : List X) → StandsAt 0 xs xs
  stands_whole xs = ([], [], refl, sym (nil xs))
    where
      nil : {Y : Type 0} (ys : List Y) → ys ++ [] ≡ ys
      nil [] = refl
      nil (y ∷ ys) = ap (λ zs. y ∷ zs) (nil ys)

module _ {V : Type 0} where
  pub children_stand : (n : ℕ) (t : Tree V) (ys : List (Tree V)) → StandsAt n (nodes_of t) ys → StandsAt (n + 1) (nodes_of_all (children_of t)) ys
  children_stand n (node c l ts) ys h = stands_rest n (node c l ts ∷ []) (nodes_of_all ts) ys h

  pub tree_stands : (n : ℕ) (t : Tree V) (ys : List (Tree V)) → StandsAt n (nodes_of t) ys → (d : Tree V) → get_or ys n d ≡ t
  tree_stands n (node c l ts) ys h d = stands_at n (node c l ts) (nodes_of_all ts) ys h d

  pub child_stands : (n : ℕ) (ts : List (Tree V)) (i : ℕ) (d : Tree V) (ys : List (Tree V)) → i < length ts → StandsAt n (nodes_of_all (trees_of (drop i ts))) ys → StandsAt n (nodes_of (get_or ts i d)) ys
  child_stands n [] i d ys l h = absurd (omega (arith, l))
  child_stands n (u ∷ ts) zero d ys l h = stands_first n (nodes_of u) (nodes_of_all (trees_of ts)) ys h
  child_stands n (u ∷ ts) (suc i) d ys l h = child_stands n ts i d ys (omega arith) h

  next_suc : (n : ℕ) (ts : List (Tree V)) (i : ℕ) (d : Tree V) (ys : List (Tree V)) → i < length ts → StandsAt n (nodes_of_all (trees_of (drop i ts))) ys → StandsAt (n + node_count (get_or ts i d)) (nodes_of_all (trees_of (drop (suc i) ts))) ys
  next_suc n [] i d ys l h = absurd (omega (arith, l))
  next_suc n (u ∷ ts) zero d ys l h = subst (λ m. StandsAt m (nodes_of_all (trees_of ts)) ys) (ap (λ k. n + k) (length-nodes_of u)) (stands_rest n (nodes_of u) (nodes_of_all (trees_of ts)) ys h)
  next_suc n (u ∷ ts) (suc i) d ys l h = next_suc n ts i d ys (omega arith) h

  pub next_stands : (n : ℕ) (ts : List (Tree V)) (i : ℕ) (d : Tree V) (ys : List (Tree V)) → i < length ts → StandsAt n (nodes_of_all (trees_of (drop i ts))) ys → (m : ℕ) → m ≡ n + node_count (get_or ts i d) → StandsAt m (nodes_of_all (trees_of (drop (i + 1) ts))) ys
  next_stands n ts i d ys l h m e =
      let more : suc i ≡ i + 1 = omega arith in
      subst (λ j. StandsAt m (nodes_of_all (trees_of (drop j ts))) ys) more (subst (λ k. StandsAt k (nodes_of_all (trees_of (drop (suc i) ts))) ys) (sym e) (next_suc n ts i d ys l h))

module _ {V L : Type 0} (f : V → L) where
  mutual
    nodes-relabel : (t : Tree V) → nodes_of (relabel f t) ≡ map (relabel f) (nodes_of t)
    nodes-relabel (node c l ts) = ap (λ us. node c (f l) (relabel_all f ts) ∷ us) (nodes-relabel_all ts)

    nodes-relabel_all : (ts : Trees V) → nodes_of_all (relabel_all f ts) ≡ map (relabel f) (nodes_of_all ts)
    nodes-relabel_all no_trees = refl
    nodes-relabel_all (tree t ts) = ap₂ (λ a b. a ++ b) (nodes-relabel t) (nodes-relabel_all ts) ∙ sym (map-append (relabel f) (nodes_of t) (nodes_of_all ts))

module _ {V : Type 0} (label : V → Label) (looks : List (List (Rule Label))) (root : Tree V) (sizes : List Size) (rows : List Row) (scene : IsScene label looks root sizes rows) where
  pub placed_low : (n : ℕ) (t : Tree V) → StandsAt n (nodes_of t) (nodes_of root) → n + node_count t ≤ most_nodes
  placed_low n t h =
      let low = stands_low n (nodes_of t) (nodes_of root) h in
      let here = length-nodes_of t in
      let all = length-nodes_of root in
      omega (arith, low, here, all, scene.few)

  pub sizes_many : length sizes ≡ node_count root
  sizes_many = ap length scene.sizes_are ∙ (length-map (nodes_of root) size_of ∙ length-nodes_of root)

  one_le : (t : Tree V) → 1 ≤ node_count t
  one_le (node c l ts) = omega arith

  pub number_low : (n : ℕ) (t : Tree V) → StandsAt n (nodes_of t) (nodes_of root) → n < length sizes
  number_low n t h =
      let low = stands_low n (nodes_of t) (nodes_of root) h in
      let here = length-nodes_of t in
      let all = length-nodes_of root in
      omega (arith, low, here, all, sizes_many, one_le t)

  pub size_placed : (n : ℕ) (t : Tree V) → StandsAt n (nodes_of t) (nodes_of root) → (d : Size) → get_or sizes n d ≡ size_of t
  size_placed n t h d =
      let low = stands_low n (nodes_of t) (nodes_of root) h in
      let here = length-nodes_of t in
      ap (λ ss. get_or ss n d) scene.sizes_are ∙ (get_or-map size_of (nodes_of root) n root d (omega (arith, low, here, one_le t)) ∙ ap size_of (tree_stands n t (nodes_of root) h root))

  pub row_placed : (n : ℕ) (t : Tree V) → StandsAt n (nodes_of t) (nodes_of root) → get_or rows n [] ≡ set_of looks (relabel label t)
  row_placed n t h =
      let low = stands_low n (nodes_of t) (nodes_of root) h in
      let here = length-nodes_of t in
      let some : n < length (nodes_of root) = omega (arith, low, here, one_le t) in
      let long = length-map (nodes_of root) (relabel label) in
      ap (λ rs. get_or rs n []) (scene.rows_are ∙ ap (map (set_of looks)) (nodes-relabel label root))
      ∙ (get_or-map (set_of looks) (map (relabel label) (nodes_of root)) n (relabel label root) [] (omega (arith, some, long))
      ∙ ap (set_of looks) (get_or-map (relabel label) (nodes_of root) n root (relabel label root) some ∙ ap (relabel label) (tree_stands n t (nodes_of root) h root)))

  -- demands of children, one by one
  met_suc : {X : Type 0} (f : X → List ℕ) (ts : List (Tree V)) (ds : List X) (i : ℕ) (t : Tree V) (d : X) → i < length ts → i < length ds → t ≡ get_or ts i t → d ≡ get_or ds i d
      → rows_meet (sets_of looks (relabel_all label (trees_of (drop i ts)))) (map f (drop i ds)) ≡ (list_all (has (set_of looks (relabel label t))) (f d) && rows_meet (sets_of looks (relabel_all label (trees_of (drop (suc i) ts)))) (map f (drop (suc i) ds)))
  met_suc f [] ds i t d l m e g = absurd (omega (arith, l))
  met_suc f (u ∷ ts) [] i t d l m e g = absurd (omega (arith, m))
  met_suc f (u ∷ ts) (v ∷ ds) zero t d l m e g = λ i. list_all (has (set_of looks (relabel label (sym e i)))) (f (sym g i)) && rows_meet (sets_of looks (relabel_all label (trees_of ts))) (map f ds)
  met_suc f (u ∷ ts) (v ∷ ds) (suc i) t d l m e g = met_suc f ts ds i t d (omega arith) (omega arith) e g

  pub met_step : {X : Type 0} (f : X → List ℕ) (ts : List (Tree V)) (ds : List X) (i : ℕ) (t : Tree V) (d : X) → i < length ts → i < length ds → t ≡ get_or ts i t → d ≡ get_or ds i d
      → rows_meet (sets_of looks (relabel_all label (trees_of (drop i ts)))) (map f (drop i ds)) ≡ (list_all (has (set_of looks (relabel label t))) (f d) && rows_meet (sets_of looks (relabel_all label (trees_of (drop (i + 1) ts)))) (map f (drop (i + 1) ds)))
  met_step f ts ds i t d l m e g =
      let more : suc i ≡ i + 1 = omega arith in
      met_suc f ts ds i t d l m e g ∙ ap (λ j. list_all (has (set_of looks (relabel label t))) (f d) && rows_meet (sets_of looks (relabel_all label (trees_of (drop j ts)))) (map f (drop j ds))) more

  -- the same by what is read of the marks
  pub met_test : {X : Type 0} (f : X → List ℕ) (ts : List (Tree V)) (ds : List X) (i : ℕ) (t : Tree V) (d : X) → i < length ts → i < length ds → t ≡ get_or ts i t → d ≡ get_or ds i d
      → (n : ℕ) → StandsAt n (nodes_of t) (nodes_of root) → (b : Bool) → b ≡ list_all (has (get_or rows n [])) (f d)
      → rows_meet (sets_of looks (relabel_all label (trees_of (drop i ts)))) (map f (drop i ds)) ≡ (b && rows_meet (sets_of looks (relabel_all label (trees_of (drop (i + 1) ts)))) (map f (drop (i + 1) ds)))
  met_test f ts ds i t d l m e g n h b is =
      met_step f ts ds i t d l m e g ∙ ap (λ x. x && rows_meet (sets_of looks (relabel_all label (trees_of (drop (i + 1) ts)))) (map f (drop (i + 1) ds))) (sym (is ∙ ap (λ r. list_all (has r) (f d)) (row_placed n t h)))

  pub met_ended : (ts : List (Tree V)) (i : ℕ) (ds : List (List ℕ)) → length ts ≤ i → rows_meet (sets_of looks (relabel_all label (trees_of (drop i ts)))) ds ≡ true
  met_ended ts i ds h = ap (λ us. rows_meet (sets_of looks (relabel_all label (trees_of us))) ds) (drop_all i ts h)

-- ---- rules

module _ {V : Type 0} (label : V → Label) (looks : List (List (Rule Label))) where
  pub apart_by_constructor : (t : Tree V) (r : Rule Label) → ¬ (r.constructor ≡ constructor_of t) → false ≡ rule_applies looks (relabel label t) r
  apart_by_constructor (node c l ts) r d = ap (λ b. b && (r.guard (label l) && meet_demands looks (relabel_all label ts) r.demands)) (sym (other_number r.constructor c d))

  pub apart_by_demands : (t : Tree V) (r : Rule Label) → rows_meet (sets_of looks (relabel_all label (children_of t))) r.demands ≡ false → false ≡ rule_applies looks (relabel label t) r
  apart_by_demands (node c l ts) r e = pick (r.constructor == c) (r.guard (label l)) (meet_demands looks (relabel_all label ts) r.demands) (sym (demands_meet looks (relabel_all label ts) r.demands) ∙ e)
    where
      pick : (a b m : Bool) → m ≡ false → false ≡ (a && (b && m))
      pick false b m e = refl
      pick true false m e = refl
      pick true true m e = sym e

  pub applies_by_guard : (t : Tree V) (r : Rule Label) → r.constructor ≡ constructor_of t → rows_meet (sets_of looks (relabel_all label (children_of t))) r.demands ≡ true → r.guard (label (label_of t)) ≡ rule_applies looks (relabel label t) r
  applies_by_guard (node c l ts) r e m =
      pick (r.constructor == c) (r.guard (label l)) (meet_demands looks (relabel_all label ts) r.demands) (same_number r.constructor c e) (sym (demands_meet looks (relabel_all label ts) r.demands) ∙ m)
    where
      pick : (a b m : Bool) → a ≡ true → m ≡ true → b ≡ (a && (b && m))
      pick a true m e f = λ i. sym e i && (true && sym f i)
      pick a false m e f = λ i. sym e i && false

  terms_append : (t : Tree Label) (rs ss : List (OutRule Label)) → terms_of looks t (rs ++ ss) ≡ terms_of looks t rs ++ terms_of looks t ss
  terms_append t [] ss = refl
  terms_append t (r ∷ rs) ss = ap (λ us. cond (rule_applies looks t r.rule) (r.term ∷ us) us) (terms_append t rs ss) ∙ pick (rule_applies looks t r.rule)
    where
      pick : (b : Bool) → cond b (r.term ∷ (terms_of looks t rs ++ terms_of looks t ss)) (terms_of looks t rs ++ terms_of looks t ss) ≡ cond b (r.term ∷ terms_of looks t rs) (terms_of looks t rs) ++ terms_of looks t ss
      pick true = refl
      pick false = refl

  -- one more rule
  pub terms_more : {X : Type 0} (f : X → OutRule Label) (t : Tree Label) (xs : List X) (i : ℕ) (x : X) → i < length xs → x ≡ get_or xs i x → (b : Bool) → b ≡ rule_applies looks t (f x).rule → terms_of looks t (map f (take (i + 1) xs)) ≡ terms_of looks t (map f (take i xs)) ++ cond b ((f x).term ∷ []) []
  terms_more f t xs i x low at b is =
      ap (λ ys. terms_of looks t (map f ys)) (take_more xs i x low ∙ ap (λ z. take i xs ++ z ∷ []) (sym at))
      ∙ (ap (terms_of looks t) (map-append f (take i xs) (x ∷ [])) ∙ (terms_append t (map f (take i xs)) (f x ∷ []) ∙ ap (λ c. terms_of looks t (map f (take i xs)) ++ cond c ((f x).term ∷ []) []) (sym is)))

module _ {A M : Type 0} (atom_fits : A → Type 0) (map_fits : M → Type 0) (d : OutMachine A M) (fits : LabelsFit atom_fits map_fits d) where
  -- the atoms and the maps of a state's rules
  pub state_guards : (q : ℕ) (rules : List (SttrRule A M)) → q < length d.rules → map plain_out rules ≡ get_or d.rules q [] → All (λ r. EveryAtom atom_fits (plain_rule r.rule).guard) rules
  state_guards q rules low e = All_from_map (λ r. EveryAtom atom_fits r.rule.guard) plain_out rules (subst (All (λ r. EveryAtom atom_fits r.rule.guard)) (sym e) (fits.guards q [] low))

  pub state_maps : (q : ℕ) (rules : List (SttrRule A M)) → q < length d.rules → map plain_out rules ≡ get_or d.rules q [] → All (λ r. EveryMap map_fits (plain_term r.term)) rules
  state_maps q rules low e = All_from_map (λ r. EveryMap map_fits r.term) plain_out rules (subst (All (λ r. EveryMap map_fits r.term)) (sym e) (fits.maps q [] low))

module _ {A M : Type 0} (holds : A → Label → Bool) (make : M → Label → Label) (d : OutMachine A M) where
  -- the rules of a state over labels
  pub rules_of_state : (q : ℕ) (rules : List (SttrRule A M)) → map plain_out rules ≡ get_or d.rules q [] → map (λ r. meaning_of holds make (plain_out r)) rules ≡ out_rules (transducer_of holds make d) q
  rules_of_state q rules e = sym (map-map (meaning_of holds make) plain_out rules) ∙ (ap (map (meaning_of holds make)) e ∙ sym (rules_meant holds make d q))

-- one more element has what all have
pub all_push : {X : Type 0} (P : X → Type 0) (xs more : List X) (x : X) → All P xs → P x → more ≡ xs ++ x ∷ [] → All P more
all_push P xs more x h p e = subst (All P) (sym e) (All-push P xs x h p)

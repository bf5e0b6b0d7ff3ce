-- A round over nodes splits the blocks as the theory has it.
use Rattle.std.proofs.Common.{ℕ, zero, suc, ◌≡◌, ◌<◌, inl, inr, Bool, List, [], ◌∷◌, map, set, take, get_or, length, Contains, refl, sym, ap, ap₂, subst, ◌∙◌, arith}
use Rattle.std.proofs.lemmas.Bool.{cases_eq}
use Rattle.std.proofs.lemmas.List.{length-map, length-set, get_or-map, map-set, set-set, get_or-set_same, get_or-set_other}
use Rattle.model_tree.specs.Label.{Label}
use Rattle.model_sta.specs.Sets.{Row, step}
use Rattle.model_sta.specs.Least.{rows_of, rows_at}
use Rattle.model_sta.specs.Reached.{Apart}
use Rattle.model_sta.proofs.Reached.{same_default}
use Rattle.sta_core.specs.Sta.{automaton_of}
use Rattle.sta_classes.specs.Plain.{PlainTable, class_row}
use Rattle.sta_theory.specs.Blocks.{KindTable}
use Rattle.sta_theory.specs.Made.{numbers}
use Rattle.sta_theory.specs.Rounds.{block, AreTogether, AreParted, IsSplitInto}
use Rattle.sta_theory.proofs.Lists.{map_member, in_map, none_in}
use Rattle.sta_theory.proofs.Rounds.{block_at}
use Rattle.sta_min.specs.Lists.{IsListOf}
use Rattle.sta_min.specs.Nodes.{AreNodesOver, AreAllNodes}
use Rattle.sta_min.specs.Probes.{PlainProbe, with_one, IsProbe, ArePlainProbes}
use Rattle.sta_min.specs.Rounds.{signature_at, IsFiner}
use Rattle.sta_min.specs.Steps.{IsClassOf}
use Rattle.sta_min.specs.Tables.{kind_table}

-- ---- lists

pub one_long : (kinds : List (List ℕ)) (p : ℕ) → length (with_one kinds p) ≡ length kinds
one_long [] p = refl
one_long (k ∷ kinds) zero = refl
one_long (k ∷ kinds) (suc p) = ap suc (one_long kinds p)

one_at : (kinds : List (List ℕ)) (p : ℕ) → p < length kinds → get_or (with_one kinds p) p [] ≡ take 1 (get_or kinds p [])
one_at [] p low = absurd (omega arith)
one_at (k ∷ kinds) zero low = refl
one_at (k ∷ kinds) (suc p) low = one_at kinds p (omega arith)

one_elsewhere : (kinds : List (List ℕ)) (p j : ℕ) → ¬ (j ≡ p) → get_or (with_one kinds p) j [] ≡ get_or kinds j []
one_elsewhere [] p j other = refl
one_elsewhere (k ∷ kinds) zero zero other = absurd (other refl)
one_elsewhere (k ∷ kinds) zero (suc j) other = refl
one_elsewhere (k ∷ kinds) (suc p) zero other = refl
one_elsewhere (k ∷ kinds) (suc p) (suc j) other = one_elsewhere kinds p j (λ e. other (ap suc e))

head_in : (xs : List ℕ) (x : ℕ) → Contains xs x → Contains (take 1 xs) (get_or xs 0 0)
head_in [] x at = absurd (none_in x at)
head_in (y ∷ xs) x at = (0, omega arith, refl)

from_head : (xs : List ℕ) (x : ℕ) → Contains (take 1 xs) x → Contains xs x
from_head [] x at = at
from_head (y ∷ xs) x at = go at.0 at.1 at.2
  where
    go : (k : ℕ) → k < 1 → get_or (y ∷ []) k x ≡ x → Contains (y ∷ xs) x
    go zero low is = (0, omega arith, is)
    go (suc k) low is = absurd (omega arith)

-- a choice is one of all
pub of_all : (kinds : List (List ℕ)) (p j k : ℕ) → p < length kinds → Contains (get_or (with_one kinds p) j []) k → Contains (get_or kinds j []) k
of_all kinds p j k low at = elim (cases_eq j p) [
  | inl same ↦ subst (λ i. Contains (get_or kinds i []) k) (sym same) (from_head (get_or kinds p []) k (subst (λ z. Contains z k) (ap (λ i. get_or (with_one kinds p) i []) same ∙ one_at kinds p low) at))
  | inr other ↦ subst (λ z. Contains z k) (one_elsewhere kinds p j other) at
]

-- with the first choice in its place a list is one of the lists
pub with_head : (kinds : List (List ℕ)) (p : ℕ) → p < length kinds → (ks : List ℕ) → IsListOf kinds (length kinds) ks → IsListOf (with_one kinds p) (length (with_one kinds p)) (set ks p (get_or (get_or kinds p []) 0 0))
with_head kinds p low ks is = (
  length-set ks p (get_or (get_or kinds p []) 0 0) ∙ is.0 ∙ sym (one_long kinds p),
  λ j within.
      let x : ℕ = get_or (get_or kinds p []) 0 0 in
      let j_low : j < length kinds = omega (arith, within, one_long kinds p) in
      elim (cases_eq j p) [
        | inl same ↦ subst (λ i. Contains (get_or (with_one kinds p) i []) (get_or (set ks p x) i 0)) (sym same)
            (subst (λ z. Contains z (get_or (set ks p x) p 0)) (sym (one_at kinds p low)) (subst (Contains (take 1 (get_or kinds p []))) (sym (get_or-set_same ks p x 0 (omega (arith, low, is.0)))) (head_in (get_or kinds p []) (get_or ks p 0) (is.1 p low))))
        | inr other ↦ subst (λ z. Contains z (get_or (set ks p x) j 0)) (sym (one_elsewhere kinds p j other)) (subst (Contains (get_or kinds j [])) (sym (get_or-set_other ks p j x 0 other)) (is.1 j j_low))
      ],
)

-- numbers for rows that are images of choices
pub pick : (row : ℕ → Row) (C : ℕ → List ℕ) (qs : List Row) → ((j : ℕ) → j < length qs → Contains (map row (C j)) (get_or qs j [])) → (ks : List ℕ) × (length ks ≡ length qs) × ((j : ℕ) → j < length qs → Contains (C j) (get_or ks j 0)) × (map row ks ≡ qs)
pick row C [] h = ([], refl, λ j low. absurd (omega arith), refl)
pick row C (q ∷ qs) h =
    let (k, at, is) = map_member row (C 0) q (h 0 (omega arith)) in
    let (ks, long, those, are) = pick row (λ j. C (suc j)) qs (λ j low. h (suc j) (omega arith)) in
    (k ∷ ks, ap suc long, first_of k ks at those, ap₂ (λ x xs. x ∷ xs) is are)
  where
    first_of : (k : ℕ) (ks : List ℕ) → Contains (C 0) k → ((j : ℕ) → j < length qs → Contains (C (suc j)) (get_or ks j 0)) → (j : ℕ) → j < length (q ∷ qs) → Contains (C j) (get_or (k ∷ ks) j 0)
    first_of k ks at those zero low = at
    first_of k ks at those (suc j) low = those j (omega arith)

-- lists of one length that are not one differ somewhere
differ_at : (xs ys : List ℕ) → length xs ≡ length ys → ¬ (xs ≡ ys) → (e : ℕ) × (e < length xs) × ¬ (get_or xs e 0 ≡ get_or ys e 0)
differ_at [] [] same other = absurd (other refl)
differ_at [] (y ∷ ys) same other = absurd (omega (arith, same))
differ_at (x ∷ xs) [] same other = absurd (omega (arith, same))
differ_at (x ∷ xs) (y ∷ ys) same other = elim (cases_eq x y) [
  | inl here ↦ (let (e, low, differ) = differ_at xs ys (omega (arith, same)) (λ later. other (ap₂ (λ z zs. z ∷ zs) here later)) in (suc e, omega (arith, low), differ))
  | inr differ ↦ (0, omega arith, differ)
]

-- ---- classes that nodes tell apart

module _ {A V : Type 0} (D : Label → Type 0) (label_of : V → Label) (holds : A → Label → Bool) (t : PlainTable A V) (values : List (List V)) (kinds : List (List (List ℕ)))
    (apart : Apart (rows_of t.found)) (values_many : length values ≡ length t.machine.ranks) (kinds_many : length kinds ≡ length t.machine.ranks)
    (places_many : (c : ℕ) → c < length t.machine.ranks → length (get_or kinds c []) ≡ get_or t.machine.ranks c 0)
    (probes : List PlainProbe) (are_probes : ArePlainProbes kinds (map length values) probes) (nodes : List (List ℕ)) (are : AreAllNodes label_of holds t values probes (length t.found) nodes) where
  abbrev T : KindTable Label
  T = kind_table label_of holds t values kinds

  abbrev n : ℕ
  n = length t.found

  known_many : length (rows_of t.found) ≡ n
  known_many = length-map t.found (λ f. f.row)

  module _ (bs : List ℕ) (long : length bs ≡ n) where
    abbrev B : Row → ℕ
    B = block D T bs

    -- the block of a probe's node over the class
    node_block : (i : ℕ) → i < n → (e : ℕ) → e < length probes → (p : PlainProbe) → get_or probes e p ≡ p → (v : V) → get_or (get_or values p.constructor []) p.value v ≡ v
        → B (step (automaton_of holds t.machine) p.constructor (label_of v) (set (rows_at t.found p.children) p.place (class_row t i))) ≡ get_or (map (λ m. get_or bs m 0) (get_or nodes i [])) e 0
    node_block i low e within p at v value =
        let over : AreNodesOver label_of holds t values probes i (length probes) (get_or nodes i []) = are.each i low in
        let m : ℕ = get_or (get_or nodes i []) e 0 in
        let is : IsClassOf holds t p.constructor (label_of v) (set p.children p.place i) m = over.each e within p at v value in
        ap (λ qs. B (step (automaton_of holds t.machine) p.constructor (label_of v) qs)) (sym (map-set (class_row t) p.children p.place i))
        ∙ ap B is.row_is
        ∙ block_at (rows_of t.found) bs (length (rows_of t.found)) m apart (long ∙ sym known_many) (omega (arith, is.low, known_many))
        ∙ sym (get_or-map (λ m. get_or bs m 0) (get_or nodes i []) e 0 0 (omega (arith, within, over.many)))

    abbrev tail_of : List ℕ → List ℕ
    tail_of [] = []
    tail_of (x ∷ xs) = xs

    abbrev node_blocks : ℕ → List ℕ
    node_blocks i = map (λ m. get_or bs m 0) (get_or nodes i [])

    -- one signature
    alike : (i j : ℕ) → i < n → j < n → get_or bs i 0 ≡ get_or bs j 0 → node_blocks i ≡ node_blocks j → AreTogether D T bs i j
    alike i j i_low j_low same blocks = (
      same,
      λ c low l given qs of_kinds p within.
          let (v, at_v, l_is) = map_member label_of (get_or values c []) l given in
          let (vi, vi_low, v_is) = at_v in
          let ks_c : List (List ℕ) = get_or kinds c [] in
          let wide : length qs ≡ length ks_c = of_kinds.0 ∙ sym (places_many c low) in
          let (ks, ks_long, those, ks_are) = pick (class_row t) (λ k. get_or ks_c k []) qs (λ k k_low. subst (λ z. Contains (map (class_row t) z) (get_or qs k [])) (same_default ks_c k (numbers n) [] (omega (arith, k_low, wide))) (of_kinds.1 k k_low)) in
          let p_low : p < length ks_c = omega (arith, within, wide) in
          let x : ℕ = get_or (get_or ks_c p []) 0 0 in
          let listed_so : IsListOf (with_one ks_c p) (length (with_one ks_c p)) (set ks p x) = with_head ks_c p p_low ks (ks_long ∙ wide, λ k k_low. those k (omega (arith, k_low, wide))) in
          let probe : PlainProbe = record { constructor = c; value = vi; place = p; children = set ks p x } in
          let count : get_or (map length values) c 0 ≡ length (get_or values c []) = get_or-map length values c [] 0 (omega (arith, low, values_many)) in
          let there : Contains probes probe = (are_probes probe).1 (c, omega (arith, low, kinds_many), (p, p_low, (set ks p x, listed_so, (vi, omega (arith, vi_low, count), refl)))) in
          let (e, e_low, at_e) = there in
          let rows : (k : ℕ) → set (rows_at t.found (set ks p x)) p (class_row t k) ≡ set qs p (class_row t k) =
          λ k. ap (λ z. set z p (class_row t k)) (map-set (class_row t) ks p x) ∙ set-set (map (class_row t) ks) p (class_row t x) (class_row t k) ∙ ap (λ z. set z p (class_row t k)) ks_are in
          let here : (k : ℕ) → k < n → B (step (automaton_of holds t.machine) c l (set qs p (class_row t k))) ≡ get_or (node_blocks k) e 0 =
          λ k k_low. ap (λ z. B (step (automaton_of holds t.machine) c z (set qs p (class_row t k)))) (sym l_is) ∙ ap (λ z. B (step (automaton_of holds t.machine) c (label_of v) z)) (sym (rows k)) ∙ node_block k k_low e e_low probe at_e v v_is in
          here i i_low ∙ ap (λ z. get_or z e 0) blocks ∙ sym (here j j_low),
    )

    -- two signatures
    parted : (i j : ℕ) → i < n → j < n → ¬ (node_blocks i ≡ node_blocks j) → AreParted D T bs i j
    parted i j i_low j_low other =
        let over_i : AreNodesOver label_of holds t values probes i (length probes) (get_or nodes i []) = are.each i i_low in
        let over_j : AreNodesOver label_of holds t values probes j (length probes) (get_or nodes j []) = are.each j j_low in
        let many_i : length (node_blocks i) ≡ length probes = length-map (get_or nodes i []) (λ m. get_or bs m 0) ∙ over_i.many in
        let many_j : length (node_blocks j) ≡ length probes = length-map (get_or nodes j []) (λ m. get_or bs m 0) ∙ over_j.many in
        let (e, e_low, differ) = differ_at (node_blocks i) (node_blocks j) (many_i ∙ sym many_j) other in
        let within : e < length probes = omega (arith, e_low, many_i) in
        let p : PlainProbe = get_or probes e (record { constructor = 0; value = 0; place = 0; children = [] }) in
        let at : get_or probes e p ≡ p = same_default probes e p (record { constructor = 0; value = 0; place = 0; children = [] }) within in
        of_probe e within differ p at ((are_probes p).0 (e, within, at))
      where
        of_probe : (e : ℕ) → e < length probes → ¬ (get_or (node_blocks i) e 0 ≡ get_or (node_blocks j) e 0) → (p : PlainProbe) → get_or probes e p ≡ p → IsProbe kinds (map length values) p → AreParted D T bs i j
        of_probe e within differ p at is =
            let (c, c_low, of_c) = is in
            let (place, place_low, at_place) = of_c in
            let (ks, of_choices, with_value) = at_place in
            let (vi, vi_low, p_is) = with_value in
            of_parts c c_low place place_low ks of_choices vi vi_low (subst (λ z. get_or probes e z ≡ z) (sym p_is) at)
          where
            of_parts : (c : ℕ) → c < length kinds → (place : ℕ) → place < length (get_or kinds c []) → (ks : List ℕ) → IsListOf (with_one (get_or kinds c []) place) (length (with_one (get_or kinds c []) place)) ks → (vi : ℕ) → vi < get_or (map length values) c 0
                → get_or probes e (record { constructor = c; value = vi; place = place; children = ks }) ≡ record { constructor = c; value = vi; place = place; children = ks } → AreParted D T bs i j
            of_parts c c_low place place_low ks of_choices vi vi_low at' =
                let low : c < length t.machine.ranks = omega (arith, c_low, kinds_many) in
                let count : get_or (map length values) c 0 ≡ length (get_or values c []) = get_or-map length values c [] 0 (omega (arith, low, values_many)) in
                let inside : vi < length (get_or values c []) = omega (arith, vi_low, count) in
                let wide : length ks ≡ length (get_or kinds c []) = of_choices.0 ∙ one_long (get_or kinds c []) place in
                by_value low wide inside (nth (get_or values c []) vi inside)
              where
                nth : (vs : List V) (k : ℕ) → k < length vs → (v : V) × (get_or vs k v ≡ v)
                nth [] k low = absurd (omega arith)
                nth (v ∷ vs) zero low = (v, refl)
                nth (v ∷ vs) (suc k) low = nth vs k (omega arith)

                by_value : c < length t.machine.ranks → length ks ≡ length (get_or kinds c []) → vi < length (get_or values c []) → (v : V) × (get_or (get_or values c []) vi v ≡ v) → AreParted D T bs i j
                by_value low wide inside (v, v_is) = inr (record {
                  constructor = c;
                  low = low;
                  label = label_of v;
                  given = in_map label_of (get_or values c []) v (vi, inside, v_is);
                  siblings = rows_at t.found ks;
                  are_of_kinds = (
                    length-map ks (class_row t) ∙ wide ∙ places_many c low,
                    λ k k_low.
                        let k_in : k < length ks = omega (arith, k_low, length-map ks (class_row t)) in
                        let chosen : Contains (get_or (get_or kinds c []) k []) (get_or ks k 0) = of_all (get_or kinds c []) place k (get_or ks k 0) place_low (of_choices.1 k (omega (arith, k_in, of_choices.0))) in
                        subst (λ z. Contains (map (class_row t) z) (get_or (rows_at t.found ks) k [])) (sym (same_default (get_or kinds c []) k (numbers n) [] (omega (arith, k_in, wide))))
                        (subst (Contains (map (class_row t) (get_or (get_or kinds c []) k []))) (sym (get_or-map (class_row t) ks k 0 [] k_in)) (in_map (class_row t) (get_or (get_or kinds c []) k []) (get_or ks k 0) chosen)),
                  );
                  place = place;
                  within = omega (arith, place_low, wide, length-map ks (class_row t));
                  differ = λ same. differ (
                      sym (node_block i i_low e within (record { constructor = c; value = vi; place = place; children = ks }) at' v v_is)
                      ∙ same ∙ node_block j j_low e within (record { constructor = c; value = vi; place = place; children = ks }) at' v v_is
                      );
                })

    pub is_split : (finer : List ℕ) → IsFiner nodes bs finer → IsSplitInto D T bs finer
    is_split finer is =
        let many : length nodes ≡ n = are.many in
        record {
          many = is.many ∙ many ∙ sym known_many;
          up_to = λ i low. is.up_to i (omega (arith, low, known_many, many));
          together = λ i low.
              let i_low : i < n = omega (arith, low, known_many) in
              let k_low : get_or finer i 0 < n = omega (arith, is.up_to i (omega (arith, i_low, many)), i_low) in
              let same : signature_at nodes bs (get_or finer i 0) ≡ signature_at nodes bs i = is.same i (omega (arith, i_low, many)) in
              alike (get_or finer i 0) i k_low i_low (ap (λ l. get_or l 0 0) same) (ap tail_of same);
          first = λ i low j less.
              let i_low : i < n = omega (arith, low, known_many) in
              let j_low : j < n = omega (arith, less, is.up_to i (omega (arith, i_low, many)), i_low) in
              let other : ¬ (signature_at nodes bs j ≡ signature_at nodes bs i) = is.first i (omega (arith, i_low, many)) j less in
              elim (cases_eq (get_or bs j 0) (get_or bs i 0)) [
                | inl same ↦ parted j i j_low i_low (λ blocks. other (ap₂ (λ x xs. x ∷ xs) same blocks))
                | inr differ ↦ inl differ
              ];
        }

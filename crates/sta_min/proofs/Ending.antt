-- What the rounds end with.
use Rattle.std.proofs.Common.{ℕ, ◌≡◌, ◌<◌, Vec, Bool, List, [], map, get_or, length, Contains, sym, ap, subst, ◌∙◌, arith}
use Rattle.std.proofs.lemmas.List.{length-map, get_or-map}
use Rattle.model_tree.specs.Label.{Label}
use Rattle.model_sta.specs.Sets.{has}
use Rattle.model_sta.specs.Least.{rows_of}
use Rattle.model_sta.proofs.Reached.{same_default}
use Rattle.label_core.specs.Meaning.{Meaning}
use Rattle.sta_classes.specs.Plain.{PlainTable, class_row}
use Rattle.sta_classes.specs.Rows.{lists_of}
use Rattle.sta_theory.specs.Blocks.{KindTable, IsKindTable, AreBlocks}
use Rattle.sta_theory.specs.Rounds.{AreFirsts, block, IsStart, IsDense}
use Rattle.sta_theory.proofs.Rounds.{start_firsts, start_blocks, finer_firsts}
use Rattle.sta_theory.proofs.Whole.{split_blocks}
use Rattle.sta_classes.proofs.Firsts.{element_at}
use Rattle.sta_min.specs.Firsts as firsts
use Rattle.sta_min.specs.Nodes.{IsGood, AreAllNodes, AreNodesOver}
use Rattle.sta_min.specs.Probes.{PlainProbe, IsProbe, ArePlainProbes}
use Rattle.sta_min.specs.Rounds.{AreAfter, begun, later, AreRefined, AreBelow}
use Rattle.sta_min.specs.Tables.{kind_table, IsSpace, IsPartition}
use Rattle.sta_min.proofs.Splitting.{of_all, one_long, is_split}
use Rattle.sta_min.proofs.TableFacts.{facts}

module _ {A V W : Type 0} {label_of : V → Label} {holds : A → Label → Bool} (M : Meaning label_of holds W) (t : PlainTable A V) (keeps_labels : (l : Label) → M.keeps l → M.has l) (values : List (List V)) (kinds : List (List (List ℕ)))
    (space : IsSpace label_of holds t values kinds M) where
  abbrev pub K : KindTable Label
  K = kind_table label_of holds t values kinds

  pub are_facts : IsKindTable M.has K
  are_facts = facts M t space.table space.has_kinds keeps_labels values space.tell kinds space.many space.of_kinds

  places_many : (c : ℕ) → c < length t.machine.ranks → length (get_or kinds c []) ≡ get_or t.machine.ranks c 0
  places_many c low = (space.of_kinds c low).many

  module _ (probes : List PlainProbe) (are_probes : ArePlainProbes kinds (map length values) probes) where
    -- the probes are over known classes
    pub good : (p : PlainProbe) → Contains probes p → IsGood t values p
    good p at = of_probe ((are_probes p).0 at)
      where
        of_probe : IsProbe kinds (map length values) p → IsGood t values p
        of_probe is =
            let (c, c_low, of_c) = is in
            let (place, place_low, at_place) = of_c in
            let (ks, of_choices, with_value) = at_place in
            let (vi, vi_low, p_is) = with_value in
            let low : c < length t.machine.ranks = omega (arith, c_low, space.many) in
            let count : get_or (map length values) c 0 ≡ length (get_or values c []) = get_or-map length values c [] 0 (omega (arith, low, space.tell.many)) in
            let wide : length ks ≡ length (get_or kinds c []) = of_choices.0 ∙ one_long (get_or kinds c []) place in
            subst (IsGood t values) p_is (record {
              low = low;
              value = omega (arith, vi_low, count);
              wide = wide ∙ places_many c low;
              within = omega (arith, place_low, wide);
              known = λ j d j_low.
                  let inside : j < get_or t.machine.ranks c 0 = omega (arith, j_low, wide, places_many c low) in
                  let chosen : Contains (get_or (get_or kinds c []) j []) (get_or ks j 0) = of_all (get_or kinds c []) place j (get_or ks j 0) place_low (of_choices.1 j (omega (arith, j_low, of_choices.0))) in
                  subst (λ k. k < length t.found) (same_default ks j 0 d j_low) (((space.of_kinds c low).each j inside).low (get_or ks j 0) chosen);
            })

    module _ (nodes : List (List ℕ)) (are : AreAllNodes label_of holds t values probes (length t.found) nodes) where
      -- the nodes have known classes
      node_low : (i : ℕ) → i < length t.found → (e : ℕ) → e < length (get_or nodes i []) → get_or (get_or nodes i []) e 0 < length t.found
      node_low i low e within =
          let over : AreNodesOver label_of holds t values probes i (length probes) (get_or nodes i []) = are.each i low in
          let e_low : e < length probes = omega (arith, within, over.many) in
          let (p, at) = element_at probes e e_low in
          let is_good : IsGood t values p = good p (e, e_low, at) in
          let (v, at_v) = element_at (get_or values p.constructor []) p.value is_good.value in
          (over.each e e_low p at v at_v).low

      pub are_below : {G : Type 0} (vs : List (Vec ℕ G)) → lists_of vs ≡ nodes → AreBelow (length t.found) vs
      are_below vs is k d low j e j_low =
          let inside : k < length t.found = omega (arith, low, length-map vs (λ v. v.items), ap length is, are.many) in
          let here : (get_or vs k d).items ≡ get_or nodes k [] = sym (get_or-map (λ v. v.items) vs k d [] low) ∙ ap (λ l. get_or l k []) is in
          let j_in : j < length (get_or nodes k []) = omega (arith, j_low, ap length here) in
          subst (λ x. x < length t.found) (same_default (get_or nodes k []) j 0 e j_in ∙ ap (λ l. get_or l j e) (sym here)) (node_low k inside j j_in)

      module _ (state : ℕ) (start : List ℕ) (is_start : firsts.AreFirsts (λ k. has (class_row t k) state) (length t.found) start) where
        abbrev Holds : List ℕ → Type 0
        Holds bs = AreFirsts M.has K bs × AreBlocks M.has K (λ q. has q state) (block M.has K bs)

        known_many : length (rows_of t.found) ≡ length t.found
        known_many = length-map t.found (λ f. f.row)

        starts : IsStart M.has K start (λ q. has q state)
        starts = record {
          many = is_start.many ∙ sym known_many;
          up_to = λ i low. is_start.up_to i (omega (arith, low, known_many));
          alike = λ i low. is_start.same i (omega (arith, low, known_many));
          first = λ i low. is_start.first i (omega (arith, low, known_many));
        }

        begins : Holds start
        begins = (start_firsts M.has K are_facts space.table.sets.apart (λ q. has q state) start starts, start_blocks M.has K are_facts space.table.sets.apart (λ q. has q state) start starts)

        after : (bs : List ℕ) → AreAfter nodes start bs → Holds bs
        after _ begun = begins
        after _ (later bs finer so_far round) =
            let h : Holds bs = after bs so_far in
            let long : length bs ≡ length t.found = h.0.many ∙ known_many in
            let split = is_split M.has label_of holds t values kinds space.table.sets.apart space.tell.many space.many places_many probes are_probes nodes are bs long finer round in
            (finer_firsts M.has K space.table.sets.apart bs finer split, split_blocks M.has K are_facts space.table.sets.apart (λ q. has q state) bs finer h.0 h.1 split)

        pub is_partition : (bs : List ℕ) → AreRefined nodes start bs → (firsts dense : List ℕ) → IsDense (length bs) bs firsts dense → IsPartition M.has K state firsts dense
        is_partition bs refined firsts dense numbers =
            let h : Holds bs = after bs refined.after in
            let long : length bs ≡ length t.found = h.0.many ∙ known_many in
            record {
              bs = bs;
              are_firsts = h.0;
              blocks = h.1;
              last = is_split M.has label_of holds t values kinds space.table.sets.apart space.tell.many space.many places_many probes are_probes nodes are bs long bs refined.last;
              numbers = subst (λ n. IsDense n bs firsts dense) h.0.many numbers;
            }

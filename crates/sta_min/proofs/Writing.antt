-- What is written of blocks is the least automaton.
use Rattle.std.proofs.Common.{ℕ, ◌^◌, ◌≡◌, ◌<◌, ◌==◌, inl, inr, Bool, true, List, [], ◌∷◌, ◌++◌, map, nat_lt, get_or, length, All, Contains, refl, sym, ap, ap₂, subst, ◌∙◌, arith, eqb-true, eq-eqb}
use Rattle.std.proofs.lemmas.Bool.{cases_lt, and_parts}
use Rattle.std.proofs.lemmas.Bool.Decides.{nat_tests}
use Rattle.std.proofs.lemmas.List.{length-map, map-append, get_or_past}
use Rattle.std.proofs.lemmas.Simd.{map-map}
use Rattle.std.proofs.Math.ListN.{get_or-map}
use Rattle.std.specs.List.{flat_map}
use Rattle.model_tree.specs.Formula.{formula_holds}
use Rattle.model_tree.specs.Label.{Label}
use Rattle.model_sta.specs.Automaton.{Rule, rules_of}
use Rattle.model_sta.specs.Least.{rows_of, rows_at}
use Rattle.model_sta.specs.Operations.{Auto, AgreeIn}
use Rattle.model_sta.specs.Sets.{Row, Each, has, step}
use Rattle.model_sta.proofs.Reached.{same_default}
use Rattle.model_sta.proofs.Sets.{step_agree}
use Rattle.label_core.specs.Meaning.{Meaning}
use Rattle.sta_core.specs.Machine.{PlainRule}
use Rattle.sta_core.specs.Sta.{automaton_of, rule_meaning}
use Rattle.sta_classes.specs.Plain.{PlainTable, class_row, kind_at, kind_count}
use Rattle.sta_classes.proofs.Rows.{all_each}
use Rattle.sta_theory.specs.Blocks.{KindTable, IsKindTable}
use Rattle.sta_theory.specs.Built.{keys, IsRuleFor, AreRulesOf}
use Rattle.sta_theory.specs.Kinds.{OneKind}
use Rattle.sta_theory.specs.Minimal.{is_among, next_block, AreFree, IsWritten, IsLeast}
use Rattle.sta_theory.specs.Rounds.{row_at, block_of}
use Rattle.sta_theory.proofs.Guards.{same_label_step}
use Rattle.sta_theory.proofs.Lists.{bool_same, map_member, in_map, filter_member, in_filter}
use Rattle.sta_theory.proofs.Minimal.{free_are_alike}
use Rattle.sta_theory.proofs.Rounds.{block_at, dense_blocks, dense_stable, dense_numbered, stays_stable}
use Rattle.sta_theory.proofs.Whole.{least_from_rounds}
use Rattle.sta_min.specs.Demands.{is_free}
use Rattle.sta_min.specs.Heads.{PlainHead, head_with, AreChosen}
use Rattle.sta_min.specs.Parents.{PlainParents, AreParentsOf}
use Rattle.sta_min.specs.Tables.{kind_table, IsSpace, IsPartition}
use Rattle.sta_min.specs.Written.{AreBlocksOf, AreAllRules}
use Rattle.sta_min.specs.Written as written
use Rattle.sta_min.proofs.Choosing.{choose, chosen_low}
use Rattle.sta_classes.proofs.Firsts.{element_at}
use Rattle.sta_min.proofs.Ending.{are_facts}

less : (n m : ℕ) → nat_lt n m ≡ true → n < m
less n m h = grind (arith, nat_tests)

rank_low : (ranks : List ℕ) (c j : ℕ) → j < get_or ranks c 0 → c < length ranks
rank_low ranks c j low = elim (cases_lt c (length ranks)) [ inl there ↦ there | inr past ↦ absurd (omega (arith, low, get_or_past ranks c 0 past)) ]

map_flat : {X Y : Type 0} (f : X → Y) (rules : List (List X)) (states : List ℕ) → map f (flat_map (λ i. get_or rules i []) states) ≡ flat_map (λ i. get_or (map (map f) rules) i []) states
map_flat f rules [] = refl
map_flat f rules (i ∷ states) = map-append f (get_or rules i []) (flat_map (λ i. get_or rules i []) states) ∙ ap₂ (λ x y. x ++ y) (sym (get_or-map (map f) rules i [])) (map_flat f rules states)

module _ {A V W : Type 0} {label_of : V → Label} {holds : A → Label → Bool} (M : Meaning label_of holds W) (keeps_labels : (l : Label) → M.keeps l → M.has l) (eq : A → A → Bool) (t : PlainTable A V) (values : List (List V)) (kinds : List (List (List ℕ)))
    (space : IsSpace label_of holds t values kinds M) (start : ℕ) (firsts dense : List ℕ) (part : IsPartition M.has (kind_table label_of holds t values kinds) start firsts dense) where
  abbrev K : KindTable Label
  K = kind_table label_of holds t values kinds

  abbrev n : ℕ
  n = length firsts

  abbrev over : List (List (Rule Label))
  over = automaton_of holds t.machine

  abbrev one_of : ℕ → Row
  one_of k = row_at M.has K part.bs (get_or firsts k 0)

  abbrev next : ℕ → Label → List ℕ → ℕ
  next = next_block K (block_of K.known dense n) one_of

  facts : IsKindTable M.has K
  facts = are_facts M t keeps_labels values kinds space

  known_many : length (rows_of t.found) ≡ length t.found
  known_many = length-map t.found (λ f. f.row)

  pub dense_low : (k : ℕ) → k < length t.found → get_or dense k 0 < n
  dense_low k low = part.numbers.place_low k (omega (arith, low, known_many))

  class_block : (k : ℕ) → k < length t.found → block_of K.known dense n (class_row t k) ≡ get_or dense k 0
  class_block k low = block_at K.known dense n k space.table.sets.apart part.numbers.many (omega (arith, low, known_many))

  -- a free place is one of a constructor, and there is a class then
  some_block : (c j : ℕ) → is_free t c j ≡ true → 0 < n
  some_block c j e =
      let (within, one) = and_parts (nat_lt j (get_or t.machine.ranks c 0)) (kind_count t c j == 1) e in
      let j_low : j < get_or t.machine.ranks c 0 = less j (get_or t.machine.ranks c 0) within in
      let (k, low, is) = space.has_kinds.all c j 0 (rank_low t.machine.ranks c j j_low) j_low (omega (arith, eqb-true (kind_count t c j) 1 one)) in
      omega (arith, dense_low k low)

  pub are_blocks : length firsts < 2 ^ 32 → AreBlocksOf t firsts dense
  are_blocks few = record {
    few = few;
    known = λ k d low. subst (λ x. x < length t.found) (same_default firsts k 0 d low) (omega (arith, part.numbers.first_low k low, known_many));
    many = part.numbers.many ∙ known_many;
    some = some_block;
  }

  pub are_free : AreFree K (is_free t)
  are_free c j e q r at_q at_r =
      let (within, one) = and_parts (nat_lt j (get_or t.machine.ranks c 0)) (kind_count t c j == 1) e in
      let j_low : j < get_or t.machine.ranks c 0 = less j (get_or t.machine.ranks c 0) within in
      let c_low : c < length t.machine.ranks = rank_low t.machine.ranks c j j_low in
      let k : ℕ = at_q.0 in
      let m : ℕ = at_r.0 in
      let k_low : k < length t.found = omega (arith, at_q.1, known_many) in
      let m_low : m < length t.found = omega (arith, at_r.1, known_many) in
      let same : kind_at t c j k ≡ kind_at t c j m = omega (arith, eqb-true (kind_count t c j) 1 one, space.has_kinds.low c j k c_low j_low k_low, space.has_kinds.low c j m c_low j_low m_low) in
      let is_q : class_row t k ≡ q = same_default (rows_of t.found) k [] q at_q.1 ∙ at_q.2 in
      let is_r : class_row t m ≡ r = same_default (rows_of t.found) m [] r at_r.1 ∙ at_r.2 in
      subst (λ x. OneKind over c j x r) is_q (subst (λ x. OneKind over c j (class_row t k) x) is_r ((space.has_kinds.same c j k m c_low j_low k_low m_low).0 same))

  -- ---- nodes over children of some blocks

  module _ (c : ℕ) (c_low : c < length t.machine.ranks) (ks : List ℕ) (p : PlainParents) (are : AreParentsOf label_of holds t values firsts (head_with c (is_free t c) ks) p) where
    rows_are : map one_of ks ≡ rows_at t.found p.children
    rows_are = sym (ap (rows_at t.found) are.children_are ∙ map-map (class_row t) (λ k. get_or firsts k 0) ks)

    step_is : (l : Label) → step over c l (map one_of ks) ≡ step over p.constructor l (rows_at t.found p.children)
    step_is l = ap (step over c l) rows_are ∙ ap (λ b. step over b l (rows_at t.found p.children)) (sym are.constructor_is)

    -- the class of such a node is a target
    node_class : (l : Label) → M.has l → (k : ℕ) × Contains p.targets k × (k < length t.found) × (step over p.constructor l (rows_at t.found p.children) ≡ class_row t k)
    node_class l d =
        let (w, given, agree) = facts.covers p.constructor (subst (λ b. b < length t.machine.ranks) (sym are.constructor_is) c_low) l d in
        let (v, at_v, w_is) = map_member label_of (get_or values p.constructor []) w given in
        let (k, at_k, is) = are.targets.complete v at_v in
        let qs : List Row = rows_at t.found p.children in
        (k, at_k, is.low, sym (step_agree p.constructor l w qs over agree) ∙ ap (λ z. step over p.constructor z qs) (sym w_is) ∙ is.row_is)

    next_is : (l : Label) (k : ℕ) → k < length t.found → step over p.constructor l (rows_at t.found p.children) ≡ class_row t k → next c l ks ≡ get_or dense k 0
    next_is l k low is = ap (block_of K.known dense n) (step_is l ∙ is) ∙ class_block k low

    module _ (i : ℕ) (r : PlainRule A) (is : written.IsRuleFor eq holds t dense i p r) where
      abbrev guard_at : Label → Bool
      guard_at l = formula_holds (λ a. holds a l) r.guard

      in_block : (k : ℕ) → Contains (written.classes_in dense i p.targets) k → Contains p.targets k × (get_or dense k 0 ≡ i)
      in_block k at = let (there, test) = filter_member (λ m. get_or dense m 0 == i) p.targets k at in (there, eqb-true (get_or dense k 0) i test)

      holds_next : (l : Label) → guard_at l ≡ true → next c l ks ≡ i
      holds_next l h =
          let (k, at, row) = (is.guard.holds_there l).0 h in
          let (there, same) = in_block k at in
          let (v, at_v, of_v) = are.targets.sound k there in
          next_is l k of_v.low row ∙ same

      next_holds : (l : Label) → M.has l → next c l ks ≡ i → guard_at l ≡ true
      next_holds l d e =
          let (k, at, low, row) = node_class l d in
          let same : get_or dense k 0 ≡ i = sym (next_is l k low row) ∙ e in
          (is.guard.holds_there l).1 (k, in_filter (λ m. get_or dense m 0 == i) p.targets k at (eq-eqb (get_or dense k 0) i same), row)

      rule_is : IsRuleFor K.ranks M.has n next (is_free t) i c ks (rule_meaning holds r)
      rule_is = record {
        constructor_is = is.constructor_is ∙ are.constructor_is;
        demands_are = is.demands_are ∙ are.demands_are;
        guard_is = λ l d. bool_same (guard_at l) (next c l ks == i) (λ h. eq-eqb (next c l ks) i (holds_next l h)) (λ h. next_holds l d (eqb-true (next c l ks) i h));
      }

      guard_goes : (l m : Label) → step over p.constructor l (rows_at t.found p.children) ≡ step over p.constructor m (rows_at t.found p.children) → guard_at l ≡ true → guard_at m ≡ true
      guard_goes l m same h = let (k, at, row) = (is.guard.holds_there l).0 h in (is.guard.holds_there m).1 (k, at, sym same ∙ row)

      guard_agrees : (l m : Label) → AgreeIn over l m → guard_at l ≡ guard_at m
      guard_agrees l m agree =
          let same : step over p.constructor l (rows_at t.found p.children) ≡ step over p.constructor m (rows_at t.found p.children) = same_label_step l m p.constructor (rows_at t.found p.children) over agree in
          bool_same (guard_at l) (guard_at m) (guard_goes l m same) (guard_goes m l (sym same))

  -- ---- the rules

  -- over which blocks a rule of a block is
  pub record IsOver (i : ℕ) (r : PlainRule A) : Type 0 where
    pub constructor : ℕ
    pub low : constructor < length t.machine.ranks
    pub blocks : List ℕ
    pub are_low : Each (λ k. k < n) blocks
    pub wide : length blocks ≡ get_or t.machine.ranks constructor 0
    pub parents : PlainParents
    pub are : AreParentsOf label_of holds t values firsts (head_with constructor (is_free t constructor) blocks) parents
    pub rule : written.IsRuleFor eq holds t dense i parents r

  module _ (finals : List ℕ) (rules : List (List (PlainRule A))) (all : AreAllRules eq label_of holds t values firsts dense finals rules) where
    pub rule_of : (i : ℕ) → i < n → (r : PlainRule A) → Contains (get_or rules i []) r → IsOver i r
    rule_of i low r at =
        let (p, at_p, is) = (all.blocks i low).sound r at in
        let e : ℕ = at_p.0 in
        let e_low : e < length all.heads = omega (arith, at_p.1, all.are_parents.many) in
        let (h, at_h) = element_at all.heads e e_low in
        let (c, c_low, head) = (all.are_heads h).0 (e, e_low, at_h) in
        let (ks, chosen, h_is) = head in
        record {
          constructor = c;
          low = c_low;
          blocks = ks;
          are_low = chosen_low n (is_free t c) ks (λ j l. chosen.1 j (omega (arith, l, chosen.0))) (λ j l free. some_block c j free);
          wide = chosen.0;
          parents = p;
          are = subst (λ z. AreParentsOf label_of holds t values firsts z p) (sym h_is) (all.are_parents.each e e_low h at_h p at_p.2);
          rule = is;
        }

    abbrev meant : List (List (Rule Label))
    meant = map (map (rule_meaning holds)) rules

    meant_at : (i : ℕ) → rules_of meant i ≡ map (rule_meaning holds) (get_or rules i [])
    meant_at i = get_or-map (map (rule_meaning holds)) rules i []

    pub from_meant : (i : ℕ) (r : Rule Label) → Contains (rules_of meant i) r → (p : PlainRule A) × Contains (get_or rules i []) p × (rule_meaning holds p ≡ r)
    from_meant i r at = map_member (rule_meaning holds) (get_or rules i []) r (subst (λ rs. Contains rs r) (meant_at i) at)

    module _ (finals_are : (k : ℕ) → k < n → is_among finals k ≡ has (class_row t (get_or firsts k 0)) start) where
      -- children at free places count for nothing
      alike : (c : ℕ) → c < length t.machine.ranks → (l : Label) (js ks : List ℕ) → Each (λ k. k < n) js → length js ≡ get_or t.machine.ranks c 0 → Each (λ k. k < n) ks → length ks ≡ get_or t.machine.ranks c 0
          → keys (is_free t c) js ≡ keys (is_free t c) ks → next c l js ≡ next c l ks
      alike c low l js ks js_low js_wide ks_low ks_wide same =
          let final : Row → Bool = λ q. has q start in
          let apart = space.table.sets.apart in
          free_are_alike M.has K facts final (block_of K.known dense n) n one_of finals
          (dense_blocks M.has K facts apart final part.bs firsts dense part.are_firsts part.numbers part.blocks)
          (dense_stable M.has K facts apart final part.bs firsts dense part.are_firsts part.numbers (stays_stable M.has K facts apart final part.bs part.last))
          (dense_numbered M.has K facts apart final part.bs firsts dense part.are_firsts part.numbers part.blocks finals finals_are)
          (is_free t) are_free c low l js ks (js_low, js_wide) (ks_low, ks_wide) same

      rules_are : AreRulesOf K.ranks M.has n next (is_free t) meant
      rules_are = record {
        sound = λ i low r at.
            let (p, at_p, is) = from_meant i r at in
            let here : IsOver i p = rule_of i low p at_p in
            let rule : IsRuleFor K.ranks M.has n next (is_free t) i here.constructor here.blocks (rule_meaning holds p) = rule_is here.constructor here.low here.blocks here.parents here.are i p here.rule in
            (here.constructor, here.low, here.blocks, (here.are_low, here.wide), subst (IsRuleFor K.ranks M.has n next (is_free t) i here.constructor here.blocks) is rule);
        complete = λ i low c c_low ks ks_are l d e.
            let (js, js_low, js_long, may, same) = choose n (is_free t c) ks ks_are.0 in
            let wide : length js ≡ get_or t.machine.ranks c 0 = js_long ∙ ks_are.1 in
            let h : PlainHead = head_with c (is_free t c) js in
            let chosen : AreChosen t n c js = (wide, λ j l. may j (omega (arith, l, ks_are.1))) in
            let at_h : Contains all.heads h = (all.are_heads h).1 (c, c_low, (js, chosen, refl)) in
            let x : ℕ = at_h.0 in
            let (p, at_p) = element_at all.parents x (omega (arith, at_h.1, all.are_parents.many)) in
            let are : AreParentsOf label_of holds t values firsts h p = all.are_parents.each x at_h.1 h at_h.2 p at_p in
            let (k, at_k, k_low, row) = node_class c c_low js p are l d in
            let there : get_or dense k 0 ≡ i = sym (next_is c c_low js p are l k k_low row) ∙ alike c c_low l js ks js_low wide ks_are.0 ks_are.1 same ∙ e in
            let (r, at_r, is) = (all.blocks i low).complete p (x, omega (arith, at_h.1, all.are_parents.many), at_p) k at_k there in (
              rule_meaning holds r,
              subst (λ rs. Contains rs (rule_meaning holds r)) (sym (meant_at i)) (in_map (rule_meaning holds) (get_or rules i []) r at_r),
              js,
              (js_low, wide),
              rule_is c c_low js p are i r is,
              same,
            );
      }

      -- the last state is the language's
      is_written : (a c : Auto Label) → a.rules ≡ over → c.rules ≡ meant → c.start ≡ n → Each (λ k. k < n) finals → IsWritten K.ranks M.has a n finals next (is_free t) c
      is_written a c same are start_is low =
          subst (λ z. IsWritten K.ranks M.has a n finals next (is_free t) (record { rules = z; start = c.start })) (sym are) (record {
            many = length-map rules (map (rule_meaning holds)) ∙ all.many;
            start_is = start_is;
            low = low;
            rules_are = rules_are;
            guards_agree = λ l m agree i i_low r at.
                let (p, at_p, is) = from_meant i r at in
                let here : IsOver i p = rule_of i i_low p at_p in
                subst (λ z. z.guard l ≡ z.guard m) is (guard_agrees here.constructor here.low here.blocks here.parents here.are i p here.rule l m (subst (λ z. AgreeIn z l m) same agree));
            last_are = meant_at n ∙ ap (map (rule_meaning holds)) all.last ∙ map_flat (rule_meaning holds) rules finals;
          })

      pub is_least : (a c : Auto Label) → a.rules ≡ over → a.start ≡ start → c.rules ≡ meant → c.start ≡ n → All (λ k. k < n) finals → IsLeast t.machine.ranks M.has a c n finals
      is_least a c same start_same are start_is low =
          subst (λ s. IsLeast t.machine.ranks M.has (record { rules = a.rules; start = s }) c n finals) (sym start_same)
          (least_from_rounds M.has K facts space.table.sets.apart (record { rules = a.rules; start = start }) c (sym same) part.bs firsts dense finals
          (record { are_firsts = part.are_firsts; blocks = part.blocks; last = part.last; numbers = part.numbers; finals_are = finals_are })
          (is_free t) are_free (is_written (record { rules = a.rules; start = start }) c same are start_is (all_each (λ k. k < n) finals low)))

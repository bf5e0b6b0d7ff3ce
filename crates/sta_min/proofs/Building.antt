-- From heads and parents to the rules of all blocks and of the last state.
use Rattle.std.proofs.Common.{ℕ, ◌+◌, ◌≡◌, ◌<◌, inl, inr, Bool, Vec, List, [], ◌∷◌, ◌++◌, map, take, get_or, length, All, Contains, refl, sym, ap, ap₂, subst, ◌∙◌, arith}
use Rattle.std.specs.List.{flat_map}
use Rattle.std.proofs.lemmas.Bool.{cases_lt}
use Rattle.std.proofs.lemmas.List.{length-map, length_push, map-append, take_more, get_or-map, get_or_append_left, get_or_at, flat_map_more}
use Rattle.model_tree.specs.Label.{Label}
use Rattle.model_sta.proofs.Reached.{same_default}
use Rattle.sta_core.specs.Machine.{PlainRule, plain_rule}
use Rattle.sta_core.specs.declared.StaRule.{StaRule}
use Rattle.sta_classes.specs.Plain.{PlainTable}
use Rattle.sta_classes.specs.Rules.{plain_rules}
use Rattle.sta_classes.proofs.Rows.{each_all}
use Rattle.sta_theory.proofs.Lists.{map_member, in_map, first_in, later_in}
use Rattle.sta_ops.proofs.EachRule.{all_in, in_all}
use Rattle.sta_min.specs.Demands.{is_free}
use Rattle.sta_min.specs.Heads.{PlainHead, plain_head, AreHeads, IsGoodHead}
use Rattle.sta_min.specs.Parents.{PlainParents, plain_parents, AreParentsOf, AreAllParents}
use Rattle.sta_min.specs.Written.{AreRulesFor, AreRulesOfBlocks, IsGoodParents, AreBlocksOf, AreAllRules}
use Rattle.sta_min.specs.declared.heads.Head.{Head}
use Rattle.sta_min.specs.declared.parents.Parents.{Parents}
use Rattle.sta_min.proofs.Choosing.{chosen_low}
use Rattle.sta_classes.proofs.Firsts.{element_at}
use Rattle.sta_min.proofs.Made.{AreMade, made_more}

flat_same : {X : Type 0} (old new : List (List X)) (n : ℕ) → ((i : ℕ) → i < n → get_or new i [] ≡ get_or old i []) → (states : List ℕ) → ((i : ℕ) → Contains states i → i < n) → flat_map (λ i. get_or old i []) states ≡ flat_map (λ i. get_or new i []) states
flat_same old new n h [] low = refl
flat_same old new n h (i ∷ states) low = ap₂ (λ x y. x ++ y) (sym (h i (low i (first_in i states)))) (flat_same old new n h states (λ j at. low j (later_in i j states at)))

module _ {A V : Type 0} (t : PlainTable A V) (firsts dense : List ℕ) (blocks : AreBlocksOf t firsts dense) where
  good_head : (heads : List PlainHead) → AreHeads t (length firsts) (length t.machine.ranks) heads → (h : PlainHead) → Contains heads h → IsGoodHead t (length firsts) h
  good_head heads are h at =
      let (c, c_low, head) = (are h).0 at in
      let (ks, chosen, is) = head in
      subst (IsGoodHead t (length firsts)) is (record {
        low = c_low;
        wide = chosen.0;
        known = each_all (λ k. k < length firsts) ks (chosen_low (length firsts) (is_free t c) ks (λ j l. chosen.1 j (omega (arith, l, chosen.0))) (λ j l free. blocks.some c j free));
      })

  pub good_heads : (heads given : List Head) → given ≡ heads → AreHeads t (length firsts) (length t.machine.ranks) (map plain_head heads) → All (λ h. IsGoodHead t (length firsts) (plain_head h)) given
  good_heads heads given same are = subst (All (λ h. IsGoodHead t (length firsts) (plain_head h))) (sym same) (in_all (λ h. IsGoodHead t (length firsts) (plain_head h)) heads (λ h at. good_head (map plain_head heads) are (plain_head h) (in_map plain_head heads h at)))

  module _ (label_of : V → Label) (holds : A → Label → Bool) (values : List (List V)) where
    good_one : (h : PlainHead) → IsGoodHead t (length firsts) h → (p : PlainParents) → AreParentsOf label_of holds t values firsts h p → IsGoodParents t p
    good_one h good p are = record {
      children = in_all (λ k. k < length t.found) p.children (λ k at.
          let (b, at_b, is) = map_member (λ b. get_or firsts b 0) h.blocks k (subst (λ l. Contains l k) are.children_are at) in
          let low : b < length firsts = all_in (λ b. b < length firsts) h.blocks good.known b at_b in
          subst (λ x. x < length t.found) is (blocks.known b 0 low));
      targets = in_all (λ k. k < length t.found) p.targets (λ k at. (let (v, at_v, of_v) = are.targets.sound k at in of_v.low));
    }

    pub good_parents : (heads : List PlainHead) → AreHeads t (length firsts) (length t.machine.ranks) heads → (parents given : List Parents) → given ≡ parents → AreAllParents label_of holds t values firsts heads (length heads) (map plain_parents parents)
        → All (λ p. IsGoodParents t (plain_parents p)) given
    good_parents heads are_heads parents given same are = subst (All (λ p. IsGoodParents t (plain_parents p))) (sym same) (in_all (λ p. IsGoodParents t (plain_parents p)) parents (λ p at.
        let (i, low, is) = in_map plain_parents parents p at in
        let i_low : i < length heads = omega (arith, low, are.many) in
        let (h, at_h) = element_at heads i i_low in
        good_one h (good_head heads are_heads h (i, i_low, at_h)) (plain_parents p) (are.each i i_low h at_h (plain_parents p) is)))

    module _ (eq : A → A → Bool) (heads : List PlainHead) (are_heads : AreHeads t (length firsts) (length t.machine.ranks) heads) (parents : List PlainParents) (are_parents : AreAllParents label_of holds t values firsts heads (length heads) parents)
        (finals : List ℕ) (finals_low : All (λ i. i < length firsts) finals) where
      pub all_rules : (old new : List (List (PlainRule A))) (last : List (PlainRule A)) → AreRulesOfBlocks eq holds t dense parents (length firsts) old → last ≡ flat_map (λ i. get_or old i []) finals → new ≡ old ++ last ∷ [] → AreAllRules eq label_of holds t values firsts dense finals new
      all_rules old new last are last_is put =
          let before : (i : ℕ) → i < length firsts → get_or new i [] ≡ get_or old i [] = λ i low. ap (λ l. get_or l i []) put ∙ get_or_append_left old (last ∷ []) [] i (omega (arith, low, are.many)) in
          record {
            heads = heads;
            parents = parents;
            are_heads = are_heads;
            are_parents = are_parents;
            many = omega (arith, ap length put, length_push old last, are.many);
            blocks = λ i low. subst (AreRulesFor eq holds t dense i parents) (sym (before i low)) (are.each i low);
            last = ap (λ l. get_or l (length firsts) []) put ∙ get_or_at old last [] [] (length firsts) are.many ∙ last_is ∙ flat_same old new (length firsts) before finals (λ i at. all_in (λ k. k < length firsts) finals finals_low i at);
          }

pub rules_push : {A G : Type 0} (old new : List (Vec (StaRule A) G)) (last : Vec (StaRule A) G) → new ≡ old ++ last ∷ [] → plain_rules new ≡ plain_rules old ++ map plain_rule last.items ∷ []
rules_push old new last put = ap plain_rules put ∙ map-append (λ those. map plain_rule those.items) old (last ∷ [])

-- ---- one more

module _ {A V : Type 0} (label_of : V → Label) (holds : A → Label → Bool) (t : PlainTable A V) (values : List (List V)) (firsts : List ℕ) (heads : List PlainHead) where
  pub no_parents : (parents : List PlainParents) → parents ≡ [] → AreAllParents label_of holds t values firsts heads 0 parents
  no_parents parents is = record { many = ap length is; each = λ i low. absurd (omega arith) }

  pub parents_more : (n : ℕ) → n < length heads → (old new : List PlainParents) (h : PlainHead) → h ≡ get_or heads n h → (p : PlainParents) → AreAllParents label_of holds t values firsts heads n old → AreParentsOf label_of holds t values firsts h p → new ≡ old ++ p ∷ []
      → AreAllParents label_of holds t values firsts heads (n + 1) new
  parents_more n low old new h at p are is put = record {
    many = omega (arith, ap length put, length_push old p, are.many);
    each = λ i i_low k at_k q at_q. elim (cases_lt i n) [
      | inl before ↦ are.each i before k at_k q (sym (ap (λ l. get_or l i q) put ∙ get_or_append_left old (p ∷ []) q i (omega (arith, before, are.many))) ∙ at_q)
      | inr after ↦ (
          let last : i ≡ n = omega (arith, i_low, after) in
          let same_h : h ≡ k = at ∙ same_default heads n h k low ∙ ap (λ j. get_or heads j k) (sym last) ∙ at_k in
          let same_p : p ≡ q = sym (ap (λ l. get_or l i q) put ∙ get_or_at old p [] q i (are.many ∙ sym last)) ∙ at_q in
          subst (λ z. AreParentsOf label_of holds t values firsts z q) same_h (subst (AreParentsOf label_of holds t values firsts h) same_p is))
    ];
  }

module _ {A V : Type 0} (eq : A → A → Bool) (holds : A → Label → Bool) (t : PlainTable A V) (dense : List ℕ) (parents : List PlainParents) where
  pub no_blocks : (rules : List (List (PlainRule A))) → rules ≡ [] → AreRulesOfBlocks eq holds t dense parents 0 rules
  no_blocks rules is = record { many = ap length is; each = λ i low. absurd (omega arith) }

  pub blocks_more : {G : Type 0} (n : ℕ) (old new : List (Vec (StaRule A) G)) (those : Vec (StaRule A) G) → AreRulesOfBlocks eq holds t dense parents n (plain_rules old) → AreRulesFor eq holds t dense n parents (map plain_rule those.items) → new ≡ old ++ those ∷ []
      → AreRulesOfBlocks eq holds t dense parents (n + 1) (plain_rules new)
  blocks_more n old new those are is put =
      let made : AreMade [] (λ i rs. AreRulesFor eq holds t dense i parents rs) (n + 1) (plain_rules new) =
      made_more [] (λ i rs. AreRulesFor eq holds t dense i parents rs) n (plain_rules old) (plain_rules new) (map plain_rule those.items) (record { many = are.many; each = are.each }) is (rules_push old new those put) in
      record { many = made.many; each = made.each }

pub joined_more : {X : Type 0} (f : ℕ → List X) (states : List ℕ) (i : ℕ) → i < length states → (old new those : List X) → old ≡ flat_map f (take i states) → those ≡ f (get_or states i 0) → new ≡ old ++ those → new ≡ flat_map f (take (i + 1) states)
joined_more f states i low old new those so_far is put =
    put ∙ ap₂ (λ x y. x ++ y) so_far is ∙ flat_map_more f [] (take i states) (get_or states i 0) ∙ sym (ap (flat_map f) (take_more states i 0 low))

-- the first classes of blocks are known
pub firsts_known : (n : ℕ) (firsts blocks children : List ℕ) → All (λ k. k < n) firsts → All (λ b. b < length firsts) blocks → children ≡ map (λ b. get_or firsts b 0) blocks → All (λ k. k < n) children
firsts_known n firsts blocks children known low are = subst (All (λ k. k < n)) (sym are) (in_all (λ k. k < n) (map (λ b. get_or firsts b 0) blocks) (λ k at.
    let (b, at_b, is) = map_member (λ b. get_or firsts b 0) blocks k at in
    subst (λ x. x < n) is (known b 0 (all_in (λ b. b < length firsts) blocks low b at_b))))

pub state_rules : {A G : Type 0} (xs : List (Vec (StaRule A) G)) (i : ℕ) (v : Vec (StaRule A) G) (rs : List (StaRule A)) → i < length xs → v ≡ get_or xs i v → rs ≡ v.items → map plain_rule rs ≡ get_or (plain_rules xs) i []
state_rules xs i v rs low at is = ap (map plain_rule) is ∙ ap (λ z. map plain_rule z.items) at ∙ sym (get_or-map (λ those. map plain_rule those.items) xs i v [] low)

-- ---- the same by the names that a function has for them

pub known_heads : {A V : Type 0} (t : PlainTable A V) (count n : ℕ) (ranks : List ℕ) (heads : List Head) → count ≡ n → ranks ≡ t.machine.ranks → AreHeads t count (length ranks) (map plain_head heads) → AreHeads t n (length t.machine.ranks) (map plain_head heads)
known_heads t count n ranks heads many same are = subst (λ k. AreHeads t k (length t.machine.ranks) (map plain_head heads)) many (subst (λ r. AreHeads t count (length r) (map plain_head heads)) same are)

pub known_parents : {A V : Type 0} (label_of : V → Label) (holds : A → Label → Bool) (t : PlainTable A V) (values : List (List V)) (given firsts : List ℕ) → given ≡ firsts → (heads those : List Head) → those ≡ heads → (parents : List Parents)
    → AreAllParents label_of holds t values given (map plain_head those) (length those) (map plain_parents parents) → AreAllParents label_of holds t values firsts (map plain_head heads) (length (map plain_head heads)) (map plain_parents parents)
known_parents label_of holds t values given firsts same heads those are_heads parents are =
    subst (λ n. AreAllParents label_of holds t values firsts (map plain_head heads) n (map plain_parents parents)) (sym (length-map heads plain_head))
    (subst (λ hs. AreAllParents label_of holds t values firsts (map plain_head hs) (length hs) (map plain_parents parents)) are_heads
    (subst (λ fs. AreAllParents label_of holds t values fs (map plain_head those) (length those) (map plain_parents parents)) same are))

-- The automaton of stable blocks is the least one.
use Rattle.std.proofs.Common.{ℕ, zero, suc, ◌≡◌, ◌<◌, ◌⊎◌, ◌↔◌, inl, inr, Bool, true, false, cond, ◌||◌, ◌==◌, List, [], ◌∷◌, ◌++◌, get_or, map, length, Contains, refl, sym, ap, ap₂, subst, ◌∙◌, arith, eqb-true, eq-eqb}
use Rattle.std.proofs.lemmas.Bool.{cases_lt}
use Rattle.std.proofs.lemmas.List.Folds.{list_any-append}
use Rattle.std.specs.List.{list_any, flat_map}
use Rattle.model_tree.specs.Tree.{Tree, node, Trees, no_trees, tree}
use Rattle.model_sta.specs.Automaton.{Rule, rules_of, is_accepted}
use Rattle.model_sta.specs.Sets.{Row, Each, has, fires, step, set_of, sets_of, Fits, FitsAll}
use Rattle.model_sta.proofs.Sets.{step_agree, width_sets}
use Rattle.sta_theory.specs.Kinds.{OneKind, OneKinds}
use Rattle.model_sta.specs.Operations.{Auto, Has, Alike, OfClasses, AgreeIn, KeepsGuards, IsMinimal}
use Rattle.sta_theory.specs.Machines.{states, IsLeastMachine}
use Rattle.sta_theory.specs.Blocks.{KindTable, IsKindTable, IsStable, AreBlocks, AreNumbered, member_of}
use Rattle.sta_theory.specs.Built.{keys, FreeAreAlike, AreStatesOf}
use Rattle.sta_theory.specs.Minimal.{is_among, next_block, AreFree, IsWritten, IsLeast}
use Rattle.sta_theory.proofs.Lists.{append_member}
use Rattle.sta_theory.proofs.Fires.{step_same_kinds}
use Rattle.sta_theory.proofs.Guards.{AgreeOn, none_past}
use Rattle.sta_theory.proofs.Beside.{some_apply, accepted_some}
use Rattle.sta_theory.proofs.Complement.{as_true}
use Rattle.sta_theory.proofs.Contexts.{is_count}
use Rattle.sta_theory.proofs.Deterministic.{no_shorter}
use Rattle.sta_theory.proofs.Blocks.{sets_known, same_blocks, states_are, blocks_least}
use Rattle.sta_theory.proofs.Built.{accepted_is_state, built_deterministic}
use Rattle.sta_theory.proofs.Rows.{set_long, of_block}

-- ---- what equal keys say of sets that stand for the states

key_cases : (b : Bool) (x y : ℕ) → cond b [] (x ∷ []) ≡ cond b [] (y ∷ []) → (b ≡ true) ⊎ (x ≡ y)
key_cases true x y e = inl refl
key_cases false x y e = inr (ap (λ ks. get_or ks 0 0) e)

abbrev tail : List (List ℕ) → List (List ℕ)
tail [] = []
tail (d ∷ ds) = ds

module _ (n : ℕ) (one_of : ℕ → Row) where
  abbrev Places : (ℕ → Row → Row → Type 0) → List ℕ → List ℕ → Type 0
  Places R js ks = (length (map one_of js) ≡ length (map one_of ks)) × ((j : ℕ) → j < length (map one_of js) → R j (get_or (map one_of js) j []) (get_or (map one_of ks) j []))

  places_more : (R : ℕ → Row → Row → Type 0) (x y : ℕ) (js ks : List ℕ) → R 0 (one_of x) (one_of y) → Places (λ j. R (suc j)) js ks → (j : ℕ) → j < suc (length (map one_of js))
      → R j (get_or (map one_of (x ∷ js)) j []) (get_or (map one_of (y ∷ ks)) j [])
  places_more R x y js ks r h zero low = r
  places_more R x y js ks r h (suc j) low = h.1 j (omega arith)

  places_of_keys : (free : ℕ → Bool) (R : ℕ → Row → Row → Type 0) → ((j x y : ℕ) → x < n → y < n → (free j ≡ true) ⊎ (x ≡ y) → R j (one_of x) (one_of y))
      → (js ks : List ℕ) → Each (λ k. k < n) js → Each (λ k. k < n) ks → keys free js ≡ keys free ks → Places R js ks
  places_of_keys free R f [] [] a b e = (refl, λ j low. absurd (omega arith))
  places_of_keys free R f [] (k ∷ ks) a b e = absurd (omega (arith, ap length e))
  places_of_keys free R f (j ∷ js) [] a b e = absurd (omega (arith, ap length e))
  places_of_keys free R f (j ∷ js) (k ∷ ks) a b e =
      let more : Places (λ p. R (suc p)) js ks = places_of_keys (λ p. free (suc p)) (λ p. R (suc p)) (λ p. f (suc p)) js ks a.1 b.1 (ap tail e) in
      let here : R 0 (one_of j) (one_of k) = f 0 j k a.0 b.0 (key_cases (free 0) j k (ap (λ ds. get_or ds 0 []) e)) in
      (ap suc more.0, places_more R j k js ks here more)

-- ---- a state that has the rules of some others

module _ {L : Type 0} (rules : List (List (Rule L))) where
  some_of_behind : (t : Tree L) (rs ss : List (Rule L)) → some_apply rules t (rs ++ ss) ≡ (some_apply rules t rs || some_apply rules t ss)
  some_of_behind (node c l ts) rs ss = list_any-append (fires c l (sets_of rules ts)) rs ss

  none_apply : (t : Tree L) → some_apply rules t [] ≡ false
  none_apply (node c l ts) = refl

  some_of_states : (t : Tree L) (finals : List ℕ) → some_apply rules t (flat_map (rules_of rules) finals) ≡ list_any (is_accepted rules t) finals
  some_of_states t [] = none_apply t
  some_of_states t (i ∷ finals) = some_of_behind t (rules_of rules i) (flat_map (rules_of rules) finals) ∙ ap₂ (λ x y. x || y) (sym (accepted_some rules t i)) (some_of_states t finals)

  rules_agree : (l m : L) (finals : List ℕ) → Each (λ i. AgreeOn l m (rules_of rules i)) finals → AgreeOn l m (flat_map (rules_of rules) finals)
  rules_agree l m [] h r at = absurd (omega (arith, at.1))
  rules_agree l m (i ∷ finals) h r at = elim (append_member (rules_of rules i) (flat_map (rules_of rules) finals) r at) [ inl here ↦ h.0 r here | inr there ↦ rules_agree l m finals h.1 r there ]

any_same : (f g : ℕ → Bool) (n : ℕ) → ((k : ℕ) → k < n → f k ≡ g k) → (ks : List ℕ) → Each (λ k. k < n) ks → list_any f ks ≡ list_any g ks
any_same f g n h [] low = refl
any_same f g n h (k ∷ ks) low = ap₂ (λ x y. x || y) (h k low.0) (any_same f g n h ks low.1)

-- ---- the blocks as states

module _ {L : Type 0} (D : L → Type 0) (table : KindTable L) (facts : IsKindTable D table) (final : Row → Bool) (block : Row → ℕ) (n : ℕ) (one_of : ℕ → Row) (finals : List ℕ)
    (are : AreBlocks D table final block) (stable : IsStable D table block) (numbered : AreNumbered D table final n one_of (is_among finals) block) (free : ℕ → ℕ → Bool) (is_free : AreFree table free) where
  abbrev ranks : List ℕ
  ranks = table.ranks

  abbrev next : ℕ → L → List ℕ → ℕ
  next = next_block table block one_of

  abbrev state : Tree L → ℕ
  state t = block (set_of table.rules t)

  -- children at free places count for nothing
  pub free_are_alike : FreeAreAlike ranks D n next free
  free_are_alike c low l js ks are_j are_k e =
      let kinds : OneKinds table.rules c (map one_of js) (map one_of ks) =
      places_of_keys n one_of (free c) (λ j q r. OneKind table.rules c j q r)
      (λ j x y x_low y_low either. elim either [
        | inl open_place ↦ is_free c j open_place (one_of x) (one_of y) (numbered.known_one x x_low) (numbered.known_one y y_low)
        | inr same ↦ (λ t s d. ap (λ k. has (one_of k) s) same)
      ]) js ks are_j.0 are_k.0 e in
      ap block (step_same_kinds table.rules c l (map one_of js) (map one_of ks) kinds)

  ones_known : (ks : List ℕ) → Each (λ k. k < n) ks → Each (Contains table.known) (map one_of ks)
  ones_known [] low = tt
  ones_known (k ∷ ks) low = (numbered.known_one k low.0, ones_known ks low.1)

  blocks_of_ones : (ks : List ℕ) → Each (λ k. k < n) ks → map block (map one_of ks) ≡ ks
  blocks_of_ones [] low = refl
  blocks_of_ones (k ∷ ks) low = ap₂ (λ x y. x ∷ y) (numbered.is_one k low.0) (blocks_of_ones ks low.1)

  states_low : (ts : Trees L) → FitsAll ranks D ts → Each (λ k. k < n) (states state ts)
  states_low no_trees f = tt
  states_low (tree t ts) f = (numbered.below (set_of table.rules t) (facts.complete t f.0), states_low ts f.1)

  pub are_states : AreStatesOf ranks D n next free state
  are_states = record {
    below = λ t f. numbered.below (set_of table.rules t) (facts.complete t f);
    next_is = λ c l ts f.
        let (low, is_label, wide, fit) = f in
        let (v, given, agree) = facts.covers c low l is_label in
        let at : (qs : List Row) → step table.rules c l qs ≡ step table.rules c v qs = λ qs. sym (step_agree c l v qs table.rules agree) in
        let ks : List ℕ = states state ts in
        let ks_low : Each (λ k. k < n) ks = states_low ts fit in
        ap block (at (sets_of table.rules ts))
        ∙ same_blocks D table facts block stable c low v given (sets_of table.rules ts) (map one_of ks) (sets_known D table facts ts fit) (ones_known ks ks_low) (width_sets table.rules ts ∙ wide)
        (sym (states_are D table facts block ts) ∙ sym (blocks_of_ones ks ks_low))
        ∙ sym (ap block (at (map one_of ks)));
  }

  -- ---- the automaton that is written

  module _ (a c : Auto L) (same_rules : table.rules ≡ a.rules) (is_final : (t : Tree L) → member_of D table final t ≡ is_accepted a.rules t a.start) (is : IsWritten ranks D a n finals next free c) where
    accepts_block : (t : Tree L) → Fits ranks D t → (i : ℕ) → i < n → is_accepted c.rules t i ≡ (state t == i)
    accepts_block = accepted_is_state ranks D n next free state c.rules free_are_alike are_states is.rules_are

    block_state : (i : ℕ) → i < n → Alike (Fits ranks D) (Has c.rules i) (λ t. state t ≡ i)
    block_state i low t f = (λ h. eqb-true (state t) i (sym (accepts_block t f i low) ∙ h), λ e. accepts_block t f i low ∙ eq-eqb (state t) i e)

    least : IsLeastMachine ranks D (member_of D table final) n state (is_among finals)
    least = blocks_least D table facts final block n one_of (is_among finals) are stable numbered

    abbrev language : Tree L → Bool
    language t = is_accepted a.rules t a.start

    least_of : IsLeastMachine ranks D language n state (is_among finals)
    least_of = subst (λ m. IsLeastMachine ranks D m n state (is_among finals)) (λ i t. is_final t i) least

    last_accepts : (t : Tree L) → Fits ranks D t → is_accepted c.rules t n ≡ language t
    last_accepts t f =
        accepted_some c.rules t n ∙ ap (some_apply c.rules t) is.last_are ∙ some_of_states c.rules t finals
        ∙ any_same (is_accepted c.rules t) (λ k. state t == k) n (λ k low. accepts_block t f k low) finals is.low
        ∙ sym (least_of.language t f)

    row_long : (q : Row) → Contains table.known q → length q ≡ length a.rules
    row_long q at = let (t, fits, is) = facts.reached q at in sym (ap length is) ∙ set_long table.rules t ∙ ap length same_rules

    state_classes : (i : ℕ) → i < n → OfClasses (Fits ranks D) a.rules a.rules (Has c.rules i)
    state_classes i low =
        of_block a block i (Fits ranks D) table.known (Has c.rules i) row_long
        (λ t f. subst (λ rules. Contains table.known (set_of rules t)) same_rules (facts.complete t f))
        (λ t f. subst (λ rules. Has c.rules i t ↔ (block (set_of rules t) ≡ i)) same_rules (block_state i low t f))

    pub is_minimal : IsMinimal (Fits ranks D) a c
    is_minimal = record {
      in_range = omega (arith, is.many, is.start_is);
      means = λ t f. as_true _ _ (ap (is_accepted c.rules t) is.start_is ∙ last_accepts t f);
      each_state = λ q low. elim (cases_lt q n) [
        | inl below ↦ inr (inr (inr (state_classes q below)))
        | inr high ↦ inl (let e : q ≡ n = omega (arith, low, high, is.many) in e ∙ sym is.start_is)
      ];
    }

    finals_agree : (l m : L) → AgreeIn a.rules l m → (ks : List ℕ) → Each (λ k. k < n) ks → Each (λ i. AgreeOn l m (rules_of c.rules i)) ks
    finals_agree l m agree [] low = tt
    finals_agree l m agree (k ∷ ks) low = (is.guards_agree l m agree k low.0, finals_agree l m agree ks low.1)

    pub keeps_guards : KeepsGuards a a c
    keeps_guards l m agree _ q r at = elim (cases_lt q n) [
      | inl below ↦ is.guards_agree l m agree q below r at
      | inr high ↦ elim (cases_lt q (length c.rules)) [
        | inl within ↦ (
            let e : q ≡ n = omega (arith, high, within, is.many) in
            rules_agree c.rules l m finals (finals_agree l m agree finals is.low) r (subst (λ rs. Contains rs r) (ap (rules_of c.rules) e ∙ is.last_are) at))
        | inr past ↦ none_past l m c.rules q past r at
      ]
    ]

    -- all that is promised of the least automaton
    pub is_least : IsLeast ranks D a c n finals
    is_least = record {
      many = is.many;
      start_is = is.start_is;
      minimal = is_minimal;
      guards = keeps_guards;
      deterministic = built_deterministic ranks D n next free state c.rules free_are_alike are_states is.rules_are;
      same_language = λ t f i low h. least_of.language t f ∙ ap (is_among finals) ((block_state i low t f).0 h);
      inhabited = λ i low. (let (t, f, e) = least_of.inhabited i low in (t, f, (block_state i low t f).1 e));
      apart = λ i j i_low j_low other s t fs ft has_i has_j. least_of.apart s t fs ft (λ e. other (sym ((block_state i i_low s fs).0 has_i) ∙ e ∙ (block_state j j_low t ft).0 has_j));
      shortest = no_shorter ranks D language n state (is_among finals) least_of;
      counted = is_count ranks D language n state (is_among finals) least_of;
    }

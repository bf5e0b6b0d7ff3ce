-- The rules of a state between.
use Rattle.std.specs.Prelude.{⊤}
use Rattle.std.proofs.Common.{ℕ, ◌≡◌, ◌<◌, ◌≤◌, ◌&&◌, inl, inr, Bool, true, false, List, [], ◌∷◌, ◌++◌, map, get_or, length, All, Contains, None, refl, sym, subst, ap, ap₂, ◌∙◌, arith}
use Rattle.std.proofs.lemmas.List.{length-map, map-append, get_or_past}
use Rattle.std.proofs.lemmas.Bool.{cases_lt}
use Rattle.std.proofs.lemmas.Simd.{map-map}
use Rattle.model_tree.specs.Label.{Label}
use Rattle.model_tree.specs.Formula.{EveryAtom, formula_holds}
use Rattle.model_sta.specs.Sets.{Each}
use Rattle.model_sttr.specs.Terms.{with_maps, Uses}
use Rattle.model_sttr.specs.Transducer.{identity, run, OutRule, Sttr}
use Rattle.model_sttr.specs.Plain.{PlainOut}
use Rattle.model_sttr.proofs.Instances.{occurs_uses}
use Rattle.label_core.specs.Formula.{plain_formula}
use Rattle.label_core.specs.Meaning.{Meaning}
use Rattle.sta_core.specs.Machine.{PlainRule}
use Rattle.sta_core.specs.Sta.{rule_meaning}
use Rattle.sttr_core.specs.Machine.{OutMachine}
use Rattle.sttr_core.proofs.Meaning.{uses_as_with_maps, rules_meant}
use Rattle.sttr_theory.specs.Lists.{IsAt, Match}
use Rattle.sttr_theory.specs.Triples.{Triple, Way, LookName, of_first, of_second, middle, firsts, asked, IsAsked, WayFits, AreWays}
use Rattle.sttr_theory.specs.Covers.{Covers, Never}
use Rattle.sttr_preimage.specs.Apart.{AreApart}
use Rattle.sttr_theory.specs.Built.{AreRulesOfWays, IsWayRule, IsRuleOf, AreRulesFor, AreRulesOver, LookNameFits}
use Rattle.sttr_theory.proofs.Each.{each_at}
use Rattle.sttr_theory.proofs.Fits.{made_demands}
use Rattle.sttr_theory.proofs.Grow.{way_grown, rules_over_map}
use Rattle.sttr_theory.proofs.Names.{asked_fits}
use Rattle.sttr_theory.proofs.Over.{no_rules, one_more_rule, all_rules}
use Rattle.sttr_run.specs.Fits.{RuleStands, OutStands, SttrStands}
use Rattle.sttr_run.specs.Plain.{way_at}
use Rattle.sttr_run.specs.declared.triples.Way as code
use Rattle.sttr_preimage.specs.Rules.{IsWayMade, AreWayMade, way_demands, asks_in}
use Rattle.sttr_preimage.specs.Tidy.{tidy_way}
use Rattle.sttr_preimage.specs.Images.{first_of, second_of, meant, IsLookName, HasOutRule, IsLookAtom, RowStands, HasRules, HasRulesOver, HasWayRules, WayStands}
use Rattle.sttr_preimage.specs.Through.{IsAtomOf, IsAtomBehind}
use Rattle.sttr_preimage.proofs.Atoms.{row_in, all_in, in_all, all_map, every_map, every_own}
use Rattle.sttr_preimage.proofs.Numbered.{adds_then, adds_wider, adds_same, adds_extends, adds_length, match_none}
use Rattle.sttr_preimage.proofs.Standing.{rule_over, sttr_fits, stands_at, as_many_rules}
use Rattle.sttr_preimage.proofs.Tidied.{tidy_at}
use Rattle.sttr_theory.proofs.Members.{to_mapped, of_mapped, in_either}

-- an image of what is mapped
pub match_mapped : {X Y U V : Type 0} (R : X → Y → Type 0) (S : U → V → Type 0) (f : X → U) (g : Y → V) (xs : List X) (ys : List Y) → ((x : X) (y : Y) → Contains xs x → Contains ys y → R x y → S (f x) (g y)) → Match R xs ys → Match S (map f xs) (map g ys)
match_mapped R S f g xs ys to m = (
  λ u c. let (x, at, is) = of_mapped f xs u c in let (y, there, r) = m.0 x at in (g y, to_mapped g ys y there, subst (λ z. S z (g y)) is (to x y at there r)),
  λ v c. let (y, at, is) = of_mapped g ys v c in let (x, there, r) = m.1 y at in (f x, to_mapped f xs x there, subst (S (f x)) is (to x y there at r)),
)

pub covers_mapped : {X Y U V : Type 0} (R : X → Y → Type 0) (Out : Y → Type 0) (S : U → V → Type 0) (Out' : V → Type 0) (f : X → U) (g : Y → V) (xs : List X) (ys : List Y) → ((x : X) (y : Y) → Contains xs x → Contains ys y → R x y → S (f x) (g y)) → ((y : Y) → Out y → Out' (g y)) → Covers R Out xs ys → Covers S Out' (map f xs) (map g ys)
covers_mapped R Out S Out' f g xs ys to out m = record {
  only = λ u c. let (x, at, is) = of_mapped f xs u c in let (y, there, r) = m.only x at in (g y, to_mapped g ys y there, subst (λ z. S z (g y)) is (to x y at there r));
  all = λ v c. let (y, at, is) = of_mapped g ys v c in elim (m.all y at) [
    | inl made ↦ (let (x, there, r) = made in inl (f x, to_mapped f xs x there, subst (S (f x)) is (to x y there at r)))
    | inr left ↦ inr (subst Out' is (out y left))
  ];
}

pub each_to_all : {X : Type 0} (P Q : X → Type 0) → ((x : X) → P x → Q x) → (xs : List X) → Each P xs → All Q xs
each_to_all P Q f xs h = in_all Q xs (λ x at. f x (each_at P xs x h at))

-- what can't have an element is empty
pub no_element : {X : Type 0} (P : X → Type 0) (xs : List X) → Each P xs → ((x : X) → P x → ⊥) → xs ≡ []
no_element P [] h none = refl
no_element P (x ∷ xs) h none = absurd (none x h.0)

pub all_both : {X : Type 0} (P : X → Type 0) (xs ys : List X) → All P xs → All P ys → All P (xs ++ ys)
all_both P xs ys h k = in_all P (xs ++ ys) (λ x c. elim (in_either xs ys x c) [ inl at ↦ all_in P xs h x at | inr at ↦ all_in P ys k x at ])

pub and_true : (b : Bool) → (b && true) ≡ b
and_true true = refl
and_true false = refl

module _ {A : Type 0} (ranks : List ℕ) where
  pub rule_more : (n m : ℕ) → n ≤ m → (r : PlainRule A) → RuleStands ranks n r → RuleStands ranks m r
  rule_more n m le r h = record { constructor = h.constructor; children = h.children; demands = all_map (All (λ s. s < n)) (All (λ s. s < m)) r.demands (λ d all. all_map (λ s. s < n) (λ s. s < m) d (λ s low. omega (arith, low, le)) all) h.demands }

-- the guard of a rule of the transducer
pub guard_at : {A M : Type 0} (P : A → Type 0) (f : OutMachine A M) (q : ℕ) (r : PlainOut (PlainRule A) M) → HasOutRule f q r → All (λ rules. All (λ r. EveryAtom P r.rule.guard) rules) f.rules → EveryAtom P r.rule.guard
guard_at P f q r there h = all_in (λ r. EveryAtom P r.rule.guard) (get_or f.rules q []) (all_in (λ rules. All (λ r. EveryAtom P r.rule.guard) rules) f.rules h (get_or f.rules q []) (row_in f.rules q there.0)) r there.1

module _ {A M V W : Type 0} (is_put : M → A → A → Type 0) (make : M → Label → Label) {label_of : V → Label} {holds : A → Label → Bool} (N : Meaning label_of holds W) (fits : A → Type 0) (f g : OutMachine A M) where
  abbrev F : Sttr Label
  F = first_of holds make f g

  abbrev G : Sttr Label
  G = second_of holds make f g

  abbrev R : List ℕ
  R = f.looks.ranks

  pub row_more : (S P : Type 0) (n m : ℕ) → n ≤ m → (r : PlainRule A) → RowStands is_put make N fits f g S P n r → RowStands is_put make N fits f g S P m r
  row_more S P n m le r h = record { stands = rule_more R n m le r h.stands; fit = h.fit; atoms = h.atoms }

  pub rows_more : (S P : Type 0) (n m : ℕ) → n ≤ m → (rs : List (PlainRule A)) → All (RowStands is_put make N fits f g S P n) rs → All (RowStands is_put make N fits f g S P m) rs
  rows_more S P n m le rs h = all_map (RowStands is_put make N fits f g S P n) (RowStands is_put make N fits f g S P m) rs (row_more S P n m le) h

  pub way_guards : (Q : M → Type 0) (ys : List (code.Way A M)) → All (WayStands is_put make N fits f g Q) ys → All (λ y. EveryAtom fits (plain_formula y.guard)) ys
  way_guards Q ys h = all_map (WayStands is_put make N fits f g Q) (λ y. EveryAtom fits (plain_formula y.guard)) ys (λ y stands. stands.fit) h

  -- a name that fits is one that may be asked between
  pub known_of : (x : LookName) → LookNameFits F G x → IsLookName holds make f g ⊥ ⊤ x
  known_of (of_first s) h = subst (λ n. s < n) (length-map f.looks.rules (map (rule_meaning holds))) h
  known_of (of_second s) h = (subst (λ n. s < n) (length-map g.looks.rules (map (rule_meaning holds))) h.0, inl h.1)
  known_of (middle q all) h = (
    subst (λ n. q < n) (as_many_rules holds make f) h.0,
    each_to_all (λ s. s < length G.looks) (λ s. s < length g.looks.rules) (λ s low. subst (λ n. s < n) (length-map g.looks.rules (map (rule_meaning holds))) low) all h.1,
    tt,
  )

  module _ (looks : All (All (RuleStands R (length f.looks.rules))) f.looks.rules) (stands : SttrStands f) (guards : All (λ rules. All (λ r. EveryAtom fits r.rule.guard) rules) f.rules) (same : (b : A) → N.equal b b ≡ true) (Q : M → Type 0) where
    module _ (q : ℕ) (ρ : PlainOut (PlainRule A) M) (there : HasOutRule f q ρ) where
      pub own : OutStands R (length f.looks.rules) (length f.rules) ρ
      own = stands_at holds make f stands q ρ there

      own_fit : EveryAtom fits ρ.rule.guard
      own_fit = guard_at fits f q ρ there guards

      own_atoms : EveryAtom (IsAtomOf N.equal f) ρ.rule.guard
      own_atoms = every_own (IsAtomOf N.equal f) ρ.rule.guard (λ b c. (b, inr (get_or f.rules q [], row_in f.rules q there.0, ρ, there.1, c), same b))

      demanded : (j s : ℕ) → Contains (get_or ρ.rule.demands j []) s → s < length f.looks.rules
      demanded j s c = elim (cases_lt j (length ρ.rule.demands)) [
        | inl low ↦ all_in (λ s. s < length f.looks.rules) (get_or ρ.rule.demands j []) (all_in (All (λ s. s < length f.looks.rules)) ρ.rule.demands own.rule.demands (get_or ρ.rule.demands j []) (row_in ρ.rule.demands j low)) s c
        | inr past ↦ (let e = ap length (get_or_past ρ.rule.demands j [] past) in absurd (omega (arith, e, c.1)))
      ]

      module _ (t : Triple) (ys : List (code.Way A M)) (are : AreWays F G N.has (with_maps make ρ.term) t (map tidy_way (map (way_at holds make) ys))) (ways : All (WayStands is_put make N fits f g Q) ys) where
        abbrev pub tidied : code.Way A M → Way Label
        tidied y = tidy_way (way_at holds make y)

        pub fits_at : (y : code.Way A M) → Contains ys y → WayFits F G (with_maps make ρ.term) t (tidied y)
        fits_at y mine = are.fit (tidied y) (to_mapped tidy_way (map (way_at holds make) ys) (way_at holds make y) (to_mapped (way_at holds make) ys y mine))

        asked_at : (y : code.Way A M) → Contains ys y → (j : ℕ) → Each (λ n. IsAsked F G (with_maps make ρ.term) n j) (asks_in y.demands.items j)
        asked_at y mine j = subst (λ ds. Each (λ n. IsAsked F G (with_maps make ρ.term) n j) (asked ds)) (tidy_at (way_at holds make y).demands j) ((fits_at y mine).demands j)

        child_there : (n : LookName) (j : ℕ) → IsAsked F G (with_maps make ρ.term) n j → j < length ρ.rule.demands
        child_there n j asks = let low = own.children j (uses_as_with_maps make j ρ.term (used n asks)) in omega (arith, low, own.rule.children)
          where
            used : (n : LookName) → IsAsked F G (with_maps make ρ.term) n j → Uses j (with_maps make ρ.term)
            used (of_first s) asks = absurd asks
            used (of_second s) asks = occurs_uses identity j (with_maps make ρ.term) asks.0
            used (middle k all) asks = occurs_uses (run k) j (with_maps make ρ.term) asks.0

        pub wanted_known : (y : code.Way A M) → Contains ys y → (j : ℕ) (x : LookName) → Contains (way_demands ρ.rule y.demands.items j) x → IsLookName holds make f g ⊥ ⊤ x
        wanted_known y mine j x c = elim (in_either (firsts (get_or ρ.rule.demands j [])) (asks_in y.demands.items j) x c) [
          | inl first ↦ (let (s, at, is) = of_mapped of_first (get_or ρ.rule.demands j []) x first in subst (IsLookName holds make f g ⊥ ⊤) is (demanded j s at))
          | inr asks ↦ known_of x (asked_fits R N.has F G (sttr_fits holds make f looks stands) (run q) (subst (λ n. q < n) (sym (as_many_rules holds make f)) there.0) (meant holds make f g ρ) (rule_over holds make f q ρ there) x j
              (each_at (λ n. IsAsked F G (with_maps make ρ.term) n j) (asks_in y.demands.items j) x (asked_at y mine j) asks))
        ]

        -- a rule that applies where the rule and a way do
        pub made_rule : (names : List LookName) (m : PlainRule A) (y : code.Way A M) → Contains ys y → IsWayMade names ρ.rule m y → IsWayRule R N.has F G names (rule_meaning holds m) (meant holds make f g ρ) (tidied y)
        made_rule names m y mine h = record {
          same_constructor = h.constructor;
          same_guard = λ l d. ap (formula_holds (λ b. holds b l)) h.guard ∙ ap (λ b. formula_holds (λ b. holds b l) ρ.rule.guard && b) (and_true (formula_holds (λ b. holds b l) (plain_formula y.guard)));
          same_demands = λ j. subst (λ ds. Match (IsAt names) (get_or m.demands j []) (firsts (get_or ρ.rule.demands j []) ++ asked ds)) (sym (tidy_at (way_at holds make y).demands j)) (elim (cases_lt j (length ρ.rule.demands)) [
            | inl low ↦ h.each j low
            | inr past ↦ (
                let none : asks_in y.demands.items j ≡ [] = no_element (λ n. IsAsked F G (with_maps make ρ.term) n j) (asks_in y.demands.items j) (asked_at y mine j) (λ n asks. let low = child_there n j asks in omega (arith, low, past)) in
                subst (λ ds. Match (IsAt names) ds (way_demands ρ.rule y.demands.items j)) (sym (get_or_past m.demands j [] (omega (arith, past, h.count))))
                (subst (Match (IsAt names) []) (sym (ap₂ (λ xs zs. firsts xs ++ zs) (get_or_past ρ.rule.demands j [] past) none)) (match_none (IsAt names))))
          ]);
        }

        pub row_stands : (names : List LookName) (m : PlainRule A) (y : code.Way A M) → Contains ys y → IsWayMade names ρ.rule m y → RowStands is_put make N fits f g ⊥ ⊤ (length names) m
        row_stands names m y mine h =
            let way = all_in (WayStands is_put make N fits f g Q) ys ways y mine in
            record {
              stands = record {
                constructor = subst (λ c. c < length R) (sym h.constructor) own.rule.constructor;
                children = h.count ∙ own.rule.children ∙ ap (λ c. get_or R c 0) (sym h.constructor);
                demands = each_to_all (Each (λ s. s < length names)) (All (λ s. s < length names)) (λ d e. each_to_all (λ s. s < length names) (λ s. s < length names) (λ s low. low) d e) m.demands
                    (made_demands R N.has F G names (length names) refl (rule_meaning holds m) _ _ _ (made_rule names m y mine h));
              };
              fit = subst (EveryAtom fits) (sym h.guard) (own_fit, (way.fit, tt));
              atoms = subst (EveryAtom (IsLookAtom is_put make N fits f g ⊥ ⊤)) (sym h.guard) (
                every_map (IsAtomOf N.equal f) (IsLookAtom is_put make N fits f g ⊥ ⊤) (λ b is. inl is) ρ.rule.guard own_atoms,
                (every_map (IsAtomBehind N.equal is_put f g) (IsLookAtom is_put make N fits f g ⊥ ⊤) (λ b is. inr (inl (tt, is))) (plain_formula y.guard) way.atoms, tt),
              );
            }

        pub all_ways_done : (old new : List LookName) (made : List (PlainRule A)) → AreWayMade holds N.has old new ρ.rule ys made → HasWayRules is_put make N fits f g old new ρ (map tidy_way (map (way_at holds make) ys)) made
        all_ways_done old new made h = record {
          adds = adds_wider old new _ (IsLookName holds make f g ⊥ ⊤) h.adds (λ x w. wanted_known w.0 w.1 w.2 x w.4);
          over = subst (AreRulesOfWays R N.has F G (IsWayRule R N.has F G new) (map (rule_meaning holds) made) (meant holds make f g ρ)) (sym (map-map tidy_way (way_at holds make) ys))
              (covers_mapped (IsWayMade new ρ.rule) (λ y. AreApart holds N.has ρ.rule.guard (plain_formula y.guard)) (λ r w. IsWayRule R N.has F G new r (meant holds make f g ρ) w) (λ w. Never N.has (λ l. (meant holds make f g ρ).rule.guard l && w.guard l)) (rule_meaning holds) tidied made ys (λ m y at mine is. made_rule new m y mine is) (λ y out. out) h.rules);
          stand = in_all (RowStands is_put make N fits f g ⊥ ⊤ (length new)) made (λ m at. let (y, mine, is) = h.rules.only m at in row_stands new m y mine is);
        }

  -- ---- all rules of a state of the transducer

  -- of more rules, where what is said of them stays true
  pub over_then : {X : Type 0} (Is Is' : X → OutRule Label → Way Label → Type 0) → ((r : X) (ρ : OutRule Label) (y : Way Label) → Is r ρ y → Is' r ρ y) → (t : Triple) (ρs : List (PlainOut (PlainRule A) M)) (rs made : List X) (ρ : PlainOut (PlainRule A) M) (ys : List (Way Label))
      → AreRulesOver R N.has F G Is (map (meant holds make f g) ρs) rs t → AreWays F G N.has (with_maps make ρ.term) t ys → AreRulesOfWays R N.has F G Is' made (meant holds make f g ρ) ys → AreRulesOver R N.has F G Is' (map (meant holds make f g) (ρs ++ ρ ∷ [])) (rs ++ made) t
  over_then Is Is' to t ρs rs made ρ ys over ways same =
      subst (λ l. AreRulesOver R N.has F G Is' l (rs ++ made) t) (sym (map-append (meant holds make f g) ρs (ρ ∷ [])))
      (one_more_rule R N.has F G Is' t (map (meant holds make f g) ρs) rs (meant holds make f g ρ) ys made (rules_over_map R N.has F G Is Is' to (map (meant holds make f g) ρs) rs t over) ways same)

  -- all of them
  pub over_all : {X : Type 0} (Is : X → OutRule Label → Way Label → Type 0) (q : ℕ) (t : Triple) (rs : List X) → t.first ≡ run q → AreRulesOver R N.has F G Is (map (meant holds make f g) (get_or f.rules q [])) rs t → AreRulesFor R N.has F G Is rs t
  over_all Is q t rs first over = all_rules R N.has F G Is t (map (meant holds make f g) (get_or f.rules q [])) rs
      (λ ρ c. subst (λ h. IsRuleOf R N.has F G h ρ) (sym first) (subst (λ l. Contains l ρ) (sym (rules_meant holds make f q)) c))
      (λ ρ rule. subst (λ l. Contains l ρ) (rules_meant holds make f q) (subst (λ h. IsRuleOf R N.has F G h ρ) first rule)) over

  pub over_none : (old : List LookName) (t : Triple) (rules : List (PlainRule A)) → rules ≡ [] → HasRulesOver is_put make N fits f g old old t [] rules
  over_none old t rules e = subst (HasRulesOver is_put make N fits f g old old t []) (sym e) (record {
    adds = adds_same old old _ refl;
    over = no_rules R N.has F G (IsWayRule R N.has F G old) t;
    stand = in_all (RowStands is_put make N fits f g ⊥ ⊤ (length old)) [] (λ x c. absurd (omega (arith, c.1)));
  })

  pub over_more : (o b c : List LookName) (t : Triple) (ρs ρs' : List (PlainOut (PlainRule A) M)) (ρ : PlainOut (PlainRule A) M) (rules made next : List (PlainRule A)) (ys : List (Way Label)) → HasRulesOver is_put make N fits f g o b t ρs rules → AreWays F G N.has (with_maps make ρ.term) t ys → HasWayRules is_put make N fits f g b c ρ ys made
      → ρs' ≡ ρs ++ ρ ∷ [] → next ≡ rules ++ made → HasRulesOver is_put make N fits f g o c t ρs' next
  over_more o b c t ρs ρs' ρ rules made next ys h ways w e e' = subst (λ l. HasRulesOver is_put make N fits f g o c t l next) (sym e) (subst (HasRulesOver is_put make N fits f g o c t (ρs ++ ρ ∷ [])) (sym e') (record {
    adds = adds_then o b c _ _ _ h.adds w.adds (λ x k. k) (λ x k. k);
    over = subst (λ l. AreRulesOver R N.has F G (IsWayRule R N.has F G c) (map (meant holds make f g) (ρs ++ ρ ∷ [])) l t) (sym (map-append (rule_meaning holds) rules made))
        (over_then (IsWayRule R N.has F G b) (IsWayRule R N.has F G c) (way_grown R N.has F G b c (adds_extends b c _ w.adds)) t ρs (map (rule_meaning holds) rules) (map (rule_meaning holds) made) ρ ys h.over ways w.over);
    stand = all_both (RowStands is_put make N fits f g ⊥ ⊤ (length c)) rules made (rows_more ⊥ ⊤ (length b) (length c) (adds_length b c _ w.adds) rules h.stand) w.stand;
  }))

  pub middle_done : (old new : List LookName) (q : ℕ) (all : List ℕ) (rules : List (PlainRule A)) → HasRulesOver is_put make N fits f g old new (record { first = run q; all = all; second = None }) (get_or f.rules q []) rules → HasRules is_put make N fits f g old new (middle q all) rules
  middle_done old new q all rules h = record {
    adds = h.adds;
    are = over_all (IsWayRule R N.has F G new) q (record { first = run q; all = all; second = None }) (map (rule_meaning holds) rules) refl h.over;
    stand = h.stand;
  }

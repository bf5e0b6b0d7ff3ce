-- What the states of an automaton accept: the trees of the languages that they stand for.
use Rattle.std.proofs.Common.{◌≡◌, ◌⊎◌, inl, inr, ◌↔◌, ℕ, suc, ◌<◌, ◌==◌, Bool, true, false, cond, ◌&&◌, ◌||◌, List, [], ◌∷◌, None, map, filter, length, get_or, Contains, refl, sym, ap, ap₂, subst, ◌∙◌, arith}
use Rattle.std.proofs.lemmas.Bool.{and_parts, and_from, or_left, or_right}
use Rattle.std.specs.List.{list_any, list_all}
use Rattle.std.proofs.Math.ListN.{get_or-map}
use Rattle.std.proofs.lemmas.List.{length-map}
use Rattle.model_tree.specs.Label.{Label}
use Rattle.model_tree.specs.Tree.{node, Trees, no_trees, tree, LabelTree}
use Rattle.model_tree.specs.Signature.{PlainSignature, names_of, ranks_of, HasSorts, sorts_of, HasType, EachHasType}
use Rattle.model_tree.specs.Formula.{formula_holds}
use Rattle.model_program.specs.Syntax.{Name, Demand}
use Rattle.model_grammar.specs.Syntax.{named, Rule, Item}
use Rattle.model_names.specs.Declared.{name_of, same_text, rules_of}
use Rattle.model_meaning.specs.Types.{input_of}
use Rattle.model_meaning.specs.Languages.{heads}
use Rattle.model_meaning.specs.Reached.{definition_of}
use Rattle.model_meaning.specs.Meaning.{IsInLanguage, Applies}
use Rattle.model_meaning.specs.Laws.{AreDemanded, AreByRules}
use Rattle.model_meaning.proofs.Members.{one_of, none_of}
use Rattle.model_sta.specs.Automaton.{is_accepted, meet_demands}
use Rattle.model_sta.specs.Automaton as machines
use Rattle.sta_core.specs.Machine.{PlainRule}
use Rattle.sta_core.specs.Sta.{rule_meaning}
use Rattle.fast_build.specs.Numbers.{numbers_for, numbers_for_each}
use Rattle.fast_build.specs.Rules.{IsRuleFor, AreRulesFor}
use Rattle.record_label.specs.Rows.{RowAtom, row_holds}
use Rattle.fast_build.proofs.Stands.{are_apart}
use Rattle.fast_build.proofs.Guarding.{guard_means}
use Rattle.fast_build.proofs.Naming.{number_named}

-- ---- tests of lists

either_true : (a b : Bool) → (a || b) ≡ true → (a ≡ true) ⊎ (b ≡ true)
either_true true b e = inl refl
either_true false b e = inr e

and_assoc : (a b c : Bool) → ((a && b) && c) ≡ (a && (b && c))
and_assoc true b c = refl
and_assoc false b c = refl

here : {A : Type 0} (x : A) (xs : List A) → Contains (x ∷ xs) x
here x xs = (0, omega arith, refl)

later_in : {A : Type 0} (x y : A) (xs : List A) → Contains xs y → Contains (x ∷ xs) y
later_in x y xs (k, low, is) = (suc k, omega (arith, low), is)

-- Each name has a number by `place`, that of a state.
module _ (items : List Item) (laws : AreByRules items) (t : PlainSignature) (place : List ℕ → ℕ) (rules : List (List (PlainRule RowAtom))) where
  abbrev pub automaton : List (List (machines.Rule Label))
  automaton = map (map (rule_meaning row_holds)) rules

  -- the state of the name has its language, at a tree
  abbrev pub Means : List ℕ → LabelTree → Type 0
  Means n u = IsInLanguage items (named (name_of n)) u ↔ is_accepted automaton u (place n) ≡ true

  -- The state of a language has rules for its rules, which demand names that have states.
  pub record IsByRules (Among : List ℕ → Type 0) (n : List ℕ) : Type 0 where
    pub typed : input_of items n ≡ t
    pub undefined : definition_of items n ≡ None
    pub demands : (r : Rule) (d : Demand) → Contains (rules_of items n) r → Contains r.given d → Among d.language.text
    pub are : AreRulesFor t place (get_or rules (place n) []) (rules_of items n)

  -- That of a definition was built before, and has the language that it means.
  abbrev pub IsAttached : List ℕ → Type 0
  IsAttached n = (u : LabelTree) → HasType t u → Means n u

  module _ (Among : List ℕ → Type 0) (each : (n : List ℕ) → Among n → IsByRules Among n ⊎ IsAttached n) (apart : are_apart (names_of t) ≡ true) where
    -- ---- demands

    -- the names that are demanded have states
    abbrev pub Demanded : List Demand → Type 0
    Demanded given = (d : Demand) → Contains given d → Among d.language.text

    abbrev pub MeansAll : LabelTree → Type 0
    MeansAll u = (n : List ℕ) → Among n → Means n u

    -- each child is in every language that is demanded of its variable
    abbrev pub Wanted : List Demand → List ℕ → LabelTree → Type 0
    Wanted given var u = (d : Demand) → Contains given d → same_text d.child.text var ≡ true → IsInLanguage items (named d.language) u

    wanted_more : (u : LabelTree) (d : Demand) (ds : List Demand) (var : List ℕ) → Means d.language.text u → (Wanted ds var u ↔ list_all (is_accepted automaton u) (numbers_for place ds var) ≡ true)
        → Wanted (d ∷ ds) var u ↔ list_all (is_accepted automaton u) (numbers_for place (d ∷ ds) var) ≡ true
    wanted_more u d ds var means rest = by (same_text d.child.text var) refl
      where
        by : (b : Bool) → same_text d.child.text var ≡ b
            → Wanted (d ∷ ds) var u ↔ list_all (is_accepted automaton u) (map (λ e. place e.language.text) (cond b (d ∷ filter (λ e. same_text e.child.text var) ds) (filter (λ e. same_text e.child.text var) ds))) ≡ true
        by true same = (
          λ h. and_from (is_accepted automaton u (place d.language.text)) (list_all (is_accepted automaton u) (numbers_for place ds var)) (means.0 (h d (here d ds) same)) (rest.0 (λ e at is. h e (later_in d e ds at) is)),
          λ h e at is. (let two = and_parts (is_accepted automaton u (place d.language.text)) (list_all (is_accepted automaton u) (numbers_for place ds var)) h in
              elim (one_of d e ds at) [ inl one ↦ subst (λ (x : Demand). IsInLanguage items (named x.language) u) one (means.1 two.0) | inr later ↦ rest.1 two.1 e later is ]),
        )
        by false other = (
          λ h. rest.0 (λ e at is. h e (later_in d e ds at) is),
          λ h e at is. elim (one_of d e ds at) [
            | inl one ↦ (let no : false ≡ true = sym other ∙ (ap (λ (x : Demand). same_text x.child.text var) one ∙ is) in absurd (cc))
            | inr later ↦ rest.1 h e later is
          ],
        )

    wanted_match : (u : LabelTree) → MeansAll u → (given : List Demand) → Demanded given → (var : List ℕ) → Wanted given var u ↔ list_all (is_accepted automaton u) (numbers_for place given var) ≡ true
    wanted_match u means [] there var = (λ h. refl, λ h d at is. absurd (none_of d at))
    wanted_match u means (d ∷ ds) there var = wanted_more u d ds var (means d.language.text (there d (here d ds))) (wanted_match u means ds (λ e at. there e (later_in d e ds at)) var)

    abbrev pub Meets : Trees Label → Type 0
    Meets us = (given : List Demand) → Demanded given → (vars : List Name) → AreDemanded items us vars given ↔ meet_demands automaton us (numbers_for_each place given vars) ≡ true

    meets_more : (u : LabelTree) (us : Trees Label) → MeansAll u → Meets us → Meets (tree u us)
    meets_more u us means meets given there [] = (λ h. refl, λ h. tt)
    meets_more u us means meets given there (v ∷ vars) =
        let first = wanted_match u means given there v.text in
        let rest = meets given there vars in (
          λ h. and_from (list_all (is_accepted automaton u) (numbers_for place given v.text)) (meet_demands automaton us (numbers_for_each place given vars)) (first.0 h.0) (rest.0 h.1),
          λ h. (let two = and_parts (list_all (is_accepted automaton u) (numbers_for place given v.text)) (meet_demands automaton us (numbers_for_each place given vars)) h in (first.1 two.0, rest.1 two.1)),
        )

    -- ---- rules

    module _ (c : ℕ) (l : Label) (us : Trees Label) (low : c < length t.constructors) (sorted : HasSorts (sorts_of t) l) (meets : Meets us) where
      head_match : (r : Rule) (p : PlainRule RowAtom) → IsRuleFor t place p r → heads t r c l ≡ ((p.constructor == c) && formula_holds (λ a. row_holds a l) p.guard)
      head_match r p is = ap₂ (λ x y. x && y) (number_named t r.ctor.text p.constructor c apart is.numbered low) (sym (guard_means t.fields r.guard p.guard l is.guard sorted))

      pub rule_match : (r : Rule) (p : PlainRule RowAtom) → IsRuleFor t place p r → Demanded r.given
          → Applies items t r (node c l us) ↔ ((p.constructor == c) && (formula_holds (λ a. row_holds a l) p.guard && meet_demands automaton us p.demands)) ≡ true
      rule_match r p is there =
          let law = laws.applies t r c l us in
          let same : meet_demands automaton us (numbers_for_each place r.given r.vars) ≡ meet_demands automaton us p.demands = ap (meet_demands automaton us) (sym is.demands) in
          let whole = and_assoc (p.constructor == c) (formula_holds (λ a. row_holds a l) p.guard) (meet_demands automaton us p.demands) in (
            λ h. (let two = law.0 h in
                sym whole ∙ and_from ((p.constructor == c) && formula_holds (λ a. row_holds a l) p.guard) (meet_demands automaton us p.demands) (sym (head_match r p is) ∙ two.0) (sym same ∙ (meets r.given there r.vars).0 two.1)),
            λ h. (let two = and_parts ((p.constructor == c) && formula_holds (λ a. row_holds a l) p.guard) (meet_demands automaton us p.demands) (whole ∙ h) in
                law.1 (head_match r p is ∙ two.0, (meets r.given there r.vars).1 (same ∙ two.1))),
          )

      abbrev SomeApplies : List Rule → Type 0
      SomeApplies rs = (r : Rule) × Contains rs r × Applies items t r (node c l us)

      rules_match : (rs : List Rule) (ps : List (PlainRule RowAtom)) → AreRulesFor t place ps rs → ((r : Rule) → Contains rs r → Demanded r.given)
          → SomeApplies rs ↔ list_any (λ r. (r.constructor == c) && (r.guard l && meet_demands automaton us r.demands)) (map (rule_meaning row_holds) ps) ≡ true
      rules_match [] [] are there = (λ h. absurd (none_of h.0 h.1), λ h. absurd (cc))
      rules_match [] (p ∷ ps) are there = absurd are
      rules_match (r ∷ rs) [] are there = absurd are
      rules_match (r ∷ rs) (p ∷ ps) are there =
          let first = rule_match r p are.0 (there r (here r rs)) in
          let rest = rules_match rs ps are.1 (λ s at. there s (later_in r s rs at)) in
          let own = (p.constructor == c) && (formula_holds (λ a. row_holds a l) p.guard && meet_demands automaton us p.demands) in
          let others = list_any (λ r. (r.constructor == c) && (r.guard l && meet_demands automaton us r.demands)) (map (rule_meaning row_holds) ps) in (
            λ h. elim (one_of r h.0 rs h.1) [
              | inl one ↦ or_left own others (first.0 (subst (λ s. Applies items t s (node c l us)) (sym one) h.2))
              | inr later ↦ or_right own others (rest.0 (h.0, later, h.2))
            ],
            λ h. elim (either_true own others h) [
              | inl e ↦ (r, here r rs, first.1 e)
              | inr e ↦ (let s = rest.1 e in (s.0, later_in r s.0 rs s.1, s.2))
            ],
          )

      by_rules : (n : List ℕ) → IsByRules Among n → Means n (node c l us)
      by_rules n b =
          let law = laws.by_rules (name_of n) b.undefined (node c l us) in
          let match = rules_match (rules_of items n) (get_or rules (place n) []) b.are (λ r at d given. b.demands r d at given) in
          let state : get_or automaton (place n) [] ≡ map (rule_meaning row_holds) (get_or rules (place n) []) = get_or-map (map (rule_meaning row_holds)) rules (place n) [] in
          let same : list_any (λ r. (r.constructor == c) && (r.guard l && meet_demands automaton us r.demands)) (get_or automaton (place n) []) ≡ list_any (λ r. (r.constructor == c) && (r.guard l && meet_demands automaton us r.demands)) (map (rule_meaning row_holds) (get_or rules (place n) []))
          = ap (list_any (λ r. (r.constructor == c) && (r.guard l && meet_demands automaton us r.demands))) state in (
            λ h. (let r = law.0 h in same ∙ match.0 (r.0, r.1, subst (λ s. Applies items s r.0 (node c l us)) b.typed r.2)),
            λ h. (let r = match.1 (sym same ∙ h) in law.1 (r.0, r.1, subst (λ s. Applies items s r.0 (node c l us)) (sym b.typed) r.2)),
          )

    -- ---- trees

    by_each : (u : LabelTree) → HasType t u → ((n : List ℕ) → IsByRules Among n → Means n u) → MeansAll u
    by_each u h own n at = elim (each n at) [ inl b ↦ own n b | inr attached ↦ attached u h ]

    ctors_many : length (ranks_of t) ≡ length t.constructors
    ctors_many = length-map _ _

    mutual
      pub means : (u : LabelTree) → HasType t u → MeansAll u
      means (node c l us) h = by_each (node c l us) h (by_rules c l us (subst (λ (n : ℕ). c < n) ctors_many h.0) h.2 (meets us h.3))

      pub meets : (us : Trees Label) → EachHasType t us → Meets us
      meets no_trees h = λ given there vars. (λ k. refl, λ k. tt)
      meets (tree u us) h = meets_more u us (means u h.0) (meets us h.1)

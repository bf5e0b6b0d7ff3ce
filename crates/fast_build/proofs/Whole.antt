-- An automaton that is made of rules for the rules of all languages that are reached.
use Rattle.std.proofs.Common.{◌≡◌, ◌↔◌, inl, ℕ, zero, suc, ◌<◌, ◌≤◌, ◌==◌, Bool, true, false, List, [], ◌∷◌, Option, Some, None, Vec, map, filter, cond, length, get_or, All, Contains, refl, sym, ap, subst, ◌∙◌, arith}
use Rattle.std.specs.Prelude.{is_some, ◌≢◌}
use Rattle.std.specs.List.{list_all, IsDistinct, AllPairs}
use Rattle.std.specs.Option.{option_map, option_map_or}
use Rattle.std.proofs.lemmas.List.{length-map, get_or-map, get_or_default}
use Rattle.std.proofs.lemmas.List.Elements.{All-nil, All-cons, All-tail, Contains-append_right, Contains-get_or, All-contains}
use Rattle.std.proofs.lemmas.Bool.{eqb-true}
use Rattle.std.proofs.lemmas.Map.Made.{AllPairs-from_IsDistinct}
use Rattle.std.proofs.lemmas.Slice.Eq.{bytes_eq-Decides}
use Rattle.model_tree.specs.Limits.{most_fields}
use Rattle.model_tree.specs.Tree.{LabelTree}
use Rattle.model_tree.specs.Formula.{Formula, EveryAtom}
use Rattle.model_tree.specs.Signature.{PlainConstructor, PlainSignature, ranks_of, names_of, sorts_of, HasType}
use Rattle.model_program.specs.Syntax.{Name, Demand, TypeItem}
use Rattle.model_grammar.specs.Syntax.{named, Rule, LangItem, Item}
use Rattle.model_names.specs.Declared.{same_text, name_of, find_type, rules_of}
use Rattle.model_names.specs.Kinds.{declared_type, type_of}
use Rattle.model_checks.specs.Programs.{is_well_formed}
use Rattle.model_meaning.specs.Types.{signature_at, input_of}
use Rattle.model_meaning.specs.Meaning.{IsInLanguage}
use Rattle.model_meaning.specs.Reached.{Reaches, itself, by_demand, by_lookahead, by_call}
use Rattle.model_meaning.proofs.Members.{none_of}
use Rattle.meaning_laws.specs.Laws.{HasMeaning}
use Rattle.meaning_laws.proofs.Whole.{has_meaning}
use Rattle.model_sta.specs.Automaton.{is_accepted}
use Rattle.sta_core.specs.Sta.{automaton_of, AtomsFit}
use Rattle.sta_core.specs.Machine.{Machine, PlainRule, plain_rule}
use Rattle.sta_core.specs.Fits.{RuleFits, RulesFit}
use Rattle.sta_core.specs.declared.StaRule.{StaRule}
use Rattle.sta_core.proofs.Meaning.{All_from_map}
use Rattle.record_label.specs.Rows.{RowAtom, row_holds, RowFits}
use Rattle.fast_build.specs.Items.{find_lang}
use Rattle.fast_build.specs.Numbers.{ctor_at, IsNumbered, number_in, numbers_for, numbers_for_each, has_ctor}
use Rattle.fast_build.specs.Reached.{demanded_by, demanded_in, AreReached, AreClosed}
use Rattle.fast_build.specs.Rules.{IsGuardFor, IsRuleFor, AreRulesFor, AreStatesFor}
use Rattle.fast_build.specs.Stands.{GuardStands}
use Rattle.fast_build.proofs.Stands.{are_apart, has_rank, rule_stands, LangStands, AllStand}
use Rattle.fast_build.specs.Automaton.{IsGuardReached, IsLanguageBeside, IsAutomatonOf}
use Rattle.fast_build.proofs.Naming.{numbered_below, named_by_number, number_at_place}
use Rattle.fast_build.proofs.Elements.{first_true, second_true, all_left, all_right}
use Rattle.fast_build.proofs.Standing.{rank_there, ctors_there, rules_are, type_is, same_type, no_out_rules, no_definition, kind_is, type_named}
use Rattle.fast_build.proofs.Reaching.{IsOf, reached_of, reached_type}
use Rattle.fast_build.proofs.Guarding.{guard_fits}
use Rattle.fast_build.proofs.Meaning.{IsByRules, means}
use Rattle.fast_build.proofs.Rounds.{in_demanded}
use Rattle.fast_build.proofs.WellFormed.{all_stand}

-- the demands of a rule are of the states
few_numbers : (names : List (List ℕ)) (given : List Demand) (var : List ℕ) → All (Contains names) (demanded_by given) → All (λ s. s < length names) (numbers_for (number_in names) given var)
few_numbers names [] var all = All-nil (λ s. s < length names)
few_numbers names (d ∷ ds) var all = by (same_text d.child.text var) (few_numbers names ds var (All-tail (Contains names) d.language.text (demanded_by ds) all))
  where
    by : (wanted : Bool) → All (λ s. s < length names) (numbers_for (number_in names) ds var) → All (λ s. s < length names) (map (λ e. number_in names e.language.text) (cond wanted (d ∷ filter (λ e. same_text e.child.text var) ds) (filter (λ e. same_text e.child.text var) ds)))
    by true rest = All-cons (λ s. s < length names) (number_in names d.language.text) (numbers_for (number_in names) ds var) (numbered_below names d.language.text (all 0 d.language.text (omega arith))) rest
    by false rest = rest

pub few_numbers_each : (names : List (List ℕ)) (given : List Demand) (vars : List Name) → All (Contains names) (demanded_by given) → All (All (λ s. s < length names)) (numbers_for_each (number_in names) given vars)
few_numbers_each names given [] all = All-nil (All (λ s. s < length names))
few_numbers_each names given (v ∷ vars) all = All-cons (All (λ s. s < length names)) (numbers_for (number_in names) given v.text) (numbers_for_each (number_in names) given vars) (few_numbers names given v.text all) (few_numbers_each names given vars all)

-- a rule has as many variables as its constructor has children
pub vars_many : (t : PlainSignature) (r : Rule) (n : ℕ) → has_rank t r ≡ true → IsNumbered t.constructors r.ctor.text n → length r.vars ≡ get_or (ranks_of t) n 0
vars_many t r n ok at =
    sym (eqb-true (ctor_at t.constructors n).rank (length r.vars) (sym (ap (λ found. option_map_or (λ c. c.rank == length r.vars) found false) at.found) ∙ ok))
    ∙ sym (get_or-map (λ (c : PlainConstructor). c.rank) t.constructors n _ 0 at.below)

module _ (t : PlainSignature) (names : List (List ℕ)) where
  -- the labels of the type have fields of these sorts
  abbrev pub fits : RowAtom → Type 0
  fits = RowFits (sorts_of t)

  rule_fits : (items : List Item) (of : Name) (r : Rule) (p : StaRule RowAtom) → rule_stands items of t r ≡ true → All (Contains names) (demanded_by r.given) → IsRuleFor t (number_in names) (plain_rule p) r → RuleFits (ranks_of t) (length names) p
  rule_fits items of r p ok known is = (
    rw length-map is.numbered.below,
    sym (length-map p.demands.items (λ d. d.items)) ∙ ap length is.demands ∙ length-map r.vars (λ v. numbers_for (number_in names) r.given v.text) ∙ vars_many t r p.constructor (rank_there items of t r ok) is.numbered,
    All_from_map (All (λ s. s < length names)) (λ d. d.items) p.demands.items (subst (All (All (λ s. s < length names))) (sym is.demands) (few_numbers_each names r.given r.vars known)),
  )

  rules_fit : (items : List Item) (of : Name) (rs : List Rule) (ps : List (StaRule RowAtom)) → list_all (rule_stands items of t) rs ≡ true → All (Contains names) (demanded_in rs) → AreRulesFor t (number_in names) (map plain_rule ps) rs → All (RuleFits (ranks_of t) (length names)) ps
  rules_fit items of [] [] ok known are = All-nil (RuleFits (ranks_of t) (length names))
  rules_fit items of [] (p ∷ ps) ok known are = absurd are
  rules_fit items of (r ∷ rs) [] ok known are = absurd are
  rules_fit items of (r ∷ rs) (p ∷ ps) ok known are =
      All-cons (RuleFits (ranks_of t) (length names)) p ps
      (rule_fits items of r p (first_true (rule_stands items of t r) (list_all (rule_stands items of t) rs) ok) (all_left (Contains names) (demanded_by r.given) (demanded_in rs) known) are.0)
      (rules_fit items of rs ps (second_true (rule_stands items of t r) (list_all (rule_stands items of t) rs) ok) (all_right (Contains names) (demanded_by r.given) (demanded_in rs) known) are.1)

  rules_atoms : (rs : List Rule) (ps : List (PlainRule RowAtom)) → AreRulesFor t (number_in names) ps rs → All (λ p. EveryAtom fits p.guard) ps
  rules_atoms [] [] are = All-nil (λ p. EveryAtom fits p.guard)
  rules_atoms [] (p ∷ ps) are = absurd are
  rules_atoms (r ∷ rs) [] are = absurd are
  rules_atoms (r ∷ rs) (p ∷ ps) are = All-cons (λ q. EveryAtom fits q.guard) p ps (guard_fits t.fields r.guard p.guard are.0.guard) (rules_atoms rs ps are.1)

  -- the same for all states
  pub states_fit : {G : Type 0} (items : List Item) (ls : List LangItem) (states : List (Vec (StaRule RowAtom) G)) → All (λ l. list_all (rule_stands items l.of t) l.rules ≡ true) ls → All (λ l. All (Contains names) (demanded_in l.rules)) ls
      → AreStatesFor t (number_in names) (map (λ those. map plain_rule those.items) states) (map (λ l. l.rules) ls) → All (λ those. All (RuleFits (ranks_of t) (length names)) those.items) states
  states_fit items [] [] ok known are = All-nil (λ those. All (RuleFits (ranks_of t) (length names)) those.items)
  states_fit items [] (s ∷ ss) ok known are = absurd are
  states_fit items (l ∷ ls) [] ok known are = absurd are
  states_fit items (l ∷ ls) (s ∷ ss) ok known are =
      All-cons (λ those. All (RuleFits (ranks_of t) (length names)) those.items) s ss (rules_fit items l.of l.rules s.items (ok 0 l (omega arith)) (known 0 l (omega arith)) are.0)
      (states_fit items ls ss (All-tail (λ k. list_all (rule_stands items k.of t) k.rules ≡ true) l ls ok) (All-tail (λ k. All (Contains names) (demanded_in k.rules)) l ls known) are.1)

  pub states_atoms : (ls : List (List Rule)) (states : List (List (PlainRule RowAtom))) → AreStatesFor t (number_in names) states ls → All (λ ps. All (λ p. EveryAtom fits p.guard) ps) states
  states_atoms [] [] are = All-nil (λ ps. All (λ p. EveryAtom fits p.guard) ps)
  states_atoms [] (s ∷ ss) are = absurd are
  states_atoms (l ∷ ls) [] are = absurd are
  states_atoms (l ∷ ls) (s ∷ ss) are = All-cons (λ ps. All (λ p. EveryAtom fits p.guard) ps) s ss (rules_atoms l s are.0) (states_atoms ls ss are.1)

  -- what is so of the guards of the rules is so of their formulas
  pub guards_of : (Q : Formula RowAtom → Type 0) (rs : List Rule) (ps : List (PlainRule RowAtom)) → AreRulesFor t (number_in names) ps rs → ((r : Rule) (f : Formula RowAtom) → Contains rs r → IsGuardFor t.fields r.guard f → Q f) → All (λ p. Q p.guard) ps
  guards_of Q [] [] are each = All-nil (λ p. Q p.guard)
  guards_of Q [] (p ∷ ps) are each = absurd are
  guards_of Q (r ∷ rs) [] are each = absurd are
  guards_of Q (r ∷ rs) (p ∷ ps) are each = All-cons (λ q. Q q.guard) p ps (each r p.guard (0, omega arith, refl) are.0.guard) (guards_of Q rs ps are.1 (λ s f at is. each s f (Contains-append_right (r ∷ []) rs s at) is))

  pub state_at : (ls : List (List Rule)) (states : List (List (PlainRule RowAtom))) (k : ℕ) → AreStatesFor t (number_in names) states ls → AreRulesFor t (number_in names) (get_or states k []) (get_or ls k [])
  state_at [] [] k are = tt
  state_at [] (s ∷ ss) k are = absurd are
  state_at (l ∷ ls) [] k are = absurd are
  state_at (l ∷ ls) (s ∷ ss) zero are = are.0
  state_at (l ∷ ls) (s ∷ ss) (suc k) are = state_at ls ss k are.1

  pub as_many : (ls : List (List Rule)) (states : List (List (PlainRule RowAtom))) → AreStatesFor t (number_in names) states ls → length states ≡ length ls
  as_many [] [] are = refl
  as_many [] (s ∷ ss) are = absurd are
  as_many (l ∷ ls) [] are = absurd are
  as_many (l ∷ ls) (s ∷ ss) are = ap suc (as_many ls ss are.1)

-- the declarations of the languages that are reached
module _ (items : List Item) (well : is_well_formed items ≡ true) (name : List ℕ) (names : List (List ℕ)) (ls : List LangItem) (there : is_some (find_lang items name) ≡ true)
    (reached : AreReached items name names) (closed : AreClosed items names names) (once : IsDistinct same_text names) (found : map (find_lang items) names ≡ map (λ l. Some l) ls) where
  stand : AllStand items
  stand = all_stand items well

  laws : HasMeaning items
  laws = has_meaning items well

  some_lang : (o : Option LangItem) → is_some o ≡ true → (l : LangItem) × (o ≡ Some l)
  some_lang None at = absurd (cc)
  some_lang (Some l) at = (l, refl)

  own : (l : LangItem) × (find_lang items name ≡ Some l)
  own = some_lang (find_lang items name) there

  own_of : IsOf items own.0.of.text name
  own_of = record { lang = own.0; found = own.1; of_is = refl }

  own_stands : LangStands items own.0
  own_stands = stand name own.0 own.1

  pub names_many : length names ≡ length ls
  names_many = sym (length-map names (find_lang items)) ∙ ap length found ∙ length-map ls (λ l. Some l)

  lang_at : (k : ℕ) (d : LangItem) → k < length ls → find_lang items (get_or names k []) ≡ Some (get_or ls k d)
  lang_at k d low = sym (get_or-map (find_lang items) names k [] None (omega (arith, low, names_many))) ∙ ap (λ os. get_or os k None) found ∙ get_or-map (λ l. Some l) ls k d None low

  name_reached : (k : ℕ) → k < length names → Reaches items name (get_or names k [])
  name_reached k low = reached.reached k [] low

  -- ---- the names that are reached

  contained_at : (n : List ℕ) → Contains names n → All (Contains names) (demanded_in (rules_of items n))
  contained_at n at = All-contains (λ m. All (Contains names) (demanded_in (rules_of items m))) names n closed at

  demanded_there : (n : List ℕ) → Contains names n → (r : Rule) (d : Demand) → Contains (rules_of items n) r → Contains r.given d → Contains names d.language.text
  demanded_there n at r d among given = All-contains (Contains names) (demanded_in (rules_of items n)) d.language.text (contained_at n at) (in_demanded (rules_of items n) r d among given)

  is_lang : (n : List ℕ) → Reaches items name n → IsOf items own.0.of.text n
  is_lang n reach = reached_of items own.0.of.text name n stand own_of reach

  all_there : (n : List ℕ) → Reaches items name n → Contains names n
  all_there _ itself = (0, omega (arith, ap length reached.first), ap (λ ns. get_or ns 0 name) reached.first)
  all_there _ (by_demand other r d reach at given) = demanded_there other (all_there other reach) r d at given
  all_there _ (by_lookahead other r d reach at given) = let l = is_lang other reach in absurd (none_of r (subst (λ rs. Contains rs r) (no_out_rules items other l.lang l.found) at))
  all_there _ (by_call other r q reach at calls) = let l = is_lang other reach in absurd (none_of r (subst (λ rs. Contains rs r) (no_out_rules items other l.lang l.found) at))

  pairs : AllPairs (λ one other. one ≢ other) names
  pairs = AllPairs-from_IsDistinct bytes_eq-Decides names once

  beside : (n : List ℕ) → Reaches items name n → IsLanguageBeside items name n
  beside n reach =
      let l = is_lang n reach in
      let type : type_of items (named (name_of n)) ≡ declared_type items l.lang.of = type_named items (name_of n) l.lang l.found in
      record {
        kind = kind_is items (name_of n) l.lang l.found;
        type = type ∙ (ap (λ text. option_map (λ (s : TypeItem). s.name.text) (find_type items text)) l.of_is ∙ sym (type_named items (name_of name) own.0 own.1));
      }

  module _ (t : PlainSignature) (typed : input_of items name ≡ t) where
    own_signature : signature_at items own.0.of ≡ t
    own_signature = sym (type_is items name own.0 own.1) ∙ typed

    pub few_fields : length t.fields ≤ most_fields
    few_fields = subst (λ (s : PlainSignature). length s.fields ≤ most_fields) own_signature own_stands.few

    pub ctors_apart : are_apart (names_of t) ≡ true
    ctors_apart = subst (λ s. are_apart (names_of s) ≡ true) own_signature own_stands.apart

    -- each of them stands, and is of the same type
    lang_stands : (k : ℕ) (d : LangItem) → k < length ls → LangStands items (get_or ls k d)
    lang_stands k d low = stand (get_or names k []) (get_or ls k d) (lang_at k d low)

    lang_signature : (k : ℕ) (d : LangItem) → k < length ls → signature_at items (get_or ls k d).of ≡ t
    lang_signature k d low =
        let at = reached_of items own.0.of.text name (get_or names k []) stand own_of (name_reached k (omega (arith, low, names_many))) in
        let same : at.lang ≡ get_or ls k d = some_same (sym at.found ∙ lang_at k d low) in
        same_type items (get_or ls k d).of own.0.of (ap (λ (l : LangItem). l.of.text) (sym same) ∙ at.of_is) ∙ own_signature
      where
        some_same : {x y : LangItem} → Some x ≡ Some y → x ≡ y
        some_same e = cc

    pub rules_stand : All (λ l. list_all (rule_stands items l.of t) l.rules ≡ true) ls
    rules_stand k d low = subst (λ s. list_all (rule_stands items (get_or ls k d).of s) (get_or ls k d).rules ≡ true) (lang_signature k d low) (lang_stands k d low).rules

    pub ctors_stand : All (λ l. list_all (has_ctor t) l.rules ≡ true) ls
    ctors_stand k d low = ctors_there items (get_or ls k d).of t (get_or ls k d).rules (rules_stand k d low)

    pub guards_stand : All (λ l. All (λ r. GuardStands t.fields r.guard) l.rules) ls
    guards_stand k d low = subst (λ (s : PlainSignature). All (λ r. GuardStands s.fields r.guard) (get_or ls k d).rules) (lang_signature k d low) (lang_stands k d low).guards

    pub demands_stand : All (λ l. All (Contains names) (demanded_in l.rules)) ls
    demands_stand k d low = subst (λ rs. All (Contains names) (demanded_in rs)) (rules_are items (get_or names k []) (get_or ls k d) (lang_at k d low)) (closed k [] (omega (arith, low, names_many)))

    module _ {G : Type 0} (states : List (Vec (StaRule RowAtom) G)) (are : AreStatesFor t (number_in names) (map (λ those. map plain_rule those.items) states) (map (λ l. l.rules) ls)) where
      pub states_many : length states ≡ length names
      states_many = sym (length-map states (λ those. map plain_rule those.items)) ∙ as_many t names (map (λ l. l.rules) ls) (map (λ those. map plain_rule those.items) states) are ∙ length-map ls (λ l. l.rules) ∙ sym names_many

      pub all_fit : RulesFit (ranks_of t) states
      all_fit = subst (λ n. All (λ those. All (RuleFits (ranks_of t) n) those.items) states) (sym states_many) (states_fit t names items ls states rules_stand demands_stand are)

      rules_at : (k : ℕ) → k < length names → AreRulesFor t (number_in names) (get_or (map (λ those. map plain_rule those.items) states) k []) (rules_of items (get_or names k []))
      rules_at k low =
          subst (AreRulesFor t (number_in names) (get_or (map (λ those. map plain_rule those.items) states) k [])) (get_or-map (λ (l : LangItem). l.rules) ls k own.0 [] below ∙ sym (rules_are items (get_or names k []) (get_or ls k own.0) (lang_at k own.0 below)))
          (state_at t names (map (λ l. l.rules) ls) (map (λ those. map plain_rule those.items) states) k are)
        where
          below : k < length ls
          below = omega (arith, low, names_many)

      abbrev machine : Machine RowAtom
      machine = record { ranks = ranks_of t; rules = map (λ those. map plain_rule those.items) states }

      -- each guard is that of a rule of a language that is reached
      guards_reached : All (λ ps. All (λ p. IsGuardReached items name p.guard) ps) (map (λ those. map plain_rule those.items) states)
      guards_reached k d low =
          let below : k < length names = omega (arith, low, length-map states (λ those. map plain_rule those.items), states_many) in
          subst (All (λ p. IsGuardReached items name p.guard)) (get_or_default (map (λ those. map plain_rule those.items) states) k [] d low)
          (guards_of t names (IsGuardReached items name) (rules_of items (get_or names k [])) (get_or (map (λ those. map plain_rule those.items) states) k []) (rules_at k below)
          (λ r f at is. (get_or names k [], name_reached k below, r, at, subst (λ (s : PlainSignature). IsGuardFor s.fields r.guard f) (sym typed) is)))

      -- each state has rules for those of its language
      by_rules : (n : List ℕ) → Contains names n → IsByRules items laws.by_rules t (number_in names) (map (λ those. map plain_rule those.items) states) (Contains names) n
      by_rules n at =
          let reach = All-contains (Reaches items name) names n reached.reached at in
          let l = is_lang n reach in
          record {
            typed = reached_type items own.0.of.text name n stand own_of reach ∙ typed;
            undefined = no_definition items n l.lang l.found;
            demands = demanded_there n at;
            are = subst (λ m. AreRulesFor t (number_in names) (get_or (map (λ those. map plain_rule those.items) states) (number_in names n) []) (rules_of items m)) (named_by_number names n at) (rules_at (number_in names n) (numbered_below names n at));
          }

      means_at : (k : ℕ) → k < length names → (u : LabelTree) → HasType (input_of items name) u → IsInLanguage items (named (name_of (get_or names k []))) u ↔ is_accepted (automaton_of row_holds machine) u k ≡ true
      means_at k low u h =
          subst (λ j. IsInLanguage items (named (name_of (get_or names k []))) u ↔ is_accepted (automaton_of row_holds machine) u j ≡ true) (number_at_place names k low pairs)
          (means items laws.by_rules t (number_in names) (map (λ those. map plain_rule those.items) states) (Contains names) (λ n at. inl (by_rules n at)) ctors_apart u (subst (λ s. HasType s u) typed h) (get_or names k []) (Contains-get_or names k [] low))

      -- they are the automaton of the language
      pub is_automaton : IsAutomatonOf items name machine
      is_automaton = record {
        others = reached.others;
        reached = subst (All (Reaches items name)) reached.first reached.reached;
        all = λ n reach. subst (λ ns. Contains ns n) reached.first (all_there n reach);
        once = subst (AllPairs (λ one other. one ≢ other)) reached.first pairs;
        languages = subst (All (IsLanguageBeside items name)) reached.first (λ k d low. beside (get_or names k d) (reached.reached k d low));
        ranks = sym (ap ranks_of typed);
        states = length-map states (λ those. map plain_rule those.items) ∙ states_many ∙ ap length reached.first;
        fit = subst (λ s. AtomsFit (RowFits (sorts_of s)) machine) (sym typed) (states_atoms t names (map (λ l. l.rules) ls) (map (λ those. map plain_rule those.items) states) are);
        means = subst (λ (ns : List (List ℕ)). (k : ℕ) → k < length ns → (u : LabelTree) → HasType (input_of items name) u → IsInLanguage items (named (name_of (get_or ns k []))) u ↔ is_accepted (automaton_of row_holds machine) u k ≡ true) reached.first means_at;
        guards = guards_reached;
      }

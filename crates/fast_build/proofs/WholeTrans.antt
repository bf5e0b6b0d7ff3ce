-- A transducer that is made of rules for the rules of all transformations that are reached, with a lookahead for all languages that these reach.
use Rattle.std.proofs.Common.{◌≡◌, ◌⊎◌, ◌↔◌, inl, ℕ, ◌<◌, ◌≤◌, true, List, [], Some, Vec, map, length, get_or, All, Contains, sym, ap, subst, ◌∙◌}
use Rattle.std.specs.List.{list_all, IsDistinct}
use Rattle.std.proofs.lemmas.List.{length-map, get_or-map}
use Rattle.std.proofs.lemmas.List.Elements.{Contains-get_or, All-contains}
use Rattle.std.proofs.Math.ListN.{get_or-map as get_or-map_same}
use Rattle.model_tree.specs.Limits.{most_fields}
use Rattle.model_tree.specs.Label.{Label}
use Rattle.model_tree.specs.Tree.{node, LabelTree}
use Rattle.model_tree.specs.Formula.{EveryAtom}
use Rattle.model_tree.specs.Signature.{PlainSignature, HasType, HasSorts, names_of, ranks_of, sorts_of}
use Rattle.model_grammar.specs.Syntax.{named, Rule, OutRule, LangItem, TransItem, Item}
use Rattle.model_names.specs.Declared.{name_of, same_text, rules_of, out_rules_of}
use Rattle.model_checks.specs.Programs.{is_well_formed}
use Rattle.model_meaning.specs.Types.{input_of, output_of}
use Rattle.model_meaning.specs.Meaning.{IsInLanguage, IsRelated, Applies}
use Rattle.model_meaning.specs.Laws.{IsTermTyped}
use Rattle.model_meaning.specs.Reached.{Reaches}
use Rattle.meaning_laws.specs.Laws.{HasMeaning}
use Rattle.meaning_laws.proofs.Whole.{has_meaning}
use Rattle.model_sta.specs.Automaton.{is_accepted, rule_applies}
use Rattle.model_sta.specs.Automaton as automata
use Rattle.model_sta.specs.Pairwise.{Pairwise}
use Rattle.model_sta.specs.Sets.{Each}
use Rattle.model_sttr.specs.Terms.{Occurs, with_maps, TermFits}
use Rattle.model_sttr.specs.Plain.{PlainOut}
use Rattle.model_sttr.specs.Guards.{MakesBy}
use Rattle.model_sttr.specs.Transducer.{Head, identity, run, Sttr, out_rules, Gives, GivesSame, IsHead, OutRuleFits, SttrFits, MakesTyped}
use Rattle.model_sttr.specs.Transducer as machines
use Rattle.sta_core.specs.Fits.{RulesFit, RuleFits}
use Rattle.sta_core.specs.Machine.{PlainRule, plain_rule}
use Rattle.sta_core.specs.Sta.{rule_meaning}
use Rattle.sta_core.specs.declared.StaRule.{StaRule}
use Rattle.sttr_core.specs.Machine.{OutMachine, plain_out, transducer_of}
use Rattle.sttr_core.specs.Fits.{EveryMap, MapsAre, LabelsFit}
use Rattle.sttr_core.specs.declared.sttr.SttrRule.{SttrRule}
use Rattle.sttr_core.proofs.Meaning.{meaning_of, mapped_from, rules_meant, rule_held}
use Rattle.record_label.specs.Rows.{RowAtom, row_holds, RowFits}
use Rattle.record_label.specs.declared.maps.RowMap.{RowMap}
use Rattle.record_label.specs.Maps.{EntriesFit, sort_by}
use Rattle.record_label.specs.PlainMaps.{plain_entry}
use Rattle.fast_build.specs.Items.{find_lang}
use Rattle.fast_build.specs.Numbers.{has_ctor, number_in, numbers_for, numbers_for_each}
use Rattle.fast_build.specs.Stands.{GuardStands}
use Rattle.fast_build.specs.Reached.{AreReached, AreClosed, demanded_by, demanded_in}
use Rattle.fast_build.specs.Called.{AreCallsClosed, AreLooked}
use Rattle.fast_build.specs.Transformations.{find_trans}
use Rattle.fast_build.specs.Rules.{IsGuardFor, IsRuleFor, AreRulesFor, AreStatesFor}
use Rattle.fast_build.specs.Terms.{row_make, IsMapFor, LabelsStand}
use Rattle.fast_build.specs.OutRules.{IsOutRuleFor, AreOutRulesFor, AreOutStatesFor, OutRuleStands}
use Rattle.fast_build.specs.Automaton.{IsGuardReached, IsLanguageBeside}
use Rattle.fast_build.specs.Transducer.{IsOutGuardReached, IsMapReached, IsTransformationBeside, IsTransducerOf}
use Rattle.fast_build.proofs.Naming.{numbered_below, named_by_number, number_at_place}
use Rattle.fast_build.proofs.Stands.{are_apart, has_rank, rule_stands}
use Rattle.fast_build.proofs.Standing.{rules_are, no_definition}
use Rattle.fast_build.proofs.Guarding.{guard_fits}
use Rattle.fast_build.proofs.Whole.{few_numbers_each, vars_many, states_fit, states_atoms}
use Rattle.fast_build.proofs.Meaning as looks
use Rattle.fast_build.proofs.Relating.{IsThere, IsByOutRules, relates}
use Rattle.fast_build.proofs.Transforming.{outs_are, demanded_there}
use Rattle.fast_build.proofs.Paired.{paired_at, paired_many, paired_with, paired_like, each_all, each_each_all, each_place, place_low, listed}
use Rattle.fast_build.proofs.TermFacts.{IsMapIn, map_in, map_fits, map_sorts, child_low, state_called, same_types, term_fits}
use Rattle.fast_build.proofs.CalledFacts as facts

-- the names of the transformations and of the languages, with their declarations
pub record AreGathered (items : List Item) (name : List ℕ) (t : TransItem) (names : List (List ℕ)) (ts : List TransItem) (seeds looked : List (List ℕ)) (ls : List LangItem) : Type 0 where
  pub found : find_trans items name ≡ Some t
  pub reached : AreReached items name names
  pub closed : AreCallsClosed items names names
  pub once : IsDistinct same_text names
  pub founds : map (find_trans items) names ≡ map (λ x. Some x) ts
  pub seeded : AreLooked ts seeds
  pub kept : All (Contains looked) seeds
  pub from_seeds : All (λ n. (s : List ℕ) × Contains seeds s × Reaches items s n) looked
  pub closed_looks : AreClosed items looked looked
  pub once_looks : IsDistinct same_text looked
  pub founds_looks : map (find_lang items) looked ≡ map (λ l. Some l) ls

module _ (items : List Item) (well : is_well_formed items ≡ true) (name : List ℕ) (t : TransItem) (names : List (List ℕ)) (ts : List TransItem) (seeds looked : List (List ℕ)) (ls : List LangItem) (g : AreGathered items name t names ts seeds looked ls)
    (s o : PlainSignature) (begins : input_of items name ≡ s) (ends : output_of items name ≡ o) where
  laws : HasMeaning items
  laws = has_meaning items well

  -- ---- what the functions ask for

  pub few : length s.fields ≤ most_fields
  few = facts.few items well name t g.found names ts g.reached g.closed g.once g.founds seeds g.seeded looked ls g.kept g.from_seeds g.closed_looks g.once_looks g.founds_looks s o begins ends

  pub outs_stand : All (λ x. All (OutRuleStands s o looked names) x.rules) ts
  outs_stand = facts.outs_stand items well name t g.found names ts g.reached g.closed g.once g.founds seeds g.seeded looked ls g.kept g.from_seeds g.closed_looks g.once_looks g.founds_looks s o begins ends

  looks_stand : All (λ l. list_all (rule_stands items l.of s) l.rules ≡ true) ls
  looks_stand = facts.looks_stand items well name t g.found names ts g.reached g.closed g.once g.founds seeds g.seeded looked ls g.kept g.from_seeds g.closed_looks g.once_looks g.founds_looks s o begins ends

  pub look_ctors : All (λ l. list_all (has_ctor s) l.rules ≡ true) ls
  look_ctors = facts.look_ctors items well name t g.found names ts g.reached g.closed g.once g.founds seeds g.seeded looked ls g.kept g.from_seeds g.closed_looks g.once_looks g.founds_looks s o begins ends

  pub look_guards : All (λ l. All (λ r. GuardStands s.fields r.guard) l.rules) ls
  look_guards = facts.look_guards_stand items well name t g.found names ts g.reached g.closed g.once g.founds seeds g.seeded looked ls g.kept g.from_seeds g.closed_looks g.once_looks g.founds_looks s o begins ends

  pub look_demands : All (λ l. All (Contains looked) (demanded_in l.rules)) ls
  look_demands = facts.look_demands_stand items well name t g.found names ts g.reached g.closed g.once g.founds seeds g.seeded looked ls g.kept g.from_seeds g.closed_looks g.once_looks g.founds_looks s o begins ends

  apart_from : are_apart (names_of s) ≡ true
  apart_from = facts.apart_from items well name t g.found names ts g.reached g.closed g.once g.founds seeds g.seeded looked ls g.kept g.from_seeds g.closed_looks g.once_looks g.founds_looks s o begins ends

  apart_into : are_apart (names_of o) ≡ true
  apart_into = facts.apart_into items well name t g.found names ts g.reached g.closed g.once g.founds seeds g.seeded looked ls g.kept g.from_seeds g.closed_looks g.once_looks g.founds_looks s o begins ends

  reached_one : (n : List ℕ) → Contains names n → Reaches items name n
  reached_one n at = All-contains (Reaches items name) names n g.reached.reached at

  module _ {G : Type 0} (states : List (Vec (StaRule RowAtom) G)) (outs : List (Vec (SttrRule RowAtom RowMap) G))
      (are_looks : AreStatesFor s (number_in looked) (map (λ those. map plain_rule those.items) states) (map (λ l. l.rules) ls))
      (are_outs : AreOutStatesFor s o (number_in looked) (number_in names) (map (λ those. map plain_out those.items) outs) (map (λ x. x.rules) ts)) where
    abbrev pub look_rules : List (List (PlainRule RowAtom))
    look_rules = map (λ those. map plain_rule those.items) states

    abbrev pub rules : List (List (PlainOut (PlainRule RowAtom) RowMap))
    rules = map (λ those. map plain_out those.items) outs

    abbrev pub device : OutMachine RowAtom RowMap
    device = record { looks = record { ranks = ranks_of s; rules = look_rules }; rules = rules }

    abbrev meant : Sttr Label
    meant = transducer_of row_holds row_make device

    -- ---- the rules of the states

    looks_listed : map (rules_of items) looked ≡ map (λ l. l.rules) ls
    looks_listed = listed (find_lang items) (rules_of items) (λ l. l.rules) (λ n l e. rules_are items n l e) looked ls g.founds_looks

    outs_listed : map (out_rules_of items) names ≡ map (λ x. x.rules) ts
    outs_listed = listed (find_trans items) (out_rules_of items) (λ x. x.rules) (λ n x e. outs_are items n x e) names ts g.founds

    pub looks_by_name : AreStatesFor s (number_in looked) look_rules (map (rules_of items) looked)
    looks_by_name = subst (AreStatesFor s (number_in looked) look_rules) (sym looks_listed) are_looks

    pub outs_by_name : AreOutStatesFor s o (number_in looked) (number_in names) rules (map (out_rules_of items) names)
    outs_by_name = subst (AreOutStatesFor s o (number_in looked) (number_in names) rules) (sym outs_listed) are_outs

    look_many : length look_rules ≡ length looked
    look_many = paired_many (AreRulesFor s (number_in looked)) look_rules (map (rules_of items) looked) looks_by_name ∙ length-map looked (rules_of items)

    pub out_many : length rules ≡ length names
    out_many = paired_many (AreOutRulesFor s o (number_in looked) (number_in names)) rules (map (out_rules_of items) names) outs_by_name ∙ length-map names (out_rules_of items)

    low_look : (q : ℕ) → q < length look_rules → q < length looked
    low_look q low = subst (λ n. q < n) look_many low

    low_out : (q : ℕ) → q < length rules → q < length names
    low_out q low = subst (λ n. q < n) out_many low

    look_rules_at : (k : ℕ) → k < length looked → AreRulesFor s (number_in looked) (get_or look_rules k []) (rules_of items (get_or looked k []))
    look_rules_at k low = subst (AreRulesFor s (number_in looked) (get_or look_rules k [])) (get_or-map (rules_of items) looked k [] [] low) (paired_at (IsRuleFor s (number_in looked)) look_rules (map (rules_of items) looked) k looks_by_name)

    pub out_rules_at : (k : ℕ) → k < length names → AreOutRulesFor s o (number_in looked) (number_in names) (get_or rules k []) (out_rules_of items (get_or names k []))
    out_rules_at k low =
        subst (AreOutRulesFor s o (number_in looked) (number_in names) (get_or rules k [])) (get_or-map (out_rules_of items) names k [] [] low) (paired_at (IsOutRuleFor s o (number_in looked) (number_in names)) rules (map (out_rules_of items) names) k outs_by_name)

    pub all_fit : RulesFit (ranks_of s) states
    all_fit =
        subst (λ n. All (λ those. All (RuleFits (ranks_of s) n) those.items) states) (sym (sym (length-map states (λ those. map plain_rule those.items)) ∙ look_many)) (states_fit s looked items ls states looks_stand look_demands are_looks)

    -- ---- what the states of the lookahead accept

    by_rules : (n : List ℕ) → Contains looked n → looks.IsByRules items laws.by_rules s (number_in looked) look_rules (Contains looked) n
    by_rules n at =
        let l = facts.looked_of items well name t g.found names ts g.reached g.closed g.once g.founds seeds g.seeded looked ls g.kept g.from_seeds g.closed_looks g.once_looks g.founds_looks n at in
        record {
          typed = facts.look_input items well name t g.found names ts g.reached g.closed g.once g.founds seeds g.seeded looked ls g.kept g.from_seeds g.closed_looks g.once_looks g.founds_looks s o begins ends n at;
          undefined = no_definition items n l.lang l.found;
          demands = facts.look_demands items well name t g.found names ts g.reached g.closed g.once g.founds seeds g.seeded looked ls g.kept g.from_seeds g.closed_looks g.once_looks g.founds_looks n at;
          are = subst (λ m. AreRulesFor s (number_in looked) (get_or look_rules (number_in looked n) []) (rules_of items m)) (named_by_number looked n at) (look_rules_at (number_in looked n) (numbered_below looked n at));
        }

    known : (n : List ℕ) → Contains looked n → looks.IsByRules items laws.by_rules s (number_in looked) look_rules (Contains looked) n ⊎ looks.IsAttached items laws.by_rules s (number_in looked) look_rules n
    known n at = inl (by_rules n at)

    -- ---- what the states give

    there : (n : List ℕ) → Contains names n → (r : OutRule) → Contains (out_rules_of items n) r → IsThere items laws.by_rules s o (number_in looked) (number_in names) device (Contains names) (Contains looked) known apart_from apart_into r
    there n at r among =
        let (x, in_ts, e) = facts.trans_of items well name t g.found names ts g.reached g.closed g.once g.founds n at in
        record {
          demands = λ d given. facts.rule_looks items well name t g.found names ts g.reached g.closed g.once g.founds seeds g.seeded looked ls g.kept g.from_seeds g.closed_looks g.once_looks g.founds_looks x r d in_ts (subst (λ rs. Contains rs r) (outs_are items n x e) among) given;
          calls = λ q calls. facts.call_there items well name t g.found names ts g.reached g.closed g.once g.founds n q r at among calls;
        }

    by_outs : (n : List ℕ) → Contains names n → IsByOutRules items laws.by_rules s o (number_in looked) (number_in names) device (Contains names) (Contains looked) known apart_from apart_into n
    by_outs n at = record {
      begins = facts.input_there items well name t g.found names ts g.reached g.closed g.once g.founds seeds g.seeded looked ls g.kept g.from_seeds g.closed_looks g.once_looks g.founds_looks s o begins ends n at;
      ends = facts.output_there items well name t g.found names ts g.reached g.closed g.once g.founds seeds g.seeded looked ls g.kept g.from_seeds g.closed_looks g.once_looks g.founds_looks s o begins ends n at;
      undefined = (let f = facts.from_at items well name t g.found names ts g.reached g.closed g.once g.founds n at in laws.transformations n t.from.text t.into.text f);
      there = there n at;
      are = subst (λ m. AreOutRulesFor s o (number_in looked) (number_in names) (get_or rules (number_in names n) []) (out_rules_of items m)) (named_by_number names n at) (out_rules_at (number_in names n) (numbered_below names n at));
    }

    means : (k : ℕ) → k < length names → (u w : LabelTree) → HasType s u → IsRelated items (named (name_of (get_or names k []))) u w ↔ Gives meant (run k) u w
    means k low u w typed =
        subst (λ j. IsRelated items (named (name_of (get_or names k []))) u w ↔ Gives meant (run j) u w) (number_at_place names k low (facts.pairs items well name t g.found names ts g.reached g.closed g.once g.founds))
        (relates items laws.by_rules s o (number_in looked) (number_in names) device (Contains names) (Contains looked) known apart_from apart_into by_outs u typed (get_or names k []) (Contains-get_or names k [] low) w)

    look_means : (k : ℕ) → k < length looked → (u : LabelTree) → HasType s u → IsInLanguage items (named (name_of (get_or looked k []))) u ↔ is_accepted meant.looks u k ≡ true
    look_means k low u typed =
        subst (λ j. IsInLanguage items (named (name_of (get_or looked k []))) u ↔ is_accepted meant.looks u j ≡ true) (number_at_place looked k low (facts.look_pairs items well name t g.found names ts g.reached g.closed g.once g.founds seeds g.seeded looked ls g.kept g.from_seeds g.closed_looks g.once_looks g.founds_looks))
        (looks.means items laws.by_rules s (number_in looked) look_rules (Contains looked) known apart_from u typed (get_or looked k []) (Contains-get_or looked k [] low))

    -- ---- to which trees the rules apply

    rule_applies_as : (n : List ℕ) → Contains names n → (x : PlainOut (PlainRule RowAtom) RowMap) (r : OutRule) → Contains (out_rules_of items n) r → IsOutRuleFor s o (number_in looked) (number_in names) x r → (u : LabelTree) → HasType s u
        → (rule_applies meant.looks u (meaning_of row_holds row_make x).rule ≡ true) ↔ Applies items s r.rule u
    rule_applies_as n at x r among is (node c l us) h =
        let low = subst (λ (k : ℕ). c < k) (length-map _ _) h.0 in
        let m = looks.rule_match items laws.by_rules s (number_in looked) look_rules (Contains looked) known apart_from c l us low h.2 (looks.meets items laws.by_rules s (number_in looked) look_rules (Contains looked) known apart_from us h.3) r.rule x.rule is.rule (there n at r among).demands in
        (m.1, m.0)

    applies : (k : ℕ) → k < length names → Pairwise (λ r w. (u : LabelTree) → HasType s u → (rule_applies meant.looks u r.rule ≡ true) ↔ Applies items s w.rule u) (out_rules meant k) (out_rules_of items (get_or names k []))
    applies k low =
        subst (λ rs. Pairwise (λ r w. (u : LabelTree) → HasType s u → (rule_applies meant.looks u r.rule ≡ true) ↔ Applies items s w.rule u) rs (out_rules_of items (get_or names k []))) (sym (rules_meant row_holds row_make device k))
        (paired_like (IsOutRuleFor s o (number_in looked) (number_in names)) (λ r w. (u : LabelTree) → HasType s u → (rule_applies meant.looks u r.rule ≡ true) ↔ Applies items s w.rule u) (meaning_of row_holds row_make)
        (get_or rules k []) (out_rules_of items (get_or names k [])) (λ x r among is. rule_applies_as (get_or names k []) (Contains-get_or names k [] low) x r among is) (out_rules_at k low))

    -- ---- each rule of a state

    record Held (x : PlainOut (PlainRule RowAtom) RowMap) : Type 0 where
      of : List ℕ
      among : Contains names of
      rule : OutRule
      there : Contains (out_rules_of items of) rule
      is : IsOutRuleFor s o (number_in looked) (number_in names) x rule
      stands : OutRuleStands s o looked names rule
      rank : has_rank s rule.rule ≡ true
      typed : IsTermTyped items s o rule.out

    held : (q : ℕ) (x : PlainOut (PlainRule RowAtom) RowMap) → Contains (get_or rules q []) x → Held x
    held q x at =
        let low : q < length names = low_out q (place_low rules q x at) in
        let n = get_or names q [] in
        let among = Contains-get_or names q [] low in
        let (r, there, is) = paired_with (IsOutRuleFor s o (number_in looked) (number_in names)) (get_or rules q []) (out_rules_of items n) x (out_rules_at q low) at in
        let (y, in_ts, e) = facts.trans_of items well name t g.found names ts g.reached g.closed g.once g.founds n among in
        let own = subst (λ rs. Contains rs r) (outs_are items n y e) there in
        record {
          of = n;
          among = among;
          rule = r;
          there = there;
          is = is;
          stands = facts.rule_stands_at items well name t g.found names ts g.reached g.closed g.once g.founds seeds g.seeded looked ls g.kept g.from_seeds g.closed_looks g.once_looks g.founds_looks s o begins ends n y r among in_ts e own;
          rank = facts.rank_at items well name t g.found names ts g.reached g.closed g.once g.founds seeds g.seeded looked ls g.kept g.from_seeds g.closed_looks g.once_looks g.founds_looks s o begins ends n y r among e own;
          typed = subst (λ i. IsTermTyped items i o r.out) (facts.input_there items well name t g.found names ts g.reached g.closed g.once g.founds seeds g.seeded looked ls g.kept g.from_seeds g.closed_looks g.once_looks g.founds_looks s o begins ends n among) (subst (λ i. IsTermTyped items (input_of items n) i r.out) (facts.output_there items well name t g.found names ts g.reached g.closed g.once g.founds seeds g.seeded looked ls g.kept g.from_seeds g.closed_looks g.once_looks g.founds_looks s o begins ends n among) (laws.outputs.rules.terms n r there));
        }

    map_there : (x : PlainOut (PlainRule RowAtom) RowMap) (h : Held x) (m : RowMap) → MakesBy x.term m → IsMapIn s o names (number_in names) h.rule.rule.vars h.rule.out m
    map_there x h m by = map_in s o names (number_in names) h.rule.rule.vars h.rule.out x.term m h.is.term h.stands.term by

    -- ---- rules fit

    looks_low : length meant.looks ≡ length looked
    looks_low = length-map look_rules (map (rule_meaning row_holds)) ∙ look_many

    demands_fit : (p : PlainRule RowAtom) (r : Rule) → IsRuleFor s (number_in looked) p r → All (Contains looked) (demanded_by r.given) → Each (Each (λ n. n < length meant.looks)) p.demands
    demands_fit p r is all =
        subst (λ ds. Each (Each (λ n. n < length meant.looks)) ds) (sym is.demands)
        (subst (λ m. Each (Each (λ n. n < m)) (numbers_for_each (number_in looked) r.given r.vars)) (sym looks_low)
        (each_each_all (λ n. n < length looked) (numbers_for_each (number_in looked) r.given r.vars) (few_numbers_each looked r.given r.vars all)))

    look_fits : (q : ℕ) (r : automata.Rule Label) → Contains (automata.rules_of meant.looks q) r → Each (Each (λ n. n < length meant.looks)) r.demands
    look_fits q r at =
        let e : automata.rules_of meant.looks q ≡ map (rule_meaning row_holds) (get_or look_rules q []) = get_or-map_same (map (rule_meaning row_holds)) look_rules q [] in
        let at' = subst (λ rs. Contains rs r) e at in
        let (p, there, is) = mapped_from (rule_meaning row_holds) (get_or look_rules q []) at'.0 r at'.1 at'.2 in
        let low : q < length looked = low_look q (place_low look_rules q p there) in
        let (w, among, own) = paired_with (IsRuleFor s (number_in looked)) (get_or look_rules q []) (rules_of items (get_or looked q [])) p (look_rules_at q low) there in
        let all = each_all (Contains looked) (demanded_by w.given) (λ n by. (let (d, given, same) = demanded_there w.given n by in subst (Contains looked) same (facts.look_demands items well name t g.found names ts g.reached g.closed g.once g.founds seeds g.seeded looked ls g.kept g.from_seeds g.closed_looks g.once_looks g.founds_looks (get_or looked q []) (Contains-get_or looked q [] low) w d among given))) in
        subst (λ (x : automata.Rule Label). Each (Each (λ n. n < length meant.looks)) x.demands) is (demands_fit p w own all)

    head_fits : (x : PlainOut (PlainRule RowAtom) RowMap) (h : Held x) (q : ℕ) (r : machines.OutRule Label) → Contains (out_rules meant q) r → meaning_of row_holds row_make x ≡ r → (k : Head) (j : ℕ) → Occurs k j (with_maps row_make x.term) → IsHead meant k
    head_fits x h q r at is identity j occurs = (q, r, at, j, subst (λ (y : machines.OutRule Label). Occurs identity j y.term) is occurs)
    head_fits x h q r at is (run k) j occurs =
        let (n, calls, number) = state_called s o names (number_in names) h.rule.rule.vars h.rule.out x.term k j h.is.term occurs in
        let among = facts.call_there items well name t g.found names ts g.reached g.closed g.once g.founds h.of n h.rule h.among h.there calls in
        let many : length meant.rules ≡ length names = length-map rules (map (meaning_of row_holds row_make)) ∙ out_many in
        subst (λ m. k < m) (sym many) (subst (λ i. i < length names) (sym number) (numbered_below names n among))

    rule_arity : (x : PlainOut (PlainRule RowAtom) RowMap) → Held x → (x.rule.constructor < length (ranks_of s)) × (length x.rule.demands ≡ get_or (ranks_of s) x.rule.constructor 0)
    rule_arity x h = (
      rw length-map h.is.rule.numbered.below,
      ap length h.is.rule.demands ∙ length-map h.rule.rule.vars (λ v. numbers_for (number_in looked) h.rule.rule.given v.text) ∙ vars_many s h.rule.rule x.rule.constructor h.rank h.is.rule.numbered,
    )

    arities : All (λ xs. All (λ (x : PlainOut (PlainRule RowAtom) RowMap). (x.rule.constructor < length (ranks_of s)) × (length x.rule.demands ≡ get_or (ranks_of s) x.rule.constructor 0)) xs) rules
    arities =
        each_place (λ (x : PlainOut (PlainRule RowAtom) RowMap). (x.rule.constructor < length (ranks_of s)) × (length x.rule.demands ≡ get_or (ranks_of s) x.rule.constructor 0)) rules (λ k x low at. rule_arity x (held k x at))

    out_fits : (q : ℕ) (r : machines.OutRule Label) → Contains (out_rules meant q) r → OutRuleFits meant (ranks_of s) r
    out_fits q r at =
        let (x, there, is) = rule_held row_holds row_make device q r at in
        let h = held q x there in
        subst (OutRuleFits meant (ranks_of s)) is (record {
          children = λ j uses. subst (λ n. j < n) (vars_many s h.rule.rule x.rule.constructor h.rank h.is.rule.numbered) (child_low s o names (number_in names) h.rule.rule.vars h.rule.out x.term j h.is.term uses);
          heads = head_fits x h q r at is;
          demands = demands_fit x.rule h.rule.rule h.is.rule h.stands.demands;
        })

    terms_typed : MakesTyped meant (ranks_of o) (HasSorts (sorts_of s)) (HasSorts (sorts_of o))
    terms_typed q r at =
        let (x, there, is) = rule_held row_holds row_make device q r at in
        let h = held q x there in
        subst (λ (y : machines.OutRule Label). TermFits (ranks_of o) (HasSorts (sorts_of s)) (HasSorts (sorts_of o)) y.term) is (term_fits s o names (number_in names) h.rule.rule.vars items apart_into h.rule.out x.term h.is.term h.stands.term h.typed)

    unchanged : GivesSame meant → s ≡ o
    unchanged (q, r, at, j, occurs) =
        let (x, there, is) = rule_held row_holds row_make device q r at in
        let h = held q x there in
        same_types s o names (number_in names) h.rule.rule.vars items h.rule.out x.term j h.is.term h.typed (subst (λ (y : machines.OutRule Label). Occurs identity j y.term) (sym is) occurs)

    labels_fit : LabelsFit (RowFits (sorts_of s)) (λ m. EntriesFit (sorts_of s) (map plain_entry m.entries.items)) device
    labels_fit = record {
      looks = states_atoms s looked (map (λ l. l.rules) ls) look_rules are_looks;
      guards = each_place (λ x. EveryAtom (RowFits (sorts_of s)) x.rule.guard) rules (λ k x low at. (let h = held k x at in guard_fits s.fields h.rule.rule.guard x.rule.guard h.is.rule.guard));
      maps = each_place (λ x. EveryMap (λ m. EntriesFit (sorts_of s) (map plain_entry m.entries.items)) x.term) rules
          (λ k x low at m by. (let h = held k x at in let i = map_there x h m by in map_fits s o names (number_in names) h.rule.rule.vars i.labels m i.is));
    }

    maps_made : MapsAre (λ m. map sort_by (map plain_entry m.entries.items) ≡ sorts_of o) device
    maps_made =
        each_place (λ x. EveryMap (λ m. map sort_by (map plain_entry m.entries.items) ≡ sorts_of o) x.term) rules
        (λ k x low at m by. (let h = held k x at in let i = map_there x h m by in map_sorts s o names (number_in names) h.rule.rule.vars i.labels m i.labelled i.is))

    -- ---- what is written

    look_guards_reached : All (λ ps. All (λ p. IsGuardReached items name p.guard) ps) look_rules
    look_guards_reached =
        each_place (λ p. IsGuardReached items name p.guard) look_rules
        (λ k p low at. (let below : k < length looked = low_look k low in
        let n = get_or looked k [] in
        let (w, among, own) = paired_with (IsRuleFor s (number_in looked)) (get_or look_rules k []) (rules_of items n) p (look_rules_at k below) at in
        (n, facts.looked_reached items well name t g.found names ts g.reached g.closed g.once g.founds seeds g.seeded looked ls g.kept g.from_seeds g.closed_looks g.once_looks g.founds_looks n (Contains-get_or looked k [] below), w, among, subst (λ (i : PlainSignature). IsGuardFor i.fields w.guard p.guard) (sym begins) own.guard)))

    guards_reached : All (λ xs. All (λ x. IsOutGuardReached items name x.rule.guard) xs) rules
    guards_reached =
        each_place (λ x. IsOutGuardReached items name x.rule.guard) rules
        (λ k x low at. (let h = held k x at in (h.of, reached_one h.of h.among, h.rule, h.there, subst (λ (i : PlainSignature). IsGuardFor i.fields h.rule.rule.guard x.rule.guard) (sym begins) h.is.rule.guard)))

    map_reached : (x : PlainOut (PlainRule RowAtom) RowMap) (h : Held x) (m : RowMap) → MakesBy x.term m → IsMapReached items name m
    map_reached x h m by =
        let i = map_there x h m by in
        record {
          other = h.of;
          reached = reached_one h.of h.among;
          rule = h.rule;
          there = h.there;
          labels = i.labels;
          stand = i.stand;
          labelled = subst (λ (j : PlainSignature). LabelsStand j.fields (output_of items name) i.labels) (sym begins) (subst (λ j. LabelsStand s.fields j i.labels) (sym ends) i.labelled);
          is = subst (λ j. IsMapFor j (output_of items name) i.labels m) (sym begins) (subst (λ j. IsMapFor s j i.labels m) (sym ends) i.is);
        }

    maps_reached : All (λ xs. All (λ x. EveryMap (IsMapReached items name) x.term) xs) rules
    maps_reached = each_place (λ x. EveryMap (IsMapReached items name) x.term) rules (λ k x low at m by. map_reached x (held k x at) m by)

    -- ---- the whole

    pub is_transducer : IsTransducerOf items name names device
    is_transducer = record {
      others = g.reached.others;
      first = g.reached.first;
      reached = g.reached.reached;
      all = facts.all_there items well name t g.found names ts g.reached g.closed g.once g.founds;
      once = facts.pairs items well name t g.found names ts g.reached g.closed g.once g.founds;
      transformations = each_all (IsTransformationBeside items name) names (facts.beside items well name t g.found names ts g.reached g.closed g.once g.founds);
      looked = looked;
      looked_reached = each_all (Reaches items name) looked (facts.looked_reached items well name t g.found names ts g.reached g.closed g.once g.founds seeds g.seeded looked ls g.kept g.from_seeds g.closed_looks g.once_looks g.founds_looks);
      languages = each_all (IsLanguageBeside items name) looked (facts.look_beside items well name t g.found names ts g.reached g.closed g.once g.founds seeds g.seeded looked ls g.kept g.from_seeds g.closed_looks g.once_looks g.founds_looks);
      ranks = sym (ap ranks_of begins);
      looks = subst (λ i. AreStatesFor i (number_in looked) look_rules (map (rules_of items) looked)) (sym begins) looks_by_name;
      rules = subst (λ i. AreOutStatesFor i (output_of items name) (number_in looked) (number_in names) rules (map (out_rules_of items) names)) (sym begins) (subst (λ i. AreOutStatesFor s i (number_in looked) (number_in names) rules (map (out_rules_of items) names)) (sym ends) outs_by_name);
      arities = arities;
      means = λ k low u w typed. means k low u w (subst (λ i. HasType i u) begins typed);
      look_means = λ k low u typed. look_means k low u (subst (λ i. HasType i u) begins typed);
      applies = subst (λ i. (k : ℕ) → k < length names → Pairwise (λ r w. (u : LabelTree) → HasType i u → (rule_applies meant.looks u r.rule ≡ true) ↔ Applies items i w.rule u) (out_rules meant k) (out_rules_of items (get_or names k []))) (sym begins) applies;
      unchanged = λ same. begins ∙ (unchanged same ∙ sym ends);
      fit = subst (λ i. SttrFits meant (ranks_of i)) (sym begins) (record { looks = look_fits; rules = out_fits });
      typed = subst (λ i. MakesTyped meant (ranks_of (output_of items name)) (HasSorts (sorts_of i)) (HasSorts (sorts_of (output_of items name)))) (sym begins) (subst (λ i. MakesTyped meant (ranks_of i) (HasSorts (sorts_of s)) (HasSorts (sorts_of i))) (sym ends) terms_typed);
      labels = subst (λ i. LabelsFit (RowFits (sorts_of i)) (λ m. EntriesFit (sorts_of i) (map plain_entry m.entries.items)) device) (sym begins) labels_fit;
      made = subst (λ i. MapsAre (λ m. map sort_by (map plain_entry m.entries.items) ≡ sorts_of i) device) (sym ends) maps_made;
      look_guards = look_guards_reached;
      guards = guards_reached;
      maps = maps_reached;
    }

-- The transformations that are reached and the languages that their rules reach, in a well-formed program.
use Rattle.std.proofs.Common.{◌≡◌, inl, inr, ℕ, ◌<◌, ◌≤◌, true, List, [], Some, None, map, length, get_or, All, Contains, sym, ap, subst, ◌∙◌, arith}
use Rattle.std.specs.Prelude.{is_some, ◌≢◌}
use Rattle.std.specs.List.{list_all, flat_map, IsDistinct, AllPairs}
use Rattle.std.specs.Option.{option_map, option_map_or, option_and_then}
use Rattle.std.proofs.lemmas.List.{length-map, get_or-map, get_or_default}
use Rattle.std.proofs.lemmas.List.Elements.{Contains-get_or, All-contains}
use Rattle.std.proofs.lemmas.Map.Made.{AllPairs-from_IsDistinct}
use Rattle.std.proofs.lemmas.Slice.Eq.{bytes_eq-Decides}
use Rattle.model_tree.specs.Limits.{most_fields}
use Rattle.model_tree.specs.Signature.{PlainSignature, names_of}
use Rattle.model_program.specs.Syntax.{Name, Demand, TypeItem}
use Rattle.model_grammar.specs.Syntax.{named, Rule, OutRule, LangItem, TransItem, Item}
use Rattle.model_names.specs.Declared.{name_of, same_text, find_type, own_rules, rules_of, out_rules_of}
use Rattle.model_names.specs.Kinds.{transformation, own_type, own_output, declared_type, kind_of, type_of}
use Rattle.model_names.specs.Kinds as kinds
use Rattle.model_checks.specs.Programs.{is_well_formed}
use Rattle.model_checks.proofs.SoundWhole.{sound}
use Rattle.model_meaning.specs.Types.{signature_of, signature_at, no_signature, input_of, output_of}
use Rattle.model_meaning.specs.Reached.{Reaches, itself, by_demand, by_lookahead, by_call, IsCalledIn}
use Rattle.model_meaning.proofs.Named.{lang_kind, trans_kind}
use Rattle.meaning_laws.specs.Reaching.{IsLangOn, IsTransFrom}
use Rattle.meaning_laws.proofs.Reaching.{rules_there, reached_by_lang, reached_by_trans}
use Rattle.fast_build.specs.Items.{find_lang}
use Rattle.fast_build.specs.Numbers.{has_ctor}
use Rattle.fast_build.specs.Reached.{AreReached, AreClosed, demanded_by, demanded_in}
use Rattle.fast_build.specs.Called.{AreCallsClosed, AreLooked, called_by, called_in, looked_in}
use Rattle.fast_build.specs.Transformations.{find_trans}
use Rattle.fast_build.specs.Stands.{GuardStands}
use Rattle.fast_build.specs.Automaton.{IsLanguageBeside}
use Rattle.fast_build.specs.OutRules.{OutRuleStands}
use Rattle.fast_build.specs.Transducer.{IsTransformationBeside}
use Rattle.fast_build.proofs.Stands.{are_apart, has_rank, rule_stands, LangStands, AllStand}
use Rattle.fast_build.proofs.Standing.{ctors_there, rules_are, type_is, same_type, kind_is, type_named}
use Rattle.fast_build.proofs.Reaching.{IsOf, reached_of}
use Rattle.fast_build.proofs.Rounds.{in_demanded}
use Rattle.fast_build.proofs.WellFormed.{all_stand}
use Rattle.fast_build.proofs.Transforming.{trans_there, trans_from, found_trans, found_lang, outs_are, calls_there, given_by_one, given_by_all, demanded_there, there_demanded, kinds_apart, reached_from, demand_on}
use Rattle.fast_build.proofs.OutStands.{trans_sound, few_fields, ctors_apart_from, ctors_apart_into, rank_stands, out_rule_stands}
use Rattle.fast_build.proofs.Paired.{each_all}

-- what is reached from what is reached is reached
pub reached_on : (items : List Item) (a b c : List ℕ) → Reaches items a b → Reaches items b c → Reaches items a c
reached_on items a b _ first itself = first
reached_on items a b _ first (by_demand other r d reach at given) = by_demand other r d (reached_on items a b other first reach) at given
reached_on items a b _ first (by_lookahead other r d reach at given) = by_lookahead other r d (reached_on items a b other first reach) at given
reached_on items a b _ first (by_call other r q reach at calls) = by_call other r q (reached_on items a b other first reach) at calls

-- the types of a transformation's name
pub input_is : (items : List Item) (n : List ℕ) (x : TransItem) → find_trans items n ≡ Some x → input_of items n ≡ signature_at items x.from
input_is items n x e =
    let at = trans_there items n x e in
    ap (λ o. option_map_or (signature_at items) (option_and_then (λ (i : Item). own_type i.body) o) no_signature) at.1 ∙ ap (λ body. option_map_or (signature_at items) (own_type body) no_signature) at.2

pub output_is : (items : List Item) (n : List ℕ) (x : TransItem) → find_trans items n ≡ Some x → output_of items n ≡ signature_at items x.into
output_is items n x e =
    let at = trans_there items n x e in
    ap (λ o. option_map_or (signature_at items) (option_and_then (λ (i : Item). own_output i.body) o) no_signature) at.1 ∙ ap (λ body. option_map_or (signature_at items) (own_output body) no_signature) at.2

pub type_from : (items : List Item) (n : List ℕ) (x : TransItem) → find_trans items n ≡ Some x → type_of items (named (name_of n)) ≡ declared_type items x.from
type_from items n x e =
    let at = trans_there items n x e in
    ap (λ o. option_and_then (declared_type items) (option_and_then (λ (i : Item). own_type i.body) o)) at.1 ∙ ap (λ body. option_and_then (declared_type items) (own_type body)) at.2

pub type_into : (items : List Item) (n : List ℕ) (x : TransItem) → find_trans items n ≡ Some x → kinds.output_of items (named (name_of n)) ≡ declared_type items x.into
type_into items n x e =
    let at = trans_there items n x e in
    ap (λ o. option_and_then (declared_type items) (option_and_then (λ (i : Item). own_output i.body) o)) at.1 ∙ ap (λ body. option_and_then (declared_type items) (own_output body)) at.2

pub kind_there : (items : List Item) (n : List ℕ) (x : TransItem) → find_trans items n ≡ Some x → kind_of items (named (name_of n)) ≡ Some transformation
kind_there items n x e = let at = trans_there items n x e in trans_kind items (name_of n) at.0 x at.1 at.2

same_declared : (items : List Item) (m n : Name) → m.text ≡ n.text → declared_type items m ≡ declared_type items n
same_declared items m n e = ap (λ text. option_map (λ (s : TypeItem). s.name.text) (find_type items text)) e

some_same : {A : Type 0} {x y : A} → Some x ≡ Some y → x ≡ y
some_same e = cc

module _ (items : List Item) (well : is_well_formed items ≡ true) (name : List ℕ) (t : TransItem) (found : find_trans items name ≡ Some t)
    (names : List (List ℕ)) (ts : List TransItem) (reached : AreReached items name names) (closed : AreCallsClosed items names names) (once : IsDistinct same_text names) (founds : map (find_trans items) names ≡ map (λ x. Some x) ts) where
  own_from : IsTransFrom items name t.from.text t.into.text
  own_from = trans_from items name t found

  pub names_many : length names ≡ length ts
  names_many = sym (length-map names (find_trans items)) ∙ ap length founds ∙ length-map ts (λ x. Some x)

  pub trans_at : (k : ℕ) (d : TransItem) → k < length ts → find_trans items (get_or names k []) ≡ Some (get_or ts k d)
  trans_at k d low = sym (get_or-map (find_trans items) names k [] None (omega (arith, low, names_many))) ∙ ap (λ os. get_or os k None) founds ∙ get_or-map (λ x. Some x) ts k d None low

  -- each of the names is that of a transformation between the types
  pub from_at : (n : List ℕ) → Contains names n → IsTransFrom items n t.from.text t.into.text
  from_at n (k, low, is) =
      let below : k < length ts = omega (arith, low, names_many) in
      let here : get_or names k [] ≡ n = get_or_default names k [] n low ∙ is in
      reached_from items well name t.from.text t.into.text n own_from (All-contains (Reaches items name) names n reached.reached (k, low, is)) (kind_there items n (get_or ts k t) (ap (find_trans items) (sym here) ∙ trans_at k t below))

  -- each transformation is that of one of the names
  pub named_one : (x : TransItem) → Contains ts x → (n : List ℕ) × Contains names n × (find_trans items n ≡ Some x)
  named_one x (k, low, is) =
      (get_or names k [], Contains-get_or names k [] (omega (arith, low, names_many)), trans_at k x low ∙ ap (λ y. Some y) is)

  -- and each of the names has one of the transformations
  pub trans_of : (n : List ℕ) → Contains names n → (x : TransItem) × Contains ts x × (find_trans items n ≡ Some x)
  trans_of n (k, low, is) =
      let below : k < length ts = omega (arith, low, names_many) in
      (get_or ts k t, Contains-get_or ts k t below, ap (find_trans items) (sym (get_or_default names k [] n low ∙ is)) ∙ trans_at k t below)

  pub from_is : (n : List ℕ) (x : TransItem) → Contains names n → find_trans items n ≡ Some x → (x.from.text ≡ t.from.text) × (x.into.text ≡ t.into.text)
  from_is n x at e =
      let f = from_at n at in
      let same : x ≡ f.own = some_same (sym e ∙ found_trans items n t.from.text t.into.text f) in
      (ap (λ (y : TransItem). y.from.text) same ∙ f.begins, ap (λ (y : TransItem). y.into.text) same ∙ f.ends)

  pub beside : (n : List ℕ) → Contains names n → IsTransformationBeside items name n
  beside n at =
      let f = from_at n at in
      let e = found_trans items n t.from.text t.into.text f in
      record {
        kind = kind_there items n f.own e;
        begins = type_from items n f.own e ∙ (same_declared items f.own.from t.from f.begins ∙ sym (type_from items name t found));
        ends = type_into items n f.own e ∙ (same_declared items f.own.into t.into f.ends ∙ sym (type_into items name t found));
      }

  pub pairs : AllPairs (λ one other. one ≢ other) names
  pairs = AllPairs-from_IsDistinct bytes_eq-Decides names once

  pub call_there : (n q : List ℕ) (r : OutRule) → Contains names n → Contains (out_rules_of items n) r → IsCalledIn r.out q → Contains names q
  call_there n q r at there calls =
      All-contains (Contains names) (called_in (out_rules_of items n)) q (All-contains (λ m. All (Contains names) (called_in (out_rules_of items m))) names n closed at)
      (given_by_all (λ (x : OutRule). called_by x.out) (out_rules_of items n) r q there (calls_there r.out q calls))

  -- a transformation that is reached is one of the names
  lang_none : (n type : List ℕ) → IsLangOn items n type → kind_of items (named (name_of n)) ≡ Some transformation → ⊥
  lang_none n type l kind = kinds_apart (sym (lang_kind items (name_of n) l.item l.own l.found l.is) ∙ kind)

  no_element : {X : Type 0} (xs : List X) (x : X) → xs ≡ [] → Contains xs x → ⊥
  no_element xs x e (k, low, is) = omega (arith, low, ap length e)

  pub all_there : (other : List ℕ) → Reaches items name other → kind_of items (named (name_of other)) ≡ Some transformation → Contains names other
  all_there _ itself kind = (0, omega (arith, ap length reached.first), ap (λ ns. get_or ns 0 name) reached.first)
  all_there _ (by_demand other r d reach at given) kind = elim (reached_by_trans items (sound items well) name t.from.text t.into.text other own_from reach) [
    | inl l ↦ absurd (lang_none d.language.text t.from.text (reached_by_lang items (sound items well) other t.from.text d.language.text l (by_demand other r d itself at given)) kind)
    | inr f ↦ absurd (no_element (rules_of items other) r (rules_there items (sound items well) other f.item f.found ∙ ap own_rules f.is) at)
  ]
  all_there _ (by_lookahead other r d reach at given) kind = elim (reached_by_trans items (sound items well) name t.from.text t.into.text other own_from reach) [
    | inl l ↦ absurd (lang_none d.language.text t.from.text (reached_by_lang items (sound items well) other t.from.text d.language.text l (by_lookahead other r d itself at given)) kind)
    | inr f ↦ absurd (lang_none d.language.text t.from.text (demand_on items well other t.from.text t.into.text r d f at given) kind)
  ]
  all_there _ (by_call other r q reach at calls) kind = elim (reached_by_trans items (sound items well) name t.from.text t.into.text other own_from reach) [
    | inl l ↦ absurd (lang_none q t.from.text (reached_by_lang items (sound items well) other t.from.text q l (by_call other r q itself at calls)) kind)
    | inr f ↦ call_there other q r (all_there other reach (kind_there items other f.own (found_trans items other t.from.text t.into.text f))) at calls
  ]

  -- ---- languages

  module _ (seeds : List (List ℕ)) (seeded : AreLooked ts seeds) where
    pub record IsSeed (n : List ℕ) : Type 0 where
      pub on : IsLangOn items n t.from.text
      pub reach : Reaches items name n

    pub seed_is : (n : List ℕ) → Contains seeds n → IsSeed n
    seed_is n at =
        let (x, there, by) = given_by_one (λ (y : TransItem). looked_in y.rules) ts n (All-contains (Contains (flat_map (λ (y : TransItem). looked_in y.rules) ts)) seeds n seeded.only at) in
        let (r, among, wanted) = given_by_one (λ (q : OutRule). demanded_by q.rule.given) x.rules n by in
        let (d, given, is) = demanded_there r.rule.given n wanted in
        let (m, in_names, e) = named_one x there in
        let own = subst (λ rs. Contains rs r) (sym (outs_are items m x e)) among in
        record {
          on = subst (λ k. IsLangOn items k t.from.text) is (demand_on items well m t.from.text t.into.text r d (from_at m in_names) own given);
          reach = subst (Reaches items name) is (by_lookahead m r d (All-contains (Reaches items name) names m reached.reached in_names) own given);
        }

    pub seeds_known : All (λ n. is_some (find_lang items n) ≡ true) seeds
    seeds_known = each_all (λ n. is_some (find_lang items n) ≡ true) seeds (λ n at. ap is_some (found_lang items well n t.from.text (seed_is n at).on))

    module _ (looked : List (List ℕ)) (ls : List LangItem) (kept : All (Contains looked) seeds) (from_seeds : All (λ n. (s : List ℕ) × Contains seeds s × Reaches items s n) looked)
        (closed_looks : AreClosed items looked looked) (once_looks : IsDistinct same_text looked) (founds_looks : map (find_lang items) looked ≡ map (λ l. Some l) ls) where
      stand : AllStand items
      stand = all_stand items well

      pub looked_of : (n : List ℕ) → Contains looked n → IsOf items t.from.text n
      looked_of n at =
          let (m, there, reach) = All-contains (λ n. (s : List ℕ) × Contains seeds s × Reaches items s n) looked n from_seeds at in
          let l = (seed_is m there).on in
          reached_of items t.from.text m n stand (record { lang = l.own; found = found_lang items well m t.from.text l; of_is = l.on }) reach

      pub looked_reached : (n : List ℕ) → Contains looked n → Reaches items name n
      looked_reached n at =
          let (m, there, reach) = All-contains (λ n. (s : List ℕ) × Contains seeds s × Reaches items s n) looked n from_seeds at in
          reached_on items name m n (seed_is m there).reach reach

      pub looked_many : length looked ≡ length ls
      looked_many = sym (length-map looked (find_lang items)) ∙ ap length founds_looks ∙ length-map ls (λ l. Some l)

      pub look_at : (k : ℕ) (d : LangItem) → k < length ls → find_lang items (get_or looked k []) ≡ Some (get_or ls k d)
      look_at k d low = sym (get_or-map (find_lang items) looked k [] None (omega (arith, low, looked_many))) ∙ ap (λ os. get_or os k None) founds_looks ∙ get_or-map (λ l. Some l) ls k d None low

      pub look_beside : (n : List ℕ) → Contains looked n → IsLanguageBeside items name n
      look_beside n at =
          let l = looked_of n at in
          record { kind = kind_is items (name_of n) l.lang l.found; type = type_named items (name_of n) l.lang l.found ∙ (same_declared items l.lang.of t.from l.of_is ∙ sym (type_from items name t found)) }

      pub look_pairs : AllPairs (λ one other. one ≢ other) looked
      look_pairs = AllPairs-from_IsDistinct bytes_eq-Decides looked once_looks

      pub look_demands : (n : List ℕ) → Contains looked n → (r : Rule) (d : Demand) → Contains (rules_of items n) r → Contains r.given d → Contains looked d.language.text
      look_demands n at r d among given =
          All-contains (Contains looked) (demanded_in (rules_of items n)) d.language.text (All-contains (λ m. All (Contains looked) (demanded_in (rules_of items m))) looked n closed_looks at) (in_demanded (rules_of items n) r d among given)

      -- what a rule of a transformation demands is there
      pub rule_looks : (x : TransItem) (r : OutRule) (d : Demand) → Contains ts x → Contains x.rules r → Contains r.rule.given d → Contains looked d.language.text
      rule_looks x r d there among given =
          All-contains (Contains looked) seeds d.language.text kept
          (All-contains (Contains seeds) (flat_map (λ (y : TransItem). looked_in y.rules) ts) d.language.text seeded.all
          (given_by_all (λ (y : TransItem). looked_in y.rules) ts x d.language.text there (given_by_all (λ (q : OutRule). demanded_by q.rule.given) x.rules r d.language.text among (there_demanded r.rule.given d given))))

      module _ (s o : PlainSignature) (begins : input_of items name ≡ s) (ends : output_of items name ≡ o) where
        from_signature : signature_at items t.from ≡ s
        from_signature = sym (input_is items name t found) ∙ begins

        into_signature : signature_at items t.into ≡ o
        into_signature = sym (output_is items name t found) ∙ ends

        -- each of the transformations is between these types
        pub input_there : (n : List ℕ) → Contains names n → input_of items n ≡ s
        input_there n at = let f = from_at n at in input_is items n f.own (found_trans items n t.from.text t.into.text f) ∙ (same_type items f.own.from t.from f.begins ∙ from_signature)

        pub output_there : (n : List ℕ) → Contains names n → output_of items n ≡ o
        output_there n at = let f = from_at n at in output_is items n f.own (found_trans items n t.from.text t.into.text f) ∙ (same_type items f.own.into t.into f.ends ∙ into_signature)

        sound_signature_from : (n : List ℕ) (x : TransItem) (at : Contains names n) (e : find_trans items n ≡ Some x) → signature_of (trans_sound items well n x e).from ≡ s
        sound_signature_from n x at e = sym (ap (λ o. option_map_or signature_of o no_signature) (trans_sound items well n x e).found_from) ∙ (sym (input_is items n x e) ∙ input_there n at)

        sound_signature_into : (n : List ℕ) (x : TransItem) (at : Contains names n) (e : find_trans items n ≡ Some x) → signature_of (trans_sound items well n x e).into ≡ o
        sound_signature_into n x at e = sym (ap (λ o. option_map_or signature_of o no_signature) (trans_sound items well n x e).found_into) ∙ (sym (output_is items n x e) ∙ output_there n at)

        name_there : Contains names name
        name_there = (0, omega (arith, ap length reached.first), ap (λ ns. get_or ns 0 name) reached.first)

        pub few : length s.fields ≤ most_fields
        few = subst (λ (g : PlainSignature). length g.fields ≤ most_fields) (sound_signature_from name t name_there found) (few_fields items well name t found)

        pub apart_from : are_apart (names_of s) ≡ true
        apart_from = subst (λ g. are_apart (names_of g) ≡ true) (sound_signature_from name t name_there found) (ctors_apart_from items well name t found)

        pub apart_into : are_apart (names_of o) ≡ true
        apart_into = subst (λ g. are_apart (names_of g) ≡ true) (sound_signature_into name t name_there found) (ctors_apart_into items well name t found)

        -- each rule of a transformation stands
        pub rule_stands_at : (n : List ℕ) (x : TransItem) (r : OutRule) → Contains names n → Contains ts x → find_trans items n ≡ Some x → Contains x.rules r → OutRuleStands s o looked names r
        rule_stands_at n x r at among e there =
            subst (λ g. OutRuleStands g o looked names r) (sound_signature_from n x at e)
            (subst (λ g. OutRuleStands (signature_of (trans_sound items well n x e).from) g looked names r) (sound_signature_into n x at e)
            (out_rule_stands items well n x e looked names r there
            (each_all (Contains looked) (demanded_by r.rule.given) (λ m by. (let (d, given, is) = demanded_there r.rule.given m by in subst (Contains looked) is (rule_looks x r d among there given))))
            (λ q calls. call_there n q r at (subst (λ rs. Contains rs r) (sym (outs_are items n x e)) there) calls)))

        pub rank_at : (n : List ℕ) (x : TransItem) (r : OutRule) → Contains names n → find_trans items n ≡ Some x → Contains x.rules r → has_rank s r.rule ≡ true
        rank_at n x r at e there = subst (λ g. has_rank g r.rule ≡ true) (sound_signature_from n x at e) (rank_stands items well n x e r there)

        pub outs_stand : All (λ x. All (OutRuleStands s o looked names) x.rules) ts
        outs_stand =
            each_all (λ x. All (OutRuleStands s o looked names) x.rules) ts (λ x there. (let (n, at, e) = named_one x there in each_all (OutRuleStands s o looked names) x.rules (λ r among. rule_stands_at n x r at there e among)))

        -- each of the languages stands, and is of the type of the inputs
        lang_stands : (k : ℕ) (d : LangItem) → k < length ls → LangStands items (get_or ls k d)
        lang_stands k d low = stand (get_or looked k []) (get_or ls k d) (look_at k d low)

        lang_signature : (k : ℕ) (d : LangItem) → k < length ls → signature_at items (get_or ls k d).of ≡ s
        lang_signature k d low =
            let l = looked_of (get_or looked k []) (Contains-get_or looked k [] (omega (arith, low, looked_many))) in
            let same : l.lang ≡ get_or ls k d = some_same (sym l.found ∙ look_at k d low) in
            same_type items (get_or ls k d).of t.from (ap (λ (y : LangItem). y.of.text) (sym same) ∙ l.of_is) ∙ from_signature

        pub looks_stand : All (λ l. list_all (rule_stands items l.of s) l.rules ≡ true) ls
        looks_stand k d low = subst (λ g. list_all (rule_stands items (get_or ls k d).of g) (get_or ls k d).rules ≡ true) (lang_signature k d low) (lang_stands k d low).rules

        pub look_ctors : All (λ l. list_all (has_ctor s) l.rules ≡ true) ls
        look_ctors k d low = ctors_there items (get_or ls k d).of s (get_or ls k d).rules (looks_stand k d low)

        pub look_guards_stand : All (λ l. All (λ r. GuardStands s.fields r.guard) l.rules) ls
        look_guards_stand k d low = subst (λ (g : PlainSignature). All (λ r. GuardStands g.fields r.guard) (get_or ls k d).rules) (lang_signature k d low) (lang_stands k d low).guards

        pub look_demands_stand : All (λ l. All (Contains looked) (demanded_in l.rules)) ls
        look_demands_stand k d low = subst (λ rs. All (Contains looked) (demanded_in rs)) (rules_are items (get_or looked k []) (get_or ls k d) (look_at k d low)) (closed_looks k [] (omega (arith, low, looked_many)))

        pub look_input : (n : List ℕ) → Contains looked n → input_of items n ≡ s
        look_input n at = let l = looked_of n at in type_is items n l.lang l.found ∙ (same_type items l.lang.of t.from l.of_is ∙ from_signature)

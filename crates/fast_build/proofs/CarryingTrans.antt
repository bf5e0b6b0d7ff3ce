-- The transducer of a transformation carries the transformation.
use Rattle.std.proofs.Common.{◌≡◌, ◌↔◌, true, inl, inr, ℕ, ◌<◌, List, [], Option, Some, None, map, length, get_or, Contains, refl, sym, ap, subst, ◌∙◌, arith}
use Rattle.std.proofs.lemmas.List.{length-map}
use Rattle.model_tree.specs.Label.{Label}
use Rattle.model_tree.specs.Tree.{LabelTree}
use Rattle.model_tree.specs.Signature.{PlainSignature, HasType, HasSorts, sorts_of}
use Rattle.model_tree.specs.Formula.{Formula, formula_holds}
use Rattle.model_program.specs.Syntax.{Name}
use Rattle.model_grammar.specs.Syntax.{Expr, named, Rule, OutRule, Item}
use Rattle.model_names.specs.Declared.{name_of, rules_of, out_rules_of}
use Rattle.model_names.specs.Kinds.{type_of}
use Rattle.model_checks.specs.Programs.{is_well_formed}
use Rattle.model_meaning.specs.Types.{input_of, output_of, values_of, signature_of, no_signature}
use Rattle.model_meaning.specs.Outputs.{made_label}
use Rattle.model_meaning.specs.Meaning.{IsRelated, Applies, signature_named}
use Rattle.model_meaning.specs.Reached.{Reaches}
use Rattle.model_meaning.proofs.Named.{input_type_of_name, output_type_of_name}
use Rattle.model_label.specs.Meaning.{is_true}
use Rattle.meaning_laws.specs.Laws.{HasMeaning}
use Rattle.meaning_laws.proofs.Whole.{has_meaning}
use Rattle.model_sta.specs.Automaton.{rule_applies}
use Rattle.model_sta.specs.Pairwise.{Pairwise}
use Rattle.model_sttr.specs.Terms.{Term, on, build, Parts, no_parts, part, with_maps, parts_with_maps}
use Rattle.model_sttr.specs.Guards.{MakesBy, MakesByOne, IsMapOf, MakesAlike}
use Rattle.model_sttr.specs.Transducer.{Head, run, Sttr, out_rules, Gives, GivesSame}
use Rattle.model_sttr.specs.Transducer as machines
use Rattle.model_run.specs.Parts.{IsFrom}
use Rattle.model_run.specs.Seen.{listed, list_label, fields_at, of_language, of_transformation, IsTest, AreLabels, IsLabelOf}
use Rattle.model_layers.specs.Carries.{IsTyped}
use Rattle.model_layers.specs.Written.{IsTransformationFor, IsWrittenGuard, AreWrittenGuards, AreLanguagesReached, IsWrittenTrans, AppliesAs}
use Rattle.model_sttr.specs.Plain.{PlainOut}
use Rattle.sta_core.specs.Machine.{PlainRule}
use Rattle.sttr_core.specs.Machine.{OutMachine, transducer_of}
use Rattle.record_label.specs.Rows.{RowAtom, row_holds}
use Rattle.record_label.specs.declared.maps.RowMap.{RowMap}
use Rattle.fast_build.specs.Rules.{IsGuardFor}
use Rattle.fast_build.specs.Terms.{row_make}
use Rattle.fast_build.specs.Automaton.{IsGuardReached}
use Rattle.fast_build.specs.Transducer.{IsOutGuardReached, IsMapReached, IsTransducerOf}
use Rattle.fast_build.proofs.Guarding.{guard_means}
use Rattle.fast_build.proofs.Carried.{of_each}
use Rattle.fast_build.proofs.Standing.{type_named}
use Rattle.fast_build.proofs.Transforming.{trans_from, found_trans, found_lang}
use Rattle.fast_build.proofs.OutStands.{trans_sound}
use Rattle.fast_build.proofs.CalledFacts.{type_from, type_into, kind_there}
use Rattle.fast_build.proofs.CalledFacts as facts
use Rattle.fast_build.proofs.Relating.{map_makes}
use Rattle.fast_build.proofs.Paired.{paired_many, paired_weaker, place_low}
use Rattle.sta_core.specs.Sta.{rule_meaning}
use Rattle.sttr_core.specs.Fits.{EveryMap}
use Rattle.sttr_core.proofs.Meaning.{meaning_of, rule_held, of_place}
use Rattle.record_label.specs.Maps.{sort_by}
use Rattle.record_label.specs.MapLaws.{made_labels}
use Rattle.record_label.specs.PlainMaps.{plain_entry}
use Rattle.model_program.specs.Syntax.{TypeItem}
use Rattle.model_grammar.specs.Syntax.{TransItem}
use Rattle.model_names.specs.Declared.{find_type, own_rules, own_out_rules}
use Rattle.model_checks.proofs.SoundWhole.{sound}
use Rattle.meaning_laws.specs.Reaching.{IsTransFrom}
use Rattle.meaning_laws.proofs.Reaching.{rules_there, outs_there, reached_by_trans}
use Rattle.fast_build.specs.Numbers.{number_in}
use Rattle.fast_build.specs.Rules.{AreRulesFor}
use Rattle.fast_build.specs.OutRules.{AreOutRulesFor}
use Rattle.fast_build.specs.Transformations.{find_trans}
use Rattle.std.specs.Option.{option_map, option_map_or}

-- a map of the terms with maps as what they make is what a map of the terms makes
module _ (make : RowMap → Label → Label) where
  mutual
    made_by_map : (p : Term Head RowMap) (k : Label → Label) → MakesBy (with_maps make p) k → (m : RowMap) × MakesBy p m × (make m ≡ k)
    made_by_map (on h j) k by = absurd by
    made_by_map (build c m ps) k (inl e) = (m, inl refl, e)
    made_by_map (build c m ps) k (inr by) = let (n, at, e) = made_by_one ps k by in (n, inr at, e)

    made_by_one : (ps : Parts Head RowMap) (k : Label → Label) → MakesByOne (parts_with_maps make ps) k → (m : RowMap) × MakesByOne ps m × (make m ≡ k)
    made_by_one no_parts k by = absurd by
    made_by_one (part p ps) k (inl by) = let (n, at, e) = made_by_map p k by in (n, inl at, e)
    made_by_one (part p ps) k (inr by) = let (n, at, e) = made_by_one ps k by in (n, inr at, e)

some_same : {A : Type 0} {x y : A} → Some x ≡ Some y → x ≡ y
some_same e = cc

module _ (items : List Item) (well : is_well_formed items ≡ true) (n : Name) (t : TransItem) (found : find_trans items n.text ≡ Some t) (from into : List ℕ) (goes : IsFrom items (named n) from into) (names : List (List ℕ)) (d : OutMachine RowAtom RowMap) (is : IsTransducerOf items n.text names d) where
  laws : HasMeaning items
  laws = has_meaning items well

  abbrev pub meant : Sttr Label
  meant = transducer_of row_holds row_make d

  -- ---- the types

  pub input_is : signature_named items (Some from) ≡ input_of items n.text
  input_is = ap (signature_named items) (sym goes.1) ∙ input_type_of_name items n

  pub output_is : signature_named items (Some into) ≡ output_of items n.text
  output_is = ap (signature_named items) (sym goes.2) ∙ output_type_of_name items n

  typed : (u : LabelTree) → IsTyped items from u → HasType (input_of items n.text) u
  typed u h = subst (λ s. HasType s u) input_is h

  sorted : (l : Label) → IsLabelOf items from l → HasSorts (sorts_of (input_of items n.text)) l
  sorted l has = subst (λ s. HasSorts (sorts_of s) l) input_is has

  own : IsTransFrom items n.text t.from.text t.into.text
  own = trans_from items n.text t found

  from_is : from ≡ t.from.text
  from_is =
      let s = trans_sound items well n.text t found in
      some_same (sym goes.1 ∙ (type_from items n.text t found ∙ (ap (option_map (λ (x : TypeItem). x.name.text)) s.found_from ∙ ap (λ text. Some text) s.named_from)))

  into_is : into ≡ t.into.text
  into_is =
      let s = trans_sound items well n.text t found in
      some_same (sym goes.2 ∙ (type_into items n.text t found ∙ (ap (option_map (λ (x : TypeItem). x.name.text)) s.found_into ∙ ap (λ text. Some text) s.named_into)))

  -- a type is named by its signature
  input_named : (input_of items n.text).name ≡ from
  input_named =
      let s = trans_sound items well n.text t found in
      ap (λ (g : PlainSignature). g.name) (facts.input_is items n.text t found ∙ ap (λ o. option_map_or signature_of o no_signature) s.found_from) ∙ (s.named_from ∙ sym from_is)

  output_named : (output_of items n.text).name ≡ into
  output_named =
      let s = trans_sound items well n.text t found in
      ap (λ (g : PlainSignature). g.name) (facts.output_is items n.text t found ∙ ap (λ o. option_map_or signature_of o no_signature) s.found_into) ∙ (s.named_into ∙ sym into_is)

  one_type : GivesSame meant → from ≡ into
  one_type same = sym input_named ∙ (ap (λ (g : PlainSignature). g.name) (is.unchanged same) ∙ output_named)

  -- ---- the states

  pub states_many : length meant.rules ≡ length names
  states_many =
      length-map d.rules (map (meaning_of row_holds row_make))
      ∙ (paired_many (AreOutRulesFor (input_of items n.text) (output_of items n.text) (number_in is.looked) (number_in names)) d.rules (map (out_rules_of items) names) is.rules ∙ length-map names (out_rules_of items))

  -- a rule is one of a state's that there is
  pub state_there : (q : ℕ) (r : PlainOut (PlainRule RowAtom) RowMap) → Contains (get_or d.rules q []) r → q < length names
  state_there q r at = subst (λ k. q < k) states_many (subst (λ k. q < k) (sym (length-map d.rules (map (meaning_of row_holds row_make)))) (place_low d.rules q r at))

  look_many : length meant.looks ≡ length is.looked
  look_many =
      length-map d.looks.rules (map (rule_meaning row_holds))
      ∙ (paired_many (AreRulesFor (input_of items n.text) (number_in is.looked)) d.looks.rules (map (rules_of items) is.looked) is.looks ∙ length-map is.looked (rules_of items))

  first : 0 < length names
  first = omega (arith, ap length is.first)

  first_name : get_or names 0 [] ≡ n.text
  first_name = ap (λ ns. get_or ns 0 []) is.first

  pub beside_goes : (k : ℕ) → k < length names → IsFrom items (named (name_of (get_or names k []))) from into
  beside_goes k low = let b = is.transformations k [] low in (b.kind, b.begins ∙ goes.1, b.ends ∙ goes.2)

  state_means : (k : ℕ) → k < length names → (u w : LabelTree) → IsTyped items from u → Gives meant (run k) u w ↔ IsRelated items (named (name_of (get_or names k []))) u w
  state_means k low u w h = let both = is.means k low u w (typed u h) in (both.1, both.0)

  pub input_beside : (k : ℕ) → k < length names → input_of items (get_or names k []) ≡ input_of items n.text
  input_beside k low = sym (input_type_of_name items (name_of (get_or names k []))) ∙ (ap (signature_named items) (beside_goes k low).1 ∙ input_is)

  pub output_beside : (k : ℕ) → k < length names → output_of items (get_or names k []) ≡ output_of items n.text
  output_beside k low = sym (output_type_of_name items (name_of (get_or names k []))) ∙ (ap (signature_named items) (beside_goes k low).2 ∙ output_is)

  outputs_typed : (q : ℕ) (u w : LabelTree) → q < length meant.rules → IsTyped items from u → Gives meant (run q) u w → IsTyped items into w
  outputs_typed q u w low h gives =
      let below : q < length names = subst (λ k. q < k) states_many low in
      let related = (state_means q below u w h).0 gives in
      let out = laws.outputs.of_names (name_of (get_or names q [])) (beside_goes q below).0 u w (subst (λ s. HasType s u) (sym (input_beside q below)) (typed u h)) related in
      subst (λ s. HasType s w) (output_beside q below ∙ sym output_is) out

  languages : AreLanguagesReached items n from meant.looks
  languages q low =
      let below : q < length is.looked = subst (λ k. q < k) look_many low in
      let l = is.languages q [] below in (
        name_of (get_or is.looked q []),
        is.looked_reached q [] below,
        (l.kind, l.type ∙ goes.1),
        λ u h. (let both = is.look_means q below u (typed u h) in (both.1, both.0)),
      )

  pub transformation_for : IsTransformationFor items n from into (record { sttr = meant; start = 0 })
  transformation_for = record {
    goes = goes;
    in_range = subst (λ k. 0 < k) (sym states_many) first;
    means = λ u w h. subst (λ m. Gives meant (run 0) u w ↔ IsRelated items (named (name_of m)) u w) first_name (state_means 0 first u w h);
    states = λ q low. (let below = subst (λ k. q < k) states_many low in
        (name_of (get_or names q []), is.reached q [] below, beside_goes q below, λ u w h. state_means q below u w h));
    looks = languages;
    typed = outputs_typed;
    gives_same = one_type;
  }

  -- ---- guards

  says : (f : Formula RowAtom) (g : Option Expr) → IsGuardFor (input_of items n.text).fields g f → ((e : Expr) → g ≡ Some e → IsTest items n from e) → IsWrittenGuard items n from (λ l. formula_holds (λ a. row_holds a l) f)
  says f None own test = inl (λ l has. guard_means (input_of items n.text).fields None f l own (sorted l has))
  says f (Some e) own test = inr (e, test e refl, λ l has. guard_means (input_of items n.text).fields (Some e) f l own (sorted l has) ∙ ap (λ (s : PlainSignature). is_true s.fields (values_of l) e) (sym input_is))

  -- a language that is reached is on the type of the inputs, and a transformation goes from it to that of the outputs
  no_element : {X : Type 0} (xs : List X) (x : X) → xs ≡ [] → Contains xs x → ⊥
  no_element xs x e (k, low, at) = omega (arith, low, ap length e)

  pub lang_type : (other : List ℕ) (r : Rule) → Reaches items n.text other → Contains (rules_of items other) r → type_of items (named (name_of other)) ≡ Some from
  lang_type other r reach at = elim (reached_by_trans items (sound items well) n.text t.from.text t.into.text other own reach) [
    | inl l ↦ (let e = found_lang items well other t.from.text l in
        type_named items (name_of other) l.own e ∙ (ap (λ text. option_map (λ (x : TypeItem). x.name.text) (find_type items text)) l.on ∙ (sym (type_from items n.text t found) ∙ goes.1)))
    | inr f ↦ absurd (no_element (rules_of items other) r (rules_there items (sound items well) other f.item f.found ∙ ap own_rules f.is) at)
  ]

  pub trans_goes : (other : List ℕ) (r : OutRule) → Reaches items n.text other → Contains (out_rules_of items other) r → IsFrom items (named (name_of other)) from into
  trans_goes other r reach at = elim (reached_by_trans items (sound items well) n.text t.from.text t.into.text other own reach) [
    | inl l ↦ absurd (no_element (out_rules_of items other) r (outs_there items (sound items well) other l.item l.found ∙ ap own_out_rules l.is) at)
    | inr f ↦ (let e = found_trans items other t.from.text t.into.text f in (
      kind_there items other f.own e,
      type_from items other f.own e ∙ (ap (λ text. option_map (λ (x : TypeItem). x.name.text) (find_type items text)) f.begins ∙ (sym (type_from items n.text t found) ∙ goes.1)),
      type_into items other f.own e ∙ (ap (λ text. option_map (λ (x : TypeItem). x.name.text) (find_type items text)) f.ends ∙ (sym (type_into items n.text t found) ∙ goes.2)),
    ))
  ]

  look_written : (f : Formula RowAtom) → IsGuardReached items n.text f → IsWrittenGuard items n from (λ l. formula_holds (λ a. row_holds a l) f)
  look_written f (other, reach, r, at, own_guard) = says f r.guard own_guard (λ e same. of_language n (name_of other) from r e reach (lang_type other r reach at) at same)

  out_written : (f : Formula RowAtom) → IsOutGuardReached items n.text f → IsWrittenGuard items n from (λ l. formula_holds (λ a. row_holds a l) f)
  out_written f (other, reach, r, at, own_guard) = says f r.rule.guard own_guard (λ e same. of_transformation n (name_of other) from r e reach (trans_goes other r reach at).1 at same)

  look_guards : AreWrittenGuards items n from meant.looks
  look_guards q r at = of_each (λ r. IsWrittenGuard items n from r.guard) d.looks.rules (λ k x low i y below. look_written _ (is.look_guards k x low i y below)) q r at

  guards : (q : ℕ) (r : machines.OutRule Label) → Contains (out_rules meant q) r → IsWrittenGuard items n from r.rule.guard
  guards q r at =
      let (x, there, same) = rule_held row_holds row_make d q r at in
      subst (λ (y : machines.OutRule Label). IsWrittenGuard items n from y.rule.guard) same (out_written x.rule.guard (of_place (λ y. IsOutGuardReached items n.text y.rule.guard) d.rules q x is.guards there))

  -- ---- maps

  record Held (k : Label → Label) : Type 0 where
    held : RowMap
    makes : row_make held ≡ k
    written : IsMapReached items n.text held
    made : map sort_by (map plain_entry held.entries.items) ≡ sorts_of (output_of items n.text)

  map_there : (k : Label → Label) → IsMapOf meant k → Held k
  map_there k (q, r, at, by) =
      let (x, there, same) = rule_held row_holds row_make d q r at in
      let (m, by_m, makes) = made_by_map row_make x.term k (subst (λ (y : machines.OutRule Label). MakesBy y.term k) (sym same) by) in
      record {
        held = m;
        makes = makes;
        written = of_place (λ y. EveryMap (IsMapReached items n.text) y.term) d.rules q x is.maps there m by_m;
        made = of_place (λ y. EveryMap (λ p. map sort_by (map plain_entry p.entries.items) ≡ sorts_of (output_of items n.text)) y.term) d.rules q x is.made there m by_m;
      }

  labels_written : (k : Label → Label) → IsMapOf meant k → (labels : List Expr) × AreLabels items n from into labels × MakesAlike (IsLabelOf items from) k (list_label (listed (fields_at items from) (fields_at items into) labels))
  labels_written k by =
      let h = map_there k by in
      let w = h.written in (
        w.labels,
        record { transformation = name_of w.other; reached = w.reached; goes = trans_goes w.other w.rule w.reached w.there; rule = w.rule; there = w.there; stand = w.stand },
        λ l has. ap (λ f. f l) (sym h.makes)
            ∙ (map_makes (input_of items n.text) (output_of items n.text) w.labels h.held l w.is (sorted l has)
            ∙ (λ i. made_label (sym input_is i).fields (sym output_is i).fields w.labels l)),
      )

  maps_make : (k : Label → Label) → IsMapOf meant k → (l : Label) → IsLabelOf items from l → IsLabelOf items into (k l)
  maps_make k by l has =
      let h = map_there k by in
      subst (λ f. IsLabelOf items into (f l)) h.makes (subst (λ (s : PlainSignature). HasSorts (sorts_of s) (row_make h.held l)) (sym output_is) (made_labels (sorts_of (output_of items n.text)) (map plain_entry h.held.entries.items) l h.made))

  pub written_trans : IsWrittenTrans items n from into meant
  written_trans = record {
    goes = goes;
    looks = look_guards;
    guards = guards;
    maps = labels_written;
    makes = maps_make;
    gives_same = one_type;
  }

  -- ---- to which trees the rules apply

  pub rules_apply : (k : ℕ) → k < length names → Pairwise (AppliesAs items from meant (name_of (get_or names k []))) (out_rules meant k) (out_rules_of items (get_or names k []))
  rules_apply k low =
      paired_weaker (λ r w. (u : LabelTree) → HasType (input_of items n.text) u → (rule_applies meant.looks u r.rule ≡ true) ↔ Applies items (input_of items n.text) w.rule u) (AppliesAs items from meant (name_of (get_or names k [])))
      (λ r w h u ok. subst (λ s. (rule_applies meant.looks u r.rule ≡ true) ↔ Applies items s w.rule u) (sym (input_beside k low)) (h u (typed u ok))) (out_rules meant k) (out_rules_of items (get_or names k [])) (is.applies k low)

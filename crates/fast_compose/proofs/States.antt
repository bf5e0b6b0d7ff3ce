-- Rules of states meet exactly where those of the transformations of their names do.
use Rattle.std.proofs.Common.{◌≡◌, ◌↔◌, ℕ, zero, suc, ◌<◌, ◌≤◌, ◌^◌, true, List, [], ◌∷◌, Option, Some, None, map, length, get_or, Contains, refl, sym, ap, subst, ◌∙◌, arith}
use Rattle.std.specs.Prelude.{slice_get}
use Rattle.std.specs.Option.{option_map}
use Rattle.std.proofs.lemmas.List.{length-map}
use Rattle.std.proofs.lemmas.Option.{slice_get_within, slice_get-map}
use Rattle.model_tree.specs.Limits.{most_nodes, greatest_depth, most_rules, most_classes}
use Rattle.model_tree.specs.Tree.{LabelTree, relabel, node_count, depth}
use Rattle.model_tree.specs.Kept.{is_kept}
use Rattle.model_tree.specs.Signature.{Sort, PlainSignature, HasType, HasSorts, ranks_of, sorts_of}
use Rattle.model_program.specs.Syntax.{Name, TypeItem}
use Rattle.model_grammar.specs.Syntax.{named, OutRule, TransItem, Item}
use Rattle.model_names.specs.Declared.{name_of, find_type, find_item, out_rules_of}
use Rattle.model_checks.specs.Programs.{is_well_formed}
use Rattle.model_checks.proofs.SoundWhole.{sound}
use Rattle.model_meaning.specs.Types.{input_of}
use Rattle.model_meaning.specs.Meaning.{signature_named}
use Rattle.model_meaning.specs.Reached.{Reaches}
use Rattle.model_meaning.proofs.Named.{input_type_of_name}
use Rattle.model_sta.specs.Pairwise.{Pairwise}
use Rattle.model_sta.specs.Sets.{Fits}
use Rattle.model_sttr.specs.Plain.{PlainOut}
use Rattle.model_sttr.specs.Transducer.{Sttr, out_rules}
use Rattle.model_sttr.specs.Transducer as machines
use Rattle.model_tree.specs.Label.{Label}
use Rattle.model_run.specs.Parts.{IsFrom}
use Rattle.model_run.specs.Plain.{IsSameTerm}
use Rattle.model_run.specs.Plain as run
use Rattle.model_run.specs.Causes.{AreAllLarge}
use Rattle.model_layers.specs.Carries.{IsTyped}
use Rattle.model_layers.specs.Written.{AppliesAs}
use Rattle.sta_core.specs.Machine.{PlainRule}
use Rattle.sttr_core.specs.Machine.{transducer_of}
use Rattle.sttr_core.specs.declared.sttr.Trans.{Trans}
use Rattle.sttr_core.proofs.Meaning.{meaning_of, rules_meant}
use Rattle.sttr_single.specs.Same.{AreEqual}
use Rattle.sttr_single.specs.Overlap as single
use Rattle.sttr_single.specs.declared.meetings.Meeting as machine
use Rattle.fast_tree.specs.declared.label.Label as code
use Rattle.fast_tree.specs.Entries.{label_meaning}
use Rattle.record_label.specs.Meaning.{row_meaning}
use Rattle.record_label.specs.Rows.{RowAtom, row_holds}
use Rattle.record_label.specs.declared.maps.RowMap.{RowMap}
use Rattle.fast_build.specs.CarriedTrans.{same_maps, IsBuiltTransFor}
use Rattle.fast_build.specs.Terms.{row_make}
use Rattle.fast_build.specs.Transducer.{IsTransducerOf}
use Rattle.fast_build.specs.Transformations.{find_trans}
use Rattle.fast_build.proofs.CalledFacts.{type_from, type_into, kind_there}
use Rattle.fast_build.proofs.OutStands.{trans_sound}
use Rattle.fast_build.proofs.Paired.{paired_many, place_low}
use Rattle.fast_build.proofs.Transforming.{found_trans, outs_are}
use Rattle.fast_eval.proofs.Typed.{fits_from_type, type_from_fits, fits_if_kept, kept_if_fits}
use Rattle.sttr_single.proofs.Stopping.{slice_in}
use Rattle.fast_compose.specs.declared.stops.Meeting.{Meeting}
use Rattle.fast_compose.specs.Meetings.{tree_of, IsMeetingFor, IsMeeting, MeetSome}
use Rattle.fast_compose.proofs.Named.{outs_trans}

module _ {A B : Type 0} (R : A → B → Type 0) where
  -- at one place of two lists
  pub pair_first : (xs : List A) (ys : List B) → Pairwise R xs ys → (i : ℕ) (x : A) → slice_get xs i ≡ Some x → (y : B) × (slice_get ys i ≡ Some y) × R x y
  pair_first [] ys all i x at = absurd (let low = slice_get_within [] i x at in omega (arith, low))
  pair_first (a ∷ xs) [] all i x at = absurd all
  pair_first (a ∷ xs) (b ∷ ys) all zero x at = let same : a ≡ x = cc in (b, refl, subst (λ z. R z b) same all.0)
  pair_first (a ∷ xs) (b ∷ ys) all (suc i) x at = pair_first xs ys all.1 i x at

  pub pair_second : (xs : List A) (ys : List B) → Pairwise R xs ys → (i : ℕ) (y : B) → slice_get ys i ≡ Some y → (x : A) × (slice_get xs i ≡ Some x) × R x y
  pair_second xs [] all i y at = absurd (let low = slice_get_within [] i y at in omega (arith, low))
  pair_second [] (b ∷ ys) all i y at = absurd all
  pair_second (a ∷ xs) (b ∷ ys) all zero y at = let same : b ≡ y = cc in (a, refl, subst (λ z. R a z) same all.0)
  pair_second (a ∷ xs) (b ∷ ys) all (suc i) y at = pair_second xs ys all.1 i y at

-- the type of the inputs is declared
module _ (items : List Item) (well : is_well_formed items ≡ true) (n : Name) (t : TransItem) (found : find_trans items n.text ≡ Some t) where
  pub type_found : (s : TypeItem) × (find_type items t.from.text ≡ Some s)
  type_found = let s = trans_sound items well n.text t found in (s.from, s.found_from)

  pub goes_between : IsFrom items (named n) t.from.text t.into.text
  goes_between =
      let s = trans_sound items well n.text t found in (
        kind_there items n.text t found,
        type_from items n.text t found ∙ (ap (option_map (λ (x : TypeItem). x.name.text)) s.found_from ∙ ap Some s.named_from),
        type_into items n.text t found ∙ (ap (option_map (λ (x : TypeItem). x.name.text)) s.found_into ∙ ap Some s.named_into),
      )

module _ (items : List Item) (well : is_well_formed items ≡ true) (n : Name) (from into : List ℕ) (goes : IsFrom items (named n) from into) (names : List (List ℕ)) (d : Trans RowAtom RowMap)
    (is : IsTransducerOf items n.text names d.sttr) (built : IsBuiltTransFor items n from into names d.sttr d.state) where
  abbrev pub meant : Sttr Label
  meant = transducer_of row_holds row_make d.sttr

  abbrev pub signature : PlainSignature
  signature = signature_named items (Some from)

  -- the state's name, and its rules
  abbrev pub name_at : ℕ → List ℕ
  name_at q = get_or names q []

  abbrev Rule : Type 0
  Rule = PlainOut (PlainRule RowAtom) RowMap

  abbrev rules_at : ℕ → List Rule
  rules_at q = get_or d.sttr.rules q []

  pub signature_is : signature ≡ input_of items n.text
  signature_is = ap (signature_named items) (sym goes.1) ∙ input_type_of_name items n

  pub many : length d.sttr.rules ≡ length names
  many = paired_many _ d.sttr.rules (map (out_rules_of items) names) is.rules ∙ length-map names (out_rules_of items)

  pub low_by_rule : (q i : ℕ) (r : Rule) → slice_get (rules_at q) i ≡ Some r → q < length names
  low_by_rule q i r at = let low = place_low d.sttr.rules q r (slice_in (rules_at q) i r at) in omega (arith, low, many)

  module _ (q : ℕ) (low : q < length names) where
    pub goes_at : IsFrom items (named (name_of (name_at q))) from into
    goes_at = let beside = is.transformations q [] low in (beside.kind, beside.begins ∙ goes.1, beside.ends ∙ goes.2)

    pub input_at : signature ≡ input_of items (name_at q)
    input_at = ap (signature_named items) (sym goes_at.1) ∙ input_type_of_name items (name_of (name_at q))

    pub reached_at : Reaches items n.text (name_at q)
    reached_at = is.reached q [] low

    abbrev pub AppliesHere : machines.OutRule Label → OutRule → Type 0
    AppliesHere = AppliesAs items from meant (name_of (name_at q))

    pub applied : Pairwise AppliesHere (out_rules meant q) (out_rules_of items (name_at q))
    applied = built.applies q low

    pub meant_at : (i : ℕ) (r : Rule) → slice_get (rules_at q) i ≡ Some r → slice_get (out_rules meant q) i ≡ Some (meaning_of row_holds row_make r)
    meant_at i r at = ap (λ rs. slice_get rs i) (rules_meant row_holds row_make d.sttr q) ∙ (slice_get-map (meaning_of row_holds row_make) (rules_at q) i ∙ ap (option_map (meaning_of row_holds row_make)) at)

    -- the written rule at a rule's place
    written_at : (i : ℕ) (r : Rule) → slice_get (rules_at q) i ≡ Some r → (w : OutRule) × (slice_get (out_rules_of items (name_at q)) i ≡ Some w) × AppliesHere (meaning_of row_holds row_make r) w
    written_at i r at = pair_first AppliesHere (out_rules meant q) (out_rules_of items (name_at q)) applied i (meaning_of row_holds row_make r) (meant_at i r at)

    by_map : (i : ℕ) (x : machines.OutRule Label) (o : Option Rule) → slice_get (rules_at q) i ≡ o → option_map (meaning_of row_holds row_make) o ≡ Some x → (r : Rule) × (slice_get (rules_at q) i ≡ Some r) × (meaning_of row_holds row_make r ≡ x)
    by_map i x None at e = absurd (cc)
    by_map i x (Some r) at e = let same : meaning_of row_holds row_make r ≡ x = cc in (r, at, same)

    -- and the rule at the place of a written one
    rule_at : (i : ℕ) (w : OutRule) → slice_get (out_rules_of items (name_at q)) i ≡ Some w → (r : Rule) × (slice_get (rules_at q) i ≡ Some r) × AppliesHere (meaning_of row_holds row_make r) w
    rule_at i w at =
        let (x, there, alike) = pair_second AppliesHere (out_rules meant q) (out_rules_of items (name_at q)) applied i w at in
        let (r, own, same) = by_map i x (slice_get (rules_at q) i) refl (sym (slice_get-map (meaning_of row_holds row_make) (rules_at q) i) ∙ (sym (ap (λ rs. slice_get rs i) (rules_meant row_holds row_make d.sttr q)) ∙ there)) in
        (r, own, subst (λ z. AppliesHere z w) (sym same) alike)

    same_terms : (i j : ℕ) (r s : Rule) (w v : OutRule) → slice_get (rules_at q) i ≡ Some r → slice_get (rules_at q) j ≡ Some s → slice_get (out_rules_of items (name_at q)) i ≡ Some w → slice_get (out_rules_of items (name_at q)) j ≡ Some v
        → AreEqual same_maps r.term s.term ↔ IsSameTerm (input_of items (name_at q)).fields w.rule.vars v.rule.vars w.out v.out
    same_terms i j r s w v at also here there =
        subst (λ (z : PlainSignature). AreEqual same_maps r.term s.term ↔ IsSameTerm z.fields w.rule.vars v.rule.vars w.out v.out) input_at (built.terms q low i j r s w v at also here there)

    pub meet_up : (i j : ℕ) (t : LabelTree) → IsTyped items from t → single.Meet row_holds same_maps d.sttr q i j t → run.Meet items (name_at q) i j t
    meet_up i j t typed (r, s, unlike, first, second) =
        let (w, here, one) = written_at i r unlike.first in
        let (v, there, other) = written_at j s unlike.second in (
          unlike.in_order,
          w,
          v,
          here,
          there,
          λ same. unlike.unlike ((same_terms i j r s w v unlike.first unlike.second here there).1 same),
          subst (λ z. HasType z t) input_at typed,
          (one t typed).0 first,
          (other t typed).0 second,
        )

    pub meet_down : (i j : ℕ) (t : LabelTree) → run.Meet items (name_at q) i j t → IsTyped items from t × single.Meet row_holds same_maps d.sttr q i j t
    meet_down i j t (order, w, v, here, there, other, of, first, second) =
        let typed = subst (λ z. HasType z t) (sym input_at) of in
        let (r, at, one) = rule_at i w here in
        let (s, also, two) = rule_at j v there in (
          typed,
          (
            r,
            s,
            record { in_order = order; first = at; second = also; unlike = λ same. other ((same_terms i j r s w v at also here there).0 same) },
            (one t typed).1 first,
            (two t typed).1 second,
          ),
        )

    -- a rule's place
    pub few : (i : ℕ) (w : OutRule) → slice_get (out_rules_of items (name_at q)) i ≡ Some w → i < most_rules
    few i w at =
        let (p, q2, own) = outs_trans items (sound items well) (name_at q) w (find_item items (name_at q)) refl (slice_in (out_rules_of items (name_at q)) i w at) in
        let found = found_trans items (name_at q) p q2 own in
        let s = trans_sound items well (name_at q) own.own found in
        let inside = slice_get_within (out_rules_of items (name_at q)) i w at in
        let long = ap length (outs_are items (name_at q) own.own found) in
        omega (arith, inside, long, s.few)

  -- a transformation that is reached is a state's
  pub state_of : (p : List ℕ) (w : OutRule) → Reaches items n.text p → Contains (out_rules_of items p) w → (q : ℕ) × (q < length names) × (name_at q ≡ p)
  state_of p w reached at =
      let (from2, into2, own) = outs_trans items (sound items well) p w (find_item items p) refl at in
      let (q, low, same) = is.all p reached (kind_there items p own.own (found_trans items p from2 into2 own)) in
      (q, low, default names q low p same)
    where
      default : (xs : List (List ℕ)) (q : ℕ) → q < length xs → (p : List ℕ) → get_or xs q p ≡ p → get_or xs q [] ≡ p
      default [] q low p same = absurd (omega (arith, low))
      default (x ∷ xs) zero low p same = same
      default (x ∷ xs) (suc q) low p same = default xs q (omega (arith, low)) p same

  pub state_meets : (p : List ℕ) (i j : ℕ) (t : LabelTree) → Reaches items n.text p → run.Meet items p i j t → IsTyped items from t × ((q : ℕ) × single.Meet row_holds same_maps d.sttr q i j t)
  state_meets p i j t reached meet =
      let (q, low, same) = state_of p meet.1 reached (slice_in (out_rules_of items p) i meet.1 meet.3) in
      let (typed, own) = meet_down q low i j t (subst (λ z. run.Meet items z i j t) (sym same) meet) in
      (typed, (q, own))

  -- ---- trees of the type

  pub typed_by : (sorts : List Sort) → sorts ≡ sorts_of signature → (t : LabelTree) → Fits d.sttr.looks.ranks (HasSorts sorts) t → IsTyped items from t
  typed_by sorts labels t fits =
      type_from_fits signature t (subst (λ ranks. Fits ranks (HasSorts (sorts_of signature)) t) (is.ranks ∙ ap ranks_of (sym signature_is)) (subst (λ s. Fits d.sttr.looks.ranks (HasSorts s) t) labels fits))

  pub fits_by : (sorts : List Sort) → sorts ≡ sorts_of signature → (t : LabelTree) → IsTyped items from t → Fits d.sttr.looks.ranks (HasSorts sorts) t
  fits_by sorts labels t typed =
      subst (λ s. Fits d.sttr.looks.ranks (HasSorts s) t) (sym labels) (subst (λ ranks. Fits ranks (HasSorts (sorts_of signature)) t) (sym (is.ranks ∙ ap ranks_of (sym signature_is))) (fits_from_type signature t typed))

  -- ---- what is found

  module _ (sorts : List Sort) (labels : sorts ≡ sorts_of signature) where
    pub none_meet : ((t : LabelTree) → Fits d.sttr.looks.ranks (HasSorts sorts) t → ¬ (single.MeetSome row_holds same_maps d.sttr t)) → (t : LabelTree) → ¬ (MeetSome items (Reaches items n.text) t)
    none_meet none t (p, reached, i, j, meet) = let (typed, own) = state_meets p i j t reached meet in none t (fits_by sorts labels t typed) (own.0, i, j, own.1)

    pub all_large : (most : ℕ) → single.HasBigMeetings same_maps (row_meaning sorts) d.sttr most → AreAllLarge (MeetSome items (Reaches items n.text))
    all_large most big =
        let (q, i, j, meet) = big.meet in
        let low = low_by_rule q i meet.0 meet.2.first in
        let typed = typed_by sorts labels big.tree big.fits in
        record {
          tree = big.tree;
          right = (name_at q, reached_at q low, i, j, meet_up q low i j big.tree typed meet);
          large = λ t some. (let (p, reached, k, l, also) = some in let (of, own) = state_meets p k l t reached also in big.big t (fits_by sorts labels t of) (own.0, k, l, own.1));
        }

    module _ (most : ℕ) (m : machine.Meeting code.Label) (found : single.IsMeeting same_maps (row_meaning sorts) d.sttr most m) where
      abbrev shown : LabelTree
      shown = relabel label_meaning m.tree

      state_low : m.state < length names
      state_low = low_by_rule m.state m.first found.meet.0 found.meet.2.first

      own_meet : run.Meet items (name_at m.state) m.first m.second shown
      own_meet = meet_up m.state state_low m.first m.second shown (typed_by sorts labels shown (fits_if_kept d.sttr.looks.ranks sorts shown found.fits)) found.meet

      pub meeting_low : (m.state < length names) × ((m.first < 2 ^ 32) × (m.second < 2 ^ 32))
      meeting_low =
          let one = few m.state state_low m.first own_meet.1 own_meet.3 in
          let other = few m.state state_low m.second own_meet.2 own_meet.4 in
          (state_low, (omega (arith, one), omega (arith, other)))

      pub meeting_is : most ≤ most_classes → (own : Meeting) → IsMeetingFor names from m own → IsMeeting items (Reaches items n.text) own
      meeting_is few_most own same =
          let trees : tree_of own ≡ shown = ap (relabel label_meaning) same.tree in
          record {
            reached = subst (Reaches items n.text) (sym same.name) (reached_at m.state state_low);
            meet = subst (λ p. run.Meet items p own.first own.second (tree_of own)) (sym same.name)
                (subst (λ i. run.Meet items (name_at m.state) i own.second (tree_of own)) (sym same.first)
                (subst (λ j. run.Meet items (name_at m.state) m.first j (tree_of own)) (sym same.second)
                (subst (λ t. run.Meet items (name_at m.state) m.first m.second t) (sym trees) own_meet)));
            type = ap (λ z. signature_named items (Some z)) same.type ∙ input_at m.state state_low ∙ ap (input_of items) (sym same.name);
            kept = subst (λ t. is_kept t ≡ true) (sym trees) (kept_if_fits d.sttr.looks.ranks sorts shown found.fits);
            small = subst (λ t. node_count t ≤ most_nodes) (sym trees) found.small;
            shallow = subst (λ t. depth t ≤ greatest_depth) (sym trees) (omega (arith, found.shallow, few_most));
          }

-- The rules of a transducer, each beside the written one at its place.
use Rattle.std.proofs.Common.{◌≡◌, ◌+◌, ◌<◌, inl, inr, true, false, Bool, not, cond, ℕ, zero, suc, List, [], ◌∷◌, Some, All, length, map, get_or, slice_get, Contains, refl, sym, ap, subst, ◌∙◌, arith}
use Rattle.std.specs.Option.{option_map_or}
use Rattle.std.proofs.lemmas.List.{get_or-map}
use Rattle.model_tree.specs.Label.{Label}
use Rattle.model_tree.specs.Signature.{PlainSignature, names_of}
use Rattle.model_program.specs.Syntax.{Name}
use Rattle.model_grammar.specs.Syntax.{named, Out, child, call, node, Outs, no_out, and_out, OutRule, TransItem, Item}
use Rattle.model_names.specs.Declared.{same_text, name_of, out_rules_of}
use Rattle.model_names.specs.Kinds.{language, transformation}
use Rattle.model_checks.specs.Programs.{is_well_formed}
use Rattle.model_checks.proofs.SoundWhole.{sound}
use Rattle.model_meaning.specs.Types.{input_of, output_of, signature_of, no_signature}
use Rattle.model_meaning.specs.Reached.{IsCalledIn, IsCalledInOne}
use Rattle.meaning_laws.proofs.Reaching.{reached_by_trans}
use Rattle.model_run.specs.Parts.{IsFrom}
use Rattle.model_sta.specs.Pairwise.{Pairwise}
use Rattle.model_sttr.specs.Plain.{PlainOut}
use Rattle.model_sttr.specs.Terms.{Term, on, build, Parts, no_parts, part, with_maps, parts_with_maps, Occurs, OccursIn}
use Rattle.model_sttr.specs.Transducer.{Head, identity, run, Sttr, IsHead, out_rules}
use Rattle.sta_core.specs.Machine.{PlainRule}
use Rattle.sttr_core.specs.Machine.{OutMachine, transducer_of}
use Rattle.sttr_core.proofs.Meaning.{meaning_of, rules_meant}
use Rattle.record_label.specs.Rows.{RowAtom, row_holds}
use Rattle.record_label.specs.declared.maps.RowMap.{RowMap}
use Rattle.sttr_single.proofs.Stopping.{slice_in}
use Rattle.fast_build.specs.Numbers.{number_in}
use Rattle.fast_build.specs.OutRules.{IsOutRuleFor}
use Rattle.fast_build.specs.Reached.{demanded_by}
use Rattle.fast_build.specs.Terms.{row_make, IsTermFor, AreTermsFor, TermStands}
use Rattle.fast_build.specs.Transducer.{IsTransducerOf}
use Rattle.fast_build.specs.Transformations.{find_trans}
use Rattle.fast_build.proofs.CalledFacts as facts
use Rattle.fast_build.proofs.CarryingTrans.{states_many, input_beside, output_beside}
use Rattle.fast_build.proofs.Naming.{same_from_test}
use Rattle.fast_build.proofs.OutStands.{trans_sound, out_rule_stands, ctors_apart_into}
use Rattle.fast_build.proofs.Paired.{paired_at}
use Rattle.fast_build.proofs.Stands.{are_apart}
use Rattle.fast_build.proofs.Standing.{kind_is}
use Rattle.fast_build.proofs.Transforming.{trans_from, found_trans, found_lang, outs_are}

-- what is so of each two at one place is so of two that are looked up
pub paired_there : {X Y : Type 0} (R : X → Y → Type 0) (xs : List X) (ys : List Y) (i : ℕ) (x : X) (y : Y) → Pairwise R xs ys → slice_get xs i ≡ Some x → slice_get ys i ≡ Some y → R x y
paired_there R [] ys i x y are at at' = cc
paired_there R (a ∷ xs) [] i x y are at at' = cc
paired_there R (a ∷ xs) (b ∷ ys) zero x y are at at' = let same : a ≡ x = cc in let same' : b ≡ y = cc in subst (λ z. R z y) same (subst (R a) same' are.0)
paired_there R (a ∷ xs) (b ∷ ys) (suc i) x y are at at' = paired_there R xs ys i x y are.1 at at'

-- and what stands in the first list has one beside it in the second
pub record Beside {X Y : Type 0} (R : X → Y → Type 0) (xs : List X) (ys : List Y) (i : ℕ) (x : X) : Type 0 where
  pub other : Y
  pub at : slice_get ys i ≡ Some other
  pub holds : R x other

pub paired_beside : {X Y : Type 0} (R : X → Y → Type 0) (xs : List X) (ys : List Y) (i : ℕ) (x : X) → Pairwise R xs ys → slice_get xs i ≡ Some x → Beside R xs ys i x
paired_beside R [] ys i x are at = absurd (cc)
paired_beside R (a ∷ xs) [] i x are at = absurd are
paired_beside R (a ∷ xs) (b ∷ ys) zero x are at = let same : a ≡ x = cc in record { other = b; at = refl; holds = subst (λ z. R z b) same are.0 }
paired_beside R (a ∷ xs) (b ∷ ys) (suc i) x are at = let later = paired_beside R xs ys i x are.1 at in record { other = later.other; at = later.at; holds = later.holds }

-- an element stands at a place
pub there_at : {X : Type 0} (xs : List X) (x : X) → Contains xs x → (i : ℕ) × (slice_get xs i ≡ Some x)
there_at [] x (k, low, is) = absurd (omega arith)
there_at (y ∷ xs) x (zero, low, is) = (0, ap (λ z. Some z) is)
there_at (y ∷ xs) x (suc k, low, is) = let later = there_at xs x (k, omega (arith, low), is) in (suc later.0, later.1)

-- a name with a number among names is one of them
numbered_there : (names : List (List ℕ)) (name : List ℕ) → number_in names name < length names → Contains names name
numbered_there [] name low = absurd (omega (arith, low))
numbered_there (n ∷ names) name low = by (same_text name n) refl low (numbered_there names name)
  where
    by : (b : Bool) → same_text name n ≡ b → cond (not b) (1 + number_in names name) 0 < suc (length names) → (number_in names name < length names → Contains names name) → Contains (n ∷ names) name
    by true e low behind = (0, omega arith, sym (same_from_test name n e))
    by false e low behind = let later = behind (omega (arith, low)) in (suc later.0, omega (arith, later.1), later.2)

module _ (items : List Item) (well : is_well_formed items ≡ true) (n : Name) (t : TransItem) (found : find_trans items n.text ≡ Some t) (from into : List ℕ) (goes : IsFrom items (named n) from into) (names : List (List ℕ)) (d : OutMachine RowAtom RowMap) (is : IsTransducerOf items n.text names d) where
  abbrev pub s : PlainSignature
  s = input_of items n.text

  abbrev pub o : PlainSignature
  o = output_of items n.text

  abbrev pub name_at : ℕ → List ℕ
  name_at k = get_or names k []

  abbrev pub Rule : Type 0
  Rule = PlainOut (PlainRule RowAtom) RowMap

  -- the item of a state's name
  record Own (k : ℕ) : Type 0 where
    item : TransItem
    found_item : find_trans items (name_at k) ≡ Some item

  own_at : (k : ℕ) → k < length names → Own k
  own_at k low = elim (reached_by_trans items (sound items well) n.text t.from.text t.into.text (name_at k) (trans_from items n.text t found) (is.reached k [] low)) [
    | inl l ↦ absurd (no_language (sym (kind_is items (name_of (name_at k)) l.own (found_lang items well (name_at k) t.from.text l)) ∙ (is.transformations k [] low).kind))
    | inr f ↦ record { item = f.own; found_item = found_trans items (name_at k) t.from.text t.into.text f }
  ]
    where
      no_language : Some language ≡ Some transformation → ⊥
      no_language e = cc

  rules_for : (k : ℕ) → k < length names → Pairwise (IsOutRuleFor s o (number_in is.looked) (number_in names)) (get_or d.rules k []) (out_rules_of items (name_at k))
  rules_for k low =
      subst (Pairwise (IsOutRuleFor s o (number_in is.looked) (number_in names)) (get_or d.rules k [])) (get_or-map (out_rules_of items) names k [] [] low) (paired_at (IsOutRuleFor s o (number_in is.looked) (number_in names)) d.rules (map (out_rules_of items) names) k is.rules)

  pub rule_for : (k i : ℕ) (r : Rule) (w : OutRule) → k < length names → slice_get (get_or d.rules k []) i ≡ Some r → slice_get (out_rules_of items (name_at k)) i ≡ Some w → IsOutRuleFor s o (number_in is.looked) (number_in names) r w
  rule_for k i r w low at at' = paired_there (IsOutRuleFor s o (number_in is.looked) (number_in names)) (get_or d.rules k []) (out_rules_of items (name_at k)) i r w (rules_for k low) at at'

  -- the written rule at the place of a rule
  pub written_at : (k i : ℕ) (r : Rule) → k < length names → slice_get (get_or d.rules k []) i ≡ Some r → Beside (IsOutRuleFor s o (number_in is.looked) (number_in names)) (get_or d.rules k []) (out_rules_of items (name_at k)) i r
  written_at k i r low at = paired_beside (IsOutRuleFor s o (number_in is.looked) (number_in names)) (get_or d.rules k []) (out_rules_of items (name_at k)) i r (rules_for k low) at

  -- ---- what is called

  abbrev run_sttr : Sttr Label
  run_sttr = transducer_of row_holds row_make d

  module _ (vars : List Name) where
    mutual
      called_there : (out : Out) (p : Term Head RowMap) → IsTermFor s o (number_in names) vars out p → ((h : Head) (j : ℕ) → Occurs h j (with_maps row_make p) → IsHead run_sttr h) → (q : List ℕ) → IsCalledIn out q → Contains names q
      called_there (child y) p f heads q called = absurd called
      called_there (call a y) (on identity j) f heads q called = absurd f
      called_there (call a y) (on (run k) j) f heads q called =
          let low : k < length run_sttr.rules = heads (run k) j (refl, refl) in
          subst (Contains names) called (numbered_there names a.text (subst (λ m. m < length names) f.0 (subst (λ m. k < m) (states_many items well n t found from into goes names d is) low)))
      called_there (call a y) (build c m ps) f heads q called = absurd f
      called_there (node a ds os) (on h j) f heads q called = absurd f
      called_there (node a ds os) (build c m ps) f heads q called = called_in_parts os ps f.2 heads q called

      called_in_parts : (os : Outs) (ps : Parts Head RowMap) → AreTermsFor s o (number_in names) vars os ps → ((h : Head) (j : ℕ) → OccursIn h j (parts_with_maps row_make ps) → IsHead run_sttr h) → (q : List ℕ) → IsCalledInOne os q → Contains names q
      called_in_parts no_out ps f heads q called = absurd called
      called_in_parts (and_out a os) no_parts f heads q called = absurd f
      called_in_parts (and_out a os) (part p ps) f heads q (inl called) = called_there a p f.0 (λ h j at. heads h j (inl at)) q called
      called_in_parts (and_out a os) (part p ps) f heads q (inr called) = called_in_parts os ps f.1 (λ h j at. heads h j (inr at)) q called

  -- the rule over labels is one of its state
  pub meant_there : (k i : ℕ) (r : Rule) → slice_get (get_or d.rules k []) i ≡ Some r → Contains (out_rules run_sttr k) (meaning_of row_holds row_make r)
  meant_there k i r at = subst (λ rs. Contains rs (meaning_of row_holds row_make r)) (sym (rules_meant row_holds row_make d k)) (mapped_in (get_or d.rules k []) i at)
    where
      mapped_in : (rs : List Rule) (i : ℕ) → slice_get rs i ≡ Some r → Contains (map (meaning_of row_holds row_make) rs) (meaning_of row_holds row_make r)
      mapped_in [] i at = absurd (cc)
      mapped_in (x ∷ rs) zero at = let same : x ≡ r = cc in (0, omega arith, ap (meaning_of row_holds row_make) same)
      mapped_in (x ∷ rs) (suc i) at = let later = mapped_in rs i at in (suc later.0, omega (arith, later.1), later.2)

  -- its written term stands
  pub term_stands_at : (k i : ℕ) (r : Rule) (w : OutRule) → k < length names → slice_get (get_or d.rules k []) i ≡ Some r → slice_get (out_rules_of items (name_at k)) i ≡ Some w → TermStands s o names w.rule.vars w.out
  term_stands_at k i r w low at at' =
      let x = own_at k low in
      let f = rule_for k i r w low at at' in
      let sides = trans_sound items well (name_at k) x.item x.found_item in
      let own_rule : Contains x.item.rules w = subst (λ rs. Contains rs w) (outs_are items (name_at k) x.item x.found_item) (slice_in (out_rules_of items (name_at k)) i w at') in
      let stands = out_rule_stands items well (name_at k) x.item x.found_item (demanded_by w.rule.given) names w own_rule (itself (demanded_by w.rule.given)) (called_there w.rule.vars w.out r.term f.term (is.fit.rules k (meaning_of row_holds row_make r) (meant_there k i r at)).heads) in
      let begins : signature_of sides.from ≡ s = sym (facts.input_is items (name_at k) x.item x.found_item ∙ ap (λ z. option_map_or signature_of z no_signature) sides.found_from) ∙ input_beside items well n t found from into goes names d is k low in
      let ends : signature_of sides.into ≡ o = sym (facts.output_is items (name_at k) x.item x.found_item ∙ ap (λ z. option_map_or signature_of z no_signature) sides.found_into) ∙ output_beside items well n t found from into goes names d is k low in
      subst (λ z. TermStands z o names w.rule.vars w.out) begins (subst (λ z. TermStands (signature_of sides.from) z names w.rule.vars w.out) ends stands.term)
    where
      itself : (xs : List (List ℕ)) → All (Contains xs) xs
      itself xs k d low = (k, low, same_at xs k d low)
        where
          same_at : (xs : List (List ℕ)) (k : ℕ) (d : List ℕ) → k < length xs → get_or xs k (get_or xs k d) ≡ get_or xs k d
          same_at [] k d low = absurd (omega arith)
          same_at (y ∷ ys) zero d low = refl
          same_at (y ∷ ys) (suc k) d low = same_at ys k d (omega (arith, low))

  -- the constructors of the outputs are apart
  pub outputs_apart : are_apart (names_of o) ≡ true
  outputs_apart =
      let sides = trans_sound items well n.text t found in
      subst (λ z. are_apart (names_of z) ≡ true) (sym (facts.output_is items n.text t found ∙ ap (λ z. option_map_or signature_of z no_signature) sides.found_into)) (ctors_apart_into items well n.text t found)

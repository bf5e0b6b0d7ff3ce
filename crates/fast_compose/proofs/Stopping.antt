-- What stops the search for meetings shows of the name whose transducer is searched.
use Rattle.std.proofs.Common.{◌≡◌, ◌↔◌, inl, inr, ℕ, zero, suc, true, ◌&&◌, List, [], ◌∷◌, Some, map, get_or, Contains, All, refl, sym, ap, subst, arith}
use Rattle.std.specs.List.{flat_map}
use Rattle.std.proofs.lemmas.List.Elements.{All-head, All-tail, All-map, All-weaker}
use Rattle.model_tree.specs.Label.{Label}
use Rattle.model_tree.specs.Tree.{LabelTree}
use Rattle.model_tree.specs.Formula.{Formula, formula_holds}
use Rattle.model_tree.specs.Signature.{Sort, sorts_of}
use Rattle.model_program.specs.Syntax.{Name}
use Rattle.model_grammar.specs.Syntax.{X, named, TransItem, Item}
use Rattle.model_names.specs.Declared.{name_of}
use Rattle.model_checks.specs.Programs.{is_well_formed}
use Rattle.model_meaning.specs.Meaning.{signature_named}
use Rattle.model_sta.specs.EachTwo.{EachTwo}
use Rattle.model_sta.specs.Sets.{Fits}
use Rattle.model_sta.specs.Told.{AreTold, HasMoreApart}
use Rattle.model_sttr.specs.Plain.{PlainOut}
use Rattle.model_sttr.specs.Guards.{AgreeOn}
use Rattle.model_run.specs.Parts.{IsFrom, AreApart, HasMoreTrees}
use Rattle.model_run.specs.Causes.{IsTooWide}
use Rattle.model_layers.specs.Carries.{IsTyped}
use Rattle.model_layers.specs.Compared.{AreCompared}
use Rattle.model_layers.proofs.Names.{two_rules_are_part}
use Rattle.model_layers.proofs.Compared.{widths_go_up}
use Rattle.label_core.specs.Formula.{atoms_in}
use Rattle.label_core.specs.Pair.{lefts}
use Rattle.label_core.specs.declared.pair.PairAtom.{PairAtom}
use Rattle.label_core.specs.declared.pair.PairAtom.TheVariants.{Left, Right}
use Rattle.lin_solve.specs.declared.chain.Chain.{Chain}
use Rattle.lin_solve.specs.declared.compare.Compare.{Compare}
use Rattle.lin_solve.specs.Plain.{plain_compare}
use Rattle.lin_solve.specs.Shown.{bits_of}
use Rattle.sta_core.specs.Machine.{PlainRule}
use Rattle.sta_classes.specs.Guards.{all_guards, atoms_of_all}
use Rattle.sta_classes.specs.declared.stop.ClassStop.{ClassStop}
use Rattle.sta_classes.specs.declared.stop.ClassStop.TheVariants.{Classes, Wide, Memory}
use Rattle.sta_theory.proofs.Lists.{append_member, first_in, later_in, map_member, in_map, flat_member, none_in}
use Rattle.sttr_core.specs.declared.sttr.Trans.{Trans}
use Rattle.sttr_core.proofs.Meaning.{meaning_of, rules_meant}
use Rattle.sttr_run.specs.Sources.{HasAtomIn}
use Rattle.sttr_single.specs.Overlap.{applies, AreUnlike, AreToldByMeeting, guards_of, StopsOverlap}
use Rattle.record_label.specs.Meaning.{row_meaning}
use Rattle.record_label.specs.Rows.{RowAtom, row_holds, KeepsSorts}
use Rattle.record_label.specs.declared.maps.RowMap.{RowMap}
use Rattle.fast_build.specs.CarriedTrans.{same_maps, IsBuiltTransFor}
use Rattle.fast_build.specs.Terms.{row_make}
use Rattle.fast_build.specs.Transducer.{IsTransducerOf}
use Rattle.fast_build.specs.Transformations.{find_trans}
use Rattle.fast_build.proofs.Paired.{each_all}
use Rattle.fast_eval.specs.Built.{compares_of, IsCompared}
use Rattle.fast_eval.proofs.Stopped.{guards_agree, wide_over}
use Rattle.fast_eval.proofs.TransWritten.{trans_compared}
use Rattle.fast_eval.proofs.Typed.{fits_if_kept}
use Rattle.model_layers.proofs.Told.{exactly_one, exactly_as}
use Rattle.sttr_theory.proofs.OneOf.{and_iff}
use Rattle.fast_compose.proofs.States.{meant, low_by_rule, goes_at, reached_at, applied, meant_at, name_at, typed_by}

-- ---- exactly one of two

through : {P Q R : Type 0} → P ↔ Q → Q ↔ R → P ↔ R
through f g = (λ p. g.0 (f.0 p), λ r. f.1 (g.1 r))

-- ---- guards, and atoms in them

module _ {A : Type 0} where
  in_rules : (rules : List (List (PlainRule A))) (f : Formula A) → Contains (all_guards rules) f → (those : List (PlainRule A)) × Contains rules those × (r : PlainRule A) × Contains those r × (r.guard ≡ f)
  in_rules [] f at = absurd (none_in f at)
  in_rules (rs ∷ rules) f at = elim (append_member (map (λ r. r.guard) rs) (all_guards rules) f at) [
    | inl here ↦ (let (r, at_r, is) = map_member (λ (r : PlainRule A). r.guard) rs f here in (rs, first_in rs rules, r, at_r, is))
    | inr later ↦ (let (those, at_those, r, at_r, is) = in_rules rules f later in (those, later_in rs those rules at_those, r, at_r, is))
  ]

module _ {A M : Type 0} where
  in_out_rules : (rules : List (List (PlainOut (PlainRule A) M))) (f : Formula A) → Contains (flat_map (λ rs. map (λ r. r.rule.guard) rs) rules) f
      → (those : List (PlainOut (PlainRule A) M)) × Contains rules those × (r : PlainOut (PlainRule A) M) × Contains those r × (r.rule.guard ≡ f)
  in_out_rules rules f at =
      let (those, at_those, there) = flat_member (λ rs. map (λ r. r.rule.guard) rs) rules f at in
      let (r, at_r, is) = map_member (λ (r : PlainOut (PlainRule A) M). r.rule.guard) those f there in
      (those, at_those, r, at_r, is)

in_atoms : {A : Type 0} (gs : List (Formula A)) (a : A) → Contains (atoms_of_all gs) a → (g : Formula A) × Contains gs g × Contains (atoms_in g) a
in_atoms [] a at = absurd (none_in a at)
in_atoms (g ∷ gs) a at = elim (append_member (atoms_in g) (atoms_of_all gs) a at) [
  | inl here ↦ (g, first_in g gs, here)
  | inr later ↦ (let (f, there, own) = in_atoms gs a later in (f, later_in g f gs there, own))
]

left_there : {P Q : Type 0} (atoms : List (PairAtom P Q)) (p : P) → Contains (lefts atoms) p → Contains atoms (Left p)
left_there [] p at = absurd (none_in p at)
left_there (Left x ∷ atoms) p (zero, low, is) = (0, omega arith, ap Left is)
left_there (Left x ∷ atoms) p (suc k, low, is) = later_in (Left x) (Left p) atoms (left_there atoms p (k, omega (arith, low), is))
left_there (Right y ∷ atoms) p at = later_in (Right y) (Left p) atoms (left_there atoms p at)

place_of : {A : Type 0} (xss : List (List A)) (xs : List A) → Contains xss xs → (q : ℕ) × (get_or xss q [] ≡ xs)
place_of [] xs at = absurd (none_in xs at)
place_of (ys ∷ xss) xs (zero, low, is) = (0, is)
place_of (ys ∷ xss) xs (suc k, low, is) = let (q, same) = place_of xss xs (k, omega (arith, low), is) in (suc q, same)

module _ (items : List Item) (es : List X) (type : List ℕ) (R : LabelTree → LabelTree → Type 0) (told : (s t : LabelTree) → IsTyped items type s → IsTyped items type t → R s t → AreApart items es type s t) where
  all_apart : (s : LabelTree) → IsTyped items type s → (ts : List LabelTree) → All (IsTyped items type) ts → All (R s) ts → All (AreApart items es type s) ts
  all_apart s of ts typed each = λ k d low. told s (get_or ts k d) of (typed k d low) (each k d low)

  each_two : (ts : List LabelTree) → All (IsTyped items type) ts → EachTwo R ts → EachTwo (AreApart items es type) ts
  each_two [] typed each = tt
  each_two (t ∷ ts) typed each =
      let later = All-tail (IsTyped items type) t ts typed in
      (all_apart t (All-head (IsTyped items type) t ts typed) ts later each.0, each_two ts later each.1)

module _ (items : List Item) (well : is_well_formed items ≡ true) (n : Name) (t : TransItem) (found : find_trans items n.text ≡ Some t) (from into : List ℕ) (goes : IsFrom items (named n) from into) (names : List (List ℕ)) (d : Trans RowAtom RowMap)
    (is : IsTransducerOf items n.text names d.sttr) (built : IsBuiltTransFor items n from into names d.sttr d.state) where
  abbrev Rule : Type 0
  Rule = PlainOut (PlainRule RowAtom) RowMap

  abbrev Told : LabelTree → LabelTree → Type 0
  Told = AreToldByMeeting row_holds same_maps d.sttr

  by_look : (s u : LabelTree) → IsTyped items from s → IsTyped items from u → AreTold (meant items well n from into goes names d is built).looks s u → AreApart items (named n ∷ []) from s u
  by_look s u first second (q, low, told) =
      let part = built.carries.each_look q low in
      (named n, first_in (named n) [], part.0, part.1, exactly_as _ _ _ _ (part.2 s first) (part.2 u second) (exactly_one _ _ told))

  by_rules : (s u : LabelTree) → IsTyped items from s → IsTyped items from u → (q i j : ℕ) (r p : Rule) → AreUnlike row_holds same_maps d.sttr q i j r p
      → ¬ ((applies row_holds same_maps d.sttr r s && applies row_holds same_maps d.sttr p s) ≡ (applies row_holds same_maps d.sttr r u && applies row_holds same_maps d.sttr p u)) → AreApart items (named n ∷ []) from s u
  by_rules s u first second q i j r p unlike told =
      let low = low_by_rule items well n from into goes names d is built q i r unlike.first in
      let f = meant items well n from into goes names d is built in
      let m = name_of (name_at items well n from into goes names d is built q) in
      let one = meant_at items well n from into goes names d is built q low i r unlike.first in
      let other = meant_at items well n from into goes names d is built q low j p unlike.second in
      let (part, own, alike) = two_rules_are_part items n m from into f q (reached_at items well n from into goes names d is built q low) (goes_at items well n from into goes names d is built q low) (applied items well n from into goes names d is built q low)
      i j (meaning_of row_holds row_make r) (meaning_of row_holds row_make p) unlike.in_order one other in
      (named n, first_in (named n) [], part, own, exactly_as _ _ _ _ (through (and_iff _ _) (alike s first)) (through (and_iff _ _) (alike u second)) (exactly_one _ _ told))

  told_apart : (s u : LabelTree) → IsTyped items from s → IsTyped items from u → Told s u → AreApart items (named n ∷ []) from s u
  told_apart s u first second (inl told) = by_look s u first second told
  told_apart s u first second (inr (q, i, j, r, p, unlike, told)) = by_rules s u first second q i j r p unlike told

  module _ (sorts : List Sort) (labels : sorts ≡ sorts_of (signature_named items (Some from))) (most : ℕ) where
    more_trees : HasMoreApart (Fits d.sttr.looks.ranks (KeepsSorts sorts)) Told most → HasMoreTrees items (named n ∷ []) most
    more_trees has =
        let typed = All-weaker (Fits d.sttr.looks.ranks (KeepsSorts sorts)) (IsTyped items from) (λ u fits. typed_by items well n from into goes names d is built sorts labels u (fits_if_kept d.sttr.looks.ranks sorts u fits)) has.trees has.typed in
        record { type = from; trees = has.trees; typed = typed; apart = each_two items (named n ∷ []) from Told told_apart has.trees typed has.apart; more = has.more }

    -- ---- comparisons

    guard_compared : (g : Formula RowAtom) → Contains (guards_of d.sttr) g → (c : Compare) → Contains (atoms_in g) (Left c) → IsCompared items (named n) from (plain_compare c)
    guard_compared g at c own = (trans_compared items well n t found from into goes names d.sttr is).compares c (inl (elim (append_member (all_guards d.sttr.looks.rules) (flat_map (λ rules. map (λ r. r.rule.guard) rules) d.sttr.rules) g at) as (λ _. HasAtomIn d.sttr (Left c)) [
      | inl here ↦ (let (those, at_those, r, at_r, same) = in_rules d.sttr.looks.rules g here in inl (those, at_those, r, at_r, subst (λ f. Contains (atoms_in f) (Left c)) (sym same) own))
      | inr there ↦ (let (those, at_those, r, at_r, same) = in_out_rules d.sttr.rules g there in inr (those, at_those, r, at_r, subst (λ f. Contains (atoms_in f) (Left c)) (sym same) own))
    ]))

    compared : AreCompared items (named n) from (compares_of (guards_of d.sttr))
    compared =
        All-map (IsCompared items (named n) from) plain_compare (lefts (atoms_of_all (guards_of d.sttr)))
        (each_all (λ c. IsCompared items (named n) from (plain_compare c)) (lefts (atoms_of_all (guards_of d.sttr)))
        (λ c at. (let (g, there, own) = in_atoms (guards_of d.sttr) (Left c) (left_there (atoms_of_all (guards_of d.sttr)) c at) in guard_compared g there c own)))

    same_at : (l m : Label) → AgreeOn (meant items well n from into goes names d is built) l m → (f : Formula RowAtom) → Contains (guards_of d.sttr) f → formula_holds (λ a. row_holds a l) f ≡ formula_holds (λ a. row_holds a m) f
    same_at l m agree f at = elim (append_member (all_guards d.sttr.looks.rules) (flat_map (λ rules. map (λ r. r.rule.guard) rules) d.sttr.rules) f at) [
      | inl here ↦ guards_agree l m d.sttr.looks.rules agree.looks f here
      | inr there ↦ (let (those, at_those, r, at_r, own) = in_out_rules d.sttr.rules f there in
          let (q, same) = place_of d.sttr.rules those at_those in
          let listed = in_map (meaning_of row_holds row_make) (get_or d.sttr.rules q []) r (subst (λ rs. Contains rs r) (sym same) at_r) in
          subst (λ g. formula_holds (λ a. row_holds a l) g ≡ formula_holds (λ a. row_holds a m) g) own
          (agree.rules q (meaning_of row_holds row_make r) (subst (λ rs. Contains rs (meaning_of row_holds row_make r)) (sym (rules_meant row_holds row_make d.sttr q)) listed)))
    ]

    -- of the name itself
    abbrev pub StopsName : ClassStop Chain → Type 0
    StopsName Classes = HasMoreTrees items (named n ∷ []) most
    StopsName (Wide c) = IsTooWide items (named n ∷ []) (bits_of c.width)
    StopsName Memory = Unit {0}

    pub stops_name : (s : ClassStop Chain) → StopsOverlap same_maps (row_meaning sorts) d.sttr most s → StopsName s
    stops_name Classes stop = more_trees stop
    stops_name (Wide c) stop =
        (widths_go_up items from (bits_of c.width)).of_transducer (named n) into (compares_of (guards_of d.sttr)) (meant items well n from into goes names d is built) compared built.seen
        (wide_over items from sorts labels (guards_of d.sttr) (compares_of (guards_of d.sttr)) refl (AgreeOn (meant items well n from into goes names d is built)) same_at c stop.0.0 stop.0.1 stop.1)
    stops_name Memory stop = tt

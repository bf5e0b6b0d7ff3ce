-- Labels of all rows of signs tell the guards of a constructor apart.
use Rattle.std.proofs.Common.{ℕ, ◌+◌, ◌≡◌, Vec, Bool, List, [], ◌∷◌, ◌++◌, map, All, Contains, refl, sym, subst, ◌∙◌}
use Rattle.std.specs.Cmp.{IsEquivalence}
use Rattle.std.proofs.lemmas.Simd.{map-map}
use Rattle.std.proofs.lemmas.List.Elements.{All-contains}
use Rattle.model_tree.specs.Label.{Label}
use Rattle.model_tree.specs.Formula.{Formula, formula_holds, EveryAtom}
use Rattle.model_sta.specs.Sets.{Each}
use Rattle.label_core.specs.Formula.{plain_formula}
use Rattle.label_core.specs.declared.formula.Formula as code
use Rattle.label_core.specs.Meaning.{Meaning, IsChainOver}
use Rattle.label_split.specs.Signs.{signs_at, atoms_in_each, FormulasFit}
use Rattle.label_split.specs.Split.{IsRow, SplitsInto, HasUnkeptRow}
use Rattle.label_split.specs.declared.rows.SignRow.{SignRow}
use Rattle.sta_core.specs.Machine.{PlainRule}
use Rattle.sta_core.proofs.Meaning.{All_from_map}
use Rattle.sta_classes.specs.Guards.{all_guards, truths, GuardsFit}
use Rattle.sta_classes.specs.Rows.{lists_of}
use Rattle.sta_classes.specs.Stop.{ClassStopsFor}
use Rattle.sta_classes.specs.declared.stop.ClassStop.{ClassStop}
use Rattle.sta_classes.specs.declared.stop.ClassStop.TheVariants.{Wide}
use Rattle.sta_classes.proofs.Covered.{Same, same_truths}
use Rattle.sta_theory.proofs.Lists.{in_map}
use Rattle.sta_classes.proofs.Told.{stop_within, all_to_map}
use Rattle.sta_ops.proofs.Atoms.{each_in, in_each, guard_in}
use Rattle.sta_ops.proofs.EachRule.{all_in, in_all}
use Rattle.sta_min.specs.Values.{AreGuardsAt, TellApart, TellAllApart}
use Rattle.sta_min.proofs.Made.{AreMade, lists_made}

signs_of : {A : Type 0} (holds : A → Label → Bool) (formulas : List (code.Formula A)) (l : Label) → signs_at holds formulas l ≡ truths holds (map plain_formula formulas) l
signs_of holds formulas l = sym (map-map (λ g. formula_holds (λ a. holds a l) g) plain_formula formulas)

module _ {A : Type 0} where
  module _ (rules : List (List (PlainRule A))) (c : ℕ) (formulas : List (code.Formula A)) (are : AreGuardsAt rules c (map plain_formula formulas)) where
    among_all : (P : Formula A → Type 0) → Each P (all_guards rules) → Each P (map plain_formula formulas)
    among_all P h = in_each P (map plain_formula formulas) (λ f at. (let (rs, at_rs, r, at_r, is) = (are f).0 at in subst P is.1 (each_in P (all_guards rules) h r.guard (guard_in rules rs r at_rs at_r))))

    pub formulas_fit : (F : A → Type 0) → GuardsFit F rules → FormulasFit F formulas
    formulas_fit F fit =
        All_from_map (EveryAtom F) plain_formula formulas (in_all (EveryAtom F) (map plain_formula formulas)
        (λ f at. (let (rs, at_rs, r, at_r, is) = (are f).0 at in subst (EveryAtom F) is.1 (all_in (λ r. EveryAtom F r.guard) rs (all_in (λ rs. All (λ r. EveryAtom F r.guard) rs) rules fit rs at_rs) r at_r))))

    module _ {V W : Type 0} {label_of : V → Label} {holds : A → Label → Bool} (M : Meaning label_of holds W) where
      pub stops_all : (eq : A → A → Bool) → M.equal ≡ eq → IsEquivalence eq → (stop : ClassStop W) → ClassStopsFor M ⊥ (map plain_formula formulas) stop → ClassStopsFor M ⊥ (all_guards rules) stop
      stops_all eq is laws stop h = stop_within (map plain_formula formulas) (all_guards rules) among_all M eq is laws ⊥ stop h

      pub tell_apart : (rows : List (SignRow V)) → SplitsInto M (signs_at holds formulas) rows → (values : List V) → values ≡ map (λ r. r.value) rows → TellApart M rules c values
      tell_apart rows split values is = record {
        kept = subst (All (λ v. M.keeps (label_of v))) (sym is) (all_to_map (λ v. M.keeps (label_of v)) (λ r. r.value) rows (λ k d low. (split.sound k d low).0));
        complete = λ l d.
            let (r, r_in, signs) = split.complete l d in
            let sound : IsRow M (signs_at holds formulas) r = All-contains (IsRow M (signs_at holds formulas)) rows r split.sound r_in in
            let same : truths holds (map plain_formula formulas) l ≡ truths holds (map plain_formula formulas) (label_of r.value) = sym (signs_of holds formulas l) ∙ sym signs ∙ sound.1 ∙ signs_of holds formulas (label_of r.value) in (
              r.value,
              subst (λ vs. Contains vs r.value) (sym is) (in_map (λ z. z.value) rows r r_in),
              λ rs at_rs q at_q own. each_in (Same holds l (label_of r.value)) (map plain_formula formulas) (same_truths holds l (label_of r.value) (map plain_formula formulas) same) q.guard ((are q.guard).1 (rs, at_rs, q, at_q, (own, refl))),
            );
      }

module _ {A V W : Type 0} {label_of : V → Label} {holds : A → Label → Bool} (M : Meaning label_of holds W) (formulas : List (code.Formula A)) where
  pub wide_stops : (w : W) → (IsChainOver M (atoms_in_each formulas) w × M.passes w) × (M.is_far w → HasUnkeptRow M (signs_at holds formulas)) → ClassStopsFor M ⊥ (map plain_formula formulas) (Wide w)
  wide_stops w h = (h.0, (λ far. (let (l, here, none) = h.1 far in (l, here, λ m kept alike. none m kept (signs_of holds formulas m ∙ alike ∙ sym (signs_of holds formulas l))))))

pub tell_more : {A V W G : Type 0} {label_of : V → Label} {holds : A → Label → Bool} (M : Meaning label_of holds W) (rules : List (List (PlainRule A))) (n : ℕ) (old new : List (Vec V G)) (v : Vec V G)
    → TellAllApart M rules n (lists_of old) → TellApart M rules n v.items → new ≡ old ++ v ∷ [] → TellAllApart M rules (n + 1) (lists_of new)
tell_more M rules n old new v are here put =
    let made : AreMade [] (TellApart M rules) (n + 1) (lists_of new) = lists_made (TellApart M rules) n old new v (record { many = are.many; each = are.each }) here put in
    record { many = made.many; each = made.each }

-- Labels that tell the guards of some rules apart.
use Rattle.std.proofs.Common.{ℕ, zero, suc, inl, inr, Some, ◌++◌, Vec, ◌≡◌, ◌<◌, Bool, true, false, IsTrue, List, [], ◌∷◌, get_or, length, map, Contains, All, refl, sym, ap, ap₂, subst, ◌∙◌, arith}
use Rattle.std.specs.Prelude.{IsPermutation}
use Rattle.std.specs.Cmp.{IsEquivalence}
use Rattle.std.proofs.lemmas.List.{get_or-map, length-map, length_push}
use Rattle.std.proofs.lemmas.List.Elements.{All-contains, All-nil, All-push, All-pop, Contains-push, Contains-push_cases}
use Rattle.std.proofs.lemmas.List.Sorted.{Contains-permutation}
use Rattle.std.proofs.lemmas.Simd.{map-map}
use Rattle.model_tree.specs.Label.{Label}
use Rattle.model_tree.specs.Formula.{Formula, formula_holds, EveryAtom, formulas_of, all_of}
use Rattle.model_sta.specs.Sets.{Row, Each}
use Rattle.model_sta.proofs.Reached.{same_default}
use Rattle.label_core.specs.Atoms.{has_equal, EachHasEqual}
use Rattle.label_core.specs.Formula.{plain_formula}
use Rattle.label_core.specs.declared.formula.Formula as code
use Rattle.label_core.specs.Meaning.{Meaning, IsChainOver}
use Rattle.label_core.proofs.Chains.{chain_grows}
use Rattle.label_split.specs.Signs.{signs_at, atoms_in_each, FormulasFit}
use Rattle.label_split.specs.Split.{IsRow, SplitsInto, HasUnkeptRow}
use Rattle.label_split.specs.declared.rows.SignRow.{SignRow}
use Rattle.label_split.proofs.SameAtoms.{all_atoms}
use Rattle.sta_core.specs.Machine.{PlainRule, plain_rule}
use Rattle.sta_core.specs.declared.StaRule.{StaRule}
use Rattle.sta_core.proofs.Meaning.{All_from_map}
use Rattle.sta_classes.specs.Applying.{plain_owned, truth_at, chosen, guards_in, AreOwned}
use Rattle.sta_classes.specs.Bits.{both}
use Rattle.sta_classes.specs.Guards.{all_guards, atoms_of_all, truths, GuardsFit}
use Rattle.sta_classes.specs.Rules.{plain_rules}
use Rattle.sta_classes.specs.Splits.{AreTelling, AreTold}
use Rattle.sta_classes.specs.Stop.{ClassStopsFor}
use Rattle.sta_classes.specs.declared.rules.Owned.{Owned}
use Rattle.sta_classes.specs.declared.splits.Told.{Told}
use Rattle.sta_classes.specs.declared.stop.ClassStop.{ClassStop}
use Rattle.sta_classes.specs.declared.stop.ClassStop.TheVariants.{Classes, Wide, Memory}
use Rattle.sta_classes.proofs.Applying.{element}
use Rattle.sta_classes.proofs.Atoms.{of_each_formula, guards_among}
use Rattle.sta_classes.proofs.Covered.{Same, same_truths, truths_same}
use Rattle.sta_classes.proofs.Kept.{each_split, each_fits}
use Rattle.sta_classes.proofs.Places.{old_at}
use Rattle.sta_theory.proofs.Lists.{in_map}
use Rattle.sta_classes.proofs.Rows.{each_all, all_each}

pub all_to_map : {X Y : Type 0} (P : Y → Type 0) (f : X → Y) (xs : List X) → All (λ x. P (f x)) xs → All P (map f xs)
all_to_map P f xs h k d low =
    let inside : k < length xs = omega (arith, low, length-map xs f) in
    let (x, at) = element xs k inside in
    subst P (sym (get_or-map f xs k x d inside)) (h k x inside)

each_chosen : {X : Type 0} (P : X → Type 0) (bs : List Bool) (xs : List X) → Each P xs → Each P (chosen bs xs)
each_chosen P [] xs h = tt
each_chosen P (b ∷ bs) [] h = tt
each_chosen P (true ∷ bs) (x ∷ xs) h = (h.0, each_chosen P bs xs h.1)
each_chosen P (false ∷ bs) (x ∷ xs) h = each_chosen P bs xs h.1

cons_eq : {X : Type 0} (x y : X) (xs ys : List X) → x ∷ xs ≡ y ∷ ys → (x ≡ y) × (xs ≡ ys)
cons_eq x y xs ys e = (cc, cc)

-- guards that are among others
module _ {A : Type 0} (gs hs : List (Formula A)) (among : (P : Formula A → Type 0) → Each P hs → Each P gs) where
  atoms_within : (eq : A → A → Bool) → IsEquivalence eq → EachHasEqual eq (atoms_of_all gs) (atoms_of_all hs)
  atoms_within eq laws =
      all_atoms (λ a. IsTrue (has_equal eq (atoms_of_all hs) a)) (all_of (formulas_of gs))
      (of_each_formula (λ a. IsTrue (has_equal eq (atoms_of_all hs) a)) gs (among (EveryAtom (λ a. IsTrue (has_equal eq (atoms_of_all hs) a))) (guards_among eq laws hs)))

  truths_within : (holds : A → Label → Bool) (l m : Label) → truths holds hs l ≡ truths holds hs m → truths holds gs l ≡ truths holds gs m
  truths_within holds l m e = truths_same holds l m gs (among (Same holds l m) (same_truths holds l m hs e))

  module _ {V W : Type 0} {label_of : V → Label} {holds : A → Label → Bool} (M : Meaning label_of holds W) (eq : A → A → Bool) (own : M.equal ≡ eq) (laws : IsEquivalence eq) where
    -- what stops for some guards stops for those that they are among
    pub stop_within : (many : Type 0) (stop : ClassStop W) → ClassStopsFor M ⊥ gs stop → ClassStopsFor M many hs stop
    stop_within many Classes h = absurd h
    stop_within many (Wide w) h = ((chain_grows M eq own laws (atoms_of_all gs) (atoms_of_all hs) w (atoms_within eq laws) h.0.0, h.0.1), (λ far. (let (l, here, none) = h.1 far in (l, here, λ m kept alike. none m kept (truths_within holds m l alike)))))
    stop_within many Memory h = h

-- the rules of a constructor are among all
module _ {A G : Type 0} (rules : List (Vec (StaRule A) G)) (c : ℕ) (list : List (Owned A)) (own : AreOwned rules c list) where
  guard_of_all : (P : Formula A → Type 0) (all : List (List (PlainRule A))) (rs : List (PlainRule A)) (r : PlainRule A) → Each P (all_guards all) → Contains all rs → Contains rs r → P r.guard
  guard_of_all P all rs r h rs_in r_in = at_all all rs_in h
    where
      in_state : (ps : List (PlainRule A)) (k : ℕ) → k < length ps → get_or ps k r ≡ r → Each P (map (λ z. z.guard) ps) → P r.guard
      in_state [] k low at e = absurd (omega arith)
      in_state (p ∷ ps) zero low at e = subst (λ z. P z.guard) at e.0
      in_state (p ∷ ps) (suc k) low at e = in_state ps k (omega arith) at e.1

      of_states : (states : List (List (PlainRule A))) (k : ℕ) → k < length states → get_or states k rs ≡ rs → Each P (all_guards states) → P r.guard
      of_states [] k low at e = absurd (omega arith)
      of_states (ps ∷ states) zero low at e = (let (i, i_low, i_at) = r_in in in_state rs i i_low i_at (subst (λ z. Each P (map (λ y. y.guard) z)) at (each_split P (map (λ z. z.guard) ps) (all_guards states) e).0))
      of_states (ps ∷ states) (suc k) low at e = of_states states k (omega arith) at (each_split P (map (λ z. z.guard) ps) (all_guards states) e).1

      at_all : (states : List (List (PlainRule A))) → Contains states rs → Each P (all_guards states) → P r.guard
      at_all states (k, low, at) e = of_states states k low at e

  pub guards_of_all : (P : Formula A → Type 0) → Each P (all_guards (plain_rules rules)) → Each P (guards_in list)
  guards_of_all P h = all_each P (guards_in list) (all_to_map P (λ x. (plain_rule x.rule.now).guard) list (λ k d low.
      let x = get_or list k d in
      let (s, s_low, v, at, r, r_in, (same, is)) = (own (plain_owned x)).0 (in_map plain_owned list x (k, low, same_default list k x d low)) in
      subst (λ z. P z.guard) (ap (λ p. p.1) is) (guard_of_all P (plain_rules rules) (map plain_rule v.items) (plain_rule r) h (in_map (λ z. map plain_rule z.items) rules v (s, s_low, at)) (in_map plain_rule v.items r r_in))))

  pub guards_fit : (F : A → Type 0) → GuardsFit F (plain_rules rules) → All (λ x. EveryAtom F (plain_rule x.rule.now).guard) list
  guards_fit F h = All_from_map (EveryAtom F) (λ x. (plain_rule x.rule.now).guard) list (each_all (EveryAtom F) (guards_in list) (guards_of_all (EveryAtom F) (each_fits F (plain_rules rules) h)))

module _ {A : Type 0} (list : List (Owned A)) (numbers : Row) (formulas : List (code.Formula A)) (same : map plain_formula formulas ≡ chosen numbers (guards_in list)) where
  pub formulas_fit : (F : A → Type 0) → All (λ x. EveryAtom F (plain_rule x.rule.now).guard) list → FormulasFit F formulas
  formulas_fit F h = All_from_map (EveryAtom F) plain_formula formulas (subst (All (EveryAtom F)) (sym same) (each_all (EveryAtom F) (chosen numbers (guards_in list)) (each_chosen (EveryAtom F) numbers (guards_in list) (all_each (EveryAtom F) (guards_in list) (all_to_map (EveryAtom F) (λ x. (plain_rule x.rule.now).guard) list h)))))

  signs_are : (holds : A → Label → Bool) (l : Label) → signs_at holds formulas l ≡ truths holds (chosen numbers (guards_in list)) l
  signs_are holds l = sym (map-map (λ g. formula_holds (λ a. holds a l) g) plain_formula formulas) ∙ ap (λ gs. truths holds gs l) same

  module _ {V W : Type 0} {label_of : V → Label} {holds : A → Label → Bool} (M : Meaning label_of holds W) where
    -- where no list of signs is found, the chain is one over the guards of all the rules
    pub wide_told : (eq : A → A → Bool) → M.equal ≡ eq → IsEquivalence eq → (w : W) → (IsChainOver M (atoms_in_each formulas) w × M.passes w) × (M.is_far w → HasUnkeptRow M (signs_at holds formulas)) → ClassStopsFor M ⊥ (guards_in list) (Wide w)
    wide_told eq is laws w h =
        stop_within (chosen numbers (guards_in list)) (guards_in list) (λ P e. each_chosen P numbers (guards_in list) e) M eq is laws ⊥ (Wide w)
        ((subst (λ gs. IsChainOver M (atoms_of_all gs) w) same h.0.0, h.0.1), (λ far. (let (l, here, none) = h.1 far in (l, here, λ m kept alike. none m kept (signs_are holds m ∙ alike ∙ sym (signs_are holds l))))))

    pub split_told : (rows : List (SignRow V)) → SplitsInto M (signs_at holds formulas) rows → SplitsInto M (truths holds (chosen numbers (guards_in list))) rows
    split_told rows h = subst (λ s. SplitsInto M s rows) (λ i l. signs_are holds l i) h

module _ {A : Type 0} (list : List (Owned A)) (numbers : Row) {V W : Type 0} {label_of : V → Label} {holds : A → Label → Bool} (M : Meaning label_of holds W) where
  one_row : (l m : Label) (bs : List Bool) (xs : List (Owned A)) → truths holds (chosen bs (guards_in xs)) l ≡ truths holds (chosen bs (guards_in xs)) m → both bs (map (truth_at holds l) xs) ≡ both bs (map (truth_at holds m) xs)
  one_row l m [] xs e = refl
  one_row l m (b ∷ bs) [] e = refl
  one_row l m (true ∷ bs) (x ∷ xs) e = let (a, d) = cons_eq _ _ _ _ e in ap₂ (λ y ys. y ∷ ys) a (one_row l m bs xs d)
  one_row l m (false ∷ bs) (x ∷ xs) e = ap (λ ys. false ∷ ys) (one_row l m bs xs e)

  -- the labels of all rows of signs of these guards tell them apart
  pub told_by : (rows : List (SignRow V)) → SplitsInto M (truths holds (chosen numbers (guards_in list))) rows → (told : List (Told V)) → AreTelling M list rows [] told → AreTold M list numbers told
  told_by rows split told all = record {
    kept = all.kept;
    held = all.held;
    complete = λ l d.
        let (r, r_in, signs) = split.complete l d in
        let sound = All-contains (IsRow M (truths holds (chosen numbers (guards_in list)))) rows r split.sound r_in in
        elim (all.each r r_in) [
          | inl left ↦ absurd (let none : left.0 < 0 = left.1 in omega (arith, none))
          | inr (t, t_in, t_is) ↦ (t, t_in, one_row l (label_of t.value) numbers list (sym signs ∙ sound.1 ∙ ap (λ v. truths holds (chosen numbers (guards_in list)) (label_of v)) (sym t_is)))
        ];
  }

-- rows of signs that are told one by one, from the last one on
module _ {A V W : Type 0} {label_of : V → Label} {holds : A → Label → Bool} (M : Meaning label_of holds W) (list : List (Owned A)) (rows : List (SignRow V)) where
  pub telling_first : (left : List (SignRow V)) → IsPermutation rows left → (told : List (Told V)) → told ≡ [] → AreTelling M list rows left told
  telling_first left same told none = record { kept = subst (All (λ t. M.keeps (label_of t.value))) (sym none) (All-nil (λ t. M.keeps (label_of t.value))); held = subst (All (λ t. t.holds ≡ map (truth_at holds (label_of t.value)) list)) (sym none) (All-nil (λ t. t.holds ≡ map (truth_at holds (label_of t.value)) list)); each = λ r r_in. inl (Contains-permutation rows left r same r_in) }

  pub telling_more : (left left' : List (SignRow V)) (r : SignRow V) (told told' : List (Told V)) (t : Told V) → left ≡ left' ++ r ∷ [] → told' ≡ told ++ t ∷ [] → (t.value ≡ r.value) × (t.holds ≡ map (truth_at holds (label_of t.value)) list)
      → M.keeps (label_of r.value) → AreTelling M list rows left told → AreTelling M list rows left' told'
  telling_more left left' r told told' t popped pushed is keeps h = record {
    kept = subst (All (λ t. M.keeps (label_of t.value))) (sym pushed) (All-push (λ t. M.keeps (label_of t.value)) told t h.kept (subst (λ v. M.keeps (label_of v)) (sym is.0) keeps));
    held = subst (All (λ t. t.holds ≡ map (truth_at holds (label_of t.value)) list)) (sym pushed) (All-push (λ t. t.holds ≡ map (truth_at holds (label_of t.value)) list) told t h.held is.1);
    each = λ s s_in. elim (h.each s s_in) [
      | inl there ↦ elim (Contains-push_cases left' r s (subst (λ l. Contains l s) popped there)) [
        | inl before ↦ inl before
        | inr same ↦ inr (t, subst (λ l. Contains l t) (sym pushed) (Contains-push told t), is.0 ∙ ap (λ z. z.value) same)
      ]
      | inr (u, u_in, u_is) ↦ inr (u, subst (λ l. Contains l u) (sym pushed) (in_longer told u t u_in), u_is)
    ];
  }
    where
      in_longer : (xs : List (Told V)) (x y : Told V) → Contains xs x → Contains (xs ++ y ∷ []) x
      in_longer xs x y (k, low, at) = (k, omega (arith, low, length_push xs y), old_at xs y x k low ∙ at)

  -- the last row
  pub last_row : (left left' : List (SignRow V)) (r : SignRow V) → left ≡ left' ++ r ∷ [] → All (λ r. M.keeps (label_of r.value)) left → All (λ r. M.keeps (label_of r.value)) left' × M.keeps (label_of r.value)
  last_row left left' r popped h = All-pop (λ r. M.keeps (label_of r.value)) left left' (Some r) popped h

-- Literals over texts, and the sides that say as much as their equalities.
use Rattle.std.proofs.Common.{◌≡◌, ◌≢◌, ◌+◌, ◌<◌, ℕ, zero, suc, Bool, true, false, not, ◌&&◌, List, [], ◌∷◌, length, take, get_or, All, refl, ap, sym, ◌∙◌, subst, arith}
use Rattle.std.specs.List.{list_any}
use Rattle.std.specs.Str.{bytes_eq}
use Rattle.std.proofs.lemmas.List.Elements.{All-nil, All-cons, All-head, All-tail, All-more, All-take}
use Rattle.std.proofs.lemmas.List.Folds.{Any-from_list_any, list_any_at}
use Rattle.std.proofs.lemmas.Slice.Eq.{bytes_eq-Decides}
use Rattle.std.proofs.Math.Numerals.{add-one}
use Rattle.model_tree.specs.Label.{Label}
use Rattle.label_core.specs.Lit.{SatisfiesAll, LitsFit}
use Rattle.label_core.specs.declared.theory.Lit.{Lit}
use Rattle.flat_label.specs.declared.texts.TextSide.{TextSide}
use Rattle.flat_label.specs.declared.texts.TextSide.TheVariants.{Field}
use Rattle.flat_label.specs.declared.texts.TextAtom.{TextAtom}
use Rattle.flat_label.specs.Texts.{side_text, are_one_text, texts_label, SidesFit, IsTexts, same_side, one_side, same_as_itself}
use Rattle.flat_label.specs.Sides.{EqualitiesHold, Follows, stands_for, StandsForItself, IsAmong, AreAmong, AreSides, Join, is_refused, AreValues}
use Rattle.flat_label.proofs.SideFacts.{stand_text, stand_root, stand_among}

-- what holds of the first and one more holds of the first, and of that one
all_front : {X : Type 0} (P : X → Type 0) (xs : List X) (i : ℕ) (d : X) → i < length xs → All P (take (suc i) xs) → All P (take i xs) × P (get_or xs i d)
all_front P [] i d low h = absurd (omega arith)
all_front P (x ∷ xs) zero d low h = (All-nil P, All-head P x [] h)
all_front P (x ∷ xs) (suc i) d low h =
    let rest = all_front P xs i d (omega arith) (All-tail P x (take (suc i) xs) h) in (All-cons P x (take i xs) (All-head P x (take (suc i) xs) h) rest.0, rest.1)

pub front : {X : Type 0} (P : X → Type 0) (xs : List X) (i : ℕ) (d : X) → i < length xs → All P (take (i + 1) xs) → All P (take i xs) × P (get_or xs i d)
front P xs i d low h = all_front P xs i d low (rw add-one at h)

denied : (b c : Bool) → (not b && c) ≡ true → b ≡ false
denied true c h = cc
denied false c h = refl

stands : (b c : Bool) → (not b && c) ≡ true → c ≡ true
stands true c h = cc
stands false c h = h

refused_from : (b : Bool) (s t : TextSide) → b ≡ false → s ≡ t → (not b && same_side s t) ≡ true
refused_from true s t e f = cc
refused_from false s t e f = subst (λ u. same_side s u ≡ true) f (same_as_itself s)

differ_if : (s t : List ℕ) (b : Bool) → bytes_eq s t ≡ b → s ≢ t → b ≡ false
differ_if s t true e apart = absurd (apart ((bytes_eq-Decides s t).0 e))
differ_if s t false e apart = refl

differ : (s t : List ℕ) → s ≢ t → bytes_eq s t ≡ false
differ s t apart = differ_if s t (bytes_eq s t) refl apart

module _ (fields : ℕ) (literals : List (Lit TextAtom)) (i : ℕ) (x : Lit TextAtom) (low : i < length literals) (at : x ≡ get_or literals i x) where
  equality_of : (l : Label) → EqualitiesHold (take (i + 1) literals) l → EqualitiesHold (take i literals) l × (x.sign ≡ true → are_one_text x.atom l ≡ true)
  equality_of l h =
      let parts = front (λ y. y.sign ≡ true → are_one_text y.atom l ≡ true) literals i x low h in
      (parts.0, subst (λ y. y.sign ≡ true → are_one_text y.atom l ≡ true) (sym at) parts.1)

  equalities_more : (l : Label) → EqualitiesHold (take i literals) l → (x.sign ≡ true → are_one_text x.atom l ≡ true) → EqualitiesHold (take (i + 1) literals) l
  equalities_more l h here =
      All-more (λ y. y.sign ≡ true → are_one_text y.atom l ≡ true) literals i x low h (subst (λ y. y.sign ≡ true → are_one_text y.atom l ≡ true) at here)

  among_of : (constants : List (List ℕ)) → All (λ y. AreAmong constants y.atom) (take (i + 1) literals) → All (λ y. AreAmong constants y.atom) (take i literals) × AreAmong constants x.atom
  among_of constants h =
      let parts = front (λ y. AreAmong constants y.atom) literals i x low h in (parts.0, subst (λ y. AreAmong constants y.atom) (sym at) parts.1)

  -- a literal that is no equality changes nothing
  pub kept_sides : (sides : List TextSide) → x.sign ≡ false → AreSides fields (take i literals) sides → AreSides fields (take (i + 1) literals) sides
  kept_sides sides denied are = record {
    many = are.many;
    needed = λ l h. are.needed l (equality_of l h).0;
    enough = λ l follows. equalities_more l (are.enough l follows) (λ yes. let no : false ≡ true = sym denied ∙ yes in cc);
    rooted = are.rooted;
    among = λ constants h. are.among constants (among_of constants h).0;
  }

  -- an equality joins its sides
  pub joined_sides : (old new : List TextSide) → x.sign ≡ true → AreSides fields (take i literals) old → Join x.atom.left x.atom.right old new → AreSides fields (take (i + 1) literals) new
  joined_sides old new stated are join = record {
    many = join.many ∙ are.many;
    needed = λ l h.
        let parts = equality_of l h in
        join.needed l (are.needed l parts.0) ((bytes_eq-Decides (side_text x.atom.left l) (side_text x.atom.right l)).0 (parts.1 stated));
    enough = λ l follows.
        let parts = join.enough l follows in
        equalities_more l (are.enough l parts.0) (λ _. (bytes_eq-Decides (side_text x.atom.left l) (side_text x.atom.right l)).1 parts.1);
    rooted = join.rooted;
    among = λ constants h. let parts = among_of constants h in join.among constants parts.1.0 parts.1.1 (are.among constants parts.0);
  }

  -- no label has the equalities where none that has the earlier ones has this one
  pub none_joined : (old : List TextSide) → x.sign ≡ true → AreSides fields (take i literals) old → ((l : Label) → Follows old l → side_text x.atom.left l ≢ side_text x.atom.right l) → (l : Label) → ¬ (EqualitiesHold literals l)
  none_joined old stated are none l h =
      let before : EqualitiesHold (take i literals) l = All-take (λ y. y.sign ≡ true → are_one_text y.atom l ≡ true) i literals h in
      let here : x.sign ≡ true → are_one_text x.atom l ≡ true = subst (λ y. y.sign ≡ true → are_one_text y.atom l ≡ true) (sym at) (h i x low) in
      none l (are.needed l before) ((bytes_eq-Decides (side_text x.atom.left l) (side_text x.atom.right l)).0 (here stated))

-- before any literal each field stands for itself
pub own_are_sides : (fields : ℕ) (sides : List TextSide) → length sides ≡ fields → ((k : ℕ) (d : TextSide) → k < fields → get_or sides k d ≡ Field k) → AreSides fields [] sides
own_are_sides fields sides many own = record {
  many = many;
  needed = λ l h k d low. ap (λ s. side_text s l) (sym (own k d (subst (λ n. k < n) many low)));
  enough = λ l follows. All-nil (λ y. y.sign ≡ true → are_one_text y.atom l ≡ true);
  rooted = λ k d low. let within : k < fields = subst (λ n. k < n) many low in subst (StandsForItself sides) (sym (own k d within)) (low, λ e. own k e within);
  among = λ constants h k d low. subst (IsAmong constants) (sym (own k d (subst (λ n. k < n) many low))) tt;
}

module _ (fields : ℕ) (literals : List (Lit TextAtom)) (fit : LitsFit (SidesFit fields) literals) where
  has_equalities : (l : Label) → SatisfiesAll are_one_text literals l → EqualitiesHold literals l
  has_equalities l all k d low = λ stated. all k d low ∙ stated

  pub none_without : ((l : Label) → ¬ (EqualitiesHold literals l)) → (l : Label) → IsTexts fields l → ¬ (SatisfiesAll are_one_text literals l)
  none_without none l is all = none l (has_equalities l all)

  module _ (sides : List TextSide) (are : AreSides fields literals sides) where
    fits_sides : (k : ℕ) (d : Lit TextAtom) → k < length literals → SidesFit (length sides) (get_or literals k d).atom
    fits_sides k d low = subst (λ n. SidesFit n (get_or literals k d).atom) (sym are.many) (fit k d low)

    refused_parts : (x : Lit TextAtom) → is_refused sides x ≡ true → (x.sign ≡ false) × (stands_for sides x.atom.left ≡ stands_for sides x.atom.right)
    refused_parts x h = (denied x.sign _ h, one_side (stands_for sides x.atom.left) (stands_for sides x.atom.right) (stands x.sign _ h))

    -- no label has all the equalities and denies one that they say
    pub none_refused : list_any (is_refused sides) literals ≡ true → (l : Label) → IsTexts fields l → ¬ (SatisfiesAll are_one_text literals l)
    none_refused some l is all =
        let (k, x, low, at, refused) = Any-from_list_any (is_refused sides) literals some in
        let parts = refused_parts x refused in
        let fits : SidesFit (length sides) x.atom = subst (λ y. SidesFit (length sides) y.atom) at (fits_sides k x low) in
        let follows = are.needed l (has_equalities l all) in
        let one = stand_text sides l x.atom.left follows fits.0 ∙ ap (λ s. side_text s l) parts.1 ∙ sym (stand_text sides l x.atom.right follows fits.1) in
        let holds : are_one_text x.atom l ≡ true = (bytes_eq-Decides (side_text x.atom.left l) (side_text x.atom.right l)).1 one in
        let denies : are_one_text x.atom l ≡ x.sign = subst (λ (y : Lit TextAtom). are_one_text y.atom l ≡ y.sign) at (all k x low) in
        let no : true ≡ false = sym holds ∙ denies ∙ parts.0 in cc

    not_refused : (x : Lit TextAtom) → x.sign ≡ false → is_refused sides x ≡ false → stands_for sides x.atom.left ≢ stands_for sides x.atom.right
    not_refused x sign kept same = let no : true ≡ false = sym (refused_from x.sign (stands_for sides x.atom.left) (stands_for sides x.atom.right) sign same) ∙ kept in cc

    module _ (constants texts : List (List ℕ)) (none : list_any (is_refused sides) literals ≡ false) (among : All (λ x. AreAmong constants x.atom) literals) (values : AreValues sides constants texts) where
      kept_at_if : (k : ℕ) (d : Lit TextAtom) (b : Bool) → k < length literals → is_refused sides (get_or literals k d) ≡ b → b ≡ false
      kept_at_if k d true low h = let no : true ≡ false = sym (list_any_at (is_refused sides) literals k d low h) ∙ none in cc
      kept_at_if k d false low h = refl

      apart_at : (k : ℕ) (d : Lit TextAtom) → k < length literals → (get_or literals k d).sign ≡ false → side_text (get_or literals k d).atom.left (texts_label texts) ≢ side_text (get_or literals k d).atom.right (texts_label texts)
      apart_at k d low sign same =
          let x : Lit TextAtom = get_or literals k d in
          let fits : SidesFit (length sides) x.atom = fits_sides k d low in
          let known : AreAmong constants x.atom = among k d low in
          let all : All (IsAmong constants) sides = are.among constants among in
          values.apart (stands_for sides x.atom.left) (stands_for sides x.atom.right)
          (stand_root sides x.atom.left are.rooted fits.0) (stand_root sides x.atom.right are.rooted fits.1)
          (stand_among sides constants x.atom.left all known.0 fits.0) (stand_among sides constants x.atom.right all known.1 fits.1)
          (not_refused x sign (kept_at_if k d (is_refused sides x) low refl))
          (sym (stand_text sides (texts_label texts) x.atom.left values.follow fits.0) ∙ same ∙ stand_text sides (texts_label texts) x.atom.right values.follow fits.1)

      holds_if : (k : ℕ) (d : Lit TextAtom) (b : Bool) → k < length literals → (get_or literals k d).sign ≡ b → are_one_text (get_or literals k d).atom (texts_label texts) ≡ b
      holds_if k d true low sign = are.enough (texts_label texts) values.follow k d low sign
      holds_if k d false low sign = differ (side_text (get_or literals k d).atom.left (texts_label texts)) (side_text (get_or literals k d).atom.right (texts_label texts)) (apart_at k d low sign)

      -- values that differ wherever they may satisfy all
      pub values_satisfy : SatisfiesAll are_one_text literals (texts_label texts)
      values_satisfy k d low = holds_if k d (get_or literals k d).sign low refl

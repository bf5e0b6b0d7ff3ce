-- The steps by which a map's entries are put for fields.
use Rattle.std.proofs.Common.{◌≡◌, ℕ, zero, suc, ◌+◌, ◌<◌, ◌≤◌, ◌⊎◌, inl, inr, ◌++◌, List, [], ◌∷◌, map, take, drop, length, get_or, append_assoc, slice_index_or, None, Bool, true, false, Result, MatchResult, Vec, Global, refl, ap, sym, ◌∙◌, subst, arith}
use Rattle.std.proofs.Math.IntN.{ℤ}
use Rattle.std.proofs.lemmas.List.{take_more, take_all, map-append}
use Rattle.model_tree.specs.Formula.{Formula, formulas_of, formula, all_of, some_of}
use Rattle.std.specs.List.{slice_get}
use Rattle.label_core.specs.Formula.{plain_formula}
use Rattle.label_core.specs.declared.formula.Formula.{Formula as Written}
use Rattle.label_core.specs.declared.formula.Formula.TheVariants.{And, Or}
use Rattle.label_core.proofs.Formulas.{plain_and, plain_or}
use Rattle.lin_form.specs.declared.stop.FormStop.{FormStop}
use Rattle.lin_form.specs.Stops.{StopsAt}
use Rattle.record_label.specs.Rows.{RowAtom}
use Rattle.record_label.specs.Guards.{joined_of}
use Rattle.model_form.specs.Form.{Form}
use Rattle.record_label.specs.declared.maps.RowEntry.{RowEntry}
use Rattle.record_label.specs.declared.maps.RowEntry.TheVariants.{Number, Truth, Text}
use Rattle.record_label.specs.PlainMaps.{plain_entry}
use Rattle.record_label.proofs.Looking.{one_there, none_there}
use Rattle.flat_label.specs.declared.texts.TextSide.{TextSide}
use Rattle.record_label.specs.Maps.{Entry, forms_of, formulas_in, sides_in, put_formula, put_formulas, IsOutsideOf, IsOutsideOfSome, SomeOutside}
use Rattle.record_label.proofs.FormFacts.{passed}

-- ---- one by one

module _ {W X : Type 0} (view : W → X) (put : X → X) (outside : X → ℤ → Type 0) where
  -- these are made of those, for none of which a number is outside
  abbrev pub Done : List W → List W → Type 0
  Done made front = (map view made ≡ map put (map view front)) × ((n : ℤ) → SomeOutside outside (map view front) n → ⊥)

  some_of_two : (xs ys : List X) (n : ℤ) → SomeOutside outside (xs ++ ys) n → SomeOutside outside xs n ⊎ SomeOutside outside ys n
  some_of_two [] ys n o = inr o
  some_of_two (x ∷ xs) ys n (inl o) = inl (inl o)
  some_of_two (x ∷ xs) ys n (inr o) = later (some_of_two xs ys n o)
    where
      later : SomeOutside outside xs n ⊎ SomeOutside outside ys n → SomeOutside outside (x ∷ xs) n ⊎ SomeOutside outside ys n
      later (inl o) = inl (inr o)
      later (inr o) = inr o

  pub done_more : (xs : List W) (i : ℕ) (x : W) (made now : List W) (y : W) → i < length xs → x ≡ get_or xs i x → now ≡ made ++ y ∷ [] → (view y ≡ put (view x)) × ((n : ℤ) → outside (view x) n → ⊥) → Done made (take i xs) → Done now (take (i + 1) xs)
  done_more xs i x made now y l is pushed here before =
      let front : map view (take (i + 1) xs) ≡ map view (take i xs) ++ view x ∷ [] = ap (map view) (take_more xs i x l ∙ ap (λ z. take i xs ++ z ∷ []) (sym is)) ∙ map-append view (take i xs) (x ∷ []) in
      let all : map view now ≡ map view made ++ view y ∷ [] = ap (map view) pushed ∙ map-append view made (y ∷ []) in
      let none : (n : ℤ) → SomeOutside outside (map view (take i xs)) n ⊎ SomeOutside outside (view x ∷ []) n → ⊥ = λ n. elim_or n in
      (all ∙ (λ j. before.0 j ++ here.0 j ∷ []) ∙ sym (ap (map put) front ∙ map-append put (map view (take i xs)) (view x ∷ [])), λ n o. none n (some_of_two (map view (take i xs)) (view x ∷ []) n (subst (λ ys. SomeOutside outside ys n) front o)))
    where
      elim_or : (n : ℤ) → SomeOutside outside (map view (take i xs)) n ⊎ SomeOutside outside (view x ∷ []) n → ⊥
      elim_or n (inl o) = before.1 n o
      elim_or n (inr (inl o)) = here.1 n o
      elim_or n (inr (inr o)) = absurd o

  outside_at : (xs : List W) (i : ℕ) (d : W) (n : ℤ) → i < length xs → outside (view (get_or xs i d)) n → SomeOutside outside (map view xs) n
  outside_at [] i d n l o = absurd (omega (arith, l))
  outside_at (x ∷ xs) zero d n l o = inl o
  outside_at (x ∷ xs) (suc i) d n l o = inr (outside_at xs i d n (omega (arith, l)) o)

  pub outside_here : (xs : List W) (i : ℕ) (x : W) → i < length xs → x ≡ get_or xs i x → (n : ℤ) → outside (view x) n → SomeOutside outside (map view xs) n
  outside_here xs i x l is n o = outside_at xs i x n l (subst (λ y. outside (view y) n) is o)

  pub done_all : (xs : List W) (i : ℕ) (made : List W) → length xs ≤ i → Done made (take i xs) → Done made xs
  done_all xs i made h done = subst (Done made) (take_all i xs h) done

-- ---- the parts of a formula as a list

module _ (entries : List Entry) where
  pub put_parts : (fs : List (Formula RowAtom)) → put_formulas entries (formulas_of fs) ≡ formulas_of (map (put_formula entries) fs)
  put_parts [] = refl
  put_parts (f ∷ fs) = ap (formula (put_formula entries f)) (put_parts fs)

  pub outside_parts : (fs : List (Formula RowAtom)) (n : ℤ) → IsOutsideOfSome entries (formulas_of fs) n ≡ SomeOutside (IsOutsideOf entries) fs n
  outside_parts [] n = refl
  outside_parts (f ∷ fs) n = ap (λ P. IsOutsideOf entries f n ⊎ P) (outside_parts fs n)

-- ---- formulas that are matched

module _ (entries : List Entry) (f : Written RowAtom) (v : Vec (Written RowAtom) Global) (now : List (Written RowAtom)) (now_is : now ≡ v.items) where
  abbrev SomePart : ℤ → Type 0
  SomePart = SomeOutside (IsOutsideOf entries) (map plain_formula now)

  abbrev IsMadeFrom : Bool → Written RowAtom → Type 0
  IsMadeFrom every result = (plain_formula result ≡ joined_of every (map (put_formula entries) (map plain_formula now))) × ((n : ℤ) → SomePart n → ⊥)

  abbrev IsMadeOf : Written RowAtom → Type 0
  IsMadeOf result = (plain_formula result ≡ put_formula entries (plain_formula f)) × ((n : ℤ) → IsOutsideOf entries (plain_formula f) n → ⊥)

  module _ (r : Result (Written RowAtom) FormStop) where
    pub put_all : f ≡ And v → MatchResult r (IsMadeFrom true) (StopsAt SomePart) → MatchResult r IsMadeOf (StopsAt (IsOutsideOf entries (plain_formula f)))
    put_all is = passed r (IsMadeFrom true) IsMadeOf SomePart (IsOutsideOf entries (plain_formula f))
        (λ result made. (made.0 ∙ ap all_of (sym (put_parts entries (map plain_formula now))) ∙ sym (ap (put_formula entries) plain_is), λ n o. made.1 n (subst (λ P. P) (outside_parts entries (map plain_formula now) n) (subst (λ g. IsOutsideOf entries g n) plain_is o))))
        (λ n o. subst (λ g. IsOutsideOf entries g n) (sym plain_is) (subst (λ P. P) (sym (outside_parts entries (map plain_formula now) n)) o))
      where
        plain_is : plain_formula f ≡ all_of (formulas_of (map plain_formula now))
        plain_is = ap plain_formula is ∙ plain_and v ∙ ap (λ fs. all_of (formulas_of (map plain_formula fs))) (sym now_is)

    pub put_some : f ≡ Or v → MatchResult r (IsMadeFrom false) (StopsAt SomePart) → MatchResult r IsMadeOf (StopsAt (IsOutsideOf entries (plain_formula f)))
    put_some is = passed r (IsMadeFrom false) IsMadeOf SomePart (IsOutsideOf entries (plain_formula f))
        (λ result made. (made.0 ∙ ap some_of (sym (put_parts entries (map plain_formula now))) ∙ sym (ap (put_formula entries) plain_is), λ n o. made.1 n (subst (λ P. P) (outside_parts entries (map plain_formula now) n) (subst (λ g. IsOutsideOf entries g n) plain_is o))))
        (λ n o. subst (λ g. IsOutsideOf entries g n) (sym plain_is) (subst (λ P. P) (sym (outside_parts entries (map plain_formula now) n)) o))
      where
        plain_is : plain_formula f ≡ some_of (formulas_of (map plain_formula now))
        plain_is = ap plain_formula is ∙ plain_or v ∙ ap (λ fs. some_of (formulas_of (map plain_formula fs))) (sym now_is)

-- where there is nothing
pub nothing_at : {X : Type 0} (xs : List X) (k : ℕ) (d : X) → None ≡ slice_get xs k → d ≡ slice_index_or xs k d
nothing_at [] k d e = refl
nothing_at (x ∷ xs) zero d e = cc
nothing_at (x ∷ xs) (suc k) d e = nothing_at xs k d e

-- the forms up to an entry, and of one entry more
module _ (es : List RowEntry) (i : ℕ) (e : RowEntry) (low : i < length es) (is : e ≡ get_or es i e) (made now all : List Form) where
  pub forms_more : (f : Form) → e ≡ Number f → now ≡ made ++ f ∷ [] → made ++ forms_of (map plain_entry (drop i es)) ≡ all → now ++ forms_of (map plain_entry (drop (i + 1) es)) ≡ all
  forms_more f kind pushed before =
      ap (λ fs. fs ++ forms_of (map plain_entry (drop (i + 1) es))) pushed
      ∙ append_assoc made (f ∷ []) (forms_of (map plain_entry (drop (i + 1) es)))
      ∙ sym (ap (λ fs. made ++ fs) (one_there (λ xs. forms_of (map plain_entry xs)) es i e low is f (λ rest. ap (λ x. forms_of (map plain_entry (x ∷ rest))) kind)))
      ∙ before

  pub forms_same : ((f : Form) → e ≡ Number f → ⊥) → now ≡ made → made ++ forms_of (map plain_entry (drop i es)) ≡ all → now ++ forms_of (map plain_entry (drop (i + 1) es)) ≡ all
  forms_same other kept before =
      ap (λ fs. fs ++ forms_of (map plain_entry (drop (i + 1) es))) kept
      ∙ sym (ap (λ fs. made ++ fs) (none_there (λ xs. forms_of (map plain_entry xs)) es i e low is (λ rest. no_form e rest other)))
      ∙ before
    where
      no_form : (x : RowEntry) (rest : List RowEntry) → ((f : Form) → x ≡ Number f → ⊥) → forms_of (map plain_entry (x ∷ rest)) ≡ forms_of (map plain_entry rest)
      no_form (Number f) rest other = absurd (other f refl)
      no_form (Truth f) rest other = refl
      no_form (Text s) rest other = refl

pub no_formula : (x : RowEntry) (rest : List RowEntry) → ((f : Written RowAtom) → x ≡ Truth f → ⊥) → formulas_in (map plain_entry (x ∷ rest)) ≡ formulas_in (map plain_entry rest)
no_formula (Number f) rest other = refl
no_formula (Truth f) rest other = absurd (other f refl)
no_formula (Text s) rest other = refl

pub no_side : (x : RowEntry) (rest : List RowEntry) → ((s : TextSide) → x ≡ Text s → ⊥) → sides_in (map plain_entry (x ∷ rest)) ≡ sides_in (map plain_entry rest)
no_side (Number f) rest other = refl
no_side (Truth f) rest other = refl
no_side (Text s) rest other = absurd (other s refl)

-- Facts on lists of rows of signs.
use Rattle.std.proofs.Common.{◌≡◌, ◌⊎◌, inl, inr, Bool, true, false, not, List, [], ◌∷◌, ◌++◌, map, length, get_or, All, Contains, ℕ, zero, suc, ◌<◌, ◌≤◌, ◌+◌, ◌-◌, take, refl, sym, ap, ◌∙◌, subst, append_assoc, Option, Some, None, MatchOption, Result, Ok, Err, IfOk, IfErr, OnOk, MatchResult, cond, arith, Vec, Global}
use Rattle.std.specs.List.{AllPairs}
use Rattle.std.specs.Result.{IsErrAnd}
use Rattle.std.proofs.lemmas.List.{length-append, length-map, length-take, map-append}
use Rattle.std.proofs.lemmas.List.Elements.{All-nil, All-cons, All-append, All-map, Contains-append_left, Contains-append_right, Contains-append_cases}
use Rattle.std.proofs.lemmas.List.Quantifiers.{all_pairs_push}
use Rattle.std.proofs.lemmas.List.Kept.{AllPairs-cons}
use Rattle.model_tree.specs.Label.{Label}
use Rattle.label_core.specs.Meaning.{Meaning, IsChainOver}
use Rattle.label_split.specs.declared.rows.SignRow.{SignRow}
use Rattle.label_split.specs.declared.rows.SplitStop.{SplitStop}
use Rattle.label_split.specs.declared.rows.SplitStop.TheVariants.{TooMany, Wide, Memory}
use Rattle.label_split.specs.declared.rows.Noted.{Noted}
use Rattle.label_split.specs.declared.rows.Sample.{Sample}
use Rattle.label_split.specs.declared.rows.Sample.TheVariants.{Nowhere, At as Sampled}
use Rattle.label_core.specs.declared.formula.Formula.{Formula}
use Rattle.label_core.specs.Verdict.{DecidesAll}
use Rattle.label_core.specs.declared.theory.Verdict.{Verdict}
use Rattle.label_core.specs.declared.theory.Verdict.TheVariants as Verdicts
use Rattle.label_core.specs.declared.theory.Verdict.TheVariants.{Unsat}
use Rattle.label_split.specs.Numbers.{number_holds}
use Rattle.label_split.specs.Search.{DecidesSigns}
use Rattle.label_split.specs.Signs.{signs_at}
use Rattle.label_split.specs.Noted.{rows_of, AreAdded, AreStarted, IsFoundBy, IsPassedOn, IsSample, IsStopOf}
use Rattle.label_split.specs.Split.{IsRow, Stops, SplitsInto, HasMoreRows, HasUnkeptRow, AreLonger, Extends, IsPartly}

-- the last of a list, and what comes before it
all_front : {X : Type 0} (P : X → Type 0) (xs : List X) (x : X) → All P (xs ++ x ∷ []) → All P xs × P x
all_front P [] x h = (All-nil P, h 0 x (omega arith))
all_front P (y ∷ ys) x h =
    let rest = all_front P ys x (λ k d b. h (suc k) d (omega (arith, b))) in
    (All-cons P y ys (h 0 y (omega arith)) rest.0, rest.1)

all_first : {X : Type 0} (P : X → Type 0) (x : X) → P x → All P (x ∷ [])
all_first P x h = All-cons P x [] h (All-nil P)

first_of : {X : Type 0} (x : X) (xs : List X) → Contains (x ∷ xs) x
first_of x xs = (0, omega arith, refl)

differ_by_last : (s t : List Bool) (a b : Bool) → ¬ (s ≡ t) → ¬ (s ++ a ∷ [] ≡ t ++ b ∷ [])
differ_by_last [] [] a b n e = n refl
differ_by_last [] (y ∷ []) a b n e = cc
differ_by_last [] (y ∷ (z ∷ ys)) a b n e = cc
differ_by_last (x ∷ []) [] a b n e = cc
differ_by_last (x ∷ (z ∷ xs)) [] a b n e = cc
differ_by_last (x ∷ xs) (y ∷ ys) a b n e =
    let head : x ≡ y = cc in
    let tail : xs ++ a ∷ [] ≡ ys ++ b ∷ [] = cc in
    differ_by_last xs ys a b (λ same. n (λ i. head i ∷ same i)) tail

same_last : (s t : List Bool) (a b : Bool) → s ++ a ∷ [] ≡ t ++ b ∷ [] → a ≡ b
same_last [] [] a b e = cc
same_last [] (y ∷ []) a b e = cc
same_last [] (y ∷ (z ∷ ys)) a b e = cc
same_last (x ∷ []) [] a b e = cc
same_last (x ∷ (z ∷ xs)) [] a b e = cc
same_last (x ∷ xs) (y ∷ ys) a b e = let tail : xs ++ a ∷ [] ≡ ys ++ b ∷ [] = cc in same_last xs ys a b tail

not_same : (b : Bool) → ¬ (b ≡ not b)
not_same true e = cc
not_same false e = cc

one_or_other : (a b : Bool) → (a ≡ b) ⊎ (a ≡ not b)
one_or_other true true = inl refl
one_or_other true false = inr refl
one_or_other false true = inr refl
one_or_other false false = inl refl

module _ {A V W : Type 0} {label_of : V → Label} {holds : A → Label → Bool} (M : Meaning label_of holds W) (before after : Label → List Bool) (last : Label → Bool) (more : (l : Label) → after l ≡ before l ++ last l ∷ []) where
  module _ (row kept : SignRow V) (b : Bool) (sound : IsRow M before row) (value_is : label_of kept.value ≡ label_of row.value) (b_is : b ≡ last (label_of row.value)) (signs_are : kept.signs.items ≡ row.signs.items ++ b ∷ []) where
    pub kept_sound : IsRow M after kept
    kept_sound = (subst M.keeps (sym value_is) sound.0, signs_are ∙ (λ i. sound.1 i ++ b_is i ∷ []) ∙ sym (more (label_of row.value)) ∙ ap after (sym value_is))

    -- a label whose row begins so has one of the two signs at the end
    at_end : (l : Label) → row.signs.items ≡ before l → (last l ≡ b) ⊎ (last l ≡ not b) → (kept.signs.items ≡ after l) ⊎ (after l ≡ row.signs.items ++ not b ∷ [])
    at_end l e (inl s) = inl (signs_are ∙ (λ i. e i ++ sym s i ∷ []) ∙ sym (more l))
    at_end l e (inr s) = inr (more l ∙ (λ i. sym e i ++ s i ∷ []))

    only_kept : (l : Label) → ¬ (after l ≡ row.signs.items ++ not b ∷ []) → (kept.signs.items ≡ after l) ⊎ (after l ≡ row.signs.items ++ not b ∷ []) → (r : SignRow V) × Contains (kept ∷ []) r × (r.signs.items ≡ after l)
    only_kept l none (inl e) = (kept, first_of kept [], e)
    only_kept l none (inr e) = absurd (none e)

    -- the row with the sign of its value, where no label has the other
    pub longer_alone : ((l : Label) → M.has l → ¬ (after l ≡ row.signs.items ++ not b ∷ [])) → AreLonger M before after row (kept ∷ [])
    longer_alone none = record {
      sound = all_first (IsRow M after) kept kept_sound;
      complete = λ l h e. only_kept l (none l h) (at_end l e (one_or_other (last l) b));
      apart = λ i j d less low. absurd (omega arith);
      begin = all_first (λ r. (b : Bool) × (r.signs.items ≡ row.signs.items ++ b ∷ [])) kept (b, signs_are);
    }

    either_kept : (other : SignRow V) (l : Label) → other.signs.items ≡ row.signs.items ++ not b ∷ [] → (kept.signs.items ≡ after l) ⊎ (after l ≡ row.signs.items ++ not b ∷ []) → (r : SignRow V) × Contains (other ∷ kept ∷ []) r × (r.signs.items ≡ after l)
    either_kept other l is (inl e) = (kept, (1, omega arith, refl), e)
    either_kept other l is (inr e) = (other, first_of other (kept ∷ []), is ∙ sym e)

    -- with one of the other sign
    pub longer_both : (other : SignRow V) → IsRow M after other → other.signs.items ≡ row.signs.items ++ not b ∷ [] → AreLonger M before after row (other ∷ kept ∷ [])
    longer_both other holds is = record {
      sound = All-cons (IsRow M after) other (kept ∷ []) holds (all_first (IsRow M after) kept kept_sound);
      complete = λ l h e. either_kept other l is (at_end l e (one_or_other (last l) b));
      apart = all_pairs_push (λ q r. ¬ (q.signs.items ≡ r.signs.items)) (other ∷ []) kept (λ i j d less low. absurd (omega arith))
          (all_first (λ q. ¬ (q.signs.items ≡ kept.signs.items)) other (λ e. not_same b (sym (same_last row.signs.items row.signs.items (not b) b (sym is ∙ e ∙ signs_are)))));
      begin = All-cons (λ r. (b : Bool) × (r.signs.items ≡ row.signs.items ++ b ∷ [])) other (kept ∷ []) (not b, is) (all_first (λ r. (b : Bool) × (r.signs.items ≡ row.signs.items ++ b ∷ [])) kept (b, signs_are));
    }

  module _ (row kept : SignRow V) (b : Bool) (sound : IsRow M before row) (value_is : label_of kept.value ≡ label_of row.value) (b_is : b ≡ last (label_of row.value)) (signs_are : kept.signs.items ≡ row.signs.items ++ b ∷ []) (old mid new : List (SignRow V)) (pushed : new ≡ mid ++ kept ∷ []) where
    extends_alone : mid ≡ old → ((l : Label) → M.has l → ¬ (after l ≡ row.signs.items ++ not b ∷ [])) → Extends M before after row old new
    extends_alone is none = (kept ∷ [], pushed ∙ ap (λ rs. rs ++ kept ∷ []) is, longer_alone row kept b sound value_is b_is signs_are none)

    extends_both : (other : SignRow V) → mid ≡ old ++ other ∷ [] → IsRow M after other → other.signs.items ≡ row.signs.items ++ not b ∷ [] → Extends M before after row old new
    extends_both other is holds signs = (other ∷ kept ∷ [], pushed ∙ ap (λ rs. rs ++ kept ∷ []) is ∙ append_assoc old (other ∷ []) (kept ∷ []), longer_both row kept b sound value_is b_is signs_are other holds signs)

  module _ (row kept : SignRow V) (b : Bool) (sound : IsRow M before row) (value_is : label_of kept.value ≡ label_of row.value) (b_is : b ≡ last (label_of row.value)) (signs_are : kept.signs.items ≡ row.signs.items ++ b ∷ []) (old mid new : List (Noted V)) (n : Noted V) (n_is : n.row ≡ kept) (pushed : new ≡ mid ++ n ∷ []) where
    pushed_row : rows_of new ≡ rows_of mid ++ kept ∷ []
    pushed_row = ap rows_of pushed ∙ map-append (λ n. n.row) mid (n ∷ []) ∙ ap (λ r. rows_of mid ++ r ∷ []) n_is

    -- the row, and one of the other sign, if there is one
    extends_found : (found : Option (Noted V)) → MatchOption found (mid ≡ old) (λ other. mid ≡ old ++ other ∷ [])
        → MatchOption found ((l : Label) → M.has l → ¬ (after l ≡ row.signs.items ++ not b ∷ [])) (λ other. IsRow M after other.row × (other.row.signs.items ≡ row.signs.items ++ not b ∷ [])) → Extends M before after row (rows_of old) (rows_of new)
    extends_found None is none = extends_alone row kept b sound value_is b_is signs_are (rows_of old) (rows_of mid) (rows_of new) pushed_row (ap rows_of is) none
    extends_found (Some other) is found = extends_both row kept b sound value_is b_is signs_are (rows_of old) (rows_of mid) (rows_of new) pushed_row other.row (ap rows_of is ∙ map-append (λ n. n.row) old (other ∷ [])) found.0 found.1

  -- the rows that were added behind others, of what was looked for
  pub extends_added : (row kept : SignRow V) → kept ≡ row → (b : Bool) → IsRow M before row → b ≡ last (label_of row.value) → (old new : List (Noted V)) (other : Result (Option (Noted V)) (SplitStop W)) (Q : SplitStop W → Type 0)
      → MatchResult other (λ found. MatchOption found ((l : Label) → M.has l → ¬ (after l ≡ row.signs.items ++ not b ∷ [])) (λ noted. IsRow M after noted.row × (noted.row.signs.items ≡ row.signs.items ++ not b ∷ []))) Q
      → MatchResult other (λ found. AreAdded kept b found old new) (λ _. ⊥) → Extends M before after row (rows_of old) (rows_of new)
  extends_added row kept same b sound b_is old new (Err stop) Q shown added = absurd added
  extends_added row kept same b sound b_is old new (Ok found) Q shown added =
      extends_found row added.longer.row b sound (ap label_of (added.value ∙ ap (λ r. r.value) same)) b_is (added.signs ∙ ap (λ r. r.signs.items ++ b ∷ []) same) old added.between new added.longer refl added.pushed found added.found shown

module _ {X : Type 0} (R : X → X → Type 0) where
  pairs_head : (x : X) (xs : List X) → AllPairs R (x ∷ xs) → All (R x) xs
  pairs_head x xs h k d l = h 0 (suc k) d (omega arith) (omega (arith, l))

  pairs_tail : (x : X) (xs : List X) → AllPairs R (x ∷ xs) → AllPairs R xs
  pairs_tail x xs h i j d less low = h (suc i) (suc j) d (omega (arith, less)) (omega (arith, low))

  pairs_front : (xs : List X) (x : X) → AllPairs R (xs ++ x ∷ []) → AllPairs R xs
  pairs_front [] x h = λ i j d less low. absurd (omega arith)
  pairs_front (y ∷ ys) x h = AllPairs-cons R y ys (all_front (R y) ys x (pairs_head y (ys ++ x ∷ []) h)).0 (pairs_front ys x (pairs_tail y (ys ++ x ∷ []) h))

  pairs_last : (xs : List X) (x : X) → AllPairs R (xs ++ x ∷ []) → All (λ q. R q x) xs
  pairs_last [] x h = All-nil (λ q. R q x)
  pairs_last (y ∷ ys) x h = All-cons (λ q. R q x) y ys (all_front (R y) ys x (pairs_head y (ys ++ x ∷ []) h)).1 (pairs_last ys x (pairs_tail y (ys ++ x ∷ []) h))

  pairs_append : (xs ys : List X) → AllPairs R xs → AllPairs R ys → All (λ x. All (R x) ys) xs → AllPairs R (xs ++ ys)
  pairs_append [] ys h g c = g
  pairs_append (x ∷ xs) ys h g c = AllPairs-cons R x (xs ++ ys) (All-append (R x) xs ys (pairs_head x xs h) (c 0 x (omega arith))) (pairs_append xs ys (pairs_tail x xs h) g (λ k d l. c (suc k) d (omega (arith, l))))

  pairs_map : {Y : Type 0} (f : Y → X) (ys : List Y) → AllPairs (λ y z. R (f y) (f z)) ys → AllPairs R (map f ys)
  pairs_map f [] h = λ i j d less low. absurd (omega arith)
  pairs_map f (y ∷ ys) h = AllPairs-cons R (f y) (map f ys) (All-map (R (f y)) f ys (λ k d l. h 0 (suc k) d (omega arith) (omega (arith, l)))) (pairs_map f ys (λ i j d less low. h (suc i) (suc j) d (omega (arith, less)) (omega (arith, low))))

module _ {A V W : Type 0} {label_of : V → Label} {holds : A → Label → Bool} (M : Meaning label_of holds W) (before after : Label → List Bool) where
  pub partly_start : (rows : List (SignRow V)) → SplitsInto M before rows → IsPartly M before after rows []
  partly_start rows s = record {
    rest_sound = s.sound;
    rest_apart = s.apart;
    sound = All-nil (IsRow M after);
    apart = λ i j d less low. absurd (omega arith);
    complete = λ l h. inl (s.complete l h);
    unlike = λ k d low. All-nil (λ r. (b : Bool) → ¬ (r.signs.items ≡ (get_or rows k d).signs.items ++ b ∷ []));
  }

  ended : (refined : List (SignRow V)) (l : Label) → ((r : SignRow V) × Contains [] r × (r.signs.items ≡ before l)) ⊎ ((r : SignRow V) × Contains refined r × (r.signs.items ≡ after l)) → (r : SignRow V) × Contains refined r × (r.signs.items ≡ after l)
  ended refined l (inl x) = let k = x.1 in absurd (omega (arith, k.1))
  ended refined l (inr y) = y

  partly_end : (refined : List (SignRow V)) → IsPartly M before after [] refined → SplitsInto M after refined
  partly_end refined p = record {
    sound = p.sound;
    complete = λ l h. ended refined l (p.complete l h);
    apart = p.apart;
  }

  pub partly_done : (rows refined : List (SignRow V)) → length rows ≡ 0 → IsPartly M before after rows refined → SplitsInto M after refined
  partly_done [] refined e p = partly_end refined p
  partly_done (r ∷ rows) refined e p = absurd (omega arith)

  module _ (rest : List (SignRow V)) (row : SignRow V) (refined added : List (SignRow V)) (p : IsPartly M before after (rest ++ row ∷ []) refined) (longer : AreLonger M before after row added) where
    last_row : {r : SignRow V} → Contains (row ∷ []) r → r ≡ row
    last_row (zero, low, e) = sym e
    last_row (suc k, low, e) = absurd (omega (arith, low))

    from_rest : (l : Label) → M.has l → (r : SignRow V) → r.signs.items ≡ before l → Contains rest r ⊎ Contains (row ∷ []) r
        → ((r : SignRow V) × Contains rest r × (r.signs.items ≡ before l)) ⊎ ((r : SignRow V) × Contains (refined ++ added) r × (r.signs.items ≡ after l))
    from_rest l h r e (inl there) = inl (r, there, e)
    from_rest l h r e (inr here) =
        let found = longer.complete l h (ap (λ q. q.signs.items) (sym (last_row here)) ∙ e) in
        inr (found.0, Contains-append_right refined added found.0 found.1, found.2)

    covered : (l : Label) → M.has l → ((r : SignRow V) × Contains (rest ++ row ∷ []) r × (r.signs.items ≡ before l)) ⊎ ((r : SignRow V) × Contains refined r × (r.signs.items ≡ after l))
        → ((r : SignRow V) × Contains rest r × (r.signs.items ≡ before l)) ⊎ ((r : SignRow V) × Contains (refined ++ added) r × (r.signs.items ≡ after l))
    covered l h (inl x) = from_rest l h x.0 x.2 (Contains-append_cases rest (row ∷ []) x.0 x.1)
    covered l h (inr y) = inr (y.0, Contains-append_left refined added y.0 y.1, y.2)

    -- the rows that begin with the last of the rest
    pub partly_step : IsPartly M before after rest (refined ++ added)
    partly_step =
        let others = all_front (λ q. All (λ r. (b : Bool) → ¬ (r.signs.items ≡ q.signs.items ++ b ∷ [])) refined) rest row p.unlike in
        let unlike_row = pairs_last (λ q r. ¬ (q.signs.items ≡ r.signs.items)) rest row p.rest_apart in
        record {
          rest_sound = (all_front (IsRow M before) rest row p.rest_sound).0;
          rest_apart = pairs_front (λ q r. ¬ (q.signs.items ≡ r.signs.items)) rest row p.rest_apart;
          sound = All-append (IsRow M after) refined added p.sound longer.sound;
          apart = pairs_append (λ q r. ¬ (q.signs.items ≡ r.signs.items)) refined added p.apart longer.apart
              (λ i d low. λ j f under. let begun = longer.begin j f under in λ e. others.1 i d low begun.0 (e ∙ begun.1));
          complete = λ l h. covered l h (p.complete l h);
          unlike = λ i d low. All-append (λ r. (b : Bool) → ¬ (r.signs.items ≡ (get_or rest i d).signs.items ++ b ∷ [])) refined added (others.0 i d low)
              (λ j f under b e. let begun = longer.begin j f under in differ_by_last row.signs.items (get_or rest i d).signs.items begun.0 b (λ same. unlike_row i d low (sym same)) (sym begun.1 ∙ e));
        }

  -- one row is taken off the rest, and those that begin with it are added
  pub partly_more : (rows rest : List (SignRow V)) (row : SignRow V) (refined new : List (SignRow V)) → rows ≡ rest ++ row ∷ [] → IsPartly M before after rows refined → Extends M before after row refined new → IsPartly M before after rest new
  partly_more rows rest row refined new e p (added, is, longer) =
      subst (IsPartly M before after rest) (sym is) (partly_step rest row refined added (subst (λ rs. IsPartly M before after rs refined) e p) longer)

module _ {A V W : Type 0} {label_of : V → Label} {holds : A → Label → Bool} (M : Meaning label_of holds W) (signs : Label → List Bool) where
  abbrev labels : List (SignRow V) → List Label
  labels rows = map (λ r. label_of r.value) rows

  -- too long a list shows so many labels
  pub more_rows : (rows : List (SignRow V)) (most : ℕ) → SplitsInto M signs rows → most < length rows → HasMoreRows M signs most
  more_rows rows most s long = (
    labels rows,
    All-map M.keeps (λ r. label_of r.value) rows (λ k d l. (s.sound k d l).0),
    pairs_map (λ l m. ¬ (signs l ≡ signs m)) (λ r. label_of r.value) rows (λ i j d less low e. s.apart i j d less low ((s.sound i d (omega (arith, less, low))).1 ∙ e ∙ sym (s.sound j d low).1)),
    rw length-map long,
  )

module _ {A V W : Type 0} {label_of : V → Label} {holds : A → Label → Bool} (M : Meaning label_of holds W) (before signs : Label → List Bool) (part : List Bool → List Bool) (is_part : (l : Label) → before l ≡ part (signs l)) where
  apart_by_part : (l m : Label) → ¬ (before l ≡ before m) → ¬ (signs l ≡ signs m)
  apart_by_part l m n e = n (is_part l ∙ ap part e ∙ sym (is_part m))

  -- what parts of the rows show, the rows do
  pub more_by_part : (most : ℕ) → HasMoreRows M before most → HasMoreRows M signs most
  more_by_part most (ls, kept, apart, long) = (ls, kept, (λ i j d less low. apart_by_part (get_or ls i d) (get_or ls j d) (apart i j d less low)), long)

  pub unkept_by_part : HasUnkeptRow M before → HasUnkeptRow M signs
  unkept_by_part (l, h, none) = (l, h, λ m k. apart_by_part m l (none m k))

module _ {A V W : Type 0} {label_of : V → Label} {holds : A → Label → Bool} (M : Meaning label_of holds W) where
  -- the one row of no signs
  start_row : (row : SignRow V) → M.keeps (label_of row.value) → row.signs.items ≡ [] → SplitsInto M (λ _. []) (row ∷ [])
  start_row row k e = record {
    sound = all_first (IsRow M (λ _. [])) row (k, e);
    complete = λ l h. (row, first_of row [], e);
    apart = λ i j d less low. absurd (omega arith);
  }

  -- there is no label
  start_none : DecidesAll M [] Unsat → SplitsInto M (λ _. []) []
  start_none d = record {
    sound = All-nil (IsRow M (λ _. []));
    complete = λ l has. absurd (d l has (All-nil (λ x. holds x.atom l ≡ x.sign)));
    apart = λ i j d less low. absurd (omega arith);
  }

  pub start_shown : {E : Type 0} (verdict : Result (Verdict V W) E) → IfOk verdict (DecidesAll M []) → (rows : List (SignRow V)) → AreStarted verdict rows → SplitsInto M (λ _. []) rows
  start_shown verdict d rows (inl (is, none)) = subst (SplitsInto M (λ _. [])) (sym none) (start_none (subst (λ v. IfOk v (DecidesAll M [])) is d))
  start_shown verdict d rows (inr (r, is, none, e)) = let found = subst (λ v. IfOk v (DecidesAll M [])) is d in subst (SplitsInto M (λ _. [])) (sym e) (start_row r found.0 none)

  -- whether there is a label is too wide
  start_wide : (atoms : List A) (w : W) → DecidesAll M [] (Verdicts.Wide w) → Stops M ⊥ (λ _. []) atoms (Wide w)
  start_wide atoms w d = ((([], (λ k x low. absurd (omega arith)), d.0.0), d.0.1), λ far. let only = d.1 far in (only.0.0, only.0.1, λ m k e. only.1 m k (All-nil (λ x. holds x.atom m ≡ x.sign))))

  pub start_stopped : {E : Type 0} (atoms : List A) (verdict : Result (Verdict V W) E) → IfOk verdict (DecidesAll M []) → (stop : SplitStop W) → IsStopOf verdict stop → Stops M ⊥ (λ _. []) atoms stop
  start_stopped atoms verdict d TooMany is = is
  start_stopped atoms verdict d (Wide w) is = start_wide atoms w (subst (λ v. IfOk v (DecidesAll M [])) is d)
  start_stopped atoms verdict d Memory is = tt

  module _ (after : Label → List Bool) where
    -- what a sample says of the signs that end with its own
    pub nowhere_shown : (sign : Bool) (sample : Sample V) → IsSample M after sign sample → sample ≡ Nowhere → (before : List Bool) (l : Label) → M.has l → ¬ (after l ≡ before ++ sign ∷ [])
    nowhere_shown sign sample h is before l has = subst (IsSample M after sign) is h l has before

    pub copy_shown : (sign : Bool) (sample : Sample V) → IsSample M after sign sample → (found copy : Noted V) → sample ≡ Sampled found → {S : Type 0} (own : Result (Vec Bool Global) S) (held : Vec Bool Global) (signs : List Bool) → own ≡ Ok held → own ≡ Ok copy.row.signs → found.row.signs.items ≡ held.items → held.items ≡ signs → label_of copy.row.value ≡ label_of found.row.value → IsRow M after copy.row × (copy.row.signs.items ≡ signs)
    copy_shown sign sample h found copy is own held signs was made same all v =
        let row = subst (IsSample M after sign) is h in
        let kept : Ok copy.row.signs ≡ Ok held = sym made ∙ was in
        let alike : copy.row.signs ≡ held = cc in
        let s : copy.row.signs.items ≡ held.items = ap (λ x. x.items) alike in
        ((subst M.keeps (sym v) row.0, s ∙ sym same ∙ row.1 ∙ ap after (sym v)), s ∙ all)

module _ {A V W : Type 0} {label_of : V → Label} {holds : A → Label → Bool} (M : Meaning label_of holds W) (before signs : Label → List Bool) (part : List Bool → List Bool) (is_part : (l : Label) → before l ≡ part (signs l)) (some more : List A) (grows : (w : W) → IsChainOver M some w → IsChainOver M more w) (many : Type 0) where
  -- what stops the list of parts stops the list
  pub stop_by_part : (stop : SplitStop W) → Stops M ⊥ before some stop → Stops M many signs more stop
  stop_by_part TooMany h = absurd h
  stop_by_part (Wide w) h = ((grows w h.0.0, h.0.1), λ f. unkept_by_part M before signs part is_part (h.1 f))
  stop_by_part Memory h = tt

pub no_rows : {V : Type 0} (noted : List (Noted V)) → length noted ≡ 0 → length (rows_of noted) ≡ 0
no_rows [] e = refl
no_rows (n ∷ ns) e = absurd (omega arith)

-- rows of signs that are the same at each label
pub splits_as : {A V W : Type 0} {label_of : V → Label} {holds : A → Label → Bool} (M : Meaning label_of holds W) (signs others : Label → List Bool) → ((l : Label) → signs l ≡ others l) → (rows : List (SignRow V)) → SplitsInto M signs rows → SplitsInto M others rows
splits_as M signs others same rows s = record {
  sound = λ k d low. let here = s.sound k d low in (here.0, here.1 ∙ same _);
  complete = λ l h. let found = s.complete l h in (found.0, found.1, found.2 ∙ same l);
  apart = s.apart;
}

-- what stops one list stops another, of rows that are the same at each label
module _ {A V W : Type 0} {label_of : V → Label} {holds : A → Label → Bool} (M : Meaning label_of holds W) (signs others : Label → List Bool) (same : (l : Label) → signs l ≡ others l) (some more : List A) (grows : (w : W) → IsChainOver M some w → IsChainOver M more w) (many many' : Type 0) where
  pub stop_as : (many → many') → (stop : SplitStop W) → Stops M many signs some stop → Stops M many' others more stop
  stop_as to TooMany h = to h
  stop_as to (Wide w) h = ((grows w h.0.0, h.0.1), λ f. unkept_by_part M signs others (λ s. s) same (h.1 f))
  stop_as to Memory h = tt

pub row_of_rest : {V : Type 0} (P : SignRow V → Type 0) (rows rest : List (Noted V)) (noted : Noted V) → rows ≡ rest ++ noted ∷ [] → All P (rows_of rows) → P noted.row
row_of_rest P rows rest noted e h = (all_front P (rows_of rest) noted.row (subst (All P) (ap rows_of e ∙ map-append (λ n. n.row) rest (noted ∷ [])) h)).1

take_less : {X : Type 0} (n m : ℕ) (xs : List X) → n ≤ m → take n (take m xs) ≡ take n xs
take_less zero m xs l = refl
take_less (suc n) zero xs l = absurd (omega arith)
take_less (suc n) (suc m) [] l = refl
take_less (suc n) (suc m) (x ∷ xs) l = ap (λ ys. x ∷ ys) (take_less n m xs (omega arith))

-- all but the last of the first formulas
pub front_again : {X : Type 0} (xs : List X) (i : ℕ) → i < length xs → take i xs ≡ take (length (take (i + 1) xs) - 1) (take (i + 1) xs)
front_again xs i low =
    let back : i ≡ length (take (i + 1) xs) - 1 = omega (arith, length-take (i + 1) xs) in
    sym (take_less i (i + 1) xs (omega arith)) ∙ ap (λ n. take n (take (i + 1) xs)) back

pub long_rows : {V : Type 0} (most : ℕ) (rows : List (Noted V)) → most < length rows → most < length (rows_of rows)
long_rows most rows l = subst (λ n. most < n) (sym (length-map rows (λ n. n.row))) l

pub popped_less : {X : Type 0} (xs ys : List X) (y : X) → xs ≡ ys ++ y ∷ [] → length ys < length xs
popped_less xs ys y e = subst (λ zs. length ys < length zs) (sym e) (omega (arith, length-append ys (y ∷ [])))

pub few_rows : {V : Type 0} (noted : List (Noted V)) (rows : List (SignRow V)) (n most : ℕ) → rows ≡ rows_of noted → n ≡ length noted → n ≤ most → length rows ≤ most
few_rows noted rows n most e is few = subst (λ xs. length xs ≤ most) (sym e) (omega (arith, length-map noted (λ one. one.row)))

-- ---- results of parts

-- a stop for a known cause
pub stops_by : {X S : Type 0} (P : X → Type 0) (Q : S → Type 0) (r : Result X S) (stop : S) → IsErrAnd r (λ e. e ≡ stop) → Q stop → MatchResult r P Q
stops_by P Q (Ok x) stop is h = absurd is
stops_by P Q (Err e) stop is h = subst Q (sym is) h

-- what is so of each way out
pub both_ways : {X S : Type 0} (P : X → Type 0) (Q : S → Type 0) (r : Result X S) → IfOk r P → IfErr r Q → MatchResult r P Q
both_ways P Q (Ok x) p q = p
both_ways P Q (Err e) p q = q

-- a value that is there
pub ok_is : {X S : Type 0} (r : Result X S) (x : X) → r ≡ Ok x → (P : X → Type 0) → IfOk r P → P x
ok_is r x is P h = subst (λ y. IfOk y P) is h

pub ok_shown : {X S : Type 0} (r : Result X S) (x : X) → r ≡ Ok x → (P : Type 0) → OnOk r P → P
ok_shown r x is P h = subst (λ y. OnOk y P) is h

-- what was passed on stops as it does
pub stops_passed : {X W : Type 0} (P : X → Type 0) (Q : SplitStop W → Type 0) → Q Memory → (made : Result X (SplitStop W)) → MatchResult made P Q → (stop : SplitStop W) → IsPassedOn made stop → Q stop
stops_passed P Q want made h stop (inl is) = subst Q (sym is) want
stops_passed P Q want made h stop (inr is) = subst (λ r. MatchResult r P Q) is h

-- what was found for sure
pub match_ok : {X S : Type 0} (P : X → Type 0) (r : Result X S) (x : X) → r ≡ Ok x → P x → MatchResult r P (λ _. ⊥)
match_ok P r x is h = subst (λ y. MatchResult y P (λ _. ⊥)) (sym is) h

pub both_made : {V : Type 0} (P : Bool → Sample V → Type 0) (on off : Sample V) → P true on → P false off → (s : Bool) → P s (cond s on off)
both_made P on off p q true = p
both_made P on off p q false = q

module _ {A V W : Type 0} {label_of : V → Label} {holds : A → Label → Bool} (M : Meaning label_of holds W) (atoms : List A) (formulas : List (Formula ℕ)) (signs : List Bool) where
  abbrev At : Label → List Bool
  At = signs_at (number_holds holds atoms) formulas

  -- what a verdict says of a row
  pub row_found : {E F : Type 0} (verdict : Result (Verdict V W) E) → IfOk verdict (DecidesSigns M atoms formulas signs) → (result : Result (Option (Noted V)) F) (Q : F → Type 0) → MatchResult result (IsFoundBy verdict signs) Q
      → IfOk result (λ found. MatchOption found ((l : Label) → M.has l → ¬ (At l ≡ signs)) (λ noted. IsRow M At noted.row × (noted.row.signs.items ≡ signs)))
  row_found verdict d (Ok None) Q is = subst (λ r. IfOk r (DecidesSigns M atoms formulas signs)) is d
  row_found verdict d (Ok (Some noted)) Q is =
      let found = subst (λ r. IfOk r (DecidesSigns M atoms formulas signs)) is.0 d in
      ((found.0, is.1 ∙ sym found.1), is.1)
  row_found verdict d (Err stop) Q is = tt

  pub row_stopped : {E X : Type 0} (verdict : Result (Verdict V W) E) → IfOk verdict (DecidesSigns M atoms formulas signs) → (result : Result X (SplitStop W)) (P : X → Type 0) → MatchResult result P (IsStopOf verdict) → IfErr result (Stops M ⊥ At atoms)
  row_stopped verdict d (Ok found) P is = tt
  row_stopped verdict d (Err TooMany) P is = is
  row_stopped verdict d (Err (Wide w)) P is =
      let chain = subst (λ r. IfOk r (DecidesSigns M atoms formulas signs)) is d in
      (chain.0, λ far. let only = chain.1 far in (only.0.0, only.0.1, λ m k e. only.1 m k (e ∙ only.0.2)))
  row_stopped verdict d (Err Memory) P is = tt

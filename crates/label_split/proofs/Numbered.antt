-- Formulas that get numbers one after the other, while atoms come to those that are known.
use Rattle.std.proofs.Common.{◌≡◌, Bool, true, false, cond, Some, None, nat_lt, ◌||◌, List, [], ◌∷◌, ◌++◌, map, take, length, get_or, ℕ, suc, ◌+◌, ◌<◌, Result, Ok, Err, IfOk, MatchResult, refl, sym, ap, ap₂, ◌∙◌, subst, if◌then◌else◌, append_assoc, arith}
use Rattle.std.specs.List.{position, position_or_len}
use Rattle.std.specs.Cmp.{IsEquivalence}
use Rattle.std.proofs.lemmas.List.{append-nil, map-append, take_more}
use Rattle.std.proofs.lemmas.List.Folds.{list_any-append}
use Rattle.model_tree.specs.Formula.{Formula, atom, negation, all_of, some_of, formulas_of}
use Rattle.label_core.specs.Atoms.{has_equal}
use Rattle.label_core.specs.Formula.{plain_formula, atoms_in, joined}
use Rattle.label_core.specs.declared.formula.Formula.{Formula as Written}
use Rattle.label_core.specs.declared.formula.Formula.TheVariants.{Yes, No}
use Rattle.label_split.specs.Numbers.{place, numbered, AreNumbered, IsNumbered, EachNumbered}
use Rattle.label_split.specs.Signs.{atoms_in_each}
use Rattle.label_split.proofs.Numbering.{numbered_parts}
use Rattle.label_split.proofs.SameAtoms.{or_none, or_assoc, atom_is_there, atom_is_last}
use Rattle.indexmap.specs.IndexSet.{insert_key}

-- the number of an element that is found
pub some_place : {X : Type 0} (p : X → Bool) (xs : List X) (n : ℕ) → position p xs ≡ Some n → n ≡ position_or_len p xs
some_place p xs n e = by (nat_lt (position_or_len p xs) (length xs)) e
  where
    by : (b : Bool) → cond b (Some (position_or_len p xs)) None ≡ Some n → n ≡ position_or_len p xs
    by true e = cc
    by false e = cc

module _ {A : Type 0} (eq : A → A → Bool) where
  more_by : (x : A) (xs ys : List A) (a : A) (b : Bool) → eq a x ≡ b → (eq a x || has_equal eq xs a) ≡ true → (has_equal eq xs a ≡ true → place eq (xs ++ ys) a ≡ place eq xs a) → place eq (x ∷ (xs ++ ys)) a ≡ place eq (x ∷ xs) a
  more_by x xs ys a true e h rest = rw e refl
  more_by x xs ys a false e h rest =
      let one : place eq (x ∷ (xs ++ ys)) a ≡ suc (place eq (xs ++ ys) a) = rw e (omega arith) in
      let other : place eq (x ∷ xs) a ≡ suc (place eq xs a) = rw e (omega arith) in
      one ∙ ap suc (rest (subst (λ b. (b || has_equal eq xs a) ≡ true) e h)) ∙ sym other

  -- the number of an atom stays, whatever comes later
  place_more : (xs ys : List A) (a : A) → has_equal eq xs a ≡ true → place eq (xs ++ ys) a ≡ place eq xs a
  place_more [] ys a h = cc
  place_more (x ∷ xs) ys a h = more_by x xs ys a (eq a x) refl h (place_more xs ys a)

  next_by : (z : A) (zs ys : List A) (a : A) (b : Bool) → eq a z ≡ b → place eq ys a ≡ place eq zs a → place eq (z ∷ ys) a ≡ place eq (z ∷ zs) a
  next_by z zs ys a true e h = rw e refl
  next_by z zs ys a false e h =
      let one : place eq (z ∷ ys) a ≡ suc (place eq ys a) = rw e (omega arith) in
      let other : place eq (z ∷ zs) a ≡ suc (place eq zs a) = rw e (omega arith) in
      one ∙ ap suc h ∙ sym other

  place_next : (xs ys : List A) (x a : A) → eq a x ≡ true → place eq ((xs ++ x ∷ []) ++ ys) a ≡ place eq xs a
  place_next [] ys x a e = rw e refl
  place_next (z ∷ zs) ys x a e = next_by z zs ((zs ++ x ∷ []) ++ ys) a (eq a z) refl (place_next zs ys x a e)

  module _ (laws : IsEquivalence eq) where
    -- an atom that is found, or that comes to the others
    pub atom_found : (old : List A) (a : A) (n : ℕ) → has_equal eq old a ≡ true → n ≡ place eq old a → AreNumbered eq old old (a ∷ []) (atom n) (λ keys. atom (place eq keys a))
    atom_found old a n there is = record {
      grown = ([], sym (append-nil old));
      gathered = λ b. atom_is_there eq laws old a b there ∙ ap (λ s. has_equal eq old b || s) (sym (or_none (eq b a)));
      numbers_are = λ later. ap atom (is ∙ sym (place_more old later a there));
    }

    pub atom_put : (old new : List A) (a : A) (n : ℕ) → new ≡ insert_key eq old a → n ≡ place eq old a → AreNumbered eq old new (a ∷ []) (atom n) (λ keys. atom (place eq keys a))
    atom_put old new a n put is = by (has_equal eq old a) refl
      where
        at : (b : Bool) → has_equal eq old a ≡ b → new ≡ (if b then old else old ++ a ∷ [])
        at b e = put ∙ ap (λ b. if b then old else old ++ a ∷ []) e

        by : (b : Bool) → has_equal eq old a ≡ b → AreNumbered eq old new (a ∷ []) (atom n) (λ keys. atom (place eq keys a))
        by true e = subst (λ keys. AreNumbered eq old keys (a ∷ []) (atom n) (λ keys. atom (place eq keys a))) (sym (at true e)) (atom_found old a n e is)
        by false e = subst (λ keys. AreNumbered eq old keys (a ∷ []) (atom n) (λ keys. atom (place eq keys a))) (sym (at false e)) (record {
          grown = (a ∷ [], refl);
          gathered = λ b. atom_is_last eq laws old a a b (laws.refl a) ∙ ap (λ s. has_equal eq old b || s) (sym (or_none (eq b a)));
          numbers_are = λ later. ap atom (is ∙ sym (place_next old later a a (laws.refl a)));
        })

  -- the forms of a formula
  pub yes_numbered : (keys : List A) (f : Written A) → f ≡ Yes → IsNumbered eq keys keys (plain_formula f) Yes
  yes_numbered keys f is = subst (λ g. IsNumbered eq keys keys (plain_formula g) Yes) (sym is) (record { grown = ([], sym (append-nil keys)); gathered = λ a. sym (or_none (has_equal eq keys a)); numbers_are = λ later. refl })

  pub no_numbered : (keys : List A) (f : Written A) → f ≡ No → IsNumbered eq keys keys (plain_formula f) No
  no_numbered keys f is = subst (λ g. IsNumbered eq keys keys (plain_formula g) No) (sym is) (record { grown = ([], sym (append-nil keys)); gathered = λ a. sym (or_none (has_equal eq keys a)); numbers_are = λ later. refl })

  pub not_numbered : {E : Type 0} (old new : List A) (f g : Formula A) → negation f ≡ g → (inner : Written ℕ) → IsNumbered eq old new f inner → (r : Result (Written ℕ) E) → IfOk r (λ made. plain_formula made ≡ negation (plain_formula inner)) → IfOk r (IsNumbered eq old new g)
  not_numbered old new f g is inner h (Ok made) e = subst (λ g. IsNumbered eq old new g made) is (record { grown = h.grown; gathered = h.gathered; numbers_are = λ later. e ∙ ap negation (h.numbers_are later) })
  not_numbered old new f g is inner h (Err x) e = tt

  one_joined : (every : Bool) (old new : List A) (parts : List (Written A)) (all : List (Written ℕ)) (made : Written ℕ) → EachNumbered eq old new parts all → plain_formula made ≡ joined every all → IsNumbered eq old new (joined every parts) made
  one_joined true old new parts all made h e = record { grown = h.grown; gathered = h.gathered; numbers_are = λ later. e ∙ ap (λ fs. all_of (formulas_of fs)) (h.numbers_are later) ∙ ap all_of (sym (numbered_parts eq (new ++ later) parts)) }
  one_joined false old new parts all made h e = record { grown = h.grown; gathered = h.gathered; numbers_are = λ later. e ∙ ap (λ fs. some_of (formulas_of fs)) (h.numbers_are later) ∙ ap some_of (sym (numbered_parts eq (new ++ later) parts)) }

  pub joined_numbered : {V E : Type 0} (items : V → List (Written ℕ)) (every : Bool) (old new : List A) (parts : List (Written A)) (f : Formula A) → joined every parts ≡ f → (r : Result V E) → IfOk r (λ made. EachNumbered eq old new parts (items made)) → (result : Result (Written ℕ) E)
      → IfOk result (λ made. MatchResult r (λ all. plain_formula made ≡ joined every (items all)) (λ _. ⊥)) → IfOk result (IsNumbered eq old new f)
  joined_numbered items every old new parts f is (Ok all) h (Ok made) e = subst (λ g. IsNumbered eq old new g made) is (one_joined every old new parts (items all) made h e)
  joined_numbered items every old new parts f is (Err x) h (Ok made) e = absurd e
  joined_numbered items every old new parts f is r h (Err x) e = tt

  -- a loop over formulas
  pub none_numbered : (keys : List A) (made : List (Written ℕ)) → made ≡ [] → EachNumbered eq keys keys [] made
  none_numbered keys made e = record { grown = ([], sym (append-nil keys)); gathered = λ a. sym (or_none (has_equal eq keys a)); numbers_are = λ later. ap (map plain_formula) e }

  atoms_pushed : (fs : List (Written A)) (f : Written A) → atoms_in_each (fs ++ f ∷ []) ≡ atoms_in_each fs ++ atoms_in (plain_formula f)
  atoms_pushed [] f = append-nil (atoms_in (plain_formula f))
  atoms_pushed (g ∷ gs) f = ap (λ xs. atoms_in (plain_formula g) ++ xs) (atoms_pushed gs f) ∙ sym (append_assoc (atoms_in (plain_formula g)) (atoms_in_each gs) (atoms_in (plain_formula f)))

  pub one_numbered : (old mid new : List A) (fs : List (Written A)) (i : ℕ) (f : Written A) → i < length fs → f ≡ get_or fs i f → (made after : List (Written ℕ)) (g : Written ℕ) → after ≡ made ++ g ∷ [] → EachNumbered eq old mid (take i fs) made → IsNumbered eq mid new (plain_formula f) g → EachNumbered eq old new (take (i + 1) fs) after
  one_numbered old mid new fs i f low is made after g pushed before one =
      subst (λ gs. EachNumbered eq old new gs after) (sym (take_more fs i f low ∙ ap (λ h. take i fs ++ h ∷ []) (sym is)))
      (record {
        grown = (before.grown.0 ++ one.grown.0, one.grown.1 ∙ ap (λ xs. xs ++ one.grown.0) before.grown.1 ∙ append_assoc old before.grown.0 one.grown.0);
        gathered = λ a.
            one.gathered a
            ∙ ap (λ b. b || has_equal eq (atoms_in (plain_formula f)) a) (before.gathered a)
            ∙ or_assoc (has_equal eq old a) (has_equal eq (atoms_in_each (take i fs)) a) (has_equal eq (atoms_in (plain_formula f)) a)
            ∙ ap (λ b. has_equal eq old a || b) (sym (ap (λ xs. has_equal eq xs a) (atoms_pushed (take i fs) f) ∙ list_any-append (eq a) (atoms_in_each (take i fs)) (atoms_in (plain_formula f))));
        numbers_are = λ later.
            let now = ap (λ xs. xs ++ later) one.grown.1 ∙ append_assoc mid one.grown.0 later in
            let first = before.numbers_are (one.grown.0 ++ later) ∙ ap (λ keys. map (λ h. numbered eq keys (plain_formula h)) (take i fs)) (sym now) in
            ap (map plain_formula) pushed ∙ map-append plain_formula made (g ∷ []) ∙ ap₂ (λ xs x. xs ++ x ∷ []) first (one.numbers_are later) ∙ sym (map-append (λ h. numbered eq (new ++ later) (plain_formula h)) (take i fs) (f ∷ []));
      })

  -- all formulas, of which no atom was known before
  pub first_numbered : (old new : List A) (fs : List (Written A)) (made : List (Written ℕ)) → old ≡ [] → EachNumbered eq old new fs made → ((a : A) → has_equal eq new a ≡ has_equal eq (atoms_in_each fs) a) × (map plain_formula made ≡ map (λ f. numbered eq new (plain_formula f)) fs)
  first_numbered old new fs made none h =
      let found = subst (λ keys. EachNumbered eq keys new fs made) none h in
      (found.gathered, found.numbers_are [] ∙ ap (λ keys. map (λ f. numbered eq keys (plain_formula f)) fs) (append-nil new))

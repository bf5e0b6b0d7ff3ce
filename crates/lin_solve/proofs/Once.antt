-- Literals of which none is given twice, and what is answered for them.
use Rattle.std.proofs.Common.{◌≡◌, ◌↔◌, ℕ, ◌+◌, ◌<◌, ◌≤◌, ◌⊎◌, inl, inr, take_all, ◌&&◌, ◌||◌, List, [], ◌∷◌, ◌++◌, length, take, drop, get_or, Bool, true, false, refl, ap, sym, ◌∙◌, subst, All, IsTrue}
use Rattle.std.specs.Bool.{beq}
use Rattle.std.proofs.Math.IntN.{ℤ}
use Rattle.std.specs.Prelude.{Result, IfOk}
use Rattle.std.specs.List.{list_any}
use Rattle.std.specs.Cmp.{IsEquivalence, bool_eq_equiv}
use Rattle.std.proofs.lemmas.Result.{IfOk-weaker}
use Rattle.std.proofs.lemmas.Bool.{and_parts, or_cases, both_ways, or_parts}
use Rattle.std.proofs.lemmas.List.{at_drop_more}
use Rattle.std.proofs.lemmas.List.Elements.{All-nil, All-cons, All-head, All-tail, All-append, All-more, All-map, All-weaker}
use Rattle.std.proofs.lemmas.List.Folds.{list_any-append, list_any_none}
use Rattle.model_chain.specs.Literals as chain
use Rattle.model_chain.specs.Literals.{HoldsAll, compare_holds, needs_side}
use Rattle.model_sta.specs.EachTwo.{EachTwo}
use Rattle.label_core.specs.Atoms.{has_equal, EachHasEqual}
use Rattle.label_core.specs.Lit.{atoms_of}
use Rattle.label_core.specs.declared.theory.Lit.{Lit}
use Rattle.label_core.specs.declared.theory.Verdict.{Verdict}
use Rattle.label_core.specs.declared.theory.Verdict.TheVariants.{Sat, Unsat, Wide}
use Rattle.lin_solve.specs.declared.compare.Compare.{Compare}
use Rattle.lin_solve.specs.declared.chain.Chain.{Chain}
use Rattle.lin_solve.specs.Plain.{plain_compare, plain_literal, plain_literals}
use Rattle.lin_solve.specs.Shown.{Answers}
use Rattle.lin_solve.specs.Equal.{among_own}
use Rattle.lin_solve.specs.Kept.{is_same, AreDifferent, AreKept, Keeps}

pub apart : (a b : Bool) → beq a b ≡ false → a ≡ b → ⊥
apart true true e f = cc
apart true false e f = cc
apart false true e f = cc
apart false false e f = cc

any_left : (b c : Bool) → b ≡ true → (b || c) ≡ true
any_left true c e = refl
any_left false c e = cc

any_right : (b c : Bool) → c ≡ true → (b || c) ≡ true
any_right true c e = refl
any_right false c e = e

any_grows : {A : Type 0} (p : A → Bool) (xs ys : List A) → list_any p xs ≡ true → list_any p (xs ++ ys) ≡ true
any_grows p xs ys e = list_any-append p xs ys ∙ any_left (list_any p xs) (list_any p ys) e

-- the first i, as far as they are wanted, came to the others
pub record KeepsOf (E : Compare → Compare → Bool) (ls : List (Lit Compare)) (sided : Bool) (old : List (Lit Compare)) (i : ℕ) (ks : List (Lit Compare)) : Type 0 where
  pub among : EachHasEqual (is_same E) old ls → EachHasEqual (is_same E) ks ls
  pub each : All (λ l. needs_side (plain_literal l) ≡ sided → IsTrue (has_equal (is_same E) ks l)) (take i ls)
  pub grown : (l : Lit Compare) → IsTrue (has_equal (is_same E) old l) → IsTrue (has_equal (is_same E) ks l)
  pub once : AreDifferent E old → AreDifferent E ks

module _ (E : Compare → Compare → Bool) (laws : IsEquivalence E) where
  pub literal_laws : IsEquivalence (is_same E)
  literal_laws = record {
    refl = λ l. (λ i. bool_eq_equiv.refl l.sign i && laws.refl l.atom i);
    symm = λ l m. (λ i. bool_eq_equiv.symm l.sign m.sign i && laws.symm l.atom m.atom i);
    congr = λ l m n e. let p = and_parts (beq l.sign m.sign) (E l.atom m.atom) e in (λ i. bool_eq_equiv.congr l.sign m.sign n.sign p.0 i && laws.congr l.atom m.atom n.atom p.1 i);
  }

  -- ---- what the kept ones say

  same_atom : (l : Lit Compare) (ms : List (Lit Compare)) → list_any (is_same E l) ms ≡ true → list_any (E l.atom) (atoms_of ms) ≡ true
  same_atom l [] e = e
  same_atom l (m ∷ ms) e = by (or_cases (is_same E l m) (list_any (is_same E l) ms) e) (same_atom l ms)
    where
      by : (is_same E l m ≡ true) ⊎ (list_any (is_same E l) ms ≡ true) → (list_any (is_same E l) ms ≡ true → list_any (E l.atom) (atoms_of ms) ≡ true) → (E l.atom m.atom || list_any (E l.atom) (atoms_of ms)) ≡ true
      by (inl is) later = any_left (E l.atom m.atom) (list_any (E l.atom) (atoms_of ms)) (and_parts (beq l.sign m.sign) (E l.atom m.atom) is).1
      by (inr h) later = any_right (E l.atom m.atom) (list_any (E l.atom) (atoms_of ms)) (later h)

  pub atoms_among : (ks ls : List (Lit Compare)) → EachHasEqual (is_same E) ks ls → EachHasEqual E (atoms_of ks) (atoms_of ls)
  atoms_among ks ls h = All-map (λ a. list_any (E a) (atoms_of ls) ≡ true) (λ l. l.atom) ks (All-weaker (λ l. list_any (is_same E l) ls ≡ true) (λ l. list_any (E l.atom) (atoms_of ls) ≡ true) (λ l. same_atom l ls) ks h)

  -- where different literals are never the same in this sense, no two of them are
  pub plain_different : (Same : chain.Literal → chain.Literal → Type 0) → ((l m : Lit Compare) → is_same E l m ≡ false → ¬ (Same (plain_literal l) (plain_literal m))) → (ks : List (Lit Compare)) → AreDifferent E ks → EachTwo (λ l m. ¬ (Same l m)) (plain_literals ks)
  plain_different Same differ [] h = tt
  plain_different Same differ (k ∷ ks) h =
      let Other : Lit Compare → Type 0 = λ m. ¬ (Same (plain_literal k) (plain_literal m)) in
      (All-map (λ m. ¬ (Same (plain_literal k) m)) plain_literal ks (All-weaker (λ m. is_same E k m ≡ false) Other (differ k) ks h.0), plain_different Same differ ks h.1)

  module _ (us : List ℤ) (alike : (a b : Compare) → E a b ≡ true → compare_holds (plain_compare a) us ≡ compare_holds (plain_compare b) us) where
    abbrev Holds : Lit Compare → Type 0
    Holds l = compare_holds (plain_compare l.atom) us ≡ l.sign

    one_sign : (s t : Bool) → beq s t ≡ true → s ≡ t
    one_sign true true e = refl
    one_sign true false e = cc
    one_sign false true e = cc
    one_sign false false e = refl

    holds_as : (l : Lit Compare) (ms : List (Lit Compare)) → list_any (is_same E l) ms ≡ true → All Holds ms → Holds l
    holds_as l [] e h = cc
    holds_as l (m ∷ ms) e h = by (or_cases (is_same E l m) (list_any (is_same E l) ms) e) (λ f. holds_as l ms f (All-tail Holds m ms h))
      where
        by : (is_same E l m ≡ true) ⊎ (list_any (is_same E l) ms ≡ true) → (list_any (is_same E l) ms ≡ true → Holds l) → Holds l
        by (inl is) later = let p = and_parts (beq l.sign m.sign) (E l.atom m.atom) is in alike l.atom m.atom p.1 ∙ All-head Holds m ms h ∙ sym (one_sign l.sign m.sign p.0)
        by (inr f) later = later f

    all_hold : (ls : List (Lit Compare)) → HoldsAll (plain_literals ls) us → All Holds ls
    all_hold [] h = All-nil Holds
    all_hold (l ∷ ls) h =
        let P : chain.Literal → Type 0 = λ x. compare_holds x.compare us ≡ x.positive in
        All-cons Holds l ls (All-head P (plain_literal l) (plain_literals ls) h) (all_hold ls (All-tail P (plain_literal l) (plain_literals ls) h))

    pub hold_among : (ls ms : List (Lit Compare)) → EachHasEqual (is_same E) ls ms → HoldsAll (plain_literals ms) us → HoldsAll (plain_literals ls) us
    hold_among ls ms each h =
        All-map (λ x. compare_holds x.compare us ≡ x.positive) plain_literal ls (All-weaker (λ l. list_any (is_same E l) ms ≡ true) Holds (λ l is. holds_as l ms is (all_hold ms h)) ls each)

  -- ---- the kept ones, one by one

  pub kept_all : (ls : List (Lit Compare)) → AreDifferent E ls → AreKept E ls ls
  kept_all ls h = record { among = among_own (is_same E) literal_laws ls; each = among_own (is_same E) literal_laws ls; once = h }

  different_more : (ks : List (Lit Compare)) (l : Lit Compare) → AreDifferent E ks → list_any (is_same E l) ks ≡ false → AreDifferent E (ks ++ l ∷ [])
  different_more [] l h e = (All-nil (λ m. is_same E l m ≡ false), tt)
  different_more (k ∷ ks) l h e =
      let p = or_parts (is_same E l k) (list_any (is_same E l) ks) e in
      let P : Lit Compare → Type 0 = λ m. is_same E k m ≡ false in
      (All-append P ks (l ∷ []) h.0 (All-cons P l [] (literal_laws.symm k l ∙ p.0) (All-nil P)), different_more ks l h.1 p.1)

  module _ (ls old : List (Lit Compare)) (sided : Bool) (i : ℕ) (l : Lit Compare) (low : i < length ls) (is : l ≡ get_or ls i l) (ks : List (Lit Compare)) (far : KeepsOf E ls sided old i ks) where
    abbrev Has : List (Lit Compare) → Lit Compare → Type 0
    Has ms m = list_any (is_same E m) ms ≡ true

    abbrev HasWanted : List (Lit Compare) → Lit Compare → Type 0
    HasWanted ms m = needs_side (plain_literal m) ≡ sided → Has ms m

    pub kept_there : HasWanted ks l → KeepsOf E ls sided old (i + 1) ks
    kept_there has = record { among = far.among; each = All-more (HasWanted ks) ls i l low far.each (subst (HasWanted ks) is has); grown = far.grown; once = far.once }

    pub kept_more : list_any (is_same E l) ks ≡ false → KeepsOf E ls sided old (i + 1) (ks ++ l ∷ [])
    kept_more new = record {
      among = λ h. All-append (Has ls) ks (l ∷ []) (far.among h) (All-cons (Has ls) l [] (subst (Has ls) (sym is) (among_own (is_same E) literal_laws ls i l low)) (All-nil (Has ls)));
      each = All-more (HasWanted (ks ++ l ∷ [])) ls i l low (All-weaker (HasWanted ks) (HasWanted (ks ++ l ∷ [])) (λ m h e. any_grows (is_same E m) ks (l ∷ []) (h e)) (take i ls) far.each) (subst (HasWanted (ks ++ l ∷ [])) is (λ e. own));
      grown = λ m h. any_grows (is_same E m) ks (l ∷ []) (far.grown m h);
      once = λ h. different_more ks l (far.once h) new;
    }
      where
        own : Has (ks ++ l ∷ []) l
        own = list_any-append (is_same E l) ks (l ∷ []) ∙ any_right (list_any (is_same E l) ks) (list_any (is_same E l) (l ∷ [])) (any_left (is_same E l l) false (literal_laws.refl l))

  pub none_kept : (ls old : List (Lit Compare)) (sided : Bool) → KeepsOf E ls sided old 0 old
  none_kept ls old sided = record { among = λ h. h; each = All-nil (λ l. needs_side (plain_literal l) ≡ sided → list_any (is_same E l) old ≡ true); grown = λ l h. h; once = λ h. h }

  pub all_kept : (ls old : List (Lit Compare)) (sided : Bool) (i : ℕ) (ks : List (Lit Compare)) → length ls ≤ i → KeepsOf E ls sided old i ks → Keeps E ls sided old ks
  all_kept ls old sided i ks all kept = record {
    among = kept.among;
    each = subst (λ ms. All (λ l. needs_side (plain_literal l) ≡ sided → list_any (is_same E l) ks ≡ true) ms) (take_all i ls all) kept.each;
    grown = kept.grown;
    once = kept.once;
  }

  -- those without a side first, and then the others
  pub both_kept : (ls ms ks : List (Lit Compare)) → Keeps E ls false [] ms → Keeps E ls true ms ks → AreKept E ls ks
  both_kept ls ms ks first second = record {
    among = second.among (first.among (All-nil (λ l. list_any (is_same E l) ls ≡ true)));
    each = λ k d low. by (get_or ls k d) (needs_side (plain_literal (get_or ls k d))) refl (first.each k d low) (second.each k d low);
    once = second.once (first.once tt);
  }
    where
      First : Lit Compare → Type 0
      First l = needs_side (plain_literal l) ≡ false → list_any (is_same E l) ms ≡ true

      Second : Lit Compare → Type 0
      Second l = needs_side (plain_literal l) ≡ true → list_any (is_same E l) ks ≡ true

      by : (l : Lit Compare) (b : Bool) → needs_side (plain_literal l) ≡ b → First l → Second l → list_any (is_same E l) ks ≡ true
      by l true e f g = g e
      by l false e f g = second.grown l (f e)

  -- ---- whether they are different, from each on

  module _ (ls : List (Lit Compare)) (i : ℕ) (l : Lit Compare) (low : i < length ls) (is : l ≡ get_or ls i l) where
    parted : drop i ls ≡ l ∷ drop (i + 1) ls
    parted = at_drop_more (λ ms. ms) ls i l low ∙ ap (λ x. x ∷ drop (i + 1) ls) (sym is)

    pub same_there : list_any (is_same E l) (drop (i + 1) ls) ≡ true → AreDifferent E (drop i ls) ↔ AreDifferent E ls → ¬ (AreDifferent E ls)
    same_there has both h =
        both_ways (list_any (is_same E l) (drop (i + 1) ls)) (list_any_none (is_same E l) (drop (i + 1) ls) (subst (AreDifferent E) parted (both.1 h)).0) has

  -- ---- the answer

  module _ (alike : (us : List ℤ) (a b : Compare) → E a b ≡ true → compare_holds (plain_compare a) us ≡ compare_holds (plain_compare b) us) (ls ks : List (Lit Compare)) (kept : AreKept E ls ks) where
    pub kept_hold : (us : List ℤ) → HoldsAll (plain_literals ks) us ↔ HoldsAll (plain_literals ls) us
    kept_hold us = (hold_among us (alike us) ls ks kept.each, hold_among us (alike us) ks ls kept.among)

    answer_kept : {V : Type 0} (values_of : V → List ℤ) (v : Verdict V Chain) → Answers (λ ms. ms ≡ ks) values_of ks v → Answers (AreKept E ls) values_of ls v
    answer_kept values_of (Sat v) h = (h.0, (kept_hold (values_of v)).0 h.1)
    answer_kept values_of Unsat h = λ us many holds. h us many ((kept_hold us).1 holds)
    answer_kept values_of (Wide c) (is, passes, none) = (subst (AreKept E ls) (sym is) kept, passes, λ far us many fits holds. none far us many fits ((kept_hold us).1 holds))

    -- where these are the ones that are decided
    pub answers_kept : {V W : Type 0} (values_of : V → List ℤ) (given : List (Lit Compare)) → given ≡ ks → (r : Result (Verdict V Chain) W) → IfOk r (Answers (λ ms. ms ≡ given) values_of given) → IfOk r (Answers (AreKept E ls) values_of ls)
    answers_kept values_of given is r h =
        IfOk-weaker r (Answers (λ ms. ms ≡ given) values_of given) (Answers (AreKept E ls) values_of ls) (λ v a. answer_kept values_of v (subst (λ (ms : List (Lit Compare)). Answers (λ ns. ns ≡ ms) values_of ms v) is a)) h

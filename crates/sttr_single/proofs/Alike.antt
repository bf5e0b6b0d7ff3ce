-- Terms that are compared.
use Rattle.std.proofs.Common.{◌≡◌, ℕ, suc, ◌+◌, ◌<◌, ◌≤◌, ◌==◌, Bool, true, false, ◌&&◌, List, [], ◌∷◌, map, length, drop, get_or, Vec, Global, refl, ap, ap₂, sym, subst, ◌∙◌, eqb-true, eq-eqb}
use Rattle.std.proofs.lemmas.Bool.{and_parts, and_from}
use Rattle.std.proofs.lemmas.List.{at_drop_more, at_drop_all}
use Rattle.model_sttr.specs.Terms.{build, Parts, no_parts, part, on}
use Rattle.model_sttr.specs.Terms as plain
use Rattle.model_sttr.specs.Transducer.{Head, identity, run}
use Rattle.sttr_core.specs.Terms.{plain_term}
use Rattle.sttr_core.specs.declared.term.Term.{Term}
use Rattle.sttr_core.specs.declared.term.Term.TheVariants.{Node}
use Rattle.sttr_core.proofs.Parts.{parts_of, parts_are}
use Rattle.sttr_single.specs.Same.{AreEqual, AreEqualParts, same_head, same_term, same_parts, same_terms}

same_heads : (h k : Head) → same_head h k ≡ true → h ≡ k
same_heads identity identity e = refl
same_heads (run p) (run q) e = ap run (eqb-true p q e)
same_heads identity (run q) e = absurd (cc)
same_heads (run p) identity e = absurd (cc)

own_head : (h : Head) → same_head h h ≡ true
own_head identity = refl
own_head (run p) = eq-eqb p p refl

module _ {M : Type 0} (eq : M → M → Bool) where
  mutual
    -- terms that are found to be equal are
    pub equal_of : (p q : plain.Term Head M) → same_term eq p q ≡ true → AreEqual eq p q
    equal_of (on h j) (on k i) e = let (a, b) = and_parts (same_head h k) (j == i) e in (same_heads h k a, eqb-true j i b)
    equal_of (build c m ps) (build d n qs) e =
        let (a, b) = and_parts (c == d) (eq m n && same_parts eq ps qs) e in
        let (x, y) = and_parts (eq m n) (same_parts eq ps qs) b in
        (eqb-true c d a, x, equal_parts_of ps qs y)
    equal_of (on h j) (build d n qs) e = cc
    equal_of (build c m ps) (on k i) e = cc

    equal_parts_of : (ps qs : Parts Head M) → same_parts eq ps qs ≡ true → AreEqualParts eq ps qs
    equal_parts_of no_parts no_parts e = tt
    equal_parts_of (part p ps) (part q qs) e = let (a, b) = and_parts (same_term eq p q) (same_parts eq ps qs) e in (equal_of p q a, equal_parts_of ps qs b)
    equal_parts_of no_parts (part q qs) e = cc
    equal_parts_of (part p ps) no_parts e = cc

  mutual
    -- and equal ones are found to be
    pub same_of : (p q : plain.Term Head M) → AreEqual eq p q → same_term eq p q ≡ true
    same_of (on h j) (on k i) e = and_from (same_head h k) (j == i) (subst (λ z. same_head h z ≡ true) e.0 (own_head h)) (eq-eqb j i e.1)
    same_of (build c m ps) (build d n qs) e = and_from (c == d) (eq m n && same_parts eq ps qs) (eq-eqb c d e.0) (and_from (eq m n) (same_parts eq ps qs) e.1 (same_parts_of ps qs e.2))
    same_of (on h j) (build d n qs) e = absurd e
    same_of (build c m ps) (on k i) e = absurd e

    same_parts_of : (ps qs : Parts Head M) → AreEqualParts eq ps qs → same_parts eq ps qs ≡ true
    same_parts_of no_parts no_parts e = refl
    same_parts_of (part p ps) (part q qs) e = and_from (same_term eq p q) (same_parts eq ps qs) (same_of p q e.0) (same_parts_of ps qs e.1)
    same_parts_of no_parts (part q qs) e = absurd e
    same_parts_of (part p ps) no_parts e = absurd e

  -- parts are compared one by one
  one_by_one : (ps qs : List (plain.Term Head M)) → same_parts eq (parts_of ps) (parts_of qs) ≡ same_terms eq ps qs
  one_by_one [] [] = refl
  one_by_one [] (q ∷ qs) = refl
  one_by_one (p ∷ ps) [] = refl
  one_by_one (p ∷ ps) (q ∷ qs) = ap (λ b. same_term eq p q && b) (one_by_one ps qs)

  abbrev pub same_lists : List (Term M) → List (Term M) → Bool
  same_lists ts us = same_terms eq (map plain_term ts) (map plain_term us)

  same_nodes : (c d : ℕ) (m n : M) (v w : Vec (Term M) Global) → same_term eq (plain_term (Node c m v)) (plain_term (Node d n w)) ≡ ((c == d) && (eq m n && same_lists v.items w.items))
  same_nodes c d m n v w = ap (λ b. (c == d) && (eq m n && b)) (ap₂ (same_parts eq) (parts_are v) (parts_are w) ∙ one_by_one (map plain_term v.items) (map plain_term w.items))

  -- nodes are equal where their parts are, once their constructors and maps are
  pub same_by_parts : (p q : Term M) (c d : ℕ) (m n : M) (v w : Vec (Term M) Global) (fs gs : List (Term M)) → p ≡ Node c m v → q ≡ Node d n w → fs ≡ v.items → gs ≡ w.items → (c == d) ≡ true → eq m n ≡ true → same_lists fs gs ≡ same_term eq (plain_term p) (plain_term q)
  same_by_parts p q c d m n v w fs gs p_is q_is fs_is gs_is same equal =
      (λ i. same_lists (fs_is i) (gs_is i))
      ∙ sym (λ i. same i && (equal i && same_lists v.items w.items))
      ∙ sym (same_nodes c d m n v w)
      ∙ sym (λ i. same_term eq (plain_term (p_is i)) (plain_term (q_is i)))

  pub same_many : (fs gs : List (Term M)) → (length fs ≡ length gs → ⊥) → same_lists fs gs ≡ false
  same_many [] [] h = absurd (h refl)
  same_many [] (g ∷ gs) h = refl
  same_many (f ∷ fs) [] h = refl
  same_many (f ∷ fs) (g ∷ gs) h = ap (λ b. same_term eq (plain_term f) (plain_term g) && b) (same_many fs gs (λ e. h (ap suc e))) ∙ neither (same_term eq (plain_term f) (plain_term g))
    where
      neither : (b : Bool) → (b && false) ≡ false
      neither true = refl
      neither false = refl

  module _ (fs gs : List (Term M)) (i : ℕ) (f g : Term M) (low : i < length fs) (low' : i < length gs) (f_is : f ≡ get_or fs i f) (g_is : g ≡ get_or gs i g) where
    here : same_lists (drop i fs) (drop i gs) ≡ (same_term eq (plain_term f) (plain_term g) && same_lists (drop (i + 1) fs) (drop (i + 1) gs))
    here =
        at_drop_more (λ us. same_lists us (drop i gs)) fs i f low
        ∙ at_drop_more (λ vs. same_lists (get_or fs i f ∷ drop (i + 1) fs) vs) gs i g low'
        ∙ (λ j. same_term eq (plain_term (sym f_is j)) (plain_term (sym g_is j)) && same_lists (drop (i + 1) fs) (drop (i + 1) gs))

    pub same_more : same_term eq (plain_term f) (plain_term g) ≡ true → same_lists fs gs ≡ same_lists (drop i fs) (drop i gs) → same_lists fs gs ≡ same_lists (drop (i + 1) fs) (drop (i + 1) gs)
    same_more is before = before ∙ here ∙ ap (λ b. b && same_lists (drop (i + 1) fs) (drop (i + 1) gs)) is

    pub same_not : same_term eq (plain_term f) (plain_term g) ≡ false → same_lists fs gs ≡ same_lists (drop i fs) (drop i gs) → same_lists fs gs ≡ false
    same_not is before = before ∙ here ∙ ap (λ b. b && same_lists (drop (i + 1) fs) (drop (i + 1) gs)) is

  pub same_all : (fs gs : List (Term M)) (i : ℕ) → length fs ≤ i → length gs ≤ i → same_lists fs gs ≡ same_lists (drop i fs) (drop i gs) → same_lists fs gs ≡ true
  same_all fs gs i h h' before = before ∙ at_drop_all (λ us. same_lists us (drop i gs)) fs i h ∙ at_drop_all (λ vs. same_lists [] vs) gs i h'

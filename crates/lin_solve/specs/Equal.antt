-- Labels of whole numbers that compare equal, and comparisons that do.
use Rattle.std.proofs.Common.{◌≡◌, ◌↔◌, ℕ, ◌&&◌, List, [], ◌∷◌, map, get_or, Bool, true, false, refl, ap, sym, ◌∙◌, subst}
use Rattle.std.proofs.Math.IntN.{ℤ}
use Rattle.std.specs.Cmp.{IsEquivalence}
use Rattle.std.specs.Cmp.Lexicographic.{slice_cmp}
use Rattle.std.specs.Ordering.{int_cmp, ordering_then, ordering_reverse}
use Rattle.std.specs.declared.cmp.Ordering.{Ordering}
use Rattle.std.specs.declared.cmp.Ordering.TheVariants as ordering
use Rattle.std.proofs.lemmas.Cmp.{int_cmp_total}
use Rattle.std.proofs.lemmas.List.Elements.{Contains-get_or}
use Rattle.std.proofs.lemmas.Map.Lookups.{exact_signed}
use Rattle.std.proofs.lemmas.Map.Views.{list_any-from_Contains}
use Rattle.model_tree.specs.Label.{whole, Label}
use Rattle.model_form.specs.Same.{same_form}
use Rattle.model_form.proofs.Equals.{same_value, same_laws}
use Rattle.model_form.proofs.Over.{over_same}
use Rattle.model_chain.specs.Literals.{related}
use Rattle.label_core.specs.Atoms.{EachHasEqual}
use Rattle.lin_solve.specs.declared.compare.Compare.{Compare}
use Rattle.lin_solve.specs.declared.compare.Relation.{Relation}
use Rattle.lin_solve.specs.declared.compare.Relation.TheVariants.{Less, AtMost, Equal}
use Rattle.lin_solve.specs.Plain.{plain_relation}
use Rattle.lin_solve.specs.Wholes.{as_whole, wholes_label, wholes_of, IsWholes, KeepsWholes, compare_at, CompareFits}

-- ---- labels

numbers_back : (ns : List ℤ) → map as_whole (map whole ns) ≡ ns
numbers_back [] = refl
numbers_back (n ∷ ns) = ap (λ ms. n ∷ ms) (numbers_back ns)

pub wholes_back : (ns : List ℤ) → wholes_of (wholes_label ns) ≡ ns
wholes_back ns = numbers_back ns

pub one_label : (ms ns : List ℤ) → wholes_label ms ≡ wholes_label ns → ms ≡ ns
one_label ms ns e = sym (wholes_back ms) ∙ ap wholes_of e ∙ wholes_back ns

both_equal : (r s : Ordering) → ordering_then r s ≡ ordering.Equal → (r ≡ ordering.Equal) × (s ≡ ordering.Equal)
both_equal ordering.Less s e = cc
both_equal ordering.Equal s e = (refl, e)
both_equal ordering.Greater s e = cc

own : (o : Ordering) → o ≡ ordering_reverse o → o ≡ ordering.Equal
own ordering.Less e = cc
own ordering.Equal e = refl
own ordering.Greater e = cc

itself : (ns : List ℤ) → slice_cmp int_cmp ns ns ≡ ordering.Equal
itself [] = refl
itself (n ∷ ns) = rw (own (int_cmp n n) (int_cmp_total.antisymm n n)) (itself ns)

one_list : (ms ns : List ℤ) → slice_cmp int_cmp ms ns ≡ ordering.Equal → ms ≡ ns
one_list [] [] e = refl
one_list [] (n ∷ ns) e = cc
one_list (m ∷ ms) [] e = cc
one_list (m ∷ ms) (n ∷ ns) e =
    let parts = both_equal (int_cmp m n) (slice_cmp int_cmp ms ns) e in
    let head : m ≡ n = exact_signed m n parts.0 in
    let tail : ms ≡ ns = one_list ms ns parts.1 in λ i. head i ∷ tail i

-- lists of numbers compare equal exactly where they are one label
pub equal_wholes : (ms ns : List ℤ) → (slice_cmp int_cmp ms ns ≡ ordering.Equal) ↔ (wholes_label ms ≡ wholes_label ns)
equal_wholes ms ns =
    (λ e. ap wholes_label (one_list ms ns e), λ e. subst (λ ks. slice_cmp int_cmp ms ks ≡ ordering.Equal) (one_label ms ns e) (itself ms))

pub kept_wholes : (n : ℕ) (l : Label) → KeepsWholes n l → IsWholes n l
kept_wholes n l (ns, many, kept, is) = (ns, many, is)

-- ---- equal comparisons

both_true : (a b : Bool) → (a && b) ≡ true → (a ≡ true) × (b ≡ true)
both_true true b e = (refl, e)
both_true false b e = cc

-- the equality that is derived
pub record IsRelationEq (R : Relation → Relation → Bool) : Type 0 where
  pub less : R Less Less ≡ true
  pub at_most : R AtMost AtMost ≡ true
  pub equal : R Equal Equal ≡ true
  pub less_at_most : R Less AtMost ≡ false
  pub less_equal : R Less Equal ≡ false
  pub at_most_less : R AtMost Less ≡ false
  pub at_most_equal : R AtMost Equal ≡ false
  pub equal_less : R Equal Less ≡ false
  pub equal_at_most : R Equal AtMost ≡ false

pub record IsCompareEq (R : Relation → Relation → Bool) (E : Compare → Compare → Bool) : Type 0 where
  pub parts : (a b : Compare) → E a b ≡ (same_form a.left b.left && (R a.relation b.relation && same_form a.right b.right))

one_relation : (R : Relation → Relation → Bool) → IsRelationEq R → (x y : Relation) → R x y ≡ true → x ≡ y
one_relation R is Less Less e = refl
one_relation R is Less AtMost e = let no : false ≡ true = sym is.less_at_most ∙ e in cc
one_relation R is Less Equal e = let no : false ≡ true = sym is.less_equal ∙ e in cc
one_relation R is AtMost Less e = let no : false ≡ true = sym is.at_most_less ∙ e in cc
one_relation R is AtMost AtMost e = refl
one_relation R is AtMost Equal e = let no : false ≡ true = sym is.at_most_equal ∙ e in cc
one_relation R is Equal Less e = let no : false ≡ true = sym is.equal_less ∙ e in cc
one_relation R is Equal AtMost e = let no : false ≡ true = sym is.equal_at_most ∙ e in cc
one_relation R is Equal Equal e = refl

relation_laws : (R : Relation → Relation → Bool) → IsRelationEq R → IsEquivalence R
relation_laws R is = record { refl = itself_related; symm = either; congr = λ x y z e. ap (λ r. R r z) (one_relation R is x y e) }
  where
    itself_related : (x : Relation) → R x x ≡ true
    itself_related Less = is.less
    itself_related AtMost = is.at_most
    itself_related Equal = is.equal

    either : (x y : Relation) → R x y ≡ R y x
    either Less Less = refl
    either Less AtMost = is.less_at_most ∙ sym is.at_most_less
    either Less Equal = is.less_equal ∙ sym is.equal_less
    either AtMost Less = is.at_most_less ∙ sym is.less_at_most
    either AtMost AtMost = refl
    either AtMost Equal = is.at_most_equal ∙ sym is.equal_at_most
    either Equal Less = is.equal_less ∙ sym is.less_equal
    either Equal AtMost = is.equal_at_most ∙ sym is.at_most_equal
    either Equal Equal = refl

module _ (R : Relation → Relation → Bool) (apart : IsRelationEq R) (E : Compare → Compare → Bool) (is : IsCompareEq R E) where
  pub equal_parts : (a b : Compare) → E a b ≡ true → (same_form a.left b.left ≡ true) × (a.relation ≡ b.relation) × (same_form a.right b.right ≡ true)
  equal_parts a b e =
      let outer = both_true (same_form a.left b.left) (R a.relation b.relation && same_form a.right b.right) (sym (is.parts a b) ∙ e) in
      let inner = both_true (R a.relation b.relation) (same_form a.right b.right) outer.1 in
      (outer.0, one_relation R apart a.relation b.relation inner.0, inner.1)

  pub equal_by_parts : (a b : Compare) → same_form a.left b.left ≡ true → a.relation ≡ b.relation → same_form a.right b.right ≡ true → E a b ≡ true
  equal_by_parts a b left relation right =
      is.parts a b ∙ (λ i. left i && ((ap (λ r. R r b.relation) relation ∙ (relation_laws R apart).refl b.relation) i && right i))

  pub equal_hold : (a b : Compare) (l : Label) → E a b ≡ true → compare_at a l ≡ compare_at b l
  equal_hold a b l e =
      let p = equal_parts a b e in λ i. related (plain_relation (p.1 i)) (same_value a.left b.left (wholes_of l) p.0 i) (same_value a.right b.right (wholes_of l) p.2 i)

  pub equal_fit : (n : ℕ) (a b : Compare) → E a b ≡ true → CompareFits n a → CompareFits n b
  equal_fit n a b e fits = let p = equal_parts a b e in (over_same n a.left b.left p.0 fits.0, over_same n a.right b.right p.2 fits.1)

  pub compare_laws : IsEquivalence E
  compare_laws = record {
    refl = λ a. is.parts a a ∙ (λ i. same_laws.refl a.left i && ((relation_laws R apart).refl a.relation i && same_laws.refl a.right i));
    symm = λ a b. is.parts a b ∙ (λ i. same_laws.symm a.left b.left i && ((relation_laws R apart).symm a.relation b.relation i && same_laws.symm a.right b.right i)) ∙ sym (is.parts b a);
    congr = λ a b c e. let p = equal_parts a b e in is.parts a c ∙ (λ i. same_laws.congr a.left b.left c.left p.0 i && ((relation_laws R apart).congr a.relation b.relation c.relation (ap (λ r. R r b.relation) p.1 ∙ (relation_laws R apart).refl b.relation) i && same_laws.congr a.right b.right c.right p.2 i)) ∙ sym (is.parts b c);
  }

module _ {A : Type 0} (E : A → A → Bool) (laws : IsEquivalence E) where
  -- each is among themselves
  pub among_own : (own : List A) → EachHasEqual E own own
  among_own own = λ k d l. list_any-from_Contains laws (get_or own k d) own (Contains-get_or own k d l)

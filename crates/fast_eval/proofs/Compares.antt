-- The comparisons of whole numbers among the atoms of guards.
use Rattle.std.proofs.Common.{◌≡◌, inl, inr, ◌⊎◌, IsTrue, Bool, true, false, ◌||◌, ◌&&◌, List, [], ◌∷◌, ◌++◌, map, get_or, All, Contains, append_assoc, refl, sym, ap, ap₂, subst, ◌∙◌}
use Rattle.std.specs.Bool.{beq}
use Rattle.std.proofs.lemmas.Bool.{both_ways}
use Rattle.std.proofs.lemmas.List.{map-append}
use Rattle.std.proofs.lemmas.List.Elements.{All-map, All-weaker}
use Rattle.model_tree.specs.Formula.{Formula}
use Rattle.model_form.proofs.Equals.{same_laws}
use Rattle.model_chain.specs.Literals as plain
use Rattle.model_run.specs.Seen.{IsSameCompare, IsSameLiteral}
use Rattle.model_layers.specs.Compared.{IsOneOf, AreOfBoth}
use Rattle.label_core.specs.Atoms.{has_equal, EachHasEqual}
use Rattle.label_core.specs.Formula.{atoms_in}
use Rattle.label_core.specs.Pair.{lefts}
use Rattle.label_core.specs.declared.pair.PairAtom.{PairAtom}
use Rattle.label_core.specs.declared.pair.PairAtom.TheVariants.{Left, Right}
use Rattle.label_core.specs.declared.theory.Lit.{Lit}
use Rattle.lin_solve.specs.declared.compare.Compare.{Compare}
use Rattle.lin_solve.specs.declared.compare.Relation.{Relation}
use Rattle.lin_solve.specs.declared.compare.Relation.TheVariants.{Less, AtMost, Equal}
use Rattle.lin_solve.specs.Kept.{is_same}
use Rattle.lin_solve.specs.Plain.{plain_compare, plain_relation, plain_literal}
use Rattle.lin_solve.proofs.Alike.{parts_of_equal, equal_of_parts}
use Rattle.sta_core.specs.Machine.{Machine}
use Rattle.sta_classes.specs.Guards.{all_guards, atoms_of_all}
use Rattle.sta_theory.proofs.Lists.{first_in, later_in, append_member, in_map}
use Rattle.record_label.specs.Derived.{same_atoms, same_compares, compares_grow}
use Rattle.record_label.specs.Rows.{RowAtom}
use Rattle.fast_eval.specs.Built.{compares_of, compares_in}

-- one that an atom equals
module _ {A : Type 0} (E : A → A → Bool) (a : A) where
  equal_one : (bs : List A) → IsTrue (has_equal E bs a) → (b : A) × Contains bs b × (E a b ≡ true)
  equal_one [] found = cc
  equal_one (b ∷ bs) found = by (E a b) refl found (equal_one bs)
    where
      by : (t : Bool) → E a b ≡ t → IsTrue (t || has_equal E bs a) → (IsTrue (has_equal E bs a) → (c : A) × Contains bs c × (E a c ≡ true)) → (c : A) × Contains (b ∷ bs) c × (E a c ≡ true)
      by true is here later = (b, first_in b bs, is)
      by false is here later = let (c, at, same) = later here in (c, later_in b c bs at, same)

same_compare : (a b : Compare) → same_compares a b ≡ true → IsSameCompare (plain_compare b) (plain_compare a)
same_compare a b e =
    let parts = parts_of_equal a b e in
    (ap (λ r. plain_relation r) (sym parts.1), same_laws.symm b.left a.left ∙ parts.0, same_laws.symm b.right a.right ∙ parts.2)

same_relation : (r s : Relation) → plain_relation r ≡ plain_relation s → r ≡ s
same_relation Less Less e = refl
same_relation Less AtMost e = cc
same_relation Less Equal e = cc
same_relation AtMost Less e = cc
same_relation AtMost AtMost e = refl
same_relation AtMost Equal e = cc
same_relation Equal Less e = cc
same_relation Equal AtMost e = cc
same_relation Equal Equal e = refl

same_sign : (a b : Bool) → a ≡ b → beq a b ≡ true
same_sign true true e = refl
same_sign true false e = cc
same_sign false true e = cc
same_sign false false e = refl

-- literals that differ are of two signs or over two comparisons
pub not_same : (l m : Lit Compare) → is_same same_compares l m ≡ false → ¬ (IsSameLiteral (plain_literal l) (plain_literal m))
not_same l m differ is =
    let one : is_same same_compares l m ≡ true =
    ap₂ (λ a b. a && b) (same_sign l.sign m.sign is.0) (equal_of_parts l.atom m.atom is.1.1 (same_relation l.atom.relation m.atom.relation is.1.0) is.1.2) in
    both_ways (is_same same_compares l m) differ one

-- comparisons that have equal ones among others are the same as one of these
pub one_of : (cs ds : List Compare) → EachHasEqual same_compares cs ds → All (λ c. IsOneOf (map plain_compare ds) (plain_compare c)) cs
one_of cs ds each k d low =
    let own = get_or cs k d in
    let (b, at, same) = equal_one same_compares own ds (each k d low) in
    (plain_compare b, in_map plain_compare ds b at, same_compare own b same)

module _ {A : Type 0} where
  atoms_joined : (gs hs : List (Formula A)) → atoms_of_all (gs ++ hs) ≡ atoms_of_all gs ++ atoms_of_all hs
  atoms_joined [] hs = refl
  atoms_joined (g ∷ gs) hs = ap (λ bs. atoms_in g ++ bs) (atoms_joined gs hs) ∙ sym (append_assoc (atoms_in g) (atoms_of_all gs) (atoms_of_all hs))

lefts_joined : {P Q : Type 0} (front back : List (PairAtom P Q)) → lefts (front ++ back) ≡ lefts front ++ lefts back
lefts_joined [] back = refl
lefts_joined (Left p ∷ front) back = ap (λ ps. p ∷ ps) (lefts_joined front back)
lefts_joined (Right q ∷ front) back = lefts_joined front back

pub compares_joined : (gs hs : List (Formula RowAtom)) → compares_of (gs ++ hs) ≡ compares_of gs ++ compares_of hs
compares_joined gs hs =
    ap (λ atoms. map plain_compare (lefts atoms)) (atoms_joined gs hs)
    ∙ ap (map plain_compare) (lefts_joined (atoms_of_all gs) (atoms_of_all hs))
    ∙ map-append plain_compare (lefts (atoms_of_all gs)) (lefts (atoms_of_all hs))

-- guards whose atoms have equal ones among those of others
module _ (gs hs : List (Formula RowAtom)) (each : EachHasEqual same_atoms (atoms_of_all gs) (atoms_of_all hs)) where
  of_guards : All (IsOneOf (compares_of hs)) (compares_of gs)
  of_guards =
      All-map (IsOneOf (compares_of hs)) plain_compare (lefts (atoms_of_all gs)) (one_of (lefts (atoms_of_all gs)) (lefts (atoms_of_all hs)) (compares_grow (atoms_of_all gs) (atoms_of_all hs) each))

module _ (a b c : Machine RowAtom) where
  of_either : (d : plain.Compare) → IsOneOf (compares_of (all_guards a.rules ++ all_guards b.rules)) d → IsOneOf (compares_in a) d ⊎ IsOneOf (compares_in b) d
  of_either d (e, at, same) = elim (append_member (compares_in a) (compares_in b) e (subst (λ cs. Contains cs e) (compares_joined (all_guards a.rules) (all_guards b.rules)) at)) [
    | inl first ↦ inl (e, first, same)
    | inr second ↦ inr (e, second, same)
  ]

  -- of guards of two automata
  pub of_both : EachHasEqual same_atoms (atoms_of_all (all_guards c.rules)) (atoms_of_all (all_guards a.rules ++ all_guards b.rules)) → AreOfBoth (compares_in a) (compares_in b) (compares_in c)
  of_both each =
      All-weaker (IsOneOf (compares_of (all_guards a.rules ++ all_guards b.rules))) (λ d. IsOneOf (compares_in a) d ⊎ IsOneOf (compares_in b) d) of_either (compares_in c)
      (of_guards (all_guards c.rules) (all_guards a.rules ++ all_guards b.rules) each)

-- The equality of comparisons, as it is derived.
use Rattle.std.proofs.Common.{◌≡◌, List, true, refl, sym, subst}
use Rattle.std.proofs.Math.IntN.{ℤ}
use Rattle.std.specs.Cmp.{IsEquivalence}
use Rattle.model_form.specs.Same.{same_form}
use Rattle.model_chain.specs.Literals.{compare_holds}
use Rattle.label_core.specs.Atoms.{EachHasEqual}
use Rattle.label_core.specs.declared.theory.Lit.{Lit}
use Rattle.lin_solve.specs.declared.compare.Compare.{Compare}
use Rattle.lin_solve.specs.Kept.{is_same}
use Rattle.lin_solve.specs.Plain.{plain_compare, plain_literals}
use Rattle.lin_solve.specs.Sought.{NeverHoldAll}
use Rattle.lin_solve.specs.Wholes.{wholes_label}
use Rattle.lin_solve.specs.Equal.{IsRelationEq, IsCompareEq, equal_parts, equal_by_parts, wholes_back, compare_laws, equal_hold}
use Rattle.lin_solve.proofs.Once.{hold_among}
use Rattle.lin_solve.specs.contracts.compare.ComparePartialEq.TheImpl.{ghosts as compares}
use Rattle.lin_solve.specs.contracts.compare.RelationPartialEq.TheImpl.{ghosts as relations}

relations_apart : IsRelationEq relations.eq
relations_apart = record { less = refl; at_most = refl; equal = refl; less_at_most = refl; less_equal = refl; at_most_less = refl; at_most_equal = refl; equal_less = refl; equal_at_most = refl }

by_parts : IsCompareEq relations.eq compares.eq
by_parts = record { parts = λ _ _. refl }

pub laws_of_equality : IsEquivalence compares.eq
laws_of_equality = compare_laws relations.eq relations_apart compares.eq by_parts

-- equal comparisons are so part by part
pub parts_of_equal : (a b : Compare) → compares.eq a b ≡ true → (same_form a.left b.left ≡ true) × (a.relation ≡ b.relation) × (same_form a.right b.right ≡ true)
parts_of_equal = equal_parts relations.eq relations_apart compares.eq by_parts

pub equal_of_parts : (a b : Compare) → same_form a.left b.left ≡ true → a.relation ≡ b.relation → same_form a.right b.right ≡ true → compares.eq a b ≡ true
equal_of_parts = equal_by_parts relations.eq relations_apart compares.eq by_parts

pub copy_equal : (a b : Compare) → a ≡ b → compares.eq a b ≡ true
copy_equal a b e = subst (λ c. compares.eq c b ≡ true) (sym e) (laws_of_equality.refl b)

-- equal comparisons hold of the same values
pub alike : (us : List ℤ) (a b : Compare) → compares.eq a b ≡ true → compare_holds (plain_compare a) us ≡ compare_holds (plain_compare b) us
alike us a b e =
    subst (λ ns. compare_holds (plain_compare a) ns ≡ compare_holds (plain_compare b) ns) (wholes_back us) (equal_hold relations.eq relations_apart compares.eq by_parts a b (wholes_label us) e)

-- where literals that hold nowhere are among others, these don't either
pub never_among : (ls ms : List (Lit Compare)) → EachHasEqual (is_same compares.eq) ls ms → NeverHoldAll (plain_literals ls) → NeverHoldAll (plain_literals ms)
never_among ls ms each never us l holds = never us l (hold_among compares.eq laws_of_equality us (alike us) ls ms each holds)

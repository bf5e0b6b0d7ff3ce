-- Of which comparisons a chain over atoms is.
use Rattle.std.proofs.Common.{List, subst}
use Rattle.model_tree.specs.Signature.{Sort}
use Rattle.label_core.specs.Atoms.{EachHasEqual}
use Rattle.label_core.specs.Lit.{atoms_of}
use Rattle.label_core.specs.Meaning.{IsChainOver}
use Rattle.label_core.specs.Pair.{lefts, left_lits}
use Rattle.label_core.proofs.Chains.{among_grows}
use Rattle.label_core.proofs.Pairs.{left_atoms}
use Rattle.lin_solve.specs.declared.chain.Chain.{Chain}
use Rattle.lin_solve.specs.Kept.{AreDifferent}
use Rattle.lin_solve.proofs.Once.{atoms_among}
use Rattle.record_label.specs.Derived.{same_compares, compares_laws, compares_grow}
use Rattle.record_label.specs.Meaning.{row_meaning}
use Rattle.record_label.specs.Rows.{RowAtom}

-- its comparisons are among those atoms, and no two of its literals are the same
pub compares_over : (sorts : List Sort) (atoms : List RowAtom) (c : Chain) → IsChainOver (row_meaning sorts) atoms c → EachHasEqual same_compares (atoms_of c.literals.items) (lefts atoms) × AreDifferent same_compares c.literals.items
compares_over sorts atoms c (literals, among, some) =
    let own = subst (EachHasEqual same_compares (atoms_of c.literals.items)) (left_atoms literals) (atoms_among same_compares compares_laws c.literals.items (left_lits literals) some.0) in
    (among_grows same_compares compares_laws (atoms_of c.literals.items) (lefts (atoms_of literals)) (lefts atoms) (compares_grow (atoms_of literals) atoms among) own, some.1)

-- What labels of several fields, their atoms and their chains mean.
use Rattle.std.specs.Prelude.{List}
use Rattle.model_tree.specs.Signature.{Sort, HasSorts}
use Rattle.model_chain.specs.Chains.{IsFar}
use Rattle.fast_tree.specs.Entries.{label_meaning}
use Rattle.label_core.specs.Meaning.{Meaning}
use Rattle.label_core.specs.Pair.{left_lits}
use Rattle.lin_solve.specs.declared.chain.Chain.{Chain}
use Rattle.lin_solve.specs.Kept.{AreSome}
use Rattle.lin_solve.specs.Shown.{plain_chain, PassesWidth}
use Rattle.record_label.specs.Derived.{same_atoms, same_compares}
use Rattle.record_label.specs.Rows.{row_holds, KeepsSorts}

-- of labels of these sorts: chains are those of the whole numbers
abbrev pub row_meaning : List Sort → Meaning label_meaning row_holds Chain
row_meaning sorts = record {
  has = HasSorts sorts;
  keeps = KeepsSorts sorts;
  equal = same_atoms;
  chain_of = λ literals c. AreSome same_compares (left_lits literals) c.literals.items;
  passes = PassesWidth;
  is_far = λ c. IsFar (plain_chain c);
}

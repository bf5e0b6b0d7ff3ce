-- What labels of whole numbers, comparisons and chains mean.
use Rattle.std.specs.Prelude.{ℕ, Bool, Vec}
use Rattle.std.specs.Prelude.{ℤ}
use Rattle.model_chain.specs.Chains.{IsFar}
use Rattle.label_core.specs.Meaning.{Meaning}
use Rattle.lin_solve.specs.declared.chain.Chain.{Chain}
use Rattle.lin_solve.specs.declared.compare.Compare.{Compare}
use Rattle.lin_solve.specs.Kept.{AreSome}
use Rattle.lin_solve.specs.Shown.{plain_chain, PassesWidth}
use Rattle.lin_solve.specs.Wholes.{wholes_label, compare_at, IsWholes, KeepsWholes}

-- of labels of so many whole numbers, where comparisons are equal by this test
abbrev pub whole_meaning : {G : Type 0} → ℕ → (Compare → Compare → Bool) → Meaning (λ (v : Vec ℤ G). wholes_label v.items) compare_at Chain
whole_meaning fields equal = record {
  has = IsWholes fields;
  keeps = KeepsWholes fields;
  equal = equal;
  chain_of = λ literals c. AreSome equal literals c.literals.items;
  passes = PassesWidth;
  is_far = λ c. IsFar (plain_chain c);
}

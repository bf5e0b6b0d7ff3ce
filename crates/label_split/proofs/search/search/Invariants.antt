use Rattle.std.proofs.Common.{◌≡◌, All, length}
use Rattle.label_split.specs.Numbers.{truths_at, HaveSigns}
use Rattle.label_split.specs.Search.{branch_lists, Covers, IsLeft}
use Rattle.label_split.specs.Weights.{weight}
use Rattle.label_split.proofs.search.search.Given as goal

abbrev pub invariant-branches : goal.invariant-branches
invariant-branches g l = record {
  left : IsLeft (g.T.Theory.meaning l.theory) l.atoms (λ m. HaveSigns l.asked.formulas.now l.asked.signs.now (truths_at g.T.Theory.atom_holds l.atoms m)) l.wide (λ m. Covers (branch_lists l.branches.items) (truths_at g.T.Theory.atom_holds l.atoms m));
  many : All (λ known. length known ≡ length l.atoms) (branch_lists l.branches.items);
}

abbrev pub decreases-branches : goal.decreases-branches
decreases-branches g l = weight (branch_lists l.branches.items)

-- From the last round to the least automaton.
use Rattle.std.proofs.Common.{ℕ, ◌↔◌, ◌≡◌, Bool, List, get_or, length, ◌∙◌}
use Rattle.model_tree.specs.Tree.{Tree}
use Rattle.model_sta.specs.Sets.{Row, has, set_of, Fits}
use Rattle.model_sta.specs.Reached.{Apart}
use Rattle.model_sta.proofs.Sets.{set_is_accepted}
use Rattle.model_sta.specs.Operations.{Auto}
use Rattle.sta_theory.specs.Blocks.{KindTable, IsKindTable, IsStable, AreBlocks, AreNumbered, member_of}
use Rattle.sta_theory.specs.Contexts.{AreToldApart}
use Rattle.sta_theory.specs.Machines.{IsLeastMachine}
use Rattle.sta_theory.specs.Rounds.{row_at, block, block_of, AreFirsts, IsSplitInto}
use Rattle.sta_theory.specs.Minimal.{next_block, AreFree, IsWritten, IsRefined, IsLeast}
use Rattle.sta_theory.proofs.Blocks.{next_blocks, blocks_least}
use Rattle.sta_theory.proofs.Contexts.{two_states}
use Rattle.sta_theory.proofs.Rounds.{is_round, stays_stable, dense_blocks, dense_stable, dense_numbered}
use Rattle.sta_theory.proofs.Minimal.{is_least}

module _ {L : Type 0} (D : L → Type 0) (table : KindTable L) (facts : IsKindTable D table) (apart : Apart table.known) where
  pub split_blocks : (final : Row → Bool) (bs finer : List ℕ) → AreFirsts D table bs → AreBlocks D table final (block D table bs) → IsSplitInto D table bs finer → AreBlocks D table final (block D table finer)
  split_blocks final bs finer firsts are split = next_blocks D table facts final (block D table bs) (block D table finer) are (is_round D table apart bs finer split firsts.many)

  pub least_from_rounds : (a c : Auto L) → table.rules ≡ a.rules → (bs firsts dense finals : List ℕ) → IsRefined D table a.start bs firsts dense finals → (free : ℕ → ℕ → Bool) → AreFree table free
      → IsWritten table.ranks D a (length firsts) finals (next_block table (block_of table.known dense (length firsts)) (λ k. row_at D table bs (get_or firsts k 0))) free c → IsLeast table.ranks D a c (length firsts) finals
  least_from_rounds a c same bs firsts dense finals is free is_free written =
      let final : Row → Bool = λ q. has q a.start in
      is_least D table facts final (block_of table.known dense (length firsts)) (length firsts) (λ k. row_at D table bs (get_or firsts k 0)) finals
      (dense_blocks D table facts apart final bs firsts dense is.are_firsts is.numbers is.blocks)
      (dense_stable D table facts apart final bs firsts dense is.are_firsts is.numbers (stays_stable D table facts apart final bs is.last))
      (dense_numbered D table facts apart final bs firsts dense is.are_firsts is.numbers is.blocks finals is.finals_are)
      free is_free a c same (λ t. (λ i. has (set_of (same i) t) a.start) ∙ set_is_accepted a.rules t a.start) written

-- stable blocks are exactly what contexts tell apart
pub blocks_by_contexts : {L : Type 0} (D : L → Type 0) (table : KindTable L) → IsKindTable D table → (final : Row → Bool) (block : Row → ℕ) (n : ℕ) (one_of : ℕ → Row) (accepting : ℕ → Bool)
    → AreBlocks D table final block → IsStable D table block → AreNumbered D table final n one_of accepting block → (s t : Tree L) → Fits table.ranks D s → Fits table.ranks D t
    → AreToldApart table.ranks D (member_of D table final) s t ↔ (¬ (block (set_of table.rules s) ≡ block (set_of table.rules t)))
blocks_by_contexts D table facts final block n one_of accepting are stable numbered s t f g =
    let least : IsLeastMachine table.ranks D (member_of D table final) n (λ u. block (set_of table.rules u)) accepting = blocks_least D table facts final block n one_of accepting are stable numbered in
    (two_states table.ranks D n (λ u. block (set_of table.rules u)) least.machine (member_of D table final) accepting least.language s t, least.apart s t f g)

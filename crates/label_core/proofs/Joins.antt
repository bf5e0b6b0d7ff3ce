-- What the decisions of two parts say of their pair.
use Rattle.std.proofs.Common.{Bool, List}
use Rattle.model_tree.specs.Label.{Label, row, pair}
use Rattle.label_core.specs.Lit.{SatisfiesAll}
use Rattle.label_core.specs.declared.theory.Lit.{Lit}
use Rattle.label_core.specs.declared.pair.PairAtom.{PairAtom}
use Rattle.label_core.specs.Pair.{HasParts, pair_holds, left_lits, right_lits}
use Rattle.label_core.proofs.Pairs.{whole, left_part, right_part}

module _ {P Q : Type 0} (h : P → Label → Bool) (k : Q → Label → Bool) (lits : List (Lit (PairAtom P Q))) where
  pub none_left : (F G : Label → Type 0) → ((l : Label) → F l → ¬ SatisfiesAll h (left_lits lits) l) → (z : Label) → HasParts F G z → ¬ SatisfiesAll (pair_holds h k) lits z
  none_left F G none (row fields) z s = z
  none_left F G none (pair l m) z s = none l z.0 (left_part h k l m lits s)

  pub none_right : (F G : Label → Type 0) → ((m : Label) → G m → ¬ SatisfiesAll k (right_lits lits) m) → (z : Label) → HasParts F G z → ¬ SatisfiesAll (pair_holds h k) lits z
  none_right F G none (row fields) z s = z
  none_right F G none (pair l m) z s = none m z.1 (right_part h k l m lits s)

  pub far_left : (F G F' G' : Label → Type 0) → ((l : Label) × F l × SatisfiesAll h (left_lits lits) l) × ((l : Label) → F' l → ¬ SatisfiesAll h (left_lits lits) l) → (m : Label) → G m → SatisfiesAll k (right_lits lits) m
      → ((z : Label) × HasParts F G z × SatisfiesAll (pair_holds h k) lits z) × ((z : Label) → HasParts F' G' z → ¬ SatisfiesAll (pair_holds h k) lits z)
  far_left F G F' G' (some, none) m has t =
      let (l, is, s) = some in
      ((pair l m, (is, has), whole h k l m lits s t), none_left F' G' none)

  pub far_right : (F G F' G' : Label → Type 0) → ((m : Label) × G m × SatisfiesAll k (right_lits lits) m) × ((m : Label) → G' m → ¬ SatisfiesAll k (right_lits lits) m) → (l : Label) → F l → SatisfiesAll h (left_lits lits) l
      → ((z : Label) × HasParts F G z × SatisfiesAll (pair_holds h k) lits z) × ((z : Label) → HasParts F' G' z → ¬ SatisfiesAll (pair_holds h k) lits z)
  far_right F G F' G' (some, none) l has s =
      let (m, is, t) = some in
      ((pair l m, (has, is), whole h k l m lits s t), none_right F' G' none)

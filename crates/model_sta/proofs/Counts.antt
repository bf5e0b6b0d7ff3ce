-- What contexts tell apart depends on the trees of the type and on which of them differ alone.
use Rattle.std.proofs.Common.{◌↔◌, ℕ, List, [], ◌∷◌}
use Rattle.std.proofs.lemmas.List.Elements.{All-weaker}
use Rattle.model_tree.specs.Tree.{Tree}
use Rattle.model_sta.specs.EachTwo.{EachTwo}
use Rattle.model_sta.specs.Contexts.{AreToldApart, AreAllToldApart, IsCount}

pub each_two_weaker : {X : Type 0} (R S : X → X → Type 0) → ((x y : X) → R x y → S x y) → (xs : List X) → EachTwo R xs → EachTwo S xs
each_two_weaker R S to [] h = tt
each_two_weaker R S to (x ∷ xs) h = (All-weaker (R x) (S x) (to x) xs h.0, each_two_weaker R S to xs h.1)

module _ {L : Type 0} (P Q : Tree L → Type 0) (R S : Tree L → Tree L → Type 0) (typed : (t : Tree L) → P t ↔ Q t) (differ : (s t : Tree L) → P s → P t → R s t ↔ S s t) where
  pub told_to : (s t : Tree L) → AreToldApart P R s t → AreToldApart Q S s t
  told_to s t (k, first, second, apart) = (k, (typed _).0 first, (typed _).0 second, (differ _ _ first second).0 apart)

  pub told_back : (s t : Tree L) → AreToldApart Q S s t → AreToldApart P R s t
  told_back s t (k, first, second, apart) =
      let left = (typed _).1 first in
      let right = (typed _).1 second in
      (k, left, right, (differ _ _ left right).1 apart)

  all_to : (ts : List (Tree L)) → AreAllToldApart P R ts → AreAllToldApart Q S ts
  all_to ts h = (All-weaker P Q (λ t. (typed t).0) ts h.0, each_two_weaker (AreToldApart P R) (AreToldApart Q S) told_to ts h.1)

  all_back : (ts : List (Tree L)) → AreAllToldApart Q S ts → AreAllToldApart P R ts
  all_back ts h = (All-weaker Q P (λ t. (typed t).1) ts h.0, each_two_weaker (AreToldApart Q S) (AreToldApart P R) told_back ts h.1)

  pub same_count : (n : ℕ) → IsCount P R n → IsCount Q S n
  same_count n count = record { trees = count.trees; apart = all_to count.trees count.apart; so_many = count.so_many; no_more = λ ts h. count.no_more ts (all_back ts h) }

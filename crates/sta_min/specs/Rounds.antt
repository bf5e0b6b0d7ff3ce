-- Rounds over lists of classes: of each class those that nodes over it have.
use Rattle.std.specs.Prelude.{ℕ, ◌<◌, List, [], ◌∷◌, get_or, map, length, All, Vec}
use Rattle.sta_min.specs.Firsts.{AreFirsts, AreNumbers}

-- the classes are among the first n
abbrev pub AreBelow : {G : Type 0} → ℕ → List (Vec ℕ G) → Type 0
AreBelow n nodes = All (λ v. All (λ k. k < n) v.items) nodes

-- the block of a class, and those of nodes over it
abbrev pub signature : List ℕ → ℕ → List ℕ → List ℕ
signature bs k nodes = get_or bs k 0 ∷ map (λ m. get_or bs m 0) nodes

module _ (nodes : List (List ℕ)) where
  abbrev pub signature_at : List ℕ → ℕ → List ℕ
  signature_at bs k = signature bs k (get_or nodes k [])

  -- each class has the number of the first one with its signature
  abbrev pub IsFiner : List ℕ → List ℕ → Type 0
  IsFiner bs finer = AreFirsts (signature_at bs) (length nodes) finer

  -- what some rounds make of the first blocks
  pub data AreAfter (start : List ℕ) : List ℕ → Type 0 where
    begun : AreAfter start start
    later : (bs finer : List ℕ) → AreAfter start bs → IsFiner bs finer → AreAfter start finer

  -- and one more round changes nothing
  pub record AreRefined (start bs : List ℕ) : Type 0 where
    pub numbers : AreNumbers (length nodes) bs
    pub after : AreAfter start bs
    pub last : IsFiner bs bs

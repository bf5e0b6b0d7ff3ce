-- Output terms that are equal.
use Rattle.std.specs.Prelude.{◌≡◌, ◌==◌, ◌&&◌, Bool, true, false, List, [], ◌∷◌, ⊤}
use Rattle.model_sttr.specs.Terms.{Term, on, build, Parts, no_parts, part}
use Rattle.model_sttr.specs.Transducer.{Head, identity, run}

module _ {M : Type 0} (map_eq : M → M → Bool) where
  abbrev mutual
    -- the same stands at the same children, under the same constructors, with equal maps
    pub AreEqual : Term Head M → Term Head M → Type 0
    AreEqual (on h j) (on k i) = (h ≡ k) × (j ≡ i)
    AreEqual (on h j) (build d n qs) = ⊥
    AreEqual (build c m ps) (on k i) = ⊥
    AreEqual (build c m ps) (build d n qs) = (c ≡ d) × (map_eq m n ≡ true) × AreEqualParts ps qs

    pub AreEqualParts : Parts Head M → Parts Head M → Type 0
    AreEqualParts no_parts no_parts = ⊤
    AreEqualParts no_parts (part q qs) = ⊥
    AreEqualParts (part p ps) no_parts = ⊥
    AreEqualParts (part p ps) (part q qs) = AreEqual p q × AreEqualParts ps qs

-- whether the same is given on a child
abbrev pub same_head : Head → Head → Bool
same_head identity identity = true
same_head (run p) (run q) = p == q
same_head h k = false

module _ {M : Type 0} (map_eq : M → M → Bool) where
  abbrev mutual
    -- whether terms are equal
    pub same_term : Term Head M → Term Head M → Bool
    same_term (on h j) (on k i) = same_head h k && (j == i)
    same_term (build c m ps) (build d n qs) = (c == d) && (map_eq m n && same_parts ps qs)
    same_term p q = false

    pub same_parts : Parts Head M → Parts Head M → Bool
    same_parts no_parts no_parts = true
    same_parts (part p ps) (part q qs) = same_term p q && same_parts ps qs
    same_parts ps qs = false

  -- whether terms of two lists are, in order
  abbrev pub same_terms : List (Term Head M) → List (Term Head M) → Bool
  same_terms [] [] = true
  same_terms (p ∷ ps) (q ∷ qs) = same_term p q && same_terms ps qs
  same_terms ps qs = false

-- Ways that drafts are in the end.
use Rattle.std.specs.Prelude.{◌≡◌, ◌↔◌, ℕ, List, [], ◌∷◌, map, get_or, Contains, Option, Some, None, Vec, ⊤}
use Rattle.std.specs.Option.{option_map}
use Rattle.model_tree.specs.Formula.{all_of, formulas_of}
use Rattle.label_core.specs.Formula.{plain_formula}
use Rattle.sttr_theory.specs.Triples.{LookName, asked}
use Rattle.sttr_theory.specs.Triples as theory
use Rattle.sttr_run.specs.Drafts.{IsAskedIn, guards_of, terms_of}
use Rattle.sttr_run.specs.Plain.{plain_triple, plain_way_term}
use Rattle.sttr_run.specs.Sets.{AreEach}
use Rattle.sttr_run.specs.declared.drafts.Draft.{Draft}
use Rattle.sttr_run.specs.declared.triples.Triple.{Triple}
use Rattle.sttr_run.specs.declared.triples.Way.{Way}

-- what is demanded of child j
abbrev pub triples_at : {G : Type 0} → List (Vec Triple G) → ℕ → List theory.Triple
triples_at lists j = get_or (map (λ d. map plain_triple d.items) lists) j []

-- the element of a list that has no more than one
abbrev pub IsOnly : {X : Type 0} → List X → Option X → Type 0
IsOnly [] o = o ≡ None
IsOnly (x ∷ []) o = o ≡ Some x
IsOnly (x ∷ y ∷ ys) o = ⊤

module _ {A M : Type 0} where
  -- the draft's guards as one, what it asks child by child, and its term, if it has one
  pub record IsFinished (y : Draft A M) (w : Way A M) : Type 0 where
    pub guard : plain_formula w.guard ≡ all_of (formulas_of (guards_of y))
    pub asks : (j : ℕ) (n : LookName) → Contains (asked (triples_at w.demands.items j)) n ↔ IsAskedIn y.demands.items j n
    pub same_term : IsOnly (terms_of y) (option_map plain_way_term w.term)

  abbrev pub AreFinished : List (Draft A M) → List (Way A M) → Type 0
  AreFinished = AreEach IsFinished

-- Ways without guards, over one child.
use Rattle.std.specs.Prelude.{◌≡◌, ◌↔◌, ◌∷◌, ℕ, List, [], Contains}
use Rattle.model_sttr.specs.Terms.{Term}
use Rattle.sttr_theory.specs.Triples.{Triple, LookName}
use Rattle.sttr_run.specs.Drafts.{IsAskedIn, guards_of, terms_of}
use Rattle.sttr_run.specs.declared.drafts.Draft.{Draft}

module _ {A M : Type 0} (j : ℕ) (names : List LookName) (terms : List (Term Triple M)) where
  -- the draft asks these names of child j, and has these terms
  pub record IsLeafDraft (y : Draft A M) : Type 0 where
    pub no_guards : guards_of y ≡ []
    pub asks : (i : ℕ) (n : LookName) → IsAskedIn y.demands.items i n ↔ ((j ≡ i) × Contains names n)
    pub same_terms : terms_of y ≡ terms

  -- it stands alone
  abbrev pub IsLeaf : List (Draft A M) → Type 0
  IsLeaf ys = (y : Draft A M) × (ys ≡ y ∷ []) × IsLeafDraft y

-- Labels that agree on the guards of an expression agree on those of what was built for it; the labels that a transducer makes
-- are made by label lists of its expression.
use Rattle.std.specs.Prelude.{◌≡◌, ℕ, List, [], ◌∷◌}
use Rattle.fast_fault.specs.declared.place.Pos.{Pos}
use Rattle.model_tree.specs.Label.{Label}
use Rattle.model_sta.specs.Automaton.{Rule}
use Rattle.model_sta.specs.Operations.{Auto, AgreeIn, KeepsGuards}
use Rattle.model_sttr.specs.Transducer.{Sttr, Trans, GivesSame}
use Rattle.model_sttr.specs.Guards.{AgreeOn, IsMapOf, MakesAlike}
use Rattle.model_sttr.specs.Operations.{DomainKeepsGuards, PreImageKeepsGuards, RestrictionKeepsGuards, OutRestrictionKeepsGuards, CompositionKeepsGuards, KeepsMaps, ChainsMaps}
use Rattle.model_program.specs.Syntax.{Name}
use Rattle.model_grammar.specs.declared.Op1.TheVariants.{Complement, Minimize, Domain}
use Rattle.model_grammar.specs.declared.Op2.TheVariants.{Intersect, Union, Difference, PreImage, Compose, Restrict, RestrictOut}
use Rattle.model_grammar.specs.Syntax.{X, named, one, two, Item}
use Rattle.model_meaning.specs.Reached.{Opens}
use Rattle.model_run.specs.Parts.{IsFrom}
use Rattle.model_run.specs.Seen.{LabelList, list_label, IsLabelList, Agree, IsLabelOf}

module _ (items : List Item) where
  -- labels of the type that agree on the guards of the expression agree on those of the rules
  abbrev pub IsSeen : X → List ℕ → List (List (Rule Label)) → Type 0
  IsSeen e type rules = (l m : Label) → IsLabelOf items type l → IsLabelOf items type m → Agree items (e ∷ []) type l m → AgreeIn rules l m

  -- the same of a transducer; each of its maps makes labels of the output type, and those that a label list of the expression makes
  pub record IsSeenTrans (e : X) (from into : List ℕ) (f : Sttr Label) : Type 0 where
    pub goes : IsFrom items e from into
    pub guards : (l m : Label) → IsLabelOf items from l → IsLabelOf items from m → Agree items (e ∷ []) from l m → AgreeOn f l m
    pub maps : (n : Label → Label) → IsMapOf f n → (m : LabelList) × IsLabelList items e from into m × MakesAlike (IsLabelOf items from) n (list_label m)
    pub makes : (n : Label → Label) → IsMapOf f n → (l : Label) → IsLabelOf items from l → IsLabelOf items into (n l)
    pub gives_same : GivesSame f → from ≡ into

-- ---- what operations promise of guards and maps

pub record LanguagesAreSeen (items : List Item) (place : Pos) (x y : X) (type : List ℕ) : Type 0 where
  pub union : (a b c : Auto Label) → IsSeen items x type a.rules → IsSeen items y type b.rules → KeepsGuards a b c → IsSeen items (two Union place x y) type c.rules
  pub intersect : (a b c : Auto Label) → IsSeen items x type a.rules → IsSeen items y type b.rules → KeepsGuards a b c → IsSeen items (two Intersect place x y) type c.rules
  pub difference : (a b c : Auto Label) → IsSeen items x type a.rules → IsSeen items y type b.rules → KeepsGuards a b c → IsSeen items (two Difference place x y) type c.rules
  pub complement : (a c : Auto Label) → IsSeen items x type a.rules → KeepsGuards a a c → IsSeen items (one Complement place x) type c.rules
  pub minimize : (a c : Auto Label) → IsSeen items x type a.rules → KeepsGuards a a c → IsSeen items (one Minimize place x) type c.rules

pub record TransformationsAreSeen (items : List Item) (place : Pos) (x y : X) (from into : List ℕ) : Type 0 where
  pub domain : (f : Trans Label) (c : Auto Label) → IsSeenTrans items x from into f.sttr → DomainKeepsGuards (IsLabelOf items from) f c → IsSeen items (one Domain place x) from c.rules
  pub pre_image : (f : Trans Label) (a c : Auto Label) → IsSeenTrans items x from into f.sttr → IsSeen items y into a.rules → PreImageKeepsGuards (IsLabelOf items from) f a c → IsSeen items (two PreImage place x y) from c.rules
  pub restrict : (f : Trans Label) (a : Auto Label) (c : Trans Label) → IsSeenTrans items x from into f.sttr → IsSeen items y from a.rules
      → RestrictionKeepsGuards (IsLabelOf items from) f a c → KeepsMaps (IsLabelOf items from) f c → (GivesSame c.sttr → GivesSame f.sttr) → IsSeenTrans items (two Restrict place x y) from into c.sttr
  pub restrict_out : (f : Trans Label) (a : Auto Label) (c : Trans Label) → IsSeenTrans items x from into f.sttr → IsSeen items y into a.rules
      → OutRestrictionKeepsGuards (IsLabelOf items from) f a c → KeepsMaps (IsLabelOf items from) f c → (GivesSame c.sttr → GivesSame f.sttr) → IsSeenTrans items (two RestrictOut place x y) from into c.sttr
  pub compose : (last : List ℕ) (f g c : Trans Label) → IsSeenTrans items x from into f.sttr → IsSeenTrans items y into last g.sttr
      → CompositionKeepsGuards (IsLabelOf items from) f g c → ChainsMaps (IsLabelOf items from) f g c → (GivesSame c.sttr → GivesSame f.sttr × GivesSame g.sttr) → IsSeenTrans items (two Compose place x y) from last c.sttr

-- what was built for the expression of a definition
pub record DefinitionsAreSeen (items : List Item) (n : Name) (x : X) (opens : Opens items n.text x) : Type 0 where
  pub language : (type : List ℕ) (rules : List (List (Rule Label))) → IsSeen items x type rules → IsSeen items (named n) type rules
  pub transformation : (from into : List ℕ) (f : Sttr Label) → IsFrom items (named n) from into → IsSeenTrans items x from into f → IsSeenTrans items (named n) from into f

abbrev pub OperationsOnLanguagesAreSeen : Type 0
OperationsOnLanguagesAreSeen = (items : List Item) (place : Pos) (x y : X) (type : List ℕ) → LanguagesAreSeen items place x y type

abbrev pub OperationsOnTransformationsAreSeen : Type 0
OperationsOnTransformationsAreSeen = (items : List Item) (place : Pos) (x y : X) (from into : List ℕ) → TransformationsAreSeen items place x y from into

abbrev pub DefinitionsAreSeenThrough : Type 0
DefinitionsAreSeenThrough = (items : List Item) (n : Name) (x : X) (opens : Opens items n.text x) → DefinitionsAreSeen items n x opens

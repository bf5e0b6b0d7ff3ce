-- Automata and transducers that were built for expressions.
use Rattle.std.specs.Prelude.{◌≡◌, ◌↔◌, ◌<◌, ℕ, List, Some, length}
use Rattle.fast_fault.specs.declared.place.Pos.{Pos}
use Rattle.model_tree.specs.Label.{Label}
use Rattle.model_tree.specs.Tree.{LabelTree}
use Rattle.model_tree.specs.Signature.{HasType}
use Rattle.model_sta.specs.Automaton.{Rule}
use Rattle.model_sta.specs.Operations.{Auto, Has, Alike, IsUnion, IsIntersection, IsDifference, IsComplement, IsMinimal}
use Rattle.model_sttr.specs.Transducer.{run, Sttr, Trans, Gives, GivesSame}
use Rattle.model_sttr.specs.Operations.{AlikePairs, IsDomain, IsPreImage, IsRestriction, IsOutRestriction, IsComposition}
use Rattle.model_program.specs.Syntax.{Name}
use Rattle.model_grammar.specs.declared.Op1.TheVariants.{Complement, Minimize, Domain}
use Rattle.model_grammar.specs.declared.Op2.TheVariants.{Intersect, Union, Difference, PreImage, Compose, Restrict, RestrictOut}
use Rattle.model_grammar.specs.Syntax.{X, named, one, two, Item}
use Rattle.model_meaning.specs.Reached.{Opens}
use Rattle.model_meaning.specs.Meaning.{IsInLanguage, IsRelated, signature_named}
use Rattle.model_run.specs.Parts.{LanguagePart, RelationPart, IsInPart, RelatesByPart, IsOn, IsFrom, IsPart, IsRelationPart}

module _ (items : List Item) where
  -- a tree of the type with this name
  abbrev pub IsTyped : List ℕ → LabelTree → Type 0
  IsTyped type t = HasType (signature_named items (Some type)) t

  -- each state of the automaton has a language on the type of which the expression is made
  abbrev pub AreParts : X → List ℕ → List (List (Rule Label)) → Type 0
  AreParts e type rules = (q : ℕ) → q < length rules → (d : LanguagePart) × IsPart items e type d × Alike (IsTyped type) (Has rules q) (IsInPart items d)

  -- each state of the transducer has a relation between the types of which the expression is made
  abbrev pub AreRelations : X → List ℕ → List ℕ → Sttr Label → Type 0
  AreRelations e from into f = (q : ℕ) → q < length f.rules → (r : RelationPart) × IsRelationPart items e from into r × AlikePairs (IsTyped from) (Gives f (run q)) (RelatesByPart items r)

  -- The automaton was built for the expression: its language is that of the expression, and each of its states has a
  -- language of which the expression is made.
  pub record Carries (e : X) (type : List ℕ) (a : Auto Label) : Type 0 where
    pub is_on : IsOn items e type
    pub in_range : a.start < length a.rules
    pub means : Alike (IsTyped type) (Has a.rules a.start) (IsInLanguage items e)
    pub each_state : AreParts e type a.rules

  -- The transducer was built for the expression: its relation is that of the expression, and so on for each state and each
  -- state of the lookahead. What it gives has the output type, and a child is given unchanged only where the two types are one.
  pub record CarriesTrans (e : X) (from into : List ℕ) (f : Trans Label) : Type 0 where
    pub goes : IsFrom items e from into
    pub in_range : f.start < length f.sttr.rules
    pub means : AlikePairs (IsTyped from) (Gives f.sttr (run f.start)) (IsRelated items e)
    pub each_state : AreRelations e from into f.sttr
    pub each_look : AreParts e from f.sttr.looks
    pub typed : (q : ℕ) (t u : LabelTree) → q < length f.sttr.rules → IsTyped from t → Gives f.sttr (run q) t u → IsTyped into u
    pub gives_same : GivesSame f.sttr → from ≡ into

-- ---- what operations promise carries automata and transducers of operands to those of the expression

pub record LanguagesAreCarried (items : List Item) (place : Pos) (x y : X) (type : List ℕ) : Type 0 where
  pub union : (a b c : Auto Label) → Carries items x type a → Carries items y type b → IsUnion (IsTyped items type) a b c → Carries items (two Union place x y) type c
  pub intersect : (a b c : Auto Label) → Carries items x type a → Carries items y type b → IsIntersection (IsTyped items type) a b c → Carries items (two Intersect place x y) type c
  pub difference : (a b c : Auto Label) → Carries items x type a → Carries items y type b → IsDifference (IsTyped items type) a b c → Carries items (two Difference place x y) type c
  pub complement : (a c : Auto Label) → Carries items x type a → IsComplement (IsTyped items type) a c → Carries items (one Complement place x) type c
  pub minimize : (a c : Auto Label) → Carries items x type a → IsMinimal (IsTyped items type) a c → Carries items (one Minimize place x) type c

pub record TransformationsAreCarried (items : List Item) (place : Pos) (x y : X) (from into : List ℕ) : Type 0 where
  pub domain : (f : Trans Label) (c : Auto Label) → CarriesTrans items x from into f → IsDomain (IsTyped items from) f c → Carries items (one Domain place x) from c
  pub pre_image : (f : Trans Label) (a c : Auto Label) → CarriesTrans items x from into f → Carries items y into a → IsPreImage (IsTyped items from) f a c → Carries items (two PreImage place x y) from c
  pub restrict : (f : Trans Label) (a : Auto Label) (c : Trans Label) → CarriesTrans items x from into f → Carries items y from a → IsRestriction (IsTyped items from) f a c → CarriesTrans items (two Restrict place x y) from into c
  pub restrict_out : (f : Trans Label) (a : Auto Label) (c : Trans Label) → CarriesTrans items x from into f → Carries items y into a → IsOutRestriction (IsTyped items from) f a c → CarriesTrans items (two RestrictOut place x y) from into c
  pub compose : (last : List ℕ) (f g c : Trans Label) → CarriesTrans items x from into f → CarriesTrans items y into last g → IsComposition (IsTyped items from) f g c → CarriesTrans items (two Compose place x y) from last c

-- the name of a definition takes what was built for its expression, where it means the same
pub record DefinitionsAreCarried (items : List Item) (n : Name) (x : X) : Type 0 where
  pub language : (type : List ℕ) (a : Auto Label) → Opens items n.text x → IsOn items (named n) type → ((t : LabelTree) → IsInLanguage items (named n) t ↔ IsInLanguage items x t) → Carries items x type a → Carries items (named n) type a
  pub transformation : (from into : List ℕ) (f : Trans Label) → Opens items n.text x → IsFrom items (named n) from into → ((t u : LabelTree) → IsRelated items (named n) t u ↔ IsRelated items x t u)
      → CarriesTrans items x from into f → CarriesTrans items (named n) from into f

abbrev pub OperationsOnLanguagesCarry : Type 0
OperationsOnLanguagesCarry = (items : List Item) (place : Pos) (x y : X) (type : List ℕ) → LanguagesAreCarried items place x y type

abbrev pub OperationsOnTransformationsCarry : Type 0
OperationsOnTransformationsCarry = (items : List Item) (place : Pos) (x y : X) (from into : List ℕ) → TransformationsAreCarried items place x y from into

abbrev pub DefinitionsCarry : Type 0
DefinitionsCarry = (items : List Item) (n : Name) (x : X) → DefinitionsAreCarried items n x

-- What is so of meanings, whatever the program.
use Rattle.std.specs.Prelude.{◌≡◌, ◌⊎◌, ◌↔◌, ◌≤◌, ◌<◌, ℕ, zero, suc, List, [], ◌∷◌, Option, Some, None, cond, get_or, length, true}
use Rattle.std.specs.List.{Contains}
use Rattle.fast_fault.specs.declared.place.Pos.{Pos}
use Rattle.model_tree.specs.Label.{Label}
use Rattle.model_tree.specs.Tree.{LabelTree, Trees, no_trees, tree}
use Rattle.model_tree.specs.Tree as trees
use Rattle.model_tree.specs.Signature.{PlainSignature, sorts_of, ranks_of, names_of, HasSorts, HasType}
use Rattle.model_program.specs.Syntax.{Name, Demand}
use Rattle.model_grammar.specs.declared.Op1.TheVariants.{Complement, Minimize, Domain}
use Rattle.model_grammar.specs.declared.Op2.TheVariants.{Intersect, Union, Difference, PreImage, Compose, Restrict, RestrictOut}
use Rattle.model_grammar.specs.Syntax.{Expr, Out, child, call, node, Outs, no_out, and_out, Rule, OutRule, X, named, one, two, Claim, Item, equal, empty, type_check}
use Rattle.model_names.specs.Declared.{same_text, rules_of, out_rules_of}
use Rattle.model_names.specs.Kinds.{transformation, kind_of}
use Rattle.model_meaning.specs.Types.{input_of, output_of}
use Rattle.model_meaning.specs.Languages.{heads, is_in, applies}
use Rattle.model_meaning.specs.Outputs.{number_named, made_label, Use, unchanged, output_by, IsInstance}
use Rattle.model_meaning.specs.Reached.{IsNamedIn, definition_of, Opens}
use Rattle.model_meaning.specs.Meaning.{IsOf, Relates, followed, IsInLanguage, IsRelated, HasOutput, Applies, input_type, output_type}
use Rattle.model_meaning.specs.Truth.{IsTrue, Shows}

-- Operations on languages are those on sets of trees. A domain has the trees that have an output, and a pre-image those that
-- have one in the language. A composition relates exactly where there is a middle tree, and a restriction exactly those pairs
-- whose input or output is in the language.
pub record AreOperations (items : List Item) (place : Pos) (x y : X) : Type 0 where
  pub intersect : (t : LabelTree) → IsInLanguage items (two Intersect place x y) t ↔ (IsInLanguage items x t × IsInLanguage items y t)
  pub union : (t : LabelTree) → IsInLanguage items (two Union place x y) t ↔ (IsInLanguage items x t ⊎ IsInLanguage items y t)
  pub difference : (t : LabelTree) → IsInLanguage items (two Difference place x y) t ↔ (IsInLanguage items x t × ¬ (IsInLanguage items y t))
  pub complement : (t : LabelTree) → IsInLanguage items (one Complement place x) t ↔ (¬ (IsInLanguage items x t))
  pub minimize : (t : LabelTree) → IsInLanguage items (one Minimize place x) t ↔ IsInLanguage items x t
  pub pre_image : (t : LabelTree) → IsInLanguage items (two PreImage place x y) t ↔ ((u : LabelTree) × IsRelated items x t u × IsInLanguage items y u)
  pub domain : (t : LabelTree) → IsInLanguage items (one Domain place x) t ↔ ((u : LabelTree) × IsRelated items x t u)
  pub compose : (t w : LabelTree) → IsRelated items (two Compose place x y) t w ↔ ((u : LabelTree) × IsRelated items x t u × IsRelated items y u w)
  pub restrict : (t u : LabelTree) → IsRelated items (two Restrict place x y) t u ↔ (IsRelated items x t u × IsInLanguage items y t)
  pub restrict_out : (t u : LabelTree) → IsRelated items (two RestrictOut place x y) t u ↔ (IsRelated items x t u × IsInLanguage items y u)

-- a tree that shows that a statement is false does so
abbrev pub ShownIsFalse : Type 0
ShownIsFalse = (items : List Item) (claim : Claim) (t : LabelTree) → Shows items claim t → ¬ (IsTrue items claim)

-- A statement of which no tree shows that it is false is true, where each tree is in each of its languages or not.
abbrev pub IsDecided : List Item → X → Type 0
IsDecided items x = (t : LabelTree) → IsInLanguage items x t ⊎ ¬ (IsInLanguage items x t)

pub record AreTrueWhereNotShown : Type 0 where
  pub equal_languages : (items : List Item) (x y : X) → IsDecided items x → IsDecided items y → ((t : LabelTree) → ¬ (Shows items (equal x y) t)) → IsTrue items (equal x y)
  pub empty_ones : (items : List Item) (x : X) → ((t : LabelTree) → ¬ (Shows items (empty x) t)) → IsTrue items (empty x)
  pub type_checks : (items : List Item) (x f y : X) → IsDecided items y → ((t : LabelTree) → ¬ (Shows items (type_check x f y) t)) → IsTrue items (type_check x f y)

-- ---- names

module _ (items : List Item) where
  -- each child is in every language that is demanded of its variable
  abbrev pub AreDemanded : Trees Label → List Name → List Demand → Type 0
  AreDemanded no_trees vars given = Unit {0}
  AreDemanded (tree t ts) [] given = Unit {0}
  AreDemanded (tree t ts) (v ∷ vars) given = ((d : Demand) → Contains given d → same_text d.child.text v.text ≡ true → IsInLanguage items (named d.language) t) × AreDemanded ts vars given

  -- the child that the first variable with this name stands for
  abbrev pub child_named : List ℕ → List Name → Trees Label → Option LabelTree
  child_named y vars no_trees = None
  child_named y [] (tree t ts) = None
  child_named y (v ∷ vars) (tree t ts) = cond (same_text v.text y) (Some t) (child_named y vars ts)

  -- what a use of a tree may be
  abbrev pub IsUse : Use → LabelTree → LabelTree → Type 0
  IsUse unchanged t u = u ≡ t
  IsUse (output_by q) t u = HasOutput items q t u

  -- Names that are no definitions mean what their rules say.
  pub record AreByRules : Type 0 where
    pub applies : (signature : PlainSignature) (r : Rule) (c : ℕ) (l : Label) (ts : Trees Label) → Applies items signature r (trees.node c l ts) ↔ ((heads signature r c l ≡ true) × AreDemanded ts r.vars r.given)
    pub by_rules : (n : Name) → definition_of items n.text ≡ None → (t : LabelTree) → IsInLanguage items (named n) t ↔ ((r : Rule) × Contains (rules_of items n.text) r × Applies items (input_of items n.text) r t)
    pub by_output_rules : (n : Name) → definition_of items n.text ≡ None → (c : ℕ) (l : Label) (ts : Trees Label) (u : LabelTree)
        → IsRelated items (named n) (trees.node c l ts) u
        ↔ ((r : OutRule) × Contains (out_rules_of items n.text) r × Applies items (input_of items n.text) r.rule (trees.node c l ts)
        × IsInstance (input_of items n.text) (output_of items n.text) (λ how y v. (t : LabelTree) × (child_named y r.rule.vars ts ≡ Some t) × IsUse how t v) l r.out u)

-- Where no rule demands a definition, the tests tell what is in a language, and where a rule applies.
pub record DemandNoDefinition (items : List Item) : Type 0 where
  pub in_languages : (n : List ℕ) (r : Rule) (d : Demand) → Contains (rules_of items n) r → Contains r.given d → definition_of items d.language.text ≡ None

pub record TestsAgree (items : List Item) : Type 0 where
  pub is_in : (n : Name) → definition_of items n.text ≡ None → (t : LabelTree) → IsInLanguage items (named n) t ↔ is_in items t n.text ≡ true
  pub applies : (signature : PlainSignature) (r : Rule) → ((d : Demand) → Contains r.given d → definition_of items d.language.text ≡ None) → (t : LabelTree) → Applies items signature r t ↔ applies items signature r t ≡ true

abbrev pub TestsAgreeWithMeaning : Type 0
TestsAgreeWithMeaning = (items : List Item) → DemandNoDefinition items → TestsAgree items

-- ---- definitions

-- the definitions on which the expression depends are inside each other no more than so deep
abbrev pub IsNoDeeper : List Item → ℕ → X → Type 0
IsNoDeeper items zero x = (n : List ℕ) (y : X) → IsNamedIn x n → Opens items n y → ⊥
IsNoDeeper items (suc k) x = (n : List ℕ) (y : X) → IsNamedIn x n → Opens items n y → IsNoDeeper items k y

-- what it means is the same however much deeper definitions are followed
pub record IsSettled (items : List Item) (k : ℕ) (x : X) : Type 0 where
  pub language : (m n : ℕ) → k ≤ m → k ≤ n → (t : LabelTree) → IsOf items (followed items m) x t → IsOf items (followed items n) x t
  pub relation : (m n : ℕ) → k ≤ m → k ≤ n → (t u : LabelTree) → Relates items (followed items m) x t u → Relates items (followed items n) x t u

abbrev pub MeaningsSettle : Type 0
MeaningsSettle = (items : List Item) (k : ℕ) (x : X) → IsNoDeeper items k x → IsSettled items k x

-- the name means what the expression does
pub record StandsFor (items : List Item) (n : Name) (x : X) : Type 0 where
  pub language : (t : LabelTree) → IsInLanguage items (named n) t ↔ IsInLanguage items x t
  pub relation : (t u : LabelTree) → IsRelated items (named n) t u ↔ IsRelated items x t u

-- The name of a definition whose expression doesn't depend on itself stands for the expression.
abbrev pub DefinitionsStandForExpressions : Type 0
DefinitionsStandForExpressions = (items : List Item) (n : Name) (x : X) (k : ℕ) → definition_of items n.text ≡ Some x → IsNoDeeper items k x → k < length items → StandsFor items n x

-- ---- typed outputs

abbrev pub part_count : Outs → ℕ
part_count no_out = 0
part_count (and_out out outs) = suc (part_count outs)

-- the name of a transformation between these types
pub record IsBetween (items : List Item) (from into : PlainSignature) (n : Name) : Type 0 where
  pub kind : kind_of items (named n) ≡ Some transformation
  pub begins : input_of items n.text ≡ from
  pub ends : output_of items n.text ≡ into

module _ (items : List Item) (from into : PlainSignature) where
  -- expressions make labels of the second type of labels of the first
  abbrev pub MakeSorts : List Expr → Type 0
  MakeSorts labels = (l : Label) → HasSorts (sorts_of from) l → HasSorts (sorts_of into) (made_label from.fields into.fields labels l)

  abbrev mutual
    -- A term of a rule from trees of one type to trees of another: a child is given unchanged where they are one type, a
    -- called transformation has the same types, and a constructor has as many parts as its rank is, and labels of the right sorts.
    pub IsTermTyped : Out → Type 0
    IsTermTyped (child y) = from ≡ into
    IsTermTyped (call q y) = IsBetween items from into q
    IsTermTyped (node name labels outs) =
        MakeSorts labels × ((c : ℕ) → number_named (names_of into) name.text ≡ Some c → part_count outs ≡ get_or (ranks_of into) c 0) × AreTermsTyped outs

    pub AreTermsTyped : Outs → Type 0
    AreTermsTyped no_out = Unit {0}
    AreTermsTyped (and_out out outs) = IsTermTyped out × AreTermsTyped outs

-- the parts of an expression are transformations whose types fit together
abbrev pub FitTogether : List Item → X → Type 0
FitTogether items (named n) = kind_of items (named n) ≡ Some transformation
FitTogether items (two Compose place x y) = (output_type items x ≡ input_type items y) × FitTogether items x × FitTogether items y
FitTogether items (two Restrict place x y) = FitTogether items x
FitTogether items (two RestrictOut place x y) = FitTogether items x
FitTogether items e = ⊥

-- The terms of rules are typed, and expressions of definitions of transformations have their types.
pub record AreRulesTyped (items : List Item) : Type 0 where
  pub terms : (q : List ℕ) (r : OutRule) → Contains (out_rules_of items q) r → IsTermTyped items (input_of items q) (output_of items q) r.out
  pub definitions : (n : Name) (x : X) → kind_of items (named n) ≡ Some transformation → definition_of items n.text ≡ Some x
      → FitTogether items x × (input_type items x ≡ input_of items n.text) × (output_type items x ≡ output_of items n.text)

-- Then the outputs of typed trees have the output type.
pub record AreOutputsTyped : Type 0 where
  pub of_names : (items : List Item) → AreRulesTyped items → (n : Name) → kind_of items (named n) ≡ Some transformation → (t u : LabelTree) → HasType (input_of items n.text) t → HasOutput items n.text t u → HasType (output_of items n.text) u
  pub of_expressions : (items : List Item) → AreRulesTyped items → (e : X) → FitTogether items e → (t u : LabelTree) → HasType (input_type items e) t → IsRelated items e t u → HasType (output_type items e) u
